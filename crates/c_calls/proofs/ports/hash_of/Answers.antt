use Rattle.std.proofs.Common.{◌≡◌, sym, ap, ◌∙◌}
use Rattle.ip_wire.specs.IpAddress.{IpAddress}
use Rattle.ip_wire.specs.IpAddress.TheVariants as Ip
use Rattle.tcp_state.specs.SipHash.{hash_of_words}
use Rattle.c_calls.specs.Ports.{words_of}
use Rattle.c_calls.proofs.ports.hash_of.Goals as goal

pub returns-in-Ipv4 : goal.returns-in-Ipv4
returns-in-Ipv4 c =
    let is : c.args.remote.now.addr ≡ Ip.Ipv4 c.in-Ipv4.addr = cc in
    c.hash_v4.ensures ∙ ap (λ (a : IpAddress). hash_of_words c.args.key (words_of a c.args.remote.now.port)) (sym is)

pub returns-in-Ipv6 : goal.returns-in-Ipv6
returns-in-Ipv6 c =
    let is : c.args.remote.now.addr ≡ Ip.Ipv6 c.in-Ipv6.addr = cc in
    c.hash_v6.ensures ∙ ap (λ (a : IpAddress). hash_of_words c.args.key (words_of a c.args.remote.now.port)) (sym is)
