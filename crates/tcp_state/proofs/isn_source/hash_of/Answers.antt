use Rattle.std.proofs.Common.{◌≡◌, List, ℕ, sym, ap, ◌∙◌}
use Rattle.std.specs.Int.{w16, to_be_bytes}
use Rattle.tcp_state.specs.Isn.{message_by}
use Rattle.tcp_state.specs.SipHash.{hash_of_words, sip_hash}
use Rattle.tcp_state.specs.declared.endpoints.AddressPair.{AddressPair}
use Rattle.tcp_state.specs.declared.endpoints.AddressPair.TheVariants as Pair
use Rattle.tcp_state.proofs.isn_source.hash_of.Goals as goal

pub returns-in-Ipv4 : goal.returns-in-Ipv4
returns-in-Ipv4 c =
    let is = c.in-Ipv4.is in
    let local_is = c.in-Ipv4.local-is in
    let remote_is = c.in-Ipv4.remote-is in
    let addresses : c.args.pair.now.addresses ≡ Pair.Ipv4 c.in-Ipv4.local c.in-Ipv4.remote = cc in
    c.sip_hash.ensures
    ∙ (ap (λ (words : List ℕ). hash_of_words c.args.key words) c.words_v4.ensures
    ∙ ap (λ (a : AddressPair). sip_hash c.args.key (message_by a (to_be_bytes w16 c.args.pair.now.local_port) (to_be_bytes w16 c.args.pair.now.remote_port)))
    (sym addresses))

pub returns-in-Ipv6 : goal.returns-in-Ipv6
returns-in-Ipv6 c =
    let is = c.in-Ipv6.is in
    let local_is = c.in-Ipv6.local-is in
    let remote_is = c.in-Ipv6.remote-is in
    let addresses : c.args.pair.now.addresses ≡ Pair.Ipv6 c.in-Ipv6.local c.in-Ipv6.remote = cc in
    c.sip_hash-in-Ipv6.ensures
    ∙ (ap (λ (words : List ℕ). hash_of_words c.args.key words) c.words_v6.ensures
    ∙ ap (λ (a : AddressPair). sip_hash c.args.key (message_by a (to_be_bytes w16 c.args.pair.now.local_port) (to_be_bytes w16 c.args.pair.now.remote_port)))
    (sym addresses))
