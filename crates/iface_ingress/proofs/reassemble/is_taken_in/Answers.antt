use Rattle.std.proofs.Common.{sym, ap, ◌∙◌}
use Rattle.iface_ingress.specs.Incoming.{incoming_value}
use Rattle.iface_ingress.specs.Reassembled.{is_taken_in}
use Rattle.iface_ingress.specs.declared.incoming.Incoming.{Incoming}
use Rattle.iface_ingress.proofs.reassemble.is_taken_in.Goals as goal

pub returns-in-Ipv4 : goal.returns-in-Ipv4
returns-in-Ipv4 c =
    c.is_ipv4_taken_in.ensures ∙ sym (ap (λ (x : Incoming). is_taken_in c.args.inner.now (incoming_value x)) c.in-Ipv4.is)

pub returns-in-Ipv6 : goal.returns-in-Ipv6
returns-in-Ipv6 c =
    c.is_ipv6_taken_in.ensures ∙ sym (ap (λ (x : Incoming). is_taken_in c.args.inner.now (incoming_value x)) c.in-Ipv6.is)
