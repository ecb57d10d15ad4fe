use Rattle.std.proofs.Common.{List, ℕ, sym, ap, ◌∙◌, subst}
use Rattle.ip_wire.specs.Ipv6 as Ipv6
use Rattle.iface_ingress.proofs.Readers.{refused-v6, measured-v6}
use Rattle.iface_ingress.proofs.incoming.read_ipv6.Goals as goal

pub returns-in_default-clause-content : goal.returns-in_default-clause-content
returns-in_default-clause-content c =
    rw c.requires.none (refused-v6 c.args.link c.args.bytes.now
    (λ h is. c.in_default.not-Ok h (c.parse.ensures.only h (subst (λ (b : List ℕ). Ipv6.IsIpv6 b h) (sym c.new_unchecked-packet.ensures) is))))

pub returns-clause-measured : goal.returns-clause-measured
returns-clause-measured c =
    measured-v6 c.args.bytes.now c.payload.result.now c.in-Ok.header (λ i. (c.type_inv.bytes i).fits)
    (subst (λ (b : List ℕ). Ipv6.IsIpv6 b c.in-Ok.header) c.new_unchecked-packet.ensures c.in-Ok.ensures.found)
    (c.payload.ensures ∙ ap Ipv6.payload_of c.new_unchecked-packet.ensures)
