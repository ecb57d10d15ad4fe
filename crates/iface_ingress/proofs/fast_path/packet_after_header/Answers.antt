use Rattle.std.proofs.Common.{List, ℕ, sym, ap, ◌∙◌, subst}
use Rattle.ip_wire.specs.Ethernet as Ethernet
use Rattle.iface_ingress.proofs.fast_path.packet_after_header.Goals as goal

pub returns-in-Ipv4 : goal.returns-in-Ipv4
returns-in-Ipv4 c =
    let link = c.in-Ok.header in (
      record { format = subst (λ (b : List ℕ). Ethernet.IsEthernet b link) c.new_unchecked-frame.ensures c.in-Ok.ensures.found; carried_is = c.in-Ipv4.is },
      sym c.if-is_fast_frame.ensures,
      c.payload.ensures ∙ ap Ethernet.payload_of c.new_unchecked-frame.ensures,
    )
