-- A datagram's first fragment on egress.
use Rattle.std.proofs.Common.{◌≡◌, true, Option, refl, sym, subst, ap, ◌∙◌}
use Rattle.net_base.specs.Device.{Move}
use Rattle.ip_wire.specs.HardwareAddress.{HardwareAddress}
use Rattle.ip_wire.specs.Ip.{destination_of}
use Rattle.ip_wire.specs.IpRepr.{IpRepr}
use Rattle.ip_wire.specs.IpRepr.TheVariants as Ip
use Rattle.socket_context.specs.Packet.{PacketValue}
use Rattle.iface_tables.specs.Inner.{InnerValue}
use Rattle.iface_egress.specs.Emits.{Emits}
use Rattle.iface_egress.specs.Departure.{destination_in, fragment_frame, fragment_frame_len}
use Rattle.iface_egress.specs.Fragments.{LeftValue, begun, next_fragment, left_after, departure_from, left_from}
use Rattle.iface_egress.specs.IsTransmitted.{Departs, cut_header, numbered, cut_of}
use Rattle.iface_egress.specs.declared.fragmenter.Cut.{Cut}
use Rattle.iface_egress.specs.declared.frame.CutHeader.{CutHeader}
use Rattle.iface_egress.proofs.FragmentOut.{cut_of_host}

abbrev FirstSent : {D : Type 0} → (D → Move → D → Type 0) → D → D → HardwareAddress → Option LeftValue → Cut → CutHeader → PacketValue → Type 0
FirstSent moves old new to left cut header p =
    Emits moves old (fragment_frame cut.checksums cut.from to header (next_fragment cut.mtu (begun cut.checksums to header p)))
    (fragment_frame_len cut.from to header (next_fragment cut.mtu (begun cut.checksums to header p))) true new
    × (left ≡ left_after cut.mtu (begun cut.checksums to header p))

same_destination : (i : InnerValue) (h : IpRepr) → destination_in (cut_header i h) ≡ destination_of h
same_destination i (Ip.Ipv4 v) = refl
same_destination i (Ip.Ipv6 v) = refl

pub first_out : {D : Type 0} (moves : D → Move → D → Type 0) (old new : D) (i : InnerValue) (to : HardwareAddress) (header : CutHeader) (p q : PacketValue)
    (cut : Cut) (left : Option LeftValue) → cut ≡ cut_of_host i (destination_of p.header) → header ≡ cut_header i p.header → q ≡ numbered i p
    → Emits moves old (fragment_frame cut.checksums cut.from to header (next_fragment cut.mtu (begun cut.checksums to header q)))
    (fragment_frame_len cut.from to header (next_fragment cut.mtu (begun cut.checksums to header q))) true new
    → left ≡ left_after cut.mtu (begun cut.checksums to header q)
    → Departs moves old i (departure_from i (cut_of i to p)) true new × (left ≡ left_from i (cut_of i to p))
first_out moves old new i to header p q cut left same numbers packet sent rest =
    let host = cut_of_host i (destination_in (cut_header i p.header)) in
    let same_host : cut ≡ host = same ∙ ap (cut_of_host i) (sym (same_destination i p.header)) in
    subst (λ (x : PacketValue). FirstSent moves old new to left host (cut_header i p.header) x) packet
    (subst (λ (h : CutHeader). FirstSent moves old new to left host h q) numbers
    (subst (λ (k : Cut). FirstSent moves old new to left k header q) same_host (sent, rest)))
