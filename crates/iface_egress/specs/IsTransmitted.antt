-- What becomes of a packet on egress, at a device that may refuse a frame (RFC 791, section 3.2; RFC 8200, section 4.5;
-- RFC 1122, section 2.3.2; RFC 4861, section 7.2.2).
use Rattle.std.specs.Prelude.{◌≡◌, ◌&&◌, ℕ, Bool, true, false, List, Option, Some}
use Rattle.net_base.specs.Device.{Move}
use Rattle.ip_wire.specs.HardwareAddress.{HardwareAddress}
use Rattle.ip_wire.specs.IpProtocol.{IpProtocol}
use Rattle.ip_wire.specs.IpProtocol.TheVariants as Protocol
use Rattle.ip_wire.specs.IpRepr.{IpRepr}
use Rattle.ip_wire.specs.IpRepr.TheVariants as Ip
use Rattle.ip_wire.specs.Ipv4Repr.{Ipv4Repr}
use Rattle.socket_context.specs.Packet.{PacketValue}
use Rattle.iface_tables.specs.Inner.{InnerValue, with_next_ident, with_request}
use Rattle.iface_egress.specs.Emits.{Emits}
use Rattle.iface_egress.specs.Departure.{Departure, Asks, Whole, frame_from, len_from, target_of}
use Rattle.iface_egress.specs.Fragments.{LeftValue, begun, departure_from, left_from}
use Rattle.iface_egress.specs.declared.frame.CutHeader.{CutHeader}
use Rattle.iface_egress.specs.declared.frame.CutHeader.TheVariants as Cut
use Rattle.iface_egress.specs.declared.frame.NeighborQuery.{NeighborQuery}
use Rattle.iface_egress.specs.declared.egress_path.Sent.{Sent}
use Rattle.iface_egress.specs.declared.egress_path.Sent.TheVariants as Outcome
use Rattle.iface_egress.specs.declared.plan.Plan.{Plan}
use Rattle.iface_egress.specs.declared.plan.Plan.TheVariants as Way

-- THE FRAME OF A DEPARTURE

abbrev pub frame_of : InnerValue → Departure → List ℕ
frame_of i d = frame_from i.hardware i.checksums d

abbrev pub frame_len_of : InnerValue → Departure → ℕ
frame_len_of i d = len_from i.hardware d

abbrev pub Departs : {D : Type 0} → (D → Move → D → Type 0) → D → InnerValue → Departure → Bool → D → Type 0
Departs moves old i d gone new = Emits moves old (frame_of i d) (frame_len_of i d) gone new

-- NUMBERS: every IPv4 datagram takes the next identification, and may be cut, but for TCP's segments on a network of many; one of IPv6 takes it
-- where it is cut

abbrev pub is_tcp : IpProtocol → Bool
is_tcp Protocol.Tcp = true
is_tcp _ = false

-- a path that can't carry a segment says so, in place of cutting it (RFC 1191, section 3; RFC 9293, section 3.7.2)
abbrev pub is_never_cut : InnerValue → Ipv4Repr → Bool
is_never_cut i v = i.host_requirements && is_tcp v.next_header

abbrev pub numbered_v4 : InnerValue → Ipv4Repr → Ipv4Repr
numbered_v4 i v = record v { ident = i.ident; dont_frag = is_never_cut i v }

abbrev pub numbered_header : InnerValue → IpRepr → IpRepr
numbered_header i (Ip.Ipv4 v) = Ip.Ipv4 (numbered_v4 i v)
numbered_header i (Ip.Ipv6 v) = Ip.Ipv6 v

abbrev pub numbered : InnerValue → PacketValue → PacketValue
numbered i p = record p { header = numbered_header i p.header }

-- the host after a packet that went whole
abbrev pub after_header : IpRepr → InnerValue → InnerValue
after_header (Ip.Ipv4 v) i = with_next_ident i
after_header (Ip.Ipv6 v) i = i

-- a datagram of which the first fragment is to go
abbrev pub cut_header : InnerValue → IpRepr → CutHeader
cut_header i (Ip.Ipv4 v) = Cut.Ipv4 (numbered_v4 i v)
cut_header i (Ip.Ipv6 v) = Cut.Ipv6 v i.ident

abbrev pub cut_of : InnerValue → HardwareAddress → PacketValue → LeftValue
cut_of i to p = begun i.checksums to (cut_header i p.header) (numbered i p)

-- THE WAY OUT

-- device, host and datagram that is half sent
abbrev pub Stays : {D : Type 0} → D → InnerValue → Option LeftValue → D → InnerValue → Option LeftValue → Type 0
Stays old i l new i' l' = (new ≡ old) × (i' ≡ i) × (l' ≡ l)

-- a request that the device took counts, and begins the silence
abbrev pub Asked : {D : Type 0} → (D → Move → D → Type 0) → D → InnerValue → NeighborQuery → Sent → D → InnerValue → Type 0
Asked moves old i q Outcome.Waits new i' = Departs moves old i (Asks q) true new × (i' ≡ with_request i (target_of q))
Asked moves old i q Outcome.Refused new i' = Departs moves old i (Asks q) false new × (i' ≡ i)
Asked moves old i q _ new i' = ⊥

-- a packet whose frame the device took has its number
abbrev pub WasSent : {D : Type 0} → (D → Move → D → Type 0) → D → InnerValue → IpRepr → Departure → Sent → D → InnerValue → Type 0
WasSent moves old i header d Outcome.Gone new i' = Departs moves old i d true new × (i' ≡ after_header header i)
WasSent moves old i header d Outcome.Refused new i' = Departs moves old i d false new × (i' ≡ i)
WasSent moves old i header d _ new i' = ⊥

-- a datagram whose first fragment the device took has its number, and the rest is left
abbrev pub WasCut : {D : Type 0} → (D → Move → D → Type 0) → D → InnerValue → Option LeftValue → LeftValue → Sent → D → InnerValue → Option LeftValue → Type 0
WasCut moves old i l c Outcome.Gone new i' l' =
    Departs moves old i (departure_from i c) true new × (i' ≡ with_next_ident i) × (l' ≡ left_from i c)
WasCut moves old i l c Outcome.Refused new i' l' = Departs moves old i (departure_from i c) false new × (i' ≡ i) × (l' ≡ l)
WasCut moves old i l c _ new i' l' = ⊥

-- A refused frame changes nothing but the device. What is dropped, waits or finds the host busy asks nothing of the device.
abbrev pub IsTransmitted : {D : Type 0} → (D → Move → D → Type 0) → D → InnerValue → Option LeftValue → PacketValue → Plan → Sent → D → InnerValue →
    Option LeftValue → Type 0
IsTransmitted moves old i l p Way.Drop sent new i' l' = (sent ≡ Outcome.Dropped) × Stays old i l new i' l'
IsTransmitted moves old i l p Way.NoRoute sent new i' l' = (sent ≡ Outcome.Waits) × Stays old i l new i' l'
IsTransmitted moves old i l p Way.Wait sent new i' l' = (sent ≡ Outcome.Waits) × Stays old i l new i' l'
IsTransmitted moves old i l p Way.Busy sent new i' l' = (sent ≡ Outcome.Busy) × Stays old i l new i' l'
IsTransmitted moves old i l p (Way.Ask neighbor_query) sent new i' l' = Asked moves old i neighbor_query sent new i' × (l' ≡ l)
IsTransmitted moves old i l p (Way.Go to) sent new i' l' = WasSent moves old i p.header (Whole to (numbered i p)) sent new i' × (l' ≡ l)
IsTransmitted moves old i l p (Way.Cut to) sent new i' l' = WasCut moves old i l (cut_of i to p) sent new i' l'

-- the next fragment of a datagram that is half sent, which has its number already
abbrev pub FragmentIsTransmitted : {D : Type 0} → (D → Move → D → Type 0) → D → InnerValue → LeftValue → Bool → D → Option LeftValue → Type 0
FragmentIsTransmitted moves old i l true new l' = Departs moves old i (departure_from i l) true new × (l' ≡ left_from i l)
FragmentIsTransmitted moves old i l false new l' = Departs moves old i (departure_from i l) false new × (l' ≡ Some l)
