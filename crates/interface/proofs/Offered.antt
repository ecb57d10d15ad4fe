-- An offered packet on its way to another host.
use Rattle.std.proofs.Common.{◌≡◌, ℕ, ◌+◌, ◌^◌, ◌<◌, ◌≤◌, Bool, true, false, cond, length, drop, Option, Some, None, IfSome, refl, subst, length-take}
use Rattle.std.proofs.Common.{length-drop, arith}
use Rattle.std.specs.Prelude.{nat_lt}
use Rattle.std.proofs.lemmas.Bool.Decides.{nat_tests}
use Rattle.net_base.specs.Device.{Move}
use Rattle.iface_ingress.specs.HardwareAddress.{HardwareAddress}
use Rattle.wire_ip.specs.Ip as Ips
use Rattle.wire_ip.specs.declared.ip.repr.IpRepr.{IpRepr}
use Rattle.wire_ip.specs.declared.ip.repr.IpRepr.TheVariants as Ip
use Rattle.wire_ip.specs.declared.ipv4.repr.Ipv4Repr.{Ipv4Repr}
use Rattle.socket_context.specs.Packet.{PacketValue, PayloadValue, ControlV4, ControlV6, Bytes, Datagram, Segment, packet_of, PayloadFits, IsSendable}
use Rattle.socket_context.specs.Packet.{payload_written}
use Rattle.iface_egress.specs.Inner.{InnerValue}
use Rattle.iface_ingress.specs.Sent.{CanBeRead, AreSealed}
use Rattle.iface_ingress.proofs.FramesArrive.{payload-brought}
use Rattle.iface_egress.specs.Departure.{Departure, Asks, Whole, fragment_header_len}
use Rattle.iface_egress.specs.Fragments.{LeftValue, fragment_room, next_fragment, departure_from, cut_mtu, left_after}
use Rattle.iface_egress.specs.IsTransmitted.{IsTransmitted, FragmentIsTransmitted, Departs, numbered_v4, numbered_header, numbered, cut_header, cut_of}
use Rattle.iface_egress.specs.Plan.{longest_cut, total_len, has_extensions, plan_of, IsPacket}
use Rattle.iface_egress.specs.declared.frame.NeighborQuery.{NeighborQuery}
use Rattle.iface_egress.specs.declared.plan.Plan.{Plan}
use Rattle.iface_egress.specs.declared.plan.Plan.TheVariants as Way
use Rattle.iface_egress.specs.declared.egress_path.Sent.TheVariants as Outcome
use Rattle.iface_egress.proofs.Planned.{plan_cases}
use Rattle.interface.specs.Delivered.{CanArrive, IsCutValue, IsWritable, IsWritableFragment}
use Rattle.interface.specs.TransmittedFrame.{Reader, CanRead, Arrives, IsCarriedTo, HasWidths, IsOffered, IsHalfSent}
use Rattle.interface.proofs.Arrives.{arrives, length-written}

-- THE NUMBER: it stands in the header alone

fits_v4 : (i : InnerValue) (v : Ipv4Repr) (x : PayloadValue) → PayloadFits (Ip.Ipv4 v) x → PayloadFits (Ip.Ipv4 (numbered_v4 i v)) x
fits_v4 i v (ControlV4 message bytes) fits = fits
fits_v4 i v (ControlV6 message bytes) fits = absurd fits
fits_v4 i v (Bytes bytes) fits = tt
fits_v4 i v (Datagram udp bytes) fits = fits
fits_v4 i v (Segment tcp bytes) fits = fits

writable : (i : InnerValue) (h : IpRepr) (x : PayloadValue) → i.ident < 2 ^ 16 → IsWritable (packet_of h x) → IsWritable (numbered i (packet_of h x))
writable i (Ip.Ipv4 v) x small w = record {
  sendable = record { header = w.sendable.header; payload = fits_v4 i v x w.sendable.payload; len = w.sendable.len };
  header = record { source = w.header.source; destination = w.header.destination; identification = small; protocol = w.header.protocol; hop_limit = w.header.hop_limit };
  payload = w.payload;
}
writable i (Ip.Ipv6 v) x small w = w

pub readable : (i : InnerValue) (h : IpRepr) (x : PayloadValue) → CanBeRead h x → CanBeRead (numbered_header i h) x
readable i (Ip.Ipv4 v) (ControlV4 message bytes) can = can
readable i (Ip.Ipv4 v) (ControlV6 message bytes) can = can
readable i (Ip.Ipv4 v) (Bytes bytes) can = can
readable i (Ip.Ipv4 v) (Datagram udp bytes) can = can
readable i (Ip.Ipv4 v) (Segment tcp bytes) can = can
readable i (Ip.Ipv6 v) x can = can

-- THE PLAN

sendable : (h : IpRepr) (x : PayloadValue) → IsPacket (packet_of h x) → total_len h ≤ 65535 → IsSendable (packet_of h x)
sendable (Ip.Ipv4 v) x is short = record { header = omega arith; payload = is.payload (omega arith); len = is.len }
sendable (Ip.Ipv6 v) x is short = record { header = omega arith; payload = is.payload (omega arith); len = is.len }

-- what can be written where its length fits
pub writes : (i : InnerValue) (p : PacketValue) → HasWidths i → IsOffered p → total_len p.header ≤ 65535 → IsWritable (numbered i p)
writes i p wide offered short =
    writable i p.header p.payload wide.ident (record {
      sendable = sendable p.header p.payload offered.packet short;
      header = offered.header;
      payload =
          offered.payload;
    })

pub go_short : (i : InnerValue) (busy : Bool) (h : IpRepr) (to : HardwareAddress) → plan_of i busy h ≡ Way.Go to → total_len h ≤ i.mtu
go_short i busy h to =
    plan_cases i busy h (λ plan. plan ≡ Way.Go to → total_len h ≤ i.mtu)
    (λ is. absurd cc) (λ is. absurd cc) (λ is. absurd cc) (λ is. absurd cc)
    (λ q may from is. absurd cc)
    (λ other short is. short)
    (λ other long short bare idle is. absurd cc)

-- what is cut is no longer than a datagram that is, and has no extension headers
pub cut_short : (i : InnerValue) (busy : Bool) (h : IpRepr) (to : HardwareAddress) → plan_of i busy h ≡ Way.Cut to → (total_len h ≤ longest_cut) ×
    (has_extensions h ≡ false)
cut_short i busy h to =
    plan_cases i busy h (λ plan. plan ≡ Way.Cut to → (total_len h ≤ longest_cut) × (has_extensions h ≡ false))
    (λ is. absurd cc) (λ is. absurd cc) (λ is. absurd cc) (λ is. absurd cc)
    (λ q may from is. absurd cc)
    (λ other short is. absurd cc)
    (λ other long short bare idle is. (short, bare))

-- THE DEVICE

taken : {D : Type 0} (moves : D → Move → D → Type 0) (old new : D) (i : InnerValue) (d : Departure) (reader : Reader) → Departs moves old i d true new →
    AreSealed i.checksums reader.checksums → CanArrive i.hardware reader.hardware d
    → Arrives moves old i d reader new
taken moves old new i d reader departs sealed can =
    record { taken = departs.0; read = λ padding. arrives i reader.hardware reader.checksums d padding sealed can }

pub whole : {D : Type 0} (moves : D → Move → D →
    Type 0) (old new : D) (i i' : InnerValue) (l l' : Option LeftValue) (busy : Bool) (p : PacketValue) (to : HardwareAddress) (reader : Reader) →
    HasWidths i → IsOffered p
    → plan_of i busy p.header ≡ Way.Go to → IsTransmitted moves old i l p (plan_of i busy p.header) Outcome.Gone new i' l' → CanRead i to reader →
    Arrives moves old i (Whole to (numbered i p)) reader new
whole moves old new i i' l l' busy p to reader wide offered plan goes can =
    let was_sent : IsTransmitted moves old i l p (Way.Go to) Outcome.Gone new i' l' = subst (λ (x : Plan). IsTransmitted moves old i l p x Outcome.Gone new i' l') plan goes in
    let short : total_len p.header ≤ i.mtu = go_short i busy p.header to plan in
    taken moves old new i (Whole to (numbered i p)) reader was_sent.0.0 can.sealed (can.medium, writes i p wide offered (omega (arith, short, wide.mtu)))

pub carried : (i : InnerValue) (busy : Bool) (p : PacketValue) (to : HardwareAddress) (reader : Reader) → HasWidths i → IsOffered p →
    plan_of i busy p.header ≡ Way.Go to → CanRead i to reader → CanBeRead p.header p.payload
    → IsCarriedTo i (numbered i p) reader
carried i busy p to reader wide offered plan can reads =
    let short : total_len p.header ≤ i.mtu = go_short i busy p.header to plan in
    let w = writes i p wide offered (omega (arith, short, wide.mtu)) in
    payload-brought i.checksums reader.checksums (numbered_header i p.header) p.payload w.sendable.payload (readable i p.header p.payload reads) can.sealed

-- PIECES

later_fragment : (mtu : ℕ) (l : LeftValue) → IsHalfSent l → IsWritableFragment l.header (next_fragment mtu l)
later_fragment mtu l half = record {
  header_is = half.header_is;
  short = omega (arith, half.short, length-take {A = ℕ} (fragment_room l.header mtu) (drop l.at l.payload), length-drop {A = ℕ} l.at l.payload);
  within = omega (arith, half.short, half.within);
  unit = half.unit;
}

pub later : {D : Type 0} (moves : D → Move → D → Type 0) (old new : D) (i : InnerValue) (l : LeftValue) (l' : Option LeftValue) (reader : Reader) →
    IsHalfSent l → FragmentIsTransmitted moves old i l true new l' → CanRead i l.to reader
    → Arrives moves old i (departure_from i l) reader new
later moves old new i l l' reader half goes can =
    taken moves old new i (departure_from i l) reader goes.0 can.sealed (can.medium, later_fragment (cut_mtu i l) l half)

-- the header of what is cut
cut_value : (i : InnerValue) (h : IpRepr) → HasWidths i → Ips.IsValue h → IsCutValue (cut_header i h)
cut_value i (Ip.Ipv4 v) wide value = record {
  source = value.source;
  destination = value.destination;
  identification = wide.ident;
  protocol = value.protocol;
  hop_limit = value.hop_limit;
}
cut_value i (Ip.Ipv6 v) wide value = (value, omega (arith, wide.ident))

cut_room : (i : InnerValue) (h : IpRepr) (n : ℕ) → total_len h ≤ longest_cut → Ips.payload_len_of (numbered_header i h) ≡ n →
    fragment_header_len (cut_header i h) + n < 2 ^ 16
cut_room i (Ip.Ipv4 v) n short len = omega (arith, short, len)
cut_room i (Ip.Ipv6 v) n short len = omega (arith, short, len)

pub begun_half : (i : InnerValue) (busy : Bool) (p : PacketValue) (to : HardwareAddress) → HasWidths i → IsOffered p →
    plan_of i busy p.header ≡ Way.Cut to → IsHalfSent (cut_of i to p)
begun_half i busy p to wide offered plan =
    let short = (cut_short i busy p.header to plan).0 in
    let w : IsWritable (numbered i p) = writes i p wide offered (omega (arith, short)) in
    record {
      header_is = cut_value i p.header wide offered.header;
      short = cut_room i p.header (length (payload_written i.checksums (numbered_header i p.header) p.payload)) short
          (length-written i.checksums (numbered i p) w);
      within = omega arith;
      unit = refl;
    }

pub first : {D : Type 0} (moves : D → Move → D →
    Type 0) (old new : D) (i i' : InnerValue) (l l' : Option LeftValue) (busy : Bool) (p : PacketValue) (to : HardwareAddress)
    (reader : Reader) → HasWidths i → IsOffered p
    → plan_of i busy p.header ≡ Way.Cut to → IsTransmitted moves old i l p (plan_of i busy p.header) Outcome.Gone new i' l' → CanRead i to reader
    → Arrives moves old i (departure_from i (cut_of i to p)) reader new
first moves old new i i' l l' busy p to reader wide offered plan goes can =
    let was_sent : IsTransmitted moves old i l p (Way.Cut to) Outcome.Gone new i' l' =
    subst (λ (x : Plan). IsTransmitted moves old i l p x Outcome.Gone new i' l') plan goes in
    taken moves old new i (departure_from i (cut_of i to p)) reader was_sent.0 can.sealed (
      can.medium,
      later_fragment (cut_mtu i (cut_of i to p)) (cut_of i to p) (begun_half i busy p to wide offered plan),
    )

left_by : (mtu : ℕ) (l : LeftValue) (b : Bool) → nat_lt (l.at + fragment_room l.header mtu) (length l.payload) ≡ b → IsHalfSent l →
    IfSome (cond b (Some (record l { at = l.at + fragment_room l.header mtu })) None) IsHalfSent
left_by mtu l true is half =
    let more : l.at + fragment_room l.header mtu < length l.payload = grind (arith, nat_tests) in
    record { header_is = half.header_is; short = half.short; within = omega (arith, more); unit = omega (arith, half.unit) }
left_by mtu l false is half = tt

pub left_half : (mtu : ℕ) (l : LeftValue) → IsHalfSent l → IfSome (left_after mtu l) IsHalfSent
left_half mtu l half = left_by mtu l (nat_lt (l.at + fragment_room l.header mtu) (length l.payload)) refl half

-- QUESTIONS

pub asked : {D : Type 0} (moves : D → Move → D →
    Type 0) (old new : D) (i i' : InnerValue) (l l' : Option LeftValue) (busy : Bool) (p : PacketValue) (q : NeighborQuery) (reader : Reader)
    → plan_of i busy p.header ≡ Way.Ask q → IsTransmitted moves old i l p (plan_of i busy p.header) Outcome.Waits new i' l' →
    CanArrive i.hardware reader.hardware (Asks q) → AreSealed i.checksums reader.checksums
    → Arrives moves old i (Asks q) reader new
asked moves old new i i' l l' busy p q reader plan goes can sealed =
    let was_sent : IsTransmitted moves old i l p (Way.Ask q) Outcome.Waits new i' l' =
    subst (λ (x : Plan). IsTransmitted moves old i l p x Outcome.Waits new i' l') plan goes in
    taken moves old new i (Asks q) reader was_sent.0.0 sealed can

pub told : {D : Type 0} (moves : D → Move → D → Type 0) (old new : D) (i : InnerValue) (d : Departure) (reader : Reader) → Departs moves old i d true new →
    CanArrive i.hardware reader.hardware d → AreSealed i.checksums reader.checksums
    → Arrives moves old i d reader new
told moves old new i d reader departs can sealed = taken moves old new i d reader departs sealed can
