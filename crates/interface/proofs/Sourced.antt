-- A packet with the source that is chosen for it is one that can be sent, and what stays of it; a socket's turn from its parts.
use Rattle.std.proofs.Common.{◌≡◌, Bool, true, false, List, Option, None, Some, refl, ap, ◌∙◌}
use Rattle.std.specs.Prelude.{if◌then◌else◌}
use Rattle.net_base.specs.Device.{Move}
use Rattle.ip_wire.specs.AddressTests.{is_unspecified}
use Rattle.ip_wire.specs.Ip.{source_of, destination_of}
use Rattle.ip_wire.specs.IpAddress.{IpAddress}
use Rattle.ip_wire.specs.IpAddress.TheVariants as Address
use Rattle.ip_wire.specs.IpCidr.{IpCidr}
use Rattle.ip_wire.specs.IpRepr.{IpRepr}
use Rattle.ip_wire.specs.IpRepr.TheVariants as Ip
use Rattle.ip_wire.specs.Ipv4Address.{Ipv4Address}
use Rattle.ip_wire.specs.Ipv4Repr.{Ipv4Repr}
use Rattle.ip_wire.specs.Ipv6Address.{Ipv6Address}
use Rattle.ip_wire.specs.Ipv6Repr.{Ipv6Repr}
use Rattle.iface_ingress.specs.Packet.{PacketValue, PayloadValue, ControlV4, ControlV6, Bytes, Datagram, Segment, packet_of, PayloadFits, IsSendable}
use Rattle.iface_tables.specs.Inner.{InnerValue}
use Rattle.iface_tables.specs.Source.{source_for, source_v4, source_v6, in_v4}
use Rattle.iface_ingress.specs.Socket.{Socket}
use Rattle.iface_ingress.specs.Sockets.{settled}
use Rattle.iface_ingress.specs.WellFormed.{IsWellFormed}
use Rattle.iface_egress.specs.declared.socket_meta.Meta.{Meta}
use Rattle.iface_egress.specs.declared.socket_set.Item.{Item}
use Rattle.iface_egress.specs.declared.egress_path.Sent.{Sent}
use Rattle.interface.specs.Host.{Sender}
use Rattle.interface.specs.Serve.{keeps_source, with_source, sourced_header, sourced, is_done, turned_by, HasLeft, OfferLeaves, SendsBy}
use Rattle.interface.specs.declared.serve.Served.{Served}

fits_v4 : (v : Ipv4Repr) (a : Ipv4Address) (x : PayloadValue) → PayloadFits (Ip.Ipv4 v) x → PayloadFits (Ip.Ipv4 (record v { src_addr = a })) x
fits_v4 v a (ControlV4 message bytes) fits = fits
fits_v4 v a (ControlV6 message bytes) fits = fits
fits_v4 v a (Bytes bytes) fits = tt
fits_v4 v a (Datagram udp bytes) fits = record { len = fits.len; family = fits.family }
fits_v4 v a (Segment tcp bytes) fits = record { header = fits.header; all = fits.all; family = fits.family }

fits_v6 : (v : Ipv6Repr) (a : Ipv6Address) (x : PayloadValue) → PayloadFits (Ip.Ipv6 v) x → PayloadFits (Ip.Ipv6 (record v { src_addr = a })) x
fits_v6 v a (ControlV4 message bytes) fits = fits
fits_v6 v a (ControlV6 message bytes) fits = fits
fits_v6 v a (Bytes bytes) fits = tt
fits_v6 v a (Datagram udp bytes) fits = record { len = fits.len; family = fits.family }
fits_v6 v a (Segment tcp bytes) fits = record { header = fits.header; all = fits.all; family = fits.family }

source_sendable : (h : IpRepr) (s : Option IpAddress) (x : PayloadValue) → IsSendable (packet_of h x) → IsSendable (packet_of (with_source h s) x)
source_sendable (Ip.Ipv4 v) (Some (Address.Ipv4 a)) x is = record { header = is.header; payload = fits_v4 v a x is.payload; len = is.len }
source_sendable (Ip.Ipv6 v) (Some (Address.Ipv6 a)) x is = record { header = is.header; payload = fits_v6 v a x is.payload; len = is.len }
source_sendable (Ip.Ipv4 v) (Some (Address.Ipv6 a)) x is = is
source_sendable (Ip.Ipv6 v) (Some (Address.Ipv4 a)) x is = is
source_sendable (Ip.Ipv4 v) None x is = is
source_sendable (Ip.Ipv6 v) None x is = is

-- what holds of a packet with any source holds of it as it leaves
pub as_sourced : (Q : IpRepr → PayloadValue → Type 0) → ((h : IpRepr) (s : Option IpAddress) (x : PayloadValue) → Q h x → Q (with_source h s) x) →
    (i : InnerValue) (p : PacketValue) → Q p.header p.payload → Q (sourced_header i p) p.payload
as_sourced Q law i p holds = by (keeps_source i p) where
  chosen : Option IpAddress
  chosen = source_for i.addresses (destination_of p.header)

  by : (b : Bool) → Q (if b then p.header else with_source p.header chosen) p.payload
  by true = holds
  by false = law p.header chosen p.payload holds

pub sourced_sendable : (i : InnerValue) (p : PacketValue) → IsSendable p → IsSendable (sourced i p)
sourced_sendable i p is = as_sourced (λ h x. IsSendable (packet_of h x)) source_sendable i p is

-- THE LAW OF SOURCES

if_stays : (b : Bool) (h other : IpRepr) → b ≡ true → (if b then h else other) ≡ h
if_stays true h other is = refl
if_stays false h other is = absurd cc

if_other : (b : Bool) (h other : IpRepr) → b ≡ false → (if b then h else other) ≡ other
if_other true h other is = absurd cc
if_other false h other is = refl

abbrev with_header : (p : PacketValue) (h : IpRepr) → PacketValue
with_header p h = record p { header = h }

same_destination : (h : IpRepr) (s : Option IpAddress) → destination_of (with_source h s) ≡ destination_of h
same_destination (Ip.Ipv4 v) (Some (Address.Ipv4 a)) = refl
same_destination (Ip.Ipv6 v) (Some (Address.Ipv6 a)) = refl
same_destination (Ip.Ipv4 v) (Some (Address.Ipv6 a)) = refl
same_destination (Ip.Ipv6 v) (Some (Address.Ipv4 a)) = refl
same_destination (Ip.Ipv4 v) None = refl
same_destination (Ip.Ipv6 v) None = refl

pub sourced_same : (i : InnerValue) (p : PacketValue) →
    (destination_of (sourced i p).header ≡ destination_of p.header) × ((sourced i p).payload ≡ p.payload)
sourced_same i p = (
  as_sourced (λ h x. destination_of h ≡ destination_of p.header) (λ h s x is. same_destination h s ∙ is) i p refl,
  refl,
)

pub sourced_stays : (i : InnerValue) (p : PacketValue) → keeps_source i p ≡ true → sourced i p ≡ p
sourced_stays i p keeps =
    ap (with_header p) (if_stays (keeps_source i p) p.header (with_source p.header (source_for i.addresses (destination_of p.header))) keeps)

-- the chosen source is of the destination's family
of_four : (u : Bool) (o : Option Ipv4Address) (a : Ipv6Address) → (if u then None else in_v4 o) ≡ Some (Address.Ipv6 a) → ⊥
of_four true o a is = cc
of_four false None a is = cc
of_four false (Some b) a is = cc

of_six : (u : Bool) (b : Ipv6Address) (a : Ipv4Address) → (if u then None else Some (Address.Ipv6 b)) ≡ Some (Address.Ipv4 a) → ⊥
of_six true b a is = cc
of_six false b a is = cc

from_chosen : (h : IpRepr) (addresses : List IpCidr) (a : IpAddress) → source_for addresses (destination_of h) ≡ Some a →
    source_of (with_source h (Some a)) ≡ a
from_chosen (Ip.Ipv4 v) addresses (Address.Ipv4 a) is = refl
from_chosen (Ip.Ipv6 v) addresses (Address.Ipv6 a) is = refl
from_chosen (Ip.Ipv4 v) addresses (Address.Ipv6 a) is =
    absurd (of_four (is_unspecified (Address.Ipv4 v.dst_addr)) (source_v4 addresses v.dst_addr) a is)
from_chosen (Ip.Ipv6 v) addresses (Address.Ipv4 a) is =
    absurd (of_six (is_unspecified (Address.Ipv6 v.dst_addr)) (source_v6 addresses v.dst_addr) a is)

pub sourced_chosen : (i : InnerValue) (p : PacketValue) (a : IpAddress) → keeps_source i p ≡ false →
    source_for i.addresses (destination_of p.header) ≡ Some a → source_of (sourced i p).header ≡ a
sourced_chosen i p a keeps is =
    let chosen : Option IpAddress = source_for i.addresses (destination_of p.header) in
    ap source_of (if_other (keeps_source i p) p.header (with_source p.header chosen) keeps)
    ∙ ap (λ (o : Option IpAddress). source_of (with_source p.header o)) is
    ∙ from_chosen p.header i.addresses a is

from_none : (h : IpRepr) → with_source h None ≡ h
from_none (Ip.Ipv4 v) = refl
from_none (Ip.Ipv6 v) = refl

pub sourced_none : (i : InnerValue) (p : PacketValue) → source_for i.addresses (destination_of p.header) ≡ None → sourced i p ≡ p
sourced_none i p is = ap (with_header p) (by (keeps_source i p)) where
  chosen : Option IpAddress
  chosen = source_for i.addresses (destination_of p.header)

  by : (b : Bool) → (if b then p.header else with_source p.header chosen) ≡ p.header
  by true = refl
  by false = ap (with_source p.header) is ∙ from_none p.header

-- A TURN

-- the turn of a socket whose packet left, or stays
pub sends_from : {D : Type 0} (moves : D → Move → D → Type 0) (turn : Option IpAddress) (s s' : Sender D) (p : PacketValue)
    (item item' : Item Socket) (changed : Bool) (turned : Served) (sent : Sent) (mark : Meta)
    → IsWellFormed p → HasLeft moves turn s item.meta p sent s' mark
    → item' ≡ record { meta = mark; socket = settled (is_done sent) item.socket } → turned ≡ turned_by sent changed
    → SendsBy moves turn (Some p) s item changed turned s' item'
sends_from moves turn s s' p item item' changed turned sent mark formed left is by =
    let with_mark : Meta → Item Socket = λ m. record { meta = m; socket = settled (is_done sent) item.socket } in (
      left.0,
      left.1,
      formed,
      (sent, left.2.0, by, is ∙ ap with_mark left.2.2, left.2.1),
    )

-- the same of the packet of an open offer
pub sends_offer : {D : Type 0} (moves : D → Move → D → Type 0) (turn : Option IpAddress) (s s' : Sender D) (o : Option PacketValue)
    (item item' : Item Socket) (changed : Bool) (turned : Served) (sent : Sent) (mark : Meta)
    → OfferLeaves moves turn o s item.meta sent s' mark
    → item' ≡ record { meta = mark; socket = settled (is_done sent) item.socket } → turned ≡ turned_by sent changed
    → SendsBy moves turn o s item changed turned s' item'
sends_offer moves turn s s' None item item' changed turned sent mark left is by = absurd left
sends_offer moves turn s s' (Some p) item item' changed turned sent mark left is by =
    sends_from moves turn s s' p item item' changed turned sent mark left.0 left.1 is by
