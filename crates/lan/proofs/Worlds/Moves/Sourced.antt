-- A packet that leaves from the source that is chosen for it: what its header names stays, but for its source.
use Rattle.std.proofs.Common.{◌≡◌, ◌⊎◌, inl, inr, Bool, true, false, if◌then◌else◌, Option, Some, None, refl, sym, subst}
use Rattle.interface.proofs.Sourced.{as_sourced, sourced_same}
use Rattle.interface.specs.Serve.{keeps_source, with_source, sourced}
use Rattle.interface.specs.Ip.{carried_in, source_of, destination_of}
use Rattle.interface.specs.IpRepr.{IpRepr}
use Rattle.interface.specs.IpRepr.TheVariants as Ip
use Rattle.interface.specs.Ipv4Repr.{Ipv4Repr}
use Rattle.interface.specs.Ipv6Repr.{Ipv6Repr}
use Rattle.iface_ingress.specs.IpAddress.{IpAddress}
use Rattle.iface_ingress.specs.IpAddress.TheVariants as Address
use Rattle.iface_ingress.specs.Ipv4Address.{Ipv4Address}
use Rattle.iface_ingress.specs.Ipv6Address.{Ipv6Address}
use Rattle.iface_ingress.specs.Sent.{IsV4}
use Rattle.iface_tables.specs.Inner.{InnerValue}
use Rattle.iface_tables.specs.Source.{source_for}
use Rattle.sockets.specs.Packet.{PacketValue, PayloadValue, ControlV4, ControlV6, Bytes, Datagram, Segment}
use Rattle.sockets.specs.WellFormed.{IsWellFormed}
use Rattle.lan.specs.Worlds.AtLink.Parties.{Party}
use Rattle.lan.specs.Worlds.Moves.Made.{IsMade, IsWide, FitsFollowing, MadeBy}
use Rattle.lan.proofs.Worlds.Moves.Offering.{IsMadeFrom}
use Rattle.iface_ingress.specs.Sent.{normal_payload}

-- the family, and what the packet carries
pub sourced_v4 : (h : IpRepr) (s : Option IpAddress) → IsV4 h → IsV4 (with_source h s)
sourced_v4 (Ip.Ipv4 v) (Some (Address.Ipv4 a)) is = tt
sourced_v4 (Ip.Ipv4 v) (Some (Address.Ipv6 a)) is = tt
sourced_v4 (Ip.Ipv4 v) None is = tt
sourced_v4 (Ip.Ipv6 v) s is = absurd is

pub sourced_carries : (h : IpRepr) (s : Option IpAddress) → carried_in (with_source h s) ≡ carried_in h
sourced_carries (Ip.Ipv4 v) (Some (Address.Ipv4 a)) = refl
sourced_carries (Ip.Ipv6 v) (Some (Address.Ipv6 a)) = refl
sourced_carries (Ip.Ipv4 v) (Some (Address.Ipv6 a)) = refl
sourced_carries (Ip.Ipv6 v) (Some (Address.Ipv4 a)) = refl
sourced_carries (Ip.Ipv4 v) None = refl
sourced_carries (Ip.Ipv6 v) None = refl

fits_v4 : (v : Ipv4Repr) (a : Ipv4Address) (x : PayloadValue) → FitsFollowing (Ip.Ipv4 v) x → FitsFollowing (Ip.Ipv4 (record v { src_addr = a })) x
fits_v4 v a (ControlV4 message bytes) fits = fits
fits_v4 v a (ControlV6 message bytes) fits = fits
fits_v4 v a (Bytes bytes) fits = fits
fits_v4 v a (Datagram udp bytes) fits = fits
fits_v4 v a (Segment tcp bytes) fits = fits

fits_v6 : (v : Ipv6Repr) (a : Ipv6Address) (x : PayloadValue) → FitsFollowing (Ip.Ipv6 v) x → FitsFollowing (Ip.Ipv6 (record v { src_addr = a })) x
fits_v6 v a (ControlV4 message bytes) fits = fits
fits_v6 v a (ControlV6 message bytes) fits = fits
fits_v6 v a (Bytes bytes) fits = fits
fits_v6 v a (Datagram udp bytes) fits = fits
fits_v6 v a (Segment tcp bytes) fits = fits

fits_source : (h : IpRepr) (s : Option IpAddress) (x : PayloadValue) → FitsFollowing h x → FitsFollowing (with_source h s) x
fits_source (Ip.Ipv4 v) (Some (Address.Ipv4 a)) x fits = fits_v4 v a x fits
fits_source (Ip.Ipv6 v) (Some (Address.Ipv6 a)) x fits = fits_v6 v a x fits
fits_source (Ip.Ipv4 v) (Some (Address.Ipv6 a)) x fits = fits
fits_source (Ip.Ipv6 v) (Some (Address.Ipv4 a)) x fits = fits
fits_source (Ip.Ipv4 v) None x fits = fits
fits_source (Ip.Ipv6 v) None x fits = fits

pub sourced_wide : (i : InnerValue) (p : PacketValue) → IsWide p → IsWellFormed (sourced i p) → IsWide (sourced i p)
sourced_wide i p wide formed = record {
  offered = record {
    packet = record { len = formed.sendable.len; payload = λ fits. formed.sendable.payload };
    header = formed.header;
    payload = wide.offered.payload;
  };
  fits = as_sourced FitsFollowing fits_source i p wide.fits;
}

-- it leaves from its source, or from the one that is chosen
source_or_chosen : (h : IpRepr) (s : Option IpAddress) → (source_of (with_source h s) ≡ source_of h) ⊎ (s ≡ Some (source_of (with_source h s)))
source_or_chosen (Ip.Ipv4 v) (Some (Address.Ipv4 a)) = inr refl
source_or_chosen (Ip.Ipv6 v) (Some (Address.Ipv6 a)) = inr refl
source_or_chosen (Ip.Ipv4 v) (Some (Address.Ipv6 a)) = inl refl
source_or_chosen (Ip.Ipv6 v) (Some (Address.Ipv4 a)) = inl refl
source_or_chosen (Ip.Ipv4 v) None = inl refl
source_or_chosen (Ip.Ipv6 v) None = inl refl

pub leaves_from : (i : InnerValue) (p : PacketValue) →
    (source_of (sourced i p).header ≡ source_of p.header) ⊎ (source_for i.addresses (destination_of p.header) ≡ Some (source_of (sourced i p).header))
leaves_from i p = by (keeps_source i p) where
  chosen : Option IpAddress
  chosen = source_for i.addresses (destination_of p.header)

  by : (b : Bool) → (source_of (if b then p.header else with_source p.header chosen) ≡ source_of p.header)
      ⊎ (chosen ≡ Some (source_of (if b then p.header else with_source p.header chosen)))
  by true = inl refl
  by false = source_or_chosen p.header chosen

-- what was made from the source that it leaves from was made
pub sourced_made : (party : Party) (i : InnerValue) (p : PacketValue) → IsMadeFrom party (source_of (sourced i p).header) p → IsMade party (sourced i p)
sourced_made party i p made =
    subst (λ (to : IpAddress). MadeBy party (source_of (sourced i p).header) to (normal_payload p.payload)) (sym (sourced_same i p).0) made
