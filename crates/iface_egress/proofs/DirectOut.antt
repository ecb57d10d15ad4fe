-- A packet that goes straight, on egress: its frame is that of the packet with the host's next number.
use Rattle.std.proofs.Common.{◌≡◌, Bool, subst}
use Rattle.net_base.specs.ChecksumCapabilities.{ChecksumCapabilities}
use Rattle.net_base.specs.Device.{Move}
use Rattle.ip_wire.specs.HardwareAddress.{HardwareAddress}
use Rattle.ip_wire.specs.Ipv4Repr.{Ipv4Repr}
use Rattle.socket_context.specs.Packet.{PayloadValue}
use Rattle.iface_tables.specs.Inner.{InnerValue}
use Rattle.iface_egress.specs.Emits.{Emits}
use Rattle.iface_egress.specs.Departure.{Whole, packet_frame, packet_frame_len}
use Rattle.iface_egress.specs.IsTransmitted.{Departs, numbered, numbered_v4}
use Rattle.iface_egress.specs.FastPath.{direct_following, direct_packet}
use Rattle.iface_egress.specs.declared.payload.Direct.{Direct}

module _ {D P : Type 0} (moves : D → Move → D → Type 0) (value : P → PayloadValue) (old new : D) (s : Direct P) where
  abbrev pub EmitsDirect : Bool → HardwareAddress → ChecksumCapabilities → Ipv4Repr → Type 0
  EmitsDirect gone from caps header =
      Emits moves old (packet_frame caps from s.to (direct_following value header s)) (packet_frame_len from s.to (direct_following value header s)) gone new

  pub direct_departs : (i : InnerValue) (gone is : Bool) (from : HardwareAddress) (caps : ChecksumCapabilities) (header : Ipv4Repr) → gone ≡ is →
      from ≡ i.hardware → caps ≡ i.checksums → header ≡ numbered_v4 i s.header.now → EmitsDirect gone from caps header →
      Departs moves old i (Whole s.to (numbered i (direct_packet value s))) is new
  direct_departs i gone is from caps header as_told from_host by_host as_numbered emits =
      subst (λ (b : Bool). EmitsDirect b i.hardware i.checksums (numbered_v4 i s.header.now)) as_told
      (subst (λ (h : Ipv4Repr). EmitsDirect gone i.hardware i.checksums h) as_numbered
      (subst (λ (c : ChecksumCapabilities). EmitsDirect gone i.hardware c header) by_host
      (subst (λ (f : HardwareAddress). EmitsDirect gone f caps header) from_host emits)))
