-- A frame of a segment tells nothing of hardware addresses.
use Rattle.std.proofs.Common.{◌≡◌, ℕ, true, false, List, ◌++◌, Some, sym, ap, ◌∙◌, subst}
use Rattle.wire_ip.specs.declared.ip.repr.IpRepr.{IpRepr}
use Rattle.wire_ip.specs.declared.ip.repr.IpRepr.TheVariants as Ip
use Rattle.wire_address.specs.Protocol.{protocol_number, protocol_of}
use Rattle.wire_address.specs.declared.ip.IpProtocol.{IpProtocol}
use Rattle.ip_wire.specs.HardwareAddress.{HardwareAddress}
use Rattle.ip_wire.specs.IpAddress.{IpAddress}
use Rattle.ip_wire.specs.TcpHeader.{TcpHeader}
use Rattle.tcp_block.specs.Value.{TcpValue}
use Rattle.interface.specs.Delivered.{read_of}
use Rattle.interface.specs.TransmittedFrame.{CanRead, HasWidths}
use Rattle.iface_egress.specs.Departure.{Whole}
use Rattle.iface_egress.specs.IsTransmitted.{numbered}
use Rattle.iface_ingress.specs.Incoming.{IncomingValue, IsContent}
use Rattle.iface_ingress.specs.Packet.{PacketValue, Segment, packet_of}
use Rattle.iface_ingress.specs.Reassembled.{is_control_v6}
use Rattle.iface_ingress.specs.Sent.{CanBeRead}
use Rattle.iface_ingress.specs.WellFormed.{IsWellFormed}
use Rattle.iface_ingress.proofs.OneContent.{one-content}
use Rattle.iface_tables.specs.Inner.{InnerValue}
use Rattle.lan.specs.Worlds.Moves.HopLimit.{FrameTellsAtMost, TellsAtMost}
use Rattle.net_base.specs.ChecksumCapabilities.{ChecksumCapabilities}
use Rattle.proof_stack.specs.Progress.Delivered.{reader_of}
use Rattle.proof_stack.specs.Progress.Queued.{frame_under, with_ident}
use Rattle.proof_stack.specs.Progress.Segments.{CanTransmit, OffersSegment}
use Rattle.proof_stack.proofs.Polls.Readers.{packet_read}
use Rattle.proof_stack.proofs.Polls.Segments.{can_be_read}

same_value : (v w : IncomingValue) → Some v ≡ Some w → v ≡ w
same_value v w is = cc

module _ (i : InnerValue) (ident : ℕ) (to : HardwareAddress) (header : TcpHeader) (bytes : List ℕ) (caps : ChecksumCapabilities) (hop : IpAddress)
    (told : HardwareAddress) where
  -- what is read of its packet
  abbrev read : IpRepr → IncomingValue
  read ip = read_of (with_ident i ident) (Whole to (numbered (with_ident i ident) (packet_of ip (Segment header bytes))))

  tells_nothing : (ip : IpRepr) → CanBeRead ip (Segment header bytes) → TellsAtMost caps hop told (read ip)
  tells_nothing (Ip.Ipv4 v) readable = tt
  tells_nothing (Ip.Ipv6 v) readable =
      λ message carried control brought. absurd (let never : false ≡ true = sym (ap (λ (x : IpProtocol). is_control_v6 (protocol_of (protocol_number x))) readable.0) ∙ control in cc)

pub segment_tells : (i j : InnerValue) (ident : ℕ) (v : TcpValue) (ip : IpRepr) (header : TcpHeader) (bytes : List ℕ) (to : HardwareAddress)
    (padding : List ℕ) (hop : IpAddress) (told : HardwareAddress)
    → HasWidths (with_ident i ident) → OffersSegment i v ip header bytes → CanTransmit i to (packet_of ip (Segment header bytes))
    → IsWellFormed (packet_of ip (Segment header bytes)) → CanRead i to (reader_of j)
    → FrameTellsAtMost j hop told (frame_under i ident to (packet_of ip (Segment header bytes)) ++ padding)
segment_tells i j ident v ip header bytes to padding hop told wide offers can formed reads content is =
    let p : PacketValue = packet_of ip (Segment header bytes) in
    let frame : List ℕ = frame_under i ident to p ++ padding in
    let it : IncomingValue = read i ident to header bytes j.checksums hop told ip in
    let there : IsContent j.hardware j.checksums frame (Some it) = packet_read i ident to p (reader_of j) wide can formed reads padding in
    let same : content ≡ it = same_value content it (one-content j.hardware j.checksums frame (Some content) (Some it) is there) in
    subst (λ (x : IncomingValue). TellsAtMost j.checksums hop told x) (sym same)
    (tells_nothing i ident to header bytes j.checksums hop told ip (can_be_read i v ip header bytes offers formed))
