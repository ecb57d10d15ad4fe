-- A segment that a TCP socket offers in a poll of its host, in a frame that the host's link takes.
use Rattle.std.specs.Prelude.{◌≡◌, ℕ, List, ◌++◌, slice_get, Some}
use Rattle.wire_ip.specs.declared.ip.repr.IpRepr.{IpRepr}
use Rattle.ip_wire.specs.HardwareAddress.{HardwareAddress}
use Rattle.ip_wire.specs.TcpHeader.{TcpHeader}
use Rattle.tcp_block.specs.Value.{TcpValue}
use Rattle.interface.specs.TransmittedFrame.{HasWidths}
use Rattle.iface_egress.specs.Departing.{HasSettingsOf}
use Rattle.iface_ingress.specs.Packet.{Segment, packet_of}
use Rattle.iface_ingress.specs.WellFormed.{IsWellFormed}
use Rattle.iface_tables.specs.Inner.{InnerValue}
use Rattle.sim_link.specs.Port.{LinkEnd}
use Rattle.proof_stack.specs.Progress.Queued.{frame_under, with_ident}
use Rattle.proof_stack.specs.Progress.Segments.{CanTransmit, OffersSegment}

-- A host with these settings was so as the socket offered it the segment, which went under an identification: its frame is one of those that the end of
-- the link took.
pub record GoesInFrame (host : InnerValue) (old new : LinkEnd) (v : TcpValue) (ip : IpRepr) (header : TcpHeader) (bytes : List ℕ) : Type 0 where
  pub i : InnerValue
  pub settings : HasSettingsOf host i
  pub to : HardwareAddress
  pub ident : ℕ
  pub wide : HasWidths (with_ident i ident)
  pub offers : OffersSegment i v ip header bytes
  pub can : CanTransmit i to (packet_of ip (Segment header bytes))
  pub formed : IsWellFormed (packet_of ip (Segment header bytes))
  pub gone : List (List ℕ)
  pub sent : new.sent ≡ old.sent ++ gone
  pub slot : ℕ
  pub frame : slice_get gone slot ≡ Some (frame_under i ident to (packet_of ip (Segment header bytes)))
