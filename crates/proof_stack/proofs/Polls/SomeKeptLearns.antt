-- The poll in which A, whose user asked for keep-alives, reads that abc is acknowledged, and has nothing to send, on numerals.
use Rattle.std.proofs.Common.{inl, inr, true, false, [], ◌∷◌, Some, None, refl}
use Rattle.wire_address.specs.Address.{v4_number}
use Rattle.ip_wire.specs.HardwareAddress.TheVariants as Hardware
use Rattle.sim_link.specs.Port.{PortValue, PortMove}
use Rattle.lan.specs.Worlds.AtLink.Node.{at_port}
use Rattle.lan.specs.Worlds.AtLink.Steps.{PollsAt}
use Rattle.iface_ingress.specs.Arrives.{arrived}
use Rattle.iface_ingress.specs.Incoming.{IsContent}
use Rattle.iface_ingress.specs.Offer.TheVariants as Offer
use Rattle.iface_ingress.specs.Packet.{PacketValue, Segment, payload_written}
use Rattle.iface_ingress.specs.Socket.TheVariants as Kind
use Rattle.iface_ingress.specs.Sockets.{Offers}
use Rattle.iface_ingress.specs.Upper.{IsBrought}
use Rattle.iface_tables.specs.Inner.{InnerValue}
use Rattle.iface_tables.specs.PathMtu.{mtu_towards}
use Rattle.iface_egress.specs.Departure.{Whole}
use Rattle.iface_egress.specs.IsTransmitted.{numbered}
use Rattle.iface_egress.specs.Set.{unmarked}
use Rattle.interface.specs.Delivered.{read_of}
use Rattle.interface.specs.Egress.{EgressStep, sending}
use Rattle.interface.specs.Ingress.{IngressStep}
use Rattle.interface.specs.Remote.{context_for}
use Rattle.interface.specs.Pass.{passed}
use Rattle.interface.specs.Polls.{Polls, begun}
use Rattle.interface.specs.State.{State, state}
use Rattle.proof_stack.specs.Progress.Delivered.{reader_of}
use Rattle.iface_tables.specs.Inner.{context_of}
use Rattle.iface_egress.specs.IsTransmitted.{numbered_header}
use Rattle.tcp_block.specs.Arrival.{arrives}
use Rattle.tcp_block.specs.Value.{TcpValue}
use Rattle.proof_stack.proofs.Polls.SomeTexts.{last_formed, last_goes, last_offered, last_packet, last_read, last_widths}
use Rattle.proof_stack.specs.Progress.SettledNumerals.{a_later, ack_to_a, b_later, heard, last_ack, last_frame, later}
use Rattle.proof_stack.specs.Progress.KeepAliveNumerals.{kept_through, kept_waiting}
use Rattle.proof_stack.proofs.Polls.SomeKept.{kept_through_a, kept_waiting_a}
use Rattle.proof_stack.proofs.Polls.Readers.{packet_read}
use Rattle.proof_stack.proofs.Polls.Segments.{carries}
use Rattle.proof_stack.proofs.Polls.SomeHosts.{nobody}
use Rattle.proof_stack.proofs.Polls.SomeSyns.{port_of, state_of}

-- the socket as the segment has come
abbrev came : TcpValue
came = (arrives (context_of a_later) kept_waiting (numbered_header b_later ack_to_a) last_ack []).socket

abbrev awaiting : State PortValue
awaiting = state_of (kept_waiting_a (last_frame ∷ []))

abbrev begun_there : State PortValue
begun_there = begun later (begun later awaiting)

abbrev following : State PortValue
following = state (port_of (kept_waiting_a [])) begun_there.host (unmarked (Kind.Tcp came) ∷ [])

abbrev remote : InnerValue
remote = b_later

abbrev numbered_packet : PacketValue
numbered_packet = numbered remote last_packet

is_content : IsContent awaiting.host.inner.hardware awaiting.host.inner.checksums last_frame (Some (read_of remote (Whole Hardware.Ip numbered_packet)))
is_content = packet_read remote remote.ident Hardware.Ip last_packet (reader_of awaiting.host.inner) last_widths last_goes last_formed last_read []

is_segment : IsBrought begun_there.host.inner.checksums numbered_packet.header (payload_written remote.checksums numbered_packet.header numbered_packet.payload)
    (Some (Segment last_ack []))
is_segment =
    carries PortMove remote later awaiting awaiting 0 kept_waiting nobody heard ack_to_a last_ack [] last_offered Hardware.Ip last_goes last_formed
    last_read remote.ident last_widths []

step_in : IngressStep PortMove later (begun later awaiting) (Some true) following
unfolding v4_number mtu_towards
step_in = (
  last_frame,
  following.device,
  (refl, refl),
  refl,
  (
    Some (read_of remote (Whole Hardware.Ip numbered_packet)),
    is_content,
    (
      arrived begun_there.host.inner following.slots None,
      (refl, (Some (Segment last_ack []), is_segment, record { inner = refl; slots_are = refl; reply = refl })),
      refl,
      refl,
      refl,
    ),
    refl,
  ),
)

abbrev rested : State PortValue
rested = at_port following.device kept_through_a

is_silent : Offers (context_for a_later (Kind.Tcp came)) (Kind.Tcp came) (Offer.Silent false) (Kind.Tcp kept_through)
unfolding v4_number mtu_towards
is_silent = (refl, refl)

rests : EgressStep PortMove later following None rested
rests = (
  passed (sending later following) rested.slots false,
  inr (
    sending later following,
    (refl, refl),
    inl (
      false,
      sending later following,
      unmarked (Kind.Tcp kept_through),
      (Offer.Silent false, Kind.Tcp kept_through, is_silent, (refl, refl, refl)),
      refl,
    ),
  ),
  refl,
  refl,
)

polls : Polls PortMove later 1 awaiting true rested
polls = (following, true, inr (true, following, step_in, (refl, refl)), inl (rests, refl))

pub learns : PollsAt (kept_waiting_a (last_frame ∷ [])) later 1 true kept_through_a
learns = record { port = port_of (kept_waiting_a (last_frame ∷ [])); port_after = following.device; before = refl; after = refl; polls = polls; none_denied = λ alone. refl }
