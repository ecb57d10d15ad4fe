-- The poll in which B reads that its SYN is acknowledged, and has nothing to send, on numerals.
use Rattle.std.proofs.Common.{inl, inr, true, false, [], ◌∷◌, Some, None, refl}
use Rattle.wire_address.specs.Address.{v4_number}
use Rattle.ip_wire.specs.HardwareAddress.TheVariants as Hardware
use Rattle.sim_link.specs.Port.{PortValue, PortMove}
use Rattle.lan.specs.Worlds.AtLink.Node.{at_port}
use Rattle.lan.specs.Worlds.AtLink.Steps.{PollsAt}
use Rattle.lan.specs.declared.at_link.history.event.Side.TheVariants.{A, B}
use Rattle.iface_ingress.specs.Arrives.{arrived}
use Rattle.iface_ingress.specs.Incoming.{IsContent}
use Rattle.iface_ingress.specs.Offer.TheVariants as Offer
use Rattle.iface_ingress.specs.Packet.{PacketValue, Segment, payload_written}
use Rattle.iface_ingress.specs.Socket.TheVariants as Kind
use Rattle.iface_ingress.specs.Sockets.{Offers}
use Rattle.iface_ingress.specs.Upper.{IsBrought}
use Rattle.iface_tables.specs.Inner.{InnerValue, with_next_ident}
use Rattle.iface_tables.specs.PathMtu.{mtu_towards}
use Rattle.iface_egress.specs.Departure.{Whole}
use Rattle.iface_egress.specs.IsTransmitted.{numbered}
use Rattle.iface_egress.specs.Set.{unmarked}
use Rattle.interface.specs.Delivered.{read_of}
use Rattle.interface.specs.Egress.{EgressStep, sending}
use Rattle.interface.specs.Ingress.{IngressStep}
use Rattle.interface.specs.Remote.{context_for}
use Rattle.interface.specs.Pass.{passed}
use Rattle.interface.specs.Polls.{Polls, begun}
use Rattle.interface.specs.State.{State, state}
use Rattle.proof_stack.specs.Progress.Delivered.{reader_of}
use Rattle.iface_tables.specs.Inner.{context_of}
use Rattle.iface_egress.specs.IsTransmitted.{numbered_header}
use Rattle.tcp_block.specs.Arrival.{arrives}
use Rattle.tcp_block.specs.Value.{TcpValue}
use Rattle.proof_stack.specs.Progress.SettledNumerals.{ack, ack_frame, ack_to_b, b_first, found, opened}
use Rattle.proof_stack.proofs.Polls.SomeNodes.{answered, answered_b, called_back, open_b}
use Rattle.proof_stack.proofs.Polls.Readers.{packet_read}
use Rattle.proof_stack.proofs.Polls.Segments.{carries}
use Rattle.proof_stack.proofs.Polls.SomeHosts.{nobody}
use Rattle.proof_stack.proofs.Polls.SomeSyns.{ack_formed, ack_goes, ack_offered, ack_packet, ack_read, now, port_of, state_of, then_widths}

-- the socket as the segment has come
abbrev came : TcpValue
came = (arrives (context_of b_first) answered (numbered_header (with_next_ident (found A)) ack_to_b) ack []).socket

abbrev awaiting : State PortValue
awaiting = state_of (answered_b (ack_frame ∷ []))

abbrev begun_there : State PortValue
begun_there = begun now (begun now awaiting)

abbrev following : State PortValue
following = state (port_of (answered_b [])) begun_there.host (unmarked (Kind.Tcp came) ∷ [])

abbrev remote : InnerValue
remote = (with_next_ident (found A))

abbrev numbered_packet : PacketValue
numbered_packet = numbered remote ack_packet

is_content : IsContent awaiting.host.inner.hardware awaiting.host.inner.checksums ack_frame (Some (read_of remote (Whole Hardware.Ip numbered_packet)))
is_content = packet_read remote remote.ident Hardware.Ip ack_packet (reader_of awaiting.host.inner) then_widths ack_goes ack_formed ack_read []

is_segment : IsBrought begun_there.host.inner.checksums numbered_packet.header (payload_written remote.checksums numbered_packet.header numbered_packet.payload)
    (Some (Segment ack []))
is_segment =
    carries PortMove remote now awaiting awaiting 0 answered nobody called_back ack_to_b ack [] ack_offered Hardware.Ip ack_goes ack_formed
    ack_read remote.ident then_widths []

step_in : IngressStep PortMove now (begun now awaiting) (Some true) following
unfolding v4_number
step_in = (
  ack_frame,
  following.device,
  (refl, refl),
  refl,
  (
    Some (read_of remote (Whole Hardware.Ip numbered_packet)),
    is_content,
    (
      arrived begun_there.host.inner following.slots None,
      (refl, (Some (Segment ack []), is_segment, record { inner = refl; slots_are = refl; reply = refl })),
      refl,
      refl,
      refl,
    ),
    refl,
  ),
)

abbrev rested : State PortValue
rested = at_port following.device (open_b [])

is_silent : Offers (context_for b_first (Kind.Tcp came)) (Kind.Tcp came) (Offer.Silent false) (Kind.Tcp (opened B))
unfolding v4_number mtu_towards
is_silent = (refl, refl)

rests : EgressStep PortMove now following None rested
rests = (
  passed (sending now following) rested.slots false,
  inr (
    sending now following,
    (refl, refl),
    inl (
      false,
      sending now following,
      unmarked (Kind.Tcp (opened B)),
      (Offer.Silent false, Kind.Tcp (opened B), is_silent, (refl, refl, refl)),
      refl,
    ),
  ),
  refl,
  refl,
)

polls : Polls PortMove now 1 awaiting true rested
polls = (following, true, inr (true, following, step_in, (refl, refl)), inl (rests, refl))

pub is_opened : PollsAt (answered_b (ack_frame ∷ [])) now 1 true (open_b [])
is_opened = record { port = port_of (answered_b (ack_frame ∷ [])); port_after = following.device; before = refl; after = refl; polls = polls; none_denied = λ alone. refl }
