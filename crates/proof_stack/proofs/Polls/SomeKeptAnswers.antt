-- The poll in which B reads a keep-alive, and answers it, on numerals.
use Rattle.std.proofs.Common.{inl, inr, true, false, [], ◌∷◌, Some, None, refl}
use Rattle.wire_address.specs.Address.{v4_number}
use Rattle.ip_wire.specs.HardwareAddress.TheVariants as Hardware
use Rattle.sim_link.specs.Port.{PortValue, PortMove}
use Rattle.lan.specs.Worlds.AtLink.Node.{at_port}
use Rattle.lan.specs.Worlds.AtLink.Steps.{PollsAt}
use Rattle.iface_ingress.specs.Arrives.{Answers, arrived}
use Rattle.iface_ingress.specs.Incoming.{IsContent}
use Rattle.iface_ingress.specs.Offer.TheVariants as Offer
use Rattle.iface_ingress.specs.Packet.{PacketValue, Segment, payload_written}
use Rattle.iface_ingress.specs.Socket.TheVariants as Kind
use Rattle.iface_ingress.specs.Sockets.{Offers}
use Rattle.iface_ingress.specs.Upper.{IsBrought}
use Rattle.iface_tables.specs.Inner.{InnerValue, context_of, with_next_ident}
use Rattle.iface_tables.specs.PathMtu.{mtu_towards}
use Rattle.iface_egress.specs.Departure.{Whole}
use Rattle.iface_egress.specs.IsTransmitted.{numbered}
use Rattle.iface_egress.specs.Set.{unmarked}
use Rattle.iface_egress.specs.declared.egress_path.Sent.TheVariants as Outcome
use Rattle.interface.specs.Delivered.{read_of}
use Rattle.interface.specs.Egress.{EgressStep, sending}
use Rattle.interface.specs.Ingress.{IngressStep}
use Rattle.interface.specs.Remote.{context_for}
use Rattle.interface.specs.Pass.{passed}
use Rattle.interface.specs.Polls.{Polls, begun}
use Rattle.interface.specs.State.{State, state}
use Rattle.proof_stack.specs.Progress.Delivered.{reader_of}
use Rattle.iface_egress.specs.IsTransmitted.{numbered_header}
use Rattle.tcp_block.specs.Arrival.{arrives}
use Rattle.tcp_block.specs.Value.{TcpValue}
use Rattle.proof_stack.specs.Progress.Numerals.{port_following}
use Rattle.proof_stack.specs.Progress.KeepAliveNumerals.{a_late, acknowledging, answer_frame, answering, b_late, keep_alive, keep_alive_frame, keep_alive_to_b}
use Rattle.proof_stack.specs.Progress.KeepAliveNumerals.{kept_through, late, late_b}
use Rattle.proof_stack.proofs.Polls.Readers.{packet_read}
use Rattle.proof_stack.proofs.Polls.Segments.{carries}
use Rattle.proof_stack.proofs.Polls.SomeHosts.{nobody}
use Rattle.proof_stack.proofs.Polls.SomeKept.{acknowledging_b}
use Rattle.proof_stack.proofs.Polls.SomeKeptAlive.{alive_formed, alive_goes, alive_offered, alive_packet, alive_read, alive_widths}
use Rattle.proof_stack.proofs.Polls.SomeSyns.{port_of, state_of}
use Rattle.proof_stack.proofs.Polls.SomeTexts.{last_formed, last_packet}

-- the socket as the segment has come
abbrev came : TcpValue
came = (arrives (context_of b_late) acknowledging (numbered_header a_late keep_alive_to_b) keep_alive (0 ∷ [])).socket

abbrev awaiting : State PortValue
awaiting = state_of (acknowledging_b (keep_alive_frame ∷ []))

abbrev begun_there : State PortValue
begun_there = begun late (begun late awaiting)

abbrev following : State PortValue
following =
    state (port_following (port_of (acknowledging_b [])) answer_frame) (record begun_there.host { inner = with_next_ident b_late })
    (unmarked (Kind.Tcp came) ∷ [])

abbrev remote : InnerValue
remote = a_late

abbrev numbered_packet : PacketValue
numbered_packet = numbered remote alive_packet

is_content : IsContent awaiting.host.inner.hardware awaiting.host.inner.checksums keep_alive_frame (Some (read_of remote (Whole Hardware.Ip numbered_packet)))
is_content = packet_read remote remote.ident Hardware.Ip alive_packet (reader_of awaiting.host.inner) alive_widths alive_goes alive_formed alive_read []

is_segment : IsBrought begun_there.host.inner.checksums numbered_packet.header (payload_written remote.checksums numbered_packet.header numbered_packet.payload)
    (Some (Segment keep_alive (0 ∷ [])))
is_segment =
    carries PortMove remote late awaiting awaiting 0 acknowledging nobody kept_through keep_alive_to_b keep_alive (0 ∷ []) alive_offered Hardware.Ip alive_goes alive_formed
    alive_read remote.ident alive_widths []

step_in : IngressStep PortMove late (begun late awaiting) (Some true) following
unfolding v4_number mtu_towards
step_in = (
  keep_alive_frame,
  port_of (acknowledging_b []),
  (refl, refl),
  refl,
  (
    Some (read_of remote (Whole Hardware.Ip numbered_packet)),
    is_content,
    (
      arrived begun_there.host.inner following.slots (Some (Answers last_packet)),
      (refl, (Some (Segment keep_alive (0 ∷ [])), is_segment, record { inner = refl; slots_are = refl; reply = refl })),
      refl,
      inr (Outcome.Gone, (((refl, refl), refl), refl), last_formed, refl),
      refl,
    ),
    refl,
  ),
)

abbrev rested : State PortValue
rested = at_port following.device late_b

is_silent : Offers (context_for (with_next_ident b_late) (Kind.Tcp came)) (Kind.Tcp came) (Offer.Silent false) (Kind.Tcp answering)
unfolding v4_number mtu_towards
is_silent = (refl, refl)

rests : EgressStep PortMove late following None rested
rests = (
  passed (sending late following) rested.slots false,
  inr (
    sending late following,
    (refl, refl),
    inl (
      false,
      sending late following,
      unmarked (Kind.Tcp answering),
      (Offer.Silent false, Kind.Tcp answering, is_silent, (refl, refl, refl)),
      refl,
    ),
  ),
  refl,
  refl,
)

polls : Polls PortMove late 1 awaiting true rested
polls = (following, true, inr (true, following, step_in, (refl, refl)), inl (rests, refl))

pub answers : PollsAt (acknowledging_b (keep_alive_frame ∷ [])) late 1 true late_b
answers = record { port = port_of (acknowledging_b (keep_alive_frame ∷ [])); port_after = following.device; before = refl; after = refl; polls = polls; none_denied = λ alone. refl }
