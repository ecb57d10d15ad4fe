-- The poll in which A reads the SYN of B and acknowledges it, on numerals.
use Rattle.std.proofs.Common.{inl, inr, true, false, [], ◌∷◌, Some, None, refl}
use Rattle.wire_address.specs.Address.{v4_number}
use Rattle.ip_wire.specs.HardwareAddress.TheVariants as Hardware
use Rattle.sim_link.specs.Port.{PortValue, PortMove}
use Rattle.lan.specs.Worlds.AtLink.Node.{at_port}
use Rattle.lan.specs.Worlds.AtLink.Steps.{PollsAt}
use Rattle.lan.specs.declared.at_link.history.event.Side.TheVariants.{A, B}
use Rattle.iface_ingress.specs.Arrives.{arrived}
use Rattle.iface_ingress.specs.Incoming.{IsContent}
use Rattle.iface_ingress.specs.Offer.TheVariants as Offer
use Rattle.iface_ingress.specs.Packet.{PacketValue, Segment, payload_written}
use Rattle.iface_ingress.specs.Socket.TheVariants as Kind
use Rattle.iface_ingress.specs.Sockets.{Offers}
use Rattle.iface_ingress.specs.Upper.{IsBrought}
use Rattle.iface_tables.specs.Inner.{InnerValue, with_next_ident}
use Rattle.iface_tables.specs.PathMtu.{mtu_towards}
use Rattle.iface_egress.specs.Departure.{Whole}
use Rattle.iface_egress.specs.IsTransmitted.{numbered}
use Rattle.iface_egress.specs.Set.{unmarked}
use Rattle.iface_egress.specs.declared.egress_path.Sent.TheVariants as Outcome
use Rattle.interface.specs.Delivered.{read_of}
use Rattle.interface.specs.Egress.{EgressStep, sending}
use Rattle.interface.specs.Host as Host
use Rattle.interface.specs.Ingress.{IngressStep}
use Rattle.interface.specs.Remote.{context_for}
use Rattle.interface.specs.Serve.{Leaves, ServesSlot, SendsBy}
use Rattle.interface.specs.declared.serve.Served.TheVariants as Turn
use Rattle.interface.specs.Pass.{passed}
use Rattle.interface.specs.Polls.{Polls, begun}
use Rattle.interface.specs.State.{State, state}
use Rattle.proof_stack.specs.Progress.Delivered.{reader_of}
use Rattle.proof_stack.specs.Progress.Numerals.{port_following}
use Rattle.proof_stack.specs.Progress.Segments.{asked_by}
use Rattle.proof_stack.specs.Progress.SettledNumerals.{ack_frame, found, opened, syn_ack, syn_ack_frame, syn_to}
use Rattle.proof_stack.proofs.Polls.SomeNodes.{answering, called_back, dialed, dialed_a, open_a}
use Rattle.proof_stack.proofs.Polls.Readers.{packet_read}
use Rattle.proof_stack.proofs.Polls.Segments.{carries}
use Rattle.proof_stack.proofs.Polls.SomeHosts.{nobody}
use Rattle.proof_stack.proofs.Polls.SomeSyns.{ack_formed, ack_packet, b_widths, item, now, port_of, state_of, syn_ack_formed, syn_ack_goes, syn_ack_offered, syn_ack_packet, syn_ack_read}

abbrev awaiting : State PortValue
awaiting = state_of (dialed_a (syn_ack_frame ∷ []))

abbrev begun_there : State PortValue
begun_there = begun now (begun now awaiting)

abbrev following : State PortValue
following = state (port_of (dialed_a [])) begun_there.host (unmarked (Kind.Tcp called_back) ∷ [])

abbrev remote : InnerValue
remote = found B

abbrev numbered_packet : PacketValue
numbered_packet = numbered remote syn_ack_packet

is_content : IsContent awaiting.host.inner.hardware awaiting.host.inner.checksums syn_ack_frame (Some (read_of remote (Whole Hardware.Ip numbered_packet)))
is_content = packet_read remote remote.ident Hardware.Ip syn_ack_packet (reader_of awaiting.host.inner) b_widths syn_ack_goes syn_ack_formed syn_ack_read []

is_segment : IsBrought begun_there.host.inner.checksums numbered_packet.header (payload_written remote.checksums numbered_packet.header numbered_packet.payload)
    (Some (Segment syn_ack []))
is_segment =
    carries PortMove remote now awaiting awaiting 0 dialed nobody answering (syn_to A) syn_ack [] syn_ack_offered Hardware.Ip syn_ack_goes syn_ack_formed
    syn_ack_read remote.ident b_widths []

step_in : IngressStep PortMove now (begun now awaiting) (Some true) following
unfolding v4_number
step_in = (
  syn_ack_frame,
  following.device,
  (refl, refl),
  refl,
  (
    Some (read_of remote (Whole Hardware.Ip numbered_packet)),
    is_content,
    (
      arrived begun_there.host.inner following.slots None,
      (refl, (Some (Segment syn_ack []), is_segment, record { inner = refl; slots_are = refl; reply = refl })),
      refl,
      refl,
      refl,
    ),
    refl,
  ),
)

abbrev from : Host.Sender PortValue
from = sending now following

abbrev sent : State PortValue
sent = at_port (port_following following.device ack_frame) (open_a)

abbrev to : Host.Sender PortValue
to = Host.sender sent.device (with_next_ident (with_next_ident (found A))) None

its_offer : Offers (context_for (with_next_ident (found A)) (Kind.Tcp called_back)) (Kind.Tcp called_back) (Offer.Packet false) (Kind.Tcp (asked_by (with_next_ident (found A)) called_back))
unfolding v4_number mtu_towards
its_offer = (refl, refl)

leaves : Leaves PortMove None from nobody ack_packet Outcome.Gone to
unfolding v4_number mtu_towards
leaves = inr (following.device, (refl, refl), (((refl, refl), refl), refl), refl)

sends : SendsBy PortMove None (Some ack_packet) from (item (asked_by (with_next_ident (found A)) called_back)) false (Turn.Next true) to (item (opened A))
unfolding v4_number mtu_towards
sends = (ack_packet, refl, ack_formed, (Outcome.Gone, leaves, refl, refl, ack_formed))

its_turn : ServesSlot PortMove None from (unmarked (Kind.Tcp called_back)) (Turn.Next true) to (unmarked (Kind.Tcp (opened A)))
unfolding v4_number mtu_towards
its_turn = (Offer.Packet false, Kind.Tcp (asked_by (with_next_ident (found A)) called_back), its_offer, sends)

step_out : EgressStep PortMove now following (Some true) sent
step_out = (
  passed to sent.slots true,
  inr (from, (refl, refl), inl (true, to, unmarked (Kind.Tcp (opened A)), its_turn, refl)),
  refl,
  refl,
)

polls : Polls PortMove now 1 awaiting true sent
polls = (following, true, inr (true, following, step_in, (refl, refl)), inr (true, sent, step_out, (refl, refl)))

pub opens : PollsAt (dialed_a (syn_ack_frame ∷ [])) now 1 true (open_a)
opens = record { port = port_of (dialed_a (syn_ack_frame ∷ [])); port_after = sent.device; before = refl; after = refl; polls = polls; none_denied = λ alone. refl }
