-- The poll in which B reads the SYN of A and sends its own, on numerals.
use Rattle.std.proofs.Common.{inl, inr, true, false, [], ◌∷◌, Some, None, refl}
use Rattle.wire_address.specs.Address.{v4_number}
use Rattle.ip_wire.specs.HardwareAddress.TheVariants as Hardware
use Rattle.sim_link.specs.Port.{PortValue, PortMove}
use Rattle.lan.specs.Worlds.AtLink.Node.{at_port}
use Rattle.lan.specs.Worlds.AtLink.Steps.{PollsAt}
use Rattle.lan.specs.declared.at_link.history.event.Side.TheVariants.{A, B}
use Rattle.iface_ingress.specs.Arrives.{arrived}
use Rattle.iface_ingress.specs.Incoming.{IsContent}
use Rattle.iface_ingress.specs.Offer.TheVariants as Offer
use Rattle.iface_ingress.specs.Packet.{PacketValue, Segment, payload_written}
use Rattle.iface_ingress.specs.Socket.TheVariants as Kind
use Rattle.iface_ingress.specs.Sockets.{Offers}
use Rattle.iface_ingress.specs.Upper.{IsBrought}
use Rattle.iface_tables.specs.Inner.{InnerValue, with_next_ident}
use Rattle.iface_tables.specs.PathMtu.{mtu_towards}
use Rattle.iface_egress.specs.Departure.{Whole}
use Rattle.iface_egress.specs.IsTransmitted.{numbered}
use Rattle.iface_egress.specs.Set.{unmarked}
use Rattle.iface_egress.specs.declared.egress_path.Sent.TheVariants as Outcome
use Rattle.interface.specs.Delivered.{read_of}
use Rattle.interface.specs.Egress.{EgressStep, sending}
use Rattle.interface.specs.Host as Host
use Rattle.interface.specs.Ingress.{IngressStep}
use Rattle.interface.specs.Remote.{context_for}
use Rattle.interface.specs.Serve.{Leaves, ServesSlot, SendsBy}
use Rattle.interface.specs.declared.serve.Served.TheVariants as Turn
use Rattle.interface.specs.Pass.{passed}
use Rattle.interface.specs.Polls.{Polls, begun}
use Rattle.interface.specs.State.{State, state}
use Rattle.proof_stack.specs.Progress.Delivered.{reader_of}
use Rattle.proof_stack.specs.Progress.Numerals.{port_following}
use Rattle.proof_stack.specs.Progress.Segments.{asked_by}
use Rattle.proof_stack.specs.Progress.SettledNumerals.{found, syn, syn_ack_frame, syn_frame, syn_to}
use Rattle.proof_stack.proofs.Polls.SomeNodes.{answered, answered_b, answering, called, listening, listening_b}
use Rattle.proof_stack.proofs.Polls.Readers.{packet_read}
use Rattle.proof_stack.proofs.Polls.Segments.{carries}
use Rattle.proof_stack.proofs.Polls.SomeHosts.{nobody}
use Rattle.proof_stack.proofs.Polls.SomeSyns.{a_widths, item, now, port_of, state_of, syn_ack_formed, syn_ack_packet, syn_formed, syn_goes, syn_offered, syn_packet, syn_read}

abbrev awaiting : State PortValue
awaiting = state_of (listening_b (syn_frame ∷ []))

abbrev begun_there : State PortValue
begun_there = begun now (begun now awaiting)

abbrev following : State PortValue
following = state (port_of (listening_b [])) begun_there.host (unmarked (Kind.Tcp answering) ∷ [])

abbrev remote : InnerValue
remote = found A

abbrev numbered_packet : PacketValue
numbered_packet = numbered remote syn_packet

is_content : IsContent awaiting.host.inner.hardware awaiting.host.inner.checksums syn_frame (Some (read_of remote (Whole Hardware.Ip numbered_packet)))
is_content = packet_read remote remote.ident Hardware.Ip syn_packet (reader_of awaiting.host.inner) a_widths syn_goes syn_formed syn_read []

is_segment : IsBrought begun_there.host.inner.checksums numbered_packet.header (payload_written remote.checksums numbered_packet.header numbered_packet.payload)
    (Some (Segment syn []))
is_segment =
    carries PortMove remote now awaiting awaiting 0 listening nobody called (syn_to B) syn [] syn_offered Hardware.Ip syn_goes syn_formed
    syn_read remote.ident a_widths []

step_in : IngressStep PortMove now (begun now awaiting) (Some true) following
unfolding v4_number
step_in = (
  syn_frame,
  following.device,
  (refl, refl),
  refl,
  (
    Some (read_of remote (Whole Hardware.Ip numbered_packet)),
    is_content,
    (
      arrived begun_there.host.inner following.slots None,
      (refl, (Some (Segment syn []), is_segment, record { inner = refl; slots_are = refl; reply = refl })),
      refl,
      refl,
      refl,
    ),
    refl,
  ),
)

abbrev from : Host.Sender PortValue
from = sending now following

abbrev sent : State PortValue
sent = at_port (port_following following.device syn_ack_frame) (answered_b [])

abbrev to : Host.Sender PortValue
to = Host.sender sent.device (with_next_ident (found B)) None

its_offer : Offers (context_for (found B) (Kind.Tcp answering)) (Kind.Tcp answering) (Offer.Packet false) (Kind.Tcp (asked_by (found B) answering))
unfolding v4_number mtu_towards
its_offer = (refl, refl)

leaves : Leaves PortMove None from nobody syn_ack_packet Outcome.Gone to
unfolding v4_number mtu_towards
leaves = inr (following.device, (refl, refl), (((refl, refl), refl), refl), refl)

sends : SendsBy PortMove None (Some syn_ack_packet) from (item (asked_by (found B) answering)) false (Turn.Next true) to (item answered)
unfolding v4_number mtu_towards
sends = (syn_ack_packet, refl, syn_ack_formed, (Outcome.Gone, leaves, refl, refl, syn_ack_formed))

its_turn : ServesSlot PortMove None from (unmarked (Kind.Tcp answering)) (Turn.Next true) to (unmarked (Kind.Tcp answered))
unfolding v4_number mtu_towards
its_turn = (Offer.Packet false, Kind.Tcp (asked_by (found B) answering), its_offer, sends)

step_out : EgressStep PortMove now following (Some true) sent
step_out = (
  passed to sent.slots true,
  inr (from, (refl, refl), inl (true, to, unmarked (Kind.Tcp answered), its_turn, refl)),
  refl,
  refl,
)

polls : Polls PortMove now 1 awaiting true sent
polls = (following, true, inr (true, following, step_in, (refl, refl)), inr (true, sent, step_out, (refl, refl)))

pub answers : PollsAt (listening_b (syn_frame ∷ [])) now 1 true (answered_b [])
answers = record { port = port_of (listening_b (syn_frame ∷ [])); port_after = sent.device; before = refl; after = refl; polls = polls; none_denied = λ alone. refl }
