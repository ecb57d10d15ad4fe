-- The poll in which B acknowledges abc, on numerals.
use Rattle.std.proofs.Common.{inl, inr, true, false, Some, None, refl}
use Rattle.wire_address.specs.Address.{v4_number}
use Rattle.sim_link.specs.Port.{PortValue, PortMove}
use Rattle.lan.specs.Worlds.AtLink.Node.{at_port}
use Rattle.lan.specs.Worlds.AtLink.Steps.{PollsAt}
use Rattle.lan.specs.declared.at_link.history.event.Side.TheVariants.{B}
use Rattle.iface_ingress.specs.Offer.TheVariants as Offer
use Rattle.iface_ingress.specs.Socket.TheVariants as Kind
use Rattle.iface_ingress.specs.Sockets.{Offers}
use Rattle.iface_tables.specs.Inner.{with_next_ident}
use Rattle.iface_tables.specs.PathMtu.{mtu_towards}
use Rattle.iface_egress.specs.Set.{unmarked}
use Rattle.iface_egress.specs.declared.egress_path.Sent.TheVariants as Outcome
use Rattle.interface.specs.Egress.{EgressStep, sending}
use Rattle.interface.specs.Host as Host
use Rattle.interface.specs.Ingress.{IngressStep}
use Rattle.interface.specs.Remote.{context_for}
use Rattle.interface.specs.Serve.{Leaves, ServesSlot, SendsBy}
use Rattle.interface.specs.declared.serve.Served.TheVariants as Turn
use Rattle.interface.specs.Pass.{passed}
use Rattle.interface.specs.Polls.{Polls, begun}
use Rattle.interface.specs.State.{State}
use Rattle.proof_stack.specs.Progress.Numerals.{port_following}
use Rattle.proof_stack.specs.Progress.Segments.{asked_by}
use Rattle.proof_stack.proofs.Polls.SomeTexts.{last_formed, last_packet}
use Rattle.proof_stack.specs.Progress.SettledNumerals.{b_later, heard, last_frame, later, through, through_b}
use Rattle.proof_stack.proofs.Polls.SomeNodes.{heard_b}
use Rattle.proof_stack.proofs.Polls.SomeHosts.{nobody}
use Rattle.proof_stack.proofs.Polls.SomeSyns.{item, port_of, state_of}

abbrev old : State PortValue
old = state_of (heard_b)

abbrev begun_first : State PortValue
begun_first = begun later (begun later old)

looks : IngressStep PortMove later (begun later old) None begun_first
looks = ((refl, λ _. refl), refl)

abbrev from : Host.Sender PortValue
from = sending later begun_first

abbrev sent : State PortValue
sent = at_port (port_following begun_first.device last_frame) (through_b)

abbrev to : Host.Sender PortValue
to = Host.sender sent.device (with_next_ident (b_later)) None

its_offer : Offers (context_for (b_later) (Kind.Tcp heard)) (Kind.Tcp heard) (Offer.Packet false) (Kind.Tcp (asked_by (b_later) heard))
unfolding v4_number mtu_towards
its_offer = (refl, refl)

leaves : Leaves PortMove None from nobody last_packet Outcome.Gone to
unfolding v4_number mtu_towards
leaves = inr (begun_first.device, (refl, refl), (((refl, refl), refl), refl), refl)

sends : SendsBy PortMove None (Some last_packet) from (item (asked_by (b_later) heard)) false (Turn.Next true) to (item (through B))
unfolding v4_number mtu_towards
sends = (last_packet, refl, last_formed, (Outcome.Gone, leaves, refl, refl, last_formed))

its_turn : ServesSlot PortMove None from (unmarked (Kind.Tcp heard)) (Turn.Next true) to (unmarked (Kind.Tcp (through B)))
unfolding v4_number mtu_towards
its_turn = (Offer.Packet false, Kind.Tcp (asked_by (b_later) heard), its_offer, sends)

step_out : EgressStep PortMove later begun_first (Some true) sent
step_out = (
  passed to sent.slots true,
  inr (from, (refl, refl), inl (true, to, unmarked (Kind.Tcp (through B)), its_turn, refl)),
  refl,
  refl,
)

polls : Polls PortMove later 1 old true sent
polls = (begun_first, false, inl (looks, refl), inr (true, sent, step_out, (refl, refl)))

pub tells : PollsAt (heard_b) later 1 true (through_b)
tells = record { port = port_of (heard_b); port_after = sent.device; before = refl; after = refl; polls = polls; none_denied = λ alone. refl }
