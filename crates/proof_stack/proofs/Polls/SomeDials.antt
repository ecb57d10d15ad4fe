-- The poll in which A sends its SYN, on numerals.
use Rattle.std.proofs.Common.{inl, inr, true, false, [], Some, None, refl}
use Rattle.wire_address.specs.Address.{v4_number}
use Rattle.sim_link.specs.Port.{PortValue, PortMove}
use Rattle.lan.specs.Worlds.AtLink.Node.{at_port}
use Rattle.lan.specs.Worlds.AtLink.Steps.{PollsAt}
use Rattle.lan.specs.declared.at_link.history.event.Side.TheVariants.{A}
use Rattle.iface_ingress.specs.Offer.TheVariants as Offer
use Rattle.iface_ingress.specs.Socket.TheVariants as Kind
use Rattle.iface_ingress.specs.Sockets.{Offers}
use Rattle.iface_tables.specs.Inner.{with_next_ident}
use Rattle.iface_tables.specs.PathMtu.{mtu_towards}
use Rattle.iface_egress.specs.Set.{unmarked}
use Rattle.iface_egress.specs.declared.egress_path.Sent.TheVariants as Outcome
use Rattle.interface.specs.Egress.{EgressStep, sending}
use Rattle.interface.specs.Host as Host
use Rattle.interface.specs.Ingress.{IngressStep}
use Rattle.interface.specs.Remote.{context_for}
use Rattle.interface.specs.Serve.{Leaves, ServesSlot, SendsBy}
use Rattle.interface.specs.declared.serve.Served.TheVariants as Turn
use Rattle.interface.specs.Pass.{passed}
use Rattle.interface.specs.Polls.{Polls, begun}
use Rattle.interface.specs.State.{State}
use Rattle.proof_stack.specs.Progress.Numerals.{port_following}
use Rattle.proof_stack.specs.Progress.Segments.{asked_by}
use Rattle.proof_stack.specs.Progress.SettledNumerals.{found, syn_frame}
use Rattle.proof_stack.proofs.Polls.SomeNodes.{called, calling_a, dialed, dialed_a}
use Rattle.proof_stack.proofs.Polls.SomeHosts.{nobody}
use Rattle.proof_stack.proofs.Polls.SomeSyns.{item, now, port_of, state_of, syn_formed, syn_packet}

abbrev old : State PortValue
old = state_of calling_a

abbrev begun_a : State PortValue
begun_a = begun now (begun now old)

looks : IngressStep PortMove now (begun now old) None begun_a
looks = ((refl, λ _. refl), refl)

abbrev from : Host.Sender PortValue
from = sending now begun_a

abbrev sent : State PortValue
sent = at_port (port_following begun_a.device syn_frame) (dialed_a [])

abbrev to : Host.Sender PortValue
to = Host.sender sent.device (with_next_ident (found A)) None

its_offer : Offers (context_for (found A) (Kind.Tcp called)) (Kind.Tcp called) (Offer.Packet false) (Kind.Tcp (asked_by (found A) called))
unfolding v4_number mtu_towards
its_offer = (refl, refl)

leaves : Leaves PortMove None from nobody syn_packet Outcome.Gone to
unfolding v4_number mtu_towards
leaves = inr (begun_a.device, (refl, refl), (((refl, refl), refl), refl), refl)

sends : SendsBy PortMove None (Some syn_packet) from (item (asked_by (found A) called)) false (Turn.Next true) to (item dialed)
unfolding v4_number mtu_towards
sends = (syn_packet, refl, syn_formed, (Outcome.Gone, leaves, refl, refl, syn_formed))

its_turn : ServesSlot PortMove None from (unmarked (Kind.Tcp called)) (Turn.Next true) to (unmarked (Kind.Tcp dialed))
unfolding v4_number mtu_towards
its_turn = (Offer.Packet false, Kind.Tcp (asked_by (found A) called), its_offer, sends)

step_out : EgressStep PortMove now begun_a (Some true) sent
step_out = (
  passed to sent.slots true,
  inr (from, (refl, refl), inl (true, to, unmarked (Kind.Tcp dialed), its_turn, refl)),
  refl,
  refl,
)

polls : Polls PortMove now 1 old true sent
polls = (begun_a, false, inl (looks, refl), inr (true, sent, step_out, (refl, refl)))

pub dials : PollsAt calling_a now 1 true (dialed_a [])
dials = record { port = port_of calling_a; port_after = sent.device; before = refl; after = refl; polls = polls; none_denied = λ alone. refl }
