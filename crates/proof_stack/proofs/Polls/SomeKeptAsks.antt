-- The poll in which a keep-alive of A goes, on numerals.
use Rattle.std.proofs.Common.{inl, inr, true, false, [], Some, None, refl}
use Rattle.wire_address.specs.Address.{v4_number}
use Rattle.sim_link.specs.Port.{PortValue, PortMove}
use Rattle.lan.specs.Worlds.AtLink.Node.{at_port}
use Rattle.lan.specs.Worlds.AtLink.Steps.{PollsAt}
use Rattle.iface_ingress.specs.Offer.TheVariants as Offer
use Rattle.iface_ingress.specs.Socket.TheVariants as Kind
use Rattle.iface_ingress.specs.Sockets.{Offers}
use Rattle.iface_tables.specs.Inner.{with_next_ident}
use Rattle.iface_tables.specs.PathMtu.{mtu_towards}
use Rattle.iface_egress.specs.Set.{unmarked}
use Rattle.iface_egress.specs.declared.egress_path.Sent.TheVariants as Outcome
use Rattle.interface.specs.Egress.{EgressStep, sending}
use Rattle.interface.specs.Host as Host
use Rattle.interface.specs.Ingress.{IngressStep}
use Rattle.interface.specs.Remote.{context_for}
use Rattle.interface.specs.Serve.{Leaves, ServesSlot, SendsBy}
use Rattle.interface.specs.declared.serve.Served.TheVariants as Turn
use Rattle.interface.specs.Pass.{passed}
use Rattle.interface.specs.Polls.{Polls, begun}
use Rattle.interface.specs.State.{State}
use Rattle.proof_stack.specs.Progress.Numerals.{port_following}
use Rattle.proof_stack.specs.Progress.Segments.{asked_by}
use Rattle.proof_stack.specs.Progress.KeepAliveNumerals.{a_late, keep_alive_frame, kept_asking, kept_through, late}
use Rattle.proof_stack.proofs.Polls.SomeKept.{kept_asking_a, kept_through_a}
use Rattle.proof_stack.proofs.Polls.SomeKeptAlive.{alive_formed, alive_packet}
use Rattle.proof_stack.proofs.Polls.SomeHosts.{nobody}
use Rattle.proof_stack.proofs.Polls.SomeSyns.{item, port_of, state_of}

abbrev old : State PortValue
old = state_of kept_through_a

abbrev begun_first : State PortValue
begun_first = begun late (begun late old)

looks : IngressStep PortMove late (begun late old) None begun_first
looks = ((refl, λ _. refl), refl)

abbrev from : Host.Sender PortValue
from = sending late begun_first

abbrev sent : State PortValue
sent = at_port (port_following begun_first.device keep_alive_frame) (kept_asking_a [])

abbrev to : Host.Sender PortValue
to = Host.sender sent.device (with_next_ident a_late) None

its_offer : Offers (context_for a_late (Kind.Tcp kept_through)) (Kind.Tcp kept_through) (Offer.Packet false) (Kind.Tcp (asked_by a_late kept_through))
unfolding v4_number mtu_towards
its_offer = (refl, refl)

leaves : Leaves PortMove None from nobody alive_packet Outcome.Gone to
unfolding v4_number mtu_towards
leaves = inr (begun_first.device, (refl, refl), (((refl, refl), refl), refl), refl)

sends : SendsBy PortMove None (Some alive_packet) from (item (asked_by a_late kept_through)) false (Turn.Next true) to (item kept_asking)
unfolding v4_number mtu_towards
sends = (alive_packet, refl, alive_formed, (Outcome.Gone, leaves, refl, refl, alive_formed))

its_turn : ServesSlot PortMove None from (unmarked (Kind.Tcp kept_through)) (Turn.Next true) to (unmarked (Kind.Tcp kept_asking))
unfolding v4_number mtu_towards
its_turn = (Offer.Packet false, Kind.Tcp (asked_by a_late kept_through), its_offer, sends)

step_out : EgressStep PortMove late begun_first (Some true) sent
step_out = (
  passed to sent.slots true,
  inr (from, (refl, refl), inl (true, to, unmarked (Kind.Tcp kept_asking), its_turn, refl)),
  refl,
  refl,
)

polls : Polls PortMove late 1 old true sent
polls = (begun_first, false, inl (looks, refl), inr (true, sent, step_out, (refl, refl)))

pub asks : PollsAt kept_through_a late 1 true (kept_asking_a [])
asks = record { port = port_of kept_through_a; port_after = sent.device; before = refl; after = refl; polls = polls; none_denied = λ alone. refl }
