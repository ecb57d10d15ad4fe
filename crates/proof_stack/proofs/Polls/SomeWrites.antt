-- The poll in which A sends abc, on numerals.
use Rattle.std.proofs.Common.{inl, inr, true, false, [], Some, None, refl}
use Rattle.wire_address.specs.Address.{v4_number}
use Rattle.sim_link.specs.Port.{PortValue, PortMove}
use Rattle.lan.specs.Worlds.AtLink.Node.{at_port}
use Rattle.lan.specs.Worlds.AtLink.Steps.{PollsAt}
use Rattle.iface_ingress.specs.Offer.TheVariants as Offer
use Rattle.iface_ingress.specs.Socket.TheVariants as Kind
use Rattle.iface_ingress.specs.Sockets.{Offers}
use Rattle.iface_tables.specs.Inner.{with_next_ident}
use Rattle.iface_tables.specs.PathMtu.{mtu_towards}
use Rattle.iface_egress.specs.Set.{unmarked}
use Rattle.iface_egress.specs.declared.egress_path.Sent.TheVariants as Outcome
use Rattle.interface.specs.Egress.{EgressStep, sending}
use Rattle.interface.specs.Host as Host
use Rattle.interface.specs.Ingress.{IngressStep}
use Rattle.interface.specs.Remote.{context_for}
use Rattle.interface.specs.Serve.{Leaves, ServesSlot, SendsBy}
use Rattle.interface.specs.declared.serve.Served.TheVariants as Turn
use Rattle.interface.specs.Pass.{passed}
use Rattle.interface.specs.Polls.{Polls, begun}
use Rattle.interface.specs.State.{State}
use Rattle.proof_stack.specs.Progress.Numerals.{port_following}
use Rattle.proof_stack.specs.Progress.Segments.{asked_by}
use Rattle.proof_stack.proofs.Polls.SomeTexts.{push_formed, push_packet}
use Rattle.proof_stack.specs.Progress.SettledNumerals.{a_second, push_frame, writing, written}
use Rattle.proof_stack.proofs.Polls.SomeNodes.{writing_a, written_a}
use Rattle.proof_stack.proofs.Polls.SomeHosts.{nobody}
use Rattle.proof_stack.proofs.Polls.SomeSyns.{item, now, port_of, state_of}

abbrev old : State PortValue
old = state_of (writing_a)

abbrev begun_first : State PortValue
begun_first = begun now (begun now old)

looks : IngressStep PortMove now (begun now old) None begun_first
looks = ((refl, λ _. refl), refl)

abbrev from : Host.Sender PortValue
from = sending now begun_first

abbrev sent : State PortValue
sent = at_port (port_following begun_first.device push_frame) (written_a [])

abbrev to : Host.Sender PortValue
to = Host.sender sent.device (with_next_ident (a_second)) None

its_offer : Offers (context_for (a_second) (Kind.Tcp writing)) (Kind.Tcp writing) (Offer.Packet false) (Kind.Tcp (asked_by (a_second) writing))
unfolding v4_number mtu_towards
its_offer = (refl, refl)

leaves : Leaves PortMove None from nobody push_packet Outcome.Gone to
unfolding v4_number mtu_towards
leaves = inr (begun_first.device, (refl, refl), (((refl, refl), refl), refl), refl)

sends : SendsBy PortMove None (Some push_packet) from (item (asked_by (a_second) writing)) false (Turn.Next true) to (item written)
unfolding v4_number mtu_towards
sends = (push_packet, refl, push_formed, (Outcome.Gone, leaves, refl, refl, push_formed))

its_turn : ServesSlot PortMove None from (unmarked (Kind.Tcp writing)) (Turn.Next true) to (unmarked (Kind.Tcp written))
unfolding v4_number mtu_towards
its_turn = (Offer.Packet false, Kind.Tcp (asked_by (a_second) writing), its_offer, sends)

step_out : EgressStep PortMove now begun_first (Some true) sent
step_out = (
  passed to sent.slots true,
  inr (from, (refl, refl), inl (true, to, unmarked (Kind.Tcp written), its_turn, refl)),
  refl,
  refl,
)

polls : Polls PortMove now 1 old true sent
polls = (begun_first, false, inl (looks, refl), inr (true, sent, step_out, (refl, refl)))

pub writes : PollsAt (writing_a) now 1 true (written_a [])
writes = record { port = port_of (writing_a); port_after = sent.device; before = refl; after = refl; polls = polls; none_denied = λ alone. refl }
