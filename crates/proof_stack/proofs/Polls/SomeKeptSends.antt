-- The polls in which A, whose user asked for keep-alives, sends abc, and then has nothing to do, on numerals.
use Rattle.std.proofs.Common.{inl, inr, true, false, [], Some, None, refl}
use Rattle.wire_address.specs.Address.{v4_number}
use Rattle.sim_link.specs.Port.{PortValue, PortMove}
use Rattle.lan.specs.Worlds.AtLink.Node.{at_port}
use Rattle.lan.specs.Worlds.AtLink.Steps.{PollsAt}
use Rattle.iface_ingress.specs.Offer.TheVariants as Offer
use Rattle.iface_ingress.specs.Socket.TheVariants as Kind
use Rattle.iface_ingress.specs.Sockets.{Offers}
use Rattle.iface_tables.specs.Inner.{with_next_ident}
use Rattle.iface_tables.specs.PathMtu.{mtu_towards}
use Rattle.iface_egress.specs.Set.{unmarked}
use Rattle.iface_egress.specs.declared.egress_path.Sent.TheVariants as Outcome
use Rattle.interface.specs.Egress.{EgressStep, sending}
use Rattle.interface.specs.Host as Host
use Rattle.interface.specs.Ingress.{IngressStep}
use Rattle.interface.specs.Remote.{context_for}
use Rattle.interface.specs.Serve.{Leaves, ServesSlot, SendsBy}
use Rattle.interface.specs.declared.serve.Served.TheVariants as Turn
use Rattle.interface.specs.Pass.{passed}
use Rattle.interface.specs.Polls.{Polls, begun}
use Rattle.interface.specs.State.{State}
use Rattle.proof_stack.specs.Progress.Numerals.{port_following}
use Rattle.proof_stack.specs.Progress.Segments.{asked_by}
use Rattle.proof_stack.proofs.Polls.SomeTexts.{push_formed, push_packet}
use Rattle.proof_stack.specs.Progress.KeepAliveNumerals.{kept, kept_a, kept_waiting, kept_written}
use Rattle.proof_stack.specs.Progress.SettledNumerals.{a_later, a_second, a_third, later, push_frame}
use Rattle.proof_stack.proofs.Polls.SomeKept.{kept_idle, kept_idle_a, kept_waiting_a, kept_written_a}
use Rattle.proof_stack.proofs.Polls.SomeHosts.{nobody}
use Rattle.proof_stack.proofs.Polls.SomeSyns.{item, now, port_of, state_of}

abbrev old : State PortValue
old = state_of kept_a

abbrev begun_first : State PortValue
begun_first = begun now (begun now old)

looks : IngressStep PortMove now (begun now old) None begun_first
looks = ((refl, λ _. refl), refl)

abbrev from : Host.Sender PortValue
from = sending now begun_first

abbrev sent : State PortValue
sent = at_port (port_following begun_first.device push_frame) kept_written_a

abbrev to : Host.Sender PortValue
to = Host.sender sent.device (with_next_ident a_second) None

its_offer : Offers (context_for a_second (Kind.Tcp kept)) (Kind.Tcp kept) (Offer.Packet false) (Kind.Tcp (asked_by a_second kept))
unfolding v4_number mtu_towards
its_offer = (refl, refl)

leaves : Leaves PortMove None from nobody push_packet Outcome.Gone to
unfolding v4_number mtu_towards
leaves = inr (begun_first.device, (refl, refl), (((refl, refl), refl), refl), refl)

sends : SendsBy PortMove None (Some push_packet) from (item (asked_by a_second kept)) false (Turn.Next true) to (item kept_written)
unfolding v4_number mtu_towards
sends = (push_packet, refl, push_formed, (Outcome.Gone, leaves, refl, refl, push_formed))

its_turn : ServesSlot PortMove None from (unmarked (Kind.Tcp kept)) (Turn.Next true) to (unmarked (Kind.Tcp kept_written))
unfolding v4_number mtu_towards
its_turn = (Offer.Packet false, Kind.Tcp (asked_by a_second kept), its_offer, sends)

step_out : EgressStep PortMove now begun_first (Some true) sent
step_out = (
  passed to sent.slots true,
  inr (from, (refl, refl), inl (true, to, unmarked (Kind.Tcp kept_written), its_turn, refl)),
  refl,
  refl,
)

polls : Polls PortMove now 1 old true sent
polls = (begun_first, false, inl (looks, refl), inr (true, sent, step_out, (refl, refl)))

pub may_send_data : PollsAt kept_a now 1 true kept_written_a
may_send_data = record { port = port_of kept_a; port_after = sent.device; before = refl; after = refl; polls = polls; none_denied = λ alone. refl }

-- THEN IT HAS NOTHING TO DO

abbrev found_now : State PortValue
found_now = begun now (begun now (state_of kept_written_a))

none_comes_now : IngressStep PortMove now (begun now (state_of kept_written_a)) None found_now
none_comes_now = ((refl, λ given. refl), refl)

silent_now : Offers (context_for a_third (Kind.Tcp kept_written)) (Kind.Tcp kept_written) (Offer.Silent false) (Kind.Tcp kept_idle)
unfolding v4_number mtu_towards
silent_now = (refl, refl)

abbrev rested_now : State PortValue
rested_now = at_port (port_of kept_written_a) kept_idle_a

rests_now : EgressStep PortMove now found_now None rested_now
rests_now = (
  passed (sending now found_now) rested_now.slots false,
  inr (
    sending now found_now,
    (refl, refl),
    inl (false, sending now found_now, unmarked (Kind.Tcp kept_idle), (Offer.Silent false, Kind.Tcp kept_idle, silent_now, (refl, refl, refl)), refl),
  ),
  refl,
  refl,
)

in_vain_now : Polls PortMove now 1 (state_of kept_written_a) false rested_now
in_vain_now = (found_now, false, inl (none_comes_now, refl), inl (rests_now, refl))

pub idles : PollsAt kept_written_a now 1 false kept_idle_a
idles =
    record { port = port_of kept_written_a; port_after = port_of kept_written_a; before = refl; after = refl; polls = in_vain_now; none_denied = λ alone. refl }

-- NOR TEN MILLISECONDS LATER

abbrev found : State PortValue
found = begun later (begun later (state_of kept_idle_a))

none_comes : IngressStep PortMove later (begun later (state_of kept_idle_a)) None found
none_comes = ((refl, λ given. refl), refl)

silent : Offers (context_for a_later (Kind.Tcp kept_idle)) (Kind.Tcp kept_idle) (Offer.Silent false) (Kind.Tcp kept_waiting)
unfolding v4_number mtu_towards
silent = (refl, refl)

abbrev rested : State PortValue
rested = at_port (port_of kept_idle_a) (kept_waiting_a [])

rests : EgressStep PortMove later found None rested
rests = (
  passed (sending later found) rested.slots false,
  inr (
    sending later found,
    (refl, refl),
    inl (false, sending later found, unmarked (Kind.Tcp kept_waiting), (Offer.Silent false, Kind.Tcp kept_waiting, silent, (refl, refl, refl)), refl),
  ),
  refl,
  refl,
)

in_vain : Polls PortMove later 1 (state_of kept_idle_a) false rested
in_vain = (found, false, inl (none_comes, refl), inl (rests, refl))

pub waits : PollsAt kept_idle_a later 1 false (kept_waiting_a [])
waits =
    record { port = port_of kept_idle_a; port_after = port_of kept_idle_a; before = refl; after = refl; polls = in_vain; none_denied = λ alone. refl }
