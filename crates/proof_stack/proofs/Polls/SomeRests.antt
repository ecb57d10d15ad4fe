-- A round of two hosts at rest, on numerals: both are polled, and have nothing to do; then both are asked.
use Rattle.std.proofs.Common.{◌≡◌, inl, inr, ltb-true, false, List, [], ◌∷◌, None, Some, refl, sym}
use Rattle.wire_address.specs.Address.{v4_number}
use Rattle.sim_link.specs.Port.{PortMove, PortValue}
use Rattle.lan.specs.declared.at_link.history.answer.Answer.TheVariants as To
use Rattle.lan.specs.declared.at_link.history.event.Event.TheVariants as E
use Rattle.lan.specs.declared.at_link.history.event.Side.TheVariants.{A, B}
use Rattle.lan.specs.Worlds.AtLink.History.{Entry}
use Rattle.lan.specs.Worlds.AtLink.Runs.{Step, WorldValue}
use Rattle.tcp_block.specs.Value.{TcpValue}
use Rattle.lan.specs.Worlds.AtLink.Node.{NodeValue, Nodes, at_port}
use Rattle.lan.specs.Worlds.AtLink.Steps.{PollsAt}
use Rattle.lan.specs.Worlds.Settling.{IsServed, Settles, all_sent}
use Rattle.iface_ingress.specs.Offer.TheVariants as Offer
use Rattle.iface_ingress.specs.Socket.TheVariants as Kind
use Rattle.iface_ingress.specs.Sockets.{Offers}
use Rattle.iface_tables.specs.Inner.{with_next_ident}
use Rattle.iface_tables.specs.PathMtu.{end_towards, mtu_towards}
use Rattle.iface_egress.specs.Set.{unmarked}
use Rattle.interface.specs.Egress.{EgressStep, sending}
use Rattle.interface.specs.Ingress.{IngressStep}
use Rattle.interface.specs.Pass.{passed}
use Rattle.interface.specs.Polls.{Polls, begun}
use Rattle.interface.specs.Remote.{context_for}
use Rattle.interface.specs.State.{State}
use Rattle.proof_stack.specs.Progress.SettledNumerals.{a_later, b_later, counts, entry, history, hosts, later, starts, through, through_a, through_b}
use Rattle.proof_stack.specs.Progress.Segments.{asked_by}
use Rattle.proof_stack.proofs.Polls.SomeSyns.{port_of, state_of}

-- A

abbrev found_a : State PortValue
found_a = begun later (begun later (state_of through_a))

none_a : IngressStep PortMove later (begun later (state_of through_a)) None found_a
none_a = ((refl, λ given. refl), refl)

silent_a : Offers (context_for a_later (Kind.Tcp (through A))) (Kind.Tcp (through A)) (Offer.Silent false) (Kind.Tcp (through A))
unfolding v4_number mtu_towards
silent_a = (refl, refl)

abbrev rested_a : State PortValue
rested_a = at_port (port_of through_a) through_a

rests_a : EgressStep PortMove later found_a None rested_a
rests_a = (
  passed (sending later found_a) rested_a.slots false,
  inr (
    sending later found_a,
    (refl, refl),
    inl (
      false,
      sending later found_a,
      unmarked (Kind.Tcp (through A)),
      (Offer.Silent false, Kind.Tcp (through A), silent_a, (refl, refl, refl)),
      refl,
    ),
  ),
  refl,
  refl,
)

polls_a : Polls PortMove later 1 (state_of through_a) false rested_a
polls_a = (found_a, false, inl (none_a, refl), inl (rests_a, refl))

quiet_a : PollsAt through_a later 1 false through_a
quiet_a = record { port = port_of through_a; port_after = port_of through_a; before = refl; after = refl; polls = polls_a; none_denied = λ alone. refl }

-- B

-- its socket as it was asked again
abbrev again_b : TcpValue
again_b = asked_by (with_next_ident b_later) (through B)

abbrev pub still_b : NodeValue
still_b = record through_b { slots = unmarked (Kind.Tcp again_b) ∷ [] }

abbrev found_b : State PortValue
found_b = begun later (begun later (state_of through_b))

none_b : IngressStep PortMove later (begun later (state_of through_b)) None found_b
none_b = ((refl, λ given. refl), refl)

silent_b : Offers (context_for (with_next_ident b_later) (Kind.Tcp (through B))) (Kind.Tcp (through B)) (Offer.Silent false) (Kind.Tcp again_b)
unfolding v4_number mtu_towards
silent_b = (refl, refl)

abbrev rested_b : State PortValue
rested_b = at_port (port_of through_b) still_b

rests_b : EgressStep PortMove later found_b None rested_b
rests_b = (
  passed (sending later found_b) rested_b.slots false,
  inr (
    sending later found_b,
    (refl, refl),
    inl (
      false,
      sending later found_b,
      unmarked (Kind.Tcp again_b),
      (Offer.Silent false, Kind.Tcp again_b, silent_b, (refl, refl, refl)),
      refl,
    ),
  ),
  refl,
  refl,
)

polls_b : Polls PortMove later 1 (state_of through_b) false rested_b
polls_b = (found_b, false, inl (none_b, refl), inl (rests_b, refl))

pub quiet_b : PollsAt through_b later 1 false still_b
quiet_b = record { port = port_of through_b; port_after = port_of through_b; before = refl; after = refl; polls = polls_b; none_denied = λ alone. refl }

-- THE ROUND

abbrev polled_a : Entry
polled_a = entry (E.Poll A later 1) (To.Poll false) (counts 3 2 0 0)

abbrev polled_b : Entry
polled_b = entry (E.Poll B later 1) (To.Poll false) (counts 3 2 0 0)

abbrev asked_a : Entry
asked_a = entry (E.PollAt A later) (To.At None) (counts 3 2 0 0)

abbrev asked_b : Entry
asked_b = entry (E.PollAt B later) (To.At None) (counts 3 2 0 0)

abbrev at_first : WorldValue
at_first = record { hosts = hosts; starts = starts; history = history }

abbrev following_a : WorldValue
following_a = record at_first { history = polled_a ∷ history }

abbrev hosts_then : Nodes
hosts_then = record { a = through_a; b = still_b }

abbrev following_b : WorldValue
following_b = record { hosts = hosts_then; starts = starts; history = polled_b ∷ polled_a ∷ history }

abbrev between : WorldValue
between = record following_b { history = asked_a ∷ polled_b ∷ polled_a ∷ history }

abbrev pub in_the_end : WorldValue
in_the_end = record following_b { history = asked_b ∷ asked_a ∷ polled_b ∷ polled_a ∷ history }

poll_a : Step at_first (E.Poll A later 1) (To.Poll false) following_a
poll_a = record {
  entry = polled_a;
  event_kept = refl;
  answer_kept = refl;
  leads = record { allowed = refl; counted = refl; alone = (refl, refl); happens = record { acts = (false, quiet_a, refl, refl); rests = refl } };
  history = refl;
  starts = refl;
}

a_stays : through_a ≡ through_a
a_stays = refl

poll_b : Step following_a (E.Poll B later 1) (To.Poll false) following_b
poll_b = record {
  entry = polled_b;
  event_kept = refl;
  answer_kept = refl;
  leads = record { allowed = refl; counted = refl; alone = (refl, refl); happens = record { acts = (false, quiet_b, refl, refl); rests = a_stays } };
  history = refl;
  starts = refl;
}

ask_a : Step following_b (E.PollAt A later) (To.At None) between
unfolding v4_number mtu_towards end_towards
ask_a = record {
  entry = asked_a;
  event_kept = refl;
  answer_kept = refl;
  leads = record { allowed = refl; counted = refl; alone = (refl, refl); happens = record { acts = (refl, refl, refl); rests = refl } };
  history = refl;
  starts = refl;
}

ask_b : Step between (E.PollAt B later) (To.At None) in_the_end
unfolding v4_number mtu_towards end_towards
ask_b = record {
  entry = asked_b;
  event_kept = refl;
  answer_kept = refl;
  leads = record { allowed = refl; counted = refl; alone = (refl, refl); happens = record { acts = (refl, refl, refl); rests = refl } };
  history = refl;
  starts = refl;
}

serve_a : IsServed A later 1 3 3 at_first following_a
serve_a = record { answer = To.Poll false; polled = following_a; poll = poll_a; count = refl; delivers = refl }

serve_b : IsServed B later 1 2 2 following_a following_b
serve_b = record { answer = To.Poll false; polled = following_b; poll = poll_b; count = refl; delivers = refl }

-- links that are the same have sent as much
same_sent : (w : WorldValue) (then_hosts : Nodes) (h : List Entry) → then_hosts.a.link ≡ w.hosts.a.link → then_hosts.b.link ≡ w.hosts.b.link
    → all_sent w ≡ all_sent (record { hosts = then_hosts; starts = w.starts; history = h })
same_sent w then_hosts h a b =
    λ k. all_sent (record w { hosts = record { a = record w.hosts.a { link = sym a k }; b = record w.hosts.b { link = sym b k } } })

a_link : through_a.link ≡ through_a.link
a_link = refl

b_link : through_b.link ≡ through_b.link
b_link = refl

all_had_come : all_sent at_first ≡ all_sent following_b
all_had_come = same_sent at_first hosts_then (polled_b ∷ polled_a ∷ history) a_link b_link

pub settles : Settles 1 later 1 (Some later) at_first in_the_end
settles = (
  0,
  ltb-true 0 1 refl,
  all_sent at_first,
  all_sent at_first,
  at_first,
  (refl, refl, refl),
  (following_b, (following_a, serve_a, serve_b), inr ((all_had_come, refl, refl), None, None, (between, ask_a, ask_b), refl)),
)
