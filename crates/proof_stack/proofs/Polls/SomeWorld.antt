-- The run of a world on numerals that settles.
use Rattle.std.proofs.Common.{◌≡◌, ◌+◌, ◌*◌, ◌^◌, cond, Bool, true, false, ℕ, List, [], ◌∷◌, ◌++◌, Some, None, refl, sym, ap}
use Rattle.std.specs.Prelude.{nat_le, pos}
use Rattle.std.specs.List.{count_by}
use Rattle.std.proofs.lemmas.List.{append-nil}
use Rattle.wire_address.specs.Address.{v4_number}
use Rattle.net_base.specs.Medium.TheVariants as Medium
use Rattle.iface_tables.specs.Inner.{with_next_ident}
use Rattle.iface_tables.specs.PathMtu.{end_towards, mtu_towards}
use Rattle.lan.specs.declared.at_link.history.answer.Answer.TheVariants as To
use Rattle.lan.specs.declared.at_link.history.answer.Refused.TheVariants as For
use Rattle.lan.specs.declared.at_link.history.event.Event.TheVariants as E
use Rattle.lan.specs.declared.at_link.history.event.Side.{Side}
use Rattle.lan.specs.declared.at_link.history.event.Side.TheVariants.{A, B}
use Rattle.lan.specs.Worlds.AtLink.Origins.{begins_datagram}
use Rattle.lan.specs.Worlds.AtLink.PacketsSafe.{IsTcpAt}
use Rattle.lan.specs.Worlds.AtLink.PeerSides.{ArePartners}
use Rattle.lan.specs.Worlds.AtLink.Safe.{net_of}
use Rattle.lan.specs.Worlds.AtLink.Node.{NodeValue, Nodes}
use Rattle.lan.specs.Worlds.AtLink.Tables.{first_refusal}
use Rattle.lan.specs.Worlds.Events.{AreTyped}
use Rattle.lan.specs.Worlds.Settling.{AreIdle}
use Rattle.lan.specs.Worlds.Still.{IsStill, StillRun}
use Rattle.proof_stack.specs.Progress.Settled.{IsConnected}
use Rattle.proof_stack.specs.Progress.SettledNumerals.{a_asked, a_later, a_second, a_third, ack_brought, ack_frame, ack_sent, all_through, answer_brought}
use Rattle.proof_stack.specs.Progress.SettledNumerals.{b_first, b_later, both_open, counts, entry, first_host, found, history, hosts, last_brought, last_frame}
use Rattle.proof_stack.specs.Progress.SettledNumerals.{last_sent, later, slot, push_frame, starts, syn_ack_frame, syn_answered, syn_brought, syn_frame}
use Rattle.proof_stack.specs.Progress.SettledNumerals.{syn_sent, text_brought, text_read, text_sent, through, through_a, through_b, told_to_call, told_to_listen}
use Rattle.proof_stack.specs.Progress.SettledNumerals.{told_to_send}
use Rattle.proof_stack.proofs.Polls.SomeNodes.{answered_b, calling_a, dialed_a, initial_a, initial_b, heard_b, listening_b, open_a}
use Rattle.proof_stack.proofs.Polls.SomeNodes.{open_b, writing_a, written_a}
use Rattle.proof_stack.specs.Worlds.Hosts.{text}
use Rattle.proof_stack.proofs.Polls.SomeAnswers.{answers}
use Rattle.proof_stack.proofs.Polls.SomeDials.{dials}
use Rattle.proof_stack.proofs.Polls.SomeHears.{hears}
use Rattle.proof_stack.proofs.Polls.SomeLearns.{learns}
use Rattle.proof_stack.proofs.Polls.SomeOpened.{is_opened}
use Rattle.proof_stack.proofs.Polls.SomeOpens.{opens}
use Rattle.proof_stack.proofs.Polls.SomeTells.{tells}
use Rattle.proof_stack.proofs.Polls.SomeWrites.{writes}
use Rattle.proof_stack.proofs.Polls.SomeStarts.{at_first, at_later, both_stay, stays_a, stays_b}

abbrev both : NodeValue → NodeValue → Nodes
both a b = record { a = a; b = b }

-- THE HOSTS STAY

a_at_first : IsStill (first_host A).inner (first_host A).inner
a_at_first = stays_a (pos 0) at_first (first_host A).inner.ident true

a_following_one : IsStill (first_host A).inner (with_next_ident (found A))
a_following_one = stays_a (pos 0) at_first (with_next_ident (found A)).ident false

pub a_following_two : IsStill (first_host A).inner a_second
a_following_two = stays_a (pos 0) at_first a_second.ident false

pub a_following_three : IsStill (first_host A).inner a_third
a_following_three = stays_a (pos 0) at_first a_third.ident false

pub a_at_last : IsStill (first_host A).inner a_later
a_at_last = stays_a later at_later a_third.ident false

b_at_first : IsStill (first_host B).inner (first_host B).inner
b_at_first = stays_b (pos 0) at_first (first_host B).inner.ident true

pub b_following_one : IsStill (first_host B).inner b_first
b_following_one = stays_b (pos 0) at_first b_first.ident false

pub b_at_last : IsStill (first_host B).inner (with_next_ident b_later)
b_at_last = stays_b later at_later (with_next_ident b_later).ident false

-- THE CALLS

begins : StillRun starts [] (both initial_a initial_b)
begins = (refl, both_stay initial_a initial_b a_at_first b_at_first)

listens : StillRun starts told_to_listen (both initial_a (listening_b []))
listens = (
  both initial_a initial_b,
  begins,
  record { allowed = refl; counted = refl; alone = (refl, refl); happens = record { acts = (refl, refl, refl); rests = refl } },
  both_stay initial_a (listening_b []) a_at_first b_at_first,
)

called : StillRun starts told_to_call (both calling_a (listening_b []))
unfolding v4_number
called = (
  both initial_a (listening_b []),
  listens,
  record { allowed = refl; counted = refl; alone = (refl, refl); happens = record { acts = (refl, refl, refl); rests = refl } },
  both_stay calling_a (listening_b []) a_at_first b_at_first,
)

-- THE SYN OF A

dialed : StillRun starts syn_sent (both (dialed_a []) (listening_b []))
dialed = (
  both calling_a (listening_b []),
  called,
  record { allowed = refl; counted = refl; alone = (refl, refl); happens = record { acts = (true, dials, refl, refl); rests = refl } },
  both_stay (dialed_a []) (listening_b []) a_following_one b_at_first,
)

-- a frame that is handed over without padding comes as it went
syn_came : both (dialed_a []) (listening_b (syn_frame ∷ [])) ≡ both (dialed_a []) (listening_b ((syn_frame ++ []) ∷ []))
syn_came = ap (λ (frame : List ℕ). both (dialed_a []) (listening_b (frame ∷ []))) (sym (append-nil syn_frame))

brought : StillRun starts syn_brought (both (dialed_a []) (listening_b (syn_frame ∷ [])))
brought = (
  both (dialed_a []) (listening_b []),
  dialed,
  record { allowed = refl; counted = refl; alone = (refl, refl); happens = (refl, refl, syn_came) },
  both_stay (dialed_a []) (listening_b (syn_frame ∷ [])) a_following_one b_at_first,
)

-- THAT OF B

answered : StillRun starts syn_answered (both (dialed_a []) (answered_b []))
answered = (
  both (dialed_a []) (listening_b (syn_frame ∷ [])),
  brought,
  record { allowed = refl; counted = refl; alone = (refl, refl); happens = record { acts = (true, answers, refl, refl); rests = refl } },
  both_stay (dialed_a []) (answered_b []) a_following_one b_following_one,
)

syn_ack_came : both (dialed_a (syn_ack_frame ∷ [])) (answered_b []) ≡ both (dialed_a ((syn_ack_frame ++ []) ∷ [])) (answered_b [])
syn_ack_came = ap (λ (frame : List ℕ). both (dialed_a (frame ∷ [])) (answered_b [])) (sym (append-nil syn_ack_frame))

answer_came : StillRun starts answer_brought (both (dialed_a (syn_ack_frame ∷ [])) (answered_b []))
answer_came = (
  both (dialed_a []) (answered_b []),
  answered,
  record { allowed = refl; counted = refl; alone = (refl, refl); happens = (refl, refl, syn_ack_came) },
  both_stay (dialed_a (syn_ack_frame ∷ [])) (answered_b []) a_following_one b_following_one,
)

-- THE ACKNOWLEDGEMENT OF A

-- a poll is taken of a host that sent one frame, or two, whatever is in them
pub few : (test : List ℕ → Bool) (frame : List ℕ)
    → first_refusal ((nat_le (2 ^ 16) (count_by test (frame ∷ []) + 1 * 2), For.TooManyCut) ∷ (false, For.Moment) ∷ []) ≡ None
few test frame = by (test frame) where
  by : (x : Bool) → first_refusal ((nat_le (2 ^ 16) (0 + cond x 1 0 + 1 * 2), For.TooManyCut) ∷ (false, For.Moment) ∷ []) ≡ None
  by true = refl
  by false = refl

acknowledged : StillRun starts ack_sent (both open_a (answered_b []))
acknowledged = (
  both (dialed_a (syn_ack_frame ∷ [])) (answered_b []),
  answer_came,
  record { allowed = few (begins_datagram Medium.Ip) syn_frame; counted = refl; alone = (refl, refl); happens = record { acts = (true, opens, refl, refl); rests = refl } },
  both_stay open_a (answered_b []) a_following_two b_following_one,
)

ack_came : both open_a (answered_b (ack_frame ∷ [])) ≡ both open_a (answered_b ((ack_frame ++ []) ∷ []))
ack_came = ap (λ (frame : List ℕ). both open_a (answered_b (frame ∷ []))) (sym (append-nil ack_frame))

came : StillRun starts ack_brought (both open_a (answered_b (ack_frame ∷ [])))
came = (
  both open_a (answered_b []),
  acknowledged,
  record { allowed = refl; counted = refl; alone = (refl, refl); happens = (refl, refl, ack_came) },
  both_stay open_a (answered_b (ack_frame ∷ [])) a_following_two b_following_one,
)

pub opened_both : StillRun starts both_open (both open_a (open_b []))
opened_both = (
  both open_a (answered_b (ack_frame ∷ [])),
  came,
  record { allowed = few (begins_datagram Medium.Ip) syn_ack_frame; counted = refl; alone = (refl, refl); happens = record { acts = (true, is_opened, refl, refl); rests = refl } },
  both_stay open_a (open_b []) a_following_two b_following_one,
)

-- THE TEXT

unfoldable pub wrote : StillRun starts told_to_send (both writing_a (open_b []))
unfolding v4_number mtu_towards
wrote = (
  both open_a (open_b []),
  opened_both,
  record { allowed = refl; counted = refl; alone = (refl, refl); happens = record { acts = (refl, refl, refl); rests = refl } },
  both_stay writing_a (open_b []) a_following_two b_following_one,
)

unfoldable pub sent : StillRun starts text_sent (both (written_a []) (open_b []))
sent = (
  both writing_a (open_b []),
  wrote,
  record { allowed = refl; counted = refl; alone = (refl, refl); happens = record { acts = (true, writes, refl, refl); rests = refl } },
  both_stay (written_a []) (open_b []) a_following_three b_following_one,
)

pub text_came : both (written_a []) (open_b (push_frame ∷ [])) ≡ both (written_a []) (open_b ((push_frame ++ []) ∷ []))
text_came = ap (λ (frame : List ℕ). both (written_a []) (open_b (frame ∷ []))) (sym (append-nil push_frame))

unfoldable pub handed : StillRun starts text_brought (both (written_a []) (open_b (push_frame ∷ [])))
handed = (
  both (written_a []) (open_b []),
  sent,
  record { allowed = refl; counted = refl; alone = (refl, refl); happens = (refl, refl, text_came) },
  both_stay (written_a []) (open_b (push_frame ∷ [])) a_following_three b_following_one,
)

unfoldable pub read : StillRun starts text_read (both (written_a []) heard_b)
read = (
  both (written_a []) (open_b (push_frame ∷ [])),
  handed,
  record { allowed = few (begins_datagram Medium.Ip) syn_ack_frame; counted = refl; alone = (refl, refl); happens = record { acts = (true, hears, refl, refl); rests = refl } },
  both_stay (written_a []) heard_b a_following_three b_following_one,
)

-- ITS ACKNOWLEDGEMENT

unfoldable pub told : StillRun starts last_sent (both (written_a []) through_b)
told = (
  both (written_a []) heard_b,
  read,
  record { allowed = few (begins_datagram Medium.Ip) syn_ack_frame; counted = refl; alone = (refl, refl); happens = record { acts = (true, tells, refl, refl); rests = refl } },
  both_stay (written_a []) through_b a_following_three b_at_last,
)

pub last_came : both (written_a (last_frame ∷ [])) through_b ≡ both (written_a ((last_frame ++ []) ∷ [])) through_b
last_came = ap (λ (frame : List ℕ). both (written_a (frame ∷ [])) through_b) (sym (append-nil last_frame))

unfoldable pub handed_back : StillRun starts last_brought (both (written_a (last_frame ∷ [])) through_b)
handed_back = (
  both (written_a []) through_b,
  told,
  record { allowed = refl; counted = refl; alone = (refl, refl); happens = (refl, refl, last_came) },
  both_stay (written_a (last_frame ∷ [])) through_b a_following_three b_at_last,
)

unfoldable pub learned : StillRun starts all_through (both through_a through_b)
learned = (
  both (written_a (last_frame ∷ [])) through_b,
  handed_back,
  record { allowed = refl; counted = refl; alone = (refl, refl); happens = record { acts = (true, learns, refl, refl); rests = refl } },
  both_stay through_a through_b a_at_last b_at_last,
)

-- THE QUESTIONS

unfoldable pub asked : StillRun starts a_asked (both through_a through_b)
unfolding v4_number mtu_towards end_towards
asked = (
  both through_a through_b,
  learned,
  record { allowed = refl; counted = refl; alone = (refl, refl); happens = record { acts = (refl, refl, refl); rests = refl } },
  both_stay through_a through_b a_at_last b_at_last,
)

unfoldable pub stays : StillRun starts history hosts
unfolding v4_number mtu_towards end_towards
stays = (
  both through_a through_b,
  asked,
  record { allowed = refl; counted = refl; alone = (refl, refl); happens = record { acts = (refl, refl, refl); rests = refl } },
  both_stay through_a through_b a_at_last b_at_last,
)

-- WHAT ELSE IS ASKED

pub are_typed : AreTyped history
are_typed = (tt, (tt, (tt, (tt, (tt, (tt, (tt, (tt, (tt, (tt, (tt, (tt, (tt, (tt, (tt, (tt, (tt, (tt, tt))))))))))))))))))

pub are_peer_sides : ArePartners history A (slot A) (slot B)
are_peer_sides = record {
  one = record { local = 49_500; remote = Some 80 };
  another = record { local = 80; remote = None };
  opened = refl;
  peer_side_opened = refl;
  paired = refl;
}

pub is_caller : IsTcpAt (net_of (record { hosts = hosts; starts = starts; history = history })) A (slot A) (through A)
is_caller = refl

pub is_listener : IsTcpAt (net_of (record { hosts = hosts; starts = starts; history = history })) B (slot B) (through B)
is_listener = refl

pub connected : (side : Side) → IsConnected (through side)
unfolding v4_number mtu_towards
connected A = record { alive = refl; connected = refl; unpaused = refl }
connected B = record { alive = refl; connected = refl; unpaused = refl }

pub are_idle : AreIdle later history
are_idle = (
  all_through,
  a_asked,
  (entry (E.PollAt A later) (To.At None) (counts 3 2 0 0), refl, refl, refl),
  (entry (E.PollAt B later) (To.At None) (counts 3 2 0 0), refl, refl, refl),
)

-- and the text has arrived

pub waits_there : (through B).received.waiting ≡ text
unfolding v4_number mtu_towards
waits_there = refl
