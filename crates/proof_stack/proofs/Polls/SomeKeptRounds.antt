-- Five rounds of two hosts, on numerals, where A's user asked for keep-alives.
use Rattle.std.proofs.Common.{◌≡◌, inl, inr, true, false, List, [], ◌∷◌, None, Some, ℕ, refl, arith}
use Rattle.std.specs.Prelude.{pos}
use Rattle.lan.specs.declared.at_link.history.answer.Answer.TheVariants as To
use Rattle.lan.specs.declared.at_link.history.event.Side.TheVariants.{A, B}
use Rattle.lan.specs.Worlds.AtLink.History.{Entry}
use Rattle.lan.specs.Worlds.AtLink.Runs.{Leads, Step, WorldValue}
use Rattle.lan.specs.Worlds.AtLink.Node.{Nodes}
use Rattle.lan.specs.Worlds.Settling.{IsRound, IsServed, Rounds, Settles}
use Rattle.proof_stack.specs.Progress.KeepAliveNumerals.{answer_frame, before, following, first_round, fourth_round, keep_alive_frame, kept_a, late, late_a, late_b}
use Rattle.proof_stack.specs.Progress.KeepAliveNumerals.{second_round, third_round, told_to_keep}
use Rattle.proof_stack.specs.Progress.SettledNumerals.{last_frame, later, push_frame, starts, through_b}
use Rattle.proof_stack.proofs.Polls.SomeKept.{acknowledging_b, both, kept_asking_a, kept_idle_a, kept_through_a, kept_waiting_a, kept_written_a}
use Rattle.proof_stack.proofs.Polls.SomeKeptFirst.{brought_text, goes_text, read_text, text_comes, text_goes, text_is_read}
use Rattle.proof_stack.proofs.Polls.SomeKeptSecond.{a_idles, a_is_asked, asked_a_first, asked_b_first, b_idles, b_is_asked, idle_so, idle_too}
use Rattle.proof_stack.proofs.Polls.SomeKeptThird.{a_waits, b_tells, brought_back, last_comes, told_back, waits_so}
use Rattle.proof_stack.proofs.Polls.SomeKeptFourth.{a_is_asked_then, a_learns, asked_a_then, asked_b_then, b_is_asked_then, b_rests, learned_so, rests_so}
use Rattle.proof_stack.proofs.Polls.SomeKeptFifth.{alive_comes, alive_goes, answer_arrives, answers_so, b_answers, brought_alive, brought_answer, goes_alive}
use Rattle.proof_stack.proofs.Polls.SomeNodes.{heard_b, open_b}

abbrev world : Nodes → List Entry → WorldValue
world hosts history = record { hosts = hosts; starts = starts; history = history }

-- an event that leads on is a step
taken : (past : List Entry) (from to : Nodes) (e : Entry) → Leads past from e to → Step (world from past) e.event e.answer (world to (e ∷ past))
taken past from to e leads = record { entry = e; event_kept = refl; answer_kept = refl; leads = leads; history = refl; starts = refl }

-- more went than had been handed over
one_more_went : ◌≡◌ {A = ℕ} 2 3 → ⊥
one_more_went same = absurd (omega (arith, same))

-- a frame waits
one_waits : (frame : List ℕ) → (frame ∷ []) ≡ [] → ⊥
one_waits frame none = absurd (cc)

-- THE FIRST

abbrev text_gone : WorldValue
text_gone = world (both kept_written_a (open_b [])) (goes_text ∷ told_to_keep)

abbrev text_brought : WorldValue
text_brought = world (both kept_written_a (open_b (push_frame ∷ []))) (brought_text ∷ goes_text ∷ told_to_keep)

abbrev following_first : WorldValue
following_first = world (both kept_written_a heard_b) first_round

a_first : IsServed A (pos 0) 1 2 3 before text_brought
a_first = record {
  answer = To.Poll true;
  polled = text_gone;
  poll = taken told_to_keep (both kept_a (open_b [])) (both kept_written_a (open_b [])) goes_text text_goes;
  count = refl;
  delivers = (
    To.Done,
    text_brought,
    taken (goes_text ∷ told_to_keep) (both kept_written_a (open_b [])) (both kept_written_a (open_b (push_frame ∷ []))) brought_text text_comes,
    refl,
  );
}

b_first : IsServed B (pos 0) 1 1 1 text_brought following_first
b_first = record {
  answer = To.Poll true;
  polled = following_first;
  poll =
      taken (brought_text ∷ goes_text ∷ told_to_keep) (both kept_written_a (open_b (push_frame ∷ []))) (both kept_written_a heard_b) read_text text_is_read;
  count = refl;
  delivers = refl;
}

first : IsRound 1 (pos 0) (record { a = 2; b = 1 }) (record { a = 3; b = 1 }) (Some (pos 0)) before following_first
first = (following_first, (text_brought, a_first, b_first), inl ((λ calm. one_more_went (λ k. (calm.0 k).a)), refl, refl))

-- THE SECOND

abbrev a_idle : WorldValue
a_idle = world (both kept_idle_a heard_b) (idle_so ∷ first_round)

abbrev both_idle : WorldValue
both_idle = world (both kept_idle_a heard_b) (idle_too ∷ idle_so ∷ first_round)

abbrev a_asked : WorldValue
a_asked = world (both kept_idle_a heard_b) (asked_a_first ∷ idle_too ∷ idle_so ∷ first_round)

abbrev following_second : WorldValue
following_second = world (both kept_idle_a heard_b) second_round

a_second : IsServed A (pos 0) 1 3 3 following_first a_idle
a_second = record {
  answer = To.Poll false;
  polled = a_idle;
  poll = taken first_round (both kept_written_a heard_b) (both kept_idle_a heard_b) idle_so a_idles;
  count = refl;
  delivers = refl;
}

b_second : IsServed B (pos 0) 1 1 1 a_idle both_idle
b_second = record {
  answer = To.Poll false;
  polled = both_idle;
  poll = taken (idle_so ∷ first_round) (both kept_idle_a heard_b) (both kept_idle_a heard_b) idle_too b_idles;
  count = refl;
  delivers = refl;
}

second : IsRound 1 (pos 0) (record { a = 3; b = 1 }) (record { a = 3; b = 1 }) (Some later) following_first following_second
second = (
  both_idle,
  (a_idle, a_second, b_second),
  inr (
    (refl, refl, refl),
    Some (pos 1_000_000),
    Some later,
    (
      a_asked,
      taken (idle_too ∷ idle_so ∷ first_round) (both kept_idle_a heard_b) (both kept_idle_a heard_b) asked_a_first a_is_asked,
      taken (asked_a_first ∷ idle_too ∷ idle_so ∷ first_round) (both kept_idle_a heard_b) (both kept_idle_a heard_b) asked_b_first b_is_asked,
    ),
    refl,
  ),
)

-- THE THIRD

abbrev a_polled : WorldValue
a_polled = world (both (kept_waiting_a []) heard_b) (waits_so ∷ second_round)

abbrev b_told : WorldValue
b_told = world (both (kept_waiting_a []) through_b) (told_back ∷ waits_so ∷ second_round)

abbrev following_third : WorldValue
following_third = world (both (kept_waiting_a (last_frame ∷ [])) through_b) third_round

a_third : IsServed A later 1 3 3 following_second a_polled
a_third = record {
  answer = To.Poll false;
  polled = a_polled;
  poll = taken second_round (both kept_idle_a heard_b) (both (kept_waiting_a []) heard_b) waits_so a_waits;
  count = refl;
  delivers = refl;
}

b_third : IsServed B later 1 1 2 a_polled following_third
b_third = record {
  answer = To.Poll true;
  polled = b_told;
  poll = taken (waits_so ∷ second_round) (both (kept_waiting_a []) heard_b) (both (kept_waiting_a []) through_b) told_back b_tells;
  count = refl;
  delivers = (
    To.Done,
    following_third,
    taken (told_back ∷ waits_so ∷ second_round) (both (kept_waiting_a []) through_b) (both (kept_waiting_a (last_frame ∷ [])) through_b) brought_back
        last_comes,
    refl,
  );
}

third : IsRound 1 later (record { a = 3; b = 1 }) (record { a = 3; b = 2 }) (Some later) following_second following_third
third = (following_third, (a_polled, a_third, b_third), inl ((λ calm. one_waits last_frame calm.1), refl, refl))

-- THE FOURTH

abbrev a_learned : WorldValue
a_learned = world (both kept_through_a through_b) (learned_so ∷ third_round)

abbrev b_rested : WorldValue
b_rested = world (both kept_through_a (acknowledging_b [])) (rests_so ∷ learned_so ∷ third_round)

abbrev a_asked_then : WorldValue
a_asked_then = world (both kept_through_a (acknowledging_b [])) (asked_a_then ∷ rests_so ∷ learned_so ∷ third_round)

abbrev following_fourth : WorldValue
following_fourth = world (both kept_through_a (acknowledging_b [])) fourth_round

a_fourth : IsServed A later 1 3 3 following_third a_learned
a_fourth = record {
  answer = To.Poll true;
  polled = a_learned;
  poll = taken third_round (both (kept_waiting_a (last_frame ∷ [])) through_b) (both kept_through_a through_b) learned_so a_learns;
  count = refl;
  delivers = refl;
}

b_fourth : IsServed B later 1 2 2 a_learned b_rested
b_fourth = record {
  answer = To.Poll false;
  polled = b_rested;
  poll = taken (learned_so ∷ third_round) (both kept_through_a through_b) (both kept_through_a (acknowledging_b [])) rests_so b_rests;
  count = refl;
  delivers = refl;
}

fourth : IsRound 1 later (record { a = 3; b = 2 }) (record { a = 3; b = 2 }) (Some late) following_third following_fourth
fourth = (
  b_rested,
  (a_learned, a_fourth, b_fourth),
  inr (
    (refl, refl, refl),
    Some late,
    None,
    (
      a_asked_then,
      taken (rests_so ∷ learned_so ∷ third_round) (both kept_through_a (acknowledging_b [])) (both kept_through_a (acknowledging_b [])) asked_a_then
          a_is_asked_then,
      taken (asked_a_then ∷ rests_so ∷ learned_so ∷ third_round) (both kept_through_a (acknowledging_b [])) (both kept_through_a (acknowledging_b []))
          asked_b_then b_is_asked_then,
    ),
    refl,
  ),
)

-- THE FIFTH

abbrev alive_gone : WorldValue
alive_gone = world (both (kept_asking_a []) (acknowledging_b [])) (goes_alive ∷ fourth_round)

abbrev alive_brought : WorldValue
alive_brought = world (both (kept_asking_a []) (acknowledging_b (keep_alive_frame ∷ []))) (brought_alive ∷ goes_alive ∷ fourth_round)

abbrev b_answered : WorldValue
b_answered = world (both (kept_asking_a []) late_b) (answers_so ∷ brought_alive ∷ goes_alive ∷ fourth_round)

a_fifth : IsServed A late 1 3 4 following_fourth alive_brought
a_fifth = record {
  answer = To.Poll true;
  polled = alive_gone;
  poll = taken fourth_round (both kept_through_a (acknowledging_b [])) (both (kept_asking_a []) (acknowledging_b [])) goes_alive alive_goes;
  count = refl;
  delivers = (
    To.Done,
    alive_brought,
    taken (goes_alive ∷ fourth_round) (both (kept_asking_a []) (acknowledging_b []))
        (both (kept_asking_a []) (acknowledging_b (keep_alive_frame ∷ []))) brought_alive alive_comes,
    refl,
  );
}

b_fifth : IsServed B late 1 2 3 alive_brought following
b_fifth = record {
  answer = To.Poll true;
  polled = b_answered;
  poll =
      taken (brought_alive ∷ goes_alive ∷ fourth_round) (both (kept_asking_a []) (acknowledging_b (keep_alive_frame ∷ [])))
      (both (kept_asking_a []) late_b) answers_so b_answers;
  count = refl;
  delivers = (
    To.Done,
    following,
    taken (answers_so ∷ brought_alive ∷ goes_alive ∷ fourth_round) (both (kept_asking_a []) late_b) (both late_a late_b) brought_answer answer_arrives,
    refl,
  );
}

fifth : IsRound 1 late (record { a = 3; b = 2 }) (record { a = 4; b = 3 }) (Some late) following_fourth following
fifth = (following, (alive_brought, a_fifth, b_fifth), inl ((λ calm. one_waits answer_frame calm.1), refl, refl))

-- ALL FIVE

one : Rounds 1 (pos 0) before 1 (pos 0) (record { a = 3; b = 1 }) following_first
one = (pos 0, record { a = 2; b = 1 }, before, (refl, refl, refl), first)

two : Rounds 1 (pos 0) before 2 later (record { a = 3; b = 1 }) following_second
two = (pos 0, record { a = 3; b = 1 }, following_first, one, second)

three : Rounds 1 (pos 0) before 3 later (record { a = 3; b = 2 }) following_third
three = (later, record { a = 3; b = 1 }, following_second, two, third)

four : Rounds 1 (pos 0) before 4 late (record { a = 3; b = 2 }) following_fourth
four = (later, record { a = 3; b = 2 }, following_third, three, fourth)

pub settles : Settles 1 (pos 0) 5 None before following
settles = (late, record { a = 4; b = 3 }, (late, record { a = 3; b = 2 }, following_fourth, four, fifth))
