-- The fifth round: a keep-alive goes, and is answered.
use Rattle.std.proofs.Common.{◌≡◌, true, false, List, [], ◌∷◌, ◌++◌, ℕ, refl, sym, ap, arith}
use Rattle.std.proofs.lemmas.Int.{ints}
use Rattle.std.proofs.lemmas.List.{append-nil}
use Rattle.net_base.specs.Time.{IsMoment}
use Rattle.iface_tables.specs.Inner.{with_next_ident}
use Rattle.lan.specs.declared.at_link.history.answer.Answer.TheVariants as To
use Rattle.lan.specs.declared.at_link.history.event.Event.TheVariants as E
use Rattle.lan.specs.declared.at_link.history.event.Side.TheVariants.{A, B}
use Rattle.lan.specs.Worlds.AtLink.History.{Entry}
use Rattle.lan.specs.Worlds.AtLink.Runs.{Leads}
use Rattle.lan.specs.Worlds.Still.{IsStill, StillRun}
use Rattle.proof_stack.specs.Progress.KeepAliveNumerals.{a_late, answer_frame, b_late, fifth_round, keep_alive_frame, late, late_a, late_b, fourth_round}
use Rattle.proof_stack.specs.Progress.SettledNumerals.{counts, entry, first_host, starts}
use Rattle.proof_stack.proofs.Polls.SomeKept.{acknowledging_b, both, kept_asking_a, kept_through_a}
use Rattle.proof_stack.proofs.Polls.SomeKeptAnswers.{answers}
use Rattle.proof_stack.proofs.Polls.SomeKeptAsks.{asks}
use Rattle.proof_stack.proofs.Polls.SomeStarts.{both_stay, stays_a, stays_b}
use Rattle.proof_stack.proofs.Polls.SomeWorld.{b_at_last}
use Rattle.proof_stack.proofs.Polls.SomeKeptFourth.{fourth_still}

-- THE HOSTS STAY

at_late : IsMoment late
at_late = (omega (arith, ints), omega (arith, ints))

a_at_late : IsStill (first_host A).inner (with_next_ident a_late)
a_at_late = stays_a late at_late (with_next_ident a_late).ident false

b_at_late : IsStill (first_host B).inner (with_next_ident b_late)
b_at_late = stays_b late at_late (with_next_ident b_late).ident false

-- THE ROUND

abbrev pub goes_alive : Entry
goes_alive = entry (E.Poll A late 1) (To.Poll true) (counts 3 2 0 0)

pub alive_goes : Leads fourth_round (both kept_through_a (acknowledging_b [])) goes_alive (both (kept_asking_a []) (acknowledging_b []))
alive_goes = record { allowed = refl; counted = refl; alone = (refl, refl); happens = record { acts = (true, asks, refl, refl); rests = refl } }

abbrev pub brought_alive : Entry
brought_alive = entry (E.Deliver A 3 []) To.Done (counts 4 2 0 0)

alive_came : both (kept_asking_a []) (acknowledging_b (keep_alive_frame ∷ [])) ≡ both (kept_asking_a []) (acknowledging_b ((keep_alive_frame ++ []) ∷ []))
alive_came = ap (λ (frame : List ℕ). both (kept_asking_a []) (acknowledging_b (frame ∷ []))) (sym (append-nil keep_alive_frame))

pub alive_comes : Leads (goes_alive ∷ fourth_round) (both (kept_asking_a []) (acknowledging_b [])) brought_alive
    (both (kept_asking_a []) (acknowledging_b (keep_alive_frame ∷ [])))
alive_comes = record { allowed = refl; counted = refl; alone = (refl, refl); happens = (refl, refl, alive_came) }

abbrev pub answers_so : Entry
answers_so = entry (E.Poll B late 1) (To.Poll true) (counts 4 2 0 1)

pub b_answers : Leads (brought_alive ∷ goes_alive ∷ fourth_round) (both (kept_asking_a []) (acknowledging_b (keep_alive_frame ∷ []))) answers_so
    (both (kept_asking_a []) late_b)
b_answers = record { allowed = refl; counted = refl; alone = (refl, refl); happens = record { acts = (true, answers, refl, refl); rests = refl } }

abbrev pub brought_answer : Entry
brought_answer = entry (E.Deliver B 2 []) To.Done (counts 4 3 0 0)

answer_came : both late_a late_b ≡ both (kept_asking_a ((answer_frame ++ []) ∷ [])) late_b
answer_came = ap (λ (frame : List ℕ). both (kept_asking_a (frame ∷ [])) late_b) (sym (append-nil answer_frame))

pub answer_arrives : Leads (answers_so ∷ brought_alive ∷ goes_alive ∷ fourth_round) (both (kept_asking_a []) late_b) brought_answer (both late_a late_b)
answer_arrives = record { allowed = refl; counted = refl; alone = (refl, refl); happens = (refl, refl, answer_came) }

pub fifth_still : StillRun starts fifth_round (both late_a late_b)
fifth_still = (both (kept_asking_a []) late_b, answered, answer_arrives, both_stay late_a late_b a_at_late b_at_late) where
  sent : StillRun starts (goes_alive ∷ fourth_round) (both (kept_asking_a []) (acknowledging_b []))
  sent =
      (both kept_through_a (acknowledging_b []), fourth_still, alive_goes, both_stay (kept_asking_a []) (acknowledging_b []) a_at_late b_at_last)

  brought : StillRun starts (brought_alive ∷ goes_alive ∷ fourth_round) (both (kept_asking_a []) (acknowledging_b (keep_alive_frame ∷ [])))
  brought = (
    both (kept_asking_a []) (acknowledging_b []),
    sent,
    alive_comes,
    both_stay (kept_asking_a []) (acknowledging_b (keep_alive_frame ∷ [])) a_at_late b_at_last,
  )

  answered : StillRun starts (answers_so ∷ brought_alive ∷ goes_alive ∷ fourth_round) (both (kept_asking_a []) late_b)
  answered = (
    both (kept_asking_a []) (acknowledging_b (keep_alive_frame ∷ [])),
    brought,
    b_answers,
    both_stay (kept_asking_a []) late_b a_at_late b_at_late,
  )
