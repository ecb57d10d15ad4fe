-- The history that a pair's fields show.
use Rattle.std.proofs.Common.{◌≡◌, List, [], ◌∷◌, ◌++◌, map, length, refl, sym, ◌∙◌, ap, append_assoc, arith}
use Rattle.std.proofs.lemmas.Grind.{common_steps}
use Rattle.std.proofs.lemmas.List.{reverse-append}
use Rattle.tcp_refinement.specs.declared.pair.event.PairAnswer.{PairAnswer}
use Rattle.tcp_refinement.specs.Pair.History.{Entry, answers_of}
use Rattle.tcp_pair.specs.Invariant.{history_from}
use Rattle.tcp_pair.specs.declared.pair.Taken.{Taken}

-- one more event and its answer come to the front
pub history_from-push :
    (past : List Entry) (taken : List Taken) (answers : List PairAnswer) (t : Taken) (answer : PairAnswer) → length taken ≡ length answers
    → history_from past (taken ++ t ∷ []) (answers ++ answer ∷ []) ≡ record { event = t.event; answer = answer; found = t.found } ∷
    history_from past taken answers
history_from-push past [] [] t answer same = refl
history_from-push past [] (a ∷ answers) t answer same = absurd (omega arith)
history_from-push past (e ∷ taken) [] t answer same = absurd (omega arith)
history_from-push past (e ∷ taken) (a ∷ answers) t answer same =
    history_from-push (record { event = e.event; answer = a; found = e.found } ∷ past) taken answers t answer (omega arith)

answers_of-history_from :
    (past : List Entry) (taken : List Taken) (answers : List PairAnswer) → length taken ≡ length answers
    → answers_of (history_from past taken answers) ≡ answers_of past ++ answers
answers_of-history_from past [] [] same = grind (arith, common_steps)
answers_of-history_from past [] (a ∷ answers) same = absurd (omega arith)
answers_of-history_from past (e ∷ taken) [] same = absurd (omega arith)
answers_of-history_from past (e ∷ taken) (a ∷ answers) same =
    answers_of-history_from (record { event = e.event; answer = a; found = e.found } ∷ past) taken answers (omega arith)
    ∙ ap (λ (before : List PairAnswer). before ++ answers) (reverse-append (a ∷ []) (map (λ (x : Entry). x.answer) past))
    ∙ append_assoc (answers_of past) (a ∷ []) answers

-- the answers that are kept are those of the history
pub answers_kept : (taken : List Taken) (answers : List PairAnswer) → length taken ≡ length answers → answers ≡ answers_of (history_from [] taken answers)
answers_kept taken answers same = sym (answers_of-history_from [] taken answers same)
