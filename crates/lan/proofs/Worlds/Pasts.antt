-- The history that events, notes and answers say.
use Rattle.std.proofs.Common.{◌≡◌, List, [], ◌∷◌, ◌++◌, map, length, refl, sym, ◌∙◌, ap, append_assoc, length-append, arith}
use Rattle.std.proofs.lemmas.Grind.{common_steps}
use Rattle.std.proofs.lemmas.List.{reverse-append}
use Rattle.lan.specs.Worlds.AtLink.History.{Entry}
use Rattle.lan.specs.declared.at_link.history.answer.Answer.{Answer}
use Rattle.lan.specs.declared.at_link.history.event.Event.{Event}
use Rattle.lan.specs.Worlds.AtLink.Runs.{answers_of}
use Rattle.lan.specs.Worlds.EventHistory.{entry, history_from, AreAsMany}
use Rattle.lan.specs.declared.history.Note.{Note}

module _ (event : Event) (note : Note) (answer : Answer) where
  push_from : (past : List Entry) (events : List Event) (notes : List Note) (answers : List Answer) → length notes ≡ length events →
      length answers ≡ length events
      → history_from past (events ++ event ∷ []) (notes ++ note ∷ []) (answers ++ answer ∷ []) ≡ entry event note answer ∷
      history_from past events notes answers
  push_from past [] [] [] m n = refl
  push_from past [] [] (a ∷ answers) m n = absurd (omega arith)
  push_from past [] (x ∷ notes) answers m n = absurd (omega arith)
  push_from past (e ∷ events) [] answers m n = absurd (omega arith)
  push_from past (e ∷ events) (x ∷ notes) [] m n = absurd (omega arith)
  push_from past (e ∷ events) (x ∷ notes) (a ∷ answers) m n = push_from (entry e x a ∷ past) events notes answers (omega arith) (omega arith)

  -- one more event comes to the front
  pub pushed : (events : List Event) (notes : List Note) (answers : List Answer) → AreAsMany events notes answers
      → history_from [] (events ++ event ∷ []) (notes ++ note ∷ []) (answers ++ answer ∷ []) ≡ entry event note answer ∷ history_from [] events notes answers
  pushed events notes answers many = push_from [] events notes answers many.one_note_each many.one_answer_each

  pub still_as_many : (events : List Event) (notes : List Note) (answers : List Answer) → AreAsMany events notes answers
      → AreAsMany (events ++ event ∷ []) (notes ++ note ∷ []) (answers ++ answer ∷ [])
  still_as_many events notes answers many = record {
    one_note_each = omega (arith, length-append events (event ∷ []), length-append notes (note ∷ []), many.one_note_each);
    one_answer_each = omega (arith, length-append events (event ∷ []), length-append answers (answer ∷ []), many.one_answer_each);
  }

answers_from : (past : List Entry) (events : List Event) (notes : List Note) (answers : List Answer) → length notes ≡ length events →
    length answers ≡ length events
    → answers_of (history_from past events notes answers) ≡ answers_of past ++ answers
answers_from past [] notes [] m n = grind (arith, common_steps)
answers_from past [] notes (a ∷ answers) m n = absurd (omega arith)
answers_from past (e ∷ events) [] answers m n = absurd (omega arith)
answers_from past (e ∷ events) (x ∷ notes) [] m n = absurd (omega arith)
answers_from past (e ∷ events) (x ∷ notes) (a ∷ answers) m n =
    answers_from (entry e x a ∷ past) events notes answers (omega arith) (omega arith)
    ∙ ap (λ (before : List Answer). before ++ answers) (reverse-append (a ∷ []) (map (λ (y : Entry). y.answer) past))
    ∙ append_assoc (answers_of past) (a ∷ []) answers

-- the answers that are kept are those of the history
pub answers_kept : (events : List Event) (notes : List Note) (answers : List Answer) → AreAsMany events notes answers
    → answers ≡ answers_of (history_from [] events notes answers)
answers_kept events notes answers many = sym (answers_from [] events notes answers many.one_note_each many.one_answer_each)
