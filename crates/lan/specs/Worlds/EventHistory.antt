-- The history that events, notes and answers say, each list in the order in which they came.
use Rattle.std.specs.Prelude.{◌≡◌, ℕ, ◌-◌, List, [], ◌∷◌, length, vec_len, vec_capacity}
use Rattle.std.specs.Global.{Vec}
use Rattle.lan.specs.Worlds.AtLink.History.{Counts, Entry}
use Rattle.lan.specs.declared.at_link.history.answer.Answer.{Answer}
use Rattle.lan.specs.declared.at_link.history.event.Event.{Event}
use Rattle.lan.specs.declared.history.Counts as Kept
use Rattle.lan.specs.declared.history.Note.{Note}

abbrev pub counts_in : Kept.Counts → Counts
counts_in c = record { sent_a = c.sent_a; sent_b = c.sent_b; waiting_a = c.waiting_a; waiting_b = c.waiting_b }

abbrev pub entry : Event → Note → Answer → Entry
entry event note answer = record { event = event; answer = answer; before = counts_in note.before; found = note.found }

-- the newest first, before an older history
abbrev pub history_from : List Entry → List Event → List Note → List Answer → List Entry
history_from past [] notes answers = past
history_from past (event ∷ events) [] answers = past
history_from past (event ∷ events) (note ∷ notes) [] = past
history_from past (event ∷ events) (note ∷ notes) (answer ∷ answers) = history_from (entry event note answer ∷ past) events notes answers

-- what happened, and for how much more there is room
pub record PastValue : Type 0 where
  pub entries : List Entry
  pub room : ℕ

abbrev pub spare : {X : Type 0} → Vec X → ℕ
spare v = vec_capacity v - vec_len v

pub record AreAsMany (events : List Event) (notes : List Note) (answers : List Answer) : Type 0 where
  pub one_note_each : length notes ≡ length events
  pub one_answer_each : length answers ≡ length events
