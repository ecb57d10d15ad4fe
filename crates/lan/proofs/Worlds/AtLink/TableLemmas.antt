-- The tables are what the history says.
use Rattle.std.proofs.Common.{◌≡◌, ◌≢◌, ℕ, ◌+◌, ◌<◌, ◌==◌, ◌&&◌, Bool, true, false, if◌then◌else◌, List, [], ◌∷◌, length, Option, Some, None, refl, sym, ap}
use Rattle.std.proofs.Common.{◌∙◌, subst, arith}
use Rattle.std.specs.Prelude.{slice_set, replicate}
use Rattle.std.proofs.lemmas.List.{get_or-set_same, get_or-set_other, get_or-replicate, length-set, length-replicate, length-append}
use Rattle.std.proofs.lemmas.Bool.{eqb-true, eqb-false}
use Rattle.lan.specs.declared.at_link.history.answer.Answer.{Answer}
use Rattle.lan.specs.declared.at_link.history.event.Side.{Side}
use Rattle.lan.specs.declared.at_link.history.record.Opening.{Opening}
use Rattle.lan.specs.declared.at_link.history.record.SocketRecord.{SocketRecord}
use Rattle.lan.specs.Worlds.AtLink.Kinds.{same_side, Kind, kind_of}
use Rattle.lan.specs.Worlds.AtLink.Call.{SocketCall}
use Rattle.lan.specs.Worlds.AtLink.Kinds.Act.{Calls}
use Rattle.lan.specs.Worlds.AtLink.Kinds.Kind.{OfHost}
use Rattle.lan.specs.Worlds.AtLink.History.{Entry, call_in, call_of, first_of, opening_by, bytes_written, written, opening}
use Rattle.lan.specs.Worlds.AtLink.Tables.{no_record, record_after, record_at, table_after, table_of, record_of}

pub first_of-none : (o : Option Opening) → first_of o None ≡ o
first_of-none None = refl
first_of-none (Some o) = refl

length_after : (kind : Kind) (answer : Answer) (side : Side) (table : List SocketRecord) → length (table_after kind answer side table) ≡ length table
length_after (OfHost s (Calls i call)) answer side table = by (same_side s side) where
  by : (t : Bool) → length (if t then slice_set table i (record_after (record_at table i) call answer) else table) ≡ length table
  by true = length-set table i (record_after (record_at table i) call answer)
  by false = refl
length_after kind answer side table = refl

pub length_table : (history : List Entry) (side : Side) (slots : ℕ) → length (table_of history side slots) ≡ slots
length_table [] side slots = length-replicate slots no_record
length_table (e ∷ past) side slots = length_after (kind_of e.event) e.answer side (table_of past side slots) ∙ length_table past side slots

-- a record after an entry, which may be no call of its socket
abbrev recorded : SocketRecord → Option SocketCall → Answer → SocketRecord
recorded r call answer = record { opened = first_of r.opened (opening_by call answer); accepted = r.accepted + length (bytes_written call answer) }

recorded_none : (r : SocketRecord) (answer : Answer) → r ≡ recorded r None answer
recorded_none r answer =
    ap (λ (o : Option Opening). record r { opened = o }) (sym (first_of-none r.opened))
    ∙ ap (λ (n : ℕ). record { opened = first_of r.opened None; accepted = n }) (let more : r.accepted ≡ r.accepted + 0 = omega arith in more)

record_after_is : (kind : Kind) (answer : Answer) (side : Side) (table : List SocketRecord) (i : ℕ) → i < length table →
    record_at (table_after kind answer side table) i ≡ recorded (record_at table i) (call_in kind side i) answer
record_after_is (OfHost s (Calls j call)) answer side table i below = by (same_side s side) (j == i) refl where
  by :
      (t u : Bool) → (j == i) ≡ u
      → record_at (if t then slice_set table j (record_after (record_at table j) call answer) else table) i
      ≡ recorded (record_at table i) (if t && u then Some call else None) answer
  by true true e =
      let same : j ≡ i = eqb-true j i e in
      subst (λ (j : ℕ). record_at (slice_set table j (record_after (record_at table j) call answer)) i ≡
      recorded (record_at table i) (Some call) answer) (sym same)
      (get_or-set_same table i (record_after (record_at table i) call answer) no_record below)
  by true false e =
      let apart : i ≢ j = λ same. eqb-false j i e (sym same) in
      get_or-set_other table j i (record_after (record_at table j) call answer) no_record apart ∙ recorded_none (record_at table i) answer
  by false true e = recorded_none (record_at table i) answer
  by false false e = recorded_none (record_at table i) answer
record_after_is kind answer side table i below = recorded_none (record_at table i) answer

-- each record says what the history says of its socket
pub table_says : (history : List Entry) (side : Side) (slots i : ℕ) → i < slots → record_at (table_of history side slots) i ≡ record_of history side i
table_says [] side slots i below = get_or-replicate slots i no_record no_record below
table_says (e ∷ past) side slots i below =
    let size = length_table past side slots in
    record_after_is (kind_of e.event) e.answer side (table_of past side slots) i (omega arith)
    ∙ ap (λ (r : SocketRecord). recorded r (call_of e side i) e.answer) (table_says past side slots i below)
    ∙ ap (λ (n : ℕ). record { opened = opening (e ∷ past) side i; accepted = n })
    (sym (length-append (written past side i) (bytes_written (call_of e side i) e.answer)))
