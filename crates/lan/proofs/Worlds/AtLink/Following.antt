-- The record of a call's socket follows it.
use Rattle.std.proofs.Common.{◌≡◌, ◌<◌, ◌≤◌, ◌+◌, ◌^◌, ℕ, Bool, true, false, if◌then◌else◌, List, length, Option, None, Some, refl, subst, arith}
use Rattle.std.proofs.lemmas.List.{length-take}
use Rattle.std.specs.Prelude.{slice_set}
use Rattle.lan.specs.Worlds.AtLink.Call as Call
use Rattle.lan.specs.Worlds.AtLink.Call.{SocketCall}
use Rattle.lan.specs.Worlds.AtLink.Kinds.{same_side, Kind}
use Rattle.lan.specs.Worlds.AtLink.Kinds.Act.{Calls, Sets, Opens, Asks, Polls}
use Rattle.lan.specs.Worlds.AtLink.Kinds.Kind.{OfHost, OfLink}
use Rattle.lan.specs.Worlds.AtLink.History.{bytes_written}
use Rattle.lan.specs.Worlds.AtLink.Tables.{record_at, record_after, table_after}
use Rattle.lan.specs.declared.at_link.history.answer.Answer.{Answer}
use Rattle.lan.specs.declared.at_link.history.answer.Answer.TheVariants as To
use Rattle.lan.specs.declared.at_link.history.event.Side.{Side}
use Rattle.lan.specs.declared.at_link.history.record.SocketRecord.{SocketRecord}
use Rattle.lan.specs.Worlds.AtLink.Records.{slot_of, written_in, record_by, HasByteRoom, CanRise}

-- the records with that at a slot after an event
abbrev pub followed : Option ℕ → Kind → Answer → List SocketRecord → List SocketRecord
followed None kind answer table = table
followed (Some i) kind answer table = slice_set table i (record_by (record_at table i) kind answer)

by_side : (b : Bool) (s : Side) (i : ℕ) (call : SocketCall) (answer : Answer) (table : List SocketRecord)
    → followed (if b then Some i else None) (OfHost s (Calls i call)) answer table ≡
    (if b then slice_set table i (record_after (record_at table i) call answer) else table)
by_side true s i call answer table = refl
by_side false s i call answer table = refl

pub follows : (kind : Kind) (answer : Answer) (side : Side) (table : List SocketRecord) →
    followed (slot_of side kind) kind answer table ≡ table_after kind answer side table
follows (OfHost s (Calls i call)) answer side table = by_side (same_side s side) s i call answer table
follows (OfHost s (Sets setting)) answer side table = refl
follows (OfHost s (Opens room)) answer side table = refl
follows (OfHost s (Asks instant)) answer side table = refl
follows (OfHost s (Polls instant budget)) answer side table = refl
follows (OfLink act) answer side table = refl

-- ROOM

some_is : (i j : ℕ) → (let o : Option ℕ = Some i in o) ≡ Some j → i ≡ j
some_is i j is = cc

placed : (b : Bool) (i j : ℕ) → (if b then Some i else None) ≡ Some j → (b ≡ true) × (i ≡ j)
placed true i j is = (refl, some_is i j is)
placed false i j is = absurd cc

written_few : (bytes : List ℕ) (answer : Answer) → length (bytes_written (Some (Call.Send bytes)) answer) ≤ length bytes
written_few bytes (To.Count n) = omega (arith, length-take n bytes)
written_few bytes To.Done = omega arith
written_few bytes (To.Bytes read) = omega arith
written_few bytes (To.State state) = omega arith
written_few bytes (To.FromEndpoint endpoint read) = omega arith
written_few bytes (To.FromAddr address read) = omega arith
written_few bytes (To.Poll changed) = omega arith
written_few bytes (To.At due_instant) = omega arith
written_few bytes (To.Error fault) = omega arith

sends_few : (bytes : List ℕ) (answer : Answer) (r : SocketRecord) → r.accepted + length bytes < 2 ^ 29 →
    CanRise r (length (bytes_written (Some (Call.Send bytes)) answer))
sends_few bytes answer r few some = omega (arith, few, written_few bytes answer)

pub room_at : (side : Side) (kind : Kind) (answer : Answer) (table : List SocketRecord) (i : ℕ) → slot_of side kind ≡ Some i → HasByteRoom side table kind →
    CanRise (record_at table i) (written_in kind answer)
room_at side (OfHost s (Calls j (Call.Send bytes))) answer table i is room =
    let at = placed (same_side s side) j i is in
    subst (λ (n : ℕ). CanRise (record_at table n) (length (bytes_written (Some (Call.Send bytes)) answer))) at.1
    (sends_few bytes answer (record_at table j) (room at.0))
room_at side (OfHost s (Calls j (Call.Listen port))) answer table i is room = λ some. absurd (omega (arith, some))
room_at side (OfHost s (Calls j (Call.Connect remote port))) answer table i is room = λ some. absurd (omega (arith, some))
room_at side (OfHost s (Calls j (Call.Recv limit))) answer table i is room = λ some. absurd (omega (arith, some))
room_at side (OfHost s (Calls j Call.Close)) answer table i is room = λ some. absurd (omega (arith, some))
room_at side (OfHost s (Calls j Call.Abort)) answer table i is room = λ some. absurd (omega (arith, some))
room_at side (OfHost s (Calls j Call.State)) answer table i is room = λ some. absurd (omega (arith, some))
room_at side (OfHost s (Calls j (Call.Set setting))) answer table i is room = λ some. absurd (omega (arith, some))
room_at side (OfHost s (Calls j (Call.Bind port))) answer table i is room = λ some. absurd (omega (arith, some))
room_at side (OfHost s (Calls j (Call.Ident ident))) answer table i is room = λ some. absurd (omega (arith, some))
room_at side (OfHost s (Calls j (Call.SendTo remote bytes))) answer table i is room = λ some. absurd (omega (arith, some))
room_at side (OfHost s (Calls j (Call.SendIcmp remote bytes))) answer table i is room = λ some. absurd (omega (arith, some))
room_at side (OfHost s (Calls j (Call.SendRaw bytes))) answer table i is room = λ some. absurd (omega (arith, some))
room_at side (OfHost s (Calls j (Call.RecvFrom limit))) answer table i is room = λ some. absurd (omega (arith, some))
room_at side (OfHost s (Sets setting)) answer table i is room = λ some. absurd (omega (arith, some))
room_at side (OfHost s (Opens room')) answer table i is room = λ some. absurd (omega (arith, some))
room_at side (OfHost s (Asks instant)) answer table i is room = λ some. absurd (omega (arith, some))
room_at side (OfHost s (Polls instant budget)) answer table i is room = λ some. absurd (omega (arith, some))
room_at side (OfLink act) answer table i is room = λ some. absurd (omega (arith, some))
