-- A script whose text comes in fragments: how far its lines have run.
use Rattle.std.specs.Prelude.{◌≡◌, ◌≤◌, ℕ, Bool, IsTrue, not, ◌==◌, List, ◌++◌, length, Option}
use Rattle.std.specs.List.{list_all}
use Rattle.std.specs.Io.KnownBytes.{Consumes}
use Rattle.lan.specs.declared.session.Session.{Session}
use Rattle.lan.specs.Events.{lines_of}
use Rattle.lan.specs.Scripts.{IsReplay, Replays}

-- no line ends in these bytes
abbrev pub is_unbroken : List ℕ → Bool
is_unbroken text = list_all (λ b. not (b == 10)) text

-- Whole lines are run from line n on, and write this: whatever comes after them, all of it writes that, and then what
-- the rest writes.
abbrev pub RunsLines : ℕ → Session → List ℕ → List ℕ → ℕ → Session → Type 0
RunsLines n session lines output last next =
    (rest more : List ℕ) (status : ℕ) → Replays last next (lines_of rest) more status
    → Replays n session (lines_of (lines ++ rest)) (output ++ more) status

-- A text is run from line n on, but for the line that it begins last, and writes this.
abbrev pub RunsOn : ℕ → Session → List ℕ → List ℕ → ℕ → Session → List ℕ → Type 0
RunsOn n session text output last next begun =
    (lines : List ℕ) × (text ≡ lines ++ begun) × RunsLines n session lines output last next

-- A line of a text that is run from line n on ends the run: whatever comes after it, all of it writes just this.
abbrev pub RunsOut : ℕ → Session → List ℕ → List ℕ → Type 0
RunsOut n session text output = (rest : List ℕ) → Replays n session (lines_of (text ++ rest)) output 1

-- How far a script was read, whatever came of it: lines that all led on, a line that was begun, and what the last read
-- gave. So nothing is read after the bytes that came with a line that ended the run.
abbrev pub ReadsOn : Option (List ℕ) → Option (List ℕ) → Type 0
ReadsOn start now =
    (lines begun last output : List ℕ) × Consumes start now ((lines ++ begun) ++ last)
    × IsReplay lines output 0 × IsTrue (is_unbroken begun) × (length last ≤ 4096)

-- How far a script was run whose reader failed: its lines all led on, and wrote this.
abbrev pub RunsSoFar : Option (List ℕ) → Option (List ℕ) → List ℕ → Type 0
RunsSoFar start now output =
    (lines begun : List ℕ) × Consumes start now (lines ++ begun) × IsReplay lines output 0 × IsTrue (is_unbroken begun)
