-- Lemmas on the lines of a script and on what they write.
use Rattle.std.proofs.Common.{◌≡◌, ℕ, ◌+◌, ◌≤◌, List, [], ◌∷◌, ◌++◌, sym, inl, inr, append-nil, arith, Option, Some, None, Result, Ok, Err, IfOk, IfErr, IfSome}
use Rattle.std.specs.Io.KnownBytes.{Consumes, IsAtEnd}
use Rattle.std.proofs.KnownBytes.{Consumes-trans, Consumes-whole}
use Rattle.lan.specs.declared.end.End.{End}
use Rattle.lan.specs.declared.session.Session.{Session}
use Rattle.lan.specs.Scripts.{LineLeads, LineEnds, Replays}

-- RUNS

-- a run has the status 0 or 1
pub status-le : (n : ℕ) (session : Session) (lines : List (List ℕ)) (output : List ℕ) (status : ℕ) → Replays n session lines output status → status ≤ 1
status-le n session [] output status h = omega (arith, h.1)
status-le n session (line ∷ lines) output status (inl early) = omega (arith, early.3)
status-le n session (line ∷ lines) output status (inr on) = status-le (n + 1) on.1 lines on.2 status on.4

-- READING

-- a reader that is at its end gave all that it had
pub all_read : (start now end : Option (List ℕ)) (bytes : List ℕ) → Consumes start now bytes → Consumes now end [] → IsAtEnd end →
    IfSome start (λ input. bytes ≡ input)
all_read start now end bytes taken none over =
    Consumes-whole start end (bytes ++ []) (λ input. bytes ≡ input) (Consumes-trans start now end bytes [] taken none) over (sym (append-nil bytes))
