-- What is written and the text of the runs that are left are the whole text.
use Rattle.std.proofs.Common.{◌≡◌, List, ℕ, ◌++◌, drop}
use Rattle.std.specs.Fmt.{HasWritten, IsPlainFormatter}
use Rattle.base_buffer.specs.Text.{runs_text}
use Rattle.base_buffer.proofs.assembler.RunsDisplay.fmt.Given as goal

abbrev pub invariant-loop-start : goal.invariant-loop-start
invariant-loop-start g l =
    IsPlainFormatter l.initial.f → (done : List ℕ) × HasWritten g.W.Write.write_str_gives l.initial.f done l.f
    × (done ++ runs_text l.reached (drop l.start-index l.start-items) ≡ runs_text 0 l.fn.self.0.now)
