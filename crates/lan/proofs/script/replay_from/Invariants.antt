-- What was read so far was run, but for the line that was begun last.
use Rattle.std.proofs.Common.{◌≡◌, ℕ, ◌+◌, ◌*◌, ◌≤◌, List, length}
use Rattle.std.specs.Io.KnownBytes.{Appends, Consumes}
use Rattle.lan.specs.declared.session.Session.TheVariants.{Begun}
use Rattle.lan.specs.FragmentList.{RunsOn}
use Rattle.lan.proofs.script.replay_from.Given as goal

abbrev pub invariant-loop-count : goal.invariant-loop-count
invariant-loop-count g l = record {
  runs : (read output : List ℕ)
      × Consumes (g.R.Read.remaining l.initial.reader) (g.R.Read.remaining l.reader) read
      × Appends (g.W.Write.contents l.initial.writer) (g.W.Write.contents l.writer) output
      × RunsOn 1 Begun read output l.run.number l.run.session l.run.begun.items;
  number : l.run.number ≤ 1 + 4096 * l.count;
  room : length l.fragment ≡ 4096;
}
