-- The fragment has come so far: what is left of it, and what its lines wrote.
use Rattle.std.proofs.Common.{◌≡◌, ℕ, ◌+◌, ◌≤◌, List, ◌++◌, length}
use Rattle.std.specs.Io.KnownBytes.{Appends}
use Rattle.lan.specs.FragmentList.{RunsOn}
use Rattle.lan.proofs.run.Run.take_fragment.Given as goal

abbrev pub invariant-loop-end : goal.invariant-loop-end
invariant-loop-end g l = record {
  runs : (before output : List ℕ)
      × Appends (g.W.Write.contents l.initial.writer) (g.W.Write.contents l.writer) output
      × (l.fragment ≡ before ++ l.rest)
      × RunsOn l.fn.self.number l.fn.self.session (l.fn.self.begun.items ++ before) output l.self.number l.self.session l.self.begun.items;
  number : l.self.number + length l.rest ≤ l.fn.self.number + length l.fragment;
}

abbrev pub decreases-loop-end : goal.decreases-loop-end
decreases-loop-end g l = length l.rest
