use Rattle.std.proofs.Common.{◌≡◌, ℕ, ◌<◌, true}
use Rattle.tcp_liveness.specs.BothWays.{rounds_in}
use Rattle.tcp_pair.specs.Settling.{ProceedsTo, is_waiting}
use Rattle.tcp_pair.specs.States.{hosted}
use Rattle.tcp_pair.proofs.pair.Pair.rounds.Given as goal

abbrev pub invariant-loop-count : goal.invariant-loop-count
invariant-loop-count l = record {
  rounds : hosted l.self ≡ rounds_in l.count (hosted l.initial.self);
  waited : (n : ℕ) → n < l.count → is_waiting (rounds_in n (hosted l.initial.self)) ≡ true;
  leads : ProceedsTo (hosted l.initial.self) (hosted l.self);
}
