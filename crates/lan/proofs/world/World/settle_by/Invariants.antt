use Rattle.lan.specs.Worlds.Settling.{Goes, Rounds}
use Rattle.lan.proofs.world.World.settle_by.Given as goal

abbrev pub invariant-loop-round : goal.invariant-loop-round
invariant-loop-round l =
    record { goes : Goes l.initial.self l.self; rounds : Rounds l.fn.budget l.fn.from l.initial.self l._round l.instant l.handed l.self }
