use Rattle.net_base.specs.Time.{IsMoment}
use Rattle.app_tun.proofs.boot.turns.take_turns.Given as goal

-- the last turn's instant is one
abbrev pub invariant-loop : goal.invariant-loop
invariant-loop g l = IsMoment l.last
