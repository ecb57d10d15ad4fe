use Rattle.std.proofs.Common.{◌≡◌, take}
use Rattle.std.specs.Prelude.{fold}
use Rattle.app_tun_services.specs.Idle.{earlier}
use Rattle.app_tun_services.proofs.idle.oldest.Given as goal

-- so many sessions were looked at
abbrev pub invariant-loop-i : goal.invariant-loop-i
invariant-loop-i l = l.oldest ≡ fold (earlier l.now) l.now (take l.i l.sessions)
