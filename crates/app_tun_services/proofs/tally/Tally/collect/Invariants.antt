use Rattle.std.proofs.Common.{◌≡◌, ◌++◌, map, take, drop}
use Rattle.app_tun_services.specs.Tallies.{no_more, collected}
use Rattle.app_tun_services.proofs.tally.Tally.collect.Given as goal

-- so many sessions were taken over
abbrev pub invariant-loop-i : goal.invariant-loop-i
invariant-loop-i l =
    (l.self ≡ collected (take l.i l.initial.sessions) l.initial.self) × (l.sessions ≡ map no_more (take l.i l.initial.sessions) ++ drop l.i l.initial.sessions)
