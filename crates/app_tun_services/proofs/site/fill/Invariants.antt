use Rattle.std.proofs.Common.{◌≡◌, length, take}
use Rattle.app_tun_services.specs.Site.{pattern}
use Rattle.app_tun_services.proofs.site.fill.Given as goal

-- the bytes so far
abbrev pub invariant-loop-i : goal.invariant-loop-i
invariant-loop-i l = (length l.piece ≡ length l.fn.piece) × (take l.i l.piece ≡ pattern l.fn.from l.i)
