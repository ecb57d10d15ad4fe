use Rattle.std.proofs.Common.{◌≡◌, length}
use Rattle.app_tun_services.specs.Site.{talk, ServesTimes}
use Rattle.app_tun_services.proofs.site.serve_site.Given as goal

-- so many rounds
abbrev pub invariant-loop : goal.invariant-loop
invariant-loop l =
    (length l.buffer ≡ length l.initial.buffer)
    × ServesTimes l.counter l.initial.counts (length l.initial.buffer) (talk l.initial.socket l.initial.session) (talk l.socket l.session)
