use Rattle.std.proofs.Common.{IfSome, option_map}
use Rattle.net_base.specs.Time.{IsMoment}
use Rattle.app_tun_services.specs.Turns.{state_of, IsSetUp}
use Rattle.app_tun_services.proofs.Running.{IsRunning}
use Rattle.app_tun_services.proofs.turns.serve_watched.Given as goal

-- the last turn's instant was one, and the run has come so far
abbrev pub invariant-loop : goal.invariant-loop
invariant-loop g l =
    IsMoment l.last × IfSome l.host IsSetUp
    × IsRunning l.counter (g.R.Read.remaining l.initial.reader) (g.R.Read.remaining l.reader) (g.W.Write.contents l.initial.writer)
    (g.W.Write.contents l.writer) l.last (option_map state_of l.host)
