use Rattle.base_wrappers.proofs.Captures.{written}
use Rattle.base_wrappers.proofs.laws.traces_are_exact.Goals as goal

pub returns : goal.returns
returns g c moves old new run =
    written _ (λ v. g.S.Sink.taken v.sink) (λ v. v.lost) (λ v. v.instant) (λ v. v.writer) g.W.FrameWriter.takes g.W.FrameWriter.writes
    (λ a m b met. (met.1, met.2, met.3)) moves old new run
