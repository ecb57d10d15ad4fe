use Rattle.base_wrappers.specs.Pcap.{captures, IsRecord}
use Rattle.base_wrappers.proofs.Captures.{written, all_written}
use Rattle.base_wrappers.proofs.laws.captures_are_exact.Goals as goal

pub returns : goal.returns
returns g c moves old new run same fits =
    all_written old.writer _ _ _ _ _ same fits
    (written _ (λ v. g.S.Sink.taken v.sink) (λ v. v.lost) (λ v. v.instant) (λ v. v.writer) captures IsRecord
    (λ a m b met. (met.1, met.2, met.3)) moves old new run)
