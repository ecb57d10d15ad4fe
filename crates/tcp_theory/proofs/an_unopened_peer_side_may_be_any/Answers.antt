use Rattle.tcp_theory.proofs.AloneLemmas.{OneWay-to_unopened, OneWay-unopened_to}
use Rattle.tcp_theory.proofs.an_unopened_peer_side_may_be_any.Goals as goal

pub returns : goal.returns
returns c = record {
  exchanged =
      λ s t space resets holds phase are_resets. (
        OneWay-to_unopened s t holds.0 holds.1 phase space resets are_resets,
        OneWay-unopened_to s t holds.0 holds.1 phase space resets are_resets,
      );
}
