use Rattle.std.proofs.Common.{◌≡◌, ℕ, Result, Err, IfErr, true, refl, sym, ◌∙◌, subst, arith}
use Rattle.std.proofs.lemmas.Result.{err_from_is_err_and}
use Rattle.tcp_refinement.specs.declared.pair.event.PairRefused.{PairRefused}
use Rattle.tcp_refinement.specs.declared.pair.event.PairRefused.TheVariants.{Memory}
use Rattle.tcp_pair.specs.Settling.{CanSettle, is_waiting}
use Rattle.tcp_pair.specs.States.{hosted}
use Rattle.tcp_pair.proofs.Led.{onward, stays}
use Rattle.tcp_pair.proofs.Settles.{for_memory, one_round, one_waited}
use Rattle.tcp_pair.proofs.pair.Pair.rounds.Goals as goal

pub loop-count-init : goal.loop-count-init
loop-count-init c = record { rounds = refl; waited = λ n less. absurd (omega arith); leads = stays (hosted c.args.self.now) }

pub loop-count-preserved : goal.loop-count-preserved
loop-count-preserved c =
    let waits : is_waiting (hosted c.loop-count.self) ≡ true = sym c.is_waiting.ensures ∙ c.if-not-is_waiting.false in
    record {
      rounds = one_round c.loop-count.count (hosted c.args.self.now) (hosted c.loop-count.self) (hosted c.round.new.self) c.loop-count.invariant.rounds
          c.in_ok-round.ensures.round;
      waited = one_waited c.loop-count.count (hosted c.args.self.now) (hosted c.loop-count.self) c.loop-count.invariant.rounds waits c.loop-count.invariant.waited;
      leads = onward (hosted c.args.self.now) (hosted c.loop-count.self) (hosted c.round.new.self) c.loop-count.invariant.leads c.round.ensures.leads;
    }

pub returns-in_err-round-clause-memory : goal.returns-in_err-round-clause-memory
returns-in_err-round-clause-memory c =
    let waits : is_waiting (hosted c.loop-count.self) ≡ true = sym c.is_waiting.ensures ∙ c.if-not-is_waiting.false in
    let it = err_from_is_err_and c.from_residual.result c.from_residual.ensures.1 in
    let same : c.from_residual.result ≡ Err c.in_err-round.field-0.0 = cc (it.1, it.2) in
    subst (λ (r : Result ℕ PairRefused). IfErr r (λ refused. CanSettle (hosted c.args.self.now) → refused ≡ Memory)) (sym same)
    (for_memory (hosted c.args.self.now) (hosted c.loop-count.self) c.loop-count.count c.in_err-round.field-0.0 c.loop-count.invariant.leads
    c.loop-count.invariant.rounds waits c.loop-count.invariant.waited c.in_err-round.ensures.memory)

pub returns-in_err-round-clause-leads : goal.returns-in_err-round-clause-leads
returns-in_err-round-clause-leads c =
    onward (hosted c.args.self.now) (hosted c.loop-count.self) (hosted c.round.new.self) c.loop-count.invariant.leads c.round.ensures.leads
