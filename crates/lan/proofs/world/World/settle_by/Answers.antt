use Rattle.std.proofs.Common.{◌≡◌, ℤ, Option, Some, None, Result, Err, IfErr, inl, inr, sym, subst}
use Rattle.std.proofs.lemmas.Result.{err_from_is_err_and}
use Rattle.lan.specs.declared.at_link.history.answer.Refused.{Refused}
use Rattle.lan.specs.Worlds.AtLink.Runs.{WorldValue}
use Rattle.lan.specs.Worlds.Settling.{Goes, NextRound, StopsSettling}
use Rattle.lan.proofs.Worlds.Settles.{proceeds, one_round_more, rests, the_last_round}
use Rattle.lan.proofs.world.World.settle_by.Goals as goal

pub returns-in_err-now-clause-goes : goal.returns-in_err-now-clause-goes
returns-in_err-now-clause-goes c =
    proceeds c.args.self.now c.loop-round.self c.serve_both.new.self c.loop-round.invariant.goes c.serve_both.ensures.goes

-- a round after others
round_on : (first before served following : WorldValue) → Goes first before → Goes before served → Goes served following → Goes first following
round_on first before served following one two three = proceeds first served following (proceeds first before served one two) three

pub returns-in_err-next-clause-goes : goal.returns-in_err-next-clause-goes
returns-in_err-next-clause-goes c = round_on c.args.self.now c.loop-round.self c.serve_both.new.self c.next_round.new.self
    c.loop-round.invariant.goes c.serve_both.ensures.goes c.next_round.ensures.goes

pub returns-in-None-clause-goes : goal.returns-in-None-clause-goes
returns-in-None-clause-goes c = round_on c.args.self.now c.loop-round.self c.serve_both.new.self c.next_round.new.self
    c.loop-round.invariant.goes c.serve_both.ensures.goes c.next_round.ensures.goes

pub returns-in-None-clause-rounds : goal.returns-in-None-clause-rounds
returns-in-None-clause-rounds c = the_last_round c.args.budget c.args.from c.loop-round.instant c.loop-round.handed c.in_ok-now.now
    c.loop-round._round c.args.rounds c.args.self.now c.loop-round.self c.serve_both.new.self c.next_round.new.self c.loop-round-test.true
    c.loop-round.invariant.rounds c.in_ok-now.ensures.served
    (subst (λ (next : Option ℤ). NextRound c.loop-round.instant c.loop-round.handed next c.serve_both.new.self c.next_round.new.self)
    c.in-None.is c.in_ok-next.ensures.next)

pub returns-in-None-clause-rest : goal.returns-in-None-clause-rest
returns-in-None-clause-rest c = rests c.loop-round.instant c.loop-round.handed c.serve_both.new.self c.next_round.new.self
    (subst (λ (next : Option ℤ). NextRound c.loop-round.instant c.loop-round.handed next c.serve_both.new.self c.next_round.new.self)
    c.in-None.is c.in_ok-next.ensures.next)

pub loop-round-preserved : goal.loop-round-preserved
loop-round-preserved c = record {
  goes = round_on c.args.self.now c.loop-round.self c.serve_both.new.self c.next_round.new.self
      c.loop-round.invariant.goes c.serve_both.ensures.goes c.next_round.ensures.goes;
  rounds = one_round_more c.args.budget c.args.from c.loop-round.instant c.in-Some.next c.loop-round.handed c.in_ok-now.now
      c.loop-round._round c.args.self.now c.loop-round.self c.serve_both.new.self c.next_round.new.self
      c.loop-round.invariant.rounds c.in_ok-now.ensures.served
      (subst (λ (next : Option ℤ). NextRound c.loop-round.instant c.loop-round.handed next c.serve_both.new.self c.next_round.new.self)
      c.in-Some.is c.in_ok-next.ensures.next);
}

pub returns-in_err-now-clause-refused : goal.returns-in_err-now-clause-refused
returns-in_err-now-clause-refused c =
    let it = err_from_is_err_and c.from_residual.result c.from_residual.ensures.1 in
    let same : c.from_residual.result ≡ Err c.in_err-now.field-0.0 = cc (it.1, it.2) in
    subst (λ (r : Result (Option ℤ) Refused).
    IfErr r (λ refused. StopsSettling c.args.budget c.args.from c.args.rounds refused c.args.self.now c.serve_both.new.self)) (sym same) (
      c.loop-round._round,
      c.loop-round-test.true,
      c.loop-round.instant,
      c.loop-round.handed,
      c.loop-round.self,
      c.loop-round.invariant.rounds,
      inl c.in_err-now.ensures.refused,
    )

pub returns-in_err-next-clause-refused : goal.returns-in_err-next-clause-refused
returns-in_err-next-clause-refused c =
    let it = err_from_is_err_and c.from_residual-in_err-next.result c.from_residual-in_err-next.ensures.1 in
    let same : c.from_residual-in_err-next.result ≡ Err c.in_err-next.field-0.0 = cc (it.1, it.2) in
    subst (λ (r : Result (Option ℤ) Refused).
    IfErr r (λ refused. StopsSettling c.args.budget c.args.from c.args.rounds refused c.args.self.now c.next_round.new.self)) (sym same) (
      c.loop-round._round,
      c.loop-round-test.true,
      c.loop-round.instant,
      c.loop-round.handed,
      c.loop-round.self,
      c.loop-round.invariant.rounds,
      inr (c.in_ok-now.now, c.serve_both.new.self, c.in_ok-now.ensures.served, c.in_err-next.ensures.refused),
    )
