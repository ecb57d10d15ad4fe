use Rattle.std.proofs.Common.{◌≡◌, Result, Err, IfErr, inr, sym, subst}
use Rattle.std.proofs.lemmas.Result.{err_from_is_err_and}
use Rattle.lan.specs.declared.at_link.history.answer.Refused.{Refused}
use Rattle.lan.specs.declared.world.settle.Handed.{Handed}
use Rattle.lan.specs.Worlds.Settling.{StopsServingBoth}
use Rattle.lan.proofs.Worlds.Settles.{proceeds}
use Rattle.lan.proofs.world.World.serve_both.Goals as goal

pub returns-in_err-b-clause-goes : goal.returns-in_err-b-clause-goes
returns-in_err-b-clause-goes c = proceeds c.args.self.now c.serve.new.self c.serve-2.new.self c.serve.ensures.goes c.serve-2.ensures.goes

pub returns-in_err-b-clause-refused : goal.returns-in_err-b-clause-refused
returns-in_err-b-clause-refused c =
    let it = err_from_is_err_and c.from_residual-in_err-b.result c.from_residual-in_err-b.ensures.1 in
    let same : c.from_residual-in_err-b.result ≡ Err c.in_err-b.field-0.0 = cc (it.1, it.2) in
    subst (λ (r : Result Handed Refused).
    IfErr r (λ refused. StopsServingBoth c.args.instant c.args.budget c.args.handed refused c.args.self.now c.serve-2.new.self)) (sym same)
    (inr (c.in_ok-a.a, c.serve.new.self, c.in_ok-a.ensures.served, c.in_err-b.ensures.refused))

pub returns-clause-goes : goal.returns-clause-goes
returns-clause-goes c = proceeds c.args.self.now c.serve.new.self c.serve-2.new.self c.serve.ensures.goes c.serve-2.ensures.goes
