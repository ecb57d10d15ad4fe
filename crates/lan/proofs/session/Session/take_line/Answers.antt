use Rattle.std.proofs.Common.{◌≡◌, Option, Some, None, inl, sym, ◌∙◌}
use Rattle.sim_link.specs.declared.line.Line.{Line}
use Rattle.lan.proofs.EndLemmas.{bad_line}
use Rattle.lan.proofs.session.Session.take_line.Goals as goal

none_some : (o : Option Line) (line : Line) → o ≡ None → o ≡ Some line → ⊥
none_some o line none some = let both : None ≡ Some line = sym none ∙ some in absurd cc

-- no line was read, so the text is none
pub returns-in-None-clause-ends : goal.returns-in-None-clause-ends
returns-in-None-clause-ends c = (None, λ line says. none_some c.read.result line c.in-None.is (c.read.ensures.only line says), inl (bad_line c.args.self.now))
