use Rattle.std.proofs.Common.{◌∙◌}
use Rattle.sim_link.proofs.CidrLemmas.{only_cidr}
use Rattle.sim_link.proofs.words.cidr.Goals as goal

pub returns-clause-only : goal.returns-clause-only
returns-clause-only c x is = c.ok.ensures.value ∙ only_cidr c.args.word.now _ x c.parse.ensures.value is
