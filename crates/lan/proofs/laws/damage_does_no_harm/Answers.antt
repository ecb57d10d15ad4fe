use Rattle.lan.proofs.Worlds.Damages.{origin_harmless}
use Rattle.lan.proofs.laws.damage_does_no_harm.Goals as goal

pub returns : goal.returns
returns c = λ firsts most hosts net origin j word allowed. origin_harmless firsts most hosts net j origin word allowed
