use Rattle.std.proofs.Common.{rules, sym}
use Rattle.std.proofs.lemmas.List.{drop_all}
use Rattle.sim_link.proofs.names.following_header.Goals as goal

-- src/names.rt:55:1
pub returns-in-None : goal.returns-in-None
returns-in-None c = sym (drop_all 40 c.args.packet.now (search rules))
