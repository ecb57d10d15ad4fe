use Rattle.std.proofs.Common.{refl}
use Rattle.wire_ip.proofs.Fronts.{whole-front}
use Rattle.wire_ip.proofs.parts.put_header.Goals as goal

pub returns-clause-exact : goal.returns-clause-exact
returns-clause-exact c len = whole-front 20 _ _ c.args.bytes.now refl len
