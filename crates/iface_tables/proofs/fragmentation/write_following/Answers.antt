use Rattle.iface_tables.proofs.InParts.{written_twice}
use Rattle.iface_tables.proofs.fragmentation.write_following.Goals as goal

pub returns : goal.returns
returns c = cc (written_twice c.args.bytes.now c.args.front.now c.args.fragment.now c.args.offset c.requires)
