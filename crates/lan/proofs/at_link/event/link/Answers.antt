use Rattle.std.proofs.Common.{ap}
use Rattle.lan.specs.Worlds.AtLink.Kinds.{kind_of}
use Rattle.lan.proofs.Worlds.AtLink.Linked.{cut_linked}
use Rattle.lan.proofs.at_link.event.link.Goals as goal

pub returns-in-Cut-clause-ok : goal.returns-in-Cut-clause-ok
returns-in-Cut-clause-ok c =
    cut_linked c.cut_of.result (record { a = c.args.a.now; b = c.args.b.now }) (record { a = c.cut_of.new.a; b = c.cut_of.new.b }) c.in-Cut.from c.in-Cut.frame
    c.in-Cut.at (kind_of c.args.event.now)
    (ap kind_of c.in-Cut.is) c.cut_of.ensures.ok
