use Rattle.lan.proofs.Worlds.AtLink.Linked.{still, cut_a, cut_b}
use Rattle.lan.proofs.at_link.event.cut_of.Goals as goal

pub returns-in-A-clause-ok : goal.returns-in-A-clause-ok
returns-in-A-clause-ok c = cut_a c.cut.result c.args.a.now c.cut.new.host c.args.b.now c.args.frame c.args.at c.args.from c.in-A.is c.cut.ensures.ok

pub returns-in-A-clause-b : goal.returns-in-A-clause-b
returns-in-A-clause-b c = still c.cut.result c.args.b.now

pub returns-in-B-clause-ok : goal.returns-in-B-clause-ok
returns-in-B-clause-ok c =
    cut_b c.cut-in-B.result c.args.a.now c.args.b.now c.cut-in-B.new.host c.args.frame c.args.at c.args.from c.in-B.is c.cut-in-B.ensures.ok

pub returns-in-B-clause-a : goal.returns-in-B-clause-a
returns-in-B-clause-a c = still c.cut-in-B.result c.args.a.now
