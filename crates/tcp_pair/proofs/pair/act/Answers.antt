use Rattle.std.proofs.Common.{sym, ◌∙◌}
use Rattle.tcp_pair.proofs.Acting.{after_a, after_b}
use Rattle.tcp_pair.proofs.pair.act.Goals as goal

pub returns-in-A-clause-after : goal.returns-in-A-clause-after
returns-in-A-clause-after c =
    after_a c.act.result c.args.a.now c.args.b.now c.act.new.self c.sent.result.now c.args.event.now (sym c.side_of.ensures ∙ c.in-A.is) c.sent.ensures
    c.act.ensures.after c.act.ensures.answer

pub returns-in-B-clause-after : goal.returns-in-B-clause-after
returns-in-B-clause-after c =
    after_b c.act-in-B.result c.args.a.now c.args.b.now c.act-in-B.new.self c.sent-in-B.result.now c.args.event.now (sym c.side_of.ensures ∙ c.in-B.is)
    c.sent-in-B.ensures c.act-in-B.ensures.after c.act-in-B.ensures.answer
