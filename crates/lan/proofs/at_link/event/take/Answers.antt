use Rattle.std.proofs.Common.{arith}
use Rattle.lan.specs.Worlds.AtLink.Kinds.{kind_of}
use Rattle.lan.specs.declared.at_link.history.event.Side.TheVariants.{A, B}
use Rattle.lan.proofs.Worlds.AtLink.Growing.{sent_grows}
use Rattle.lan.proofs.at_link.event.take.Goals as goal

pub follow-requires-clause-sent : goal.follow-requires-clause-sent
follow-requires-clause-sent c =
    let grows =
    sent_grows (record { a = c.args.a.now; b = c.args.b.now }) (record { a = c.play.new.a; b = c.play.new.b }) (kind_of c.args.event.now)
    c.in_ok-taken.taken.answer c.in_ok-taken.taken.found A c.in_ok-taken.ensures.happens.0 in
    omega (arith, grows, c.sent_count-before_a.ensures)

pub follow-requires-2-clause-sent : goal.follow-requires-2-clause-sent
follow-requires-2-clause-sent c =
    let grows =
    sent_grows (record { a = c.args.a.now; b = c.args.b.now }) (record { a = c.play.new.a; b = c.play.new.b }) (kind_of c.args.event.now)
    c.in_ok-taken.taken.answer c.in_ok-taken.taken.found B c.in_ok-taken.ensures.happens.0 in
    omega (arith, grows, c.sent_count-before_b.ensures)
