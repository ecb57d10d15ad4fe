use Rattle.tcp_pair.proofs.Acting.{asked}
use Rattle.tcp_pair.proofs.end.End.act.Goals as goal

pub returns-in_ok-offer-in-Offer-clause-after : goal.returns-in_ok-offer-in-Offer-clause-after
returns-in_ok-offer-in-Offer-clause-after c =
    asked c.args.self.now c.offer.new.self c.args.others.now c.args.event.now c.in-Offer.field-0 c.in-Offer.instant c.in-Offer.sent c.in-Offer.is c.requires.side
    c.in_ok-offer-in-Offer.ensures.after
