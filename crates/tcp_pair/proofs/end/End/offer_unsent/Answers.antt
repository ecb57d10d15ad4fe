use Rattle.std.proofs.Common.{◌∙◌, false, ap}
use Rattle.tcp_refinement.specs.Pair.Steps.{offered_at}
use Rattle.tcp_pair.specs.Ends.{EndValue, on_host, with_own}
use Rattle.tcp_pair.proofs.Arrived.{stayed}
use Rattle.tcp_pair.proofs.end.End.offer_unsent.Goals as goal

pub returns : goal.returns
returns c =
    stayed c.self.inside.context c.set_now.new.self c.self.inside.socket c.offer.new.self c.settle.new.self c.self.inside.sent.items c.self.inside.opened
    c.self.inside.accepted c.args.instant c.set_now.ensures c.offer.ensures.socket c.settle.ensures
    ∙ ap (λ (e : EndValue). with_own e (offered_at e.side (record (on_host e) { instant = c.args.instant }) false)) c.self.view_is
