use Rattle.std.proofs.Common.{inr, refl, sym, ◌∙◌}
use Rattle.socket_datagram.proofs.dns.answer.verdict_on.Goals as goal

pub returns-in-None : goal.returns-in-None
returns-in-None c = inr ((λ at is. let other = sym c.in-None.is ∙ c.reply_to.ensures.none at is in absurd (cc other)), refl)
