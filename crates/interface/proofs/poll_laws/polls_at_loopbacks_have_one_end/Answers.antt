use Rattle.net_base.specs.Loopback.{LoopbackValue, LoopbackMove}
use Rattle.interface.proofs.Loopbacks.{counting_loopbacks}
use Rattle.interface.proofs.Unrefused.{one_unrefused}
use Rattle.interface.proofs.poll_laws.polls_at_loopbacks_have_one_end.Goals as goal

pub returns : goal.returns
returns c = λ t budget s left right changed other none same one two.
    one_unrefused LoopbackMove (λ (l : LoopbackValue). l.refusals) counting_loopbacks c.one_offer.ensures t budget s left right changed other none same one two
