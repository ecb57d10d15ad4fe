use Rattle.app_tun_services.specs.Link.Drain.{DrainValue, DrainMove}
use Rattle.interface.proofs.Unrefused.{one_unrefused}
use Rattle.proof_stack.proofs.Drains.{counting_drains}
use Rattle.proof_stack.proofs.device_laws.polls_at_drains_have_one_end.Goals as goal

pub returns : goal.returns
returns c = λ t budget s left right changed other none same one two.
    one_unrefused DrainMove (λ (d : DrainValue). d.refusals) counting_drains c.one_offer.ensures t budget s left right changed other none same one two
