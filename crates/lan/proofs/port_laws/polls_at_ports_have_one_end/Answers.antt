use Rattle.lan.specs.Worlds.AtLink.Port.{PortValue, PortMove}
use Rattle.interface.proofs.Unrefused.{one_unrefused}
use Rattle.lan.proofs.Worlds.PortMoves.{counting_ports}
use Rattle.lan.proofs.port_laws.polls_at_ports_have_one_end.Goals as goal

pub returns : goal.returns
returns c = λ t budget s left right changed other none same one two.
    one_unrefused PortMove (λ (p : PortValue). p.link.refusals) counting_ports c.one_offer.ensures t budget s left right changed other none same one two
