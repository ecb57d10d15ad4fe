use Rattle.wire_address.proofs.Peel.{peel8, peel16, peel32, peel_to}
use Rattle.wire_address.proofs.network_order.fields_stand_in_turn.Goals as goal

pub returns-clause-one : goal.returns-clause-one
returns-clause-one c = peel8

pub returns-clause-two : goal.returns-clause-two
returns-clause-two c = peel16

pub returns-clause-four : goal.returns-clause-four
returns-clause-four c = peel32

pub returns-clause-run : goal.returns-clause-run
returns-clause-run c = peel_to
