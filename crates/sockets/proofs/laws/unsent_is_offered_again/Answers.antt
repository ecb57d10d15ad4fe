use Rattle.sockets.proofs.AnyKind.{has_packet, again, settles}
use Rattle.sockets.proofs.laws.unsent_is_offered_again.Goals as goal

pub returns-clause-packet : goal.returns-clause-packet
returns-clause-packet c = λ cx s s' answer offers. has_packet s s' cx answer offers

pub returns-clause-again : goal.returns-clause-again
returns-clause-again c = again c.unsent_is_offered_again.ensures.again c.unsent_is_offered_again-2.ensures.again c.unsent_is_offered_again-3.ensures.again

pub returns-clause-settled : goal.returns-clause-settled
returns-clause-settled c =
    settles c.unsent_is_offered_again.ensures.settled c.unsent_is_offered_again-2.ensures.settled c.unsent_is_offered_again-3.ensures.settled
