use Rattle.lan.specs.Worlds.Link.Made.{IsIn}
use Rattle.lan.proofs.Worlds.Link.Taken.{taken_was_made, taken_keeps, expired_receiver}
use Rattle.lan.proofs.link_laws.what_is_taken_was_made.Goals as goal

pub returns-clause-brings : goal.returns-clause-brings
returns-clause-brings c = λ made first next out i timeout assemblers frame rest content sent few r is.
    taken_was_made (IsIn made) first out next sent few i timeout assemblers frame rest content r is

pub returns-clause-keeps : goal.returns-clause-keeps
returns-clause-keeps c = λ made first next out i timeout assemblers assemblers' slots frame rest content a sent few r is arrives.
    taken_keeps (IsIn made) first out next sent few i timeout assemblers slots frame rest content assemblers' a r is arrives

pub returns-clause-expires : goal.returns-clause-expires
returns-clause-expires c = λ made out i assemblers waiting instant r. expired_receiver (IsIn made) out i assemblers waiting instant r
