use Rattle.proof_stack.proofs.Polls.SomeLinked.{are_linked}
use Rattle.proof_stack.proofs.Polls.SomeStarts.{are_new, have_keys, hold_text, is_fresh}
use Rattle.proof_stack.proofs.Polls.SomeWorld.{are_idle, are_peer_sides, are_typed, connected, is_caller, is_listener, stays, waits_there}
use Rattle.proof_stack.proofs.progress.settled.a_world_that_settles_meets_what_is_asked.Goals as goal

pub returns-clause-initial : goal.returns-clause-initial
returns-clause-initial c = is_fresh

pub returns-clause-typed : goal.returns-clause-typed
returns-clause-typed c = are_typed

pub returns-clause-still : goal.returns-clause-still
returns-clause-still c = stays

pub returns-clause-new : goal.returns-clause-new
returns-clause-new c = are_new

pub returns-clause-keys : goal.returns-clause-keys
returns-clause-keys c = have_keys

pub returns-clause-text : goal.returns-clause-text
returns-clause-text c = hold_text

pub returns-clause-peer_sides : goal.returns-clause-peer_sides
returns-clause-peer_sides c = are_peer_sides

pub returns-clause-caller : goal.returns-clause-caller
returns-clause-caller c = is_caller

pub returns-clause-listener : goal.returns-clause-listener
returns-clause-listener c = is_listener

pub returns-clause-connected : goal.returns-clause-connected
returns-clause-connected c = connected

pub returns-clause-rest : goal.returns-clause-rest
returns-clause-rest c = are_idle

pub returns-clause-arrived : goal.returns-clause-arrived
returns-clause-arrived c = waits_there

pub returns-clause-linked : goal.returns-clause-linked
returns-clause-linked c = are_linked
