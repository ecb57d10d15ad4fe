use Rattle.std.proofs.Common.{refl}
use Rattle.proof_stack.proofs.Polls.SomeRow.{both_brought, both_go, both_have_room, both_read, both_turn, can_read, first_has_way, next_arrives, next_expected, next_goes}
use Rattle.proof_stack.proofs.Polls.SomeRow.{next_port}
use Rattle.proof_stack.proofs.progress.met.two_hosts_meet_what_a_datagram_following_another_asks_for.Goals as goal

pub returns-clause-turn : goal.returns-clause-turn
returns-clause-turn c = both_turn

pub returns-clause-queued : goal.returns-clause-queued
returns-clause-queued c = refl

pub returns-clause-ways : goal.returns-clause-ways
returns-clause-ways c = first_has_way

pub returns-clause-port : goal.returns-clause-port
returns-clause-port c = next_port

pub returns-clause-goes : goal.returns-clause-goes
returns-clause-goes c = next_goes

pub returns-clause-sends : goal.returns-clause-sends
returns-clause-sends c = both_go

pub returns-clause-brings : goal.returns-clause-brings
returns-clause-brings c = both_brought

pub returns-clause-reads : goal.returns-clause-reads
returns-clause-reads c = can_read

pub returns-clause-expected : goal.returns-clause-expected
returns-clause-expected c = next_expected

pub returns-clause-room : goal.returns-clause-room
returns-clause-room c = both_have_room

pub returns-clause-hears : goal.returns-clause-hears
returns-clause-hears c = both_read

pub returns-clause-arrives : goal.returns-clause-arrives
returns-clause-arrives c = next_arrives
