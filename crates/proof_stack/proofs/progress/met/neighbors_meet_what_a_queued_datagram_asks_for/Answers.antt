use Rattle.std.proofs.Common.{refl}
use Rattle.proof_stack.proofs.Polls.SomeExchange.{arrives_known, brings, can_read, expects, goes, has_room, polls, reads_it, some_port, turn, widths}
use Rattle.proof_stack.proofs.progress.met.neighbors_meet_what_a_queued_datagram_asks_for.Goals as goal

pub returns-clause-widths : goal.returns-clause-widths
returns-clause-widths c = widths

pub returns-clause-turn : goal.returns-clause-turn
returns-clause-turn c = turn

pub returns-clause-queued : goal.returns-clause-queued
returns-clause-queued c = refl

pub returns-clause-port : goal.returns-clause-port
returns-clause-port c = some_port

pub returns-clause-goes : goal.returns-clause-goes
returns-clause-goes c = goes

pub returns-clause-bare : goal.returns-clause-bare
returns-clause-bare c = refl

pub returns-clause-sends : goal.returns-clause-sends
returns-clause-sends c = polls

pub returns-clause-refuses : goal.returns-clause-refuses
returns-clause-refuses c = refl

pub returns-clause-leave : goal.returns-clause-leave
returns-clause-leave c = refl

pub returns-clause-brings : goal.returns-clause-brings
returns-clause-brings c = brings

pub returns-clause-reads : goal.returns-clause-reads
returns-clause-reads c = can_read

pub returns-clause-expected : goal.returns-clause-expected
returns-clause-expected c = expects

pub returns-clause-room : goal.returns-clause-room
returns-clause-room c = has_room

pub returns-clause-hears : goal.returns-clause-hears
returns-clause-hears c = reads_it

pub returns-clause-their_leave : goal.returns-clause-their_leave
returns-clause-their_leave c = refl

pub returns-clause-arrives : goal.returns-clause-arrives
returns-clause-arrives c = arrives_known
