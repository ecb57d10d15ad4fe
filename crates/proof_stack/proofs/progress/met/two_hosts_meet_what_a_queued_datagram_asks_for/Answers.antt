use Rattle.std.proofs.Common.{refl}
use Rattle.proof_stack.proofs.Polls.SomeHosts.{widths, turn, some_port, goes, polls, brings, reads, expects, has_room, hears, arrives}
use Rattle.proof_stack.proofs.progress.met.two_hosts_meet_what_a_queued_datagram_asks_for.Goals as goal

pub returns-clause-widths : goal.returns-clause-widths
returns-clause-widths c = widths

pub returns-clause-turn : goal.returns-clause-turn
returns-clause-turn c = turn

pub returns-clause-queued : goal.returns-clause-queued
returns-clause-queued c = refl

pub returns-clause-port : goal.returns-clause-port
returns-clause-port c = some_port

pub returns-clause-goes : goal.returns-clause-goes
returns-clause-goes c = goes

pub returns-clause-bare : goal.returns-clause-bare
returns-clause-bare c = refl

pub returns-clause-sends : goal.returns-clause-sends
returns-clause-sends c = polls

pub returns-clause-refuses : goal.returns-clause-refuses
returns-clause-refuses c = refl

pub returns-clause-leave : goal.returns-clause-leave
returns-clause-leave c = refl

pub returns-clause-brings : goal.returns-clause-brings
returns-clause-brings c = brings

pub returns-clause-reads : goal.returns-clause-reads
returns-clause-reads c = reads

pub returns-clause-expected : goal.returns-clause-expected
returns-clause-expected c = expects

pub returns-clause-room : goal.returns-clause-room
returns-clause-room c = has_room

pub returns-clause-hears : goal.returns-clause-hears
returns-clause-hears c = hears

pub returns-clause-their_leave : goal.returns-clause-their_leave
returns-clause-their_leave c = refl

pub returns-clause-arrives : goal.returns-clause-arrives
returns-clause-arrives c = arrives
