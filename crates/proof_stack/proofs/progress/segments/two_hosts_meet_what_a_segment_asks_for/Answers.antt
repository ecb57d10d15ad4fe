use Rattle.std.proofs.Common.{refl}
use Rattle.proof_stack.proofs.Polls.SomeSegments.{widths, turn, offers, path, goes, polls, brings, reads, awaits, formed, lies, awaits_next, hears, ends, arrives}
use Rattle.proof_stack.proofs.progress.segments.two_hosts_meet_what_a_segment_asks_for.Goals as goal

pub returns-clause-widths : goal.returns-clause-widths
returns-clause-widths c = widths

pub returns-clause-turn : goal.returns-clause-turn
returns-clause-turn c = turn

pub returns-clause-offers : goal.returns-clause-offers
returns-clause-offers c = offers

pub returns-clause-path : goal.returns-clause-path
returns-clause-path c = path

pub returns-clause-goes : goal.returns-clause-goes
returns-clause-goes c = goes

pub returns-clause-bare : goal.returns-clause-bare
returns-clause-bare c = refl

pub returns-clause-sends : goal.returns-clause-sends
returns-clause-sends c = polls

pub returns-clause-refuses : goal.returns-clause-refuses
returns-clause-refuses c = refl

pub returns-clause-leave : goal.returns-clause-leave
returns-clause-leave c = refl

pub returns-clause-brings : goal.returns-clause-brings
returns-clause-brings c = brings

pub returns-clause-reads : goal.returns-clause-reads
returns-clause-reads c = reads

pub returns-clause-awaits : goal.returns-clause-awaits
returns-clause-awaits c = awaits

pub returns-clause-formed : goal.returns-clause-formed
returns-clause-formed c = formed

pub returns-clause-lies : goal.returns-clause-lies
returns-clause-lies c = lies

pub returns-clause-awaits_next : goal.returns-clause-awaits_next
returns-clause-awaits_next c = awaits_next

pub returns-clause-hears : goal.returns-clause-hears
returns-clause-hears c = hears

pub returns-clause-their_leave : goal.returns-clause-their_leave
returns-clause-their_leave c = refl

pub returns-clause-connection : goal.returns-clause-connection
returns-clause-connection c = ends

pub returns-clause-arrives : goal.returns-clause-arrives
returns-clause-arrives c = arrives
