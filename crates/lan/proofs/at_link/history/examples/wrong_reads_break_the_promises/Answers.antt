use Rattle.lan.proofs.Worlds.AtLink.TakenLemmas.{another_port, another_number}
use Rattle.lan.proofs.at_link.history.examples.wrong_reads_break_the_promises.Goals as goal

pub returns-clause-ports_unread : goal.returns-clause-ports_unread
returns-clause-ports_unread c = another_port

pub returns-clause-any_acknowledgement : goal.returns-clause-any_acknowledgement
returns-clause-any_acknowledgement c = another_number
