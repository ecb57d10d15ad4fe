use Rattle.proof_stack.proofs.Polls.MayAsk.{may_ask_throughout}
use Rattle.proof_stack.proofs.progress.served.a_packet_may_leave_throughout.Goals as goal

pub returns-clause-stays : goal.returns-clause-stays
returns-clause-stays g c = may_ask_throughout g.E.Device.moves

pub returns-clause-asks : goal.returns-clause-asks
returns-clause-asks g c i settings d hop p may unknown alone room =
    record { takes = may.takes; may = may.may; unknown = unknown; asks = may.asks; alone = alone; room = room }
