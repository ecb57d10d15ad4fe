use Rattle.std.proofs.Common.{◌≡◌, ◌∙◌, true, sym}
use Rattle.tcp_liveness.specs.BothWays.{waits_in}
use Rattle.tcp_pair.specs.States.{hosted}
use Rattle.tcp_pair.proofs.Led.{on_err, onward}
use Rattle.tcp_pair.proofs.Turning.{turn_or_memory, turned_by}
use Rattle.tcp_pair.proofs.pair.Pair.turn.Goals as goal
use Rattle.tcp_pair.proofs.pair.Pair.turn.Goals.{After-exchange}

waiting : (c : After-exchange) → waits_in (hosted c.args.self.now) c.args.side ≡ true
waiting c = sym c.waits.ensures ∙ c.if-not-waits.false

pub returns-clause-turn : goal.returns-clause-turn
returns-clause-turn c =
    turned_by c.exchange.result (hosted c.args.self.now) (hosted c.rouse.new.self) (hosted c.exchange.new.self) c.args.side c.wake_at-instant.result (waiting c)
    c.in_ok-rouse.ensures.roused c.wake_at-instant.ensures c.exchange.ensures.exchanged

pub returns-clause-memory : goal.returns-clause-memory
returns-clause-memory c =
    turn_or_memory c.exchange.result (hosted c.args.self.now) (hosted c.rouse.new.self) c.args.side c.wake_at-instant.result (waiting c) c.in_ok-rouse.ensures.roused
    c.wake_at-instant.ensures c.exchange.ensures.memory

pub returns-clause-leads : goal.returns-clause-leads
returns-clause-leads c = onward (hosted c.args.self.now) (hosted c.rouse.new.self) (hosted c.exchange.new.self) c.rouse.ensures.leads c.exchange.ensures.leads

pub returns-clause-kept : goal.returns-clause-kept
returns-clause-kept c = on_err c.exchange.result c.exchange.ensures.kept
