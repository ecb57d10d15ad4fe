use Rattle.interface.specs.Host.{sender}
use Rattle.interface.specs.Pass.{passed}
use Rattle.interface.proofs.QuietPass.{quiet_egress}
use Rattle.interface.proofs.SameHost.{egress_same_host}
use Rattle.interface.proofs.StepUnchanged.{egress_same}
use Rattle.interface.proofs.step.egress.Goals as goal

pub returns-clause-unchanged : goal.returns-clause-unchanged
returns-clause-unchanged g c =
    egress_same g.D.Device.moves (sender c.args.device.now c.args.inner.now c.args.fragmenter.now) c.args.slots.now
    (passed (sender c.send_turns.new.device c.send_turns.new.inner c.send_turns.new.fragmenter) c.send_turns.new.slots c.send_turns.result)
    c.send_turns.ensures.egress

pub returns-clause-quiet : goal.returns-clause-quiet
returns-clause-quiet g c = λ asked here early.
    quiet_egress c.due_as_before.ensures g.D.Device.moves asked c.args.inner.now.instant early.instant early.since early.routes
    (sender c.args.device.now c.args.inner.now c.args.fragmenter.now) here c.args.slots.now
    (passed (sender c.send_turns.new.device c.send_turns.new.inner c.send_turns.new.fragmenter) c.send_turns.new.slots c.send_turns.result) early.before
    c.send_turns.ensures.egress

pub returns-clause-host : goal.returns-clause-host
returns-clause-host g c =
    egress_same_host g.D.Device.moves (sender c.args.device.now c.args.inner.now c.args.fragmenter.now) c.args.slots.now
    (passed (sender c.send_turns.new.device c.send_turns.new.inner c.send_turns.new.fragmenter) c.send_turns.new.slots c.send_turns.result)
    c.send_turns.ensures.egress
