use Rattle.std.proofs.Common.{◌∙◌, true, arith}
use Rattle.iface_tables.specs.Inner.{at_instant}
use Rattle.iface_egress.specs.Set.{slots}
use Rattle.interface.specs.State.{state}
use Rattle.interface.specs.Egress.{EgressStep}
use Rattle.interface.proofs.Rounds.{one_more, last_one}
use Rattle.interface.proofs.Settings.{keeps_out, settings_kept, settings_then}
use Rattle.interface.proofs.host.Interface.egress_all.Goals as goal

pub loop-left-preserved : goal.loop-left-preserved
loop-left-preserved g c = record {
  steps = λ s' c' rest. c.loop-left.invariant.steps s' c'
      (one_more (EgressStep g.D.Device.moves c.args.timestamp) c.loop-left.left (omega arith)
      (state c.loop-left.device c.loop-left.self (slots c.loop-left.sockets)) c.loop-left.any
      true (state c.send.new.device c.send.new.self (slots c.send.new.sockets)) s' c.either-any.result c' c.either-any.ensures
      c.if-not-send.ensures.step rest);
  settings = settings_then c.args.self.now.inner c.loop-left.self.inner c.send.new.self.inner c.loop-left.invariant.settings
      (settings_kept c.args.timestamp c.loop-left.self.inner c.send.new.self.inner
      (keeps_out (at_instant c.args.timestamp c.loop-left.self.inner) c.send.new.self.inner c.if-not-send.ensures.host));
  kind = c.if-not-send.ensures.kind ∙ c.loop-left.invariant.kind;
  capabilities = c.if-not-send.ensures.capabilities ∙ c.loop-left.invariant.capabilities;
}

pub returns-then-not-send-clause-steps : goal.returns-then-not-send-clause-steps
returns-then-not-send-clause-steps g c =
    c.loop-left.invariant.steps _ _
    (last_one (EgressStep g.D.Device.moves c.args.timestamp) c.loop-left.left (omega arith)
    (state c.loop-left.device c.loop-left.self (slots c.loop-left.sockets)) c.loop-left.any
    (state c.send.new.device c.send.new.self (slots c.send.new.sockets)) c.if-not-send.ensures.step)
