use Rattle.std.proofs.Common.{◌∙◌, arith}
use Rattle.iface_egress.specs.Set.{slots}
use Rattle.interface.specs.State.{state}
use Rattle.interface.specs.Ingress.{IngressStep}
use Rattle.interface.proofs.Rounds.{one_more, last_one}
use Rattle.interface.proofs.Settings.{settings_kept, settings_then}
use Rattle.interface.proofs.host.Interface.ingress_all.Goals as goal

pub loop-left-preserved : goal.loop-left-preserved
loop-left-preserved g c = record {
  steps = λ s' c' rest. c.loop-left.invariant.steps s' c'
      (one_more (IngressStep g.D.Device.moves c.args.timestamp) c.loop-left.left (omega arith)
      (state c.loop-left.device c.loop-left.self (slots c.loop-left.sockets)) c.loop-left.changed
      c.in-Some.more (state c.receive.new.device c.receive.new.self (slots c.receive.new.sockets)) s' c.either-changed.result c' c.either-changed.ensures
      c.in-Some.ensures.step rest);
  settings = settings_then c.args.self.now.inner c.loop-left.self.inner c.receive.new.self.inner c.loop-left.invariant.settings
      (settings_kept c.args.timestamp c.loop-left.self.inner c.receive.new.self.inner c.in-Some.ensures.settings);
  kind = c.in-Some.ensures.kind ∙ c.loop-left.invariant.kind;
  capabilities = c.in-Some.ensures.capabilities ∙ c.loop-left.invariant.capabilities;
}

pub returns-in-None-clause-steps : goal.returns-in-None-clause-steps
returns-in-None-clause-steps g c =
    c.loop-left.invariant.steps _ _
    (last_one (IngressStep g.D.Device.moves c.args.timestamp) c.loop-left.left (omega arith)
    (state c.loop-left.device c.loop-left.self (slots c.loop-left.sockets)) c.loop-left.changed
    (state c.receive.new.device c.receive.new.self (slots c.receive.new.sockets)) c.in-None.ensures.step)
