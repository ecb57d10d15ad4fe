use Rattle.std.proofs.Common.{◌≡◌, Bool, false}
use Rattle.iface_egress.specs.Set.{slots, is_fixed}
use Rattle.iface_egress.specs.Departing.{HasSettingsOf}
use Rattle.interface.specs.State.{State, state}
use Rattle.interface.specs.Ingress.{IngressStep}
use Rattle.interface.specs.Polls.{Repeats}
use Rattle.interface.proofs.host.Interface.ingress_all.Given as goal

abbrev pub invariant-loop-left : goal.invariant-loop-left
invariant-loop-left g l = record {
  steps : (s' : State _) (c' : Bool) → Repeats (IngressStep g.D.Device.moves l.timestamp) l.left (state l.device l.self (slots l.sockets)) l.changed s' c'
      → Repeats (IngressStep g.D.Device.moves l.timestamp) l.fn.budget (state l.initial.device l.initial.self (slots l.initial.sockets)) false s' c';
  settings : HasSettingsOf l.initial.self.inner l.self.inner;
  kind : is_fixed l.sockets ≡ is_fixed l.initial.sockets;
  capabilities : g.D.Device.described l.device ≡ g.D.Device.described l.initial.device;
}

abbrev pub decreases-loop-left : goal.decreases-loop-left
decreases-loop-left g l = l.left
