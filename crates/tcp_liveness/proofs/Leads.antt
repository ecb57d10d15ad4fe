-- Each side of a pair that events led to is a socket that events of its own led to.
use Rattle.std.proofs.Common.{◌≡◌, ℕ, ◌==◌, ◌&&◌, not, Bool, true, false, List, [], ◌∷◌, ◌++◌, None, refl, sym, ap, ◌∙◌, subst}
use Rattle.net_base.specs.Ring.{Ring}
use Rattle.ip_wire.specs.IpListenEndpoint.{IpListenEndpoint}
use Rattle.tcp_refinement.proofs.Tied.{if_not}
use Rattle.tcp_invariants.specs.Events.{Event, after, led}
use Rattle.tcp_invariants.specs.Events.Event.{Listens}
use Rattle.tcp_invariants.specs.States.{is_closed}
use Rattle.tcp_block.specs.Calls.{listening}
use Rattle.tcp_block.specs.Value.{TcpValue, new_socket, unoffered}
use Rattle.tcp_refinement.specs.Pair.Values.{PairValue}
use Rattle.tcp_refinement.specs.declared.pair.event.Side.{Side}
use Rattle.tcp_liveness.specs.Pair.{socket_of}
use Rattle.tcp_liveness.specs.Reached.{IsReached, both_started}
use Rattle.tcp_liveness.proofs.Events.{of_side, by_steps}

pub record IsLed (v : TcpValue) : Type 0 where
  pub room : ℕ
  pub ring : Ring ℕ
  pub events : List Event
  pub is : v ≡ led (new_socket room ring) events

one_more : (v : TcpValue) (events : List Event) (it : Event) → led v (events ++ it ∷ []) ≡ after (led v events) it
one_more v [] it = refl
one_more v (first ∷ events) it = one_more (after v first) events it

pub event_led : (v : TcpValue) (it : Event) → IsLed v → IsLed (after v it)
event_led v it l = record {
  room = l.room;
  ring = l.ring;
  events = l.events ++ it ∷ [];
  is = ap (λ (x : TcpValue). after x it) l.is ∙ sym (one_more (new_socket l.room l.ring) l.events it);
}

-- a call that is refused leaves a socket without its offer
nowhere : IpListenEndpoint
nowhere = record { addr = None; port = 0 }

refused : (v : TcpValue) → after v (Listens nowhere) ≡ unoffered v
unfolding nowhere
refused v = if_not (is_closed v.tcb.state && not (0 == 0)) (listening v nowhere) (unoffered v) (never (is_closed v.tcb.state)) where
  never : (closed : Bool) → (closed && false) ≡ false
  never true = refl
  never false = refl

pub unoffered_led : (v : TcpValue) → IsLed v → IsLed (unoffered v)
unoffered_led v l = subst IsLed (refused v) (event_led v (Listens nowhere) l)

pub new_led : (room : ℕ) (ring : Ring ℕ) → IsLed (new_socket room ring)
new_led room ring = record { room = room; ring = ring; events = []; is = refl }

pub led_side : (p : PairValue) (side : Side) → IsReached p → IsLed (socket_of p side)
led_side p side r =
    of_side IsLed p.sides side
    (by_steps IsLed event_led unoffered_led (both_started r.a r.b) r.events p r.steps
    (record { first = new_led r.a.room r.a.ring; second = new_led r.b.room r.b.ring }))
