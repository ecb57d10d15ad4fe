-- A socket that listens again does so once.
use Rattle.std.proofs.Common.{◌≡◌, ℕ, ◌==◌, Bool, true, false, arith, refl, sym, ap, ◌∙◌, subst}
use Rattle.std.specs.Prelude.{if◌then◌else◌, Option, Some, None}
use Rattle.iface_egress.specs.Meta.{unmarked}
use Rattle.iface_egress.specs.declared.socket_meta.Meta.{Meta}
use Rattle.iface_egress.specs.declared.socket_set.Item.{Item}
use Rattle.iface_egress.specs.declared.socket_set.SocketStorage.{SocketStorage}
use Rattle.ip_wire.specs.IpListenEndpoint.{IpListenEndpoint}
use Rattle.iface_ingress.specs.Socket.{Socket}
use Rattle.iface_ingress.specs.Socket.TheVariants as Kind
use Rattle.iface_ingress.specs.State.{State}
use Rattle.iface_ingress.specs.State.TheVariants as In
use Rattle.iface_ingress.specs.TcpCalls.{listen_after}
use Rattle.iface_ingress.specs.TcpStates.{is_closed}
use Rattle.iface_ingress.specs.TcpValue.{TcpValue}
use Rattle.interface.specs.declared.listener.entry.Entry.{Entry}
use Rattle.interface.specs.Backlog.Noted.{socket_state, item_state, state_at, relisted, relisted_socket, unmarked_if, relisted_mark, relisted_item, relisted_slot, ComesTo, IsNoted}
use Rattle.interface.specs.Backlog.Stages.{stage_after}
use Rattle.interface.specs.declared.listener.stage.Stage.{Stage}

module _ (endpoint : IpListenEndpoint) where
  listened_by : (nowhere : Bool) → (v : TcpValue) → (endpoint.port == 0) ≡ nowhere → is_closed v.tcb.state ≡ true →
      relisted endpoint (relisted endpoint v) ≡ relisted endpoint v
  listened_by nowhere v e closed = grind arith

  again_by : (closed : Bool) → (v : TcpValue) → is_closed v.tcb.state ≡ closed → relisted endpoint (relisted endpoint v) ≡ relisted endpoint v
  again_by true v closed = listened_by (endpoint.port == 0) v refl closed
  again_by false v isnt = grind arith

  again : (v : TcpValue) → relisted endpoint (relisted endpoint v) ≡ relisted endpoint v
  again v = again_by (is_closed v.tcb.state) v refl

  again_socket : (s : Socket) → relisted_socket endpoint (relisted_socket endpoint s) ≡ relisted_socket endpoint s
  again_socket (Kind.Tcp v) = ap Kind.Tcp (again v)
  again_socket (Kind.Udp v) = refl
  again_socket (Kind.Icmp v) = refl
  again_socket (Kind.Raw v) = refl
  again_socket (Kind.Dhcpv4 v) = refl
  again_socket (Kind.Dns v) = refl

  again_mark : (v : TcpValue) → (m : Meta) → relisted_mark (Kind.Tcp (relisted endpoint v)) (relisted_mark (Kind.Tcp v) m) ≡ relisted_mark (Kind.Tcp v) m
  again_mark v m = marked_by (is_closed v.tcb.state) refl where
    unmarked_stays : (b : Bool) → unmarked_if b unmarked ≡ unmarked
    unmarked_stays true = refl
    unmarked_stays false = refl

    marked_by : (closed : Bool) → is_closed v.tcb.state ≡ closed
        → unmarked_if (is_closed (relisted endpoint v).tcb.state) (unmarked_if (is_closed v.tcb.state) m) ≡ unmarked_if (is_closed v.tcb.state) m
    marked_by true closed =
        subst (λ (b : Bool). unmarked_if (is_closed (relisted endpoint v).tcb.state) (unmarked_if b m) ≡ unmarked_if b m) (sym closed)
        (unmarked_stays (is_closed (relisted endpoint v).tcb.state))
    marked_by false isnt =
        let same : relisted endpoint v ≡ v = ap (λ (b : Bool). if b then listen_after v endpoint else v) isnt in
        let still : is_closed (relisted endpoint v).tcb.state ≡ false = ap (λ (w : TcpValue). is_closed w.tcb.state) same ∙ isnt in
        subst (λ (b : Bool). unmarked_if (is_closed (relisted endpoint v).tcb.state) (unmarked_if b m) ≡ unmarked_if b m) (sym isnt)
        (ap (λ (b : Bool). unmarked_if b m) still)

  again_mark_of : (s : Socket) → (m : Meta) → relisted_mark (relisted_socket endpoint s) (relisted_mark s m) ≡ relisted_mark s m
  again_mark_of (Kind.Tcp v) m = again_mark v m
  again_mark_of (Kind.Udp v) m = refl
  again_mark_of (Kind.Icmp v) m = refl
  again_mark_of (Kind.Raw v) m = refl
  again_mark_of (Kind.Dhcpv4 v) m = refl
  again_mark_of (Kind.Dns v) m = refl

  again_item : (item : Option (Item Socket)) → relisted_item endpoint (relisted_item endpoint item) ≡ relisted_item endpoint item
  again_item None = refl
  again_item (Some item) = cc (again_socket item.socket, again_mark_of item.socket item.meta)

  -- a slot whose socket listens again does so once
  pub relisted_once : (slot : SocketStorage Socket) → relisted_slot endpoint (relisted_slot endpoint slot) ≡ relisted_slot endpoint slot
  relisted_once slot = ap (λ (item : Option (Item Socket)). record { inner = item }) (again_item slot.inner)

closed_is : (s : State) → is_closed s ≡ true → s ≡ In.Closed
closed_is s closed = grind arith

module _ (endpoint : IpListenEndpoint) (now : ℕ) (e e' : Entry) where
  stage_of : (nowhere : Bool) → (v : TcpValue) → (endpoint.port == 0) ≡ nowhere → is_closed v.tcb.state ≡ true
      → stage_after e.stage (relisted endpoint v).tcb.state ≡ stage_after e.stage v.tcb.state
  stage_of nowhere v port closed =
      let is : v.tcb.state ≡ In.Closed = closed_is v.tcb.state closed in grind arith

  stage_by : (closed : Bool) → (v : TcpValue) → is_closed v.tcb.state ≡ closed →
      stage_after e.stage (relisted endpoint v).tcb.state ≡ stage_after e.stage v.tcb.state
  stage_by true v closed = stage_of (endpoint.port == 0) v refl closed
  stage_by false v isnt = grind arith

  before_tcp : (v : TcpValue) → IsNoted now (Some (relisted endpoint v).tcb.state) e e' → IsNoted now (Some v.tcb.state) e e'
  before_tcp v noted = subst (λ (stage : Stage). ComesTo now stage e e') (stage_by (is_closed v.tcb.state) v refl) noted

  before_socket : (s : Socket) → IsNoted now (socket_state (relisted_socket endpoint s)) e e' → IsNoted now (socket_state s) e e'
  before_socket (Kind.Tcp v) noted = before_tcp v noted
  before_socket (Kind.Udp v) noted = noted
  before_socket (Kind.Icmp v) noted = noted
  before_socket (Kind.Raw v) noted = noted
  before_socket (Kind.Dhcpv4 v) noted = noted
  before_socket (Kind.Dns v) noted = noted

  before_item : (item : Option (Item Socket)) → IsNoted now (item_state (relisted_item endpoint item)) e e' → IsNoted now (item_state item) e e'
  before_item None noted = noted
  before_item (Some item) noted = before_socket item.socket noted

  -- a socket that listens again was closed, which is the same stage
  pub noted_before : (slot : SocketStorage Socket) → IsNoted now (state_at (relisted_slot endpoint slot)) e e' → IsNoted now (state_at slot) e e'
  noted_before slot noted = before_item slot.inner noted
