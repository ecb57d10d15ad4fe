-- A look at what connections tell of their paths: those idle tell nothing, and those that aren't due yet don't.
use Rattle.std.proofs.Common.{◌≡◌, ◌&&◌, Bool, true, false, if◌then◌else◌, ℤ, pos, ◌≤ℤ◌, List, [], ◌∷◌, Option, Some, None, refl, sym, ap, ◌∙◌, subst}
use Rattle.std.specs.Prelude.{nat_le}
use Rattle.std.specs.List.{fold}
use Rattle.std.proofs.lemmas.Bool.{and_parts}
use Rattle.ip_wire.specs.IpAddress.{IpAddress}
use Rattle.iface_ingress.specs.Context.{ContextValue}
use Rattle.iface_ingress.specs.Idle.{is_idle}
use Rattle.iface_ingress.specs.PollAt.{PollAt}
use Rattle.iface_ingress.specs.PollAt.TheVariants as At
use Rattle.iface_ingress.specs.Polling.{IsBefore}
use Rattle.iface_ingress.specs.Sockets.{poll_of}
use Rattle.iface_ingress.specs.Socket.{Socket}
use Rattle.iface_ingress.specs.Socket.TheVariants as Kind
use Rattle.iface_ingress.specs.TcpSocket.{times_out_after}
use Rattle.iface_ingress.specs.TcpValue.{TcpValue}
use Rattle.iface_ingress.proofs.AnyKind.{untimed}
use Rattle.iface_tables.specs.Inner.{InnerValue, at_instant, mtu_to}
use Rattle.iface_tables.specs.declared.path_mtu.Path.{Path}
use Rattle.iface_egress.specs.Fragments.{LeftValue}
use Rattle.iface_egress.specs.IdleSlots.{is_item_idle}
use Rattle.iface_egress.specs.declared.socket_set.Item.{Item}
use Rattle.iface_egress.specs.declared.socket_set.SocketStorage.{SocketStorage}
use Rattle.interface.specs.BlackHoles.{flight_len, paths_after, paths_by, paths_checked, paths_if, paths_in, paths_of_all, paths_told, paths_towards}
use Rattle.interface.specs.BlackHoles.{tried_below, tried_next, with_paths}
use Rattle.interface.specs.Instant.{instant_of, instant_in, item_instant, local_instant, poll_instant, slot_instant, soonest, soonest_parked}
use Rattle.interface.specs.QuietStep.{IsEarlier, IsEarly, RoutesStay}
use Rattle.interface.specs.Remote.{context_for, end_by, remote_of}
use Rattle.interface.specs.Serve.{is_waiting, passes_filter}
use Rattle.interface.proofs.Due.{AllLater, all_later, before_due, both_early, due_itself}
use Rattle.interface.proofs.IdleSlots.{IsIdle}
use Rattle.interface.proofs.Known.{stays_unknown}
use Rattle.interface.proofs.QuietPass.{negative}
use Rattle.interface.proofs.QuietTurn.{same_due}

-- BEFORE A SOCKET WANTS TO BE POLLED it tells nothing

untold : (i : InnerValue) (to : Option IpAddress) (v : TcpValue) → times_out_after 1 i.instant v.tcb ≡ false → paths_towards i to v ≡ i.paths
untold i None v none = refl
untold i (Some address) v none =
    ap (λ (b : Bool). paths_told i address (if b && nat_le (flight_len address v) (mtu_to i address) then tried_below address (flight_len address v) else None))
    none

unheard : (i : InnerValue) (s : Socket) → IsBefore i.instant (poll_of (context_for i s) s) → paths_by i s ≡ i.paths
unheard i (Kind.Raw v) before = refl
unheard i (Kind.Icmp v) before = refl
unheard i (Kind.Udp v) before = refl
unheard i (Kind.Tcp v) before = untold i (remote_of (Kind.Tcp v)) v (untimed 1 (context_for i (Kind.Tcp v)) v before)
unheard i (Kind.Dhcpv4 v) before = refl
unheard i (Kind.Dns v) before = refl

unless : {A : Type 0} (b : Bool) (x y : A) → (b ≡ false → y ≡ x) → (if b then x else y) ≡ x
unless true x y same = refl
unless false x y same = same refl

-- SOCKETS IDLE

module _ (due : (cx : ContextValue) (s : Socket) → is_idle s ≡ true → poll_of cx s ≡ At.Ingress) (i : InnerValue) where
  pub idle_untold : (paths : List Path) (slot : SocketStorage Socket) → IsIdle slot → paths_after i paths slot ≡ paths
  idle_untold paths slot rests = by slot.inner rests where
    j : InnerValue
    j = with_paths i paths

    by : (o : Option (Item Socket)) → is_item_idle is_idle o ≡ true → paths_in j o ≡ paths
    by None rests = refl
    by (Some item) rests =
        let at_rest : poll_of (context_for j item.socket) item.socket ≡ At.Ingress = due (context_for j item.socket) item.socket (and_parts _ _ rests).1 in
        unless (is_waiting j item.meta) paths (paths_by j item.socket)
        (λ free. unheard j item.socket (subst (λ (p : PollAt). IsBefore i.instant p) (sym at_rest) tt))

-- A HOST THAT ISN'T DUE YET

module _ (asked : InnerValue) (t : ℤ) (instant : pos 0 ≤ℤ t) (since : asked.instant ≤ℤ t) (routes : RoutesStay asked t) where
  early_item : (item : Item Socket) → IsEarlier t (item_instant asked item) → is_waiting (at_instant t asked) item.meta ≡ false
      → IsBefore t (poll_of (context_for (at_instant t asked) item.socket) item.socket)
  early_item item early free =
      let now = at_instant t asked in
      let p = poll_of (context_for asked item.socket) item.socket in
      let both = both_early t (end_by asked (remote_of item.socket)) (local_instant asked item) early in
      let itself : IsEarlier t (instant_of p) =
      due_itself t asked.instant p item.meta.waiting (passes_filter asked item.meta) (passes_filter now item.meta)
      (stays_unknown asked t since routes item.meta) free both.1 in
      before_due t instant (poll_of (context_for now item.socket) item.socket)
      (subst (λ (q : PollAt). IsEarlier t (instant_of q)) (sym (same_due asked t item.socket since both.0)) itself)

  early_slot : (o : Option (Item Socket)) → IsEarlier t (instant_in asked o) → paths_in (at_instant t asked) o ≡ asked.paths
  early_slot None early = refl
  early_slot (Some item) early =
      unless (is_waiting (at_instant t asked) item.meta) asked.paths (paths_by (at_instant t asked) item.socket)
      (λ free. unheard (at_instant t asked) item.socket (early_item item early free))

  early_all : (ps : List (SocketStorage Socket)) → AllLater t asked ps → fold (paths_after (at_instant t asked)) asked.paths ps ≡ asked.paths
  early_all [] later = refl
  early_all (p ∷ ps) later =
      ap (λ (paths : List Path). fold (paths_after (at_instant t asked)) paths ps) (early_slot p.inner later.0) ∙ early_all ps later.1

  early_if : (many : Bool) (ps : List (SocketStorage Socket)) → AllLater t asked ps → paths_if many (at_instant t asked) ps ≡ asked.paths
  early_if true ps later = early_all ps later
  early_if false ps later = refl

  quiet_slots : (ps : List (SocketStorage Socket)) → AllLater t asked ps → paths_checked (at_instant t asked) ps ≡ at_instant t asked
  quiet_slots ps later = ap (with_paths (at_instant t asked)) (early_if asked.host_requirements ps later)

early_slots : (asked : InnerValue) (left : Option LeftValue) (ps : List (SocketStorage Socket)) (t : ℤ) → pos 0 ≤ℤ t
    → IsEarlier t (poll_instant asked left ps) → AllLater t asked ps
early_slots asked (Some l) ps t instant early = absurd (negative t instant early)
early_slots asked None ps t instant early = all_later t asked ps (both_early t (soonest_parked asked) (soonest asked ps) early).1

-- a host that is polled too early takes in nothing
pub quiet_paths : (asked : InnerValue) (left : Option LeftValue) (ps : List (SocketStorage Socket)) (t : ℤ) → IsEarly asked left ps t →
    paths_checked (at_instant t asked) ps ≡ at_instant t asked
quiet_paths asked left ps t early =
    quiet_slots asked t early.instant early.since early.routes ps (early_slots asked left ps t early.instant early.before)
