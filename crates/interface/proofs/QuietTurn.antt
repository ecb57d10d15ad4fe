-- The turn of a socket that isn't due yet.
use Rattle.std.proofs.Common.{◌≡◌, ℕ, Bool, true, false, ℤ, pos, ◌≤ℤ◌, Option, Some, None, refl, sym, ap, ◌∙◌, subst}
use Rattle.net_base.specs.Device.{Move}
use Rattle.iface_ingress.specs.Context.{ContextValue}
use Rattle.iface_ingress.specs.Offer as Answer
use Rattle.iface_ingress.specs.Offer.TheVariants as Offer
use Rattle.iface_ingress.specs.PollAt.{PollAt}
use Rattle.iface_ingress.proofs.AnyKind.{silent}
use Rattle.iface_ingress.specs.Sockets as Sockets
use Rattle.iface_ingress.specs.Sockets.{poll_of, settled}
use Rattle.iface_ingress.specs.Socket.{Socket}
use Rattle.iface_ingress.specs.Socket.TheVariants as Kind
use Rattle.iface_tables.specs.Inner.{InnerValue, at_instant, context_of, context_towards, mtu_by_destination}
use Rattle.iface_tables.proofs.PathMtu.{mtu_stays}
use Rattle.ip_wire.specs.IpAddress.{IpAddress}
use Rattle.iface_egress.specs.Meta.{poll_by, freed, unmarked}
use Rattle.iface_egress.specs.declared.socket_meta.Meta.{Meta}
use Rattle.iface_egress.specs.declared.socket_meta.Waiting.{Waiting}
use Rattle.iface_egress.specs.declared.socket_set.Item.{Item}
use Rattle.iface_egress.specs.declared.socket_set.SocketStorage.{SocketStorage}
use Rattle.interface.specs.Host.{Sender}
use Rattle.interface.specs.Instant.{earlier, instant_of, local_instant, item_instant, instant_in, slot_instant}
use Rattle.interface.specs.Remote.{remote_of, context_for, end_by}
use Rattle.interface.specs.Serve.{Answers, Asks, TurnsIf, Turns, ItemTurns, ServesSlot, passes_filter, is_waiting, let_through}
use Rattle.interface.specs.QuietStep.{IsEarlier, RoutesStay}
use Rattle.interface.specs.declared.serve.Served.{Served}
use Rattle.interface.specs.declared.serve.Served.TheVariants as Turn
use Rattle.interface.proofs.Known.{stays_unknown}
use Rattle.interface.proofs.Due.{before_due, both_early, due_itself, same_itself}

-- what is known of a path stays until its end
same_mtu : (asked : InnerValue) (t : ℤ) (to : Option IpAddress) → asked.instant ≤ℤ t → IsEarlier t (end_by asked to) →
    mtu_by_destination (at_instant t asked) to ≡ mtu_by_destination asked to
same_mtu asked t None since early = refl
same_mtu asked t (Some address) since early =
    mtu_stays asked.paths address asked.instant t asked.mtu since (λ until is. subst (λ (o : Option ℤ). IsEarlier t o) is early)

-- when a socket wants to be polled doesn't depend on the instant, until what is known of the path to its remote ends
pub same_due : (asked : InnerValue) (t : ℤ) (s : Socket) → asked.instant ≤ℤ t → IsEarlier t (end_by asked (remote_of s)) →
    poll_of (context_for (at_instant t asked) s) s ≡ poll_of (context_for asked s) s
same_due asked t (Kind.Raw v) since early = refl
same_due asked t (Kind.Icmp v) since early = refl
same_due asked t (Kind.Udp v) since early = refl
same_due asked t (Kind.Tcp v) since early =
    ap (λ (mtu : ℕ). poll_of (record (context_of asked) { ip_mtu = mtu }) (Kind.Tcp v)) (same_mtu asked t (remote_of (Kind.Tcp v)) since early)
same_due asked t (Kind.Dhcpv4 v) since early = refl
same_due asked t (Kind.Dns v) since early = refl

-- an open offer that is settled as not sent leaves a connection its remote
same_remote : (s : Socket) → remote_of (settled false s) ≡ remote_of s
same_remote (Kind.Raw v) = refl
same_remote (Kind.Icmp v) = refl
same_remote (Kind.Udp v) = refl
same_remote (Kind.Tcp v) = refl
same_remote (Kind.Dhcpv4 v) = refl
same_remote (Kind.Dns v) = refl

-- an open offer that is settled as not sent doesn't change it
abbrev pub DueAsBefore : Type 0
DueAsBefore = (cx : ContextValue) (s : Socket) → poll_of cx (settled false s) ≡ poll_of cx s

module _ (due_as_before : DueAsBefore) {D : Type 0} (moves : D → Move → D →
    Type 0) (turn : Option IpAddress) (asked : InnerValue) (t : ℤ) (instant : pos 0 ≤ℤ t) (since : asked.instant ≤ℤ t) (routes : RoutesStay asked t)
    (s s' : Sender D) (here : s.inner ≡ at_instant t asked) where
  -- The socket was silent, and is due as before.
  record IsSilent (m : Meta) (socket : Socket) (turned : Served) (item' : Item Socket) : Type 0 where
    next : turned ≡ Turn.Next false
    state : s' ≡ s
    mark : item'.meta ≡ m
    remote : remote_of item'.socket ≡ remote_of socket
    due : poll_of (context_for asked item'.socket) item'.socket ≡ poll_of (context_for asked socket) socket

  answered : (answer : Answer.Offer) (item item' : Item Socket) (turned : Served) → answer ≡ Offer.Silent false
      → Answers moves turn answer s item turned s' item' → (turned ≡ Turn.Next false) × (s' ≡ s) × (item' ≡ record item { meta = unmarked })
  answered answer item item' turned is answers =
      subst (λ (a : Answer.Offer). Answers moves turn a s item turned s' item') is answers

  asks : (item item' : Item Socket) (turned : Served) → IsEarlier t (end_by asked (remote_of item.socket))
      → IsEarlier t (instant_of (poll_of (context_for asked item.socket) item.socket))
      → Asks moves turn s item turned s' item' → IsSilent unmarked item.socket turned item'
  asks item item' turned stays early a =
      let cx = context_for (at_instant t asked) item.socket in
      let due : IsEarlier t (instant_of (poll_of cx item.socket)) =
      subst (λ (p : PollAt). IsEarlier t (instant_of p)) (sym (same_due asked t item.socket since stays)) early in
      let offers = subst (λ (i : InnerValue). Sockets.Offers (context_for i item.socket) item.socket a.0 a.1) here a.2 in
      let quiet = silent item.socket a.1 cx a.0 (before_due t instant (poll_of cx item.socket) due) offers in
      let ends = answered a.0 (record item { socket = a.1 }) item' turned quiet.0 a.3 in
      let socket : item'.socket ≡ settled false item.socket = ap (λ (x : Item Socket). x.socket) ends.2 ∙ quiet.1 in
      record {
        next = ends.0;
        state = ends.1;
        mark = ap (λ (x : Item Socket). x.meta) ends.2;
        remote = ap remote_of socket ∙ same_remote item.socket;
        due = ap (λ (x : Socket). poll_of (context_for asked x) x) socket
            ∙ ap (λ (to : Option IpAddress). poll_of (context_towards asked to) (settled false item.socket)) (same_remote item.socket)
            ∙ due_as_before (context_for asked item.socket) item.socket;
      }

  -- a mark that goes doesn't change when the socket is due
  same_instant : (w : Option Waiting) (before now : Bool) (p : PollAt) → (before ≡ false → now ≡ false) → (passes_filter asked (record { waiting = w }) ≡ before)
      → (item' : Item Socket) → item'.meta ≡ freed (record { waiting = w }) now → poll_of (context_for asked item'.socket) item'.socket ≡ p
      → local_instant asked item' ≡ instant_of (poll_by w p before asked.instant)
  same_instant w before now p stays heard item' mark due = by before now stays heard mark where
    freed_due : (o : Option Waiting) → instant_of p ≡ instant_of (poll_by o p true asked.instant)
    freed_due None = refl
    freed_due (Some x) = refl

    by : (before now : Bool) → (before ≡ false → now ≡ false) → (passes_filter asked (record { waiting = w }) ≡ before) →
        item'.meta ≡ freed (record { waiting = w }) now
        → local_instant asked item' ≡ instant_of (poll_by w p before asked.instant)
    by true true stays heard mark =
        ap (λ (m : Meta). instant_of (poll_by m.waiting (poll_of (context_for asked item'.socket) item'.socket) (passes_filter asked m) asked.instant)) mark
        ∙ ap instant_of due ∙ freed_due w
    by false true stays heard mark = absurd (let off = stays refl in cc)
    by before false stays heard mark =
        ap (λ (m : Meta). instant_of (poll_by m.waiting (poll_of (context_for asked item'.socket) item'.socket) (passes_filter asked m) asked.instant)) mark
        ∙ ap (λ (q : PollAt). instant_of (poll_by w q (passes_filter asked (record { waiting = w })) asked.instant)) due
        ∙ ap (λ (known : Bool). instant_of (poll_by w p known asked.instant)) heard

  -- with the end of what is known of the path to its remote
  all_same : (item item' : Item Socket) → remote_of item'.socket ≡ remote_of item.socket → local_instant asked item' ≡ local_instant asked item →
      item_instant asked item' ≡ item_instant asked item
  all_same item item' remote local =
      ap (λ (to : Option IpAddress). earlier (end_by asked to) (local_instant asked item')) remote
      ∙ ap (earlier (end_by asked (remote_of item.socket))) local

  quiet_asked : (item item' : Item Socket) (turned : Served) → IsEarlier t (item_instant asked item) → (waits : Bool) →
      is_waiting (at_instant t asked) item.meta ≡ waits
      → TurnsIf moves turn waits s (let_through (at_instant t asked) item) turned s' item' → (turned ≡ Turn.Next false) × (s' ≡ s) ×
      (item_instant asked item' ≡ item_instant asked item)
  quiet_asked item item' turned early true is turns =
      let now = at_instant t asked in (
        turns.0,
        turns.1,
        all_same item item' (ap (λ (x : Item Socket). remote_of x.socket) turns.2)
            (same_instant item.meta.waiting (passes_filter asked item.meta) (passes_filter now item.meta) (poll_of (context_for asked item.socket) item.socket)
            (stays_unknown asked t since routes item.meta) refl item'
            (ap (λ (x : Item Socket). x.meta) turns.2)
            (ap (λ (x : Item Socket). poll_of (context_for asked x.socket) x.socket) turns.2)),
      )
  quiet_asked item item' turned early false is turns =
      let now = at_instant t asked in
      let w = item.meta.waiting in
      let p = poll_of (context_for asked item.socket) item.socket in
      let stays = stays_unknown asked t since routes item.meta in
      let both = both_early t (end_by asked (remote_of item.socket)) (local_instant asked item) early in
      let silent_turn = asks (let_through now item) item' turned both.0
      (due_itself t asked.instant p w (passes_filter asked item.meta) (passes_filter now item.meta) stays is both.1) turns in (
        silent_turn.next,
        silent_turn.state,
        all_same item item' silent_turn.remote
            (ap (λ (m : Meta). instant_of (poll_by m.waiting (poll_of (context_for asked item'.socket) item'.socket) (passes_filter asked m) asked.instant))
            silent_turn.mark
            ∙ ap instant_of silent_turn.due ∙ same_itself t asked.instant p w (passes_filter asked item.meta) (passes_filter now item.meta) stays is both.1),
      )

  pub quiet_turn : (item item' : Item Socket) (turned : Served) → IsEarlier t (item_instant asked item) → Turns moves turn s item turned s' item'
      → (turned ≡ Turn.Next false) × (s' ≡ s) × (item_instant asked item' ≡ item_instant asked item)
  quiet_turn item item' turned early turns =
      let now = at_instant t asked in
      quiet_asked item item' turned early (is_waiting now item.meta) refl
      (subst (λ (i : InnerValue). TurnsIf moves turn (is_waiting i item.meta) s (let_through i item) turned s' item') here turns)

  item_quiet : (o o' : Option (Item Socket)) (turned : Served) → IsEarlier t (instant_in asked o) → ItemTurns moves turn o s turned s' o'
      → (turned ≡ Turn.Next false) × (s' ≡ s) × (instant_in asked o' ≡ instant_in asked o)
  item_quiet None None turned early turns = (turns.0, turns.1, refl)
  item_quiet (Some item) (Some item') turned early turns = quiet_turn item item' turned early turns
  item_quiet None (Some item') turned early turns = absurd turns
  item_quiet (Some item) None turned early turns = absurd turns

  pub quiet_slot : (p p' : SocketStorage Socket) (turned : Served) → IsEarlier t (slot_instant asked p) → ServesSlot moves turn s p turned s' p'
      → (turned ≡ Turn.Next false) × (s' ≡ s) × (slot_instant asked p' ≡ slot_instant asked p)
  quiet_slot p p' turned early turns = item_quiet p.inner p'.inner turned early turns
