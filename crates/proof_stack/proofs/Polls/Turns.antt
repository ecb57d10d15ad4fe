-- A socket's turn: a frame goes or is refused, or the socket changes, or it isn't due any more.
use Rattle.std.proofs.Common.{◌≡◌, ℕ, Bool, true, false, not, ◌&&◌, if◌then◌else◌, ◌⊎◌, inl, inr, ℤ, ◌<ℤ◌, int_lt, List, [], ◌∷◌, Option, Some, None, is_some}
use Rattle.std.proofs.Common.{refl, sym, ap, ◌∙◌}
use Rattle.std.proofs.Common.{subst, arith}
use Rattle.net_base.specs.Device.{Move, Allowed, Emitted, Denied}
use Rattle.ip_wire.specs.IpAddress.{IpAddress}
use Rattle.ip_wire.specs.Ip.{destination_of}
use Rattle.iface_ingress.specs.Packet.{PacketValue}
use Rattle.iface_ingress.specs.Offer as Answer
use Rattle.iface_ingress.specs.Offer.TheVariants as Offer
use Rattle.iface_ingress.specs.PollAt.{PollAt}
use Rattle.iface_ingress.specs.PollAt.TheVariants as At
use Rattle.iface_ingress.specs.Polling.{IsBefore}
use Rattle.iface_ingress.specs.Sockets as Sockets
use Rattle.iface_ingress.specs.Sockets.{offered_by, poll_of, settled}
use Rattle.iface_ingress.specs.Socket.{Socket}
use Rattle.iface_tables.specs.Inner.{InnerValue, context_towards, path_end, has_neighbor}
use Rattle.iface_tables.specs.PathMtu as Paths
use Rattle.iface_tables.specs.PathMtu.{path_to, end_towards}
use Rattle.iface_tables.specs.declared.path_mtu.Path.{Path}
use Rattle.iface_ingress.specs.Context.{ContextValue}
use Rattle.iface_ingress.specs.TcpSocket.{remote_in}
use Rattle.iface_ingress.specs.Socket.TheVariants as Kind
use Rattle.iface_ingress.proofs.AnyKind.{same}
use Rattle.tcp_block.specs.declared.tcb.Names.{Names}
use Rattle.iface_egress.specs.Departure as Departures
use Rattle.iface_egress.specs.Departure.{Departure}
use Rattle.iface_egress.specs.IsTransmitted.{IsTransmitted, Asked, WasSent, WasCut, numbered, cut_of, frame_of, frame_len_of}
use Rattle.iface_egress.specs.Fragments.{LeftValue, departure_from}
use Rattle.iface_egress.specs.Meta.{neighbor_by, waits_by, freed, since_by}
use Rattle.iface_egress.specs.Parked.{outcome_of, parks, sender_after}
use Rattle.iface_egress.specs.declared.frame.NeighborQuery.{NeighborQuery}
use Rattle.iface_egress.specs.declared.plan.Plan.{Plan}
use Rattle.iface_egress.specs.declared.plan.Plan.TheVariants as Way
use Rattle.iface_egress.specs.declared.socket_meta.Waiting.{Waiting}
use Rattle.iface_egress.specs.declared.socket_set.Item.{Item}
use Rattle.iface_egress.specs.declared.socket_set.SocketStorage.{SocketStorage}
use Rattle.iface_egress.specs.declared.egress_path.Sent.{Sent}
use Rattle.iface_egress.specs.declared.egress_path.Sent.TheVariants as Outcome
use Rattle.interface.specs.Host.{Sender}
use Rattle.interface.specs.Instant.{earlier, instant_of, local_instant, item_instant, instant_in}
use Rattle.interface.specs.Remote.{address_in, remote_of, context_for, end_by}
use Rattle.interface.specs.QuietStep.{IsEarlier}
use Rattle.interface.specs.Serve.{is_known, is_waiting, let_through, waits_until, is_given_up, is_out_of_turn, settled_by, turned_by, plan_at, Leaves}
use Rattle.interface.specs.Serve.{Answers, ItemTurns, LeavesIf, SendsBy, ServesSlot, TurnsIf, outcome_by, held}
use Rattle.interface.specs.declared.serve.Served.{Served}
use Rattle.interface.specs.declared.serve.Served.TheVariants as Turn
use Rattle.std.specs.List.{list_any}
use Rattle.proof_stack.specs.Progress.Moves.{AreMoves, is_refused}
use Rattle.proof_stack.specs.Progress.OfUse.{Stirs}
use Rattle.proof_stack.specs.Progress.Patience.{IsPatient, IsItemPatient}
use Rattle.proof_stack.proofs.Polls.Plans.{is_to_wait, Facts, plan_facts, waits_later, out_of_turn_waits}
use Rattle.proof_stack.proofs.Polls.Rests.{rests}

clash : {X : Type 0} → true ≡ false → X
clash {X} e = absurd cc

-- A SOCKET THAT ISN'T DUE

earlier_of : (t : ℤ) (p : PollAt) → IsBefore t p → IsEarlier t (instant_of p)
earlier_of t At.Now before = absurd before
earlier_of t (At.Time m) before = before
earlier_of t At.Ingress before = tt

until_later : (t m : ℤ) → int_lt t m ≡ true → t <ℤ m
until_later t m e = grind (arith)

both_true : (a b : Bool) → a ≡ false → b ≡ true → (not a && b) ≡ true
both_true true b e f = clash e
both_true false b e f = f

both_later : (t a b : ℤ) (test : Bool) → IsEarlier t (Some a) → IsEarlier t (Some b) → IsEarlier t (Some (if test then b else a))
both_later t a b true one two = two
both_later t a b false one two = one

pub earlier_later : (t : ℤ) (a b : Option ℤ) → IsEarlier t a → IsEarlier t b → IsEarlier t (earlier a b)
earlier_later t None b one two = two
earlier_later t (Some a) None one two = one
earlier_later t (Some a) (Some b) one two = both_later t a b (int_lt b a) one two

-- what is known of a path ends later, if at all
end_later : (o : Option Path) (now : ℤ) → IsEarlier now (Paths.end_by o now)
end_later None now = tt
end_later (Some p) now = by (int_lt now p.until) refl where
  by : (b : Bool) → int_lt now p.until ≡ b → IsEarlier now (if b then Some p.until else None)
  by true is = until_later now p.until is
  by false is = tt

path_later : (i : InnerValue) (address : IpAddress) → IsEarlier i.instant (path_end i address)
unfolding end_towards
path_later i address = end_later (path_to i.paths address) i.instant

remote_later : (i : InnerValue) (o : Option IpAddress) → IsEarlier i.instant (end_by i o)
remote_later i None = tt
remote_later i (Some address) = path_later i address

item_later : (i : InnerValue) (item : Item Socket) → IsEarlier i.instant (local_instant i item) → IsEarlier i.instant (item_instant i item)
item_later i item own = earlier_later i.instant (end_by i (remote_of item.socket)) (local_instant i item) (remote_later i (remote_of item.socket)) own

-- a connection that changed nothing has its remote
remote_stays : (cx : ContextValue) (s s' : Socket) → Sockets.Offers cx s (Offer.Silent false) s' → remote_of s' ≡ remote_of s
remote_stays cx (Kind.Tcp v) (Kind.Tcp v') offers =
    ap (λ (names : Names). address_in (remote_in names.pair)) (same (Kind.Tcp v) (Kind.Tcp v') cx (Offer.Silent false) offers refl).names
remote_stays cx (Kind.Raw v) (Kind.Raw v') offers = refl
remote_stays cx (Kind.Icmp v) (Kind.Icmp v') offers = refl
remote_stays cx (Kind.Udp v) (Kind.Udp v') offers = refl
remote_stays cx (Kind.Dhcpv4 v) (Kind.Dhcpv4 v') offers = refl
remote_stays cx (Kind.Dns v) (Kind.Dns v') offers = refl
remote_stays cx s s' offers = absurd offers

-- one that is marked, and waits until an instant that is still to come
marked_later : (i : InnerValue) (socket : Socket) (w : Waiting) → has_neighbor i w.neighbor ≡ false → int_lt i.instant w.silent_until ≡ true
    → IsEarlier i.instant (item_instant i (record { meta = record { waiting = Some w }; socket = socket }))
marked_later i socket w unknown soon =
    item_later i (record { meta = record { waiting = Some w }; socket = socket })
    (subst (λ (test : Bool). IsEarlier i.instant (instant_of (if test then At.Time w.silent_until else poll_of (context_for i socket) socket)))
    (sym (both_true (has_neighbor i w.neighbor) (int_lt i.instant w.silent_until) unknown soon)) (until_later i.instant w.silent_until soon))

waiting_later : (i : InnerValue) (socket : Socket) (w : Option Waiting) → waits_by w (is_known i (neighbor_by w)) i.instant ≡ true
    → IsEarlier i.instant (item_instant i (record { meta = freed (record { waiting = w }) (is_known i (neighbor_by w)); socket = socket }))
waiting_later i socket None e = clash (sym e)
waiting_later i socket (Some w) e = by (has_neighbor i w.neighbor) refl e where
  by : (known : Bool) → has_neighbor i w.neighbor ≡ known → (not known && int_lt i.instant w.silent_until) ≡ true
      → IsEarlier i.instant (item_instant i (record { meta = freed (record { waiting = Some w }) known; socket = socket }))
  by true is soon = clash (sym soon)
  by false is soon = marked_later i socket w is soon

-- THE TURN

module _ {D : Type 0} (moves : D → Move → D → Type 0) where
  -- without a frame and without a refusal: the host is as it was, and a socket or a queue changed, or the socket isn't due
  pub record Calm (x x' : Sender D) (turned : Served) (o : Option (Item Socket)) : Type 0 where
    pub inner : x'.inner ≡ x.inner
    pub left : x'.left ≡ x.left
    pub changed : Bool
    pub next : turned ≡ Turn.Next changed
    pub done : (changed ≡ true) ⊎ IsEarlier x.inner.instant (instant_in x.inner o)

  -- what the turn asked of the device; if `Q` says that no socket has a user timeout of 0, what became of the socket; and that the next one
  -- has its turn, where nothing was refused
  pub record Ends (Q : Type 0) (x x' : Sender D) (turned : Served) (o : Option (Item Socket)) : Type 0 where
    pub all : List Move
    pub are : AreMoves moves all x.device x'.device
    pub what : Stirs all ⊎ (x.left ≡ None → Q → Calm x x' turned o)
    pub stops : (list_any is_refused all ≡ true) ⊎ ((b : Bool) × (turned ≡ Turn.Next b))

  module _ (Q : Type 0) (turn : Option IpAddress) (x x' : Sender D) where
    -- nothing was asked of the device
    still : (turned : Served) (o : Option (Item Socket)) (changed : Bool) → x' ≡ x → turned ≡ Turn.Next changed
        → (Q → (changed ≡ true) ⊎ IsEarlier x.inner.instant (instant_in x.inner o)) → Ends Q x x' turned o
    still turned o changed same next done = record {
      all = [];
      are = ap (λ (y : Sender D). y.device) same;
      what = inr (λ _ q. record {
        inner = ap (λ (y : Sender D). y.inner) same;
        left = ap (λ (y : Sender D). y.left) same;
        changed = changed;
        next = next;
        done = done q;
      });
      stops = inr (changed, next);
    }

    -- it gave leave, and no frame went
    admitted : (turned : Served) (o : Option (Item Socket)) (b : Bool) → moves x.device (Allowed x.inner.instant true) x'.device → turned ≡ Turn.Next b
        → (x.left ≡ None → Calm x x' turned o) → Ends Q x x' turned o
    admitted turned o b leave next calm = record {
      all = Allowed x.inner.instant true ∷ [];
      are = (x'.device, leave, refl);
      what = inr (λ none _. calm none);
      stops = inr (b, next);
    }

    module _ (p : PacketValue) (item item' : Item Socket) (changed : Bool) (turned : Served) where
      -- what becomes of the packet, and of its socket
      abbrev Gets : Plan → Sent → Type 0
      Gets plan sent = (turned ≡ turned_by sent changed) ×
          (item' ≡ settled_by sent x.inner.instant (waits_until plan x'.inner) (destination_of p.header) item)

      calm_dropped : (plan : Plan) (sent : Sent) → sent ≡ Outcome.Dropped → Gets plan sent → x'.inner ≡ x.inner → x'.left ≡ x.left
          → Calm x x' turned (Some item')
      calm_dropped plan sent is gets inner left = record {
        inner = inner;
        left = left;
        changed = true;
        next = gets.0 ∙ ap (λ (s : Sent). turned_by s changed) is;
        done = inl refl;
      }

      calm_waits : (plan : Plan) (sent : Sent) → sent ≡ Outcome.Waits → is_to_wait plan ≡ true → Facts x.inner (is_some x.left) p.header plan
          → Gets plan sent → x'.inner ≡ x.inner → x'.left ≡ x.left → Calm x x' turned (Some item')
      calm_waits plan sent is waits facts gets inner left =
          let to : IpAddress = destination_of p.header in
          let mark : ℤ → Waiting = λ until. record { neighbor = to; since = since_by item.meta.waiting to x.inner.instant; silent_until = until } in
          let became : item' ≡ record { meta = record { waiting = Some (mark (waits_until plan x.inner)) }; socket = settled false item.socket } =
          gets.1 ∙ ap (λ (s : Sent). settled_by s x.inner.instant (waits_until plan x'.inner) to item) is
          ∙ ap (λ (i : InnerValue). settled_by Outcome.Waits x.inner.instant (waits_until plan i) to item) inner in
          record {
            inner = inner;
            left = left;
            changed = changed;
            next = gets.0 ∙ ap (λ (s : Sent). turned_by s changed) is;
            done = inr (subst (λ (it : Item Socket). IsEarlier x.inner.instant (item_instant x.inner it)) (sym became)
                (marked_later x.inner (settled false item.socket) (mark (waits_until plan x.inner)) (facts.unknown waits) (waits_later plan x.inner waits)));
          }

      module _ (mid : D) (leave : moves x.device (Allowed x.inner.instant true) mid) where
        went : (frame : List ℕ) (b : Bool) → moves mid (Emitted frame) x'.device → turned ≡ Turn.Next b → Ends Q x x' turned (Some item')
        went frame b move next = record {
          all = Allowed x.inner.instant true ∷ Emitted frame ∷ [];
          are = (mid, leave, (x'.device, move, refl));
          what = inl (inl refl);
          stops = inr (b, next);
        }

        was_refused : (len : ℕ) → moves mid (Denied len) x'.device → Ends Q x x' turned (Some item')
        was_refused len move = record {
          all = Allowed x.inner.instant true ∷ Denied len ∷ [];
          are = (mid, leave, (x'.device, move, refl));
          what = inl (inr refl);
          stops = inl refl;
        }

        stays : x'.device ≡ mid → moves x.device (Allowed x.inner.instant true) x'.device
        stays is = subst (λ (d : D). moves x.device (Allowed x.inner.instant true) d) (sym is) leave

        asked : (q : NeighborQuery) (sent : Sent) → Asked moves mid x.inner q sent x'.device x'.inner → turned ≡ turned_by sent changed
            → Ends Q x x' turned (Some item')
        asked q Outcome.Waits goes next = went (frame_of x.inner (Departures.Asks q)) changed goes.0.0 next
        asked q Outcome.Refused goes next = was_refused (frame_len_of x.inner (Departures.Asks q)) goes.0
        asked q Outcome.Gone goes next = absurd goes
        asked q Outcome.Dropped goes next = absurd goes
        asked q Outcome.Busy goes next = absurd goes

        whole : (d : Departure) (sent : Sent) → WasSent moves mid x.inner p.header d sent x'.device x'.inner → turned ≡ turned_by sent changed
            → Ends Q x x' turned (Some item')
        whole d Outcome.Gone goes next = went (frame_of x.inner d) true goes.0.0 next
        whole d Outcome.Refused goes next = was_refused (frame_len_of x.inner d) goes.0
        whole d Outcome.Waits goes next = absurd goes
        whole d Outcome.Dropped goes next = absurd goes
        whole d Outcome.Busy goes next = absurd goes

        cut : (c : LeftValue) (sent : Sent) → WasCut moves mid x.inner x.left c sent x'.device x'.inner x'.left → turned ≡ turned_by sent changed
            → Ends Q x x' turned (Some item')
        cut c Outcome.Gone goes next = went (frame_of x.inner (departure_from x.inner c)) true goes.0.0 next
        cut c Outcome.Refused goes next = was_refused (frame_len_of x.inner (departure_from x.inner c)) goes.0
        cut c Outcome.Waits goes next = absurd goes
        cut c Outcome.Dropped goes next = absurd goes
        cut c Outcome.Busy goes next = absurd goes

        none_busy : x.left ≡ None → is_some x.left ≡ false
        none_busy none = ap is_some none

        out : (plan : Plan) (sent : Sent) → Facts x.inner (is_some x.left) p.header plan
            → IsTransmitted moves mid x.inner x.left p plan sent x'.device x'.inner x'.left → Gets plan sent → Ends Q x x' turned (Some item')
        out Way.Drop sent facts goes gets =
            admitted turned (Some item') true (stays goes.1.0) (gets.0 ∙ ap (λ (s : Sent). turned_by s changed) goes.0)
            (λ _. calm_dropped Way.Drop sent goes.0 gets goes.1.1 goes.1.2)
        out Way.NoRoute sent facts goes gets =
            admitted turned (Some item') changed (stays goes.1.0) (gets.0 ∙ ap (λ (s : Sent). turned_by s changed) goes.0)
            (λ _. calm_waits Way.NoRoute sent goes.0 refl facts gets goes.1.1 goes.1.2)
        out Way.Wait sent facts goes gets =
            admitted turned (Some item') changed (stays goes.1.0) (gets.0 ∙ ap (λ (s : Sent). turned_by s changed) goes.0)
            (λ _. calm_waits Way.Wait sent goes.0 refl facts gets goes.1.1 goes.1.2)
        out Way.Busy sent facts goes gets =
            admitted turned (Some item') changed (stays goes.1.0) (gets.0 ∙ ap (λ (s : Sent). turned_by s changed) goes.0)
            (λ none. clash (facts.idle (none_busy none)))
        out (Way.Ask q) sent facts goes gets = asked q sent goes.0 gets.0
        out (Way.Go to) sent facts goes gets = whole (Departures.Whole to (numbered x.inner p)) sent goes.0 gets.0
        out (Way.Cut to) sent facts goes gets = cut (cut_of x.inner to p) sent goes gets.0

      held_ends : (plan : Plan) (sent : Sent) (given_up other : Bool) → moves x.device (Allowed x.inner.instant true) x'.device →
          (other ≡ true → is_to_wait plan ≡ true)
          → Facts x.inner (is_some x.left) p.header plan
          → (if given_up then Some Outcome.Dropped else if other then Some Outcome.Waits else None) ≡ Some sent
          → Gets plan sent → x'.inner ≡ x.inner → x'.left ≡ x.left → Ends Q x x' turned (Some item')
      held_ends plan sent true other move waits facts is gets inner left =
          let dropped : sent ≡ Outcome.Dropped = (let same : Some Outcome.Dropped ≡ Some sent = is in sym cc) in
          admitted turned (Some item') true move (gets.0 ∙ ap (λ (s : Sent). turned_by s changed) dropped)
          (λ _. calm_dropped plan sent dropped gets inner left)
      held_ends plan sent false true move waits facts is gets inner left =
          let stays : sent ≡ Outcome.Waits = (let same : Some Outcome.Waits ≡ Some sent = is in sym cc) in
          admitted turned (Some item') changed move (gets.0 ∙ ap (λ (s : Sent). turned_by s changed) stays)
          (λ _. calm_waits plan sent stays (waits refl) facts gets inner left)
      held_ends plan sent false false move waits facts is gets inner left =
          absurd (let never : (let o : Option Sent = None in o) ≡ Some sent = is in cc)

      pub leaves : (sent : Sent) → Leaves moves turn x item.meta p sent x' → Gets (plan_at x p) sent → Ends Q x x' turned (Some item')
      leaves sent (inl rests) gets = by rests.0 rests.1 rests.4 where
        by : (given : Bool) → moves x.device (Allowed x.inner.instant given) x'.device
            → outcome_by given (held turn item.meta x.inner (destination_of p.header) (plan_at x p)) ≡ Some sent
            → Ends Q x x' turned (Some item')
        by false move is = record { all = Allowed x.inner.instant false ∷ []; are = (x'.device, move, refl); what = inl (inr refl); stops = inl refl }
        by true move is =
            held_ends (plan_at x p) sent (is_given_up item.meta x.inner (destination_of p.header) (plan_at x p)) (is_out_of_turn turn (plan_at x p)) move
            (out_of_turn_waits turn (plan_at x p)) (plan_facts x.inner (is_some x.left) p.header) is gets rests.2 rests.3
      leaves sent (inr goes) gets =
          out goes.0 goes.1 (plan_at x p) sent (plan_facts x.inner (is_some x.left) p.header) goes.2 gets

  -- what a turn comes to where a packet may be parked, which is a change
  pub record TurnEnds (Q : Type 0) (x x' : Sender D) (turned : Served) (o : Option (Item Socket)) : Type 0 where
    pub all : List Move
    pub are : AreMoves moves all x.device x'.device
    pub what : Stirs all ⊎ (x.left ≡ None → Q → (turned ≡ Turn.Next true) ⊎ Calm x x' turned o)

  unparked : (Q : Type 0) (x x' : Sender D) (turned : Served) (o : Option (Item Socket)) → Ends Q x x' turned o → TurnEnds Q x x' turned o
  unparked Q x x' turned o ends = record { all = ends.all; are = ends.are; what = by ends.what } where
    by : Stirs ends.all ⊎ (x.left ≡ None → Q → Calm x x' turned o) → Stirs ends.all ⊎ (x.left ≡ None → Q → (turned ≡ Turn.Next true) ⊎ Calm x x' turned o)
    by (inl stirs) = inl stirs
    by (inr calm) = inr (λ none q. inr (calm none q))

  module _ (Q : Type 0) (turn : Option IpAddress) (x x' : Sender D) where
    sends_if : (many : Bool) (p : PacketValue) (item item' : Item Socket) (changed : Bool) (turned : Served) (sent : Sent)
        → LeavesIf moves turn many x item.meta p sent x' → turned ≡ turned_by sent changed
        → item' ≡ settled_by sent x.inner.instant (waits_until (plan_at x p) x'.inner) (destination_of p.header) item → TurnEnds Q x x' turned (Some item')
    sends_if false p item item' changed turned sent goes next settles =
        unparked Q x x' turned (Some item') (leaves Q turn x x' p item item' changed turned sent goes (next, settles))
    sends_if true p item item' changed turned sent (came, mid, goes, outcome, after) next settles =
        by (parks mid.inner p (plan_at x p) came) outcome after
      where
        by : (b : Bool) → sent ≡ outcome_of b came → x' ≡ sender_after b p mid → TurnEnds Q x x' turned (Some item')
        by false is same =
            let stays : x' ≡ mid = same in
            let here : Leaves moves turn x item.meta p sent x' =
            subst (λ (y : Sender D). Leaves moves turn x item.meta p sent y) (sym stays)
            (subst (λ (s : Sent). Leaves moves turn x item.meta p s mid) (sym is) goes) in
            unparked Q x x' turned (Some item') (leaves Q turn x x' p item item' changed turned sent here (next, settles))
        by true is same =
            let then_item : Item Socket =
            settled_by came x.inner.instant (waits_until (plan_at x p) mid.inner) (destination_of p.header) item in
            let ends : Ends Q x mid (turned_by came changed) (Some then_item) =
            leaves Q turn x mid p item then_item changed (turned_by came changed) came goes (refl, refl) in
            record {
              all = ends.all;
              are = subst (λ (d : D). AreMoves moves ends.all x.device d) (sym (ap (λ (y : Sender D). y.device) same)) ends.are;
              what = inr (λ _ _. inl (next ∙ ap (λ (s : Sent). turned_by s changed) is));
            }

    rests_so : (turned : Served) (o : Option (Item Socket)) (changed : Bool) → x' ≡ x → turned ≡ Turn.Next changed
        → (Q → (changed ≡ true) ⊎ IsEarlier x.inner.instant (instant_in x.inner o)) → TurnEnds Q x x' turned o
    rests_so turned o changed same next done = unparked Q x x' turned o (still Q turn x x' turned o changed same next done)

    sends : (o : Option PacketValue) (item item' : Item Socket) (changed : Bool) (turned : Served) → SendsBy moves turn o x item changed turned x' item'
        → TurnEnds Q x x' turned (Some item')
    sends None item item' changed turned goes = absurd goes
    sends (Some p) item item' changed turned goes =
        sends_if x.inner.host_requirements goes.0 item item' changed turned goes.3.0 goes.3.1 goes.3.2 goes.3.3

    answers : (answer : Answer.Offer) (before : Socket) (item item' : Item Socket) (turned : Served) → (Q → IsPatient before)
        → Sockets.Offers (context_for x.inner before) before answer item.socket → Answers moves turn answer x item turned x' item'
        → TurnEnds Q x x' turned (Some item')
    answers (Offer.Packet changed) before item item' turned patient offers goes = sends (offered_by item.socket) item item' changed turned goes
    answers (Offer.Silent true) before item item' turned patient offers goes = rests_so turned (Some item') true goes.1 goes.0 (λ _. inl refl)
    answers (Offer.Silent false) before item item' turned patient offers goes =
        rests_so turned (Some item') false goes.1 goes.0
        (λ q. inr (subst (λ (it : Item Socket). IsEarlier x.inner.instant (item_instant x.inner it)) (sym goes.2)
        (item_later x.inner (record { meta = record { waiting = None }; socket = item.socket })
        (subst (λ (to : Option IpAddress). IsEarlier x.inner.instant (instant_of (poll_of (context_towards x.inner to) item.socket)))
        (sym (remote_stays (context_for x.inner before) before item.socket offers))
        (earlier_of x.inner.instant (poll_of (context_for x.inner before) item.socket)
        (rests (context_for x.inner before) before item.socket (patient q) offers))))))

    turns_if : (waits : Bool) (item item' : Item Socket) (turned : Served) → (Q → IsPatient item.socket) → is_waiting x.inner item.meta ≡ waits
        → TurnsIf moves turn waits x (let_through x.inner item) turned x' item' → TurnEnds Q x x' turned (Some item')
    turns_if true item item' turned patient is goes =
        rests_so turned (Some item') false goes.1 goes.0
        (λ _. inr (subst (λ (it : Item Socket). IsEarlier x.inner.instant (item_instant x.inner it)) (sym goes.2)
        (waiting_later x.inner item.socket item.meta.waiting is)))
    turns_if false item item' turned patient is goes =
        answers goes.0 item.socket (record (let_through x.inner item) { socket = goes.1 }) item' turned patient goes.2 goes.3

    item_ends : (o o' : Option (Item Socket)) (turned : Served) → (Q → IsItemPatient o) → ItemTurns moves turn o x turned x' o' → TurnEnds Q x x' turned o'
    item_ends None None turned patient goes = rests_so turned None false goes.1 goes.0 (λ _. inr tt)
    item_ends (Some item) (Some item') turned patient goes = turns_if (is_waiting x.inner item.meta) item item' turned patient refl goes
    item_ends None (Some item') turned patient goes = absurd goes
    item_ends (Some item) None turned patient goes = absurd goes

    pub slot_ends : (p p' : SocketStorage Socket) (turned : Served) → (Q → IsItemPatient p.inner) → ServesSlot moves turn x p turned x' p'
        → TurnEnds Q x x' turned p'.inner
    slot_ends p p' turned patient goes = item_ends p.inner p'.inner turned patient goes
