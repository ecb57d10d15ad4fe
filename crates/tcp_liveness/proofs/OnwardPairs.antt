-- What was acknowledged and taken stays so, whatever happens.
use Rattle.std.proofs.Common.{◌≡◌, ◌⊎◌, inl, inr, ℕ, ◌+◌, ◌-◌, ◌<◌, ◌≤◌, not, min, ℤ, Bool, true, false, if◌then◌else◌}
use Rattle.std.proofs.Common.{List, [], ◌∷◌, ◌++◌, length, take, Option, Some, None, is_some, Result, Ok, Err, slice_get, refl, sym, ap, ◌∙◌, subst, arith}
use Rattle.std.proofs.Common.{drop, length-append, length-drop, length-take}
use Rattle.std.proofs.lemmas.Bool.{cond_both}
use Rattle.net_base.specs.Ring.{anchored, enqueued}
use Rattle.tcp_theory.specs.Side.{Opening}
use Rattle.tcp_theory.specs.Side.Opening.{NotYet, Passive, Active}
use Rattle.tcp_refinement.specs.History.{closed_by, closes_in}
use Rattle.tcp_refinement.specs.Tie.{IsConnectedAs, Keeps, Past, core_of, is_closed_in, unsent}
use Rattle.tcp_refinement.proofs.Tied.{fits_connected, if_not}
use Rattle.tcp_invariants.specs.RecvError.{RecvError}
use Rattle.tcp_invariants.specs.RecvError.TheVariants as Reading
use Rattle.tcp_block.specs.SendError.TheVariants as Sending
use Rattle.tcp_invariants.specs.State.{State}
use Rattle.tcp_invariants.specs.State.TheVariants as In
use Rattle.tcp_invariants.specs.States.{after_close, is_closed, is_opening, is_time_wait, owes_fin, accepts_data, takes_writes}
use Rattle.tcp_invariants.proofs.OrderSteps.{clash}
use Rattle.tcp_block.specs.Arrival.{arrives}
use Rattle.tcp_block.specs.TcbRules.{one_if}
use Rattle.tcp_block.specs.Calls.{recv_answer, sent_more}
use Rattle.tcp_refinement.specs.Pair.History.{adds, pasts, recv_adds, send_adds, side_of}
use Rattle.tcp_block.specs.Names.{accepts}
use Rattle.tcp_block.specs.Offers.{offer_of}
use Rattle.tcp_block.specs.declared.tcb.Receiver.{Receiver}
use Rattle.tcp_block.specs.declared.tcb.Sender.{Sender}
use Rattle.tcp_block.specs.Settled.{settled}
use Rattle.tcp_refinement.specs.Pair.Sides.{Both, at, other, put}
use Rattle.tcp_refinement.specs.Pair.Steps.{Steps, acting, handed, if_so, reads, refusal, send_says, set_by, taken_at, was_opened}
use Rattle.tcp_block.specs.Value.{TcpValue, Received, ended, queued_in, room_of, unoffered, with_tcb}
use Rattle.tcp_refinement.specs.Pair.Values.{PairSide, PairValue, context_at, past_at}
use Rattle.tcp_refinement.specs.declared.pair.event.PairEvent.{PairEvent}
use Rattle.tcp_refinement.specs.declared.pair.event.PairEvent.TheVariants.{Listen, Connect, Send, Recv, Close, Abort, TcpSetting, Clock, Offer, Deliver}
use Rattle.tcp_refinement.specs.declared.pair.event.PairRefused.{PairRefused}
use Rattle.tcp_refinement.specs.declared.pair.event.PairRefused.TheVariants.{OpenedTwice}
use Rattle.tcp_refinement.specs.declared.pair.event.SentSegment.{SentSegment}
use Rattle.tcp_refinement.specs.declared.pair.event.Side.{Side}
use Rattle.tcp_refinement.specs.declared.pair.event.Side.TheVariants.{A, B}
use Rattle.tcp_refinement.specs.declared.pair.event.TcpSetting.{TcpSetting as Setting}
use Rattle.tcp_refinement.specs.declared.pair.event.TcpSetting.TheVariants as Set
use Rattle.tcp_liveness.specs.Arrivals.{is_synchronized}
use Rattle.tcp_liveness.specs.BothWays.{total_in}
use Rattle.tcp_liveness.specs.Exchange.{IsOpen, left_of}
use Rattle.tcp_liveness.specs.Onward.{AreOpen, acked_in}
use Rattle.tcp_liveness.specs.Pair.{left_in, socket_of}
use Rattle.tcp_liveness.specs.Reached.{IsReached}
use Rattle.tcp_liveness.specs.Rounds.{takes}
use Rattle.tcp_liveness.specs.Sent.{is_early, taken_in}
use Rattle.tcp_liveness.proofs.Calm.{IsCalm, arrival_calm, load_of, offer_calm, refused_calm}
use Rattle.tcp_liveness.proofs.Kept.{reached_by, reached_keeps}
use Rattle.tcp_liveness.proofs.Onward.{IsOn, IsSound, arrival_on, offer_on, stand_of}
use Rattle.tcp_liveness.proofs.Pair.{late_in}
use Rattle.tcp_liveness.proofs.Positions.{IsPlaced, connected_in, next_small, placed, una_small}
use Rattle.tcp_liveness.proofs.SentEvents.{anchored_queue}
use Rattle.tcp_liveness.proofs.Turns.{late_on}
use Rattle.tcp_liveness.proofs.WindowPairs.{read_room}

same : (n : ℕ) → n ≤ n
same n = omega arith

upto : (a b c : ℕ) → a ≤ b → b ≤ c → a ≤ c
upto a b c e f = omega arith

-- WHAT AN EVENT LEAVES OF A SIDE

abbrev pub total_of : Past → ℕ
total_of x = length x.written + one_if x.closed

abbrev pub came_of : TcpValue → Past → ℕ
came_of v x = length (x.read ++ v.received.waiting) + one_if v.tcb.receiver.took_fin

-- Of a side with what was seen of it, before and afterwards: no connection is opened, and none that is over comes back; no less is acknowledged,
-- and no less was taken. As long as it is there, SND.UNA stays, and with it what was sent past it, or more is acknowledged; RCV.NXT stays, or
-- more was taken; and so does whether payload is taken.
pub record Moves (v w : TcpValue) (x y : Past) : Type 0 where
  pub early : is_early v.tcb.state ≡ false → is_early w.tcb.state ≡ false
  pub closed : is_closed v.tcb.state ≡ true → is_closed w.tcb.state ≡ true
  pub opened : was_opened x.opening ≡ true → was_opened y.opening ≡ true
  pub syn : v.tcb.sender.syn_unacked ≡ false → w.tcb.sender.syn_unacked ≡ false
  pub room : room_of w.received ≡ room_of v.received
  pub written : length x.written ≤ length y.written
  pub total : total_of x ≤ total_of y
  pub acked : total_of x + left_of w ≤ total_of y + left_of v
  pub taken : came_of v x ≤ came_of w y
  pub una :
      is_closed w.tcb.state ≡ false
      → ((w.tcb.sender.una ≡ v.tcb.sender.una) × (v.tcb.sender.snd_max ≤ w.tcb.sender.snd_max)) ⊎ (total_of x + left_of w < total_of y + left_of v)
  pub next : is_closed w.tcb.state ≡ false → (w.tcb.receiver.next ≡ v.tcb.receiver.next) ⊎ (came_of v x < came_of w y)
  pub takes :
      is_closed w.tcb.state ≡ false → accepts_data v.tcb.state ≡ true → (accepts_data w.tcb.state ≡ true) ⊎ (came_of v x < came_of w y)

pub stays : (v : TcpValue) (x : Past) → Moves v v x x
stays v x = record {
  early = λ e. e;
  closed = λ e. e;
  opened = λ e. e;
  syn = λ e. e;
  room = refl;
  written = same _;
  total = same _;
  acked = same _;
  taken = same _;
  una = λ _. inl (refl, same _);
  next = λ _. inl refl;
  takes = λ _ e. inl e;
}

was_open : (old new : Bool) → (old ≡ true → new ≡ true) → new ≡ false → old ≡ false
was_open true new e f = clash (sym (e refl) ∙ f)
was_open false new e f = refl

-- one after the other
pub and_then : (u v w : TcpValue) (x y z : Past) → Moves u v x y → Moves v w y z → Moves u w x z
and_then u v w x y z c d = record {
  early = λ e. d.early (c.early e);
  closed = λ e. d.closed (c.closed e);
  opened = λ e. d.opened (c.opened e);
  syn = λ e. d.syn (c.syn e);
  room = d.room ∙ c.room;
  written = upto (length x.written) (length y.written) (length z.written) c.written d.written;
  total = upto (total_of x) (total_of y) (total_of z) c.total d.total;
  acked = sum (total_of x) (total_of y) (total_of z) (left_of u) (left_of v) (left_of w) c.acked d.acked;
  taken = upto (came_of u x) (came_of v y) (came_of w z) c.taken d.taken;
  una = λ on. una (c.una (back on)) (d.una on);
  next = λ on. next (c.next (back on)) (d.next on);
  takes = λ on t. takes on (c.takes (back on) t);
}
  where
    back : is_closed w.tcb.state ≡ false → is_closed v.tcb.state ≡ false
    back on = was_open (is_closed v.tcb.state) (is_closed w.tcb.state) d.closed on

    sum : (x y z u v w : ℕ) → x + v ≤ y + u → y + w ≤ z + v → x + w ≤ z + u
    sum x y z u v w e f = omega arith

    sum_first : (x y z u v w : ℕ) → x + v < y + u → y + w ≤ z + v → x + w < z + u
    sum_first x y z u v w e f = omega arith

    sum_second : (x y z u v w : ℕ) → x + v ≤ y + u → y + w < z + v → x + w < z + u
    sum_second x y z u v w e f = omega arith

    first : (a b c : ℕ) → a < b → b ≤ c → a < c
    first a b c e f = omega arith

    second : (a b c : ℕ) → a ≤ b → b < c → a < c
    second a b c e f = omega arith

    una :
        ((v.tcb.sender.una ≡ u.tcb.sender.una) × (u.tcb.sender.snd_max ≤ v.tcb.sender.snd_max)) ⊎ (total_of x + left_of v < total_of y + left_of u)
        → ((w.tcb.sender.una ≡ v.tcb.sender.una) × (v.tcb.sender.snd_max ≤ w.tcb.sender.snd_max)) ⊎ (total_of y + left_of w < total_of z + left_of v)
        → ((w.tcb.sender.una ≡ u.tcb.sender.una) × (u.tcb.sender.snd_max ≤ w.tcb.sender.snd_max)) ⊎ (total_of x + left_of w < total_of z + left_of u)
    una (inl e) (inl f) = inl (f.0 ∙ e.0, upto u.tcb.sender.snd_max v.tcb.sender.snd_max w.tcb.sender.snd_max e.1 f.1)
    una (inr e) f = inr (sum_first (total_of x) (total_of y) (total_of z) (left_of u) (left_of v) (left_of w) e d.acked)
    una (inl e) (inr f) = inr (sum_second (total_of x) (total_of y) (total_of z) (left_of u) (left_of v) (left_of w) c.acked f)

    next :
        (v.tcb.receiver.next ≡ u.tcb.receiver.next) ⊎ (came_of u x < came_of v y)
        → (w.tcb.receiver.next ≡ v.tcb.receiver.next) ⊎ (came_of v y < came_of w z)
        → (w.tcb.receiver.next ≡ u.tcb.receiver.next) ⊎ (came_of u x < came_of w z)
    next (inl e) (inl f) = inl (f ∙ e)
    next (inr e) f = inr (first (came_of u x) (came_of v y) (came_of w z) e d.taken)
    next (inl e) (inr f) = inr (second (came_of u x) (came_of v y) (came_of w z) c.taken f)

    takes : is_closed w.tcb.state ≡ false → (accepts_data v.tcb.state ≡ true) ⊎ (came_of u x < came_of v y) →
        (accepts_data w.tcb.state ≡ true) ⊎ (came_of u x < came_of w z)
    takes on (inr e) = inr (first (came_of u x) (came_of v y) (came_of w z) e d.taken)
    takes on (inl t) = by (d.takes on t) where
      by : (accepts_data w.tcb.state ≡ true) ⊎ (came_of v y < came_of w z) → (accepts_data w.tcb.state ≡ true) ⊎ (came_of u x < came_of w z)
      by (inl t) = inl t
      by (inr f) = inr (second (came_of u x) (came_of v y) (came_of w z) c.taken f)

-- WHAT IS ASKED FOR

-- a side that was opened, with its connection or after it
pub record IsFit (v : TcpValue) (x : Past) : Type 0 where
  pub early : is_early v.tcb.state ≡ false
  pub opened : was_opened x.opening ≡ true
  pub sound : is_closed v.tcb.state ≡ false → IsSound v
  pub closed : is_closed v.tcb.state ≡ false → x.closed ≡ is_closed_in v.tcb.state

-- A SEGMENT COMES, AND AN OFFER

-- what was seen of it is the same
of_load :
    (v w : TcpValue) (x : Past) → IsFit v x → IsCalm (load_of v) (load_of w) → (is_closed v.tcb.state ≡ false → IsOn (stand_of v) (stand_of w))
    → Moves v w x x
of_load v w x fit c on = record {
  early = c.early;
  closed = c.closed;
  opened = λ e. e;
  syn = acks v.tcb.sender.syn_unacked w.tcb.sender.syn_unacked c.syn;
  room = c.room;
  written = same _;
  total = same _;
  acked = added (total_of x) (left_of w) (left_of v) c.left;
  taken = more (one_if v.tcb.receiver.took_fin) (one_if w.tcb.receiver.took_fin) c.came;
  una = λ alive. una ((on (back alive)).una alive);
  next = λ alive. next (on (back alive)).next;
  takes = λ alive t. takes ((on (back alive)).takes alive t);
}
  where
    back : is_closed w.tcb.state ≡ false → is_closed v.tcb.state ≡ false
    back alive = was_open (is_closed v.tcb.state) (is_closed w.tcb.state) c.closed alive

    acks : (old new : Bool) → one_if new ≤ one_if old → old ≡ false → new ≡ false
    acks true new e f = clash f
    acks false true e f = absurd (omega arith)
    acks false false e f = refl

    added : (a b c : ℕ) → b ≤ c → a + b ≤ a + c
    added a b c e = omega arith

    strictly : (a b c : ℕ) → b < c → a + b < a + c
    strictly a b c e = omega arith

    more : (fin after : ℕ) → length v.received.waiting + fin ≤ length w.received.waiting + after →
        length (x.read ++ v.received.waiting) + fin ≤ length (x.read ++ w.received.waiting) + after
    more fin after e =
        by (length x.read) (length v.received.waiting) (length w.received.waiting) (length-append x.read v.received.waiting)
        (length-append x.read w.received.waiting) e where
          by : (read old new : ℕ) {one two : ℕ} → one ≡ read + old → two ≡ read + new → old + fin ≤ new + after → one + fin ≤ two + after
          by read old new a b c = omega arith

    come : (fin after : ℕ) → length v.received.waiting + fin < length w.received.waiting + after →
        length (x.read ++ v.received.waiting) + fin < length (x.read ++ w.received.waiting) + after
    come fin after e =
        by (length x.read) (length v.received.waiting) (length w.received.waiting) (length-append x.read v.received.waiting)
        (length-append x.read w.received.waiting) e where
          by : (read old new : ℕ) {one two : ℕ} → one ≡ read + old → two ≡ read + new → old + fin < new + after → one + fin < two + after
          by read old new a b c = omega arith

    una :
        ((w.tcb.sender.una ≡ v.tcb.sender.una) × (v.tcb.sender.snd_max ≤ w.tcb.sender.snd_max)) ⊎ (left_of w < left_of v)
        → ((w.tcb.sender.una ≡ v.tcb.sender.una) × (v.tcb.sender.snd_max ≤ w.tcb.sender.snd_max)) ⊎ (total_of x + left_of w < total_of x + left_of v)
    una (inl e) = inl e
    una (inr e) = inr (strictly (total_of x) (left_of w) (left_of v) e)

    next :
        (w.tcb.receiver.next ≡ v.tcb.receiver.next) ⊎ ((stand_of v).came < (stand_of w).came)
        → (w.tcb.receiver.next ≡ v.tcb.receiver.next) ⊎ (came_of v x < came_of w x)
    next (inl e) = inl e
    next (inr e) = inr (come (one_if v.tcb.receiver.took_fin) (one_if w.tcb.receiver.took_fin) e)

    takes :
        (accepts_data w.tcb.state ≡ true) ⊎ ((stand_of v).came < (stand_of w).came)
        → (accepts_data w.tcb.state ≡ true) ⊎ (came_of v x < came_of w x)
    takes (inl e) = inl e
    takes (inr e) = inr (come (one_if v.tcb.receiver.took_fin) (one_if w.tcb.receiver.took_fin) e)

by_delivery : (side : Side) (s : PairSide) (x : Past) (segment : Option SentSegment) → IsFit s.socket x →
    Moves s.socket (handed side s segment).socket x x
by_delivery side s x None fit = stays s.socket x
by_delivery side s x (Some segment) fit =
    let cx = context_at side s in
    let a = arrives cx s.socket segment.header segment.segment segment.bytes in
    cond_both (accepts s.socket.tcb segment.header segment.segment) (taken_at s a) s (λ (t : PairSide). Moves s.socket t.socket x x)
    (λ _.
    of_load s.socket a.socket x fit (arrival_calm cx segment.header segment.segment segment.bytes s.socket fit.early)
    (λ alive. arrival_on cx segment.header segment.segment segment.bytes s.socket (fit.sound alive)))
    (λ _. stays s.socket x)

-- what changes nothing that is told here
alike :
    (v w : TcpValue) (x : Past) → w.tcb.state ≡ v.tcb.state → w.tcb.sender ≡ v.tcb.sender → w.tcb.receiver ≡ v.tcb.receiver
    → w.received ≡ v.received → queued_in w ≡ queued_in v → Moves v w x x
alike v w x state sender receiver received queue = record {
  early = λ e. ap is_early state ∙ e;
  closed = λ e. ap is_closed state ∙ e;
  opened = λ e. e;
  syn = λ e. ap (λ (s : Sender). s.syn_unacked) sender ∙ e;
  room = ap room_of received;
  written = same _;
  total = same _;
  acked =
      both (total_of x) (ap (λ (s : Sender). one_if s.syn_unacked) sender) queue (ap (λ (s : State). one_if (owes_fin s)) state);
  taken = equal _ _ came;
  una = λ _. inl (ap (λ (s : Sender). s.una) sender, equal _ _ (ap (λ (s : Sender). s.snd_max) sender));
  next = λ _. inl (ap (λ (r : Receiver). r.next) receiver);
  takes = λ _ e. inl (ap accepts_data state ∙ e);
}
  where
    equal : (a b : ℕ) → a ≡ b → b ≤ a
    equal a b e = omega arith

    both : (a : ℕ) {syn queue fin b c d : ℕ} → b ≡ syn → c ≡ queue → d ≡ fin → a + (b + c + d) ≤ a + (syn + queue + fin)
    both a e f g = omega arith

    came : came_of w x ≡ came_of v x
    came =
        ap (λ (r : Received). length (x.read ++ r.waiting) + one_if w.tcb.receiver.took_fin) received
        ∙ ap (λ (r : Receiver). length (x.read ++ v.received.waiting) + one_if r.took_fin) receiver

-- CALLS

by_read : (s : PairSide) (x : Past) (r : Result ℕ RecvError) → Moves s.socket (reads s r).side.socket x (recv_adds (reads s r).answer x)
by_read s x (Err Reading.InvalidState) = alike s.socket (unoffered s.socket) x refl refl refl refl refl
by_read s x (Err Reading.Finished) = alike s.socket (unoffered s.socket) x refl refl refl refl refl
by_read s x (Ok n) = record {
  early = λ e. e;
  closed = λ e. e;
  opened = λ e. e;
  syn = λ e. e;
  room = read_room s.socket.received.waiting s.socket.received.map n;
  written = same _;
  total = same _;
  acked = same _;
  taken =
      by (length x.read) (length s.socket.received.waiting) (one_if s.socket.tcb.receiver.took_fin) (length-append x.read s.socket.received.waiting)
      (length-append (x.read ++ take n s.socket.received.waiting) (drop n s.socket.received.waiting))
      (length-append x.read (take n s.socket.received.waiting)) (length-take n s.socket.received.waiting) (length-drop n s.socket.received.waiting);
  una = λ _. inl (refl, same _);
  next = λ _. inl refl;
  takes = λ _ e. inl e;
}
  where
    by :
        (read waiting fin : ℕ) {all after front took left : ℕ} → all ≡ read + waiting → after ≡ front + left → front ≡ read + took → took ≡ min n waiting
        → left ≡ waiting - n → all + fin ≤ after + fin
    by read waiting fin a b c d e = omega arith

-- payload is queued
by_send : (s : PairSide) (x : Past) (bytes : List ℕ) (count : ℕ) (takes : Bool) →
    Moves s.socket (if takes then sent_more s.socket (enqueued (anchored s.socket.queued) (take count bytes)) else unoffered s.socket) x
    (send_adds bytes (send_says (if takes then Ok count else Err Sending.InvalidState)) x)
by_send s x bytes count true = record {
  early = λ e. e;
  closed = λ e. e;
  opened = λ e. e;
  syn = λ e. e;
  room = refl;
  written = longer (length x.written) (length (take count bytes)) (length-append x.written (take count bytes));
  total = more (one_if x.closed) (length x.written) (length (take count bytes)) (length-append x.written (take count bytes));
  acked =
      both (one_if x.closed) (one_if s.socket.tcb.sender.syn_unacked) (one_if (owes_fin s.socket.tcb.state)) (length x.written) (queued_in s.socket)
      (length (take count bytes)) (length-append x.written (take count bytes)) queue;
  taken = same _;
  una = λ _. inl (refl, same _);
  next = λ _. inl refl;
  takes = λ _ e. inl e;
}
  where
    queue : length ((anchored s.socket.queued).queue ++ take count bytes) ≡ queued_in s.socket + length (take count bytes)
    queue = ap (λ (xs : List ℕ). length (xs ++ take count bytes)) (anchored_queue s.socket.queued) ∙ length-append s.socket.queued.queue (take count bytes)

    longer : (a b : ℕ) {c : ℕ} → c ≡ a + b → a ≤ c
    longer a b e = omega arith

    more : (fin a b : ℕ) {c : ℕ} → c ≡ a + b → a + fin ≤ c + fin
    more fin a b e = omega arith

    both : (fin syn owes a q b : ℕ) {c d : ℕ} → c ≡ a + b → d ≡ q + b → a + fin + (syn + d + owes) ≤ c + fin + (syn + q + owes)
    both fin syn owes a q b e f = omega arith
by_send s x bytes count false = alike s.socket (unoffered s.socket) x refl refl refl refl refl

-- the user closes
record Closes (state : State) (closed : Bool) : Type 0 where
  early : is_early (after_close state) ≡ false
  over : is_closed state ≡ true → is_closed (after_close state) ≡ true
  total : one_if closed ≤ one_if (if closes_in state then true else closed)
  acked : one_if closed + one_if (owes_fin (after_close state)) ≤ one_if (if closes_in state then true else closed) + one_if (owes_fin state)
  takes : accepts_data state ≡ true → accepts_data (after_close state) ≡ true

closes : (state : State) (closed : Bool) → is_early state ≡ false → (is_closed state ≡ false → closed ≡ is_closed_in state) → Closes state closed
closes In.Closed closed late e = record { early = refl; over = λ f. f; total = same _; acked = same _; takes = λ t. t }
closes In.Listen closed late e = clash late
closes In.SynSent closed late e = clash late
closes In.SynReceived closed late e = clash late
closes In.Established closed late e = record {
  early = refl;
  over = λ f. clash (sym f);
  total = least (one_if closed) (ap one_if (e refl));
  acked = last (one_if closed) (ap one_if (e refl));
  takes = λ _. refl;
}
  where
    least : (n : ℕ) → n ≡ 0 → n ≤ 1
    least n e = omega arith

    last : (n : ℕ) → n ≡ 0 → n + 1 ≤ 1 + 0
    last n e = omega arith
closes In.CloseWait closed late e = record {
  early = refl;
  over = λ f. clash (sym f);
  total = least (one_if closed) (ap one_if (e refl));
  acked = last (one_if closed) (ap one_if (e refl));
  takes = λ t. clash (sym t);
}
  where
    least : (n : ℕ) → n ≡ 0 → n ≤ 1
    least n e = omega arith

    last : (n : ℕ) → n ≡ 0 → n + 1 ≤ 1 + 0
    last n e = omega arith
closes other closed late e = record { early = refl; over = λ f. f; total = same _; acked = same _; takes = λ t. t }

record Adds (t : Bool) (x : Past) : Type 0 where
  written : (closed_by t x).written ≡ x.written
  read : (closed_by t x).read ≡ x.read
  opening : (closed_by t x).opening ≡ x.opening
  closed : (closed_by t x).closed ≡ (if t then true else x.closed)

adds_close : (t : Bool) (x : Past) → Adds t x
adds_close true x = record { written = refl; read = refl; opening = refl; closed = refl }
adds_close false x = record { written = refl; read = refl; opening = refl; closed = refl }

by_close : (v : TcpValue) (x : Past) → IsFit v x →
    Moves v (with_tcb (unoffered v) (record v.tcb { state = after_close v.tcb.state })) x (closed_by (closes_in v.tcb.state) x)
by_close v x fit = record {
  early = λ _. c.early;
  closed = c.over;
  opened = λ e. ap was_opened a.opening ∙ e;
  syn = λ e. e;
  room = refl;
  written = came _ _ (ap length a.written);
  total = more (length x.written) (one_if x.closed) (ap length a.written) (ap one_if a.closed) c.total;
  acked =
      both (length x.written) (one_if v.tcb.sender.syn_unacked) (queued_in v) (one_if x.closed) (one_if (owes_fin (after_close v.tcb.state)))
      (one_if (owes_fin v.tcb.state)) (ap length a.written) (ap one_if a.closed) c.acked;
  taken = came _ _ (ap (λ (xs : List ℕ). length (xs ++ v.received.waiting) + one_if v.tcb.receiver.took_fin) a.read);
  una = λ _. inl (refl, same _);
  next = λ _. inl refl;
  takes = λ _ t. inl (c.takes t);
}
  where
    c : Closes v.tcb.state x.closed
    c = closes v.tcb.state x.closed fit.early fit.closed

    a : Adds (closes_in v.tcb.state) x
    a = adds_close (closes_in v.tcb.state) x

    more : (a b : ℕ) {c d e : ℕ} → c ≡ a → d ≡ e → b ≤ e → a + b ≤ c + d
    more a b f g h = omega arith

    both :
        (a syn queue fin after owes : ℕ) {c d e : ℕ} → c ≡ a → d ≡ e → fin + after ≤ e + owes
        → a + fin + (syn + queue + after) ≤ c + d + (syn + queue + owes)
    both a syn queue fin after owes f g h = omega arith

    came : (a b : ℕ) → a ≡ b → b ≤ a
    came a b e = omega arith

-- the connection is over
by_end : (v w : TcpValue) (x : Past) → w.tcb.state ≡ In.Closed → w.tcb.sender.syn_unacked ≡ v.tcb.sender.syn_unacked →
    queued_in w ≡ queued_in v → w.received ≡ v.received → w.tcb.receiver ≡ v.tcb.receiver → Moves v w x x
by_end v w x state syn queue received receiver = record {
  early = λ _. ap is_early state;
  closed = λ _. ap is_closed state;
  opened = λ e. e;
  syn = λ e. syn ∙ e;
  room = ap room_of received;
  written = same _;
  total = same _;
  acked =
      both (total_of x) (one_if v.tcb.sender.syn_unacked) (queued_in v) (one_if (owes_fin v.tcb.state)) (ap one_if syn) queue
      (ap (λ (s : State). one_if (owes_fin s)) state);
  taken =
      equal _ _
      (ap (λ (r : Received). length (x.read ++ r.waiting) + one_if w.tcb.receiver.took_fin) received
      ∙ ap (λ (r : Receiver). length (x.read ++ v.received.waiting) + one_if r.took_fin) receiver);
  una = λ on. clash (sym (ap is_closed state) ∙ on);
  next = λ on. clash (sym (ap is_closed state) ∙ on);
  takes = λ on _. clash (sym (ap is_closed state) ∙ on);
}
  where
    equal : (a b : ℕ) → a ≡ b → b ≤ a
    equal a b e = omega arith

    both : (a syn queue fin : ℕ) {b c d : ℕ} → b ≡ syn → c ≡ queue → d ≡ 0 → a + (b + c + d) ≤ a + (syn + queue + fin)
    both a syn queue fin e f g = omega arith

-- a setting leaves what it says nothing of
by_setting : (setting : Setting) (v : TcpValue) (x : Past) → Moves v (set_by setting v) x x
by_setting (Set.Timeout duration) v x = alike v _ x refl refl refl refl refl
by_setting (Set.AckDelay duration) v x = alike v _ x refl refl refl refl refl
by_setting (Set.KeepAlive interval) v x = alike v _ x refl refl refl refl refl
by_setting (Set.NagleEnabled enabled) v x = alike v _ x refl refl refl refl refl
by_setting (Set.HopLimit limit) v x = alike v _ x refl refl refl refl refl
by_setting (Set.TsvalGenerator generator) v x = alike v _ x refl refl refl refl refl
by_setting (Set.CongestionControl control) v x = alike v _ x refl refl refl refl refl
by_setting (Set.PauseSynack paused) v x = alike v _ x refl refl refl refl refl
by_setting (Set.Retries limit) v x = alike v _ x refl refl refl refl refl
by_setting (Set.MinRto duration) v x = alike v _ x refl refl refl refl refl
by_setting (Set.FineTimer fine) v x = alike v _ x refl refl refl refl refl

by_offer : (side : Side) (s : PairSide) (x : Past) (instant : ℤ) (sent : Bool) → IsFit s.socket x →
    Moves s.socket (settled sent (offer_of (context_at side (record s { instant = instant })) s.socket).socket) x x
by_offer side s x instant true fit =
    let cx = context_at side (record s { instant = instant }) in
    of_load s.socket (settled true (offer_of cx s.socket).socket) x fit (offer_calm cx s.socket fit.early)
    (λ alive. (offer_on cx s.socket (fit.sound alive).synchronized).0)
by_offer side s x instant false fit =
    let cx = context_at side (record s { instant = instant }) in
    of_load s.socket (settled false (offer_of cx s.socket).socket) x fit (refused_calm cx s.socket fit.early)
    (λ alive. (offer_on cx s.socket (fit.sound alive).synchronized).1)

-- EVENTS

-- an opened socket isn't opened again
never_again : {X : Type 0} (test : Bool) (why : PairRefused) → if_so test why ≡ None → test ≡ true → X
never_again true why e f = absurd (cc)
never_again false why e f = clash (sym f)

-- of the side that an event is for
abbrev Led : PairValue → PairEvent → Type 0
Led p event =
    Moves (at p.sides (side_of event)).socket (acting p event).side.socket (at (pasts p.history) (side_of event))
    (adds event (acting p event).answer (at p.sides (side_of event)).socket.tcb.state (at (pasts p.history) (side_of event)))

by_own : (p : PairValue) (event : PairEvent) → refusal p event ≡ None →
    IsFit (at p.sides (side_of event)).socket (at (pasts p.history) (side_of event)) → Led p event
by_own p (Listen side endpoint) e fit = never_again (was_opened (at (pasts p.history) side).opening) OpenedTwice e fit.opened
by_own p (Connect side remote local) e fit = never_again (was_opened (at (pasts p.history) side).opening) OpenedTwice e fit.opened
by_own p (Send side bytes) e fit =
    let s = at p.sides side in
    by_send s (at (pasts p.history) side) bytes (min (length bytes) (length s.socket.queued.free)) (takes_writes s.socket.tcb.state)
by_own p (Recv side count) e fit = by_read (at p.sides side) (at (pasts p.history) side) (recv_answer (at p.sides side).socket count)
by_own p (Close side) e fit =
    let v = (at p.sides side).socket in
    let x = at (pasts p.history) side in
    subst (λ (w : TcpValue). Moves v w x (closed_by (closes_in v.tcb.state) x))
    (sym
    (if_not (is_opening v.tcb.state) (ended (unoffered v)) (with_tcb (unoffered v) (record v.tcb { state = after_close v.tcb.state }))
    (not_opening v.tcb.state fit.early)))
    (by_close v x fit)
  where
    not_opening : (state : State) → is_early state ≡ false → is_opening state ≡ false
    not_opening In.SynSent e = clash e
    not_opening other e = refl
by_own p (Abort side) e fit =
    let v = (at p.sides side).socket in
    let x = at (pasts p.history) side in
    cond_both (is_time_wait v.tcb.state) (ended (unoffered v))
    (with_tcb (unoffered v) (record v.tcb { state = In.Closed; sender = record v.tcb.sender { reset_due = is_some v.tcb.names.pair } }))
    (λ (w : TcpValue). Moves v w x x) (λ _. by_end v _ x refl refl refl refl refl) (λ _. by_end v _ x refl refl refl refl refl)
by_own p (TcpSetting side setting) e fit = by_setting setting (at p.sides side).socket (at (pasts p.history) side)
by_own p (Clock side instant) e fit = alike (at p.sides side).socket _ (at (pasts p.history) side) refl refl refl refl refl
by_own p (Offer side instant true) e fit = by_offer side (at p.sides side) (at (pasts p.history) side) instant true fit
by_own p (Offer side instant false) e fit = by_offer side (at p.sides side) (at (pasts p.history) side) instant false fit
by_own p (Deliver from k) e fit =
    by_delivery (other from) (at p.sides (other from)) (at (pasts p.history) (other from)) (slice_get (at p.sides (other (other from))).sent k) fit

-- OF A PAIR

abbrev pub MovesIn : PairValue → PairValue → Side → Type 0
MovesIn p q side = Moves (socket_of p side) (socket_of q side) (at (pasts p.history) side) (at (pasts q.history) side)

-- a side after an event of its own, or of the other
by_put :
    (P : TcpValue → Past → Type 0) (both : Both PairSide) (seen : Both Past) (of side : Side) (new : PairSide) (past : Past)
    → (of ≡ side → P new.socket past) → P (at both side).socket (at seen side) → P (at (put both of new) side).socket (at (put seen of past) side)
by_put P both seen A A new past own not = own refl
by_put P both seen A B new past own not = not
by_put P both seen B A new past own not = not
by_put P both seen B B new past own not = own refl

-- of both sides
record AreFit (p : PairValue) : Type 0 where
  a : IsFit (socket_of p A) (at (pasts p.history) A)
  b : IsFit (socket_of p B) (at (pasts p.history) B)

fit_of : (p : PairValue) (side : Side) → AreFit p → IsFit (socket_of p side) (at (pasts p.history) side)
fit_of p A f = f.a
fit_of p B f = f.b

abbrev Since : PairValue → Side → TcpValue → Past → Type 0
Since p side w y = Moves (socket_of p side) w (at (pasts p.history) side) y

by_event : (p : PairValue) (event : PairEvent) (side : Side) → refusal p event ≡ None → AreFit p → MovesIn p (takes p event) side
by_event p event side e fit =
    by_put (Since p side) p.sides (pasts p.history) (side_of event) side new seen
    (λ own. subst (λ (s : Side). Since p s new.socket seen) own (by_own p event e (fit_of p (side_of event) fit)))
    (stays (socket_of p side) (at (pasts p.history) side))
  where
    new : PairSide
    new = (acting p event).side

    seen : Past
    seen = adds event (acting p event).answer (at p.sides (side_of event)).socket.tcb.state (at (pasts p.history) (side_of event))

-- FROM ONE PAIR TO ANOTHER

-- a side was opened, and its SYN is acknowledged
pub record IsBegun (p : PairValue) (side : Side) : Type 0 where
  pub early : is_early (socket_of p side).tcb.state ≡ false
  pub syn : (socket_of p side).tcb.sender.syn_unacked ≡ false
  pub opened : was_opened (at (pasts p.history) side).opening ≡ true

pub begun_after : (p q : PairValue) (side : Side) → MovesIn p q side → IsBegun p side → IsBegun q side
begun_after p q side m b = record { early = m.early b.early; syn = m.syn b.syn; opened = m.opened b.opened }

opened_of : (opening : Opening) → (opening ≡ NotYet → ⊥) → was_opened opening ≡ true
opened_of NotYet e = absurd (e refl)
opened_of Passive e = refl
opened_of Active e = refl

module _ (p : PairValue) (side : Side) (r : IsReached p) where
  abbrev pub v : TcpValue
  v = socket_of p side

  abbrev pub k : Keeps v (past_at p side) (socket_of p (other side)) (past_at p (other side))
  k = reached_keeps p side r

  pub connected : is_synchronized v.tcb.state ≡ true → IsConnectedAs (core_of v) (unsent k.side)
  connected there = fits_connected v.tcb.state (core_of v) (unsent k.side) (connected_in v.tcb.state there) k.fits

  pub sound : is_synchronized v.tcb.state ≡ true → v.tcb.sender.syn_unacked ≡ false → IsSound v
  sound there syn =
      let at_offset : IsPlaced v k.side = placed v k.side k.fits k.holds.0.well_formed there in
      record {
        synchronized = there;
        acked = syn;
        una = una_small v k.side at_offset;
        next = next_small v k.side at_offset;
        snd_max = at_offset.snd_max;
        finished = (connected there).finished;
      }

  fit : IsBegun p side → IsFit v (at (pasts p.history) side)
  fit b = record {
    early = b.early;
    opened = b.opened;
    sound = λ alive. sound (late_on v.tcb.state b.early alive) b.syn;
    closed = λ alive. sym (ap (λ (x : Past). x.closed) k.past) ∙ (connected (late_on v.tcb.state b.early alive)).closed;
  }

  pub begun : IsOpen v.tcb → IsBegun p side
  begun o = record {
    early = late_in v.tcb.state o.synchronized;
    syn = o.acknowledged;
    opened =
        opened_of (at (pasts p.history) side).opening
        (λ none. (connected o.synchronized).once (ap (λ (x : Past). x.opening) k.past ∙ none));
  }

pub by_steps :
    (p : PairValue) (events : List PairEvent) (q : PairValue) → IsReached p → IsBegun p A → IsBegun p B → Steps p events q → (side : Side) → MovesIn p q side
by_steps p [] q r a b s side = subst (λ (q : PairValue). MovesIn p q side) (sym s) (stays (socket_of p side) (at (pasts p.history) side))
by_steps p (event ∷ events) q r a b s side =
    and_then (socket_of p side) (socket_of m side) (socket_of q side) (at (pasts p.history) side) (at (pasts m.history) side) (at (pasts q.history) side)
    (first side)
    (by_steps m events q (reached_by p m (event ∷ []) r (s.0, refl)) (begun_after p m A (first A) a) (begun_after p m B (first B) b) s.1 side)
  where
    m : PairValue
    m = takes p event

    first : (side : Side) → MovesIn p m side
    first side = by_event p event side s.0 (record { a = fit p A r a; b = fit p B r b })

pub then_moves : (p q r : PairValue) (side : Side) → MovesIn p q side → MovesIn q r side → MovesIn p r side
then_moves p q r side =
    and_then (socket_of p side) (socket_of q side) (socket_of r side) (at (pasts p.history) side) (at (pasts q.history) side)
    (at (pasts r.history) side)

pub moves_on : (p q : PairValue) (events : List PairEvent) (side : Side) → IsReached p → AreOpen p → Steps p events q → MovesIn p q side
moves_on p q events side r o s = by_steps p events q r (begun p A r o.0) (begun p B r o.1) s side

pub acked_stays :
    (p q : PairValue) (events : List PairEvent) (side : Side) → IsReached p → AreOpen p → Steps p events q → acked_in p side ≤ acked_in q side
acked_stays p q events side r o s =
    by (total_in p side) (total_in q side) (left_in p side) (left_in q side) (moves_on p q events side r o s).acked where
      by : (a b c d : ℕ) → a + d ≤ b + c → a - c ≤ b - d
      by a b c d e = omega arith

pub taken_stays :
    (p q : PairValue) (events : List PairEvent) (side : Side) → IsReached p → AreOpen p → Steps p events q → taken_in p side ≤ taken_in q side
taken_stays p q events side r o s = (moves_on p q events side r o s).taken
