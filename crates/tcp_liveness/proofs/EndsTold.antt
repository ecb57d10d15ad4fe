-- Where a connection is over after rounds, the other has taken its FIN: it was in LAST-ACK, and what ended it acknowledged all.
use Rattle.std.proofs.Common.{◌≡◌, ◌⊎◌, inl, inr, ℕ, zero, suc, ◌+◌, ◌-◌, ◌%◌, ◌^◌, ◌<◌, ◌≤◌, ◌==◌, ◌&&◌, nat_le, nat_lt, ℤ, Bool, true, false}
use Rattle.std.proofs.Common.{if◌then◌else◌, List, length, Option, Some, None, refl, sym, ap, ◌∙◌, subst, arith}
use Rattle.std.proofs.lemmas.Bool.{eqb-true}
use Rattle.ip_wire.specs.IpRepr.{IpRepr}
use Rattle.ip_wire.specs.Seq.{distance_of}
use Rattle.ip_wire.specs.SeqNumber.{SeqNumber}
use Rattle.ip_wire.specs.TcpHeader.{TcpHeader}
use Rattle.tcp_refinement.specs.Context.{ContextValue}
use Rattle.tcp_refinement.specs.Tie.{IsConnectedAs, Keeps, Past, core_of, is_closed_in, unsent}
use Rattle.tcp_refinement.proofs.Tied.{fits_connected, if_not}
use Rattle.tcp_invariants.specs.Controls.{is_rst}
use Rattle.tcp_invariants.specs.Offsets.{distance_before, distance_after}
use Rattle.tcp_invariants.specs.OpenOffer.{OpenOffer}
use Rattle.tcp_invariants.specs.State.{State}
use Rattle.tcp_invariants.specs.State.TheVariants as In
use Rattle.tcp_invariants.specs.States.{is_answering, is_closed, owes_fin}
use Rattle.tcp_invariants.proofs.ArrivalCases.{by_arrival, Received, Opening, Content, Drawing, acked_open, heeded, timed}
use Rattle.tcp_invariants.proofs.OrderSteps.{clash}
use Rattle.tcp_block.specs.Acknowledged.{windowed}
use Rattle.tcp_block.specs.Arrival.{arrives, waiting_anew}
use Rattle.tcp_block.specs.declared.tcb.Tcb.{Tcb}
use Rattle.tcp_block.specs.TcbRules.{one_if}
use Rattle.tcp_block.specs.Checks.{acknowledgement_check, opening_check, synchronized_check}
use Rattle.tcp_block.specs.Checks.Check.{Passes, Old, Drops, Draws}
use Rattle.tcp_block.specs.Offers.{offer_of}
use Rattle.tcp_block.specs.Retries.{heard}
use Rattle.tcp_block.specs.Settled.{settled}
use Rattle.tcp_refinement.specs.Pair.Safe.{taken_in as taken_list, written}
use Rattle.tcp_refinement.specs.Pair.Sides.{other}
use Rattle.tcp_block.specs.Timestamps.{tsval_taken}
use Rattle.tcp_block.specs.Value.{TcpValue, Arrived, with_tcb, unoffered, queued_in}
use Rattle.tcp_refinement.specs.Pair.Values.{PairSide, PairValue, context_at, past_at}
use Rattle.tcp_refinement.specs.declared.pair.event.Side.{Side}
use Rattle.tcp_refinement.specs.declared.pair.event.Side.TheVariants.{A, B}
use Rattle.tcp_liveness.specs.Arrivals.{is_synchronized}
use Rattle.tcp_liveness.specs.BothWays.{MayAsk, MayRounds, MayTurn, bound, is_over, roused_in, rounds_in, total_in, turn_in, waits_in, wake_in, woken_in}
use Rattle.tcp_liveness.specs.Exchange.{CanHear, IsOpen, MayReach, left_of, data_of}
use Rattle.tcp_liveness.specs.Pair.{AreMirrored, HasStream, MayReachIn, context_of, exchanged_in, left_in, next_sent, offered_in, socket_of}
use Rattle.tcp_liveness.specs.Reached.{IsReached}
use Rattle.tcp_liveness.specs.Sent.{is_early, taken_in}
use Rattle.tcp_liveness.specs.Talking.{AreTalking, MayTalk}
use Rattle.tcp_liveness.proofs.Closes.{IsLast, fin_alive, is_last}
use Rattle.tcp_liveness.proofs.Hears.{come_own}
use Rattle.tcp_liveness.proofs.Kept.{reached_keeps}
use Rattle.tcp_liveness.proofs.Mirrored.{connected_mirrored}
use Rattle.tcp_liveness.proofs.Led.{offer_led}
use Rattle.tcp_liveness.proofs.Left.{left_same}
use Rattle.tcp_liveness.proofs.Offered.{IsTransmitted, is_transmitted_of}
use Rattle.tcp_liveness.proofs.Pair.{HasLess, HasTold, Moved, had_in, late_in, not_closed, out, peer_side_after, ahead_in, reached_comes, reaches}
use Rattle.tcp_liveness.proofs.Positions.{IsPlaced, connected_in, next_small, placed, una_small}
use Rattle.tcp_liveness.proofs.Roused.{roused_calm, roused_reached}
use Rattle.tcp_liveness.proofs.SentPairs.{reached_took}
use Rattle.tcp_liveness.proofs.Talks.{BothStay, both_on, fin_taken, late_at, of, some_taken, stay, taken_least, talks, there}
use Rattle.tcp_liveness.proofs.Turns.{BothFine, Ended, IsTaken, ends, last_took, late_on, stream_still, taken_still, turned}
use Rattle.tcp_liveness.proofs.Ways.{BothCalm, answer_arrives_calm, balance, exchanged, of_side, offer_arrives_calm}

-- AN ACKNOWLEDGEMENT THAT ENDS A CONNECTION

-- it names the number after all that isn't acknowledged
pub record AcksAll (v : TcpValue) (header : TcpHeader) : Type 0 where
  pub number : SeqNumber
  pub acknowledges : header.ack_number ≡ Some number
  pub far : distance_of v.tcb.sender.una number ≡ left_of v

passes_by : (b : Tcb) (past before by : ℕ) → synchronized_check b past before ≡ Passes by → past ≡ by
passes_by b past before by =
    tested (nat_lt b.sender.snd_max past) ((past == 0) && nat_le b.sender.past_iss before) (before == 0) (nat_lt b.peer.largest_window before)
  where
    one : Passes past ≡ Passes by → past ≡ by
    one e = cc

    tested :
        (more none first distant : Bool)
        → (if more then Draws else if none then Drops else if first then Passes past else if distant then Draws else Old) ≡ Passes by → past ≡ by
    tested true none first distant e = absurd (cc)
    tested false true first distant e = absurd (cc)
    tested false false true distant e = one e
    tested false false false true e = absurd (cc)
    tested false false false false e = absurd (cc)

-- so far past SND.UNA, where that is a position at least
past_far : (una number : SeqNumber) (by : ℕ) → 1 ≤ by → distance_after una number ≡ by → distance_of una number ≡ by
past_far una number by some = at (nat_lt (distance_of una number) (2 ^ 31)) where
  none : (n : ℕ) → 1 ≤ n → 0 ≡ n → ⊥
  none n e f = absurd (omega arith)

  at : (near : Bool) → (if near then distance_of una number else 0) ≡ by → distance_of una number ≡ by
  at true e = e
  at false e = absurd (none by some e)

acks_all : (v : TcpValue) (header : TcpHeader) (by : ℕ) → IsLast v.tcb by (queued_in v) → acknowledgement_check v.tcb header.ack_number ≡ Passes by
    → AcksAll v header
acks_all v header by last = named header.ack_number refl where
  all : by ≡ left_of v
  all = eqb-true by (left_of v) last.all

  some : 1 ≤ by
  some =
      more (one_if v.tcb.sender.syn_unacked) (queued_in v) by
      (all ∙ ap (λ (state : State). one_if v.tcb.sender.syn_unacked + queued_in v + one_if (owes_fin state)) last.state)
    where
      more : (syn queued by : ℕ) → by ≡ syn + queued + 1 → 1 ≤ by
      more syn queued by e = omega arith

  named : (ack : Option SeqNumber) → header.ack_number ≡ ack → acknowledgement_check v.tcb ack ≡ Passes by → AcksAll v header
  named None e f = absurd (cc)
  named (Some number) e f = record {
    number = number;
    acknowledges = e;
    far =
        past_far v.tcb.sender.una number by some
        (passes_by v.tcb (distance_after v.tcb.sender.una number) (distance_before v.tcb.sender.una number) by
        (sym
        (if_not (is_answering v.tcb.state) (opening_check (distance_of v.tcb.sender.una number))
        (synchronized_check v.tcb (distance_after v.tcb.sender.una number) (distance_before v.tcb.sender.una number))
        (ap is_answering last.state))
        ∙ f))
        ∙ all;
  }

module _ (cx : ContextValue) (ip : IpRepr) (header : TcpHeader) (bytes : List ℕ) (v : TcpValue) (late : is_early v.tcb.state ≡ false)
    (alive : is_closed v.tcb.state ≡ false) (plain : is_rst header.control ≡ false) where
  abbrev Closing : Arrived → Type 0
  Closing a = is_closed a.socket.tcb.state ≡ true → AcksAll v header

  open_drawing : (x : TcpValue) → is_closed x.tcb.state ≡ false → Drawing cx ip header bytes Closing x
  open_drawing x on = record { answers = λ _ e. clash (sym e ∙ on); at_once = λ e. clash (sym e ∙ on); pauses = λ e. clash (sym e ∙ on) }

  open_content : (x : TcpValue) → is_closed x.tcb.state ≡ false → Content cx ip header bytes Closing x
  open_content x on = record {
    plain = (λ _. λ e. clash (sym e ∙ on), λ e. clash (sym e ∙ on));
    fin = λ _ _. (λ _. λ e. clash (sym e ∙ fin_alive x.tcb.state on), λ e. clash (sym e ∙ fin_alive x.tcb.state on));
    ordered = λ _ _ _ _. (λ _. λ e. clash (sym e ∙ on), λ e. clash (sym e ∙ on));
    ordered_fin = λ _ _ _ _. (λ _. λ e. clash (sym e ∙ fin_alive x.tcb.state on), λ e. clash (sym e ∙ fin_alive x.tcb.state on));
    early = λ _ _ _ _ e. clash (sym e ∙ on);
  }

  open_received : Received cx ip header bytes Closing (unoffered v)
  open_received = record {
    stays = λ e. clash (sym e ∙ alive);
    refuses = λ e. clash (sym e ∙ alive);
    draws = open_drawing (unoffered v) alive;
    falls = λ rst _ _. clash (sym rst ∙ plain);
    ends = λ rst _ _. clash (sym rst ∙ plain);
    closes = λ by passes closed _. acks_all v header by (is_last v.tcb by (queued_in v) alive closed) passes;
    taken = λ by _ on.
        open_content
        (heeded cx.instant header (length bytes) (unoffered v) by (acked_open (timed cx.instant header (unoffered v) by) by cx.instant).tcb) on;
    taken_window = λ by _ on.
        open_content
        (heeded cx.instant header (length bytes) (unoffered v) by
        (windowed (acked_open (timed cx.instant header (unoffered v) by) by cx.instant).tcb header))
        on;
    news = λ by _ on. open_drawing (waiting_anew (acked_open (timed cx.instant header (unoffered v) by) by cx.instant) header cx.instant) on;
    outside = open_drawing (waiting_anew (unoffered v) header cx.instant) alive;
    old = λ _. open_content (with_tcb (unoffered v) (tsval_taken (heard v.tcb) header cx.instant)) alive;
  }

  open_opening : Opening cx ip header bytes Closing (unoffered v)
  open_opening = record {
    opens = λ at _. clash (sym (ap is_early at) ∙ late);
    refuses = λ e. clash (sym e ∙ alive);
    ends = λ at. clash (sym (ap is_early at) ∙ late);
    connects = λ at _. clash (sym (ap is_early at) ∙ late);
    crosses = λ at _. clash (sym (ap is_early at) ∙ late);
  }

  pub closes_all : is_closed (arrives cx v ip header bytes).socket.tcb.state ≡ true → AcksAll v header
  closes_all = by_arrival cx ip header bytes Closing v (λ e. clash (sym e ∙ alive)) (λ _. open_opening) (λ _. open_received)

-- IN LAST-ACK

-- all of a side was taken, where RCV.NXT of the other lies after it
all_taken :
    (x : PairValue) (side : Side) → IsReached x → HasStream (past_at x side) → is_synchronized (socket_of x side).tcb.state ≡ true
    → is_synchronized (socket_of x (other side)).tcb.state ≡ true → (socket_of x side).tcb.state ≡ In.LastAck → had_in x side ≡ left_in x side
    → IsTaken x side
all_taken x side r stream mine theirs last had = record {
  closed = sym (ap (λ (p : Past). p.closed) k.past) ∙ (f.closed ∙ ap is_closed_in last);
  all = by (left_in x side) (taken_in x (other side)) (had_in x side) (total_in x side) (balance x side r stream mine theirs).sum had;
}
  where
    v : TcpValue
    v = socket_of x side

    k : Keeps v (past_at x side) (socket_of x (other side)) (past_at x (other side))
    k = reached_keeps x side r

    f : IsConnectedAs (core_of v) (unsent k.side)
    f = fits_connected v.tcb.state (core_of v) (unsent k.side) (connected_in v.tcb.state mine) k.fits

    by : (left came had total : ℕ) → left + came ≡ had + total → had ≡ left → total ≤ came
    by left came had total a b = omega arith

all_had : (left came had total : ℕ) → left + came ≡ had + total → had ≤ left → total ≤ came → had ≡ left
all_had left came had total a b c = omega arith

-- A side has taken all that the other ever sent: RCV.NXT lies after it.
other_had :
    (x : PairValue) (side : Side) → IsReached x → HasStream (past_at x (other side)) → is_synchronized (socket_of x side).tcb.state ≡ true
    → is_synchronized (socket_of x (other side)).tcb.state ≡ true → (socket_of x side).tcb.state ≡ In.LastAck
    → distance_of (socket_of x (other side)).tcb.sender.una (socket_of x side).tcb.receiver.next ≡ left_in x (other side)
other_had x A r stream mine theirs last =
    let b = balance x B r stream theirs mine in
    all_had (left_in x B) (taken_in x A) (had_in x B) (total_in x B) b.sum b.within (last_took x B r mine last).all
other_had x B r stream mine theirs last =
    let b = balance x A r stream theirs mine in
    all_had (left_in x A) (taken_in x B) (had_in x A) (total_in x A) b.sum b.within (last_took x A r mine last).all

-- so it hears what the other answers
hears_last :
    (x : PairValue) (side : Side) → IsReached x → IsOpen (socket_of x side).tcb → IsOpen (socket_of x (other side)).tcb
    → HasStream (past_at x (other side)) → (socket_of x side).tcb.state ≡ In.LastAck → CanHear (socket_of x side) (socket_of x (other side))
hears_last x side r mine theirs stream last =
    inl
    (inl
    (none_following (distance_of w.tcb.sender.una v.tcb.receiver.next) w.tcb.sender.snd_max (left_of w) w.tcb.sender.una.0 v.tcb.receiver.next.0 refl
    (other_had x side r stream mine.synchronized theirs.synchronized last) b.snd_max (reached_took x side r mine theirs).heard (una_small w k.peer_side b)
    (next_small v k.side a)))
  where
    v : TcpValue
    v = socket_of x side

    w : TcpValue
    w = socket_of x (other side)

    k : Keeps v (past_at x side) w (past_at x (other side))
    k = reached_keeps x side r

    a : IsPlaced v k.side
    a = placed v k.side k.fits k.holds.0.well_formed mine.synchronized

    b : IsPlaced w k.peer_side
    b = placed w k.peer_side k.peer_side_fits k.holds.1.well_formed theirs.synchronized

    none_following :
        (far snd_max left una next : ℕ) → far ≡ (next + (2 ^ 32 - una)) % 2 ^ 32 → far ≡ left → snd_max ≤ left → far ≤ snd_max → una < 2 ^ 32 → next < 2 ^ 32
        → ((una + snd_max) % 2 ^ 32 + (2 ^ 32 - next)) % 2 ^ 32 ≡ 0
    none_following far snd_max left una next a b c d e f = omega arith

-- A TURN

-- what a side sends ends the other's connection: it acknowledges all
module _ (side : Side) (s r : PairSide) (instant : ℤ) (m : AreMirrored s.socket.tcb r.socket.tcb) (o : OpenOffer)
    (may : MayReach (context_at side (record s { instant = instant })) (context_at (other side) r) s.socket r.socket o) where
  same_number : (a b : SeqNumber) → Some a ≡ Some b → a ≡ b
  same_number a b e = cc

  goes : IsTransmitted s.socket (offer_of (context_at side (record s { instant = instant })) s.socket).socket o
  goes = out side s r instant m o may

  acked_there : is_closed (peer_side_after side s r instant).socket.tcb.state ≡ true →
      distance_of r.socket.tcb.sender.una s.socket.tcb.receiver.next ≡ left_of r.socket
  acked_there over =
      subst (λ (n : SeqNumber). distance_of r.socket.tcb.sender.una n ≡ left_of r.socket)
      (same_number it.number s.socket.tcb.receiver.next (sym it.acknowledges ∙ goes.acknowledges)) it.far
    where
      it : AcksAll r.socket o.segment
      it =
          closes_all (context_at (other side) r) o.header o.segment (data_of s.socket o) r.socket
          (late_in r.socket.tcb.state may.theirs.synchronized) (not_closed r.socket.tcb.state may.theirs.synchronized) goes.no_reset
          (sym (ap (λ (t : PairSide). is_closed t.socket.tcb.state) (reaches side s r instant m o may)) ∙ over)

other_taken :
    (x : PairValue) (side : Side) (instant : ℤ) (o : OpenOffer) → IsReached x → HasStream (past_at x (other side)) → MayReachIn x side instant o
    → (socket_of x (other side)).tcb.state ≡ In.LastAck → is_closed (socket_of (exchanged_in x side instant) (other side)).tcb.state ≡ true
    → IsTaken x (other side)
other_taken x A instant o r stream may last over =
    all_taken x B r stream may.theirs.synchronized may.own.synchronized last
    (acked_there A x.sides.a x.sides.b instant (connected_mirrored x A r may.own.synchronized may.theirs.synchronized) o may
    (sym
    (ap (λ (v : TcpValue). is_closed v.tcb.state)
    (come_own (next_sent (offered_in x A instant) B - next_sent x B) B (next_sent x B) (offered_in x A instant)))
    ∙ over))
other_taken x B instant o r stream may last over =
    all_taken x A r stream may.theirs.synchronized may.own.synchronized last
    (acked_there B x.sides.b x.sides.a instant (connected_mirrored x B r may.own.synchronized may.theirs.synchronized) o may
    (sym
    (ap (λ (v : TcpValue). is_closed v.tcb.state)
    (come_own (next_sent (offered_in x B instant) A - next_sent x A) A (next_sent x A) (offered_in x B instant)))
    ∙ over))

abbrev is_in_last_ack : State → Bool
is_in_last_ack In.LastAck = true
is_in_last_ack other = false

in_last_ack : (state : State) → is_in_last_ack state ≡ true → state ≡ In.LastAck
in_last_ack In.LastAck e = refl
in_last_ack other e = clash (sym e)

-- the other took all of a side that is over
abbrev IsFinished : PairValue → Side → Type 0
IsFinished p side = is_over p side ≡ true → IsTaken p side

record BothFinished (p : PairValue) : Type 0 where
  a : IsFinished p A
  b : IsFinished p B

finished_of : (p : PairValue) (side : Side) → BothFinished p → IsFinished p side
finished_of p A f = f.a
finished_of p B f = f.b

both_finished : (p : PairValue) (side : Side) → IsFinished p side → IsFinished p (other side) → BothFinished p
both_finished p A mine theirs = record { a = mine; b = theirs }
both_finished p B mine theirs = record { a = theirs; b = mine }

module _ (p : PairValue) (side : Side) (r : IsReached p) (s : BothStay p) (m : MayAsk p side) where
  abbrev x : PairValue
  x = roused_in p side

  abbrev t : ℤ
  t = wake_in x side

  abbrev q : PairValue
  q = woken_in p side

  rx : IsReached x
  rx = roused_reached p side r m.rouses

  sx : BothStay x
  sx = both_on p x (roused_calm p side s.late) s

  may : MayReachIn x side t m.o
  may = m.reaches

  mine : is_synchronized (socket_of x side).tcb.state ≡ true
  mine = may.own.synchronized

  theirs : is_synchronized (socket_of x (other side)).tcb.state ≡ true
  theirs = may.theirs.synchronized

  since : BothCalm x q
  since = exchanged x side t sx.late

  abbrev Else : Type 0
  Else = is_in_last_ack (socket_of x side).tcb.state ≡ false

  hears : CanHear (socket_of x side) (socket_of x (other side)) ⊎ Else
  hears = by (is_in_last_ack (socket_of x side).tcb.state) refl where
    by : (last : Bool) → is_in_last_ack (socket_of x side).tcb.state ≡ last → CanHear (socket_of x side) (socket_of x (other side)) ⊎ Else
    by true e =
        inl (hears_last x side rx may.own may.theirs (of x (other side) sx).stream (in_last_ack (socket_of x side).tcb.state e))
    by false e = inr e

  moved : Moved Else Else x side t
  moved = reached_comes x side t m.o rx m.stream may hears

  -- as the other took its offer, before the answer came
  abbrev y : PairValue
  y = offered_in x side t

  offer_out : IsTransmitted (socket_of x side) (offer_of (context_of x side t) (socket_of x side)).socket m.o
  offer_out = is_transmitted_of (context_of x side t) (socket_of x side) m.o may.own.acknowledged may.offered may.kind

  same_own : socket_of y side ≡ settled true (offer_of (context_of x side t) (socket_of x side)).socket
  same_own = at x side t where
    at : (x : PairValue) (side : Side) (t : ℤ) → socket_of (offered_in x side t) side ≡ settled true (offer_of (context_of x side t) (socket_of x side)).socket
    at x A t = refl
    at x B t = refl

  same_other : socket_of q (other side) ≡ socket_of y (other side)
  same_other = come_own (next_sent y (other side) - next_sent x (other side)) (other side) (next_sent x (other side)) y

  before_answer : BothCalm x y
  before_answer = offer_arrives_calm x side t sx.late

  -- a side in LAST-ACK all of which is acknowledged: the other took all
  told_taken : HasTold x q side → (socket_of x side).tcb.state ≡ In.LastAck → left_in q side ≡ 0 → IsTaken q side
  told_taken h last none = at (is_closed (socket_of q (other side)).tcb.state) refl where
    left : left_in y side ≡ left_in x side
    left =
        ap left_of same_own
        ∙ left_same (socket_of x side) (settled true (offer_of (context_of x side t) (socket_of x side)).socket)
        (record { state = offer_out.sent.state; syn_unacked = offer_out.sent.syn_unacked; queued = offer_out.sent_queued })

    whole : (new reach left : ℕ) → new + reach ≡ left → new ≡ 0 → reach ≡ left
    whole new reach left e f = omega arith

    had : had_in y side ≡ left_in y side
    had =
        ap (λ (n : SeqNumber). distance_of n (socket_of y (other side)).tcb.receiver.next)
        (ap (λ (v : TcpValue). v.tcb.sender.una) same_own ∙ offer_out.sent.una)
        ∙ (ap (λ (v : TcpValue). distance_of (socket_of x side).tcb.sender.una v.tcb.receiver.next) (sym same_other)
        ∙ (whole (left_in q side) (ahead_in x q side) (left_in x side) h.left none ∙ sym left))

    at : (over : Bool) → is_closed (socket_of q (other side)).tcb.state ≡ over → IsTaken q side
    at true e = taken_still x q side since (last_took x side rx theirs (moved.heard.closes_other e).0)
    at false e =
        taken_still y q side (answer_arrives_calm x side t sx.late)
        (all_taken y side (offer_led x side t m.o rx may m.wakes) (stream_still x y side before_answer m.stream)
        (ap (λ (v : TcpValue). is_synchronized v.tcb.state) same_own ∙ (ap is_synchronized offer_out.sent.state ∙ mine))
        (late_on (socket_of y (other side)).tcb.state
        ((of_side x y (other side) before_answer).early (late_in (socket_of x (other side)).tcb.state theirs))
        (ap (λ (v : TcpValue). is_closed v.tcb.state) (sym same_other) ∙ e))
        (ap (λ (v : TcpValue). v.tcb.state) same_own ∙ (offer_out.sent.state ∙ last)) had)

  own_finished : IsFinished q side
  own_finished over = by moved.less where
    last : ((socket_of x side).tcb.state ≡ In.LastAck) × (left_in q side ≡ 0)
    last = moved.heard.closes over

    by : HasLess x q side ⊎ Else → IsTaken q side
    by (inl (inl h)) = clash (sym over ∙ (ap is_closed h.state ∙ not_closed (socket_of x side).tcb.state mine))
    by (inl (inr (inl h))) = told_taken h last.0 last.1
    by (inl (inr (inr over_there))) =
        taken_still x q side since (last_took x side rx theirs (moved.heard.closes_other over_there).0)
    by (inr not_last) = clash (sym (ap is_in_last_ack last.0) ∙ not_last)

  other_finished : IsFinished q (other side)
  other_finished over =
      taken_still x q (other side) since
      (other_taken x side t m.o rx (of x (other side) sx).stream may (moved.heard.closes_other over).0 over)

  woken_finished : BothFinished q
  woken_finished = both_finished q side own_finished other_finished

turn_finished : (p : PairValue) (side : Side) → IsReached p → BothStay p → MayTurn p side → BothFinished p → BothFinished (turn_in p side)
turn_finished p side r s m f = at (waits_in p side) refl where
  at : (waits : Bool) → waits_in p side ≡ waits → BothFinished (if waits then woken_in p side else p)
  at true e = woken_finished p side r s (m e)
  at false e = f

-- ROUNDS

rounds_finished : (n : ℕ) (p : PairValue) → IsReached p → BothStay p → MayRounds n p → BothFinished p → BothFinished (rounds_in n p)
rounds_finished zero p r s m f = f
rounds_finished (suc n) p r s m f =
    let h = turn_in p A in
    let a = turned (Unit {0}) p A r s.late m.0 (λ _. inr tt) in
    let sh = both_on p h a.calm s in
    let q = turn_in h B in
    let b = turned (Unit {0}) h B a.reached sh.late m.1 (λ _. inr tt) in
    rounds_finished n q b.reached (both_on h q b.calm sh) m.2 (turn_finished h B a.reached sh m.1 (turn_finished p A r s m.0 f))

-- who took all took the FIN
took_fin_of : (p : PairValue) (side : Side) → IsReached p → IsTaken p side → (socket_of p (other side)).tcb.receiver.took_fin ≡ true
took_fin_of p side r t =
    some_taken (socket_of p (other side)).tcb.receiver.took_fin
    (by (length (written p side)) (length (taken_list p (other side))) (one_if (socket_of p (other side)).tcb.receiver.took_fin)
    (taken_least p side r)
    (subst
    (λ (closed : Bool). length (written p side) + one_if closed
    ≤ length (taken_list p (other side)) + one_if (socket_of p (other side)).tcb.receiver.took_fin) t.closed t.all))
  where
    by : (written taken fin : ℕ) → taken ≤ written → written + 1 ≤ taken + fin → 1 ≤ fin
    by written taken fin a b = omega arith

-- whoever is over by then
pub end_told :
    (p : PairValue) (r : IsReached p) (s : AreTalking (bound p) p) (talk : MayTalk (bound p) p) (side : Side) → (past_at p side).closed ≡ true
    → (socket_of (rounds_in (bound p) p) (other side)).tcb.receiver.took_fin ≡ true
end_told p r s talk side closed = by (is_over q side) (is_over q (other side)) refl refl where
  q : PairValue
  q = rounds_in (bound p) p

  m : MayRounds (bound p) p
  m = talks (bound p) p r s talk

  it : Ended p q
  it = ends p r (there (bound p) p s) m

  stays : BothStay q
  stays = both_on p q it.calm (stay (bound p) p s)

  never_over : {X : Type 0} (side : Side) → is_over p side ≡ true → X
  never_over A over = clash (sym over ∙ not_closed p.sides.a.socket.tcb.state s.a.own.synchronized)
  never_over B over = clash (sym over ∙ not_closed p.sides.b.socket.tcb.state s.b.own.synchronized)

  finished : BothFinished q
  finished =
      rounds_finished (bound p) p r (stay (bound p) p s) m (record { a = λ over. never_over A over; b = λ over. never_over B over })

  fine : BothFine q
  fine = it.fine (record { a = λ over. never_over A over; b = λ over. never_over B over })

  taken_by : (side : Side) → is_over q (other side) ≡ true → IsTaken q side
  taken_by A over = (fine.b over).1
  taken_by B over = (fine.a over).1

  there_still : (side : Side) → is_over q side ≡ false → is_synchronized (socket_of q side).tcb.state ≡ true
  there_still side alive = late_on (socket_of q side).tcb.state (late_at q side stays) alive

  by : (mine theirs : Bool) → is_over q side ≡ mine → is_over q (other side) ≡ theirs → (socket_of q (other side)).tcb.receiver.took_fin ≡ true
  by true _ e f = took_fin_of q side it.reached (finished_of q side finished e)
  by false true e f = took_fin_of q side it.reached (taken_by side f)
  by false false e f = fin_taken p r s talk side (there_still side e) (there_still (other side) f) closed
