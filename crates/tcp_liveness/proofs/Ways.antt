-- A turn of a side brings its own way on, and leaves the other where it is or further: what an exchange and a reading leave.
use Rattle.std.proofs.Common.{◌≡◌, ℕ, zero, suc, ◌+◌, ◌-◌, ◌^◌, ◌≤◌, min, ℤ, Bool, true, false}
use Rattle.std.proofs.Common.{List, ◌++◌, length, take, drop, Option, Some, None, Result, Ok, Err, slice_get, refl, sym, ap, ◌∙◌, subst, arith}
use Rattle.std.proofs.Common.{length-append, length-take, length-drop}
use Rattle.std.proofs.lemmas.Bool.{cond_both}
use Rattle.tcp_theory.specs.Invariant.{IsInStep}
use Rattle.tcp_theory.specs.Side.{taken_in as bytes_in, one_if as one_in}
use Rattle.tcp_refinement.specs.Tie.{Past, Keeps, core_of}
use Rattle.tcp_refinement.proofs.PromiseLemmas.{Shows, shows}
use Rattle.tcp_invariants.specs.RecvError.{RecvError}
use Rattle.tcp_invariants.specs.RecvError.TheVariants as Refuses
use Rattle.tcp_invariants.specs.States.{is_closed}
use Rattle.tcp_invariants.proofs.OrderSteps.{clash}
use Rattle.tcp_block.specs.Arrival.{arrives}
use Rattle.tcp_block.specs.declared.tcb.Tcb.{Tcb}
use Rattle.tcp_block.specs.TcbRules.{one_if, unacked}
use Rattle.tcp_block.specs.Calls.{recv_answer}
use Rattle.tcp_refinement.specs.Pair.History.{pasts, recv_adds}
use Rattle.tcp_block.specs.Names.{accepts}
use Rattle.tcp_refinement.specs.Pair.Safe.{read, written}
use Rattle.tcp_refinement.specs.Pair.Sides.{at, other}
use Rattle.tcp_refinement.specs.Pair.Steps.{handed, reads, recv_fault, taken_at}
use Rattle.tcp_block.specs.Value.{TcpValue, queued_in, room_of}
use Rattle.tcp_refinement.specs.Pair.Values.{PairSide, PairValue, context_at, past_at}
use Rattle.tcp_refinement.specs.declared.pair.event.PairAnswer.{PairAnswer}
use Rattle.tcp_refinement.specs.declared.pair.event.PairAnswer.TheVariants.{Done, Count, Bytes, Error}
use Rattle.tcp_refinement.specs.declared.pair.event.PairEvent.TheVariants.{Deliver, Offer}
use Rattle.tcp_refinement.specs.declared.pair.event.SentSegment.{SentSegment}
use Rattle.tcp_refinement.specs.declared.pair.event.Side.{Side}
use Rattle.tcp_refinement.specs.declared.pair.event.Side.TheVariants.{A, B}
use Rattle.tcp_liveness.specs.Arrivals.{is_synchronized}
use Rattle.tcp_liveness.specs.BothWays.{total_in}
use Rattle.tcp_liveness.specs.Pair.{HasStream, exchanged_in, left_in, next_sent, offered_in, socket_of}
use Rattle.tcp_liveness.specs.Positions.{LiesWithin}
use Rattle.tcp_liveness.specs.Reached.{IsReached}
use Rattle.tcp_liveness.specs.Rounds.{comes, takes}
use Rattle.tcp_liveness.specs.Sent.{is_early, taken_in}
use Rattle.tcp_liveness.specs.Settle.{read_in}
use Rattle.tcp_liveness.proofs.Calm.{IsCalm, load_of, calm, arrival_calm, offer_calm}
use Rattle.tcp_liveness.proofs.Kept.{reached_keeps}
use Rattle.tcp_liveness.proofs.Pair.{had_in, in_step}
use Rattle.tcp_liveness.proofs.Positions.{IsPlaced, lies_within, placed, same_one}
use Rattle.tcp_liveness.proofs.WindowPairs.{read_room}

-- WHAT A TURN LEAVES

-- a side with its peer: no more isn't acknowledged, no less was taken, and nothing was written
pub record SideCalm (p q : PairValue) (side : Side) : Type 0 where
  pub early : is_early (socket_of p side).tcb.state ≡ false → is_early (socket_of q side).tcb.state ≡ false
  pub closed : is_closed (socket_of p side).tcb.state ≡ true → is_closed (socket_of q side).tcb.state ≡ true
  pub left : left_in q side ≤ left_in p side
  pub taken : taken_in p side ≤ taken_in q side
  pub written : written q side ≡ written p side
  pub ended : (past_at q side).closed ≡ (past_at p side).closed
  pub opening : (past_at q side).opening ≡ (past_at p side).opening
  pub acked : (socket_of p side).tcb.sender.syn_unacked ≡ false → (socket_of q side).tcb.sender.syn_unacked ≡ false
  pub room : room_of (socket_of q side).received ≡ room_of (socket_of p side).received
  pub stamps : (socket_of q side).tcb.peer.timestamps ≡ (socket_of p side).tcb.peer.timestamps
  pub timeout : (socket_of q side).tcb.settings.timeout ≡ (socket_of p side).tcb.settings.timeout
  pub retries : (socket_of q side).tcb.settings.retries ≡ (socket_of p side).tcb.settings.retries

pub record BothCalm (p q : PairValue) : Type 0 where
  pub a : SideCalm p q A
  pub b : SideCalm p q B

abbrev pub IsLate : PairValue → Type 0
IsLate p = (is_early p.sides.a.socket.tcb.state ≡ false) × (is_early p.sides.b.socket.tcb.state ≡ false)

pub late_after : (p q : PairValue) → BothCalm p q → IsLate p → IsLate q
late_after p q c late = (c.a.early late.0, c.b.early late.1)

pub same : (n : ℕ) → n ≤ n
same n = omega arith

upto : (a b c : ℕ) → a ≤ b → b ≤ c → a ≤ c
upto a b c e f = omega arith

pub still_calm : (p : PairValue) (side : Side) → SideCalm p p side
still_calm p side = record {
  early = λ e. e;
  closed = λ e. e;
  left = same _;
  taken = same _;
  written = refl;
  ended = refl;
  opening = refl;
  acked = λ e. e;
  room = refl;
  stamps = refl;
  timeout = refl;
  retries = refl;
}

next_calm : (p q r : PairValue) (side : Side) → SideCalm p q side → SideCalm q r side → SideCalm p r side
next_calm p q r side c d = record {
  early = λ e. d.early (c.early e);
  closed = λ e. d.closed (c.closed e);
  left = upto (left_in r side) (left_in q side) (left_in p side) d.left c.left;
  taken = upto (taken_in p side) (taken_in q side) (taken_in r side) c.taken d.taken;
  written = d.written ∙ c.written;
  ended = d.ended ∙ c.ended;
  opening = d.opening ∙ c.opening;
  acked = λ e. d.acked (c.acked e);
  room = d.room ∙ c.room;
  stamps = d.stamps ∙ c.stamps;
  timeout = d.timeout ∙ c.timeout;
  retries = d.retries ∙ c.retries;
}

pub both_next : (p q r : PairValue) → BothCalm p q → BothCalm q r → BothCalm p r
both_next p q r c d = record { a = next_calm p q r A c.a d.a; b = next_calm p q r B c.b d.b }

acks : (old new : Bool) → one_if new ≤ one_if old → old ≡ false → new ≡ false
acks true new e f = clash f
acks false true e f = absurd (omega arith)
acks false false e f = refl

pub side_calm : (p q : PairValue) (side : Side) → at (pasts q.history) side ≡ at (pasts p.history) side →
    IsCalm (load_of (socket_of p side)) (load_of (socket_of q side)) → SideCalm p q side
side_calm p q side past c = record {
  early = c.early;
  closed = c.closed;
  left = c.left;
  taken =
      subst
      (λ (xs : List ℕ). taken_in p side ≤ length (xs ++ (socket_of q side).received.waiting) + one_if (socket_of q side).tcb.receiver.took_fin)
      (sym (ap (λ (x : Past). x.read) past))
      (more (read p side) (socket_of p side).received.waiting (socket_of q side).received.waiting
      (one_if (socket_of p side).tcb.receiver.took_fin) (one_if (socket_of q side).tcb.receiver.took_fin) c.came);
  written = ap (λ (x : Past). x.written) past;
  ended = ap (λ (x : Past). x.closed) past;
  opening = ap (λ (x : Past). x.opening) past;
  acked = acks (socket_of p side).tcb.sender.syn_unacked (socket_of q side).tcb.sender.syn_unacked c.syn;
  room = c.room;
  stamps = c.stamps;
  timeout = c.timeout;
  retries = c.retries;
}
  where
    more :
        (xs old new : List ℕ) (fin after : ℕ) → length old + fin ≤ length new + after
        → length (xs ++ old) + fin ≤ length (xs ++ new) + after
    more xs old new fin after e =
        by (length xs) (length old) (length new) (length-append xs old) (length-append xs new) e where
          by :
              (read old new : ℕ) {first second : ℕ} → first ≡ read + old → second ≡ read + new → old + fin ≤ new + after
              → first + fin ≤ second + after
          by read old new a b c = omega arith

-- EVENTS

handed_calm : (side : Side) (s : PairSide) (x : Option SentSegment) → is_early s.socket.tcb.state ≡ false →
    IsCalm (load_of s.socket) (load_of (handed side s x).socket)
handed_calm side s None late = calm (load_of s.socket)
handed_calm side s (Some x) late =
    cond_both (accepts s.socket.tcb x.header x.segment) (taken_at s (arrives (context_at side s) s.socket x.header x.segment x.bytes)) s
    (λ (new : PairSide). IsCalm (load_of s.socket) (load_of new.socket))
    (λ _. arrival_calm (context_at side s) x.header x.segment x.bytes s.socket late)
    (λ _. calm (load_of s.socket))

delivered : (p : PairValue) (from : Side) (k : ℕ) → IsLate p → BothCalm p (takes p (Deliver from k))
delivered p A k late = record {
  a = side_calm p (takes p (Deliver A k)) A refl (calm (load_of p.sides.a.socket));
  b = side_calm p (takes p (Deliver A k)) B refl (handed_calm B p.sides.b (slice_get p.sides.a.sent k) late.1);
}
delivered p B k late = record {
  a = side_calm p (takes p (Deliver B k)) A refl (handed_calm A p.sides.a (slice_get p.sides.b.sent k) late.0);
  b = side_calm p (takes p (Deliver B k)) B refl (calm (load_of p.sides.b.socket));
}

offered : (p : PairValue) (side : Side) (instant : ℤ) → IsLate p → BothCalm p (takes p (Offer side instant true))
offered p A instant late = record {
  a =
      side_calm p (takes p (Offer A instant true)) A refl
      (offer_calm (context_at A (record p.sides.a { instant = instant })) p.sides.a.socket late.0);
  b = side_calm p (takes p (Offer A instant true)) B refl (calm (load_of p.sides.b.socket));
}
offered p B instant late = record {
  a = side_calm p (takes p (Offer B instant true)) A refl (calm (load_of p.sides.a.socket));
  b =
      side_calm p (takes p (Offer B instant true)) B refl
      (offer_calm (context_at B (record p.sides.b { instant = instant })) p.sides.b.socket late.1);
}

all_come : (n : ℕ) (from : Side) (k : ℕ) (p : PairValue) → IsLate p → BothCalm p (comes n from k p)
all_come zero from k p late = record { a = still_calm p A; b = still_calm p B }
all_come (suc n) from k p late =
    let first = delivered p from k late in
    both_next p (takes p (Deliver from k)) (comes n from (suc k) (takes p (Deliver from k))) first
    (all_come n from (suc k) (takes p (Deliver from k)) (late_after p (takes p (Deliver from k)) first late))

-- an offer that comes, and what answers it
pub offer_arrives_calm : (p : PairValue) (side : Side) (instant : ℤ) → IsLate p → BothCalm p (offered_in p side instant)
offer_arrives_calm p side instant late =
    let q = takes p (Offer side instant true) in
    let first = offered p side instant late in
    both_next p q (offered_in p side instant) first (delivered q side (next_sent p side) (late_after p q first late))

pub answer_arrives_calm : (p : PairValue) (side : Side) (instant : ℤ) → IsLate p → BothCalm (offered_in p side instant) (exchanged_in p side instant)
answer_arrives_calm p side instant late =
    let r = offered_in p side instant in
    all_come (next_sent r (other side) - next_sent p (other side)) (other side) (next_sent p (other side)) r
    (late_after p r (offer_arrives_calm p side instant late) late)

pub exchanged : (p : PairValue) (side : Side) (instant : ℤ) → IsLate p → BothCalm p (exchanged_in p side instant)
exchanged p side instant late =
    both_next p (offered_in p side instant) (exchanged_in p side instant) (offer_arrives_calm p side instant late) (answer_arrives_calm p side instant late)

-- a user reads: what was taken stays
record Same (p q : Past) : Type 0 where
  written : q.written ≡ p.written
  closed : q.closed ≡ p.closed
  opening : q.opening ≡ p.opening

recv_same : (answer : PairAnswer) (p : Past) → Same p (recv_adds answer p)
recv_same Done p = record { written = refl; closed = refl; opening = refl }
recv_same (Count n) p = record { written = refl; closed = refl; opening = refl }
recv_same (Bytes bytes) p = record { written = refl; closed = refl; opening = refl }
recv_same (Error fault) p = record { written = refl; closed = refl; opening = refl }

refused_adds : (fault : RecvError) (p : Past) → recv_adds (recv_fault fault) p ≡ p
refused_adds Refuses.InvalidState p = refl
refused_adds Refuses.Finished p = refl

record Reading (s : PairSide) (p : Past) (r : Result ℕ RecvError) : Type 0 where
  tcb : (reads s r).side.socket.tcb ≡ s.socket.tcb
  queue : queued_in (reads s r).side.socket ≡ queued_in s.socket
  room : room_of (reads s r).side.socket.received ≡ room_of s.socket.received
  taken : length (p.read ++ s.socket.received.waiting) ≤ length ((recv_adds (reads s r).answer p).read ++ (reads s r).side.socket.received.waiting)

reading : (s : PairSide) (p : Past) (r : Result ℕ RecvError) → Reading s p r
reading s p (Ok n) = record {
  tcb = refl;
  queue = refl;
  room = read_room s.socket.received.waiting s.socket.received.map n;
  taken =
      by (length p.read) (length s.socket.received.waiting) (length-append p.read s.socket.received.waiting)
      (length-append (p.read ++ take n s.socket.received.waiting) (drop n s.socket.received.waiting))
      (length-append p.read (take n s.socket.received.waiting)) (length-take n s.socket.received.waiting) (length-drop n s.socket.received.waiting);
}
  where
    by :
        (read waiting : ℕ) {all after front took left : ℕ} → all ≡ read + waiting → after ≡ front + left → front ≡ read + took → took ≡ min n waiting
        → left ≡ waiting - n → all ≤ after
    by read waiting a b c d e = omega arith
reading s p (Err fault) = record {
  tcb = refl;
  queue = refl;
  room = refl;
  taken =
      subst (λ (x : Past). length (p.read ++ s.socket.received.waiting) ≤ length (x.read ++ s.socket.received.waiting)) (sym (refused_adds fault p)) (same _);
}

by_reading :
    (p q : PairValue) (side : Side) → (socket_of q side).tcb ≡ (socket_of p side).tcb → queued_in (socket_of q side) ≡ queued_in (socket_of p side)
    → length (read p side ++ (socket_of p side).received.waiting) ≤ length (read q side ++ (socket_of q side).received.waiting)
    → room_of (socket_of q side).received ≡ room_of (socket_of p side).received → Same (past_at p side) (past_at q side) → SideCalm p q side
by_reading p q side tcb queue taken room past = record {
  early = λ e. ap (λ (b : Tcb). is_early b.state) tcb ∙ e;
  closed = λ e. ap (λ (b : Tcb). is_closed b.state) tcb ∙ e;
  left =
      subst (λ (n : ℕ). n ≤ left_in p side)
      (sym (ap (λ (b : Tcb). unacked b (queued_in (socket_of q side))) tcb ∙ ap (λ (n : ℕ). unacked (socket_of p side).tcb n) queue)) (same _);
  taken =
      more (length (read p side ++ (socket_of p side).received.waiting)) (length (read q side ++ (socket_of q side).received.waiting))
      (one_if (socket_of p side).tcb.receiver.took_fin) (one_if (socket_of q side).tcb.receiver.took_fin)
      (ap (λ (b : Tcb). one_if b.receiver.took_fin) tcb) taken;
  written = past.written;
  ended = past.closed;
  opening = past.opening;
  acked = λ e. ap (λ (b : Tcb). b.sender.syn_unacked) tcb ∙ e;
  room = room;
  stamps = ap (λ (b : Tcb). b.peer.timestamps) tcb;
  timeout = ap (λ (b : Tcb). b.settings.timeout) tcb;
  retries = ap (λ (b : Tcb). b.settings.retries) tcb;
}
  where
    more : (a b c d : ℕ) → d ≡ c → a ≤ b → a + c ≤ b + d
    more a b c d e f = omega arith

pub read_calm : (p : PairValue) (side : Side) → BothCalm p (read_in p side)
read_calm p A =
    let r = recv_answer p.sides.b.socket (2 ^ 30) in
    let x = reading p.sides.b (at (pasts p.history) B) r in
    let adds = recv_same (reads p.sides.b r).answer (at (pasts p.history) B) in
    record {
      a = side_calm p (read_in p A) A refl (calm (load_of p.sides.a.socket));
      b = by_reading p (read_in p A) B x.tcb x.queue x.taken x.room (record { written = adds.written; closed = adds.closed; opening = adds.opening });
    }
read_calm p B =
    let r = recv_answer p.sides.a.socket (2 ^ 30) in
    let x = reading p.sides.a (at (pasts p.history) A) r in
    let adds = recv_same (reads p.sides.a r).answer (at (pasts p.history) A) in
    record {
      a = by_reading p (read_in p B) A x.tcb x.queue x.taken x.room (record { written = adds.written; closed = adds.closed; opening = adds.opening });
      b = side_calm p (read_in p B) B refl (calm (load_of p.sides.b.socket));
    }

pub of_side : (p q : PairValue) (side : Side) → BothCalm p q → SideCalm p q side
of_side p q A c = c.a
of_side p q B c = c.b

-- WHAT IS TAKEN

-- what isn't acknowledged and what was taken, together, are what the peer has past SND.UNA, and all that was written
pub record Balance (p : PairValue) (side : Side) : Type 0 where
  pub sum : left_in p side + taken_in p (other side) ≡ had_in p side + total_in p side
  pub within : had_in p side ≤ left_in p side

pub balance :
    (p : PairValue) (side : Side) → IsReached p → HasStream (past_at p side) → is_synchronized (socket_of p side).tcb.state ≡ true
    → is_synchronized (socket_of p (other side)).tcb.state ≡ true → Balance p side
balance p side r stream mine theirs = record {
  sum =
      subst (λ (x : Past). left_in p side + taken_in p (other side) ≡ had_in p side + (length x.written + one_if x.closed)) k.past
      (by k.side.una (had_in p side) (left_in p side) k.peer_side.irs k.side.iss (length k.side.written) (one_in k.side.closed) (length (bytes_in k.peer_side))
      (one_in k.peer_side.took_fin) l.position a.end step.counts (same_one k.side.closed) bytes fin);
  within = l.within;
}
  where
    v : TcpValue
    v = socket_of p side

    w : TcpValue
    w = socket_of p (other side)

    k : Keeps v (past_at p side) w (past_at p (other side))
    k = reached_keeps p side r

    step : IsInStep k.side k.peer_side
    step = in_step v w (past_at p side) (past_at p (other side)) k mine stream

    l : LiesWithin v w k.side k.peer_side
    l = lies_within v w (past_at p side) (past_at p (other side)) k mine theirs step

    a : IsPlaced v k.side
    a = placed v k.side k.fits k.holds.0.well_formed mine

    shown : Shows (core_of w) k.peer_side
    shown = shows (core_of w) k.peer_side k.side (k.holds.1, k.holds.0) k.peer_side_fits

    bytes : length (bytes_in k.peer_side) ≡ length (read p (other side) ++ w.received.waiting)
    bytes =
        ap length
        (ap (λ (xs : List ℕ). xs ++ k.peer_side.waiting) (ap (λ (p : Past). p.read) k.peer_side_past)
        ∙ ap (λ (xs : List ℕ). read p (other side) ++ xs) (sym shown.waiting))

    one : (t : Bool) → one_in t ≡ one_if t
    one true = refl
    one false = refl

    fin : one_in k.peer_side.took_fin ≡ one_if w.tcb.receiver.took_fin
    fin = ap one_in (sym shown.took_fin) ∙ one w.tcb.receiver.took_fin

    by :
        (una had left irs iss written closed bytes fin : ℕ) {ended payload last : ℕ} → una + had ≡ suc irs + bytes + fin → una + left ≡ suc iss + written + closed
        → irs ≡ iss → closed ≡ ended → bytes ≡ payload → fin ≡ last → left + (payload + last) ≡ had + (written + ended)
    by una had left irs iss written closed bytes fin a b c d e f = omega arith
