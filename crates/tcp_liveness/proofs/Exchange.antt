-- The steps of an exchange joined: what goes from SND.UNA on is new to the peer, or was taken, and then its answer raises SND.UNA.
use Rattle.std.proofs.Common.{◌≡◌, ◌⊎◌, inl, inr, ℕ, ◌+◌, ◌-◌, ◌%◌, ◌^◌, ◌<◌, ◌≤◌, ◌==◌, ◌&&◌}
use Rattle.std.proofs.Common.{nat_lt, Bool, true, false, if◌then◌else◌, List, [], ◌∷◌, ◌++◌, length, slice_get, Option}
use Rattle.std.proofs.Common.{Some, refl, sym, ap, ◌∙◌, subst, arith}
use Rattle.std.proofs.lemmas.Bool.{eq-eqb, ltb-true, ltb-false, lt-ltb}
use Rattle.net_base.specs.Ring.{Ring}
use Rattle.ip_wire.specs.Control.{control_len}
use Rattle.ip_wire.specs.IpRepr.{IpRepr}
use Rattle.ip_wire.specs.Seq.{distance_of}
use Rattle.ip_wire.specs.SeqNumber.{SeqNumber}
use Rattle.ip_wire.specs.TcpControl.{TcpControl}
use Rattle.ip_wire.specs.TcpHeader.{TcpHeader}
use Rattle.tcp_theory.specs.Invariant.{IsInStep}
use Rattle.tcp_theory.specs.Side.{Side, rcv_next, send_end}
use Rattle.tcp_refinement.specs.Context.{ContextValue}
use Rattle.tcp_refinement.specs.History.{with_answer, with_offer}
use Rattle.tcp_refinement.specs.Tie.{Past, Keeps, is_finished_in, segment_of}
use Rattle.tcp_invariants.specs.Controls.{is_syn, is_fin, is_rst}
use Rattle.tcp_invariants.specs.Offsets.{distance_after, distance_before, advanced_by, overlaps_window}
use Rattle.tcp_invariants.specs.OpenOffer.{OpenOffer}
use Rattle.tcp_invariants.specs.State.{State}
use Rattle.tcp_invariants.specs.State.TheVariants as In
use Rattle.tcp_invariants.specs.States.{accepts_data}
use Rattle.tcp_block.specs.Arrival.{arrives}
use Rattle.tcp_block.specs.declared.tcb.Tcb.{Tcb}
use Rattle.tcp_block.specs.TcbRules.{snd_max, unacked}
use Rattle.tcp_block.specs.Checks.{is_in_window}
use Rattle.tcp_block.specs.Offers.{offer_of}
use Rattle.tcp_block.specs.Segments.{segment_len}
use Rattle.tcp_block.specs.Settled.{settled}
use Rattle.tcp_block.specs.Timestamps.{arrives_older}
use Rattle.tcp_block.specs.Value.{TcpValue, Received, Arrived, free_in, queued_in, room_of}
use Rattle.tcp_refinement.proofs.ArrivalLaws.{keeps_arrival}
use Rattle.tcp_refinement.proofs.OfferLaws.{keeps_sent_offer}
use Rattle.tcp_refinement.proofs.PromiseLemmas.{keeps_turned, safe_sockets}
use Rattle.tcp_block.specs.declared.tcb.Peer.{Peer}
use Rattle.tcp_block.specs.declared.tcb.Sender.{Sender}
use Rattle.tcp_invariants.proofs.OrderSteps.{clash}
use Rattle.tcp_invariants.specs.Acks.{IsAcknowledged}
use Rattle.tcp_liveness.specs.Arrivals.{is_synchronized, Counts, IsNearWindow, IsNew, IsAgain, IsAnswered, EndsLastAck, Rises}
use Rattle.tcp_liveness.specs.Clocks.{arrives_stale}
use Rattle.tcp_liveness.specs.Exchange.{CanHear, FitsBuffer, IsOpen, TookWhatWasSent, HasSpace, data_of, GoesFromUna, offer_arrives}
use Rattle.tcp_liveness.specs.Exchange.{MayExchange, MayReach, MovesOn, left_of, IsTaken, IsTold, HasMoved}
use Rattle.tcp_liveness.specs.Positions.{LiesWithin}
use Rattle.tcp_liveness.proofs.Acked.{IsHeard, none_unanswered, una_rises}
use Rattle.tcp_liveness.proofs.Left.{left_same, lowered}
use Rattle.tcp_liveness.proofs.Offered.{IsTransmitted, StaysBut, is_transmitted_of, goes_from_una}
use Rattle.tcp_liveness.proofs.Positions.{IsPlaced, placed, lies_within, whole_taken, una_small, next_small}
use Rattle.tcp_liveness.proofs.Taken.{Still, next_rises, again_answered, again_lies_before, new_is_inside, past_still}

-- WHAT GOES FROM SND.UNA ON

-- a side that takes no payload took the FIN
finished_where : (state : State) → is_synchronized state ≡ true → accepts_data state ≡ false → is_finished_in state ≡ true
finished_where In.Closed past e = clash (sym past)
finished_where In.Listen past e = clash (sym past)
finished_where In.SynSent past e = clash (sym past)
finished_where In.SynReceived past e = clash (sym past)
finished_where In.Established past e = clash e
finished_where In.FinWait1 past e = clash e
finished_where In.FinWait2 past e = clash e
finished_where other past e = refl

all_there : (una far next all end : ℕ) → una + far ≡ next → next ≡ end → una + all ≡ end → far ≡ all
all_there una far next all end a b c = omega arith

near_half : (far all : ℕ) → far ≤ all → all < 2 ^ 30 → far < 2 ^ 31
near_half far all a b = omega arith

not_within : (far all len : ℕ) → far ≡ all → len ≤ all → far < len → ⊥
not_within far all len a b c = absurd (omega arith)

pub new_or_again :
    (v w : TcpValue) (p q : Past) (k : Keeps v p w q) (header : TcpHeader) (size : ℕ) → is_synchronized v.tcb.state ≡ true
    → is_synchronized w.tcb.state ≡ true → IsInStep k.side k.peer_side → header.seq_number ≡ v.tcb.sender.una → 1 ≤ segment_len header size
    → segment_len header size ≤ unacked v.tcb (queued_in v) → 1 ≤ free_in w
    → distance_of v.tcb.sender.una w.tcb.receiver.next ≤ room_of w.received + 2
    → IsNew w header size ⊎ IsAgain w header size
new_or_again v w p q k header size mine theirs step number some ends room near = by (nat_lt far len) refl where
  s : Side
  s = k.side

  t : Side
  t = k.peer_side

  a : IsPlaced v s
  a = placed v s k.fits k.holds.0.well_formed mine

  b : IsPlaced w t
  b = placed w t k.peer_side_fits k.holds.1.well_formed theirs

  l : LiesWithin v w s t
  l = lies_within v w p q k mine theirs step

  len : ℕ
  len = segment_len header size

  far : ℕ
  far = distance_of v.tcb.sender.una w.tcb.receiver.next

  same : far ≡ distance_of header.seq_number w.tcb.receiver.next
  same = ap (λ (n : SeqNumber). distance_of n w.tcb.receiver.next) (sym number)

  seq_small : header.seq_number.0 < 2 ^ 32
  seq_small = subst (λ (n : SeqNumber). n.0 < 2 ^ 32) (sym number) (una_small v s a)

  begins : distance_of header.seq_number w.tcb.receiver.next < 2 ^ 31
  begins = subst (λ (n : ℕ). n < 2 ^ 31) same (near_half far (unacked v.tcb (queued_in v)) l.within l.few)

  takes : far < len → accepts_data w.tcb.state ≡ true
  takes less = at (accepts_data w.tcb.state) refl where
    at : (test : Bool) → accepts_data w.tcb.state ≡ test → accepts_data w.tcb.state ≡ true
    at true e = e
    at false e =
        let finished : t.took_fin ≡ true = b.finished ∙ finished_where w.tcb.state theirs e in
        absurd (not_within far (unacked v.tcb (queued_in v)) len
        (all_there s.una far (rcv_next t) (unacked v.tcb (queued_in v)) (send_end s) l.position (whole_taken s t k.holds.0 finished) a.end) ends less)

  by : (test : Bool) → nat_lt far len ≡ test → IsNew w header size ⊎ IsAgain w header size
  by true e =
      inl
      (record {
        takes = takes (ltb-true far len e);
        room = room;
        begins = begins;
        ends = subst (λ (n : ℕ). n < len) same (ltb-true far len e);
        seq_small = seq_small;
        next_small = next_small w t b;
      })
  by false e =
      inr
      (record {
        some = some;
        begins = begins;
        ends = subst (λ (n : ℕ). len ≤ n) same (ltb-false far len e);
        near = subst (λ (n : ℕ). n ≤ room_of w.received + 2) same near;
        seq_small = seq_small;
        next_small = next_small w t b;
      })

-- WHAT THE PARTNER ACKNOWLEDGES

few_sent : (snd_max all : ℕ) → snd_max ≤ all → all < 2 ^ 30 → snd_max < 2 ^ 31
few_sent snd_max all a b = omega arith

pub counts_for :
    (v w : TcpValue) (p q : Past) (k : Keeps v p w q) (header : TcpHeader) → IsOpen v.tcb → is_synchronized w.tcb.state ≡ true
    → TookWhatWasSent v w → is_syn header.control ≡ false → is_rst header.control ≡ false
    → arrives_stale v.tcb header.options.timestamp ≡ false → header.ack_number ≡ Some w.tcb.receiver.next
    → Counts v.tcb header w.tcb.receiver.next
counts_for v w p q k header mine theirs sent no_syn no_reset initial ack = record {
  synchronized = mine.synchronized;
  opened = mine.opened;
  no_syn = no_syn;
  no_reset = no_reset;
  initial = initial;
  acknowledges = ack;
  sent = sent;
  few = few_sent v.tcb.sender.snd_max (unacked v.tcb (queued_in v)) a.snd_max a.few;
  number_small = next_small w k.peer_side b;
  una_small = una_small v k.side a;
}
  where
    a : IsPlaced v k.side
    a = placed v k.side k.fits k.holds.0.well_formed mine.synchronized

    b : IsPlaced w k.peer_side
    b = placed w k.peer_side k.peer_side_fits k.holds.1.well_formed theirs

abbrev number_of : ℕ → SeqNumber
number_of n = record { 0 = n }

same_number : (a b : SeqNumber) → a.0 ≡ b.0 → a ≡ b
same_number a b e = ap number_of e

ahead_again : (una n : ℕ) → una < 2 ^ 32 → n < 2 ^ 32 → n ≡ (una + (n + (2 ^ 32 - una)) % 2 ^ 32) % 2 ^ 32
ahead_again una n e f = omega arith

-- SND.UNA rises to RCV.NXT of the peer: by as much as lies between them
pub risen_to :
    (old una next : SeqNumber) → old.0 < 2 ^ 32 → next.0 < 2 ^ 32 → una.0 ≡ next.0 → una ≡ advanced_by old (distance_of old next)
risen_to old una next a b e = same_number una (advanced_by old (distance_of old next)) (e ∙ ahead_again old.0 next.0 a b)

-- as far as the peer's RCV.NXT lies within what was written
pub moves_to :
    (old una next : SeqNumber) (all : ℕ) → old.0 < 2 ^ 32 → next.0 < 2 ^ 32 → una.0 ≡ next.0 → 1 ≤ distance_of old next → distance_of old next ≤ all
    → all < 2 ^ 30 → MovesOn old una
moves_to old una next all a b e some within few = record {
  by = distance_of old next;
  some = some;
  few = below (distance_of old next) all within few;
  moved = risen_to old una next a b e;
}
  where
    below : (far all : ℕ) → far ≤ all → all < 2 ^ 30 → far < 2 ^ 30
    below far all c d = omega arith

pub peer_sides_word :
    (cx : ContextValue) (v w : TcpValue) (p q : Past) (k : Keeps v p w q) (ip : IpRepr) (header : TcpHeader) (bytes : List ℕ) → IsOpen v.tcb
    → is_synchronized w.tcb.state ≡ true → TookWhatWasSent v w → is_syn header.control ≡ false → is_rst header.control ≡ false
    → arrives_stale v.tcb header.options.timestamp ≡ false → header.ack_number ≡ Some w.tcb.receiver.next
    → IsNearWindow v header (length bytes)
    → (arrives cx v ip header bytes).socket.tcb.sender.una
    ≡ advanced_by v.tcb.sender.una (distance_of v.tcb.sender.una w.tcb.receiver.next)
peer_sides_word cx v w p q k ip header bytes mine theirs sent no_syn no_reset initial ack there =
    let c = counts_for v w p q k header mine theirs sent no_syn no_reset initial ack in
    risen_to v.tcb.sender.una (arrives cx v ip header bytes).socket.tcb.sender.una w.tcb.receiver.next c.una_small c.number_small
    (una_rises cx v ip header bytes w.tcb.receiver.next c there)

-- where all that was written was sent, no more was taken
pub all_sent :
    (v w : TcpValue) (p q : Past) (k : Keeps v p w q) → is_synchronized v.tcb.state ≡ true → is_synchronized w.tcb.state ≡ true
    → IsInStep k.side k.peer_side → v.tcb.sender.snd_max ≡ left_of v → TookWhatWasSent v w
all_sent v w p q k mine theirs step whole =
    let l = lies_within v w p q k mine theirs step in
    subst (λ (n : ℕ). distance_of v.tcb.sender.una w.tcb.receiver.next ≤ n) (sym whole) l.within

-- and where it fits the peer's buffer, what was taken does
pub fits_buffer :
    (v w : TcpValue) (p q : Past) (k : Keeps v p w q) → is_synchronized v.tcb.state ≡ true → is_synchronized w.tcb.state ≡ true
    → IsInStep k.side k.peer_side → left_of v ≤ room_of w.received + 2
    → distance_of v.tcb.sender.una w.tcb.receiver.next ≤ room_of w.received + 2
fits_buffer v w p q k mine theirs step room =
    let l = lies_within v w p q k mine theirs step in
    at_most (distance_of v.tcb.sender.una w.tcb.receiver.next) (left_of v) (room_of w.received + 2) l.within room
  where
    at_most : (a b c : ℕ) → a ≤ b → b ≤ c → a ≤ c
    at_most a b c e f = omega arith

-- A BARE ACKNOWLEDGEMENT

-- it lies past RCV.NXT, by what was sent and didn't come
past_next : (una next snd_max : ℕ) → una < 2 ^ 32 → next < 2 ^ 32 → (next + (2 ^ 32 - una)) % 2 ^ 32 ≤ snd_max → snd_max < 2 ^ 30
    → ((una + snd_max) % 2 ^ 32 + (2 ^ 32 - next)) % 2 ^ 32 < 2 ^ 31
past_next una next snd_max a b c d = omega arith

pub bare_meets : (far space : ℕ) → far < 2 ^ 31 → (far ≡ 0) ⊎ (far < space) →
    overlaps_window (if nat_lt far (2 ^ 31) then 0 else 2 ^ 32 - far) (if nat_lt far (2 ^ 31) then far else 0) 0 space ≡ true
bare_meets far space less room =
    ap (λ (t : Bool). overlaps_window (if t then 0 else 2 ^ 32 - far) (if t then far else 0) 0 space) (lt-ltb far (2 ^ 31) less) ∙ by room
  where
    by : (far ≡ 0) ⊎ (far < space) → (if far == 0 then true else nat_lt far space) ≡ true
    by (inl none) = ap (λ (t : Bool). if t then true else nat_lt far space) (eq-eqb far 0 none)
    by (inr within) = at (far == 0) where
      at : (test : Bool) → (if test then true else nat_lt far space) ≡ true
      at true = refl
      at false = lt-ltb far space within

-- SND.NXT of a peer, past RCV.NXT of the side
pub bare_lies_inside :
    (v w : TcpValue) (p q : Past) (k : Keeps v p w q) (header : TcpHeader) → is_synchronized v.tcb.state ≡ true → is_synchronized w.tcb.state ≡ true
    → TookWhatWasSent w v → HasSpace v w → header.seq_number ≡ snd_max w.tcb → segment_len header 0 ≡ 0
    → is_in_window v.tcb (free_in v) header 0 ≡ true
bare_lies_inside v w p q k header mine theirs heard space number bare =
    ap (λ (n : SeqNumber). overlaps_window (distance_before v.tcb.receiver.next n) (distance_after v.tcb.receiver.next n) (segment_len header 0) (free_in v)) number
    ∙ (ap (λ (n : ℕ). overlaps_window (distance_before v.tcb.receiver.next (snd_max w.tcb)) (distance_after v.tcb.receiver.next (snd_max w.tcb)) n (free_in v)) bare
    ∙ bare_meets (distance_of v.tcb.receiver.next (snd_max w.tcb)) (free_in v)
    (past_next w.tcb.sender.una.0 v.tcb.receiver.next.0 w.tcb.sender.snd_max (una_small w k.peer_side b) (next_small v k.side a) heard
    (few w.tcb.sender.snd_max (unacked w.tcb (queued_in w)) b.snd_max b.few))
    space)
  where
    a : IsPlaced v k.side
    a = placed v k.side k.fits k.holds.0.well_formed mine

    b : IsPlaced w k.peer_side
    b = placed w k.peer_side k.peer_side_fits k.holds.1.well_formed theirs

    few : (snd_max all : ℕ) → snd_max ≤ all → all < 2 ^ 30 → snd_max < 2 ^ 30
    few snd_max all c d = omega arith

-- AN EXCHANGE

-- an exchange reads of the socket what an offer leaves as it is
open_still : (old new : Tcb) → StaysBut old new → IsOpen old → IsOpen new
open_still old new s o = record {
  synchronized = ap is_synchronized s.state ∙ o.synchronized;
  acknowledged = s.syn_unacked ∙ o.acknowledged;
  opened = subst (λ (n : ℕ). 1 ≤ n) (sym s.past_iss) o.opened;
}

enough : (far len : ℕ) → len ≤ far → 1 ≤ len → 1 ≤ far
enough far len a b = omega arith

up_to : (a b c : ℕ) → a ≤ b → b ≤ c → a ≤ c
up_to a b c e f = omega arith

-- the last of a list
pub last_of : {A : Type 0} → (xs : List A) (x : A) → slice_get (xs ++ x ∷ []) (length xs) ≡ Some x
last_of [] x = refl
last_of (y ∷ xs) x = last_of xs x

-- what waits is part of a stream
within_stream : (read waiting rest stream : List ℕ) → (read ++ waiting) ++ rest ≡ stream → length waiting ≤ length stream
within_stream read waiting rest stream e =
    subst (λ (xs : List ℕ). length waiting ≤ length xs) e
    (up_to (length waiting) (length (read ++ waiting)) (length ((read ++ waiting) ++ rest)) (longer_following read waiting) (longer_before (read ++ waiting) rest))
  where
    longer_following : (xs ys : List ℕ) → length ys ≤ length (xs ++ ys)
    longer_following [] ys = same (length ys) where
      same : (n : ℕ) → n ≤ n
      same n = omega arith
    longer_following (x ∷ xs) ys = omega (arith, longer_following xs ys)

    longer_before : (xs ys : List ℕ) → length xs ≤ length (xs ++ ys)
    longer_before [] ys = omega arith
    longer_before (x ∷ xs) ys = omega (arith, longer_before xs ys)

far_below : (by waiting written : ℕ) → by ≤ waiting + 1 → waiting ≤ written → written < 2 ^ 29 → by < 2 ^ 30
far_below by waiting written a b c = omega arith

pub reach_of : (cx cy : ContextValue) (v w : TcpValue) (o : OpenOffer) → MayExchange cx cy v w o → MayReach cx cy v w o
reach_of cx cy v w o may = record {
  own = may.own;
  theirs = may.theirs;
  over = may.over;
  offered = may.offered;
  kind = may.kind;
  some = may.some;
  room = may.room;
  initial = may.initial;
  answer_initial = may.answer_initial;
}

-- what comes of it: RCV.NXT of the peer rises, or its connection ends, or it has all of it already and answers
pub record IsPassed (w : TcpValue) (header : TcpHeader) (size : ℕ) (a : Arrived) : Type 0 where
  pub again : IsAgain w header size
  pub answer : IsAnswered w a

module _ (cx cy cz : ContextValue) (v w : TcpValue) (p q : Past) (k : Keeps v p w q) (o : OpenOffer) (step : IsInStep k.side k.peer_side)
    (took_theirs : TookWhatWasSent v w) (fits : FitsBuffer v w) (took_mine : TookWhatWasSent w v) (may : MayReach cx cy v w o) where
  abbrev bytes : List ℕ
  bytes = data_of v o

  abbrev came : Arrived
  came = offer_arrives cy w v o

  abbrev gone : TcpValue
  gone = settled true (offer_of cx v).socket

  out : IsTransmitted v (offer_of cx v).socket o
  out = is_transmitted_of cx v o may.own.acknowledged may.offered may.kind

  a : IsPlaced v k.side
  a = placed v k.side k.fits k.holds.0.well_formed may.own.synchronized

  goes : GoesFromUna v o
  goes = goes_from_una cx v o (una_small v k.side a) may.own.acknowledged may.over may.offered may.kind

  turned : Keeps w q v p
  turned = record {
    side = k.peer_side;
    peer_side = k.side;
    past = k.peer_side_past;
    peer_side_past = k.past;
    fits = k.peer_side_fits;
    peer_side_fits = k.fits;
    holds = (k.holds.1, k.holds.0);
  }

  counts : Counts w.tcb o.segment v.tcb.receiver.next
  counts = counts_for w v q p turned o.segment may.theirs may.own.synchronized took_mine out.no_syn out.no_reset may.initial goes.acknowledges

  -- the answer finds the socket that has sent its offer
  abbrev after : Past
  after = with_offer p (offer_of cx v).socket.offered (offer_of cx v).socket.queued.queue

  kept : Keeps gone after w q
  kept = keeps_sent_offer cx v w p q k

  mine : IsOpen gone.tcb
  mine = open_still v.tcb gone.tcb out.sent may.own

  same_una : distance_of gone.tcb.sender.una w.tcb.receiver.next ≡ distance_of v.tcb.sender.una w.tcb.receiver.next
  same_una = ap (λ (n : SeqNumber). distance_of n w.tcb.receiver.next) out.sent.una

  same_left : left_of gone ≡ left_of v
  same_left =
      left_same v gone (record { state = out.sent.state; syn_unacked = out.sent.syn_unacked; queued = out.sent_queued })

  abbrev far : ℕ
  far = distance_of v.tcb.sender.una w.tcb.receiver.next

  l : LiesWithin v w k.side k.peer_side
  l = lies_within v w p q k may.own.synchronized may.theirs.synchronized step

  new_or_old : IsNew w o.segment (length bytes) ⊎ IsAgain w o.segment (length bytes)
  new_or_old =
      new_or_again v w p q k o.segment (length bytes) may.own.synchronized may.theirs.synchronized step goes.number may.some goes.ends may.room fits

  there : IsNearWindow w o.segment (length bytes)
  there = near new_or_old where
    near : IsNew w o.segment (length bytes) ⊎ IsAgain w o.segment (length bytes) → IsNearWindow w o.segment (length bytes)
    near (inl new) = inl (new_is_inside w o.segment (length bytes) new)
    near (inr again) = inr (again_lies_before w o.segment (length bytes) again)

  -- either way the peer knows of all that the side took, and has asked for nothing since
  pub heard_all : came.socket.tcb.sender.una ≡ v.tcb.receiver.next
  heard_all =
      same_number came.socket.tcb.sender.una v.tcb.receiver.next (una_rises cy w o.header o.segment bytes v.tcb.receiver.next counts there)

  pub heard_none : IsHeard came.socket.tcb.sender
  heard_none = none_unanswered cy w o.header o.segment bytes v.tcb.receiver.next counts there

  module _ (again : IsAgain w o.segment (length bytes)) (r : IsAnswered w came) (room_for : CanHear v w) where
    abbrev heard_back : TcpValue
    heard_back = (arrives cz gone r.reply.header r.reply.segment []).socket

    heard : TookWhatWasSent w gone
    heard = subst (λ (n : SeqNumber). distance_of w.tcb.sender.una n ≤ w.tcb.sender.snd_max) (sym out.sent.next) took_mine

    sent : TookWhatWasSent gone w
    sent =
        up_to (distance_of gone.tcb.sender.una w.tcb.receiver.next) v.tcb.sender.snd_max gone.tcb.sender.snd_max
        (subst (λ (n : ℕ). n ≤ v.tcb.sender.snd_max) (sym same_una) took_theirs) out.sent.snd_max

    some : 1 ≤ far
    some =
        enough far (segment_len o.segment (length bytes))
        (subst (λ (n : SeqNumber). segment_len o.segment (length bytes) ≤ distance_of n w.tcb.receiver.next) goes.number again.ends)
        may.some

    space : HasSpace gone w
    space =
        subst (λ (r : Received). (distance_of gone.tcb.receiver.next (snd_max w.tcb) ≡ 0) ⊎ (distance_of gone.tcb.receiver.next (snd_max w.tcb) < length r.map))
        (sym out.received)
        (subst (λ (n : SeqNumber). (distance_of n (snd_max w.tcb) ≡ 0) ⊎ (distance_of n (snd_max w.tcb) < free_in v)) (sym out.sent.next)
        (needed room_for))
      where
        needed : HasSpace v w ⊎ (w.tcb.receiver.next ≡ v.tcb.sender.una) → HasSpace v w
        needed (inl space) = space
        needed (inr known) =
            absurd
            (nothing far some
            (ap (λ (n : SeqNumber). distance_of v.tcb.sender.una n) known ∙ itself v.tcb.sender.una.0 (una_small v k.side a)))
          where
            nothing : (n : ℕ) → 1 ≤ n → n ≡ 0 → ⊥
            nothing n e f = absurd (omega arith)

            itself : (n : ℕ) → n < 2 ^ 32 → (n + (2 ^ 32 - n)) % 2 ^ 32 ≡ 0
            itself n e = omega arith

    inside : is_in_window gone.tcb (free_in gone) r.reply.segment 0 ≡ true
    inside =
        bare_lies_inside gone w after q kept r.reply.segment mine.synchronized may.theirs.synchronized heard space (r.bare ∙ r.same)
        (ap (λ (control : TcpControl). 0 + control_len control) r.plain)

    initial : arrives_stale gone.tcb r.reply.segment.options.timestamp ≡ false
    initial =
        ap (λ (peer : Peer). peer.timestamps && arrives_older r.reply.segment.options.timestamp peer.recent) out.sent.peer
        ∙ may.answer_initial r.reply r.answer

    answer_counts : Counts gone.tcb r.reply.segment w.tcb.receiver.next
    answer_counts =
        counts_for gone w after q kept r.reply.segment mine may.theirs.synchronized sent (ap is_syn r.plain) (ap is_rst r.plain) initial
        r.acknowledges

    told_none : IsHeard heard_back.tcb.sender
    told_none = none_unanswered cz gone r.reply.header r.reply.segment [] w.tcb.receiver.next answer_counts (inl inside)

    told : IsTold cx cz v w came
    told = record {
      reply = r.reply;
      answer = r.answer;
      una =
          moves_to v.tcb.sender.una heard_back.tcb.sender.una w.tcb.receiver.next (unacked v.tcb (queued_in v)) (una_small v k.side a)
          answer_counts.number_small
          caught some l.within l.few;
      all = same_number heard_back.tcb.sender.una w.tcb.receiver.next caught;
      had = some;
      left =
          ap (λ (n : ℕ). left_of heard_back + n) (sym same_una)
          ∙ (lowered cz gone r.reply.header r.reply.segment [] w.tcb.receiver.next answer_counts mine.acknowledged
          (subst (λ (n : ℕ). distance_of gone.tcb.sender.una w.tcb.receiver.next ≤ n) (sym same_left)
          (subst (λ (n : ℕ). n ≤ left_of v) (sym same_una) l.within)) (ap is_fin r.plain) inside
          ∙ same_left);
      still = r.next;
    }
      where
        caught : heard_back.tcb.sender.una.0 ≡ w.tcb.receiver.next.0
        caught = una_rises cz gone r.reply.header r.reply.segment [] w.tcb.receiver.next answer_counts (inl inside)

  -- WHAT IS NEW

  module _ (r : Rises cy w o.segment (length bytes) came) where
    -- the segment is the last that the side sent
    last : slice_get after.sent (length p.sent) ≡ Some (segment_of o.segment bytes)
    last =
        ap (λ (x : Option OpenOffer). slice_get (with_offer p x (offer_of cx v).socket.queued.queue).sent (length p.sent)) may.offered
        ∙ (ap (λ (queued : Ring ℕ). slice_get (with_offer p (Some o) queued.queue).sent (length p.sent)) out.queued
        ∙ last_of p.sent (segment_of o.segment bytes))

    taken : Keeps came.socket (with_answer q came.answer) gone after
    taken = keeps_arrival cy w gone q after o.header o.segment bytes (length p.sent) (keeps_turned gone w after q kept) last

    written : length after.written < 2 ^ 29
    written = subst (λ (p : Past). length p.written < 2 ^ 29) taken.peer_side_past taken.holds.1.well_formed.short

    waits : length came.socket.received.waiting ≤ length after.written
    waits =
        let safe = safe_sockets gone came.socket after (with_answer q came.answer) (keeps_turned came.socket gone (with_answer q came.answer) after taken) in
        within_stream (with_answer q came.answer).read came.socket.received.waiting safe.prefix.0 after.written safe.prefix.1

    is_taken : IsTaken cy w o.segment (length bytes) came
    is_taken = record {
      rises = r;
      next = record {
        by = r.by;
        some = r.some;
        few = far_below r.by (length came.socket.received.waiting) (length after.written) r.waits waits written;
        moved = r.next;
      };
    }

  -- it was new, and was taken
  pub record WasNew : Type 0 where
    pub new : IsNew w o.segment (length bytes)
    pub taken : IsTaken cy w o.segment (length bytes) came
    pub same : taken.rises.by ≡ taken.next.by

  was_new : IsNew w o.segment (length bytes) → WasNew
  unfolding is_taken
  was_new new = record { new = new; taken = is_taken (next_rises cy w o.header o.segment bytes v.tcb.receiver.next counts new); same = refl }

  -- WHAT IS NEW, AND ACKNOWLEDGED AT ONCE

  module _ (was : WasNew) (r : IsAcknowledged came) (took : TookWhatWasSent gone came.socket) where
    -- the side, once the answer has come
    abbrev told_side : TcpValue
    told_side = (arrives cz gone r.reply.header r.reply.segment []).socket

    abbrev next : SeqNumber
    next = came.socket.tcb.receiver.next

    -- so much lies between SND.UNA and all that the peer took
    abbrev reach : ℕ
    reach = distance_of v.tcb.sender.una next

    kept_there : Keeps gone after came.socket (with_answer q came.answer)
    kept_there = keeps_turned came.socket gone (with_answer q came.answer) after (taken was.taken.rises)

    theirs_on : is_synchronized came.socket.tcb.state ≡ true
    theirs_on = was.taken.rises.on

    here : IsPlaced gone kept_there.side
    here = placed gone kept_there.side kept_there.fits kept_there.holds.0.well_formed mine.synchronized

    there_now : IsPlaced came.socket kept_there.peer_side
    there_now = placed came.socket kept_there.peer_side kept_there.peer_side_fits kept_there.holds.1.well_formed theirs_on

    initial_answer : arrives_stale gone.tcb r.reply.segment.options.timestamp ≡ false
    initial_answer =
        ap (λ (peer : Peer). peer.timestamps && arrives_older r.reply.segment.options.timestamp peer.recent) out.sent.peer
        ∙ may.answer_initial r.reply r.answer

    answer_back : Counts gone.tcb r.reply.segment next
    answer_back =
        counts_for gone came.socket after (with_answer q came.answer) kept_there r.reply.segment mine theirs_on took (ap is_syn r.plain)
        (ap is_rst r.plain) initial_answer r.acknowledges

    -- the peer knows of all that the side took
    knows : TookWhatWasSent came.socket gone
    knows =
        subst (λ (n : SeqNumber). distance_of n gone.tcb.receiver.next ≤ came.socket.tcb.sender.snd_max) (sym (heard_all ∙ sym out.sent.next))
        (none gone.tcb.receiver.next.0 came.socket.tcb.sender.snd_max (next_small gone kept_there.side here))
      where
        none : (n snd_max : ℕ) → n < 2 ^ 32 → (n + (2 ^ 32 - n)) % 2 ^ 32 ≤ snd_max
        none n snd_max e = omega arith

    gone_una : distance_of gone.tcb.sender.una next ≡ reach
    gone_una = ap (λ (n : SeqNumber). distance_of n next) out.sent.una

    within_left : distance_of gone.tcb.sender.una next ≤ left_of gone
    within_left = up_to (distance_of gone.tcb.sender.una next) gone.tcb.sender.snd_max (left_of gone) took here.snd_max

    -- it is farther by what was taken
    farther : reach ≡ far + was.taken.next.by
    farther =
        ap (λ (n : SeqNumber). distance_of v.tcb.sender.una n) was.taken.next.moved
        ∙ by v.tcb.sender.una.0 w.tcb.receiver.next.0 was.taken.next.by (una_small v k.side a)
        (next_small w k.peer_side (placed w k.peer_side k.peer_side_fits k.holds.1.well_formed may.theirs.synchronized))
        (below far (left_of v) l.within l.few) was.taken.next.few
      where
        by : (una next more : ℕ) → una < 2 ^ 32 → next < 2 ^ 32 → (next + (2 ^ 32 - una)) % 2 ^ 32 < 2 ^ 30 → more < 2 ^ 30
            → ((next + more) % 2 ^ 32 + (2 ^ 32 - una)) % 2 ^ 32 ≡ (next + (2 ^ 32 - una)) % 2 ^ 32 + more
        by una next more a b c d = omega arith

        below : (far all : ℕ) → far ≤ all → all < 2 ^ 30 → far < 2 ^ 30
        below far all c d = omega arith

    some_reach : 1 ≤ reach
    some_reach = by reach far was.taken.next.by farther was.taken.next.some where
      by : (reach far more : ℕ) → reach ≡ far + more → 1 ≤ more → 1 ≤ reach
      by reach far more c d = omega arith

    had_less : far ≤ reach
    had_less = by reach far was.taken.next.by farther where
      by : (reach far more : ℕ) → reach ≡ far + more → far ≤ reach
      by reach far more c = omega arith

    -- The side hears of it.
    pub record IsHeardOf : Type 0 where
      pub una : MovesOn v.tcb.sender.una told_side.tcb.sender.una
      pub all : told_side.tcb.sender.una ≡ next
      pub had : 1 ≤ reach
      pub more : far ≤ reach
      pub left : left_of told_side + reach ≡ left_of v
      pub answered : IsHeard told_side.tcb.sender

    heard_of : is_in_window gone.tcb (free_in gone) r.reply.segment 0 ≡ true → IsHeardOf
    heard_of inside = record {
      una =
          moves_to v.tcb.sender.una told_side.tcb.sender.una next (left_of v) (una_small v k.side a)
          answer_back.number_small
          caught some_reach (subst (λ (n : ℕ). n ≤ left_of v) gone_una (subst (λ (n : ℕ). distance_of gone.tcb.sender.una next ≤ n) same_left within_left))
          l.few;
      all = same_number told_side.tcb.sender.una next caught;
      had = some_reach;
      more = had_less;
      left =
          ap (λ (n : ℕ). left_of told_side + n) (sym gone_una)
          ∙ (lowered cz gone r.reply.header r.reply.segment [] next answer_back mine.acknowledged within_left (ap is_fin r.plain) inside
          ∙ same_left);
      answered = none_unanswered cz gone r.reply.header r.reply.segment [] next answer_back (inl inside);
    }
      where
        caught : told_side.tcb.sender.una.0 ≡ next.0
        caught = una_rises cz gone r.reply.header r.reply.segment [] next answer_back (inl inside)

    -- It lies past the window of the side, which stays as its offer left it.
    pub record IsUnheard : Type 0 where
      pub una : told_side.tcb.sender.una ≡ v.tcb.sender.una
      pub left : left_of told_side ≡ left_of v
      pub state : told_side.tcb.state ≡ v.tcb.state

    unheard : is_in_window gone.tcb (free_in gone) r.reply.segment 0 ≡ false → IsUnheard
    unheard outside = record {
      una = ap (λ (s : Sender). s.una) still.0 ∙ out.sent.una;
      left =
          left_same gone told_side
          (record { state = still.1; syn_unacked = ap (λ (s : Sender). s.syn_unacked) still.0; queued = still.2 })
          ∙ same_left;
      state = still.1 ∙ out.sent.state;
    }
      where
        ahead : distance_of gone.tcb.receiver.next (snd_max came.socket.tcb) < 2 ^ 31
        ahead =
            past_next came.socket.tcb.sender.una.0 gone.tcb.receiver.next.0 came.socket.tcb.sender.snd_max (una_small came.socket kept_there.peer_side there_now)
            (next_small gone kept_there.side here) knows
            (few came.socket.tcb.sender.snd_max (unacked came.socket.tcb (queued_in came.socket)) there_now.snd_max there_now.few)
          where
            few : (snd_max all : ℕ) → snd_max ≤ all → all < 2 ^ 30 → snd_max < 2 ^ 30
            few snd_max all c d = omega arith

        past : distance_before gone.tcb.receiver.next r.reply.segment.seq_number ≡ 0
        past =
            ap (λ (n : SeqNumber). distance_before gone.tcb.receiver.next n) r.bare
            ∙ ap (λ (t : Bool). if t then 0 else 2 ^ 32 - distance_of gone.tcb.receiver.next (snd_max came.socket.tcb))
            (lt-ltb (distance_of gone.tcb.receiver.next (snd_max came.socket.tcb)) (2 ^ 31) ahead)

        still : Still gone (arrives cz gone r.reply.header r.reply.segment [])
        still = past_still cz gone r.reply.header r.reply.segment [] next answer_back outside past

    pub heard_or_not : IsHeardOf ⊎ IsUnheard
    heard_or_not = by (is_in_window gone.tcb (free_in gone) r.reply.segment 0) refl where
      by : (inside : Bool) → is_in_window gone.tcb (free_in gone) r.reply.segment 0 ≡ inside → IsHeardOf ⊎ IsUnheard
      by true e = inl (heard_of e)
      by false e = inr (unheard e)

    -- it is heard where the peer has sent all that it had
    pub heard_then : left_of came.socket ≡ 0 → IsHeardOf
    heard_then none = heard_of inside where
      least : (snd_max all : ℕ) → snd_max ≤ all → all ≡ 0 → snd_max ≡ 0
      least snd_max all e f = omega arith

      at_next : (n snd_max : ℕ) → n < 2 ^ 32 → snd_max ≡ 0 → ((n + snd_max) % 2 ^ 32 + (2 ^ 32 - n)) % 2 ^ 32 ≡ 0
      at_next n snd_max e f = omega arith

      space : HasSpace gone came.socket
      space =
          inl
          (ap (λ (n : SeqNumber). distance_of gone.tcb.receiver.next (advanced_by n came.socket.tcb.sender.snd_max)) (heard_all ∙ sym out.sent.next)
          ∙ at_next gone.tcb.receiver.next.0 came.socket.tcb.sender.snd_max (next_small gone kept_there.side here)
          (least came.socket.tcb.sender.snd_max (left_of came.socket) there_now.snd_max none))

      inside : is_in_window gone.tcb (free_in gone) r.reply.segment 0 ≡ true
      inside =
          bare_lies_inside gone came.socket after (with_answer q came.answer) kept_there r.reply.segment mine.synchronized theirs_on knows space r.bare
          (ap (λ (control : TcpControl). 0 + control_len control) r.plain)

  -- whether or not the side hears of it
  pub outcome : WasNew ⊎ (IsPassed w o.segment (length bytes) came ⊎ EndsLastAck w came)
  outcome = by new_or_old where
    answered : IsAgain w o.segment (length bytes) → EndsLastAck w came ⊎ IsAnswered w came →
        WasNew ⊎ (IsPassed w o.segment (length bytes) came ⊎ EndsLastAck w came)
    answered again (inl ends) = inr (inr ends)
    answered again (inr r) = inr (inl (record { again = again; answer = r }))

    by : IsNew w o.segment (length bytes) ⊎ IsAgain w o.segment (length bytes) →
        WasNew ⊎ (IsPassed w o.segment (length bytes) came ⊎ EndsLastAck w came)
    by (inl new) = inl (was_new new)
    by (inr again) = answered again (again_answered cy w o.header o.segment bytes v.tcb.receiver.next counts again)

  pub told_of : CanHear v w → IsPassed w o.segment (length bytes) came → IsTold cx cz v w came
  told_of space passed = told passed.again passed.answer space

  -- and then nothing is unanswered
  pub answered_none : CanHear v w → (passed : IsPassed w o.segment (length bytes) came) →
      IsHeard (arrives cz gone passed.answer.reply.header passed.answer.reply.segment []).socket.tcb.sender
  answered_none space passed = told_none passed.again passed.answer space

pub proceeds :
    (cx cy cz : ContextValue) (v w : TcpValue) (p q : Past) (k : Keeps v p w q) (o : OpenOffer) → IsInStep k.side k.peer_side → TookWhatWasSent v w
    → FitsBuffer v w → TookWhatWasSent w v → MayExchange cx cy v w o → HasMoved cx cy cz v w o
proceeds cx cy cz v w p q k o step sent fits heard may = by (outcome cx cy cz v w p q k o step sent fits heard reach) where
  reach : MayReach cx cy v w o
  reach = reach_of cx cy v w o may

  by :
      WasNew cx cy cz v w p q k o step sent fits heard reach
      ⊎ (IsPassed w o.segment (length (data_of v o)) (offer_arrives cy w v o) ⊎ EndsLastAck w (offer_arrives cy w v o))
      → HasMoved cx cy cz v w o
  by (inl it) = inl it.taken
  by (inr (inl passed)) = inr (inl (told_of cx cy cz v w p q k o step sent fits heard reach may.space passed))
  by (inr (inr ends)) = inr (inr ends)
