-- Payload that comes late counts, unless SND.UNA or RCV.NXT has risen since it went.
use Rattle.std.proofs.Common.{◌≡◌, ◌⊎◌, inl, inr, ℕ, suc, ◌+◌, ◌-◌, ◌%◌, ◌^◌, ◌<◌, ◌≤◌, ◌==◌, nat_lt, Bool, true, false}
use Rattle.std.proofs.Common.{[], ◌∷◌, length, Option, None, refl, sym, ap, ◌∙◌, subst, arith}
use Rattle.std.proofs.lemmas.Bool.{eqb-true, ltb-false, ltb-true}
use Rattle.std.proofs.lemmas.Option.{slice_get_within}
use Rattle.ip_wire.specs.Seq.{distance_of}
use Rattle.ip_wire.specs.SeqNumber.{SeqNumber}
use Rattle.tcp_theory.specs.Invariant.{IsInStep}
use Rattle.tcp_theory.specs.Side.{rcv_next, send_end, one_if as one_in}
use Rattle.tcp_refinement.specs.Context.{ContextValue}
use Rattle.tcp_refinement.specs.Tie.{IsConnectedAs, Keeps, Past, core_of, is_finished_in, unsent}
use Rattle.tcp_invariants.specs.Reply.{Reply}
use Rattle.tcp_invariants.specs.State.{State}
use Rattle.tcp_invariants.specs.State.TheVariants as In
use Rattle.tcp_invariants.specs.States.{is_closed, accepts_data}
use Rattle.tcp_invariants.proofs.OrderSteps.{clash}
use Rattle.tcp_block.specs.Answers.{may_challenge}
use Rattle.tcp_block.specs.Arrival.{arrives}
use Rattle.tcp_block.specs.TcbRules.{one_if, snd_max as end_of}
use Rattle.tcp_block.specs.Segments.{segment_len}
use Rattle.tcp_refinement.specs.Pair.Sides.{at, other}
use Rattle.tcp_refinement.specs.Pair.Steps.{refusal, taken_at}
use Rattle.tcp_block.specs.Value.{TcpValue, Arrived, free_in, room_of}
use Rattle.tcp_refinement.specs.Pair.Values.{PairSide, PairValue, and_reply, context_at, past_at}
use Rattle.tcp_refinement.specs.declared.pair.event.PairEvent.TheVariants.{Deliver}
use Rattle.tcp_refinement.specs.declared.pair.event.SentSegment.{SentSegment}
use Rattle.tcp_refinement.specs.declared.pair.event.Side.{Side}
use Rattle.tcp_refinement.specs.declared.pair.event.Side.TheVariants.{A, B}
use Rattle.tcp_liveness.specs.Arrivals.{Counts, EndsLastAck, IsAnswered, IsShutOut, Rises, is_synchronized}
use Rattle.tcp_liveness.specs.BothWays.{AreThere, total_in}
use Rattle.tcp_liveness.specs.Exchange.{IsOpen, left_of}
use Rattle.tcp_liveness.specs.DelayedSegment.{CountsIn, EndsIn, GoesFrom, IsAnsweredIn, IsTakenIn, MayCome, come_in}
use Rattle.tcp_liveness.specs.Onward.{AreOpen, HasRisen, Lasts, acked_in}
use Rattle.tcp_liveness.specs.Pair.{HasStream, left_in, socket_of}
use Rattle.tcp_liveness.specs.Positions.{LiesWithin}
use Rattle.tcp_liveness.specs.Reached.{IsReached}
use Rattle.tcp_liveness.specs.Sent.{taken_in}
use Rattle.tcp_liveness.proofs.Closes.{closes_last}
use Rattle.tcp_liveness.proofs.Kept.{reached_by, reached_keeps}
use Rattle.tcp_liveness.proofs.LateAnswers.{delivered}
use Rattle.tcp_liveness.proofs.Led.{within}
use Rattle.tcp_liveness.proofs.Onward.{positive}
use Rattle.tcp_liveness.proofs.OnwardPairs.{MovesIn, connected, moves_on}
use Rattle.tcp_liveness.proofs.Opened.{is_open}
use Rattle.tcp_liveness.proofs.Pair.{in_step, late_in, not_closed}
use Rattle.tcp_liveness.proofs.Positions.{IsPlaced, lies_within, next_small, placed, same_one, una_small, whole_taken}
use Rattle.tcp_liveness.proofs.SentPairs.{TookEach, reached_took}
use Rattle.tcp_liveness.proofs.Settles.{few_wait}
use Rattle.tcp_liveness.proofs.Taken.{again_answered, next_rises, shut_answered}
use Rattle.tcp_liveness.proofs.WindowPairs.{near_in}

pub open_of : (p : PairValue) (side : Side) → AreOpen p → IsOpen (socket_of p side).tcb
open_of p A o = o.0
open_of p B o = o.1

pub there_of : (p : PairValue) (side : Side) → AreThere p → is_synchronized (socket_of p side).tcb.state ≡ true
there_of p A t = t.0
there_of p B t = t.1

-- no more is unacknowledged than was written, where the SYN is acknowledged
pub left_within : (p : PairValue) (side : Side) → IsReached p → IsOpen (socket_of p side).tcb → left_in p side ≤ total_in p side
left_within p side r opened =
    subst (λ (x : Past). left_in p side ≤ length x.written + one_if x.closed) k.past
    (by k.side.iss k.side.una (left_in p side) (length k.side.written) (one_in k.side.closed) (sym (ap one_in opened.acknowledged) ∙ f.syn) a.end
    (same_one k.side.closed))
  where
    v : TcpValue
    v = socket_of p side

    k : Keeps v (past_at p side) (socket_of p (other side)) (past_at p (other side))
    k = reached_keeps p side r

    f : IsConnectedAs (core_of v) (unsent k.side)
    f = connected p side r opened.synchronized

    a : IsPlaced v k.side
    a = placed v k.side k.fits k.holds.0.well_formed opened.synchronized

    by :
        (iss una left written closed : ℕ) {fin : ℕ} → 0 ≡ suc iss - una → una + left ≡ suc iss + written + closed → closed ≡ fin
        → left ≤ written + fin
    by iss una left written closed d e g = omega arith

-- what has risen since some events has risen since before them
pub risen_since : (p m q : PairValue) (of : Side) → MovesIn p m of → HasRisen m q of → HasRisen p q of
risen_since p m q of to (inl e) = inl (more (total_in p of) (left_in p of) (total_in m of) (left_in m of) (acked_in q of) to.acked e) where
  more : (a b c d e : ℕ) → a + d ≤ c + b → c - d < e → a - b < e
  more a b c d e x y = omega arith
risen_since p m q of to (inr e) = inr (more (taken_in p of) (taken_in m of) (taken_in q of) to.taken e) where
  more : (a b c : ℕ) → a ≤ b → b < c → a < c
  more a b c x y = omega arith

-- a side that owes something keeps its stream: what isn't acknowledged was written
pub stream_since :
    (p m : PairValue) (side : Side) → IsReached p → IsOpen (socket_of p side).tcb → 1 ≤ left_in p side → MovesIn p m side
    → HasStream (past_at p side) → HasStream (past_at m side)
stream_since p m side r opened owes to stream =
    inr (more (length (past_at p side).written) (length (past_at m side).written) (wrote stream) to.written)
  where
    more : (a b : ℕ) → 1 ≤ a → a ≤ b → 1 ≤ b
    more a b e f = omega arith

    some : (written : ℕ) {fin left : ℕ} → fin ≡ 0 → left ≤ written + fin → 1 ≤ left → 1 ≤ written
    some written e f g = omega arith

    wrote : HasStream (past_at p side) → 1 ≤ length (past_at p side).written
    wrote (inl unclosed) = some (length (past_at p side).written) (ap one_if unclosed) (left_within p side r opened) owes
    wrote (inr some) = some

-- a connection that takes no payload took the FIN
finished_in : (state : State) → is_synchronized state ≡ true → accepts_data state ≡ false → is_finished_in state ≡ true
finished_in In.Closed there e = clash (sym there)
finished_in In.Listen there e = clash (sym there)
finished_in In.SynSent there e = clash (sym there)
finished_in In.SynReceived there e = clash (sym there)
finished_in In.Established there e = clash e
finished_in In.FinWait1 there e = clash e
finished_in In.FinWait2 there e = clash e
finished_in other there e = refl

module _ (p q : PairValue) (side : Side) (n : ℕ) (x : SentSegment) (r : IsReached p) (l : Lasts p q) (stream : HasStream (past_at p side))
    (room : 1 ≤ room_of (socket_of p (other side)).received) (g : GoesFrom p side x) (c : MayCome q side n x) where
  abbrev pub v : TcpValue
  v = socket_of p side

  -- the other, when the segment went, and when it comes
  abbrev pub w : TcpValue
  w = socket_of p (other side)

  abbrev pub now : TcpValue
  now = socket_of q (other side)

  abbrev pub len : ℕ
  len = segment_len x.segment (length x.bytes)

  own : IsOpen v.tcb
  own = open_of p side l.before

  theirs : IsOpen w.tcb
  theirs = open_of p (other side) l.before

  rq : IsReached q
  rq = reached_by p q l.events r l.steps

  moves : (of : Side) → MovesIn p q of
  moves of = moves_on p q l.events of r l.before l.steps

  there : is_synchronized now.tcb.state ≡ true
  there = there_of q (other side) l.after

  alive : is_closed now.tcb.state ≡ false
  alive = not_closed now.tcb.state there

  open_now : (of : Side) → IsOpen (socket_of q of).tcb
  open_now of = is_open q of rq (there_of q of l.after) ((moves of).syn (open_of p of l.before).acknowledged)

  k : Keeps v (past_at p side) w (past_at p (other side))
  k = reached_keeps p side r

  step : IsInStep k.side k.peer_side
  step = in_step v w (past_at p side) (past_at p (other side)) k own.synchronized stream

  a : IsPlaced v k.side
  a = placed v k.side k.fits k.holds.0.well_formed own.synchronized

  b : IsPlaced w k.peer_side
  b = placed w k.peer_side k.peer_side_fits k.holds.1.well_formed theirs.synchronized

  lies : LiesWithin v w k.side k.peer_side
  lies = lies_within v w (past_at p side) (past_at p (other side)) k own.synchronized theirs.synchronized step

  took : TookEach p side
  took = reached_took p side r own theirs

  kq : Keeps now (past_at q (other side)) (socket_of q (other (other side))) (past_at q (other (other side)))
  kq = reached_keeps q (other side) rq

  placed_now : IsPlaced now kq.side
  placed_now = placed now kq.side kq.fits kq.holds.0.well_formed there

  -- how much the other had of what isn't acknowledged
  abbrev pub had : ℕ
  had = distance_of v.tcb.sender.una w.tcb.receiver.next

  -- which is less than half of the circle of numbers
  pub few_had : distance_of (socket_of p side).tcb.sender.una (socket_of p (other side)).tcb.receiver.next < 2 ^ 31
  few_had = half had (left_in p side) lies.within lies.few where
    half : (a b : ℕ) → a ≤ b → b < 2 ^ 30 → a < 2 ^ 31
    half a b d e = omega arith

  -- all of it was taken before, and is answered
  pub record Told : Type 0 where
    pub answered : IsAnsweredIn q side n
    pub whole : len ≤ had
    pub next : now.tcb.receiver.next ≡ w.tcb.receiver.next

  -- the window is closed
  pub record Shut : Type 0 where
    pub none : free_in now ≡ 0
    pub counts : CountsIn q side n

  abbrev pub Outcome : Type 0
  Outcome = HasRisen p q (other side) ⊎ (IsTakenIn q side n ⊎ (Told ⊎ (Shut ⊎ EndsIn q side n)))

  -- where some of it is new to the other, it takes payload
  takes_more : had < len → accepts_data w.tcb.state ≡ true
  takes_more less = by (accepts_data w.tcb.state) refl where
    by : (test : Bool) → accepts_data w.tcb.state ≡ test → accepts_data w.tcb.state ≡ true
    by true e = e
    by false e =
        let finished : k.peer_side.took_fin ≡ true = b.finished ∙ finished_in w.tcb.state theirs.synchronized e in
        absurd
        (no_more k.side.una had (rcv_next k.peer_side) (left_in p side) (send_end k.side) len lies.position
        (whole_taken k.side k.peer_side k.holds.0 finished) a.end g.ends less)
      where
        no_more : (una far next all end len : ℕ) → una + far ≡ next → next ≡ end → una + all ≡ end → len ≤ all → far < len → ⊥
        no_more una far next all end len d e f g h = absurd (omega arith)

  -- NEITHER HAS RISEN

  module _ (una : now.tcb.sender.una ≡ w.tcb.sender.una) (snd_max : w.tcb.sender.snd_max ≤ now.tcb.sender.snd_max)
      (next : now.tcb.receiver.next ≡ w.tcb.receiver.next) where
    distance : distance_of x.segment.seq_number now.tcb.receiver.next ≡ had
    distance =
        ap (λ (m : SeqNumber). distance_of m now.tcb.receiver.next) g.number
        ∙ ap (λ (m : SeqNumber). distance_of v.tcb.sender.una m) next

    begins : distance_of x.segment.seq_number now.tcb.receiver.next < 2 ^ 31
    begins = half had (left_in p side) distance lies.within lies.few where
      half : (far all : ℕ) {near : ℕ} → near ≡ far → far ≤ all → all < 2 ^ 30 → near < 2 ^ 31
      half far all d e f = omega arith

    seq_small : x.segment.seq_number.0 < 2 ^ 32
    seq_small = subst (λ (m : SeqNumber). m.0 < 2 ^ 32) (sym g.number) (una_small v k.side a)

    counts : Counts now.tcb x.segment v.tcb.receiver.next
    counts = record {
      synchronized = there;
      opened = (open_now (other side)).opened;
      no_syn = g.no_syn;
      no_reset = g.no_reset;
      initial = c.initial;
      acknowledges = g.acknowledges;
      sent =
          reach w.tcb.sender.snd_max (ap (λ (m : SeqNumber). distance_of m v.tcb.receiver.next) una) took.heard snd_max;
      few = few now.tcb.sender.snd_max (left_of now) placed_now.snd_max placed_now.few;
      number_small = next_small v k.side a;
      una_small = una_small now kq.side placed_now;
    }
      where
        reach : (snd_max : ℕ) {far old new : ℕ} → far ≡ old → old ≤ snd_max → snd_max ≤ new → far ≤ new
        reach snd_max e f h = omega arith

        few : (snd_max all : ℕ) → snd_max ≤ all → all < 2 ^ 30 → snd_max < 2 ^ 31
        few snd_max all e f = omega arith

    abbrev cx : ContextValue
    cx = context_at (other side) (at q.sides (other side))

    abbrev came : Arrived
    came = arrives cx now x.header x.segment x.bytes

    comes : at (come_in q side n).sides (other side) ≡ taken_at (at q.sides (other side)) came
    comes = delivered q side n x rq (there_of q side l.after) there c.sent

    taken_there : refusal q (Deliver side n) ≡ None
    taken_there = within n (length (at q.sides side).sent) (slice_get_within (at q.sides side).sent n x c.sent)

    rs : IsReached (come_in q side n)
    rs = reached_by q (come_in q side n) (Deliver side n ∷ []) rq (taken_there, refl)

    -- it is new, and the other has room
    rises : accepts_data now.tcb.state ≡ true → Rises cx now x.segment (length x.bytes) came → IsTakenIn q side n
    rises takes it = by (onward.next still) where
      onward : MovesIn q (come_in q side n) (other side)
      onward = moves_on q (come_in q side n) (Deliver side n ∷ []) (other side) rq (open_now A, open_now B) (taken_there, refl)

      socket : socket_of (come_in q side n) (other side) ≡ came.socket
      socket = ap (λ (s : PairSide). s.socket) comes

      not_last : accepts_data In.LastAck ≡ true → is_closed came.socket.tcb.state ≡ false
      not_last e = clash (sym e)

      still_there : (test : Bool) → is_closed came.socket.tcb.state ≡ test → is_closed came.socket.tcb.state ≡ false
      still_there true closed =
          let last = closes_last cx x.header x.segment x.bytes now (late_in now.tcb.state there) alive g.no_reset closed in
          not_last (ap accepts_data (sym last.0) ∙ takes)
      still_there false e = e

      still : is_closed (socket_of (come_in q side n) (other side)).tcb.state ≡ false
      still = ap (λ (u : TcpValue). is_closed u.tcb.state) socket ∙ still_there (is_closed came.socket.tcb.state) refl

      few : it.by ≤ 2 ^ 30 + 1
      few =
          more (length came.socket.received.waiting) it.waits
          (subst (λ (u : TcpValue). length u.received.waiting ≤ 2 ^ 30) socket (few_wait (come_in q side n) side rs))
        where
          more : (a : ℕ) {b : ℕ} → b ≤ a + 1 → a ≤ 2 ^ 30 → b ≤ 2 ^ 30 + 1
          more a e f = omega arith

      moved : (next by : ℕ) → 1 ≤ by → by ≤ 2 ^ 30 + 1 → (next + by) % 2 ^ 32 ≡ next → ⊥
      moved next by e f h = absurd (omega arith)

      by :
          (socket_of (come_in q side n) (other side)).tcb.receiver.next ≡ now.tcb.receiver.next
          ⊎ (taken_in q (other side) < taken_in (come_in q side n) (other side))
          → taken_in q (other side) < taken_in (come_in q side n) (other side)
      by (inl same) =
          absurd
          (moved now.tcb.receiver.next.0 it.by it.some few
          (ap (λ (m : SeqNumber). m.0) (sym it.next ∙ (sym (ap (λ (u : TcpValue). u.tcb.receiver.next) socket) ∙ same))))
      by (inr more) = more

    answers : IsAnswered now came → IsAnsweredIn q side n
    answers it =
        record {
          answer = record { header = it.reply.header; segment = it.reply.segment; bytes = [] };
          sent =
              ap (λ (s : PairSide). s.sent) comes
              ∙ (drawn came.draws ∙ ap (λ (reply : Option Reply). and_reply (at q.sides (other side)).sent reply) it.answer);
          acknowledges = it.acknowledges;
          plain = it.plain;
          bare = it.bare ∙ ap (λ (s : PairSide). end_of s.socket.tcb) (sym comes);
        }
      where
        drawn : (draws : Bool) → (taken_at (at q.sides (other side)) (record came { draws = draws })).sent ≡
            and_reply (at q.sides (other side)).sent came.answer
        drawn draws = refl

    ends : EndsLastAck now came → EndsIn q side n
    ends it = (it.last, ap (λ (s : PairSide). is_closed s.socket.tcb.state) comes ∙ it.closed)

    -- the window is closed
    shut : free_in now ≡ 0 → had < len → Shut
    shut none less = by (may_challenge (at q.sides (other side)).instant now.tcb.timers.challenges_from) refl where
      out : IsShutOut now x.segment (length x.bytes)
      out = record {
        shut = none;
        begins = begins;
        ends = subst (λ (m : ℕ). m < len) (sym distance) less;
        seq_small = seq_small;
        next_small = next_small now kq.side placed_now;
      }

      by : (may : Bool) → may_challenge (at q.sides (other side)).instant now.tcb.timers.challenges_from ≡ may → Shut
      by true e =
          record {
            none = none;
            counts = inr (inl (answers (shut_answered cx now x.header x.segment x.bytes v.tcb.receiver.next counts out e)));
          }
      by false e = record { none = none; counts = inr (inr (inl (none, e))) }

    new : accepts_data now.tcb.state ≡ true → had < len → (test : Bool) → (free_in now == 0) ≡ test → IsTakenIn q side n ⊎ Shut
    new takes less true e = inr (shut (eqb-true (free_in now) 0 e) less)
    new takes less false e =
        inl
        (rises takes
        (next_rises cx now x.header x.segment x.bytes v.tcb.receiver.next counts
        (record {
          takes = takes;
          room = positive (free_in now) e;
          begins = begins;
          ends = subst (λ (m : ℕ). m < len) (sym distance) less;
          seq_small = seq_small;
          next_small = next_small now kq.side placed_now;
        })))

    again : len ≤ had → Told ⊎ EndsIn q side n
    again all =
        either
        (again_answered cx now x.header x.segment x.bytes v.tcb.receiver.next counts
        (record {
          some = g.some;
          begins = begins;
          ends = subst (λ (m : ℕ). len ≤ m) (sym distance) all;
          near =
              near_by (room_of w.received) (near_in p side r own theirs.synchronized room) distance (moves (other side)).room;
          seq_small = seq_small;
          next_small = next_small now kq.side placed_now;
        }))
      where
        either : EndsLastAck now came ⊎ IsAnswered now came → Told ⊎ EndsIn q side n
        either (inl it) = inr (ends it)
        either (inr it) = inl (record { answered = answers it; whole = all; next = next })

        near_by : (old : ℕ) {far near new : ℕ} → far ≤ old + 2 → near ≡ far → new ≡ old → near ≤ new + 2
        near_by old e f h = omega arith

  -- EITHER WAY

  risen_una : total_in p (other side) + left_in q (other side) < total_in q (other side) + left_in p (other side) → HasRisen p q (other side)
  risen_una e =
      inl
      (more (total_in p (other side)) (left_in q (other side)) (total_in q (other side)) (left_in p (other side)) e
      (left_within p (other side) r theirs))
    where
      more : (a b c d : ℕ) → a + b < c + d → d ≤ a → a - d < c - b
      more a b c d e f = omega arith

  pub outcome : Outcome
  outcome = by ((moves (other side)).una alive) ((moves (other side)).next alive) where
    where_payload :
        (una : now.tcb.sender.una ≡ w.tcb.sender.una) → w.tcb.sender.snd_max ≤ now.tcb.sender.snd_max → now.tcb.receiver.next ≡ w.tcb.receiver.next
        → (less : Bool) → nat_lt had len ≡ less → Outcome
    where_payload una snd_max next true e = taking ((moves (other side)).takes alive (takes_more (ltb-true had len e))) where
      either : IsTakenIn q side n ⊎ Shut → Outcome
      either (inl it) = inr (inl it)
      either (inr it) = inr (inr (inr (inl it)))

      taking : (accepts_data now.tcb.state ≡ true) ⊎ (taken_in p (other side) < taken_in q (other side)) → Outcome
      taking (inl takes) = either (new una snd_max next takes (ltb-true had len e) (free_in now == 0) refl)
      taking (inr more) = inl (inr more)
    where_payload una snd_max next false e = either (again una snd_max next (ltb-false had len e)) where
      either : Told ⊎ EndsIn q side n → Outcome
      either (inl it) = inr (inr (inl it))
      either (inr it) = inr (inr (inr (inr it)))

    by :
        ((now.tcb.sender.una ≡ w.tcb.sender.una) × (w.tcb.sender.snd_max ≤ now.tcb.sender.snd_max))
        ⊎ (total_in p (other side) + left_in q (other side) < total_in q (other side) + left_in p (other side))
        → (now.tcb.receiver.next ≡ w.tcb.receiver.next) ⊎ (taken_in p (other side) < taken_in q (other side)) → Outcome
    by (inr risen) next = inl (risen_una risen)
    by (inl una) (inr risen) = inl (inr risen)
    by (inl una) (inl next) = where_payload una.0 una.1 next (nat_lt had len) refl

  pub late_payload : HasRisen p q (other side) ⊎ CountsIn q side n
  late_payload = by outcome where
    by : Outcome → HasRisen p q (other side) ⊎ CountsIn q side n
    by (inl risen) = inl risen
    by (inr (inl taken)) = inr (inl taken)
    by (inr (inr (inl told))) = inr (inr (inl told.answered))
    by (inr (inr (inr (inl shut)))) = inr shut.counts
    by (inr (inr (inr (inr ends)))) = inr (inr (inr (inr ends)))
