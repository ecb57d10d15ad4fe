-- In a course in which each segment comes in time, an exchange takes no longer than its two segments.
use Rattle.std.proofs.Common.{◌≡◌, ◌⊎◌, inl, inr, ℕ, zero, suc, ◌+◌, ◌-◌, ◌^◌, ◌<◌, ◌≤◌, ℤ, pos, ◌+ℤ◌, ◌≤ℤ◌, ◌<ℤ◌, max, Bool, true, false, List, [], ◌∷◌, ◌++◌}
use Rattle.std.proofs.Common.{length, Option, Some, None, Result, Ok, Err, slice_get, refl, sym, ap, ◌∙◌, subst, arith, length-append}
use Rattle.std.proofs.lemmas.Bool.{cond_both}
use Rattle.std.proofs.lemmas.Int.{ints}
use Rattle.std.proofs.lemmas.Option.{slice_get_past}
use Rattle.ip_wire.specs.Control.{control_len}
use Rattle.ip_wire.specs.Seq.{distance_of}
use Rattle.ip_wire.specs.SeqNumber.{SeqNumber}
use Rattle.ip_wire.specs.TcpControl.{TcpControl}
use Rattle.ip_wire.specs.TcpHeader.{TcpHeader}
use Rattle.tcp_invariants.specs.Controls.{is_rst, is_syn}
use Rattle.tcp_invariants.specs.Offsets.{distance_after}
use Rattle.tcp_invariants.specs.OpenOffer.{OpenOffer}
use Rattle.tcp_invariants.specs.RecvError.{RecvError}
use Rattle.tcp_invariants.specs.Reply.{Reply}
use Rattle.tcp_invariants.specs.States.{is_closed}
use Rattle.tcp_invariants.proofs.OrderSteps.{clash}
use Rattle.tcp_block.specs.Arrival.{arrives}
use Rattle.tcp_block.specs.Calls.{recv_answer}
use Rattle.tcp_refinement.specs.Pair.History.{side_of}
use Rattle.tcp_block.specs.Names.{accepts}
use Rattle.tcp_block.specs.Offers.{offer_of}
use Rattle.tcp_block.specs.Segments.{segment_len}
use Rattle.tcp_refinement.specs.Pair.Sides.{Both, at, other, put}
use Rattle.tcp_refinement.specs.Pair.Steps.{Steps, acting, acts, handed, reads, refusal, taken_at}
use Rattle.tcp_block.specs.Value.{free_in, room_of}
use Rattle.tcp_refinement.specs.Pair.Values.{PairSide, PairValue, and_offer, and_reply, context_at, past_at}
use Rattle.tcp_refinement.specs.declared.pair.event.PairEvent.{PairEvent}
use Rattle.tcp_refinement.specs.declared.pair.event.PairEvent.TheVariants.{Listen, Connect, Send, Recv, Close, Abort, TcpSetting, Clock, Offer, Deliver}
use Rattle.tcp_refinement.specs.declared.pair.event.SentSegment.{SentSegment}
use Rattle.tcp_refinement.specs.declared.pair.event.Side.{Side}
use Rattle.tcp_refinement.specs.declared.pair.event.Side.TheVariants.{A, B}
use Rattle.tcp_liveness.specs.BothWays.{AreThere, total_in}
use Rattle.tcp_liveness.specs.Arrivals.{is_synchronized}
use Rattle.tcp_liveness.specs.Clocks.{arrives_stale}
use Rattle.tcp_liveness.specs.Course.{AreEqual, ComesAs, DeliversWithin, IsClocked, IsHeard, IsHeardBy, IsHeardWith, IsShutAmong, end_of, events_of}
use Rattle.tcp_liveness.specs.Exchange.{IsOpen}
use Rattle.tcp_liveness.specs.DelayedSegment.{GoesFrom, ProceedsIn, IsAnsweredIn, IsTakenIn, MayCome, MayHear, come_in, heard_in}
use Rattle.tcp_liveness.specs.Onward.{AreOpen, HasRisen, Lasts, acked_in}
use Rattle.tcp_liveness.specs.Pair.{HasStream, left_in, next_sent, socket_of}
use Rattle.tcp_liveness.specs.Reached.{IsReached}
use Rattle.tcp_liveness.specs.Rounds.{takes}
use Rattle.tcp_liveness.specs.Sent.{taken_in}
use Rattle.tcp_liveness.proofs.CourseInstants.{later, more_time, not_both}
use Rattle.tcp_liveness.proofs.Exchange.{last_of}
use Rattle.tcp_liveness.proofs.Inside.{in_window, snd_max_ahead}
use Rattle.tcp_liveness.proofs.Kept.{reached_by}
use Rattle.tcp_liveness.proofs.LateExchange.{TakesTimeAs, equals_itself, proceeds_as}
use Rattle.tcp_liveness.proofs.LatePayload.{Outcome, open_of, outcome, there_of}
use Rattle.tcp_liveness.proofs.Opened.{is_open}
use Rattle.tcp_liveness.proofs.OnwardPairs.{IsBegun, MovesIn, begun, begun_after, by_steps, then_moves}
use Rattle.tcp_liveness.proofs.Pair.{not_closed}
use Rattle.tcp_liveness.proofs.Turns.{late_on}

-- WHAT WAS SENT STAYS SENT

abbrev pub Keeps : List SentSegment → List SentSegment → Type 0
Keeps old new = (k : ℕ) (x : SentSegment) → slice_get old k ≡ Some x → slice_get new k ≡ Some x

with_more : (xs more : List SentSegment) → Keeps xs (xs ++ more)
with_more [] more k x e = absurd (cc)
with_more (y ∷ xs) more zero x e = e
with_more (y ∷ xs) more (suc k) x e = with_more xs more k x e

by_offer : (sent : List SentSegment) (o : Option OpenOffer) (queue : List ℕ) → Keeps sent (and_offer sent o queue)
by_offer sent None queue k x e = e
by_offer sent (Some o) queue k x e = with_more sent _ k x e

by_reply : (sent : List SentSegment) (o : Option Reply) → Keeps sent (and_reply sent o)
by_reply sent None k x e = e
by_reply sent (Some reply) k x e = with_more sent _ k x e

by_read : (s : PairSide) (r : Result ℕ RecvError) → Keeps s.sent (reads s r).side.sent
by_read s (Ok n) k x e = e
by_read s (Err fault) k x e = e

by_delivery : (side : Side) (s : PairSide) (found : Option SentSegment) → Keeps s.sent (handed side s found).sent
by_delivery side s None k x e = e
by_delivery side s (Some y) k x e =
    cond_both (accepts s.socket.tcb y.header y.segment) (taken_at s (arrives (context_at side s) s.socket y.header y.segment y.bytes)) s
    (λ (t : PairSide). slice_get t.sent k ≡ Some x)
    (λ _. by_reply s.sent (arrives (context_at side s) s.socket y.header y.segment y.bytes).answer k x e) (λ _. e)

by_act : (s : PairSide) (others : List SentSegment) (event : PairEvent) → Keeps s.sent (acts s others event).side.sent
by_act s others (Listen side endpoint) k x e = e
by_act s others (Connect side remote local) k x e = e
by_act s others (Send side bytes) k x e = e
by_act s others (Recv side count) k x e = by_read s (recv_answer s.socket count) k x e
by_act s others (Close side) k x e = e
by_act s others (Abort side) k x e = e
by_act s others (TcpSetting side setting) k x e = e
by_act s others (Clock side instant) k x e = e
by_act s others (Offer side instant true) k x e =
    by_offer s.sent (offer_of (context_at side (record s { instant = instant })) s.socket).socket.offered
    (offer_of (context_at side (record s { instant = instant })) s.socket).socket.queued.queue k x e
by_act s others (Offer side instant false) k x e = e
by_act s others (Deliver from n) k x e = by_delivery (other from) s (slice_get others n) k x e

pub by_put : (P : PairSide → Type 0) (both : Both PairSide) (of side : Side) (new : PairSide) → (of ≡ side → P new) → P (at both side) → P (at (put both of new) side)
by_put P both A A new own not = own refl
by_put P both A B new own not = not
by_put P both B A new own not = not
by_put P both B B new own not = own refl

pub sent_by : (p : PairValue) (event : PairEvent) (side : Side) → Keeps (at p.sides side).sent (at (takes p event).sides side).sent
sent_by p event side =
    by_put (λ (s : PairSide). Keeps (at p.sides side).sent s.sent) p.sides (side_of event) side (acting p event).side
    (λ own.
    subst (λ (s : Side). Keeps (at p.sides s).sent (acting p event).side.sent) own
    (by_act (at p.sides (side_of event)) (at p.sides (other (side_of event))).sent event))
    (λ k x e. e)

-- MOMENTS

before : (a b c : ℤ) → a ≤ℤ b → b <ℤ c → a <ℤ c
before a b c e f = first_of (omega (arith, ints), grind (arith, ints))

-- EQUAL SEGMENTS

-- the segment of a number comes under it
pub as_itself : (p : PairValue) (side : Side) (k : ℕ) (event : PairEvent) → event ≡ Deliver side k → ComesAs p side k event
as_itself p side k event is = (k, is, λ x sent. (x, sent, equals_itself x))

module _ (p : PairValue) (side : Side) (x y : SentSegment) (e : AreEqual x y) where
  pub same_len : segment_len y.segment (length y.bytes) ≡ segment_len x.segment (length x.bytes)
  same_len = λ i. segment_len (e.segment i) (length (e.bytes i))

  pub goes_equal : GoesFrom p side x → GoesFrom p side y
  goes_equal g = record {
    number = ap (λ (h : TcpHeader). h.seq_number) e.segment ∙ g.number;
    acknowledges = ap (λ (h : TcpHeader). h.ack_number) e.segment ∙ g.acknowledges;
    some = subst (λ (n : ℕ). 1 ≤ n) (sym same_len) g.some;
    ends = subst (λ (n : ℕ). n ≤ left_in p side) (sym same_len) g.ends;
    no_syn = ap (λ (h : TcpHeader). is_syn h.control) e.segment ∙ g.no_syn;
    no_reset = ap (λ (h : TcpHeader). is_rst h.control) e.segment ∙ g.no_reset;
  }

  pub heard_equal : IsHeard p side x → IsHeard p side y
  heard_equal h = record {
    initial = ap (λ (h : TcpHeader). arrives_stale (socket_of p (other side)).tcb h.options.timestamp) e.segment ∙ h.initial;
    inside = λ none.
        subst
        (λ (h : TcpHeader). distance_after (socket_of p (other side)).tcb.receiver.next h.seq_number < max 1 (free_in (socket_of p (other side))))
        (sym e.segment) (h.inside (sym same_len ∙ none));
  }

-- A SEGMENT COMES

-- what a course leaves from a pair on
record Left (delay : ℕ) (p q : PairValue) (now : ℤ) (course : List (ℤ × PairEvent)) : Type 0 where
  steps : Steps p (events_of course) q
  delivers : DeliversWithin delay p course
  clocked : IsClocked now course

-- where it comes, or one that equals it, and what the course leaves then
record Comes (delay : ℕ) (p q : PairValue) (now last : ℤ) (side : Side) (k : ℕ) (x : SentSegment) (course : List (ℤ × PairEvent)) : Type 0 where
  mid : PairValue
  number : ℕ
  segment : SentSegment
  equal : AreEqual x segment
  before_it : List PairEvent
  steps : Steps p before_it mid
  allowed : refusal mid (Deliver side number) ≡ None
  sent : slice_get (at mid.sides side).sent number ≡ Some segment
  heard : IsHeard mid side segment
  time : ℤ
  within : time ≤ℤ last
  rest : List (ℤ × PairEvent)
  -- what it draws comes in time, too
  drawn : (of : Side) (n : ℕ) → next_sent mid of ≤ n → n < next_sent (come_in mid side number) of
      → IsHeardBy (time +ℤ pos delay) of n (come_in mid side number) rest
  left : Left delay (come_in mid side number) q time rest
  same_end : end_of time rest ≡ end_of now course
  shut : free_in (socket_of mid (other side)) ≡ 0 → IsShutAmong p side k course

module _ (delay : ℕ) (q : PairValue) (side : Side) (k : ℕ) (x : SentSegment) (last : ℤ) where
  now_it :
      (p : PairValue) (y : ℤ × PairEvent) (course : List (ℤ × PairEvent)) (now : ℤ) → Left delay p q now (y ∷ course)
      → slice_get (at p.sides side).sent k ≡ Some x → y.0 ≤ℤ last → IsHeardWith p side k y.1 → Comes delay p q now last side k x (y ∷ course)
  now_it p y course now l sent within is =
      subst
      (λ (event : PairEvent). refusal p event ≡ None → Steps (takes p event) (events_of course) q
      → ((of : Side) (n : ℕ) → next_sent p of ≤ n → n < next_sent (takes p event) of → IsHeardBy (y.0 +ℤ pos delay) of n (takes p event) course)
      → DeliversWithin delay (takes p event) course → Comes delay p q now last side k x (y ∷ course))
      (sym is.0.1)
      (λ allowed steps drawn delivers. record {
        mid = p;
        number = is.0.0;
        segment = (is.0.2 x sent).0;
        equal = (is.0.2 x sent).2;
        before_it = [];
        steps = refl;
        allowed = allowed;
        sent = (is.0.2 x sent).1;
        heard = heard_equal p side x (is.0.2 x sent).0 (is.0.2 x sent).2 (is.1 x sent);
        time = y.0;
        within = within;
        rest = course;
        drawn = drawn;
        left = record { steps = steps; delivers = delivers; clocked = l.clocked.1.1 };
        same_end = refl;
        shut = λ none. inl (is.0, none);
      })
      l.steps.0 l.steps.1 l.delivers.0 l.delivers.1

  comes_in :
      (p : PairValue) (course : List (ℤ × PairEvent)) (now : ℤ) → Left delay p q now course → slice_get (at p.sides side).sent k ≡ Some x → now ≤ℤ last
      → IsHeardBy last side k p course → last <ℤ end_of now course → Comes delay p q now last side k x course
  comes_in p [] now l sent soon comes over = absurd (not_both last now soon over)
  comes_in p (y ∷ course) now l sent soon comes over =
      by
      (λ (then : IsHeardBy last side k (takes p y.1) course).
      comes_in (takes p y.1) course y.0 (record { steps = l.steps.1; delivers = l.delivers.1; clocked = l.clocked.1.1 })
      (sent_by p y.1 side k x sent) comes.0 then over)
      comes.1
    where
      further : Comes delay (takes p y.1) q y.0 last side k x course → Comes delay p q now last side k x (y ∷ course)
      further it = record {
        mid = it.mid;
        number = it.number;
        segment = it.segment;
        equal = it.equal;
        before_it = y.1 ∷ it.before_it;
        steps = (l.steps.0, it.steps);
        allowed = it.allowed;
        sent = it.sent;
        heard = it.heard;
        time = it.time;
        within = it.within;
        rest = it.rest;
        drawn = it.drawn;
        left = it.left;
        same_end = it.same_end;
        shut = λ none. inr (it.shut none);
      }

      by : (IsHeardBy last side k (takes p y.1) course → Comes delay (takes p y.1) q y.0 last side k x course) →
          IsHeardWith p side k y.1 ⊎ IsHeardBy last side k (takes p y.1) course → Comes delay p q now last side k x (y ∷ course)
      by more (inl is) = now_it p y course now l sent comes.0 is
      by more (inr then) = further (more then)

-- AN EXCHANGE

was_open : (old new : Bool) → (old ≡ true → new ≡ true) → new ≡ false → old ≡ false
was_open true new e f = clash (sym (e refl) ∙ f)
was_open false new e f = refl

-- what answers a segment has no payload
no_bytes : (sent : List SentSegment) (answer : Option Reply) (y : SentSegment) → slice_get (and_reply sent answer) (length sent) ≡ Some y → y.bytes ≡ []
no_bytes sent None y e = absurd (let none = slice_get_past sent (length sent) (same (length sent)) in cc) where
  same : (n : ℕ) → n ≤ n
  same n = omega arith
no_bytes sent (Some reply) y e =
    ap (λ (z : SentSegment). z.bytes)
    (one y (record { header = reply.header; segment = reply.segment; bytes = [] })
    (sym e ∙ last_of sent (record { header = reply.header; segment = reply.segment; bytes = [] })))
  where
    one : (a b : SentSegment) → Some a ≡ Some b → a ≡ b
    one a b e = cc

bare_answer :
    (side : Side) (s : PairSide) (found : Option SentSegment) (y : SentSegment) → slice_get (handed side s found).sent (length s.sent) ≡ Some y
    → y.bytes ≡ []
bare_answer side s None y e = no_bytes s.sent None y e
bare_answer side s (Some z) y e =
    cond_both (accepts s.socket.tcb z.header z.segment) (taken_at s (arrives (context_at side s) s.socket z.header z.segment z.bytes)) s
    (λ (t : PairSide). slice_get t.sent (length s.sent) ≡ Some y → y.bytes ≡ [])
    (λ _. no_bytes s.sent (arrives (context_at side s) s.socket z.header z.segment z.bytes).answer y) (λ _. no_bytes s.sent None y) e

bare_in :
    (p : PairValue) (side : Side) (k : ℕ) (y : SentSegment) → slice_get (at (come_in p side k).sides (other side)).sent (next_sent p (other side)) ≡ Some y
    → y.bytes ≡ []
bare_in p A k y = bare_answer B p.sides.b (slice_get p.sides.a.sent k) y
bare_in p B k y = bare_answer A p.sides.a (slice_get p.sides.b.sent k) y

-- a segment of the other is heard
may_hear : (p : PairValue) (side : Side) (j : ℕ) (y : SentSegment) → slice_get (at p.sides (other side)).sent j ≡ Some y → IsHeard p (other side) y
    → segment_len y.segment (length y.bytes) ≡ 0 → distance_of (socket_of p side).tcb.receiver.next y.segment.seq_number < 2 ^ 31 → MayHear p side j y
may_hear p A j y sent h bare ahead =
    record { sent = sent; initial = h.initial; near = inl (in_window p.sides.a.socket.tcb (free_in p.sides.a.socket) y.segment (length y.bytes) bare ahead (h.inside bare)) }
may_hear p B j y sent h bare ahead =
    record { sent = sent; initial = h.initial; near = inl (in_window p.sides.b.socket.tcb (free_in p.sides.b.socket) y.segment (length y.bytes) bare ahead (h.inside bare)) }

module _ (delay : ℕ) (p q : PairValue) (side : Side) (k : ℕ) (x : SentSegment) (course : List (ℤ × PairEvent)) (now : ℤ) (r : IsReached p) (o : AreOpen p)
    (there : AreThere q) (stream : HasStream (past_at p side)) (room : 1 ≤ room_of (socket_of p (other side)).received) (g : GoesFrom p side x)
    (first : Comes delay p q now (now +ℤ pos delay) side k x course) (over : ((now +ℤ pos delay) +ℤ pos delay) <ℤ end_of now course) where
  abbrev Outcomes : Type 0
  Outcomes = HasRisen p q side ⊎ (HasRisen p q (other side) ⊎ IsShutAmong p side k course)

  abbrev mid : PairValue
  mid = first.mid

  -- what comes
  abbrev n : ℕ
  n = first.number

  abbrev z : SentSegment
  z = first.segment

  goes : GoesFrom p side z
  goes = goes_equal p side x z first.equal g

  abbrev came : PairValue
  came = come_in mid side n

  begun_p : (of : Side) → IsBegun p of
  begun_p of = begun p of r (open_of p of o)

  to_mid : (of : Side) → MovesIn p mid of
  to_mid of = by_steps p first.before_it mid r (begun_p A) (begun_p B) first.steps of

  rm : IsReached mid
  rm = reached_by p mid first.before_it r first.steps

  begun_mid : (of : Side) → IsBegun mid of
  begun_mid of = begun_after p mid of (to_mid of) (begun_p of)

  to_came : (of : Side) → MovesIn mid came of
  to_came of = by_steps mid (Deliver side n ∷ []) came rm (begun_mid A) (begun_mid B) (first.allowed, refl) of

  rc : IsReached came
  rc = reached_by mid came (Deliver side n ∷ []) rm (first.allowed, refl)

  begun_came : (of : Side) → IsBegun came of
  begun_came of = begun_after mid came of (to_came of) (begun_mid of)

  from_came : (of : Side) → MovesIn came q of
  from_came of = by_steps came (events_of first.rest) q rc (begun_came A) (begun_came B) first.left.steps of

  from_mid : (of : Side) → MovesIn mid q of
  from_mid of = then_moves mid came q of (to_came of) (from_came of)

  -- a connection that is there in the end was there before
  alive_at : (m : PairValue) (of : Side) → MovesIn m q of → is_closed (socket_of m of).tcb.state ≡ false
  alive_at m of from =
      was_open (is_closed (socket_of m of).tcb.state) (is_closed (socket_of q of).tcb.state) from.closed
      (not_closed (socket_of q of).tcb.state (there_of q of there))

  there_at : (m : PairValue) (of : Side) → IsBegun m of → MovesIn m q of → is_synchronized (socket_of m of).tcb.state ≡ true
  there_at m of b from = late_on (socket_of m of).tcb.state b.early (alive_at m of from)

  open_came : (of : Side) → IsOpen (socket_of came of).tcb
  open_came of = is_open came of rc (there_at came of (begun_came of) (from_came of)) (begun_came of).syn

  until : Lasts p mid
  until = record {
    events = first.before_it;
    steps = first.steps;
    before = o;
    after = (there_at mid A (begun_mid A) (from_mid A), there_at mid B (begun_mid B) (from_mid B));
  }

  comes : MayCome mid side n z
  comes = record { sent = first.sent; initial = first.heard.initial }

  -- what has risen by then has risen in the end
  lifted : (m : PairValue) (of : Side) → MovesIn m q of → HasRisen p m of → HasRisen p q of
  lifted m of from (inl e) =
      inl (more (acked_in p of) (total_in m of) (left_in m of) (total_in q of) (left_in q of) from.acked e) where
        more : (a b c d e : ℕ) → b + e ≤ d + c → a < b - c → a < d - e
        more a b c d e x y = omega arith
  lifted m of from (inr e) = inr (more (taken_in p of) (taken_in m of) (taken_in q of) from.taken e) where
    more : (a b c : ℕ) → b ≤ c → a < b → a < c
    more a b c x y = omega arith

  taken : IsTakenIn mid side n → HasRisen p q (other side)
  taken e =
      inr
      (three (taken_in p (other side)) (taken_in mid (other side)) (taken_in came (other side)) (taken_in q (other side)) (to_mid (other side)).taken e
      (from_came (other side)).taken)
    where
      three : (a b c d : ℕ) → a ≤ b → b < c → c ≤ d → a < d
      three a b c d x y z = omega arith

  -- THE ANSWER

  module _ (answered : IsAnsweredIn mid side n) where
    abbrev j : ℕ
    j = next_sent mid (other side)

    sent_of : (it : IsAnsweredIn mid side n) → slice_get (at came.sides (other side)).sent j ≡ Some it.answer
    sent_of it =
        ap (λ (sent : List SentSegment). slice_get sent j) it.sent ∙ last_of (at mid.sides (other side)).sent it.answer

    one : (it : IsAnsweredIn mid side n) → it.answer ≡ answered.answer
    one it = same it.answer answered.answer (sym (sent_of it) ∙ sent_of answered) where
      same : (a b : SentSegment) → Some a ≡ Some b → a ≡ b
      same a b e = cc

    bare : segment_len answered.answer.segment (length answered.answer.bytes) ≡ 0
    bare =
        ap (λ (bytes : List ℕ). segment_len answered.answer.segment (length bytes)) (bare_in mid side n answered.answer (sent_of answered))
        ∙ ap (λ (control : TcpControl). 0 + control_len control) answered.plain

    more_sent : j < next_sent came (other side)
    more_sent =
        subst (λ (n : ℕ). j < n)
        (sym (ap (λ (sent : List SentSegment). length sent) answered.sent ∙ length-append (at mid.sides (other side)).sent (answered.answer ∷ [])))
        (one_more j)
      where
        one_more : (n : ℕ) → n < n + 1
        one_more n = omega arith

    itself : (n : ℕ) → n ≤ n
    itself n = omega arith

    in_time : (first.time +ℤ pos delay) <ℤ end_of first.time first.rest
    in_time =
        subst (λ (end : ℤ). (first.time +ℤ pos delay) <ℤ end) (sym first.same_end)
        (before (first.time +ℤ pos delay) ((now +ℤ pos delay) +ℤ pos delay) (end_of now course)
        (more_time first.time (now +ℤ pos delay) delay first.within) over)

    second : Comes delay came q first.time (first.time +ℤ pos delay) (other side) j answered.answer first.rest
    second =
        comes_in delay q (other side) j answered.answer (first.time +ℤ pos delay) came first.rest first.time first.left (sent_of answered)
        (later first.time delay) (first.drawn (other side) j (itself j) more_sent) in_time

    abbrev there_then : PairValue
    there_then = second.mid

    rs : IsReached there_then
    rs = reached_by came there_then second.before_it rc second.steps

    to_then : (of : Side) → MovesIn came there_then of
    to_then of = by_steps came second.before_it there_then rc (begun_came A) (begun_came B) second.steps of

    begun_then : (of : Side) → IsBegun there_then of
    begun_then of = begun_after came there_then of (to_then of) (begun_came of)

    -- what comes as the answer
    abbrev i : ℕ
    i = second.number

    abbrev w : SentSegment
    w = second.segment

    abbrev heard : PairValue
    heard = heard_in there_then side i

    to_heard : (of : Side) → MovesIn there_then heard of
    to_heard of = by_steps there_then (Deliver (other side) i ∷ []) heard rs (begun_then A) (begun_then B) (second.allowed, refl) of

    rh : IsReached heard
    rh = reached_by there_then heard (Deliver (other side) i ∷ []) rs (second.allowed, refl)

    begun_heard : (of : Side) → IsBegun heard of
    begun_heard of = begun_after there_then heard of (to_heard of) (begun_then of)

    from_heard : (of : Side) → MovesIn heard q of
    from_heard of = by_steps heard (events_of second.rest) q rh (begun_heard A) (begun_heard B) second.left.steps of

    from_then : (of : Side) → MovesIn there_then q of
    from_then of = then_moves there_then heard q of (to_heard of) (from_heard of)

    -- RCV.NXT of the side stays until then, so that the answer begins there or after
    ahead : (socket_of there_then side).tcb.receiver.next ≡ (socket_of came side).tcb.receiver.next →
        distance_of (socket_of there_then side).tcb.receiver.next w.segment.seq_number < 2 ^ 31
    ahead same =
        subst (λ (n : SeqNumber). distance_of n w.segment.seq_number < 2 ^ 31) (sym same)
        (subst (λ (n : SeqNumber). distance_of (socket_of came side).tcb.receiver.next n < 2 ^ 31) (sym (number_is ∙ answered.bare))
        (snd_max_ahead came side rc (open_came side) (open_came (other side))))
      where
        number_is : w.segment.seq_number ≡ answered.answer.segment.seq_number
        number_is = ap (λ (h : TcpHeader). h.seq_number) second.equal.segment

    takes_time : (socket_of there_then side).tcb.receiver.next ≡ (socket_of came side).tcb.receiver.next → TakesTimeAs p mid there_then side n i z
    takes_time same = record {
      stream = stream;
      room = room;
      goes = goes;
      first = until;
      comes = comes;
      second = record {
        events = second.before_it;
        steps = second.steps;
        before = (open_came A, open_came B);
        after = (there_at there_then A (begun_then A) (from_then A), there_at there_then B (begun_then B) (from_then B));
      };
      hears = λ it. record {
        segment = w;
        equal = subst (λ (answer : SentSegment). AreEqual answer w) (sym (one it)) second.equal;
        may =
            may_hear there_then side i w second.sent second.heard
            (same_len there_then (other side) answered.answer w second.equal ∙ bare) (ahead same);
      };
    }

    by_answer : Outcomes
    by_answer = at ((to_then side).next (alive_at there_then side (from_then side))) where
      by : ProceedsIn p mid there_then side n i → Outcomes
      by (inl risen) = inr (inl (lifted came (other side) (from_came (other side)) risen))
      by (inr (inl none)) = inr (inr (first.shut none))
      by (inr (inr (inl risen))) = inl (lifted heard side (from_heard side) risen)
      by (inr (inr (inr closed))) = clash (sym closed ∙ alive_at heard side (from_heard side))

      less : (a b c d : ℕ) → a ≤ b → b < c → c ≤ d → a < d
      less a b c d x y z = omega arith

      at :
          ((socket_of there_then side).tcb.receiver.next ≡ (socket_of came side).tcb.receiver.next)
          ⊎ (taken_in came side < taken_in there_then side) → Outcomes
      at (inl same) = by (proceeds_as p mid there_then side n i z r (takes_time same))
      at (inr more) =
          inl
          (inr
          (less (taken_in p side) (taken_in came side) (taken_in there_then side) (taken_in q side)
          (upto_taken (taken_in p side) (taken_in mid side) (taken_in came side) (to_mid side).taken (to_came side).taken) more (from_then side).taken))
        where
          upto_taken : (a b c : ℕ) → a ≤ b → b ≤ c → a ≤ c
          upto_taken a b c x y = omega arith

  exchanged : Outcomes
  exchanged = by (outcome p mid side n z r until stream room goes comes) where
    by : Outcome p mid side n z r until stream room goes comes → Outcomes
    by (inl risen) = inr (inl (lifted mid (other side) (from_mid (other side)) risen))
    by (inr (inl it)) = inr (inl (taken it))
    by (inr (inr (inl told))) = by_answer told.answered
    by (inr (inr (inr (inl shut)))) = inr (inr (first.shut shut.none))
    by (inr (inr (inr (inr ends)))) = clash (sym ends.1 ∙ alive_at came (other side) (from_came (other side)))

pub exchange_in_time :
    (p q : PairValue) (side : Side) (k : ℕ) (x : SentSegment) (course : List (ℤ × PairEvent)) (delay : ℕ) (now : ℤ) → IsReached p → AreOpen p
    → Steps p (events_of course) q → AreThere q → HasStream (past_at p side) → 1 ≤ room_of (socket_of p (other side)).received → GoesFrom p side x
    → slice_get (at p.sides side).sent k ≡ Some x → IsHeardBy (now +ℤ pos delay) side k p course → IsClocked now course → DeliversWithin delay p course
    → ((now +ℤ pos delay) +ℤ pos delay) <ℤ end_of now course
    → HasRisen p q side ⊎ (HasRisen p q (other side) ⊎ IsShutAmong p side k course)
exchange_in_time p q side k x course delay now r o s there stream room g sent comes clocked delivers over =
    exchanged delay p q side k x course now r o there stream room g
    (comes_in delay q side k x (now +ℤ pos delay) p course now
    (record { steps = s; delivers = delivers; clocked = clocked }) sent (later now delay) comes
    (before (now +ℤ pos delay) ((now +ℤ pos delay) +ℤ pos delay) (end_of now course) (later (now +ℤ pos delay) delay) over))
    over
