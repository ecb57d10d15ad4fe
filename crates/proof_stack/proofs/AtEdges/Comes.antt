-- A pair in a course in which each segment comes in time, and the segments that come.
use Rattle.std.proofs.Common.{◌≡◌, ◌⊎◌, inl, inr, ℕ, ◌+◌, ◌-◌, ◌<◌, ◌≤◌, ℤ, ◌≤ℤ◌, ◌<ℤ◌, false, true, [], ◌∷◌, ◌++◌, Some, slice_get, refl, sym, ap, ◌∙◌, subst, arith}
use Rattle.ip_wire.specs.TcpHeader.{TcpHeader}
use Rattle.tcp_refinement.specs.Pair.Sides.{at, other}
use Rattle.tcp_refinement.specs.Pair.Steps.{Steps}
use Rattle.tcp_refinement.specs.Pair.Values.{PairValue, past_at}
use Rattle.tcp_refinement.specs.declared.pair.event.PairEvent.{PairEvent}
use Rattle.tcp_refinement.specs.declared.pair.event.PairEvent.TheVariants.{Deliver}
use Rattle.tcp_refinement.specs.declared.pair.event.SentSegment.{SentSegment}
use Rattle.tcp_refinement.specs.declared.pair.event.Side.{Side}
use Rattle.tcp_refinement.specs.declared.pair.event.Side.TheVariants.{A, B}
use Rattle.tcp_liveness.specs.Arrivals.{is_synchronized}
use Rattle.tcp_liveness.specs.BothWays.{AreThere, total_in}
use Rattle.tcp_liveness.specs.Clocks.{arrives_stale}
use Rattle.tcp_liveness.specs.Course.{AreEqual, end_of, events_of}
use Rattle.tcp_liveness.specs.Exchange.{IsOpen}
use Rattle.tcp_liveness.specs.Onward.{HasRisen, Lasts}
use Rattle.tcp_liveness.specs.Pair.{HasStream, left_in, socket_of}
use Rattle.tcp_liveness.specs.Reached.{IsReached}
use Rattle.tcp_liveness.specs.Rounds.{takes}
use Rattle.tcp_liveness.specs.Sent.{taken_in}
use Rattle.tcp_liveness.proofs.CourseExchange.{sent_by}
use Rattle.tcp_liveness.proofs.CourseInstants.{not_both}
use Rattle.tcp_liveness.proofs.CourseParts.{Course, after_all, clock_on, there_before}
use Rattle.tcp_liveness.proofs.CourseStands.{Stands, stands_on, steps_to}
use Rattle.tcp_liveness.proofs.Kept.{reached_by}
use Rattle.tcp_liveness.proofs.LatePayload.{there_of}
use Rattle.tcp_liveness.proofs.OnwardPairs.{IsBegun, MovesIn, begun_after, by_steps, then_moves}
use Rattle.tcp_liveness.proofs.Opened.{is_open}
use Rattle.proof_stack.specs.Progress.Edges.{ArrivesBy, ArrivesInTime, ArrivesWith, KeepsStream}

-- A SEGMENT COMES

-- where the segment `x` of a side, its number `k`, or one that equals it comes in a course
pub record Comes (p : PairValue) (course : Course) (last : ℤ) (side : Side) (k : ℕ) (x : SentSegment) : Type 0 where
  pub m : PairValue
  pub event : ℤ × PairEvent
  pub rest : Course
  pub stands : Stands p course m (event ∷ rest)
  pub number : ℕ
  pub segment : SentSegment
  pub equal : AreEqual x segment
  pub is : event.1 ≡ Deliver side number
  pub sent : slice_get (at m.sides side).sent number ≡ Some segment
  pub initial : arrives_stale (socket_of m (other side)).tcb segment.segment.options.timestamp ≡ false
  pub within : event.0 ≤ℤ last

pub comes_in :
    (p : PairValue) (course : Course) (last : ℤ) (side : Side) (k : ℕ) (x : SentSegment) (m : PairValue) (rest : Course) (now : ℤ)
    → Stands p course m rest → slice_get (at m.sides side).sent k ≡ Some x → now ≤ℤ last → ArrivesBy last side k m rest → last <ℤ end_of now rest
    → Comes p course last side k x
comes_in p course last side k x m [] now s sent soon arrives over = absurd (not_both last now soon over)
comes_in p course last side k x m (y ∷ rest) now s sent soon arrives over =
    by
    (λ (more : ArrivesBy last side k (takes m y.1) rest).
    comes_in p course last side k x (takes m y.1) rest y.0 (stands_on p course m y rest s) (sent_by m y.1 side k x sent) arrives.0 more over)
    arrives.1
  where
    by :
        (ArrivesBy last side k (takes m y.1) rest → Comes p course last side k x)
        → ArrivesWith m side k y.1 ⊎ ArrivesBy last side k (takes m y.1) rest → Comes p course last side k x
    by on (inl it) =
        let z : (z : SentSegment) × (slice_get (at m.sides side).sent it.0.0 ≡ Some z) × AreEqual x z = it.0.2 x sent in
        record {
          m = m;
          event = y;
          rest = rest;
          stands = s;
          number = it.0.0;
          segment = z.0;
          equal = z.2;
          is = it.0.1;
          sent = z.1;
          initial = ap (λ (h : TcpHeader). arrives_stale (socket_of m (other side)).tcb h.options.timestamp) z.2.segment ∙ it.1 x sent;
          within = arrives.0;
        }
    by on (inr more) = on more

-- A PAIR IN A COURSE

pub stream_now : (p : PairValue) (side : Side) (course : Course) → KeepsStream p side course → HasStream (past_at p side)
stream_now p side [] keeps = keeps
stream_now p side (x ∷ course) keeps = keeps.0

module _ (p q : PairValue) (there : AreThere q) (read wait delay : ℕ) (end : ℤ) where
  -- events led from `p` to this pair, with the clock at `now`, and those that follow lead to `q`
  pub record Here (m : PairValue) (now : ℤ) (rest : Course) : Type 0 where
    pub reached : IsReached m
    pub begun : (of : Side) → IsBegun m of
    pub to : (of : Side) → MovesIn p m of
    pub steps : Steps m (events_of rest) q
    pub in_time : ArrivesInTime read wait delay now m rest
    pub same_end : end_of now rest ≡ end

  pub from_here : (m : PairValue) (now : ℤ) (rest : Course) → Here m now rest → (of : Side) → MovesIn m q of
  from_here m now rest h of = by_steps m (events_of rest) q h.reached (h.begun A) (h.begun B) h.steps of

  pub there_here : (m : PairValue) (now : ℤ) (rest : Course) → Here m now rest → (of : Side) → is_synchronized (socket_of m of).tcb.state ≡ true
  there_here m now rest h of = there_before m q of (h.begun of) (from_here m now rest h of) (there_of q of there)

  pub open_here : (m : PairValue) (now : ℤ) (rest : Course) → Here m now rest → (of : Side) → IsOpen (socket_of m of).tcb
  open_here m now rest h of = is_open m of h.reached (there_here m now rest h of) (h.begun of).syn

  pub stream_here : (m : PairValue) (now : ℤ) (rest : Course) → Here m now rest → (of : Side) → HasStream (past_at m of)
  stream_here m now rest h of = stream_now m of rest (h.in_time.streams of)

  -- with an event
  pub step_on : (m : PairValue) (now : ℤ) (x : ℤ × PairEvent) (rest : Course) → Here m now (x ∷ rest) → Here (takes m x.1) x.0 rest
  step_on m now x rest h = record {
    reached = reached_by m (takes m x.1) (x.1 ∷ []) h.reached (h.steps.0, refl);
    begun = λ of. begun_after m (takes m x.1) of (moves of) (h.begun of);
    to = λ of. then_moves p m (takes m x.1) of (h.to of) (moves of);
    steps = h.steps.1;
    in_time = record {
      clocks = λ of. clock_on m of x.1 now x.0 (c.clocks of) c.clocked.0 c.clocked.1.0;
      clocked = c.clocked.1.1;
      asks = c.asks.1;
      taken = c.taken.1;
      comes = c.comes.1;
      reads = λ of. (c.reads of).1;
      streams = λ of. (c.streams of).1;
      rooms = λ of. subst (λ (n : ℕ). 1 ≤ n) (sym (moves of).room) (c.rooms of);
    };
    same_end = h.same_end;
  }
    where
      c : ArrivesInTime read wait delay now m (x ∷ rest)
      c = h.in_time

      moves : (of : Side) → MovesIn m (takes m x.1) of
      moves of = by_steps m (x.1 ∷ []) (takes m x.1) h.reached (h.begun A) (h.begun B) (h.steps.0, refl) of

  walk : (first rest : Course) (m : PairValue) (now : ℤ) → Here m now (first ++ rest) → Here (after_all m first) (end_of now first) rest
  walk [] rest m now h = h
  walk (x ∷ first) rest m now h = walk first rest (takes m x.1) x.0 (step_on m now x (first ++ rest) h)

  -- what the clock shows where a pair stands
  abbrev pub clock_at : (m n : PairValue) (now : ℤ) (rest tail : Course) → Stands m rest n tail → ℤ
  clock_at m n now rest tail s = end_of now s.first

  pub here_at :
      (m n : PairValue) (now : ℤ) (rest tail : Course) → Here m now rest → (s : Stands m rest n tail) → Here n (clock_at m n now rest tail s) tail
  here_at m n now rest tail h s =
      subst (λ (n : PairValue). Here n (end_of now s.first) tail) s.to
      (walk s.first tail m now (subst (λ (c : Course). Here m now c) s.is h))

  pub steps_between : (m n : PairValue) (now : ℤ) (rest tail : Course) → Here m now rest → (s : Stands m rest n tail) → Steps m (events_of s.first) n
  steps_between m n now rest tail h s = steps_to m q n rest tail s h.steps

  pub moves_between : (m n : PairValue) (now : ℤ) (rest tail : Course) → Here m now rest → Stands m rest n tail → (of : Side) → MovesIn m n of
  moves_between m n now rest tail h s of =
      by_steps m (events_of s.first) n h.reached (h.begun A) (h.begun B) (steps_between m n now rest tail h s) of

  pub lasts_between : (m n : PairValue) (now : ℤ) (rest tail : Course) → Here m now rest → Stands m rest n tail → Lasts m n
  lasts_between m n now rest tail h s =
      let then = here_at m n now rest tail h s in
      record {
        events = events_of s.first;
        steps = steps_between m n now rest tail h s;
        before = (open_here m now rest h A, open_here m now rest h B);
        after = (
          there_here n (clock_at m n now rest tail s) tail then A,
          there_here n (clock_at m n now rest tail s) tail then B,
        );
      }

  -- SND.UNA or RCV.NXT of a side has risen in the end
  abbrev pub Risen : Type 0
  Risen = HasRisen p q A ⊎ HasRisen p q B

  pub risen_of : (of : Side) → HasRisen p q of → Risen
  risen_of A e = inl e
  risen_of B e = inr e

  -- what has risen between two pairs has risen in the end
  pub raised : (m n : PairValue) (of : Side) → MovesIn p m of → HasRisen m n of → MovesIn n q of → Risen
  raised m n of to risen from = risen_of of (by risen) where
    acked : (tp lp tm lm tn ln tq lq : ℕ) → tp + lm ≤ tm + lp → tm - lm < tn - ln → tn + lq ≤ tq + ln → tp - lp < tq - lq
    acked tp lp tm lm tn ln tq lq e f g = omega arith

    taken : (a b c d : ℕ) → a ≤ b → b < c → c ≤ d → a < d
    taken a b c d e f g = omega arith

    by : HasRisen m n of → HasRisen p q of
    by (inl e) =
        inl
        (acked (total_in p of) (left_in p of) (total_in m of) (left_in m of) (total_in n of) (left_in n of) (total_in q of) (left_in q of) to.acked e
        from.acked)
    by (inr e) = inr (taken (taken_in p of) (taken_in m of) (taken_in n of) (taken_in q of) to.taken e from.taken)
