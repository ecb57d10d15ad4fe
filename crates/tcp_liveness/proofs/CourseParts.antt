-- A course in two parts, and the clock of a side in it.
use Rattle.std.proofs.Common.{◌≡◌, ◌⊎◌, inl, inr, ℕ, ℤ, pos, ◌+ℤ◌, ◌≤ℤ◌, Bool, true, false, List, []}
use Rattle.std.proofs.Common.{◌∷◌, ◌++◌, Result, Ok, Err, slice_get, refl, sym, ◌∙◌, subst}
use Rattle.tcp_invariants.specs.RecvError.{RecvError}
use Rattle.tcp_invariants.specs.States.{is_closed}
use Rattle.tcp_invariants.proofs.OrderSteps.{clash}
use Rattle.tcp_block.specs.Calls.{recv_answer}
use Rattle.tcp_refinement.specs.Pair.History.{side_of}
use Rattle.tcp_refinement.specs.Pair.Sides.{at, other}
use Rattle.tcp_refinement.specs.Pair.Steps.{Steps, acting, acts, reads}
use Rattle.tcp_refinement.specs.Pair.Values.{PairSide, PairValue}
use Rattle.tcp_refinement.specs.declared.pair.event.PairEvent.{PairEvent}
use Rattle.tcp_refinement.specs.declared.pair.event.PairEvent.TheVariants.{Listen, Connect, Send, Recv, Close, Abort, TcpSetting, Clock, Offer, Deliver}
use Rattle.tcp_refinement.specs.declared.pair.event.SentSegment.{SentSegment}
use Rattle.tcp_refinement.specs.declared.pair.event.Side.{Side}
use Rattle.tcp_refinement.specs.declared.pair.event.Side.TheVariants.{A, B}
use Rattle.tcp_liveness.specs.Arrivals.{is_synchronized}
use Rattle.tcp_liveness.specs.BothWays.{AreThere}
use Rattle.tcp_liveness.specs.Course.{AreTaken, Asks, AsksWithin, DeliversWithin, IsAskedBy, IsAt, IsClocked, IsHeardBy, IsHeardWith, IsHinderedAmong}
use Rattle.tcp_liveness.specs.Course.{Wants, end_of, events_of}
use Rattle.tcp_liveness.specs.Exchange.{IsOpen}
use Rattle.tcp_liveness.specs.Pair.{left_in, socket_of}
use Rattle.tcp_liveness.specs.Reached.{IsReached}
use Rattle.tcp_liveness.specs.Readers.{IsReadBy, Reads, ReadsWithin}
use Rattle.tcp_liveness.specs.Rounds.{takes}
use Rattle.tcp_liveness.specs.Spans.{IsHeldAmong, IsHeldIn, IsThroughAmong}
use Rattle.tcp_liveness.proofs.CourseExchange.{by_put}
use Rattle.tcp_liveness.proofs.CourseInstants.{at_most, upto}
use Rattle.tcp_liveness.proofs.Moments.{handed_instant}
use Rattle.tcp_liveness.proofs.Kept.{reached_by}
use Rattle.tcp_liveness.proofs.LatePayload.{there_of}
use Rattle.tcp_liveness.proofs.OnwardPairs.{IsBegun, MovesIn, begun_after, by_steps}
use Rattle.tcp_liveness.proofs.Opened.{is_open}
use Rattle.tcp_liveness.proofs.Pair.{not_closed}
use Rattle.tcp_liveness.proofs.Turns.{late_on}

abbrev pub Course : Type 0
Course = List (ℤ × PairEvent)

abbrev pub after_all : PairValue → Course → PairValue
after_all p [] = p
after_all p (x ∷ course) = after_all (takes p x.1) course

-- no side's clock is ahead of the one of the course
own_clock : (s : PairSide) (others : List SentSegment) (event : PairEvent) (now : ℤ) → s.instant ≤ℤ now → IsAt now event → (acts s others event).side.instant ≤ℤ now
own_clock s others (Listen of endpoint) now clock is = clock
own_clock s others (Connect of remote local) now clock is = clock
own_clock s others (Send of bytes) now clock is = clock
own_clock s others (Recv of count) now clock is = by (recv_answer s.socket count) where
  by : (got : Result ℕ RecvError) → (reads s got).side.instant ≤ℤ now
  by (Ok n) = clock
  by (Err fault) = clock
own_clock s others (Close of) now clock is = clock
own_clock s others (Abort of) now clock is = clock
own_clock s others (TcpSetting of setting) now clock is = clock
own_clock s others (Clock of instant) now clock is = at_most instant now is
own_clock s others (Offer of instant true) now clock is = at_most instant now is
own_clock s others (Offer of instant false) now clock is = at_most instant now is
own_clock s others (Deliver from k) now clock is = subst (λ (m : ℤ). m ≤ℤ now) (sym (handed_instant (other from) s (slice_get others k))) clock

pub clock_on :
    (p : PairValue) (side : Side) (event : PairEvent) (old now : ℤ) → (at p.sides side).instant ≤ℤ old → old ≤ℤ now → IsAt now event
    → (at (takes p event).sides side).instant ≤ℤ now
clock_on p side event old now clock later is =
    by_put (λ (s : PairSide). s.instant ≤ℤ now) p.sides (side_of event) side (acting p event).side
    (λ own.
    own_clock (at p.sides (side_of event)) (at p.sides (other (side_of event))).sent event now
    (subst (λ (s : Side). (at p.sides s).instant ≤ℤ now) (sym own) (upto (at p.sides side).instant old now clock later)) is)
    (upto (at p.sides side).instant old now clock later)

pub clock_all :
    (p : PairValue) (side : Side) (now : ℤ) (course : Course) → (at p.sides side).instant ≤ℤ now → IsClocked now course
    → (at (after_all p course).sides side).instant ≤ℤ end_of now course
clock_all p side now [] clock c = clock
clock_all p side now (x ∷ course) clock c = clock_all (takes p x.1) side x.0 course (clock_on p side x.1 now x.0 clock c.0 c.1.0) c.1.1

-- TWO PARTS OF A COURSE

pub steps_first : (p q : PairValue) (first rest : Course) → Steps p (events_of (first ++ rest)) q → Steps p (events_of first) (after_all p first)
steps_first p q [] rest s = refl
steps_first p q (x ∷ first) rest s = (s.0, steps_first (takes p x.1) q first rest s.1)

pub steps_rest : (p q : PairValue) (first rest : Course) → Steps p (events_of (first ++ rest)) q → Steps (after_all p first) (events_of rest) q
steps_rest p q [] rest s = s
steps_rest p q (x ∷ first) rest s = steps_rest (takes p x.1) q first rest s.1

pub end_parts : (now : ℤ) (first rest : Course) → end_of now (first ++ rest) ≡ end_of (end_of now first) rest
end_parts now [] rest = refl
end_parts now (x ∷ first) rest = end_parts x.0 first rest

pub clocked_first : (now : ℤ) (first rest : Course) → IsClocked now (first ++ rest) → IsClocked now first
clocked_first now [] rest c = tt
clocked_first now (x ∷ first) rest c = (c.0, (c.1.0, clocked_first x.0 first rest c.1.1))

pub clocked_rest : (now : ℤ) (first rest : Course) → IsClocked now (first ++ rest) → IsClocked (end_of now first) rest
clocked_rest now [] rest c = c
clocked_rest now (x ∷ first) rest c = clocked_rest x.0 first rest c.1.1

pub taken_first : (first rest : Course) → AreTaken (first ++ rest) → AreTaken first
taken_first [] rest a = tt
taken_first (x ∷ first) rest a = (a.0, taken_first first rest a.1)

pub taken_rest : (first rest : Course) → AreTaken (first ++ rest) → AreTaken rest
taken_rest [] rest a = a
taken_rest (x ∷ first) rest a = taken_rest first rest a.1

heard_first :
    (last : ℤ) (side : Side) (k : ℕ) (p : PairValue) (first rest : Course) → IsHeardBy last side k p (first ++ rest) → IsHeardBy last side k p first
heard_first last side k p [] rest c = tt
heard_first last side k p (x ∷ first) rest c = (c.0, by (λ more. heard_first last side k (takes p x.1) first rest more) c.1) where
  by :
      (IsHeardBy last side k (takes p x.1) (first ++ rest) → IsHeardBy last side k (takes p x.1) first)
      → IsHeardWith p side k x.1 ⊎ IsHeardBy last side k (takes p x.1) (first ++ rest)
      → IsHeardWith p side k x.1 ⊎ IsHeardBy last side k (takes p x.1) first
  by on (inl is) = inl is
  by on (inr more) = inr (on more)

pub delivers_first : (delay : ℕ) (p : PairValue) (first rest : Course) → DeliversWithin delay p (first ++ rest) → DeliversWithin delay p first
delivers_first delay p [] rest d = tt
delivers_first delay p (x ∷ first) rest d =
    ((λ side k old new. heard_first (x.0 +ℤ pos delay) side k (takes p x.1) first rest (d.0 side k old new)), delivers_first delay (takes p x.1) first rest d.1)

pub delivers_rest : (delay : ℕ) (p : PairValue) (first rest : Course) → DeliversWithin delay p (first ++ rest) → DeliversWithin delay (after_all p first) rest
delivers_rest delay p [] rest d = d
delivers_rest delay p (x ∷ first) rest d = delivers_rest delay (takes p x.1) first rest d.1

asked_first :
    (due last : ℤ) (side : Side) (p : PairValue) (first rest : Course) → IsAskedBy due last side p (first ++ rest) → IsAskedBy due last side p first
asked_first due last side p [] rest a = tt
asked_first due last side p (x ∷ first) rest a = (a.0, by (λ more. asked_first due last side (takes p x.1) first rest more) a.1) where
  by :
      (IsAskedBy due last side (takes p x.1) (first ++ rest) → IsAskedBy due last side (takes p x.1) first)
      → Asks side x.1 ⊎ ((Wants due (takes p x.1) side → ⊥) ⊎ IsAskedBy due last side (takes p x.1) (first ++ rest))
      → Asks side x.1 ⊎ ((Wants due (takes p x.1) side → ⊥) ⊎ IsAskedBy due last side (takes p x.1) first)
  by on (inl asks) = inl asks
  by on (inr (inl not)) = inr (inl not)
  by on (inr (inr more)) = inr (inr (on more))

pub asks_first : (wait : ℕ) (now : ℤ) (p : PairValue) (first rest : Course) → AsksWithin wait now p (first ++ rest) → AsksWithin wait now p first
asks_first wait now p [] rest a = tt
asks_first wait now p (x ∷ first) rest a = (
  (λ side due later wants. asked_first due (due +ℤ pos wait) side p (x ∷ first) rest (a.0 side due later wants)),
  asks_first wait x.0 (takes p x.1) first rest a.1,
)

pub asks_rest : (wait : ℕ) (now : ℤ) (p : PairValue) (first rest : Course) → AsksWithin wait now p (first ++ rest) →
    AsksWithin wait (end_of now first) (after_all p first) rest
asks_rest wait now p [] rest a = a
asks_rest wait now p (x ∷ first) rest a = asks_rest wait x.0 (takes p x.1) first rest a.1

read_first : (last : ℤ) (side : Side) (first rest : Course) → IsReadBy last side (first ++ rest) → IsReadBy last side first
read_first last side [] rest r = tt
read_first last side (x ∷ first) rest r = (r.0, by (λ more. read_first last side first rest more) r.1) where
  by :
      (IsReadBy last side (first ++ rest) → IsReadBy last side first) → Reads side x.1 ⊎ IsReadBy last side (first ++ rest)
      → Reads side x.1 ⊎ IsReadBy last side first
  by on (inl reads) = inl reads
  by on (inr more) = inr (on more)

pub reads_first :
    (read : ℕ) (now : ℤ) (p : PairValue) (side : Side) (first rest : Course) → ReadsWithin read now p side (first ++ rest)
    → ReadsWithin read now p side first
reads_first read now p side [] rest r = tt
reads_first read now p side (x ∷ first) rest r =
    ((λ none. read_first (now +ℤ pos read) side (x ∷ first) rest (r.0 none)), reads_first read x.0 (takes p x.1) side first rest r.1)

pub reads_rest :
    (read : ℕ) (now : ℤ) (p : PairValue) (side : Side) (first rest : Course) → ReadsWithin read now p side (first ++ rest)
    → ReadsWithin read (end_of now first) (after_all p first) side rest
reads_rest read now p side [] rest r = r
reads_rest read now p side (x ∷ first) rest r = reads_rest read x.0 (takes p x.1) side first rest r.1

pub hindered_first : (p : PairValue) (side : Side) (first rest : Course) → IsHinderedAmong p side (events_of first) → IsHinderedAmong p side (events_of (first ++ rest))
hindered_first p side [] rest never = absurd never
hindered_first p side (x ∷ first) rest (inl it) = inl it
hindered_first p side (x ∷ first) rest (inr it) = inr (hindered_first (takes p x.1) side first rest it)

pub hindered_rest :
    (p : PairValue) (side : Side) (first rest : Course) → IsHinderedAmong (after_all p first) side (events_of rest)
    → IsHinderedAmong p side (events_of (first ++ rest))
hindered_rest p side [] rest it = it
hindered_rest p side (x ∷ first) rest it = inr (hindered_rest (takes p x.1) side first rest it)

pub held_now : (p : PairValue) (side : Side) (course : Course) → IsHeldIn p side → IsHeldAmong p side (events_of course)
held_now p side [] it = it
held_now p side (x ∷ course) it = inl it

pub held_rest :
    (p : PairValue) (side : Side) (first rest : Course) → IsHeldAmong (after_all p first) side (events_of rest) → IsHeldAmong p side (events_of (first ++ rest))
held_rest p side [] rest it = it
held_rest p side (x ∷ first) rest it = inr (held_rest (takes p x.1) side first rest it)

pub held_first : (p : PairValue) (side : Side) (first rest : Course) → IsHeldAmong p side (events_of first) → IsHeldAmong p side (events_of (first ++ rest))
held_first p side [] rest it = held_now p side rest it
held_first p side (x ∷ first) rest (inl it) = inl it
held_first p side (x ∷ first) rest (inr it) = inr (held_first (takes p x.1) side first rest it)

pub through_rest :
    (p : PairValue) (side : Side) (first rest : Course) → IsThroughAmong (after_all p first) side (events_of rest)
    → IsThroughAmong p side (events_of (first ++ rest))
through_rest p side [] rest it = it
through_rest p side (x ∷ first) rest it = inr (through_rest (takes p x.1) side first rest it)

pub through_now : (p : PairValue) (side : Side) (course : Course) → left_in p side ≡ 0 → IsThroughAmong p side (events_of course)
through_now p side [] e = e
through_now p side (x ∷ course) e = inl e

-- BEFORE THE END

was_open : (old new : Bool) → (old ≡ true → new ≡ true) → new ≡ false → old ≡ false
was_open true new e f = clash (sym (e refl) ∙ f)
was_open false new e f = refl

-- a connection that is there in the end was there before
pub there_before : (p q : PairValue) (side : Side) → IsBegun p side → MovesIn p q side → is_synchronized (socket_of q side).tcb.state ≡ true →
    is_synchronized (socket_of p side).tcb.state ≡ true
there_before p q side b m there =
    late_on (socket_of p side).tcb.state b.early
    (was_open (is_closed (socket_of p side).tcb.state) (is_closed (socket_of q side).tcb.state) m.closed
    (not_closed (socket_of q side).tcb.state there))

-- events led from `p` to `m`, and lead from there to `q`
pub record Midway (p m q : PairValue) : Type 0 where
  pub reached : IsReached m
  pub begun : (of : Side) → IsBegun m of
  pub to : (of : Side) → MovesIn p m of
  pub from : (of : Side) → MovesIn m q of
  pub opened : (of : Side) → IsOpen (socket_of m of).tcb

pub midway :
    (p m q : PairValue) → IsReached p → ((of : Side) → IsBegun p of) → AreThere q → (before after : List PairEvent) → Steps p before m → Steps m after q
    → Midway p m q
midway p m q r begun there before after s t = record {
  reached = rm;
  begun = begun_m;
  to = to;
  from = from;
  opened = λ of. is_open m of rm (there_before m q of (begun_m of) (from of) (there_of q of there)) (begun_m of).syn;
}
  where
    rm : IsReached m
    rm = reached_by p m before r s

    to : (of : Side) → MovesIn p m of
    to of = by_steps p before m r (begun A) (begun B) s of

    begun_m : (of : Side) → IsBegun m of
    begun_m of = begun_after p m of (to of) (begun of)

    from : (of : Side) → MovesIn m q of
    from of = by_steps m after q rm (begun_m A) (begun_m B) t of
