-- Events that happen at one instant, of which all but the last let both sockets be, in a course.
use Rattle.std.proofs.Common.{◌≡◌, ◌⊎◌, inl, inr, ℕ, ◌<◌, ◌≤◌, ℤ, pos, ◌+ℤ◌, ◌≤ℤ◌, ◌<ℤ◌, int_lt, Bool, true, false, List, [], ◌∷◌, ◌++◌, Some, slice_get, refl, sym, subst, arith}
use Rattle.std.proofs.lemmas.Int.{ints}
use Rattle.socket_context.specs.Offers.{IsBefore}
use Rattle.tcp_state.specs.PollAt.{PollAt}
use Rattle.tcp_state.specs.PollAt.TheVariants as When
use Rattle.tcp_block.specs.Due.{poll_of}
use Rattle.tcp_block.specs.Value.{TcpValue, free_in}
use Rattle.tcp_refinement.specs.Pair.History.{pasts}
use Rattle.tcp_refinement.specs.Pair.Sides.{at}
use Rattle.tcp_refinement.specs.Pair.Values.{PairValue}
use Rattle.tcp_refinement.specs.declared.pair.event.PairEvent.{PairEvent}
use Rattle.tcp_refinement.specs.declared.pair.event.SentSegment.{SentSegment}
use Rattle.tcp_refinement.specs.declared.pair.event.Side.{Side}
use Rattle.tcp_liveness.specs.Course.{AreTaken, Asks, AsksWithin, ComesAs, DeliversWithin, IsAskedBy, IsAt, IsClocked, IsHeardBy, IsHeardWith, IsTaken, Wants, events_of}
use Rattle.tcp_liveness.specs.Pair.{HasStream, mtu_of, next_sent, socket_of}
use Rattle.tcp_liveness.specs.Readers.{IsReadBy, Reads, ReadsWithin}
use Rattle.tcp_liveness.specs.Rounds.{takes}
use Rattle.lan.proofs.Worlds.AtLink.Paired.Runs.{after_events}
use Rattle.proof_stack.specs.Progress.Edges.{ArrivesBy, ArrivesWith, ArrivesWithin, KeepsStream}

abbrev pub Course : Type 0
Course = List (ℤ × PairEvent)

-- these events, all at one instant
abbrev pub all_at : ℤ → List PairEvent → Course
all_at instant [] = []
all_at instant (event ∷ events) = (instant, event) ∷ all_at instant events

-- This event leaves both sockets, and what they sent, as they are. Nobody is asked, and nobody reads.
pub record IsQuiet (p : PairValue) (event : PairEvent) : Type 0 where
  pub socket : (d : Side) → socket_of (takes p event) d ≡ socket_of p d
  pub mtu : (d : Side) → mtu_of (takes p event) d ≡ mtu_of p d
  pub sent : (d : Side) → next_sent (takes p event) d ≡ next_sent p d
  pub past : (d : Side) → at (pasts (takes p event).history) d ≡ at (pasts p.history) d
  pub asks : (d : Side) → Asks d event → ⊥
  pub reads : (d : Side) → Reads d event → ⊥

-- each but the last is so
abbrev pub AreQuiet : PairValue → List PairEvent → Type 0
AreQuiet p [] = Unit {0}
AreQuiet p (event ∷ []) = Unit {0}
AreQuiet p (event ∷ then ∷ events) = IsQuiet p event × AreQuiet (takes p event) (then ∷ events)

-- this holds of the last one, and of the pair before it
abbrev pub OfLast : (PairValue → PairEvent → Type 0) → PairValue → List PairEvent → Type 0
OfLast IsSo p [] = ⊥
OfLast IsSo p (event ∷ []) = IsSo p event
OfLast IsSo p (event ∷ then ∷ events) = OfLast IsSo (takes p event) (then ∷ events)

abbrev pub AllAre : (PairEvent → Type 0) → List PairEvent → Type 0
AllAre IsSo [] = Unit {0}
AllAre IsSo (event ∷ events) = IsSo event × AllAre IsSo events

-- when the clock stands after them
abbrev pub upon : ℤ → ℤ → List PairEvent → ℤ
upon since t [] = since
upon since t (event ∷ events) = t

-- WHETHER A SIDE WANTS TO BE ASKED

decided : (instant : ℤ) (at : PollAt) → IsBefore instant at ⊎ (IsBefore instant at → ⊥)
decided instant When.Now = inr (λ never. never)
decided instant When.Ingress = inl tt
decided instant (When.Time due) = by (int_lt instant due) refl where
  before : int_lt instant due ≡ true → instant <ℤ due
  before e = first_of (omega (arith, ints), grind (arith, ints))

  not_before : int_lt instant due ≡ false → instant <ℤ due → ⊥
  not_before e is = first_of (omega (arith, ints), grind (arith, ints))

  by : (t : Bool) → int_lt instant due ≡ t → IsBefore instant (When.Time due) ⊎ (IsBefore instant (When.Time due) → ⊥)
  by true e = inl (before e)
  by false e = inr (λ is. not_before e is)

pub wants_or_not : (instant : ℤ) (p : PairValue) (side : Side) → Wants instant p side ⊎ (Wants instant p side → ⊥)
wants_or_not instant p side = by (decided instant (poll_of (mtu_of p side) (socket_of p side))) where
  by : IsBefore instant (poll_of (mtu_of p side) (socket_of p side)) ⊎ (IsBefore instant (poll_of (mtu_of p side) (socket_of p side)) → ⊥)
      → Wants instant p side ⊎ (Wants instant p side → ⊥)
  by (inl before) = inr (λ wants. wants before)
  by (inr not) = inl not

-- a quiet event changes nothing of it
abbrev Before : ℤ → ℕ → TcpValue → Type 0
Before instant mtu v = IsBefore instant (poll_of mtu v) → ⊥

wants_on : (instant : ℤ) (p : PairValue) (event : PairEvent) (side : Side) → IsQuiet p event → Wants instant p side → Wants instant (takes p event) side
wants_on instant p event side quiet wants =
    subst (λ (v : TcpValue). Before instant (mtu_of (takes p event) side) v) (sym (quiet.socket side))
    (subst (λ (n : ℕ). Before instant n (socket_of p side)) (sym (quiet.mtu side)) wants)

wants_back : (instant : ℤ) (p : PairValue) (event : PairEvent) (side : Side) → IsQuiet p event → Wants instant (takes p event) side → Wants instant p side
wants_back instant p event side quiet wants =
    subst (λ (v : TcpValue). Before instant (mtu_of p side) v) (quiet.socket side)
    (subst (λ (n : ℕ). Before instant n (socket_of (takes p event) side)) (quiet.mtu side) wants)

-- ASKED

-- how it goes on for a side that wants to be asked
abbrev pub AskedThen : ℤ → ℤ → Side → PairValue → List PairEvent → Course → Type 0
AskedThen due last side p events rest =
    OfLast (λ q e. Asks side e) p events
    ⊎ ((Wants due (after_events p events) side → ⊥) ⊎ IsAskedBy due last side (after_events p events) rest)

pub asked_at : (t due last : ℤ) (side : Side) (rest : Course) (p : PairValue) (events : List PairEvent) → AreQuiet p events → Wants due p side → t ≤ℤ last
    → AskedThen due last side p events rest → IsAskedBy due last side p (all_at t events ++ rest)
asked_at t due last side rest p [] quiet wants upto (inl never) = absurd never
asked_at t due last side rest p [] quiet wants upto (inr (inl not)) = absurd (not wants)
asked_at t due last side rest p [] quiet wants upto (inr (inr on)) = on
asked_at t due last side rest p (event ∷ []) quiet wants upto so = (upto, so)
asked_at t due last side rest p (event ∷ then ∷ events) quiet wants upto so =
    (upto, inr (inr (asked_at t due last side rest (takes p event) (then ∷ events) quiet.1 (wants_on due p event side quiet.0 wants) upto so)))

-- so it is for each side from an instant on
abbrev pub Asked : ℕ → ℤ → PairValue → Course → Type 0
Asked wait since p course = (side : Side) (due : ℤ) → since ≤ℤ due → Wants due p side → IsAskedBy due (due +ℤ pos wait) side p course

same_time : (t : ℤ) → t ≤ℤ t
same_time t = first_of (omega (arith, ints), grind (arith, ints))

upto : (a b c : ℤ) → a ≤ℤ b → b ≤ℤ c → a ≤ℤ c
upto a b c e f = grind arith

pub asks_at : (t : ℤ) (wait : ℕ) (rest : Course) (p : PairValue) (events : List PairEvent) (since : ℤ) → AreQuiet p events → since ≤ℤ t
    → Asked wait since p (all_at t events ++ rest) → AsksWithin wait (upon since t events) (after_events p events) rest
    → AsksWithin wait since p (all_at t events ++ rest)
asks_at t wait rest p [] since quiet later asked more = more
asks_at t wait rest p (event ∷ []) since quiet later asked more = (asked, more)
asks_at t wait rest p (event ∷ then ∷ events) since quiet later asked more =
    (asked, asks_at t wait rest (takes p event) (then ∷ events) t quiet.1 (same_time t) onward more)
  where
    onward : Asked wait t (takes p event) (all_at t (then ∷ events) ++ rest)
    onward side due from wants = by (asked side due (upto since t due later from) (wants_back due p event side quiet.0 wants)).1 where
      by : Asks side event ⊎ ((Wants due (takes p event) side → ⊥)
          ⊎ IsAskedBy due (due +ℤ pos wait) side (takes p event) (all_at t (then ∷ events) ++ rest))
          → IsAskedBy due (due +ℤ pos wait) side (takes p event) (all_at t (then ∷ events) ++ rest)
      by (inl asks) = absurd (quiet.0.asks side asks)
      by (inr (inl not)) = absurd (not wants)
      by (inr (inr on)) = on

-- SEGMENTS COME

pub no_more : (k n m : ℕ) → m ≡ n → n ≤ k → k < m → ⊥
no_more k n m same old new = omega (arith, same, old, new)

-- with this event the segment of a side of this number comes, or one that equals it, and so it is for the pair
abbrev pub ComesSo : (PairValue → Side → SentSegment → Type 0) → PairValue → Side → ℕ → PairEvent → Type 0
ComesSo Then p side k event = ComesAs p side k event × ((x : SentSegment) → slice_get (at p.sides side).sent k ≡ Some x → Then p side x)

-- by an event with which a segment comes, in whichever way
module _ (With : PairValue → Side → ℕ → PairEvent → Type 0) where
  abbrev pub ComesBy : ℤ → Side → ℕ → PairValue → Course → Type 0
  ComesBy last side k p [] = Unit {0}
  ComesBy last side k p (x ∷ course) = (x.0 ≤ℤ last) × (With p side k x.1 ⊎ ComesBy last side k (takes p x.1) course)

  abbrev pub AllCome : ℕ → PairValue → Course → Type 0
  AllCome delay p [] = Unit {0}
  AllCome delay p (x ∷ course) =
      ((side : Side) (k : ℕ) → next_sent p side ≤ k → k < next_sent (takes p x.1) side → ComesBy (x.0 +ℤ pos delay) side k (takes p x.1) course)
      × AllCome delay (takes p x.1) course

  pub comes_at : (t last : ℤ) (side : Side) (k : ℕ) (rest : Course) (p : PairValue) (events : List PairEvent) → t ≤ℤ last
      → OfLast (λ q e. With q side k e) p events ⊎ ComesBy last side k (after_events p events) rest
      → ComesBy last side k p (all_at t events ++ rest)
  comes_at t last side k rest p [] upto (inl never) = absurd never
  comes_at t last side k rest p [] upto (inr on) = on
  comes_at t last side k rest p (event ∷ []) upto so = (upto, so)
  comes_at t last side k rest p (event ∷ then ∷ events) upto so = (upto, inr (comes_at t last side k rest (takes p event) (then ∷ events) upto so))

  pub all_come_at : (t : ℤ) (delay : ℕ) (rest : Course) (p : PairValue) (events : List PairEvent) → AreQuiet p events
      → ((side : Side) (k : ℕ) → next_sent p side ≤ k → k < next_sent (after_events p events) side
      → ComesBy (t +ℤ pos delay) side k (after_events p events) rest)
      → AllCome delay (after_events p events) rest → AllCome delay p (all_at t events ++ rest)
  all_come_at t delay rest p [] quiet new more = more
  all_come_at t delay rest p (event ∷ []) quiet new more = (new, more)
  all_come_at t delay rest p (event ∷ then ∷ events) quiet new more = (
    (λ side k old sent. absurd (no_more k (next_sent p side) (next_sent (takes p event) side) (quiet.0.sent side) old sent)),
    all_come_at t delay rest (takes p event) (then ∷ events) quiet.1
        (λ side k old sent. new side k (subst (λ (n : ℕ). n ≤ k) (quiet.0.sent side) old) sent) more,
  )

-- what is heard so is heard
heard_by : (last : ℤ) (side : Side) (k : ℕ) (p : PairValue) (course : Course) → ComesBy IsHeardWith last side k p course → IsHeardBy last side k p course
heard_by last side k p [] is = tt
heard_by last side k p (x ∷ course) is = (is.0, by (λ on. heard_by last side k (takes p x.1) course on) is.1) where
  by : (ComesBy IsHeardWith last side k (takes p x.1) course → IsHeardBy last side k (takes p x.1) course)
      → IsHeardWith p side k x.1 ⊎ ComesBy IsHeardWith last side k (takes p x.1) course
      → IsHeardWith p side k x.1 ⊎ IsHeardBy last side k (takes p x.1) course
  by further (inl comes) = inl comes
  by further (inr on) = inr (further on)

pub all_heard : (delay : ℕ) (p : PairValue) (course : Course) → AllCome IsHeardWith delay p course → DeliversWithin delay p course
all_heard delay p [] all = tt
all_heard delay p (x ∷ course) all = (
  λ side k old new. heard_by (x.0 +ℤ pos delay) side k (takes p x.1) course (all.0 side k old new),
  all_heard delay (takes p x.1) course all.1,
)

-- what arrives so arrives
arrives_by : (last : ℤ) (side : Side) (k : ℕ) (p : PairValue) (course : Course) → ComesBy ArrivesWith last side k p course → ArrivesBy last side k p course
arrives_by last side k p [] is = tt
arrives_by last side k p (x ∷ course) is = (is.0, by (λ on. arrives_by last side k (takes p x.1) course on) is.1) where
  by : (ComesBy ArrivesWith last side k (takes p x.1) course → ArrivesBy last side k (takes p x.1) course)
      → ArrivesWith p side k x.1 ⊎ ComesBy ArrivesWith last side k (takes p x.1) course
      → ArrivesWith p side k x.1 ⊎ ArrivesBy last side k (takes p x.1) course
  by further (inl comes) = inl comes
  by further (inr on) = inr (further on)

pub all_arrive : (delay : ℕ) (p : PairValue) (course : Course) → AllCome ArrivesWith delay p course → ArrivesWithin delay p course
all_arrive delay p [] all = tt
all_arrive delay p (x ∷ course) all = (
  λ side k old new. arrives_by (x.0 +ℤ pos delay) side k (takes p x.1) course (all.0 side k old new),
  all_arrive delay (takes p x.1) course all.1,
)

-- READ

pub read_at : (t last : ℤ) (side : Side) (rest : Course) (p : PairValue) (events : List PairEvent) → t ≤ℤ last
    → OfLast (λ q e. Reads side e) p events ⊎ IsReadBy last side rest → IsReadBy last side (all_at t events ++ rest)
read_at t last side rest p [] upto (inl never) = absurd never
read_at t last side rest p [] upto (inr on) = on
read_at t last side rest p (event ∷ []) upto so = (upto, so)
read_at t last side rest p (event ∷ then ∷ events) upto so = (upto, inr (read_at t last side rest (takes p event) (then ∷ events) upto so))

read_later : (last more : ℤ) (side : Side) (course : Course) → last ≤ℤ more → IsReadBy last side course → IsReadBy more side course
read_later last more side [] later is = tt
read_later last more side (x ∷ course) later is = (upto x.0 last more is.0 later, by (λ on. read_later last more side course later on) is.1) where
  by : (IsReadBy last side course → IsReadBy more side course) → Reads side x.1 ⊎ IsReadBy last side course → Reads side x.1 ⊎ IsReadBy more side course
  by further (inl reads) = inl reads
  by further (inr on) = inr (further on)

abbrev pub Read : ℕ → ℤ → PairValue → Side → Course → Type 0
Read read since p side course = free_in (socket_of p side) ≡ 0 → IsReadBy (since +ℤ pos read) side course

more_time : (a b : ℤ) (n : ℕ) → a ≤ℤ b → (a +ℤ pos n) ≤ℤ (b +ℤ pos n)
more_time a b n e = first_of (omega (arith, ints), grind (arith, ints))

pub reads_at : (t : ℤ) (read : ℕ) (side : Side) (rest : Course) (p : PairValue) (events : List PairEvent) (since : ℤ) → AreQuiet p events → since ≤ℤ t
    → Read read since p side (all_at t events ++ rest) → ReadsWithin read (upon since t events) (after_events p events) side rest
    → ReadsWithin read since p side (all_at t events ++ rest)
reads_at t read side rest p [] since quiet later reads more = more
reads_at t read side rest p (event ∷ []) since quiet later reads more = (reads, more)
reads_at t read side rest p (event ∷ then ∷ events) since quiet later reads more =
    (reads, reads_at t read side rest (takes p event) (then ∷ events) t quiet.1 (same_time t) onward more)
  where
    onward : Read read t (takes p event) side (all_at t (then ∷ events) ++ rest)
    onward full = by (reads (subst (λ (v : TcpValue). free_in v ≡ 0) (quiet.0.socket side) full)).1 where
      by : Reads side event ⊎ IsReadBy (since +ℤ pos read) side (all_at t (then ∷ events) ++ rest)
          → IsReadBy (t +ℤ pos read) side (all_at t (then ∷ events) ++ rest)
      by (inl is) = absurd (quiet.0.reads side is)
      by (inr on) = read_later (since +ℤ pos read) (t +ℤ pos read) side (all_at t (then ∷ events) ++ rest) (more_time since t read later) on

-- STREAMS

-- it is no empty one where they begin, nor after them
pub stream_at : (t : ℤ) (side : Side) (rest : Course) (p : PairValue) (events : List PairEvent) → AreQuiet p events → HasStream (at (pasts p.history) side)
    → KeepsStream (after_events p events) side rest → KeepsStream p side (all_at t events ++ rest)
stream_at t side rest p [] quiet stream more = more
stream_at t side rest p (event ∷ []) quiet stream more = (stream, more)
stream_at t side rest p (event ∷ then ∷ events) quiet stream more =
    (stream, stream_at t side rest (takes p event) (then ∷ events) quiet.1 (subst HasStream (sym (quiet.0.past side)) stream) more)

-- MOMENTS, AND WHAT GOES

pub clocked_at : (t : ℤ) (rest : Course) (events : List PairEvent) (since : ℤ) → AllAre (IsAt t) events → since ≤ℤ t → IsClocked (upon since t events) rest
    → IsClocked since (all_at t events ++ rest)
clocked_at t rest [] since at later more = more
clocked_at t rest (event ∷ []) since at later more = (later, (at.0, more))
clocked_at t rest (event ∷ then ∷ events) since at later more =
    (later, (at.0, clocked_at t rest (then ∷ events) t at.1 (same_time t) more))

pub taken_at : (t : ℤ) (rest : Course) (events : List PairEvent) → AllAre IsTaken events → AreTaken rest → AreTaken (all_at t events ++ rest)
taken_at t rest [] taken more = more
taken_at t rest (event ∷ events) taken more = (taken.0, taken_at t rest events taken.1 more)

pub events_at : (t : ℤ) (rest : Course) (events more : List PairEvent) → events_of rest ≡ more → events_of (all_at t events ++ rest) ≡ events ++ more
events_at t rest [] more e = e
events_at t rest (event ∷ events) more e = (λ i. event ∷ events_at t rest events more e i)
