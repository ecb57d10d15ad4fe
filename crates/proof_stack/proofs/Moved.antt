-- Moves that come in time are a course in time.
use Rattle.std.proofs.Common.{◌≡◌, ◌≢◌, ◌⊎◌, inl, inr, ℕ, ◌<◌, ◌≤◌, ◌==◌, ℤ, pos, ◌+ℤ◌, ◌≤ℤ◌, Bool, true, false, if◌then◌else◌, List, []}
use Rattle.std.proofs.Common.{◌∷◌, ◌++◌, Option, Some, None, refl, sym, ap, ◌∙◌, subst, append_assoc, arith}
use Rattle.std.proofs.lemmas.Bool.Decides.{eqb_tells}
use Rattle.std.proofs.lemmas.Int.{ints}
use Rattle.ip_wire.specs.TcpHeader.{TcpHeader}
use Rattle.net_base.specs.Time.{IsMoment}
use Rattle.socket_context.specs.Offers.{IsBefore}
use Rattle.sockets.specs.Context.{ContextValue}
use Rattle.tcp_block.specs.Due.{poll_of}
use Rattle.tcp_block.specs.Value.{TcpValue, free_in}
use Rattle.tcp_refinement.specs.Pair.History.{pasts}
use Rattle.tcp_refinement.specs.Pair.Sides.{at}
use Rattle.tcp_refinement.specs.Pair.Sides as Sides
use Rattle.tcp_refinement.specs.Pair.Values.{HostContext, PairValue}
use Rattle.tcp_refinement.specs.declared.pair.event.PairEvent.{PairEvent}
use Rattle.tcp_refinement.specs.declared.pair.event.PairEvent.TheVariants.{Clock}
use Rattle.tcp_refinement.specs.declared.pair.event.SentSegment.{SentSegment}
use Rattle.tcp_refinement.specs.declared.pair.event.Side as Pairs
use Rattle.tcp_refinement.specs.declared.pair.event.Side.TheVariants as Of
use Rattle.tcp_liveness.specs.Clocks.{arrives_stale}
use Rattle.tcp_liveness.specs.Course.{AreTaken, Asks, AsksWithin, DeliversWithin, IsAskedBy, IsClocked, IsHeard, Wants, end_of, events_of}
use Rattle.tcp_liveness.specs.Pair.{HasStream, next_sent, socket_of}
use Rattle.tcp_liveness.specs.Readers.{IsReadBy, Reads, ReadsWithin}
use Rattle.tcp_liveness.specs.Rounds.{takes}
use Rattle.lan.specs.declared.at_link.history.event.Side.{Side}
use Rattle.lan.specs.declared.at_link.history.event.Side.TheVariants.{A, B}
use Rattle.lan.specs.Worlds.AtLink.Happening.{AreNumbered, Happening, events_of_moves, events_of_one, sent_in, steps_of}
use Rattle.lan.specs.Worlds.AtLink.Kinds.{other}
use Rattle.lan.specs.Worlds.AtLink.Moves.{IsRun, Move, Step, after}
use Rattle.lan.specs.Worlds.AtLink.Moves.Move.{Invokes, Passes, Offers, Gives, Takes, Receives, Resets, Changes}
use Rattle.lan.specs.Worlds.AtLink.Paired.{Seat, Shows, clock_after, clocks_after, clocks_in, if_at, shown_to, side_in}
use Rattle.lan.specs.Worlds.AtLink.Parties.{Net, Socket}
use Rattle.lan.proofs.Worlds.AtLink.Paired.Runs.{ShowsAlong, after_events}
use Rattle.proof_stack.proofs.Blocks.{AllCome, AskedThen, ComesBy, ComesSo, Course, OfLast, all_arrive, all_at, all_come_at, all_heard, asked_at, asks_at, clocked_at}
use Rattle.proof_stack.proofs.Blocks.{comes_at, events_at, no_more, read_at, reads_at, stream_at, taken_at, upon, wants_or_not}
use Rattle.proof_stack.proofs.MovedEvents.{clock_quiet, heard_follows, move_asks, move_at, move_brings, move_quiet, move_reads, move_taken, next_same}
use Rattle.proof_stack.specs.Progress.Edges.{ArrivesWithin, KeepsStream}
use Rattle.proof_stack.specs.Progress.Moving.{AreAsked, AreAtInstants, AreBrought, AreHeard, AreLetGo, AsksIn, BringsToOther, BringsAt, ComeInitial, IsAskedIn, IsAtInstant}
use Rattle.proof_stack.specs.Progress.Moving.{IsBroughtBy, IsInitialFor, IsHeardBy, IsReadAt, KeepsStreamIn}
use Rattle.proof_stack.specs.Progress.Moving.{IsReadIn, IsReadInTime, IsAskedAt, IsTcp, SocketIs, WantsIn, end_in, moves_of}

abbrev pub Moves : Type 0
Moves = List (ℤ × Happening)

upto : (a b c : ℤ) → a ≤ℤ b → b ≤ℤ c → a ≤ℤ c
upto a b c e f = grind arith

pub same_instant : (t : ℤ) → t ≤ℤ t
same_instant t = first_of (omega (arith, ints), grind (arith, ints))

pub and_more : (a b : ℤ) (n : ℕ) → a ≤ℤ b → a ≤ℤ (b +ℤ pos n)
and_more a b n e = first_of (omega (arith, ints), grind (arith, ints))

at_most : (instant now : ℤ) → instant ≡ now → instant ≤ℤ now
at_most instant now e = grind arith

either : (last now instant : ℤ) → last ≤ℤ now → (instant ≡ last) ⊎ (instant ≡ now) → instant ≤ℤ now
either last now instant before (inl same) = subst (λ (m : ℤ). m ≤ℤ now) (sym same) before
either last now instant before (inr same) = at_most instant now same

shown_by : (last now : ℤ) (at slot : ℕ) (cx : ContextValue) → last ≤ℤ now → (at ≡ slot → cx.instant ≤ℤ now) → clock_after last (if_at at slot cx) ≤ℤ now
shown_by last now at slot cx before is = by (eqb_tells at slot) where
  by : (((at == slot) ≡ true) × (at ≡ slot)) ⊎ (((at == slot) ≡ false) × (at ≢ slot)) → clock_after last (if_at at slot cx) ≤ℤ now
  by (inl same) = subst (λ (t : Bool). clock_after last (if t then Some cx else None) ≤ℤ now) (sym same.0) (is same.1)
  by (inr apart) = subst (λ (t : Bool). clock_after last (if t then Some cx else None) ≤ℤ now) (sym apart.0) before

end_at : (t end : ℤ) (rest : Course) (events : List PairEvent) → ((from : ℤ) → end_of from rest ≡ end) → (from : ℤ) → end_of from (all_at t events ++ rest) ≡ end
end_at t end rest [] ends from = ends from
end_at t end rest (event ∷ events) ends from = end_at t end rest events ends t

-- of each side of a pair
pub every : (Q : Pairs.Side → Type 0) → ((side : Side) → Q (side_in side)) → (d : Pairs.Side) → Q d
every Q each Of.A = each A
every Q each Of.B = each B

-- THE SOCKETS OF A NET AND OF A PAIR

-- The course of moves, in the end of which the clock of a host goes on to the last instant: whatever becomes of the pair in the meantime, it lasts as
-- long as the moves do.
module _ (seats : Side → Seat) (who : Pairs.Side) where
  module _ (clocks : Side → ℤ) (net : Net) (p : PairValue) (sh : Shows seats clocks net p) where
    pub to_pair : (side : Side) (IsSo : TcpValue → Type 0) → SocketIs seats net side IsSo → IsSo (socket_of p (side_in side))
    to_pair side IsSo is = subst (λ (s : Option Socket). IsTcp s IsSo) (sh.socket side) is

    to_net : (side : Side) (IsSo : TcpValue → Type 0) → IsSo (socket_of p (side_in side)) → SocketIs seats net side IsSo
    to_net side IsSo is = subst (λ (s : Option Socket). IsTcp s IsSo) (sym (sh.socket side)) is

    abbrev Later : ℤ → TcpValue → HostContext → Type 0
    Later instant v host = IsBefore instant (poll_of host.ip_mtu v) → ⊥

    pub wants_there : (side : Side) (instant : ℤ) → WantsIn seats instant net side → Wants instant p (side_in side)
    wants_there side instant wants =
        subst (λ (h : HostContext). Later instant (socket_of p (side_in side)) h) (sym (sh.host side))
        (to_pair side (λ v. Later instant v (seats side).host) wants)

    pub wants_here : (side : Side) (instant : ℤ) → Wants instant p (side_in side) → WantsIn seats instant net side
    wants_here side instant wants =
        to_net side (λ v. Later instant v (seats side).host)
        (subst (λ (h : HostContext). Later instant (socket_of p (side_in side)) h) (sh.host side) wants)

  pub shows_first : (clocks : Side → ℤ) (net : Net) (p : PairValue) (moves : List Happening) → ShowsAlong seats clocks net p moves → Shows seats clocks net p
  shows_first clocks net p [] along = along
  shows_first clocks net p (x ∷ moves) along = along.0

  -- the clocks, the net and the pair after one move
  abbrev clocks_on : (Side → ℤ) → Happening → Side → ℤ
  clocks_on clocks x = clocks_after seats clocks x.step

  abbrev pair_on : (Side → ℤ) → PairValue → Happening → PairValue
  pair_on clocks p x = after_events p (events_of_one seats clocks x)

  abbrev Along : (Side → ℤ) → Net → PairValue → Moves → Type 0
  Along clocks net p moves = ShowsAlong seats clocks net p (moves_of moves)

  abbrev pub course_to : (Side → ℤ) → ℤ → Moves → Course
  course_to clocks now [] = (now, Clock who now) ∷ []
  course_to clocks now (x ∷ more) = all_at x.0 (events_of_one seats clocks x.1) ++ course_to (clocks_on clocks x.1) x.0 more

  -- WHAT A MOVE SAYS OF ITS EVENTS

  module _ (clocks : Side → ℤ) (p : PairValue) (x : Happening) where
    abbrev those : List PairEvent
    those = events_of_one seats clocks x

    -- seen from the side of the move
    own : (side : Side) (IsSo : ℕ → Type 0) (Then : Side → Type 0) → x.step.side ≡ side → IsSo (seats side).slot
        → (IsSo (seats x.step.side).slot → Then x.step.side) → Then side
    own side IsSo Then same is follows = subst Then same (follows (subst (λ (s : Side). IsSo (seats s).slot) (sym same) is))

    asks_last : (side : Side) → AsksIn seats side x.step → OfLast (λ q e. Asks (side_in side) e) p those
    asks_last side asks =
        own side (λ slot. IsAskedAt slot x.step.move) (λ s. OfLast (λ q e. Asks (side_in s) e) p those) asks.0 asks.1
        (λ is. move_asks p (seats x.step.side).slot (clocks x.step.side) x.step.side x.number x.step.move is)

    reads_last : (side : Side) → (x.step.side ≡ side) × IsReadAt (seats side).slot x.step.move → OfLast (λ q e. Reads (side_in side) e) p those
    reads_last side reads =
        own side (λ slot. IsReadAt slot x.step.move) (λ s. OfLast (λ q e. Reads (side_in s) e) p those) reads.0 reads.1
        (λ is. move_reads p (seats x.step.side).slot (clocks x.step.side) x.step.side x.number x.step.move is)

  -- ASKED

  asked_course : (moves : Moves) (clocks : Side → ℤ) (net : Net) (p : PairValue) (now : ℤ) → Along clocks net p moves → (side : Side) (due last : ℤ)
      → now ≤ℤ last → Wants due p (side_in side) → IsAskedIn seats due last side net moves → IsAskedBy due last (side_in side) p (course_to clocks now moves)
  asked_course [] clocks net p now along side due last until wants asked = (until, inr (inr tt))
  asked_course (x ∷ more) clocks net p now along side due last until wants asked =
      asked_at x.0 due last (side_in side) rest p (events_of_one seats clocks x.1)
      (move_quiet p (seats x.1.step.side).slot (clocks x.1.step.side) x.1.step.side x.1.number x.1.step.move) wants asked.0
      (by asked.1 (λ w on. asked_course more (clocks_on clocks x.1) (after net x.1.step) (pair_on clocks p x.1) x.0 along.1 side due last asked.0 w on))
    where
      rest : Course
      rest = course_to (clocks_on clocks x.1) x.0 more

      Onward : Type 0
      Onward = Wants due (pair_on clocks p x.1) (side_in side) → IsAskedIn seats due last side (after net x.1.step) more
          → IsAskedBy due last (side_in side) (pair_on clocks p x.1) rest

      by_want : Onward → IsAskedIn seats due last side (after net x.1.step) more
          → Wants due (pair_on clocks p x.1) (side_in side) ⊎ (Wants due (pair_on clocks p x.1) (side_in side) → ⊥)
          → AskedThen due last (side_in side) p (events_of_one seats clocks x.1) rest
      by_want onward on (inl w) = inr (inr (onward w on))
      by_want onward on (inr not) = inr (inl not)

      by : AsksIn seats side x.1.step ⊎ ((WantsIn seats due (after net x.1.step) side → ⊥) ⊎ IsAskedIn seats due last side (after net x.1.step) more)
          → Onward → AskedThen due last (side_in side) p (events_of_one seats clocks x.1) rest
      by (inl asks) onward = inl (asks_last clocks p x.1 side asks)
      by (inr (inl not)) onward =
          inr (inl (λ w.
          not (wants_here (clocks_on clocks x.1) (after net x.1.step) (pair_on clocks p x.1)
          (shows_first (clocks_on clocks x.1) (after net x.1.step) (pair_on clocks p x.1) (moves_of more) along.1) side due w)))
      by (inr (inr on)) onward = by_want onward on (wants_or_not due (pair_on clocks p x.1) (side_in side))

  -- so it is for each side from an instant on
  abbrev AskedFrom : ℕ → ℤ → ℤ → Net → Moves → Type 0
  AskedFrom wait since now net moves =
      (side : Side) (due : ℤ) → since ≤ℤ due → WantsIn seats due net side
      → (now ≤ℤ (due +ℤ pos wait)) × IsAskedIn seats due (due +ℤ pos wait) side net moves

  pub asked_first : (wait : ℕ) (now : ℤ) (net : Net) (moves : Moves) → AreAsked seats wait now net moves → AskedFrom wait now now net moves
  asked_first wait now net [] asked = λ side due later wants. (and_more now due wait later, tt)
  asked_first wait now net (x ∷ more) asked = λ side due later wants. (and_more now due wait later, asked.0 side due later wants)

  -- a move that is no event of the pair leaves a side waiting
  asked_next : (wait : ℕ) (since t : ℤ) (clocks clocks' : Side → ℤ) (net net' : Net) (step : Step) (p : PairValue) (events : List PairEvent) (more : Moves)
      → ((side : Side) → AsksIn seats side step → OfLast (λ q e. Asks (side_in side) e) p events) → Shows seats clocks net p
      → Shows seats clocks' net' (after_events p events)
      → ((side : Side) (due : ℤ) → since ≤ℤ due → WantsIn seats due net side → (t ≤ℤ (due +ℤ pos wait)) × (AsksIn seats side step
      ⊎ ((WantsIn seats due net' side → ⊥) ⊎ IsAskedIn seats due (due +ℤ pos wait) side net' more)))
      → AskedFrom wait t t net' more → AskedFrom wait (upon since t events) t net' more
  asked_next wait since t clocks clocks' net net' step p (event ∷ events) more last shows shows' before onward = onward
  asked_next wait since t clocks clocks' net net' step p [] more last shows shows' before onward =
      λ side due later wants.
      let it = before side due later (wants_here clocks net p shows side due (wants_there clocks' net' p shows' side due wants)) in
      (it.0, by side due wants it.1)
    where
      by : (side : Side) (due : ℤ) → WantsIn seats due net' side → AsksIn seats side step
          ⊎ ((WantsIn seats due net' side → ⊥) ⊎ IsAskedIn seats due (due +ℤ pos wait) side net' more)
          → IsAskedIn seats due (due +ℤ pos wait) side net' more
      by side due wants (inl asks) = absurd (last side asks)
      by side due wants (inr (inl not)) = absurd (not wants)
      by side due wants (inr (inr on)) = on

  upon_upto : (since t : ℤ) (events : List PairEvent) → since ≤ℤ t → upon since t events ≤ℤ t
  upon_upto since t [] later = later
  upon_upto since t (event ∷ events) later = same_instant t

  pub asks_course : (wait : ℕ) (moves : Moves) (clocks : Side → ℤ) (net : Net) (p : PairValue) (since now : ℤ) → Along clocks net p moves → since ≤ℤ now
      → AreAtInstants seats clocks now moves → AskedFrom wait since now net moves → AreAsked seats wait now net moves
      → AsksWithin wait since p (course_to clocks now moves)
  asks_course wait [] clocks net p since now along later instants from asked = (
    every (λ d. (due : ℤ) → since ≤ℤ due → Wants due p d → IsAskedBy due (due +ℤ pos wait) d p (course_to clocks now []))
        (λ side due late wants. ((from side due late (wants_here clocks net p along side due wants)).0, inr (inr tt))),
    tt,
  )
  asks_course wait (x ∷ more) clocks net p since now along later instants from asked =
      let events : List PairEvent = events_of_one seats clocks x.1 in
      let by_then : since ≤ℤ x.0 = upto since now x.0 later instants.0 in
      let shows' = shows_first (clocks_on clocks x.1) (after net x.1.step) (pair_on clocks p x.1) (moves_of more) along.1 in
      asks_at x.0 wait (course_to (clocks_on clocks x.1) x.0 more) p events since
      (move_quiet p (seats x.1.step.side).slot (clocks x.1.step.side) x.1.step.side x.1.number x.1.step.move) by_then
      (every (λ d. (due : ℤ) → since ≤ℤ due → Wants due p d → IsAskedBy due (due +ℤ pos wait) d p (course_to clocks now (x ∷ more)))
      (λ side due late wants.
      let it = from side due late (wants_here clocks net p along.0 side due wants) in
      asked_course (x ∷ more) clocks net p now along side due (due +ℤ pos wait) it.0 wants it.1))
      (asks_course wait more (clocks_on clocks x.1) (after net x.1.step) (pair_on clocks p x.1) (upon since x.0 events) x.0 along.1
      (upon_upto since x.0 events by_then) instants.2
      (asked_next wait since x.0 clocks (clocks_on clocks x.1) net (after net x.1.step) x.1.step p events more (λ side asks. asks_last clocks p x.1 side asks) along.0
      shows' (λ side due late wants. (from side due late wants).1) (asked_first wait x.0 (after net x.1.step) more asked.1)) asked.1)

  -- HEARD

  abbrev Numbered : Net → Moves → Type 0
  Numbered net moves = AreNumbered seats net (moves_of moves)

  -- by an event with which a segment comes, in whichever way
  module _ (names : List ℕ → Bool) (IsSo : TcpValue → TcpHeader → List ℕ → Type 0) (Then : PairValue → Pairs.Side → SentSegment → Type 0)
      (follows : (q : PairValue) (d : Pairs.Side) (x : SentSegment) → IsSo (socket_of q (Sides.other d)) x.segment x.bytes → Then q d x) where
    comes_course : (moves : Moves) (clocks : Side → ℤ) (net : Net) (p : PairValue) → Along clocks net p moves
        → IsRun names net (steps_of (moves_of moves)) → Numbered net moves → (now last : ℤ) (side : Side) (k : ℕ) → now ≤ℤ last
        → IsBroughtBy IsSo seats last side k net moves → ComesBy (ComesSo Then) last (side_in side) k p (course_to clocks now moves)
    comes_course [] clocks net p along is numbered now last side k until brought = (until, inr tt)
    comes_course (x ∷ more) clocks net p along is numbered now last side k until brought =
        comes_at (ComesSo Then) x.0 last (side_in side) k rest p (events_of_one seats clocks x.1) brought.0
        (by brought.1
        (λ on. comes_course more (clocks_on clocks x.1) (after net x.1.step) (pair_on clocks p x.1) along.1 is.1 numbered.1 x.0 last side k brought.0 on))
      where
        rest : Course
        rest = course_to (clocks_on clocks x.1) x.0 more

        back : (s : Side) → other (other s) ≡ s
        back A = refl
        back B = refl

        from : (r : Side) → r ≡ other side → side ≡ other r
        from r same = sym (back side) ∙ ap other (sym same)

        comes : BringsToOther IsSo seats net side k x.1.step → OfLast (λ q e. ComesSo Then q (side_in side) k e) p (events_of_one seats clocks x.1)
        comes b =
            subst (λ (s : Side). OfLast (λ q e. ComesSo Then q (side_in s) k e) p (events_of_one seats clocks x.1)) (sym (from x.1.step.side b.0))
            (move_brings names seats clocks net p along.0 x.1.step.side IsSo Then follows x.1.number k (clocks x.1.step.side) x.1.step.move is.0 numbered.0
            (subst (λ (s : Side). BringsAt IsSo (seats x.1.step.side).slot (sent_in seats net s) k x.1.step.move) (from x.1.step.side b.0)
            (subst (λ (s : Side). BringsAt IsSo (seats s).slot (sent_in seats net side) k x.1.step.move) (sym b.0) b.1)))

        by : BringsToOther IsSo seats net side k x.1.step ⊎ IsBroughtBy IsSo seats last side k (after net x.1.step) more
            → (IsBroughtBy IsSo seats last side k (after net x.1.step) more → ComesBy (ComesSo Then) last (side_in side) k (pair_on clocks p x.1) rest)
            → OfLast (λ q e. ComesSo Then q (side_in side) k e) p (events_of_one seats clocks x.1) ⊎ ComesBy (ComesSo Then) last (side_in side) k (pair_on clocks p x.1) rest
        by (inl b) onward = inl (comes b)
        by (inr on) onward = inr (onward on)

    pub all_come_course : (delay : ℕ) (moves : Moves) (clocks : Side → ℤ) (net : Net) (p : PairValue) (now : ℤ) → Along clocks net p moves
        → IsRun names net (steps_of (moves_of moves)) → Numbered net moves → AreBrought IsSo seats delay net moves
        → AllCome (ComesSo Then) delay p (course_to clocks now moves)
    all_come_course delay [] clocks net p now along is numbered brought =
        ((λ side k old new. absurd (no_more k (next_sent p side) (next_sent (takes p (Clock who now)) side) ((clock_quiet p who now).sent side) old new)), tt)
    all_come_course delay (x ∷ more) clocks net p now along is numbered brought =
        let rest : Course = course_to (clocks_on clocks x.1) x.0 more in
        let shows' = shows_first (clocks_on clocks x.1) (after net x.1.step) (pair_on clocks p x.1) (moves_of more) along.1 in
        all_come_at (ComesSo Then) x.0 delay rest p (events_of_one seats clocks x.1)
        (move_quiet p (seats x.1.step.side).slot (clocks x.1.step.side) x.1.step.side x.1.number x.1.step.move)
        (every (λ d. (k : ℕ) → next_sent p d ≤ k → k < next_sent (pair_on clocks p x.1) d → ComesBy (ComesSo Then) (x.0 +ℤ pos delay) d k (pair_on clocks p x.1) rest)
        (λ side k old new.
        comes_course more (clocks_on clocks x.1) (after net x.1.step) (pair_on clocks p x.1) along.1 is.1 numbered.1 x.0 (x.0 +ℤ pos delay) side k
        (and_more x.0 x.0 delay (same_instant x.0))
        (brought.0 side k (subst (λ (n : ℕ). n ≤ k) (sym (next_same names seats clocks net p along.0 side side)) old)
        (subst (λ (n : ℕ). k < n) (sym (next_same names seats (clocks_on clocks x.1) (after net x.1.step) (pair_on clocks p x.1) shows' side side)) new))))
        (all_come_course delay more (clocks_on clocks x.1) (after net x.1.step) (pair_on clocks p x.1) x.0 along.1 is.1 numbered.1 brought.1)

  pub delivers_course : (names : List ℕ → Bool) (delay : ℕ) (moves : Moves) (clocks : Side → ℤ) (net : Net) (p : PairValue) (now : ℤ) → Along clocks net p moves
      → IsRun names net (steps_of (moves_of moves)) → Numbered net moves → AreHeard seats delay net moves
      → DeliversWithin delay p (course_to clocks now moves)
  delivers_course names delay moves clocks net p now along is numbered heard =
      all_heard delay p (course_to clocks now moves)
      (all_come_course names IsHeardBy IsHeard heard_follows delay moves clocks net p now along is numbered heard)

  pub arrives_course : (names : List ℕ → Bool) (delay : ℕ) (moves : Moves) (clocks : Side → ℤ) (net : Net) (p : PairValue) (now : ℤ) → Along clocks net p moves
      → IsRun names net (steps_of (moves_of moves)) → Numbered net moves → ComeInitial seats delay net moves
      → ArrivesWithin delay p (course_to clocks now moves)
  arrives_course names delay moves clocks net p now along is numbered come =
      all_arrive delay p (course_to clocks now moves)
      (all_come_course names IsInitialFor
      (λ q d x. arrives_stale (socket_of q (Sides.other d)).tcb x.segment.options.timestamp ≡ false) (λ q d x initial. initial) delay moves clocks net p now along is
      numbered come)

  -- STREAMS

  pub stream_course : (side : Side) (moves : Moves) (clocks : Side → ℤ) (net : Net) (p : PairValue) (now : ℤ) → Along clocks net p moves
      → KeepsStreamIn seats net side moves → KeepsStream p (side_in side) (course_to clocks now moves)
  stream_course side [] clocks net p now along keeps =
      let stream : HasStream (at (pasts p.history) (side_in side)) = subst HasStream (sym (along.past side)) keeps in
      (stream, subst HasStream (sym ((clock_quiet p who now).past (side_in side))) stream)
  stream_course side (x ∷ more) clocks net p now along keeps =
      stream_at x.0 (side_in side) (course_to (clocks_on clocks x.1) x.0 more) p (events_of_one seats clocks x.1)
      (move_quiet p (seats x.1.step.side).slot (clocks x.1.step.side) x.1.step.side x.1.number x.1.step.move)
      (subst HasStream (sym (along.0.past side)) keeps.0)
      (stream_course side more (clocks_on clocks x.1) (after net x.1.step) (pair_on clocks p x.1) x.0 along.1 keeps.1)

  -- READ

  read_course : (moves : Moves) (clocks : Side → ℤ) (p : PairValue) (now last : ℤ) (side : Side) → now ≤ℤ last → IsReadIn seats last side moves
      → IsReadBy last (side_in side) (course_to clocks now moves)
  read_course [] clocks p now last side until read = (until, inr tt)
  read_course (x ∷ more) clocks p now last side until read =
      read_at x.0 last (side_in side) (course_to (clocks_on clocks x.1) x.0 more) p (events_of_one seats clocks x.1) read.0
      (by read.1 (λ on. read_course more (clocks_on clocks x.1) p x.0 last side read.0 on))
    where
      by : ((x.1.step.side ≡ side) × IsReadAt (seats side).slot x.1.step.move) ⊎ IsReadIn seats last side more
          → (IsReadIn seats last side more → IsReadBy last (side_in side) (course_to (clocks_on clocks x.1) x.0 more))
          → OfLast (λ q e. Reads (side_in side) e) p (events_of_one seats clocks x.1) ⊎ IsReadBy last (side_in side) (course_to (clocks_on clocks x.1) x.0 more)
      by (inl reads) onward = inl (reads_last clocks p x.1 side reads)
      by (inr on) onward = inr (onward on)

  abbrev ReadFrom : ℕ → ℤ → ℤ → Net → Side → Moves → Type 0
  ReadFrom read since now net side moves =
      SocketIs seats net side (λ v. free_in v ≡ 0) → (now ≤ℤ (since +ℤ pos read)) × IsReadIn seats (since +ℤ pos read) side moves

  pub read_first : (read : ℕ) (now : ℤ) (net : Net) (side : Side) (moves : Moves) → IsReadInTime seats read now net side moves → ReadFrom read now now net side moves
  read_first read now net side [] reads = λ full. (and_more now now read (same_instant now), tt)
  read_first read now net side (x ∷ more) reads = λ full. (and_more now now read (same_instant now), reads.0 full)

  -- a move that is no event of the pair frees nothing
  read_next : (read : ℕ) (since t : ℤ) (clocks clocks' : Side → ℤ) (net net' : Net) (side : Side) (Reads_it : Type 0) (p : PairValue) (events : List PairEvent)
      (more : Moves) → (Reads_it → OfLast (λ q e. Reads (side_in side) e) p events) → Shows seats clocks net p → Shows seats clocks' net' (after_events p events)
      → (SocketIs seats net side (λ v. free_in v ≡ 0) → (t ≤ℤ (since +ℤ pos read)) × (Reads_it ⊎ IsReadIn seats (since +ℤ pos read) side more))
      → ReadFrom read t t net' side more → ReadFrom read (upon since t events) t net' side more
  read_next read since t clocks clocks' net net' side Reads_it p (event ∷ events) more last shows shows' before onward = onward
  read_next read since t clocks clocks' net net' side Reads_it p [] more last shows shows' before onward =
      λ full.
      let it = before (to_net clocks net p shows side (λ v. free_in v ≡ 0) (to_pair clocks' net' p shows' side (λ v. free_in v ≡ 0) full)) in
      (it.0, by it.1)
    where
      by : Reads_it ⊎ IsReadIn seats (since +ℤ pos read) side more → IsReadIn seats (since +ℤ pos read) side more
      by (inl reads) = absurd (last reads)
      by (inr on) = on

  pub reads_course : (read : ℕ) (side : Side) (moves : Moves) (clocks : Side → ℤ) (net : Net) (p : PairValue) (since now : ℤ) → Along clocks net p moves → since ≤ℤ now
      → AreAtInstants seats clocks now moves → ReadFrom read since now net side moves → IsReadInTime seats read now net side moves
      → ReadsWithin read since p (side_in side) (course_to clocks now moves)
  reads_course read side [] clocks net p since now along later instants from reads =
      ((λ full. ((from (to_net clocks net p along side (λ v. free_in v ≡ 0) full)).0, inr tt)), tt)
  reads_course read side (x ∷ more) clocks net p since now along later instants from reads =
      let events : List PairEvent = events_of_one seats clocks x.1 in
      let by_then : since ≤ℤ x.0 = upto since now x.0 later instants.0 in
      let shows' = shows_first (clocks_on clocks x.1) (after net x.1.step) (pair_on clocks p x.1) (moves_of more) along.1 in
      reads_at x.0 read (side_in side) (course_to (clocks_on clocks x.1) x.0 more) p events since
      (move_quiet p (seats x.1.step.side).slot (clocks x.1.step.side) x.1.step.side x.1.number x.1.step.move) by_then
      (λ full.
      let it = from (to_net clocks net p along.0 side (λ v. free_in v ≡ 0) full) in
      read_course (x ∷ more) clocks p now (since +ℤ pos read) side it.0 it.1)
      (reads_course read side more (clocks_on clocks x.1) (after net x.1.step) (pair_on clocks p x.1) (upon since x.0 events) x.0 along.1
      (upon_upto since x.0 events by_then) instants.2
      (read_next read since x.0 clocks (clocks_on clocks x.1) net (after net x.1.step) side ((x.1.step.side ≡ side) × IsReadAt (seats side).slot x.1.step.move) p events
      more (λ it. reads_last clocks p x.1 side it) along.0 shows' (λ full. (from full).1) (read_first read x.0 (after net x.1.step) side more reads.1)) reads.1)

  -- MOMENTS, AND WHAT GOES

  pub clocked_course : (moves : Moves) (clocks : Side → ℤ) (since now : ℤ) → since ≤ℤ now → AreAtInstants seats clocks now moves
      → IsClocked since (course_to clocks now moves)
  clocked_course [] clocks since now later instants = (later, (refl, tt))
  clocked_course (x ∷ more) clocks since now later instants =
      let events : List PairEvent = events_of_one seats clocks x.1 in
      let by_then : since ≤ℤ x.0 = upto since now x.0 later instants.0 in
      clocked_at x.0 (course_to (clocks_on clocks x.1) x.0 more) events since
      (move_at x.0 (clocks x.1.step.side) (seats x.1.step.side).slot x.1.step.side x.1.number x.1.step.move instants.1) by_then
      (clocked_course more (clocks_on clocks x.1) (upon since x.0 events) x.0 (upon_upto since x.0 events by_then) instants.2)

  pub taken_course : (moves : Moves) (clocks : Side → ℤ) (now : ℤ) → AreLetGo seats moves → AreTaken (course_to clocks now moves)
  taken_course [] clocks now go = (tt, tt)
  taken_course (x ∷ more) clocks now go =
      taken_at x.0 (course_to (clocks_on clocks x.1) x.0 more) (events_of_one seats clocks x.1)
      (move_taken (clocks x.1.step.side) (seats x.1.step.side).slot x.1.step.side x.1.number x.1.step.move go.0)
      (taken_course more (clocks_on clocks x.1) x.0 go.1)

  pub events_course : (moves : Moves) (clocks : Side → ℤ) (now : ℤ) → events_of (course_to clocks now moves) ≡
      events_of_moves seats clocks (moves_of moves) ++ Clock who (end_in now moves) ∷ []
  events_course [] clocks now = refl
  events_course (x ∷ more) clocks now =
      let further : List PairEvent = events_of_moves seats (clocks_on clocks x.1) (moves_of more) in
      let last : List PairEvent = Clock who (end_in x.0 more) ∷ [] in
      events_at x.0 (course_to (clocks_on clocks x.1) x.0 more) (events_of_one seats clocks x.1) (further ++ last) (events_course more (clocks_on clocks x.1) x.0)
      ∙ sym (append_assoc (events_of_one seats clocks x.1) further last)

  pub end_course : (moves : Moves) (clocks : Side → ℤ) (now from : ℤ) → end_of from (course_to clocks now moves) ≡ end_in now moves
  end_course [] clocks now from = refl
  end_course (x ∷ more) clocks now from =
      end_at x.0 (end_in x.0 more) (course_to (clocks_on clocks x.1) x.0 more) (events_of_one seats clocks x.1) (λ c. end_course more (clocks_on clocks x.1) x.0 c) from

  -- THE LAST MOMENT

  pub instant_in : (moves : Moves) (clocks : Side → ℤ) (now : ℤ) → AreAtInstants seats clocks now moves → IsMoment (end_in now moves)
  instant_in [] clocks now instants = instants
  instant_in (x ∷ more) clocks now instants = instant_in more (clocks_on clocks x.1) x.0 instants.2

  shown_upto : (last now : ℤ) (slot : ℕ) (move : Move) → last ≤ℤ now → IsAtInstant now last slot move → clock_after last (shown_to slot move) ≤ℤ now
  shown_upto last now slot (Invokes at cx old entry call new) before is = shown_by last now at slot cx before (λ same. either last now cx.instant before (is same))
  shown_upto last now slot (Offers at cx v from sent) before is = shown_by last now at slot cx before (λ same. at_most cx.instant now (is same))
  shown_upto last now slot (Takes at cx v ip header bytes) before is = shown_by last now at slot cx before (λ same. at_most cx.instant now (is same))
  shown_upto last now slot (Passes entry) before is = before
  shown_upto last now slot (Gives at cx v answer v' sent) before is = before
  shown_upto last now slot (Receives at cx v ip udp bytes) before is = before
  shown_upto last now slot (Resets x) before is = before
  shown_upto last now slot (Changes at old new) before is = before

  pub clock_upto : (clocks : Side → ℤ) (old now : ℤ) (r side : Side) (move : Move) → clocks side ≤ℤ old → old ≤ℤ now
      → IsAtInstant now (clocks r) (seats r).slot move → clocks_after seats clocks (record { side = r; move = move }) side ≤ℤ now
  clock_upto clocks old now A A move clock later is = shown_upto (clocks A) now (seats A).slot move (upto (clocks A) old now clock later) is
  clock_upto clocks old now B B move clock later is = shown_upto (clocks B) now (seats B).slot move (upto (clocks B) old now clock later) is
  clock_upto clocks old now A B move clock later is = upto (clocks B) old now clock later
  clock_upto clocks old now B A move clock later is = upto (clocks A) old now clock later

  pub clocks_upto : (moves : Moves) (clocks : Side → ℤ) (now : ℤ) (side : Side) → clocks side ≤ℤ now → AreAtInstants seats clocks now moves
      → clocks_in seats clocks (steps_of (moves_of moves)) side ≤ℤ end_in now moves
  clocks_upto [] clocks now side clock instants = clock
  clocks_upto (x ∷ more) clocks now side clock instants =
      clocks_upto more (clocks_on clocks x.1) x.0 side (clock_upto clocks now x.0 x.1.step.side side x.1.step.move clock instants.0 instants.1) instants.2
