-- Peers whose hosts move in time go on.
use Rattle.std.proofs.Common.{◌≡◌, ◌⊎◌, inl, inr, ℕ, suc, ◌-◌, ◌*◌, ◌<◌, ◌≤◌, not, ℤ, pos, ◌+ℤ◌, ◌≤ℤ◌, ◌<ℤ◌, Bool, true, List, [], ◌∷◌, ◌++◌, None}
use Rattle.std.proofs.Common.{refl, sym, ap, ◌∙◌, subst}
use Rattle.tcp_block.specs.Value.{TcpValue, room_of}
use Rattle.tcp_refinement.specs.Pair.Sides.{at}
use Rattle.tcp_refinement.specs.Pair.Sides as Sides
use Rattle.tcp_refinement.specs.Pair.Steps.{Steps, if_so, refusal}
use Rattle.tcp_refinement.specs.Pair.Values.{PairValue}
use Rattle.tcp_refinement.specs.declared.pair.event.PairEvent.{PairEvent}
use Rattle.tcp_refinement.specs.declared.pair.event.PairEvent.TheVariants.{Clock}
use Rattle.tcp_refinement.specs.declared.pair.event.PairRefused.TheVariants as Why
use Rattle.tcp_refinement.specs.declared.pair.event.Side as Pairs
use Rattle.tcp_refinement.specs.declared.pair.event.Side.TheVariants as Of
use Rattle.tcp_liveness.proofs.CourseThrough.{through_whatever}
use Rattle.tcp_liveness.proofs.CourseWindows.{gets_on}
use Rattle.tcp_liveness.specs.Arrivals.{is_synchronized}
use Rattle.tcp_liveness.specs.BothWays.{AreThere}
use Rattle.tcp_liveness.specs.Course.{AsksWithin, end_of, events_of}
use Rattle.tcp_liveness.specs.Exchange.{IsOpen, left_of}
use Rattle.tcp_liveness.specs.Onward.{AreOpen, HasRisen, acked_in}
use Rattle.tcp_liveness.specs.Pair.{HasStream, left_in, socket_of}
use Rattle.tcp_liveness.specs.Reached.{IsReached}
use Rattle.tcp_liveness.specs.Readers.{ReadsWithin, whole_span}
use Rattle.tcp_liveness.specs.Rounds.{takes}
use Rattle.tcp_liveness.specs.Sent.{taken_in}
use Rattle.tcp_liveness.specs.Spans.{IsThroughAmong, most_reached, reached_in}
use Rattle.lan.specs.declared.at_link.history.event.Side.{Side}
use Rattle.lan.specs.declared.at_link.history.event.Side.TheVariants.{A, B}
use Rattle.lan.specs.Worlds.AtLink.Happening.{AreNumbered, Happening, events_of_moves, steps_of}
use Rattle.lan.specs.Worlds.AtLink.Kinds.{other}
use Rattle.lan.specs.Worlds.AtLink.Moves.{IsRun, Step, run}
use Rattle.lan.specs.Worlds.AtLink.PacketsSafe.{IsInitialNet}
use Rattle.lan.specs.Worlds.AtLink.Paired.{AreHosted, HaveKeys, Seat, Shows, clocks_in, side_in}
use Rattle.lan.specs.Worlds.AtLink.Parties.{Net}
use Rattle.lan.specs.Worlds.AtLink.PeerSides.{ArePartners}
use Rattle.lan.proofs.Worlds.AtLink.Paired.Parts.{other_in}
use Rattle.lan.proofs.Worlds.AtLink.Paired.Runs.{ShowsAlong, peer_sides_proceed_by, peer_sides_have_numbers, peer_sides_show_along, steps_append}
use Rattle.lan.proofs.Worlds.AtLink.Paired.Shown.{may_be}
use Rattle.proof_stack.proofs.AtEdges.Spans.{through_at_edges}
use Rattle.proof_stack.proofs.AtEdges.Whole.{proceeds as proceeds_anywhere}
use Rattle.proof_stack.proofs.Moved.{arrives_course, asked_first, asks_course, clocked_course, clocks_upto, course_to, delivers_course, end_course, events_course}
use Rattle.proof_stack.proofs.Moved.{every, instant_in, read_first, reads_course, same_instant, shows_first, stream_course, taken_course, to_pair}
use Rattle.proof_stack.proofs.MovedEvents.{clock_socket}
use Rattle.proof_stack.specs.Progress.Edges.{ArrivesInTime, KeepsStream, edge_span}
use Rattle.proof_stack.specs.Progress.Moving.{AreAsked, AreAtInstants, ArriveInTime, ProceedByMoves, ProceedBySteps, IsReadInTime, MoveInTime, SocketIs, end_in, moves_of}
use Rattle.proof_stack.specs.Progress.PeerSides.{IsInTime}

-- THE CLOCK OF A HOST GOES ON

module _ (who : Pairs.Side) (q : PairValue) (m : ℤ) where
  left_same : (d : Pairs.Side) → left_in (takes q (Clock who m)) d ≡ left_in q d
  left_same d = ap (λ (v : TcpValue). left_of v) (clock_socket q who d m)

-- what was written, taken and acknowledged stays
acked_same : (who d : Pairs.Side) (q : PairValue) (m : ℤ) → acked_in (takes q (Clock who m)) d ≡ acked_in q d
acked_same Of.A Of.A q m = refl
acked_same Of.A Of.B q m = refl
acked_same Of.B Of.A q m = refl
acked_same Of.B Of.B q m = refl

taken_same : (who d : Pairs.Side) (q : PairValue) (m : ℤ) → taken_in (takes q (Clock who m)) d ≡ taken_in q d
taken_same Of.A Of.A q m = refl
taken_same Of.A Of.B q m = refl
taken_same Of.B Of.A q m = refl
taken_same Of.B Of.B q m = refl

most_same : (who : Pairs.Side) (q : PairValue) (m : ℤ) → most_reached (takes q (Clock who m)) ≡ most_reached q
most_same Of.A q m = refl
most_same Of.B q m = refl

risen_before : (who d : Pairs.Side) (p q : PairValue) (m : ℤ) → HasRisen p (takes q (Clock who m)) d → HasRisen p q d
risen_before who d p q m (inl acked) = inl (subst (λ (n : ℕ). acked_in p d < n) (acked_same who d q m) acked)
risen_before who d p q m (inr taken) = inr (subst (λ (n : ℕ). taken_in p d < n) (taken_same who d q m) taken)

through_before : (who d : Pairs.Side) (m : ℤ) (p : PairValue) (events : List PairEvent) → IsThroughAmong p d (events ++ Clock who m ∷ [])
    → IsThroughAmong p d events
through_before who d m p [] (inl is) = is
through_before who d m p [] (inr is) = sym (left_same who p m d) ∙ is
through_before who d m p (event ∷ events) (inl is) = inl is
through_before who d m p (event ∷ events) (inr on) = inr (through_before who d m (takes p event) events on)

module _ (names : List ℕ → Bool) (seats : Side → Seat) (clocks end : Side → ℤ) (net : Net) (side : Side) (moves : List (ℤ × Happening)) (p q : PairValue)
    (along : ShowsAlong seats clocks net p (moves_of moves)) (is : IsRun names net (steps_of (moves_of moves)))
    (numbered : AreNumbered seats net (moves_of moves)) (last : Shows seats end (run net (steps_of (moves_of moves))) q)
    (ends : end ≡ clocks_in seats clocks (steps_of (moves_of moves))) (steps : Steps p (events_of_moves seats clocks (moves_of moves)) q)
    (read wait delay : ℕ) (now : ℤ) where
  abbrev who : Pairs.Side
  who = side_in side

  abbrev course : List (ℤ × PairEvent)
  course = course_to seats who clocks now moves

  -- the pair when the clock of the side's host has gone on to the last instant
  abbrev r : PairValue
  r = takes q (Clock who (end_in now moves))

  first : Shows seats clocks net p
  first = shows_first seats who clocks net p (moves_of moves) along

  opened : ((of : Side) → SocketIs seats net of (λ v. IsOpen v.tcb)) → AreOpen p
  opened are = (
    to_pair seats who clocks net p first A (λ v. IsOpen v.tcb) (are A),
    to_pair seats who clocks net p first B (λ v. IsOpen v.tcb) (are B),
  )

  stay : ((of : Side) → SocketIs seats (run net (steps_of (moves_of moves))) of (λ v. is_synchronized v.tcb.state ≡ true)) → AreThere r
  stay are = (synchronized A, synchronized B) where
    synchronized : (d : Side) → is_synchronized (socket_of r (side_in d)).tcb.state ≡ true
    synchronized d =
        subst (λ (v : TcpValue). is_synchronized v.tcb.state ≡ true) (sym (clock_socket q who (side_in d) (end_in now moves)))
        (to_pair seats who end (run net (steps_of (moves_of moves))) q last d (λ v. is_synchronized v.tcb.state ≡ true) (are d))

  proceeds : clocks side ≤ℤ now → AreAtInstants seats clocks now moves → refusal q (Clock who (end_in now moves)) ≡ None
  proceeds clock instants =
      ap (λ (b : Bool). if_so (not b) Why.Moment)
      (may_be (at q.sides who).instant (end_in now moves) (instant_in seats who moves clocks now instants)
      (subst (λ (m : ℤ). m ≤ℤ end_in now moves) (sym (last.clock side ∙ ap (λ (c : Side → ℤ). c side) ends))
      (clocks_upto seats who moves clocks now side clock instants)))

  lead : clocks side ≤ℤ now → AreAtInstants seats clocks now moves → Steps p (events_of course) r
  lead clock instants =
      subst (λ (events : List PairEvent). Steps p events r) (sym (events_course seats who moves clocks now))
      (steps_append p q r (events_of_moves seats clocks (moves_of moves)) (Clock who (end_in now moves) ∷ []) steps (proceeds clock instants, refl))

  asks : AreAtInstants seats clocks now moves → AreAsked seats wait now net moves → AsksWithin wait now p course
  asks instants asked = asks_course seats who wait moves clocks net p now now along (same_instant now) instants (asked_first seats who wait now net moves asked) asked

  reads : (of : Side) → AreAtInstants seats clocks now moves → IsReadInTime seats read now net of moves → ReadsWithin read now p (side_in of) course
  reads of instants in_time =
      reads_course seats who read of moves clocks net p now now along (same_instant now) instants (read_first seats who read now net of moves in_time) in_time

  until : (m : ℤ) → m <ℤ end_in now moves → m <ℤ end_of now course
  until m lasts = subst (λ (e : ℤ). m <ℤ e) (sym (end_course seats who moves clocks now now)) lasts

  risen : HasRisen p r who ⊎ HasRisen p r (Sides.other who) → HasRisen p q who ⊎ HasRisen p q (side_in (other side))
  risen (inl own) = inl (risen_before who who p q (end_in now moves) own)
  risen (inr others) =
      inr (risen_before who (side_in (other side)) p q (end_in now moves) (subst (λ (d : Pairs.Side). HasRisen p r d) (sym (other_in side)) others))

  -- so many spans, to the last instant
  spans : (span : ℕ) → (now +ℤ pos (suc (most_reached q - reached_in p) * (2 * span))) <ℤ end_in now moves
      → (now +ℤ pos (suc (most_reached r - reached_in p) * (2 * span))) <ℤ end_of now course
  spans span lasts =
      subst (λ (n : ℕ). (now +ℤ pos (suc (n - reached_in p) * (2 * span))) <ℤ end_of now course) (sym (most_same who q (end_in now moves)))
      (until (now +ℤ pos (suc (most_reached q - reached_in p) * (2 * span))) lasts)

  ended : IsThroughAmong p who (events_of course) → IsThroughAmong p who (events_of_moves seats clocks (moves_of moves))
  ended through =
      through_before who who (end_in now moves) p (events_of_moves seats clocks (moves_of moves))
      (subst (IsThroughAmong p who) (events_course seats who moves clocks now) through)

  -- EACH SEGMENT IS HEARD

  module _ (t : MoveInTime read wait delay now seats clocks net side moves) where
    pub in_time : IsInTime read wait delay now p r who course
    in_time = record {
      opened = opened t.opened;
      stay = stay t.stay;
      goes = record {
        clock = subst (λ (m : ℤ). m ≤ℤ now) (sym (first.clock side)) t.clock;
        clocked = clocked_course seats who moves clocks now now (same_instant now) t.instants;
        asks = asks t.instants t.asked;
        taken = taken_course seats who moves clocks now t.let_go;
        delivers = delivers_course seats who names delay moves clocks net p now along is numbered t.heard;
        stream = subst HasStream (sym (first.past side)) t.stream;
        room = subst (λ (d : Pairs.Side). 1 ≤ room_of (socket_of p d).received) (other_in side)
            (to_pair seats who clocks net p first (other side) (λ v. 1 ≤ room_of v.received) t.room);
      };
      reads = subst (λ (d : Pairs.Side). ReadsWithin read now p d course) (other_in side) (reads (other side) t.instants t.read_in_time);
    }

    pub rises : IsReached p → 1 ≤ left_in p who → (now +ℤ pos (whole_span read wait delay p who)) <ℤ end_in now moves
        → HasRisen p q who ⊎ HasRisen p q (side_in (other side))
    rises reached owes lasts =
        risen
        (gets_on p r who course read wait delay now reached in_time.opened (lead t.clock t.instants) in_time.stay owes in_time.goes in_time.reads
        (until (now +ℤ pos (whole_span read wait delay p who)) lasts))

    pub through : IsReached p → (now +ℤ pos (suc (most_reached q - reached_in p) * (2 * whole_span read wait delay p who))) <ℤ end_in now moves
        → IsThroughAmong p who (events_of_moves seats clocks (moves_of moves))
    through reached lasts =
        ended
        (through_whatever p r who course read wait delay now reached in_time.opened (lead t.clock t.instants) in_time.stay in_time.goes in_time.reads
        (spans (whole_span read wait delay p who) lasts))

  -- EACH COMES, WHEREVER IT LIES

  module _ (t : ArriveInTime read wait delay now seats clocks net moves) where
    arrives : ArrivesInTime read wait delay now p course
    arrives = record {
      clocks = every (λ d. (at p.sides d).instant ≤ℤ now) (λ s. subst (λ (m : ℤ). m ≤ℤ now) (sym (first.clock s)) (t.clock s));
      clocked = clocked_course seats who moves clocks now now (same_instant now) t.instants;
      asks = asks t.instants t.asked;
      taken = taken_course seats who moves clocks now t.let_go;
      comes = arrives_course seats who names delay moves clocks net p now along is numbered t.come;
      reads = every (λ d. ReadsWithin read now p d course) (λ s. reads s t.instants (t.read_in_time s));
      streams = every (λ d. KeepsStream p d course) (λ s. stream_course seats who s moves clocks net p now along (t.streams s));
      rooms = every (λ d. 1 ≤ room_of (socket_of p d).received)
          (λ s. to_pair seats who clocks net p first s (λ v. 1 ≤ room_of v.received) (t.rooms s));
    }

    pub rises_anywhere : IsReached p → 1 ≤ left_in p who → (now +ℤ pos (edge_span read wait delay p who)) <ℤ end_in now moves
        → HasRisen p q who ⊎ HasRisen p q (side_in (other side))
    rises_anywhere reached owes lasts =
        risen
        (proceeds_anywhere p r who course read wait delay now reached (opened t.opened) (lead (t.clock side) t.instants) (stay t.stay) owes arrives
        (until (now +ℤ pos (edge_span read wait delay p who)) lasts))

    pub through_anywhere : IsReached p → (now +ℤ pos (suc (most_reached q - reached_in p) * (2 * edge_span read wait delay p who))) <ℤ end_in now moves
        → IsThroughAmong p who (events_of_moves seats clocks (moves_of moves))
    through_anywhere reached lasts =
        ended
        (through_at_edges p r who course read wait delay now reached (opened t.opened) (lead (t.clock side) t.instants) (stay t.stay) arrives
        (spans (edge_span read wait delay p who) lasts))

pub proceed : (starts : Side → ℕ → ℕ) (names : List ℕ → Bool) (first : Net) (before : List Step) (moves : List (ℤ × Happening)) (seats : Side → Seat)
    (clocks : Side → ℤ) (p : PairValue) → IsInitialNet starts first → IsRun names first before → IsReached p → Shows seats clocks (run first before) p
    → IsRun names (run first before) (steps_of (moves_of moves)) → AreHosted seats clocks (run first before) (steps_of (moves_of moves)) → HaveKeys seats
    → ArePartners (run (run first before) (steps_of (moves_of moves))).history A (seats A).slot (seats B).slot
    → AreNumbered seats (run first before) (moves_of moves) → ProceedByMoves seats clocks (run first before) p moves
proceed starts names first before moves seats clocks p initial was reached shows is hosted keys peer_sides numbered =
    let net : Net = run first before in
    let on = peer_sides_proceed_by starts names first before (moves_of moves) seats clocks p initial was is hosted keys peer_sides numbered shows in
    let along = peer_sides_show_along starts names first before (moves_of moves) seats clocks p initial was is hosted keys peer_sides numbered shows in
    record {
      on = on;
      rises = λ side read wait delay now t owes lasts.
          rises names seats clocks _ net side moves p on.next along is numbered on.shows refl on.steps read wait delay now t reached owes lasts;
      through = λ side read wait delay now t lasts.
          through names seats clocks _ net side moves p on.next along is numbered on.shows refl on.steps read wait delay now t reached lasts;
      rises_anywhere = λ side read wait delay now t owes lasts.
          rises_anywhere names seats clocks _ net side moves p on.next along is numbered on.shows refl on.steps read wait delay now t reached owes lasts;
      through_anywhere = λ side read wait delay now t lasts.
          through_anywhere names seats clocks _ net side moves p on.next along is numbered on.shows refl on.steps read wait delay now t reached lasts;
    }

-- whatever instants and numbers the moves of a run are given
pub by_steps : (starts : Side → ℕ → ℕ) (names : List ℕ → Bool) (first : Net) (before steps : List Step) (seats : Side → Seat) (clocks : Side → ℤ)
    (p : PairValue) → IsInitialNet starts first → IsRun names first before → IsReached p → Shows seats clocks (run first before) p
    → IsRun names (run first before) steps → AreHosted seats clocks (run first before) steps → HaveKeys seats
    → ArePartners (run (run first before) steps).history A (seats A).slot (seats B).slot
    → ProceedBySteps seats clocks (run first before) (run (run first before) steps) p
by_steps starts names first before steps seats clocks p initial was reached shows is hosted keys peer_sides =
    let net : Net = run first before in
    record {
      steps = steps;
      lead = refl;
      hosted = hosted;
      numbers = peer_sides_have_numbers starts names first before steps seats clocks p initial was is hosted keys peer_sides shows;
      by_moves = λ moves are numbered.
          proceed starts names first before moves seats clocks p initial was reached shows (subst (λ (xs : List Step). IsRun names net xs) (sym are) is)
          (subst (λ (xs : List Step). AreHosted seats clocks net xs) (sym are) hosted) keys
          (subst (λ (xs : List Step). ArePartners (run net xs).history A (seats A).slot (seats B).slot) (sym are) peer_sides) numbered;
    }
