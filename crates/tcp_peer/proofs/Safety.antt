-- What is promised of a side alongside the peer, and of each run.
use Rattle.std.proofs.Common.{◌≡◌, ◌⊎◌, inl, inr, ℕ, suc, ◌+◌, ◌-◌, ◌<◌, ◌≤◌, nat_lt, Bool, true, false, List, [], ◌∷◌, length, drop, Some, None, refl, sym, ap}
use Rattle.std.proofs.Common.{◌∙◌, arith, length-drop}
use Rattle.tcp_theory.specs.Alone.{AreResets}
use Rattle.tcp_theory.specs.Invariant.{HoldsBetween, IsInStep, IsSilent, OneWay}
use Rattle.tcp_theory.specs.Invariant as law
use Rattle.tcp_theory.specs.Numbers.{wire}
use Rattle.tcp_theory.specs.Safe.{IsPrefixOf, IsSafe}
use Rattle.tcp_theory.specs.Segment.{Segment}
use Rattle.tcp_theory.specs.Side.{Side, rcv_next, taken_in, one_if, freed}
use Rattle.tcp_theory.proofs.Lists.{AllByRecursion-map, Begins-length}
use Rattle.tcp_theory.proofs.Calls.{one_if-small}
use Rattle.tcp_theory.proofs.Theorem.{IsSafe-one_way}
use Rattle.tcp_peer.specs.Peer.{End, IsEnd, end_of, IsAcknowledged, HasAckedTo, counted, HasReached, IsHonest, SaysOfItself, SaysOfTheOther, as_end}
use Rattle.tcp_peer.specs.Run.{Scene, Event, MayHappen, happens, IsRun, run, start}
use Rattle.tcp_peer.specs.Run.Event.{Comes, Does}
use Rattle.tcp_peer.specs.Safe.{IsSafeBeside}
use Rattle.tcp_peer.proofs.Shadow.{shadow, HasTaken, IsBeside, Meets, meets_start, meets_move}
use Rattle.tcp_peer.proofs.Converts.{counted-wire}
use Rattle.tcp_peer.proofs.Comes.{meets_honest}
use Rattle.tcp_peer.proofs.Learns.{test_lt, test_ge}

-- what the peer has written so far is the peer's stream, or nothing
abbrev Said : End → List ℕ → Bool → Type 0
Said peer written closed = ((written ≡ []) × (closed ≡ false)) ⊎ ((written ≡ peer.stream) × (closed ≡ peer.ends))

module _ (peer : End) (written : List ℕ) (closed : Bool) (s : Side) (came : List Segment) (e : IsEnd peer) (said : Said peer written closed)
    (b : IsBeside peer written closed s came) where
  abbrev t : Side
  t = shadow peer written closed b.una b.took b.fin came

  toward : OneWay s t
  toward = b.holds.0

  back : OneWay t s
  back = b.holds.1

  safe : IsSafe t s
  safe = IsSafe-one_way t s back

  prefix : IsPrefixOf (taken_in s) peer.stream
  prefix = by said where
    from : (ys : List ℕ) → written ≡ ys → IsPrefixOf (taken_in s) ys
    from ys same = (safe.prefix.0, safe.prefix.1 ∙ same)

    by : Said peer written closed → IsPrefixOf (taken_in s) peer.stream
    by (inr all) = from peer.stream all.0
    by (inl none) = nothing (taken_in s) (from [] none.0) where
      nothing : (xs : List ℕ) → IsPrefixOf xs [] → IsPrefixOf xs peer.stream
      nothing [] p = (peer.stream, refl)
      nothing (x ∷ xs) p = absurd (let clash = p.1 in cc)

  finished : s.took_fin ≡ true → (peer.ends ≡ true) × (taken_in s ≡ peer.stream)
  finished took = by said where
    by : Said peer written closed → (peer.ends ≡ true) × (taken_in s ≡ peer.stream)
    by (inr all) = (sym all.1 ∙ (safe.finished took).0, (safe.finished took).1 ∙ all.0)
    by (inl none) = absurd (let clash : false ≡ true = sym none.1 ∙ (safe.finished took).0 in cc)

  -- the bytes that it has taken in are this side's
  took_short : length b.took ≤ length s.written
  took_short = Begins-length b.took s.written toward.received

  abbrev reach : ℕ
  reach = suc peer.heard + length b.took + one_if b.fin

  -- the number that it acknowledged is counted back to what it has taken in
  counted_back : counted peer.heard (wire reach) ≡ reach
  counted_back =
      let short = took_short in
      let small = toward.well_formed.short in
      let fin = one_if-small b.fin in
      counted-wire peer.heard reach (omega arith) (omega arith)

  acked_to : (position : ℕ) → position ≤ reach → IsAcknowledged came (wire reach) → HasAckedTo peer came position
  acked_to position below a = let offset = counted_back in record { number = wire reach; acknowledged = a; far = omega (arith, below, offset) }

  freed_by : (freed s ≡ 0) ⊎ ((peer.heard ≡ s.iss) × HasAckedTo peer came (suc s.iss + freed s))
  freed_by = by (nat_lt 0 (freed s)) refl toward.sync b.taken where
    cut : length (drop (s.una - suc s.iss) s.written) ≡ length s.written - (s.una - suc s.iss)
    cut = length-drop (s.una - suc s.iss) s.written

    by :
        (test : Bool) → nat_lt 0 (freed s) ≡ test → IsInStep s t ⊎ IsSilent s t → HasTaken peer b.took b.fin came
        → (freed s ≡ 0) ⊎ ((peer.heard ≡ s.iss) × HasAckedTo peer came (suc s.iss + freed s))
    by test e (inr silent) taken = inl (let none = ap length silent.unwritten in omega arith)
    by false e (inl in_step) taken = inl (let none = test_ge 0 (freed s) e in omega (arith, none))
    by true e (inl in_step) (inl nothing) =
        let some = test_lt 0 (freed s) e in
        let size = ap length nothing.0 in
        let fin = ap one_if nothing.1 in
        let counts = in_step.counts in
        let reached = in_step.reached in
        let left = cut in
        absurd (omega arith)
    by true e (inl in_step) (inr a) =
        let some = test_lt 0 (freed s) e in
        let counts = in_step.counts in
        let reached = in_step.reached in
        let left = cut in
        inr (counts, acked_to (suc s.iss + freed s) (omega arith) a)

  -- THIS SIDE IS HONEST

  -- it writes only to one that counts from its SYN
  heard_by : IsInStep s t ⊎ IsSilent s t → (peer.heard ≡ s.iss) ⊎ (s.written ≡ [])
  heard_by (inr silent) = inr silent.unwritten
  heard_by (inl in_step) = inl in_step.counts

  -- it takes in no more than the peer writes
  so_far : (at : ℕ) → s.irs < at → at ≤ rcv_next s → (at ≡ suc s.irs) ⊎ ((s.irs ≡ peer.first) × (s.irs < at) × (at ≤ end_of peer))
  so_far at past high = by back.sync s.took_fin refl said where
    shorter : length (taken_in s) ≤ length written
    shorter = Begins-length (taken_in s) written back.received

    by : IsInStep t s ⊎ IsSilent t s → (fin : Bool) → s.took_fin ≡ fin → Said peer written closed →
        (at ≡ suc s.irs) ⊎ ((s.irs ≡ peer.first) × (s.irs < at) × (at ≤ end_of peer))
    by sync true f (inl none) = absurd (let clash : false ≡ true = sym none.1 ∙ (safe.finished f).0 in cc)
    by sync false f (inl none) = inl (let nothing = ap length none.0 in let unfinished = ap one_if f in let short = shorter in omega arith)
    by sync true f (inr all) =
        let same = ap length all.0 in
        let ends = ap one_if (sym all.1 ∙ (safe.finished f).0) in
        let finished = ap one_if f in
        let short = shorter in
        let counts = (back.fin f).counts in
        inr (counts, past, omega arith)
    by (inl in_step) false f (inr all) =
        let same = ap length all.0 in
        let unfinished = ap one_if f in
        let short = shorter in
        inr (in_step.counts, past, omega arith)
    by (inr silent) false f (inr all) = inl (let nothing = ap length silent.unwritten in let unfinished = ap one_if f in let short = shorter in omega arith)

  reached : (number : ℕ) → law.HasReached s number → HasReached (as_end s) peer number
  reached number h = record { at = h.at; same = h.same; so_far = so_far h.at h.after_syn h.high }

  own : (x : Segment) → law.IsHonest s t x → IsHonest (as_end s) peer came x
  own x (inl reset) = inl reset
  own x (inr h) = inr (kind h.0, ack h.1) where
    below : (position : ℕ) → position ≤ reach → HasTaken peer b.took b.fin came → (position ≤ suc peer.heard) ⊎ HasAckedTo peer came position
    below position high (inl nothing) = let size = ap length nothing.0 in let fin = ap one_if nothing.1 in inl (omega arith)
    below position high (inr a) = inr (acked_to position high a)

    plain : law.IsPlain t x → (x.bytes ≡ []) ⊎ law.IsBelow t x → SaysOfItself (as_end s) peer came x
    plain p (inl none) = inr (inl (p.plain, none))
    plain p (inr old) = inr (inr (inl (record {
      plain = p.plain;
      at = old.at;
      number = old.number;
      heard = old.heard;
      low = old.low;
      high = below (old.at + length x.bytes) old.high b.taken;
    })))

    kind : law.IsPiece s x ⊎ (law.IsPlain t x ⊎ law.IsSyn s x) → SaysOfItself (as_end s) peer came x
    kind (inl p) = inl (record {
      kind = p.kind;
      at = p.at;
      number = p.seq;
      after_syn = p.after_syn;
      bytes = p.bytes;
      fin = p.fin;
      heard = heard_by toward.sync;
    })
    kind (inr (inl p)) = plain p p.bytes
    kind (inr (inr p)) = inr (inr (inr (record { syn = p.syn; number = let number = p.seq in omega arith; bare = λ none. p.seq ∙ ap wire (p.bare none).0 })))

    ack : (x.ack ≡ None) ⊎ ((number : ℕ) × (x.ack ≡ Some number) × law.HasReached s number) → SaysOfTheOther (as_end s) peer x
    ack (inl none) = inl none
    ack (inr some) = inr (some.0, some.1, reached some.0 some.2)

  pub safe_beside : IsSafeBeside peer (record { side = s; came = came })
  safe_beside = record {
    prefix = prefix;
    finished = finished;
    freed = freed_by;
    honest = AllByRecursion-map (law.IsHonest s t) (IsHonest (as_end s) peer came) own s.sent toward.sent;
  }

pub meets_safe : (peer : End) (s : Side) (came : List Segment) → IsEnd peer → Meets peer s came → IsSafeBeside peer (record { side = s; came = came })
meets_safe peer s came e (inl b) = safe_beside peer [] false s came e (inl (refl, refl)) b
meets_safe peer s came e (inr b) = safe_beside peer peer.stream peer.ends s came e (inr (refl, refl)) b

-- RUNS

meets_event : (peer : End) (w : Scene) (event : Event) → IsEnd peer → Meets peer w.side w.came → MayHappen peer w event →
    Meets peer (happens w event).side (happens w event).came
meets_event peer w (Comes x) e m may = meets_honest peer w.side w.came x e may m
meets_event peer w (Does move) e m may = meets_move peer w.side w.came move m may

pub meets_run : (peer : End) (w : Scene) (events : List Event) → IsEnd peer → Meets peer w.side w.came → IsRun peer w events →
    Meets peer (run w events).side (run w events).came
meets_run peer w [] e m is_run = m
meets_run peer w (event ∷ events) e m is_run = meets_run peer (happens w event) events e (meets_event peer w event e m is_run.0) is_run.1

pub runs_safe : (peer : End) (room : ℕ) (resets : List Segment) (events : List Event) → IsEnd peer → AreResets resets → IsRun peer (start room resets) events →
    IsSafeBeside peer (run (start room resets) events)
runs_safe peer room resets events e are_resets is_run =
    let end = run (start room resets) events in
    meets_safe peer end.side end.came e (meets_run peer (start room resets) events e (meets_start peer room resets e are_resets) is_run)
