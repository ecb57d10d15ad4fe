-- What never goes back on one side, and what of the invariant it alone keeps.
use Rattle.std.proofs.Common.{◌≡◌, ◌⊎◌, inl, inr, ℕ, suc, ◌+◌, ◌-◌, ◌^◌, ◌≤◌, true, List, [], ◌++◌, length, drop, Option, Some, None, sym, ap, ◌∙◌, subst}
use Rattle.std.proofs.Common.{arith, length-append, append-nil}
use Rattle.std.specs.List.{AllByRecursion}
use Rattle.tcp_theory.specs.ReceiveMap.{Begins, AgreesWith}
use Rattle.tcp_theory.specs.Numbers.{wire, IsFirst}
use Rattle.tcp_theory.specs.Segment.{Segment}
use Rattle.tcp_theory.specs.Side.{Phase, Side, taken_in, rcv_next, one_if}
use Rattle.tcp_theory.specs.Side.Phase.{Unopened, Listen, SynSent, SynReceived, Synchronized, Ended}
use Rattle.tcp_theory.specs.Side.Opening.{Passive, Active}
use Rattle.tcp_theory.specs.Invariant.{IsLate, IsEarly, FitsPhase, HasNoStream, IsWellFormed, IsPiece, IsBelow, IsPlain, IsSyn, HasReached, IsHonest, IsInStep}
use Rattle.tcp_theory.specs.Invariant.{IsSilent, IsComplete, OneWay}
use Rattle.tcp_theory.proofs.Lists.{Begins-grow, Begins-drop-grow, AgreesWith-drop-grow, AllByRecursion-map}

pub record Grows (s new : Side) : Type 0 where
  pub late : IsLate s.phase → IsLate new.phase × (new.iss ≡ s.iss)
  pub written : (more : List ℕ) × (new.written ≡ s.written ++ more)
  pub closed : s.closed ≡ true → (new.closed ≡ true) × (new.written ≡ s.written)
  pub active : s.opening ≡ Active → (new.opening ≡ Active) × (new.iss ≡ s.iss)
  pub taken : 2 ^ 32 ≤ s.irs → (new.irs ≡ s.irs) × (rcv_next s ≤ rcv_next new)

-- where its ISS, its stream and its IRS stay
pub Grows-same :
    (s new : Side) → (IsLate s.phase → IsLate new.phase) → new.iss ≡ s.iss → new.written ≡ s.written → (s.closed ≡ true → new.closed ≡ true)
    → new.opening ≡ s.opening → (2 ^ 32 ≤ s.irs → (new.irs ≡ s.irs) × (rcv_next s ≤ rcv_next new))
    → Grows s new
Grows-same s new late iss written closed opening taken = record {
  late = λ was. (late was, iss);
  written = ([], written ∙ sym (append-nil s.written));
  closed = λ e. (closed e, written);
  active = λ e. (opening ∙ e, iss);
  taken = taken;
}

pub IsWellFormed-same :
    (s new : Side) → IsWellFormed s → new.iss ≡ s.iss → new.una ≡ s.una → new.written ≡ s.written → one_if s.closed ≤ one_if new.closed → new.irs ≡ s.irs
    → FitsPhase new.phase new.opening new.irs → (IsEarly new.phase → HasNoStream new)
    → IsWellFormed new
IsWellFormed-same s new well iss una written closed irs phase early =
    let low = well.una_low in
    let high = well.una_high in
    let short = well.short in
    let irs_high = well.irs in
    let same_length = ap length written in
    record {
      phase = phase;
      early = early;
      iss = subst IsFirst (sym iss) well.iss;
      una_low = omega arith;
      una_high = omega arith;
      short = omega arith;
      irs = omega arith;
    }

late_or_early : (phase : Phase) → IsLate phase ⊎ IsEarly phase
late_or_early Unopened = inr tt
late_or_early Listen = inr tt
late_or_early SynSent = inr tt
late_or_early SynReceived = inr tt
late_or_early Synchronized = inl tt
late_or_early Ended = inl tt

-- a side that closed is past SYN-RECEIVED
pub late_of_closed : (s : Side) → IsWellFormed s → s.closed ≡ true → IsLate s.phase
late_of_closed s well e = by (late_or_early s.phase) where
  by : IsLate s.phase ⊎ IsEarly s.phase → IsLate s.phase
  by (inl late) = late
  by (inr early) = let none = well.early early in let open_still = none.2 in absurd (cc)

-- where ISS and SND.UNA stay
pub IsInStep-same : (s new t : Side) → new.iss ≡ s.iss → new.una ≡ s.una → IsInStep s t → IsInStep new t
IsInStep-same s new t iss una in_step =
    record { counts = in_step.counts ∙ sym iss; opened = omega (arith, in_step.opened); reached = omega (arith, in_step.reached) }

-- where the bytes that were taken in and IRS stay
pub IsComplete-same : (t s new : Side) → taken_in new ≡ taken_in s → new.irs ≡ s.irs → IsComplete t s → IsComplete t new
IsComplete-same t s new bytes irs c = record { closed = c.closed; whole = bytes ∙ c.whole; counts = irs ∙ c.counts }

module _ (s new : Side) (grows : Grows s new) where
  pub HasReached-grows : (number : ℕ) → HasReached s number → HasReached new number
  HasReached-grows number h =
      let same_irs = (grows.taken h.heard).0 in
      let further = (grows.taken h.heard).1 in
      record {
        at = h.at;
        same = h.same;
        heard = omega arith;
        after_syn = omega arith;
        high = omega arith;
      }

  pub IsPlain-grows : (x : Segment) → IsPlain s x → IsPlain new x
  IsPlain-grows x p = record { plain = p.plain; bytes = by p.bytes } where
    by : (x.bytes ≡ []) ⊎ IsBelow s x → (x.bytes ≡ []) ⊎ IsBelow new x
    by (inl none) = inl none
    by (inr h) =
        let same_irs = (grows.taken h.heard).0 in
        let further = (grows.taken h.heard).1 in
        inr (record {
          at = h.at;
          number = h.number;
          heard = omega arith;
          low = omega arith;
          high = omega arith;
        })

  IsPiece-grows : (x : Segment) → IsPiece s x → IsPiece new x
  IsPiece-grows x p =
      let stays = (grows.late p.late).1 in
      let grown = grows.written.1 in
      let more = grows.written.0 in
      let longer : length new.written ≡ length s.written + length more = ap length grown ∙ length-append s.written more in
      let past = p.after_syn in
      let fits = p.fits in
      record {
        late = (grows.late p.late).0;
        kind = p.kind;
        at = p.at;
        seq = p.seq;
        after_syn = omega arith;
        bytes = rw (stays, grown) (Begins-drop-grow (p.at - suc s.iss) x.bytes s.written more p.bytes);
        fits = omega arith;
        fin = λ e. let f = p.fin e in let c = grows.closed f.0 in let same = ap length c.1 in let ends = f.1 in (c.0, omega arith);
      }

  IsSyn-grows : (x : Segment) → IsSyn s x → IsSyn new x
  IsSyn-grows x p = record {
    syn = p.syn;
    at = p.at;
    first = p.first;
    seq = p.seq;
    bare = λ e. let b = p.bare e in let a = grows.active b.1 in (b.0 ∙ sym a.1, a.0);
  }

  -- the segments that it sent
  pub IsHonest-own : (t : Side) (x : Segment) → IsHonest s t x → IsHonest new t x
  IsHonest-own t x (inl reset) = inl reset
  IsHonest-own t x (inr h) = inr (kind h.0, ack h.1) where
    kind : IsPiece s x ⊎ (IsPlain t x ⊎ IsSyn s x) → IsPiece new x ⊎ (IsPlain t x ⊎ IsSyn new x)
    kind (inl piece) = inl (IsPiece-grows x piece)
    kind (inr (inl plain)) = inr (inl plain)
    kind (inr (inr syn)) = inr (inr (IsSyn-grows x syn))

    ack : (x.ack ≡ None) ⊎ ((number : ℕ) × (x.ack ≡ Some number) × HasReached s number) →
        (x.ack ≡ None) ⊎ ((number : ℕ) × (x.ack ≡ Some number) × HasReached new number)
    ack (inl none) = inl none
    ack (inr some) = inr (some.0, some.1, HasReached-grows some.0 some.2)

  -- the segments that its peer sent
  IsHonest-other : (t : Side) (x : Segment) → IsHonest t s x → IsHonest t new x
  IsHonest-other t x (inl reset) = inl reset
  IsHonest-other t x (inr h) = inr (kind h.0, h.1) where
    kind : IsPiece t x ⊎ (IsPlain s x ⊎ IsSyn t x) → IsPiece t x ⊎ (IsPlain new x ⊎ IsSyn t x)
    kind (inl piece) = inl piece
    kind (inr (inl plain)) = inr (inl (IsPlain-grows x plain))
    kind (inr (inr syn)) = inr (inr syn)

  -- the stream that it sends, by what its move changes of it
  pub OneWay-own :
      (t : Side) → OneWay s t → IsWellFormed new → IsInStep new t ⊎ IsSilent new t
      → (new.opening ≡ Passive → (new.irs ≡ 0) ⊎ ((new.irs ≡ t.iss) × (t.opening ≡ Active)))
      → (AllByRecursion (IsHonest new t) s.sent → AllByRecursion (IsHonest new t) new.sent)
      → OneWay new t
  OneWay-own t out well sync listener sent =
      let grown = grows.written.1 in
      let more = grows.written.0 in
      record {
        well_formed = well;
        sync = sync;
        received = rw grown (Begins-grow (taken_in t) s.written more out.received);
        held = rw grown (AgreesWith-drop-grow (length (taken_in t)) t.window s.written more out.held);
        fin =
            λ e.
            let f = out.fin e in
            let c = grows.closed f.closed in
            let stays = (grows.late (late_of_closed s out.well_formed f.closed)).1 in
            record { closed = c.0; whole = f.whole ∙ sym c.1; counts = f.counts ∙ sym stays };
        listener = listener;
        sent = sent (AllByRecursion-map (IsHonest s t) (IsHonest new t) (IsHonest-own t) s.sent out.sent);
      }

  -- the stream that it takes, by what its move changes of it
  pub OneWay-other :
      (t : Side) → OneWay t s → Begins (taken_in new) t.written → AgreesWith new.window (drop (length (taken_in new)) t.written)
      → (new.took_fin ≡ true → IsComplete t new)
      → OneWay t new
  OneWay-other t out received held fin = record {
    well_formed = out.well_formed;
    sync = sync out.sync;
    received = received;
    held = held;
    fin = fin;
    listener = λ e. listener (out.listener e);
    sent = AllByRecursion-map (IsHonest t s) (IsHonest t new) (IsHonest-other t) t.sent out.sent;
  } where
    sync : IsInStep t s ⊎ IsSilent t s → IsInStep t new ⊎ IsSilent t new
    sync (inl in_step) =
        let first = out.well_formed.iss.0 in
        let counts = in_step.counts in
        let low : 2 ^ 32 ≤ s.irs = omega arith in
        let same = (grows.taken low).0 in
        let further = (grows.taken low).1 in
        inl (record { counts = same ∙ counts; opened = in_step.opened; reached = omega arith })
    sync (inr silent) = inr (record { unwritten = silent.unwritten; closed = silent.closed; una = una silent.una }) where
      una : (t.una ≡ t.iss) ⊎ HasReached s (wire t.una) → (t.una ≡ t.iss) ⊎ HasReached new (wire t.una)
      una (inl first) = inl first
      una (inr reached) = inr (HasReached-grows (wire t.una) reached)

    listener : (t.irs ≡ 0) ⊎ ((t.irs ≡ s.iss) × (s.opening ≡ Active)) → (t.irs ≡ 0) ⊎ ((t.irs ≡ new.iss) × (new.opening ≡ Active))
    listener (inl none) = inl none
    listener (inr heard) = let a = grows.active heard.1 in inr (heard.0 ∙ sym a.1, a.0)

  -- where it took in nothing
  pub OneWay-same : (t : Side) → OneWay t s → taken_in new ≡ taken_in s → new.window ≡ s.window → new.took_fin ≡ s.took_fin → new.irs ≡ s.irs → OneWay t new
  OneWay-same t out bytes window fin irs =
      OneWay-other t out
      (subst (λ (ys : List ℕ). Begins ys t.written) (sym bytes) out.received)
      (subst (λ (map : List (Option ℕ)). AgreesWith map (drop (length (taken_in new)) t.written)) (sym window)
      (subst (λ (ys : List ℕ). AgreesWith s.window (drop (length ys) t.written)) (sym bytes) out.held))
      (λ e. IsComplete-same t s new bytes irs (out.fin (sym fin ∙ e)))
