-- The calls of a user, the end of a connection and the fallback of a listener keep the invariant.
use Rattle.std.proofs.Common.{◌≡◌, ◌⊎◌, inl, inr, ℕ, ◌+◌, ◌^◌, ◌≤◌, Bool, true, false, List, [], ◌++◌, length, take, drop, Option, refl, sym, ap, ◌∙◌, subst}
use Rattle.std.proofs.Common.{arith, length-append, append-nil, append_assoc, take-append-drop, le_refl}
use Rattle.tcp_theory.specs.Numbers.{wire}
use Rattle.tcp_theory.specs.ReceiveMap.{Begins, AgreesWith, space}
use Rattle.tcp_theory.specs.Side.{Phase, Opening, Side, taken_in, rcv_next, one_if, IsConnected}
use Rattle.tcp_theory.specs.Side.Phase.{Unopened, Listen, SynSent, SynReceived, Synchronized, Ended}
use Rattle.tcp_theory.specs.Side.Opening.{NotYet, Passive, Active}
use Rattle.tcp_theory.specs.Move.{Move, May, after}
use Rattle.tcp_theory.specs.Move.Move.{Listens, Connects, Writes, Reads, Closes, Ends, FallsBack}
use Rattle.tcp_theory.specs.Invariant.{IsLate, IsEarly, FitsPhase, HasNoStream, IsWellFormed, IsInStep, IsSilent, IsComplete, OneWay, HasReached}
use Rattle.tcp_theory.proofs.Lists.{AgreesWith-room, AgreesWith-space}
use Rattle.tcp_theory.proofs.Grows.{Grows, Grows-same, IsWellFormed-same, IsInStep-same, IsComplete-same, OneWay-own, OneWay-other, OneWay-same}

-- a move of s keeps both streams
abbrev pub Keeps : Side → Side → Move → Type 0
Keeps s t move = OneWay s t → OneWay t s → May s t move → OneWay (after s move) t × OneWay t (after s move)

pub same_bytes : (xs : List ℕ) → (more : List ℕ) × (xs ≡ xs ++ more)
same_bytes xs = ([], sym (append-nil xs))

-- a connected side took a SYN
pub heard : (phase : Phase) (opening : Opening) (irs : ℕ) → IsConnected phase → FitsPhase phase opening irs → 2 ^ 32 ≤ irs
heard SynReceived opening irs c fits = fits
heard Synchronized opening irs c fits = fits
heard Unopened opening irs c fits = absurd c
heard Listen opening irs c fits = absurd c
heard SynSent opening irs c fits = absurd c
heard Ended opening irs c fits = absurd c

pub fits_connected : (phase : Phase) (opening : Opening) (irs : ℕ) → IsConnected phase → 2 ^ 32 ≤ irs → FitsPhase phase opening irs
fits_connected SynReceived opening irs c low = low
fits_connected Synchronized opening irs c low = low
fits_connected Unopened opening irs c low = absurd c
fits_connected Listen opening irs c low = absurd c
fits_connected SynSent opening irs c low = absurd c
fits_connected Ended opening irs c low = absurd c

pub fits_at : (s : Side) (phase : Phase) → IsWellFormed s → s.phase ≡ phase → FitsPhase phase s.opening s.irs
fits_at s phase well e = subst (λ (p : Phase). FitsPhase p s.opening s.irs) e well.phase

pub early_at : (s : Side) (phase : Phase) → s.phase ≡ phase → IsEarly phase → IsEarly s.phase
early_at s phase e early = subst IsEarly (sym e) early

pub not_late : {A : Type 0} (s : Side) (phase : Phase) → s.phase ≡ phase → (IsLate phase → ⊥) → IsLate s.phase → A
not_late s phase e early late = absurd (early (subst IsLate e late))

pub one_if-small : (b : Bool) → one_if b ≤ 1
one_if-small true = omega arith
one_if-small false = omega arith

-- where nothing of the stream to the peer changes
pub same_sync :
    (s new t : Side) → new.iss ≡ s.iss → new.una ≡ s.una → new.written ≡ s.written
    → ((s.phase ≡ Synchronized → s.closed ≡ true) → new.phase ≡ Synchronized → new.closed ≡ true)
    → IsInStep s t ⊎ IsSilent s t
    → IsInStep new t ⊎ IsSilent new t
same_sync s new t iss una written closed (inl in_step) = inl (IsInStep-same s new t iss una in_step)
same_sync s new t iss una written closed (inr silent) =
    inr (record { unwritten = written ∙ silent.unwritten; closed = closed silent.closed; una = by silent.una }) where
      by : (s.una ≡ s.iss) ⊎ HasReached t (wire s.una) → (new.una ≡ new.iss) ⊎ HasReached t (wire new.una)
      by (inl first) = inl (una ∙ (first ∙ sym iss))
      by (inr reached) = inr (subst (λ (p : ℕ). HasReached t (wire p)) (sym una) reached)

-- where only what the side took in changes
pub keeps_received :
    (s t : Side) (read waiting : List ℕ) (window : List (Option ℕ)) (fin : Bool) →
    let new : Side = record s { read = read; waiting = waiting; window = window; took_fin = fin } in
    OneWay s t → OneWay t s → rcv_next s ≤ rcv_next new → (IsEarly s.phase → HasNoStream new)
    → Begins (taken_in new) t.written → AgreesWith window (drop (length (taken_in new)) t.written) → (fin ≡ true → IsComplete t new)
    → OneWay new t × OneWay t new
keeps_received s t read waiting window fin out back further early received held complete =
    let new : Side = record s { read = read; waiting = waiting; window = window; took_fin = fin } in
    let well = out.well_formed in
    let grows = Grows-same s new (λ late. late) refl refl (λ e. e) refl (λ _. (refl, further)) in
    let well' = IsWellFormed-same s new well refl refl refl (le_refl _) refl well.phase early in (
      OneWay-own s new grows t out well' (same_sync s new t refl refl refl (λ h. h) out.sync) out.listener (λ sent. sent),
      OneWay-other s new grows t back received held complete,
    )

pub keeps_listens : (s t : Side) → Keeps s t Listens
keeps_listens s t out back may =
    let new = after s Listens in
    let well = out.well_formed in
    let unset = (fits_at s Unopened well may).0 in
    let no_stream = well.early (early_at s Unopened may tt) in
    let grows : Grows s new = record {
      late = not_late s Unopened may (λ late. late);
      written = same_bytes s.written;
      closed = λ e. (e, refl);
      active = λ e. absurd (let clash : NotYet ≡ Active = sym unset ∙ e in cc);
      taken = λ _. (refl, le_refl _);
    } in
    let well' = IsWellFormed-same s new well refl refl refl (le_refl _) refl refl (λ _. no_stream) in (
      OneWay-own s new grows t out well' (same_sync s new t refl refl refl (λ _ (e : Listen ≡ Synchronized). absurd (cc)) out.sync)
          (λ _. inl (fits_at s Unopened well may).1) (λ sent. sent),
      OneWay-same s new grows t back refl refl refl refl,
    )

pub keeps_connects : (s t : Side) (iss : ℕ) → Keeps s t (Connects iss)
keeps_connects s t iss out back may =
    let new = after s (Connects iss) in
    let well = out.well_formed in
    let fits = fits_at s Unopened well may.0 in
    let unset = fits.0 in
    let none = fits.1 in
    let no_stream = well.early (early_at s Unopened may.0 tt) in
    let grows : Grows s new = record {
      late = not_late s Unopened may.0 (λ late. late);
      written = same_bytes s.written;
      closed = λ e. (e, refl);
      active = λ e. absurd (let clash : NotYet ≡ Active = sym unset ∙ e in cc);
      taken = λ _. (refl, le_refl _);
    } in
    let well' : IsWellFormed new = record {
      phase = (refl, none);
      early = λ _. no_stream;
      iss = may.1;
      una_low = le_refl _;
      una_high = omega arith;
      short = well.short;
      irs = well.irs;
    } in (
      OneWay-own s new grows t out well' (inr (record { unwritten = no_stream.0; closed = λ (e : SynSent ≡ Synchronized). absurd (cc); una = inl refl }))
          (λ (e : Active ≡ Passive). absurd (cc)) (λ sent. sent),
      OneWay-same s new grows t back refl refl refl refl,
    )

pub keeps_writes : (s t : Side) (bytes : List ℕ) → Keeps s t (Writes bytes)
keeps_writes s t bytes out back may =
    let new = after s (Writes bytes) in
    let well = out.well_formed in
    let is_open = may.unclosed in
    let longer = length-append s.written bytes in
    let high = well.una_high in
    let grows : Grows s new = record {
      late = λ late. (late, refl);
      written = (bytes, refl);
      closed = λ e. absurd (let clash : false ≡ true = sym is_open ∙ e in cc);
      active = λ e. (e, refl);
      taken = λ _. (refl, le_refl _);
    } in
    let well' : IsWellFormed new = record {
      phase = well.phase;
      early = λ early. absurd (subst IsEarly may.running early);
      iss = well.iss;
      una_low = well.una_low;
      una_high = omega arith;
      short = may.short;
      irs = well.irs;
    } in (
      OneWay-own s new grows t out well' (sync out.sync) out.listener (λ sent. sent),
      OneWay-same s new grows t back refl refl refl refl,
    )
  where
    sync : IsInStep s t ⊎ IsSilent s t → IsInStep (after s (Writes bytes)) t ⊎ IsSilent (after s (Writes bytes)) t
    sync (inl in_step) = inl (IsInStep-same s (after s (Writes bytes)) t refl refl in_step)
    sync (inr silent) = absurd (let clash : false ≡ true = sym may.unclosed ∙ silent.closed may.running in cc)

-- what was read and what waits are the same bytes together
taken_in-reads : (s : Side) (count : ℕ) → taken_in (after s (Reads count)) ≡ taken_in s
taken_in-reads s count = append_assoc s.read (take count s.waiting) (drop count s.waiting) ∙
    ap (λ (bytes : List ℕ). s.read ++ bytes) (take-append-drop count s.waiting)

pub keeps_reads : (s t : Side) (count : ℕ) → Keeps s t (Reads count)
keeps_reads s t count out back may =
    let given = take count s.waiting in
    let same = taken_in-reads s count in
    let same_length = ap length same in
    keeps_received s t (s.read ++ given) (drop count s.waiting) (s.window ++ space (length given)) s.took_fin out back
    (omega arith)
    (λ early. let none = out.well_formed.early early in (none.0, same ∙ none.1, none.2, none.3))
    (subst (λ (bytes : List ℕ). Begins bytes t.written) (sym same) back.received)
    (subst (λ (bytes : List ℕ). AgreesWith (s.window ++ space (length given)) (drop (length bytes) t.written)) (sym same)
    (AgreesWith-room s.window (length given) (drop (length (taken_in s)) t.written) back.held))
    (λ e. IsComplete-same t s (after s (Reads count)) same refl (back.fin e))

pub keeps_closes : (s t : Side) → Keeps s t Closes
keeps_closes s t out back may =
    let new = after s Closes in
    let well = out.well_formed in
    let grows = Grows-same s new (λ _. tt) refl refl (λ _. refl) refl (λ _. (refl, le_refl _)) in
    let well' = IsWellFormed-same s new well refl refl refl (one_if-small s.closed) refl (heard s.phase s.opening s.irs may well.phase)
    (λ early. absurd early) in (
      OneWay-own s new grows t out well' (same_sync s new t refl refl refl (λ _ _. refl) out.sync) out.listener (λ sent. sent),
      OneWay-same s new grows t back refl refl refl refl,
    )

pub keeps_ends : (s t : Side) → Keeps s t Ends
keeps_ends s t out back may =
    let new = after s Ends in
    let grows = Grows-same s new (λ _. tt) refl refl (λ e. e) refl (λ _. (refl, le_refl _)) in
    let well' = IsWellFormed-same s new out.well_formed refl refl refl (le_refl _) refl tt (λ early. absurd early) in (
      OneWay-own s new grows t out well' (same_sync s new t refl refl refl (λ _ (e : Ended ≡ Synchronized). absurd (cc)) out.sync) out.listener (λ sent. sent),
      OneWay-same s new grows t back refl refl refl refl,
    )

pub keeps_falls_back : (s t : Side) → Keeps s t FallsBack
keeps_falls_back s t out back may =
    let new = after s FallsBack in
    let well = out.well_formed in
    let no_stream = well.early (early_at s SynReceived may.0 tt) in
    let nothing = ap length no_stream.1 in
    let is_open = no_stream.2 in
    let grows : Grows s new = record {
      late = not_late s SynReceived may.0 (λ late. late);
      written = ([], sym (ap (λ (bytes : List ℕ). bytes ++ []) no_stream.0));
      closed = λ e. absurd (let clash : false ≡ true = sym is_open ∙ e in cc);
      active = λ e. absurd (let clash : Passive ≡ Active = sym may.1 ∙ e in cc);
      taken = λ _. (refl, (let no_fin = ap one_if no_stream.3 in omega arith));
    } in
    let well' : IsWellFormed new = record {
      phase = refl;
      early = λ _. (refl, refl, refl, refl);
      iss = (omega arith, omega arith);
      una_low = le_refl _;
      una_high = omega arith;
      short = omega arith;
      irs = well.irs;
    } in (
      OneWay-own s new grows t out well' (inr (record { unwritten = refl; closed = λ (e : Listen ≡ Synchronized). absurd (cc); una = inl refl }))
          (λ _. out.listener may.1) (λ sent. sent),
      OneWay-other s new grows t back tt (AgreesWith-space (length s.waiting + length s.window) t.written) (λ (e : false ≡ true). absurd (cc)),
    )
