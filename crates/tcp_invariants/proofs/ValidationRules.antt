-- Congestion window validation.
use Rattle.std.proofs.Common.{◌≡◌, ℕ, zero, suc, ◌+◌, ◌-◌, ◌*◌, ◌/◌, ◌^◌, ◌<◌, ◌≤◌, ◌==◌, nat_le, ◌&&◌, ◌||◌, not, min, max, ℤ, pos, ◌+ℤ◌, ◌-ℤ◌, ◌<ℤ◌, ◌≤ℤ◌}
use Rattle.std.proofs.Common.{int_lt, unsigned_abs, Bool, true, false, if◌then◌else◌, Option, Some, None, refl, sym, ap, ◌∙◌, subst, arith}
use Rattle.std.proofs.lemmas.Bool.{cond_both, eqb-true, lt-ltb, ne_eqb}
use Rattle.std.proofs.lemmas.Bool.Decides.{nat_tests}
use Rattle.std.proofs.lemmas.Int.{ints}
use Rattle.std.proofs.lemmas.Nat.{shr-shr, shr_le}
use Rattle.tcp_state.specs.Cubic.{CubicValue}
use Rattle.tcp_state.specs.Reno as reno
use Rattle.tcp_state.specs.Reno.{RenoValue, first_window, lapsed}
use Rattle.tcp_state.specs.declared.offer.OfferKind.{OfferKind}
use Rattle.tcp_state.specs.declared.offer.OfferKind.TheVariants as Kind
use Rattle.tcp_state.specs.declared.offer.OpenOffer.{OpenOffer}
use Rattle.tcp_block.specs.Acknowledged.{una_moved, acks_in_recovery, recovery_after, freed_by, srtt_after}
use Rattle.tcp_block.specs.Settled.{end_of, recorded, sent_as, sent_off, settled}
use Rattle.tcp_block.specs.Validation.{grown_if_used, is_used, periods}
use Rattle.tcp_block.specs.Value.{TcpValue, queued_in, room_of, unoffered}
use Rattle.tcp_block.specs.declared.tcb.Tcb.{Tcb}
use Rattle.tcp_invariants.specs.Validation.{IsNewPayload, IsPast, IsWithin}
use Rattle.tcp_invariants.proofs.OrderSteps.{clash}

-- PERIODS

many : (since now : ℤ) (n : ℕ) → n ≤ 31 → (since +ℤ pos (n * 300_000_000)) ≤ℤ now → n ≤ periods (Some since) now
many since now n small e = at (int_lt since now) refl where
  apart : (since now : ℤ) (m : ℕ) → (since +ℤ pos m) ≤ℤ now → m ≤ unsigned_abs (now -ℤ since)
  apart since now m e = omega (arith, ints)

  count : (n m : ℕ) → n ≤ 31 → n * 300_000_000 ≤ m → n ≤ min 31 (m / 300_000_000)
  count n m small e = omega arith

  none : (since now : ℤ) (m : ℕ) → int_lt since now ≡ false → (since +ℤ pos m) ≤ℤ now → m ≡ 0
  none since now m later e = grind (arith, ints)

  zero_of : (n : ℕ) → n * 300_000_000 ≡ 0 → n ≤ 0
  zero_of n e = omega arith

  at : (later : Bool) → int_lt since now ≡ later
      → n ≤ (if later then min 31 (unsigned_abs (now -ℤ since) / 300_000_000) else 0)
  at true is = count n (unsigned_abs (now -ℤ since)) small (apart since now (n * 300_000_000) e)
  at false is = zero_of n (none since now (n * 300_000_000) is e)

soon : (since : Option ℤ) (now : ℤ) → IsWithin since now → periods since now ≡ 0
soon None now e = refl
soon (Some since) now e = at (int_lt since now) refl where
  apart : (since now : ℤ) → int_lt since now ≡ true → now <ℤ (since +ℤ pos 300_000_000) → unsigned_abs (now -ℤ since) < 300_000_000
  apart since now is e = grind (arith, ints)

  count : (m : ℕ) → m < 300_000_000 → min 31 (m / 300_000_000) ≡ 0
  count m e = omega arith

  at : (later : Bool) → int_lt since now ≡ later
      → (if later then min 31 (unsigned_abs (now -ℤ since) / 300_000_000) else 0) ≡ 0
  at true is = count (unsigned_abs (now -ℤ since)) (apart since now is e)
  at false is = refl

past : (since : Option ℤ) (now : ℤ) (n : ℕ) → n ≤ 31 → IsPast since n now → n ≤ periods since now
past None now n small e = absurd e
past (Some since) now n small e = many since now n small e

-- WINDOWS

-- more periods leave no more
fewer : (cwnd n p : ℕ) → n ≤ p → cwnd / 2 ^ p ≤ cwnd / 2 ^ n
fewer cwnd n p e =
    subst (λ (m : ℕ). cwnd / 2 ^ m ≤ cwnd / 2 ^ n) (sum n p e)
    (subst (λ (m : ℕ). m ≤ cwnd / 2 ^ n) (shr-shr cwnd n (p - n)) (shr_le (cwnd / 2 ^ n) (p - n)))
  where
    sum : (n p : ℕ) → n ≤ p → n + (p - n) ≡ p
    sum n p e = omega arith

lapsed_low : (r : RenoValue) (n p : ℕ) → n ≤ p → (lapsed r p).cwnd ≤ max (r.cwnd / 2 ^ n) (first_window r.mss)
lapsed_low r n p e =
    cond_both (p == 0) r.cwnd (min r.cwnd (max (r.cwnd / 2 ^ p) (first_window r.mss))) (λ (m : ℕ). m ≤ max (r.cwnd / 2 ^ n) (first_window r.mss))
    (λ none. at (eqb-true p 0 none))
    (λ _. within r.cwnd (r.cwnd / 2 ^ p) (r.cwnd / 2 ^ n) (first_window r.mss) (fewer r.cwnd n p e))
  where
    within : (cwnd a b first : ℕ) → a ≤ b → min cwnd (max a first) ≤ max b first
    within cwnd a b first e = omega arith

    whole : (cwnd first : ℕ) → cwnd ≤ max (cwnd / 2 ^ 0) first
    whole cwnd first = omega arith

    none_of : (n p : ℕ) → n ≤ p → p ≡ 0 → n ≡ 0
    none_of n p e f = omega arith

    at : p ≡ 0 → r.cwnd ≤ max (r.cwnd / 2 ^ n) (first_window r.mss)
    at none = subst (λ (m : ℕ). r.cwnd ≤ max (r.cwnd / 2 ^ m) (first_window r.mss)) (sym (none_of n p e none)) (whole r.cwnd (first_window r.mss))

lapsed_least : (r : RenoValue) (p : ℕ) → min r.cwnd (first_window r.mss) ≤ (lapsed r p).cwnd
lapsed_least r p =
    cond_both (p == 0) r.cwnd (min r.cwnd (max (r.cwnd / 2 ^ p) (first_window r.mss))) (λ (m : ℕ). min r.cwnd (first_window r.mss) ≤ m)
    (λ _. left r.cwnd (first_window r.mss)) (λ _. both r.cwnd (r.cwnd / 2 ^ p) (first_window r.mss))
  where
    left : (a b : ℕ) → min a b ≤ a
    left a b = omega arith

    both : (cwnd a first : ℕ) → min cwnd first ≤ min cwnd (max a first)
    both cwnd a first = omega arith

lapsed_most : (r : RenoValue) (p : ℕ) → (lapsed r p).cwnd ≤ r.cwnd
lapsed_most r p =
    cond_both (p == 0) r.cwnd (min r.cwnd (max (r.cwnd / 2 ^ p) (first_window r.mss))) (λ (m : ℕ). m ≤ r.cwnd)
    (λ _. same r.cwnd) (λ _. left r.cwnd (max (r.cwnd / 2 ^ p) (first_window r.mss)))
  where
    same : (a : ℕ) → a ≤ a
    same a = omega arith

    left : (a b : ℕ) → min a b ≤ a
    left a b = omega arith

-- NEW TEXT

-- what its settling makes of the window
payload_reno : (v : TcpValue) (o : OpenOffer) → IsNewPayload v o → (settled true v).tcb.reno ≡ lapsed v.tcb.reno (periods v.tcb.validation.since o.instant)
payload_reno v o is =
    ap (λ (offered : Option OpenOffer). (sent_off offered (unoffered v)).tcb.reno) is.offered
    ∙ (ap (λ (kind : OfferKind). (sent_as kind (recorded v.tcb o (room_of v.received)) o (queued_in v)).reno) is.kind
    ∙ ap (λ (new : Bool). lapsed v.tcb.reno (if new then periods v.tcb.validation.since o.instant else 0))
    (lt-ltb v.tcb.sender.snd_max (max v.tcb.sender.snd_max (end_of v.tcb o)) (higher v.tcb.sender.snd_max (end_of v.tcb o) is.new)))
  where
    higher : (snd_max end : ℕ) → snd_max < end → snd_max < max snd_max end
    higher snd_max end e = omega arith

payload_window : (v : TcpValue) (o : OpenOffer) → IsNewPayload v o
    → (settled true v).tcb.reno.cwnd ≡ (lapsed v.tcb.reno (periods v.tcb.validation.since o.instant)).cwnd
payload_window v o is = ap (λ (r : RenoValue). r.cwnd) (payload_reno v o is)

pub halves : (v : TcpValue) (o : OpenOffer) (n : ℕ) → IsNewPayload v o → n ≤ 31 → IsPast v.tcb.validation.since n o.instant
    → (settled true v).tcb.reno.cwnd ≤ max (v.tcb.reno.cwnd / 2 ^ n) (first_window v.tcb.reno.mss)
halves v o n is small e =
    subst (λ (m : ℕ). m ≤ max (v.tcb.reno.cwnd / 2 ^ n) (first_window v.tcb.reno.mss)) (sym (payload_window v o is))
    (lapsed_low v.tcb.reno n (periods v.tcb.validation.since o.instant) (past v.tcb.validation.since o.instant n small e))

pub hour : (v : TcpValue) (o : OpenOffer) → IsNewPayload v o → IsPast v.tcb.validation.since 12 o.instant
    → v.tcb.reno.cwnd ≤ 4096 * first_window v.tcb.reno.mss → (settled true v).tcb.reno.cwnd ≤ first_window v.tcb.reno.mss
hour v o is e small =
    within (settled true v).tcb.reno.cwnd v.tcb.reno.cwnd (first_window v.tcb.reno.mss) (halves v o 12 is (omega arith) e) small
  where
    within : (new old first : ℕ) → new ≤ max (old / 2 ^ 12) first → old ≤ 4096 * first → new ≤ first
    within new old first e f = omega arith

pub least : (v : TcpValue) (o : OpenOffer) → IsNewPayload v o → min v.tcb.reno.cwnd (first_window v.tcb.reno.mss) ≤ (settled true v).tcb.reno.cwnd
least v o is =
    subst (λ (m : ℕ). min v.tcb.reno.cwnd (first_window v.tcb.reno.mss) ≤ m) (sym (payload_window v o is))
    (lapsed_least v.tcb.reno (periods v.tcb.validation.since o.instant))

pub most : (v : TcpValue) (o : OpenOffer) → IsNewPayload v o → (settled true v).tcb.reno.cwnd ≤ v.tcb.reno.cwnd
most v o is =
    subst (λ (m : ℕ). m ≤ v.tcb.reno.cwnd) (sym (payload_window v o is)) (lapsed_most v.tcb.reno (periods v.tcb.validation.since o.instant))

pub keeps : (v : TcpValue) (o : OpenOffer) → IsNewPayload v o → IsWithin v.tcb.validation.since o.instant → (settled true v).tcb.reno ≡ v.tcb.reno
keeps v o is e = payload_reno v o is ∙ ap (λ (n : ℕ). lapsed v.tcb.reno n) (soon v.tcb.validation.since o.instant e)

pub flight : (v : TcpValue) (o : OpenOffer) → v.offered ≡ Some o → o.kind ≡ Kind.Payload
    → (settled true v).tcb.validation.flight ≡ (settled true v).tcb.sender.flight_size
flight v o offered kind =
    subst (λ (offered : Option OpenOffer). (sent_off offered (unoffered v)).tcb.validation.flight ≡ (sent_off offered (unoffered v)).tcb.sender.flight_size)
    (sym offered)
    (subst
    (λ (kind : OfferKind).
    (sent_as kind (recorded v.tcb o (room_of v.received)) o (queued_in v)).validation.flight
    ≡ (sent_as kind (recorded v.tcb o (room_of v.received)) o (queued_in v)).sender.flight_size)
    (sym kind) refl)

-- ACKNOWLEDGEMENTS

not_left : (a b : Bool) → a ≡ false → (a && b) ≡ false
not_left a b e = ap (λ (x : Bool). x && b) e

pub stays : (b : Tcb) (by queued : ℕ) (now : ℤ) → b.sender.syn_unacked ≡ false → b.reno.recovers ≡ false → 2 * b.validation.flight < b.reno.cwnd
    → (una_moved b by queued now).reno.cwnd ≡ b.reno.cwnd
stays b by queued now on out less =
    ap (λ (test : Bool). (if test then reno.started b.reno b.sender.syn_lost else others).cwnd) (not_left b.sender.syn_unacked (not (by == 0)) on)
    ∙ (ap (λ (test : Bool). (if test then recovery_after b by queued else grown).cwnd) (not_left b.reno.recovers (not (by == 0)) out)
    ∙ (ap (λ (test : Bool). (if test then reno.acknowledged b.reno count now (srtt_after b by now) else reno.preserved b.reno count).cwnd)
    (not_used b.reno.cwnd b.validation.flight less)
    ∙ cond_both (count == 0) b.reno (record b.reno { timed_out = false; cubic = reno.stopped b.reno.cubic })
    (λ (r : RenoValue). r.cwnd ≡ b.reno.cwnd) (λ _. refl) (λ _. refl)))
  where
    count : ℕ
    count = freed_by b by queued

    grown : RenoValue
    grown = grown_if_used b count now (srtt_after b by now)

    others : RenoValue
    others = if acks_in_recovery b by then recovery_after b by queued else grown

    not_used : (cwnd flight : ℕ) → 2 * flight < cwnd → nat_le cwnd (2 * flight) ≡ false
    not_used cwnd flight e = grind (arith, nat_tests, e)

pub counts : (b : Tcb) (by queued : ℕ) (now : ℤ) → 1 ≤ by → b.reno.cwnd ≤ 2 * b.validation.flight → (una_moved b by queued now).validation.since ≡ Some now
counts b by queued now some used =
    ap (λ (test : Bool). if test then Some now else b.validation.since)
    (all (by == 0) b.sender.syn_unacked b.reno.recovers (is_used b) (some_of by some) (used_of b.reno.cwnd b.validation.flight used))
  where
    some_of : (n : ℕ) → 1 ≤ n → (n == 0) ≡ false
    some_of n e = grind (arith, nat_tests, e)

    used_of : (cwnd flight : ℕ) → cwnd ≤ 2 * flight → nat_le cwnd (2 * flight) ≡ true
    used_of cwnd flight e = grind (arith, nat_tests, e)

    all : (none syn recovers used : Bool) → none ≡ false → used ≡ true → (not none && (syn || (recovers || used))) ≡ true
    all false true recovers used e f = refl
    all false false true used e f = refl
    all false false false true e f = refl
    all false false false false e f = clash (sym f)
    all true syn recovers used e f = clash e

-- ONE BY ONE

stopped_twice : (c : Option CubicValue) → reno.stopped (reno.stopped c) ≡ reno.stopped c
stopped_twice None = refl
stopped_twice (Some c) = refl

-- where a period ended
abbrev lapsed_some : RenoValue → ℕ → RenoValue
lapsed_some r p = record r {
  cwnd = min r.cwnd (max (r.cwnd / 2 ^ p) (first_window r.mss));
  ssthresh = max r.ssthresh (3 * r.cwnd / 4);
  cubic = reno.stopped r.cubic;
}

some_lapsed : (r : RenoValue) (p : ℕ) → (p == 0) ≡ false → lapsed r p ≡ lapsed_some r p
some_lapsed r p e =
    ap
    (λ (none : Bool). record r {
      cwnd = if none then r.cwnd else min r.cwnd (max (r.cwnd / 2 ^ p) (first_window r.mss));
      ssthresh = if none then r.ssthresh else max r.ssthresh (3 * r.cwnd / 4);
      cubic = if none then r.cubic else reno.stopped r.cubic;
    })
    e

pub one_more : (r : RenoValue) (n : ℕ) → lapsed (lapsed r n) 1 ≡ lapsed r (n + 1)
one_more r zero = refl
one_more r (suc n) =
    ap (λ (x : RenoValue). lapsed x 1) (some_lapsed r (suc n) (more n)) ∙ (twice ∙ sym (some_lapsed r (suc n + 1) (more_still n)))
  where
    more : (n : ℕ) → (suc n == 0) ≡ false
    more n = ne_eqb (suc n) 0 (λ e. omega (arith, e))

    more_still : (n : ℕ) → (suc n + 1 == 0) ≡ false
    more_still n = ne_eqb (suc n + 1) 0 (λ e. omega (arith, e))

    half : (cwnd n : ℕ) → cwnd / 2 ^ n / 2 ≡ cwnd / 2 ^ (n + 1)
    half cwnd n = shr-shr cwnd n 1

    window : (cwnd a b first : ℕ) → a / 2 ≡ b → a ≤ cwnd
        → min (min cwnd (max a first)) (max (min cwnd (max a first) / 2) first) ≡ min cwnd (max b first)
    window cwnd a b first e f = omega arith

    threshold : (ssthresh cwnd a : ℕ) → max (max ssthresh (3 * cwnd / 4)) (3 * min cwnd a / 4) ≡ max ssthresh (3 * cwnd / 4)
    threshold ssthresh cwnd a = omega arith

    twice : lapsed (lapsed_some r (suc n)) 1 ≡ lapsed_some r (suc n + 1)
    twice = λ i. record {
      mss = r.mss;
      cwnd = window r.cwnd (r.cwnd / 2 ^ suc n) (r.cwnd / 2 ^ (suc n + 1)) (first_window r.mss) (half r.cwnd (suc n)) (shr_le r.cwnd (suc n)) i;
      ssthresh = threshold r.ssthresh r.cwnd (max (r.cwnd / 2 ^ suc n) (first_window r.mss)) i;
      recovers = r.recovers;
      timed_out = r.timed_out;
      cubic = stopped_twice r.cubic i;
    }
