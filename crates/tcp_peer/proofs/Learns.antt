-- What the peer learns and says next: its stream, once this side counts from its SYN, and what it acknowledges.
use Rattle.std.proofs.Common.{◌≡◌, ◌⊎◌, inl, inr, ℕ, suc, ◌+◌, ◌-◌, ◌<◌, ◌≤◌, nat_lt, Bool, true, false, List, [], length, take, refl, ap, arith, le_refl}
use Rattle.std.proofs.Common.{length-take, take_all}
use Rattle.std.proofs.lemmas.Bool.Decides.{nat_tests}
use Rattle.tcp_theory.specs.Invariant.{HoldsBetween, IsWellFormed, IsComplete}
use Rattle.tcp_theory.specs.Segment.{Segment}
use Rattle.tcp_theory.specs.Side.{Side, rcv_next, one_if}
use Rattle.tcp_theory.specs.Side.Phase.{Synchronized, Ended}
use Rattle.tcp_theory.specs.Side.Opening.{Passive, Active}
use Rattle.tcp_theory.proofs.Lists.{Begins-take}
use Rattle.tcp_theory.proofs.Grows.{Grows, Grows-same, IsWellFormed-same, OneWay-own, OneWay-other, OneWay-same}
use Rattle.tcp_theory.proofs.Calls.{same_sync}
use Rattle.tcp_peer.specs.Peer.{End, IsEnd, end_of, as_end}
use Rattle.tcp_peer.proofs.Shadow.{shadow, IsBeside}

-- ITS STREAM

module _ (peer : End) (s : Side) (came : List Segment) (e : IsEnd peer) (b : IsBeside peer [] false s came) where
  abbrev old : Side
  old = shadow peer [] false b.una b.took b.fin came

  abbrev new : ℕ → Side
  new una = shadow peer peer.stream peer.ends una b.took b.fin came

  grows : (una : ℕ) → Grows old (new una)
  grows una = record {
    late = λ _. (tt, refl);
    written = (peer.stream, refl);
    closed = λ (e : false ≡ true). absurd (cc);
    active = λ _. (refl, refl);
    taken = λ _. (refl, le_refl _);
  }

  well : (una : ℕ) → peer.first ≤ una → una ≤ suc peer.first → IsWellFormed (new una)
  well una low high =
      record { phase = tt; early = λ early. absurd early; iss = e.first; una_low = low; una_high = omega arith; short = e.short; irs = e.heard.1 }

  -- this side counts from its SYN, or the stream has no bytes
  pub opens : (s.irs ≡ peer.first) ⊎ (peer.stream ≡ []) → IsBeside peer peer.stream peer.ends s came
  opens (inl heard) =
      let una = suc peer.first in
      record {
        una = una;
        took = b.took;
        fin = b.fin;
        taken = b.taken;
        holds = (
          OneWay-same old (new una) (grows una) s b.holds.0 refl refl refl refl,
          OneWay-own old (new una) (grows una) s b.holds.1 (well una (omega arith) (le_refl _))
              (inl (record { counts = heard; opened = le_refl _; reached = omega arith })) (λ (e : Active ≡ Passive). absurd (cc)) (λ sent. sent),
        );
      }
  opens (inr nothing) =
      let was = b.holds.1.well_formed in
      let low = was.una_low in
      let high = was.una_high in
      record {
        una = b.una;
        took = b.took;
        fin = b.fin;
        taken = b.taken;
        holds = (
          OneWay-same old (new b.una) (grows b.una) s b.holds.0 refl refl refl refl,
          OneWay-own old (new b.una) (grows b.una) s b.holds.1 (well b.una low (omega arith))
              (same_sync old (new b.una) s refl refl nothing (λ _ (e : Ended ≡ Synchronized). absurd (cc)) b.holds.1.sync)
              (λ (e : Active ≡ Passive). absurd (cc)) (λ sent. sent),
        );
      }

-- WHAT IT ACKNOWLEDGES

-- it has taken in up to this position
pub record Reaches (peer : End) (written : List ℕ) (closed : Bool) (una : ℕ) (s : Side) (came : List Segment) (at : ℕ) : Type 0 where
  pub took : List ℕ
  pub fin : Bool
  pub just : suc peer.heard + length took + one_if fin ≡ at
  pub holds : HoldsBetween s (shadow peer written closed una took fin came)

pub test_lt : (a b : ℕ) → nat_lt a b ≡ true → a < b
test_lt a b e = grind (arith, nat_tests)

pub test_ge : (a b : ℕ) → nat_lt a b ≡ false → b ≤ a
test_ge a b e = grind (arith, nat_tests)

module _
    (peer : End) (written : List ℕ) (closed : Bool) (una : ℕ) (took : List ℕ) (fin : Bool) (s : Side) (came : List Segment) (e : IsEnd peer)
    (holds : HoldsBetween s (shadow peer written closed una took fin came)) where
  abbrev before : Side
  before = shadow peer written closed una took fin came

  abbrev following : List ℕ → Bool → Side
  following took' fin' = shadow peer written closed una took' fin' came

  -- it takes in the first bytes of what this side wrote, and its FIN if that is asked for
  takes_in :
      (count : ℕ) (fin' : Bool) → rcv_next before ≤ rcv_next (following (take count s.written) fin')
      → (fin' ≡ true → IsComplete s (following (take count s.written) fin'))
      → HoldsBetween s (following (take count s.written) fin')
  takes_in count fin' further complete =
      let t' = following (take count s.written) fin' in
      let was = holds.1.well_formed in
      let grows = Grows-same before t' (λ late. late) refl refl (λ e. e) refl (λ _. (refl, further)) in
      let well = IsWellFormed-same before t' was refl refl refl (le_refl _) refl tt (λ early. absurd early) in (
        OneWay-other before t' grows s holds.0 (Begins-take count s.written) tt complete,
        OneWay-own before t' grows s holds.1 well (same_sync before t' s refl refl refl (λ h. h) holds.1.sync) (λ (e : Active ≡ Passive). absurd (cc))
            (λ sent. sent),
      )

  pub reaches : (at : ℕ) → rcv_next before ≤ at → peer.heard ≡ s.iss → peer.heard < at → at ≤ end_of (as_end s) → Reaches peer written closed una s came at
  reaches at further counts past most = by (nat_lt (suc s.iss + length s.written) at) refl where
    by : (test : Bool) → nat_lt (suc s.iss + length s.written) at ≡ test → Reaches peer written closed una s came at
    by false t =
        let short = test_ge (suc s.iss + length s.written) at t in
        let count = at - suc peer.heard in
        let size = length-take count s.written in
        let just : suc peer.heard + length (take count s.written) + 0 ≡ at = omega arith in
        record {
          took = take count s.written;
          fin = false;
          just = just;
          holds = takes_in count false (omega (arith, just, further)) (λ (e : false ≡ true). absurd (cc));
        }
    by true t = with_fin (test_lt (suc s.iss + length s.written) at t) s.closed refl where
      with_fin : suc s.iss + length s.written < at → (b : Bool) → s.closed ≡ b → Reaches peer written closed una s came at
      with_fin long false c = absurd (let none = ap one_if c in omega arith)
      with_fin long true c =
          let one = ap one_if c in
          let count = length s.written in
          let whole : take count s.written ≡ s.written = take_all count s.written (le_refl _) in
          let size = ap length whole in
          let just : suc peer.heard + length (take count s.written) + 1 ≡ at = omega arith in
          record {
            took = take count s.written;
            fin = true;
            just = just;
            holds = takes_in count true (omega (arith, just, further)) (λ _. record { closed = c; whole = whole; counts = counts });
          }
