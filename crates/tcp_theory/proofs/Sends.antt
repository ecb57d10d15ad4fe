-- Each segment that a side sends keeps the invariant.
use Rattle.std.proofs.Common.{◌≡◌, ◌⊎◌, inl, inr, ℕ, suc, ◌+◌, ◌-◌, ◌^◌, ◌<◌, ◌≤◌, Bool, true, false, length, drop, Some, None, refl, sym, subst, arith}
use Rattle.std.proofs.Common.{length-drop, length-take, le_refl}
use Rattle.tcp_theory.specs.Numbers.{wire}
use Rattle.tcp_theory.specs.Segment.{Segment, IsData, fin_if}
use Rattle.tcp_theory.specs.Segment.Control.{Fin}
use Rattle.tcp_theory.specs.Side.{Side, rcv_next}
use Rattle.tcp_theory.specs.Side.Phase.{SynSent, Synchronized}
use Rattle.tcp_theory.specs.Move.{sends, syn, syn_ack, bare_ack, data_segment, keep_alive, bytes_from}
use Rattle.tcp_theory.specs.Move.Move.{SendsSyn, SendsSynAck, SendsAck, SendsData, SendsKeepAlive, SendsReset}
use Rattle.tcp_theory.specs.Invariant.{IsLate, IsBelow, HasReached, IsHonest, IsInStep, IsSilent, OneWay}
use Rattle.tcp_theory.proofs.Lists.{Begins-take, AllByRecursion-push}
use Rattle.tcp_theory.proofs.Grows.{Grows-same, IsWellFormed-same, IsHonest-own, OneWay-own, OneWay-same}
use Rattle.tcp_theory.proofs.Calls.{Keeps, same_sync, heard, fits_at}

-- one more honest segment
keeps_sent : (s t : Side) (x : Segment) → OneWay s t → OneWay t s → IsHonest s t x → OneWay (sends s x) t × OneWay t (sends s x)
keeps_sent s t x out back honest =
    let new = sends s x in
    let well = out.well_formed in
    let grows = Grows-same s new (λ late. late) refl refl (λ e. e) refl (λ _. (refl, le_refl _)) in
    let well' = IsWellFormed-same s new well refl refl refl (le_refl _) refl well.phase well.early in (
      OneWay-own s new grows t out well' (same_sync s new t refl refl refl (λ h. h) out.sync) out.listener
          (λ sent. AllByRecursion-push (IsHonest new t) s.sent x sent (IsHonest-own s new grows t x honest)),
      OneWay-same s new grows t back refl refl refl refl,
    )

-- an acknowledgement of what it took
rcv_next-reached : (s : Side) → 2 ^ 32 ≤ s.irs → HasReached s (wire (rcv_next s))
rcv_next-reached s low = record { at = rcv_next s; same = refl; heard = low; after_syn = omega arith; high = le_refl _ }

acks_reached : (s : Side) (x : Segment) → 2 ^ 32 ≤ s.irs → x.ack ≡ Some (wire (rcv_next s)) →
    (x.ack ≡ None) ⊎ ((number : ℕ) × (x.ack ≡ Some number) × HasReached s number)
acks_reached s x low e = inr (wire (rcv_next s), e, rcv_next-reached s low)

pub keeps_sends_syn : (s t : Side) → Keeps s t SendsSyn
keeps_sends_syn s t out back may =
    let fits = fits_at s SynSent out.well_formed may in
    keeps_sent s t (syn s) out back
    (inr (inr (inr (record { syn = refl; at = s.iss; first = out.well_formed.iss; seq = refl; bare = λ _. (refl, fits.0) })), inl refl))

pub keeps_sends_syn_ack : (s t : Side) → Keeps s t SendsSynAck
keeps_sends_syn_ack s t out back may =
    let low = heard s.phase s.opening s.irs may out.well_formed.phase in
    keeps_sent s t (syn_ack s) out back
    (inr (
      inr (inr (record { syn = refl; at = s.iss; first = out.well_formed.iss; seq = refl; bare = λ (e : Some (wire (rcv_next s)) ≡ None). absurd (cc) })),
      acks_reached s (syn_ack s) low refl,
    ))

pub keeps_sends_ack : (s t : Side) (at : ℕ) → Keeps s t (SendsAck at)
keeps_sends_ack s t at out back may =
    let low = heard s.phase s.opening s.irs may out.well_formed.phase in
    keeps_sent s t (bare_ack s at) out back (inr (inr (inl (record { plain = refl; bytes = inl refl })), acks_reached s (bare_ack s at) low refl))

-- the written bytes from a position on fit
bytes_from-fit : (s : Side) (at count : ℕ) → s.iss < at → at ≤ suc s.iss + length s.written → at + length (bytes_from s at count) ≤ suc s.iss + length s.written
bytes_from-fit s at count past fits =
    let cut = length-take count (drop (at - suc s.iss) s.written) in
    let rest = length-drop (at - suc s.iss) s.written in
    omega arith

is_data_fin_if : (fin : Bool) → IsData (fin_if fin)
is_data_fin_if true = tt
is_data_fin_if false = tt

fin_of_control : (fin : Bool) → fin_if fin ≡ Fin → fin ≡ true
fin_of_control true e = refl
fin_of_control false e = absurd (cc)

pub keeps_sends_data : (s t : Side) (at count : ℕ) (fin : Bool) → Keeps s t (SendsData at count fin)
keeps_sends_data s t at count fin out back may =
    let low : 2 ^ 32 ≤ s.irs = fits_at s Synchronized out.well_formed may.running in
    keeps_sent s t (data_segment s at count fin) out back
    (inr (
      inl (record {
        late = subst IsLate (sym may.running) tt;
        kind = is_data_fin_if fin;
        at = at;
        seq = refl;
        after_syn = may.after_syn;
        bytes = Begins-take count (drop (at - suc s.iss) s.written);
        fits = bytes_from-fit s at count may.after_syn may.within;
        fin = λ e. may.last (fin_of_control fin e);
      }),
      acks_reached s (data_segment s at count fin) low refl,
    ))

-- the byte below SND.UNA lies below RCV.NXT of the peer
keep_alive-below : (s t : Side) → OneWay s t → s.iss < s.una → IsBelow t (keep_alive s)
keep_alive-below s t out past = by out.sync where
  by : IsInStep s t ⊎ IsSilent s t → IsBelow t (keep_alive s)
  by (inl in_step) =
      let first = out.well_formed.iss.0 in
      let counts = in_step.counts in
      let reached = in_step.reached in
      record {
        at = s.una - 1;
        number = refl;
        heard = omega arith;
        low = omega arith;
        high = omega arith;
      }
  by (inr silent) = una silent.una where
    una : (s.una ≡ s.iss) ⊎ HasReached t (wire s.una) → IsBelow t (keep_alive s)
    una (inl none) = absurd (omega arith)
    una (inr h) =
        let number = h.same in
        let first = out.well_formed.iss.0 in
        record {
          at = h.at - 1;
          number = omega arith;
          heard = h.heard;
          low = omega arith;
          high = omega arith;
        }

pub keeps_sends_keep_alive : (s t : Side) → Keeps s t SendsKeepAlive
keeps_sends_keep_alive s t out back may =
    let low : 2 ^ 32 ≤ s.irs = fits_at s Synchronized out.well_formed may.0 in
    keeps_sent s t (keep_alive s) out back
    (inr (inr (inl (record { plain = refl; bytes = inr (keep_alive-below s t out may.1) })), acks_reached s (keep_alive s) low refl))

pub keeps_sends_reset : (s t : Side) (x : Segment) → Keeps s t (SendsReset x)
keeps_sends_reset s t x out back may = keeps_sent s t x out back (inl may)
