-- A SYN and an acknowledgement that a side takes keep the invariant.
use Rattle.std.proofs.Common.{◌≡◌, ◌⊎◌, inl, inr, ℕ, suc, ◌+◌, ◌^◌, ◌≤◌, Bool, true, false, List, [], length, Some, None, refl, sym, ap, ◌∙◌, subst, arith}
use Rattle.std.proofs.Common.{le_refl}
use Rattle.tcp_theory.specs.ReceiveMap.{Begins}
use Rattle.tcp_theory.specs.Numbers.{wire, IsFirst}
use Rattle.tcp_theory.specs.Segment.{Control, Segment, IsData, IsNoReset}
use Rattle.tcp_theory.specs.Segment.Control.{Plain, Syn, Rst}
use Rattle.tcp_theory.specs.Side.{Phase, Side, taken_in, rcv_next, one_if, IsConnected}
use Rattle.tcp_theory.specs.Side.Phase.{Unopened, Listen, SynSent, SynReceived, Synchronized, Ended}
use Rattle.tcp_theory.specs.Side.Opening.{Passive, Active}
use Rattle.tcp_theory.specs.Move.{after, Comes}
use Rattle.tcp_theory.specs.Move.Move.{TakesSyn, TakesCrossedSyn, TakesSynAck, TakesAck}
use Rattle.tcp_theory.specs.Invariant.{IsPiece, IsPlain, IsSyn, HasReached, IsHonest, HasNoStream, IsWellFormed, IsInStep, IsSilent, OneWay}
use Rattle.tcp_theory.proofs.Lists.{AllByRecursion-at, Begins-length, Begins-nothing}
use Rattle.tcp_theory.proofs.Grows.{Grows, Grows-same, OneWay-own, OneWay-other, OneWay-same}
use Rattle.tcp_theory.proofs.Calls.{Keeps, same_bytes, same_sync, one_if-small, heard, fits_connected, fits_at, early_at, not_late}

-- what came is honest
pub honest : (t s : Side) (x : Segment) → OneWay t s → Comes t x → IsHonest t s x
honest t s x back comes = AllByRecursion-at (IsHonest t s) t.sent comes.0 x back.sent comes.1

not_data : {A : Type 0} (control : Control) → control ≡ Syn → IsData control → A
not_data control e kind = absurd (subst IsData e kind)

-- what came with SYN set is a SYN
pub syn_of : (t s : Side) (x : Segment) → x.control ≡ Syn → IsHonest t s x → IsSyn t x
syn_of t s x e (inl reset) = absurd (let clash : Syn ≡ Rst = sym e ∙ reset in cc)
syn_of t s x e (inr h) = kind h.0 where
  kind : IsPiece t x ⊎ (IsPlain s x ⊎ IsSyn t x) → IsSyn t x
  kind (inl piece) = not_data x.control e piece.kind
  kind (inr (inl plain)) = absurd (let clash : Syn ≡ Plain = sym e ∙ plain.plain in cc)
  kind (inr (inr syn)) = syn

-- the number that a segment acknowledges is one that its sender has reached
pub acked : (t s : Side) (x : Segment) (number : ℕ) → IsNoReset x.control → x.ack ≡ Some number → IsHonest t s x → HasReached t number
acked t s x number no_reset e (inl reset) = absurd (subst IsNoReset reset no_reset)
acked t s x number no_reset e (inr h) = by h.1 where
  by : (x.ack ≡ None) ⊎ ((n : ℕ) × (x.ack ≡ Some n) × HasReached t n) → HasReached t number
  by (inl none) = absurd (let clash : Some number ≡ None = sym e ∙ none in cc)
  by (inr some) =
      let both : Some some.0 ≡ Some number = sym some.1 ∙ e in
      let same : some.0 ≡ number = cc in
      subst (HasReached t) same some.2

-- the number of a SYN is that of its position
pub syn_position : (at seq : ℕ) → IsFirst at → seq ≡ wire at → 2 ^ 32 + seq ≡ at
syn_position at seq first e = let low = first.0 in let high = first.1 in omega arith

-- a peer of a side that has no stream has reached nothing past its SYN
pub rcv_next-early : (s t : Side) → OneWay s t → HasNoStream s → rcv_next t ≡ suc t.irs
rcv_next-early s t out none =
    let received : Begins (taken_in t) [] = subst (λ (ys : List ℕ). Begins (taken_in t) ys) none.0 out.received in
    let nothing = ap length (Begins-nothing (taken_in t) received) in
    let no_fin = ap one_if (not_finished t.took_fin refl) in
    omega arith
  where
    not_finished : (b : Bool) → t.took_fin ≡ b → t.took_fin ≡ false
    not_finished false e = e
    not_finished true e = absurd (let f = out.fin e in let clash : false ≡ true = sym none.2 ∙ f.closed in cc)

-- an acknowledgement of its SYN alone says that the peer counts from it
pub opened : (s t : Side) → OneWay s t → OneWay t s → HasNoStream s → HasReached t (wire (suc s.iss)) → (t.irs ≡ s.iss) × (suc s.iss ≤ rcv_next t)
opened s t out back none h =
    let number = h.same in
    let past = h.after_syn in
    let high = h.high in
    let heard_first = h.heard in
    let next = rcv_next-early s t out none in
    let iss_low = out.well_formed.iss.0 in
    let iss_high = out.well_formed.iss.1 in
    let irs_high = back.well_formed.irs in
    (omega arith, omega arith)

pub keeps_takes_syn : (s t : Side) (x : Segment) (iss : ℕ) → Keeps s t (TakesSyn x iss)
keeps_takes_syn s t x iss out back may =
    let new = after s (TakesSyn x iss) in
    let well = out.well_formed in
    let passive = fits_at s Listen well may.listening in
    let no_stream = well.early (early_at s Listen may.listening tt) in
    let its_syn = syn_of t s x may.syn (honest t s x back may.comes) in
    let position = syn_position its_syn.at x.seq its_syn.first its_syn.seq in
    let bare = its_syn.bare may.bare in
    let counts : 2 ^ 32 + x.seq ≡ t.iss = position ∙ bare.0 in
    let high = its_syn.first.1 in
    let grows : Grows s new = record {
      late = not_late s Listen may.listening (λ late. late);
      written = same_bytes s.written;
      closed = λ e. (e, refl);
      active = λ e. absurd (let clash : Passive ≡ Active = sym passive ∙ e in cc);
      taken = λ low. taken counts low (out.listener passive);
    } in
    let well' : IsWellFormed new = record {
      phase = omega arith;
      early = λ _. no_stream;
      iss = may.first;
      una_low = le_refl _;
      una_high = omega arith;
      short = well.short;
      irs = omega arith;
    } in (
      OneWay-own s new grows t out well' (inr (record { unwritten = no_stream.0; closed = λ (e : SynReceived ≡ Synchronized). absurd (cc); una = inl refl }))
          (λ _. inr (counts, bare.1)) (λ sent. sent),
      OneWay-other s new grows t back back.received back.held (λ e. absurd (let no_fin : false ≡ true = sym no_stream.3 ∙ e in cc)),
    )
  where
    taken :
        2 ^ 32 + x.seq ≡ t.iss → 2 ^ 32 ≤ s.irs → (s.irs ≡ 0) ⊎ ((s.irs ≡ t.iss) × (t.opening ≡ Active))
        → (2 ^ 32 + x.seq ≡ s.irs) × (rcv_next s ≤ rcv_next (after s (TakesSyn x iss)))
    taken counts low (inl none) = absurd (omega arith)
    taken counts low (inr same) = let again = same.0 in (omega arith, omega arith)

-- a SYN that a side in SYN-SENT takes, acknowledged or not
keeps_asking :
    (s t : Side) (x : Segment) (phase : Phase) (una : ℕ) → let new : Side = record s { phase = phase; irs = 2 ^ 32 + x.seq; una = una } in
    OneWay s t → OneWay t s → s.phase ≡ SynSent → Comes t x → x.control ≡ Syn
    → IsConnected phase → s.iss ≤ una → una ≤ suc s.iss → IsInStep new t ⊎ IsSilent new t
    → OneWay new t × OneWay t new
keeps_asking s t x phase una out back asking comes syn connected low high sync =
    let new : Side = record s { phase = phase; irs = 2 ^ 32 + x.seq; una = una } in
    let well = out.well_formed in
    let fits = fits_at s SynSent well asking in
    let active = fits.0 in
    let none = fits.1 in
    let no_stream = well.early (early_at s SynSent asking tt) in
    let its_syn = syn_of t s x syn (honest t s x back comes) in
    let position = syn_position its_syn.at x.seq its_syn.first its_syn.seq in
    let below = its_syn.first.1 in
    let grows = Grows-same s new (not_late s SynSent asking (λ late. late)) refl refl (λ e. e) refl (λ heard_before. absurd (omega arith)) in
    let well' : IsWellFormed new = record {
      phase = fits_connected phase s.opening (2 ^ 32 + x.seq) connected (omega arith);
      early = λ _. no_stream;
      iss = well.iss;
      una_low = low;
      una_high = omega arith;
      short = well.short;
      irs = omega arith;
    } in (
      OneWay-own s new grows t out well' sync (λ e. absurd (let clash : Active ≡ Passive = sym active ∙ e in cc)) (λ sent. sent),
      OneWay-other s new grows t back back.received back.held (λ e. absurd (let no_fin : false ≡ true = sym no_stream.3 ∙ e in cc)),
    )

pub keeps_takes_crossed_syn : (s t : Side) (x : Segment) → Keeps s t (TakesCrossedSyn x)
keeps_takes_crossed_syn s t x out back may =
    let well = out.well_formed in
    let no_stream = well.early (early_at s SynSent may.asking tt) in
    let low = well.una_low in
    let high = well.una_high in
    let unwritten = ap length no_stream.0 in
    let unclosed = ap one_if no_stream.2 in
    keeps_asking s t x SynReceived s.una out back may.asking may.comes may.syn tt low (omega arith)
    (same_sync s (after s (TakesCrossedSyn x)) t refl refl refl (λ _ (e : SynReceived ≡ Synchronized). absurd (cc)) out.sync)

pub keeps_takes_syn_ack : (s t : Side) (x : Segment) → Keeps s t (TakesSynAck x)
keeps_takes_syn_ack s t x out back may =
    let no_stream = out.well_formed.early (early_at s SynSent may.asking tt) in
    let number = acked t s x (wire (suc s.iss)) (subst IsNoReset (sym may.syn) tt) may.acks_syn (honest t s x back may.comes) in
    let in_step = opened s t out back no_stream number in
    keeps_asking s t x Synchronized (suc s.iss) out back may.asking may.comes may.syn tt (omega arith) (le_refl _)
    (inl (record { counts = in_step.0; opened = le_refl _; reached = in_step.1 }))

connected_cases : (phase : Phase) → IsConnected phase → (phase ≡ SynReceived) ⊎ (phase ≡ Synchronized)
connected_cases SynReceived c = inl refl
connected_cases Synchronized c = inr refl
connected_cases Unopened c = absurd c
connected_cases Listen c = absurd c
connected_cases SynSent c = absurd c
connected_cases Ended c = absurd c

pub keeps_takes_ack : (s t : Side) (x : Segment) (at : ℕ) → Keeps s t (TakesAck x at)
keeps_takes_ack s t x at out back may =
    let new = after s (TakesAck x at) in
    let well = out.well_formed in
    let low = well.una_low in
    let further = may.low in
    let reached = acked t s x (wire at) may.no_reset may.number (honest t s x back may.comes) in
    let grows = Grows-same s new (λ _. tt) refl refl (λ e. e) refl (λ _. (refl, le_refl _)) in
    let well' : IsWellFormed new = record {
      phase = heard s.phase s.opening s.irs may.connected well.phase;
      early = λ early. absurd early;
      iss = well.iss;
      una_low = omega arith;
      una_high = may.high;
      short = well.short;
      irs = well.irs;
    } in (
      OneWay-own s new grows t out well' (sync reached (connected_cases s.phase may.connected)) out.listener (λ sent. sent),
      OneWay-same s new grows t back refl refl refl refl,
    )
  where
    running : HasReached t (wire at) → s.phase ≡ Synchronized → IsInStep s t ⊎ IsSilent s t → IsInStep (after s (TakesAck x at)) t ⊎
        IsSilent (after s (TakesAck x at)) t
    running h e (inl in_step) =
        let number = h.same in
        let past = h.after_syn in
        let high = h.high in
        let counts = in_step.counts in
        let shorter = Begins-length (taken_in t) s.written out.received in
        let short = out.well_formed.short in
        let fin = one_if-small t.took_fin in
        let asked = one_if-small s.closed in
        let low = may.low in
        let top = may.high in
        let same : at ≡ h.at = omega arith in
        inl (record { counts = counts; opened = omega arith; reached = omega arith })
    running h e (inr silent) = inr (record { unwritten = silent.unwritten; closed = λ _. silent.closed e; una = inr h })

    sync : HasReached t (wire at) → (s.phase ≡ SynReceived) ⊎ (s.phase ≡ Synchronized) → IsInStep (after s (TakesAck x at)) t ⊎
        IsSilent (after s (TakesAck x at)) t
    sync h (inl e) =
        let one : at ≡ suc s.iss = may.opens e in
        let none = out.well_formed.early (early_at s SynReceived e tt) in
        let first : HasReached t (wire (suc s.iss)) = subst (λ (p : ℕ). HasReached t (wire p)) one h in
        let in_step = opened s t out back none first in
        let counts = in_step.0 in
        let reached = in_step.1 in
        inl (record { counts = counts; opened = omega arith; reached = omega arith })
    sync h (inr e) = running h e out.sync
