-- Bytes and a FIN that a side takes keep the invariant.
use Rattle.std.proofs.Common.{◌≡◌, ◌⊎◌, inl, inr, ℕ, suc, ◌+◌, ◌-◌, ◌^◌, ◌<◌, ◌≤◌, true, false, List, [], ◌++◌, length, drop, Option, sym, ap, ◌∙◌, subst}
use Rattle.std.proofs.Common.{arith, append_assoc, length-append, drop-drop, drop_of_length-le}
use Rattle.tcp_theory.specs.ReceiveMap.{Begins, AgreesWith, store, front, following}
use Rattle.tcp_theory.specs.Numbers.{wire, IsNear}
use Rattle.tcp_theory.specs.Segment.{Segment, IsData}
use Rattle.tcp_theory.specs.Segment.Control.{Plain, Syn, Fin, Rst}
use Rattle.tcp_theory.specs.Side.{Side, taken_in, rcv_next, one_if}
use Rattle.tcp_theory.specs.Side.Phase.{Synchronized}
use Rattle.tcp_theory.specs.Move.{after, laid}
use Rattle.tcp_theory.specs.Move.Move.{TakesBytes, TakesFin}
use Rattle.tcp_theory.specs.Invariant.{IsEarly, IsPiece, IsBelow, IsPlain, IsSyn, IsHonest, IsInStep, IsSilent, IsComplete, OneWay}
use Rattle.tcp_theory.proofs.Lists.{Begins-append, Begins-drop, Begins-front, Begins-length, Begins-nothing, Begins-whole, AgreesWith-store, AgreesWith-following}
use Rattle.tcp_theory.proofs.Lists.{store-nothing, drop-nothing, drop-twice}
use Rattle.tcp_theory.proofs.Calls.{Keeps, keeps_received, one_if-small, fits_at}
use Rattle.tcp_theory.proofs.Opening.{honest}

-- so many bytes were taken in, and RCV.NXT is one past them, while no FIN is taken
rcv_next-open : (s : Side) → s.took_fin ≡ false → rcv_next s ≡ suc s.irs + length (taken_in s)
rcv_next-open s e = let none = ap one_if e in omega arith

-- bytes that are cut away whole, and no bytes at all, leave the receive map
laid-below : (s : Side) (at : ℕ) (bytes : List ℕ) → at + length bytes ≤ rcv_next s → laid s at bytes ≡ s.window
laid-below s at bytes below =
    let short : length bytes ≤ rcv_next s - at = omega arith in
    ap (λ (rest : List ℕ). store s.window (at - rcv_next s) rest) (drop_of_length-le bytes short) ∙ store-nothing s.window (at - rcv_next s)

laid-nothing : (s : Side) (at : ℕ) (bytes : List ℕ) → bytes ≡ [] → laid s at bytes ≡ s.window
laid-nothing s at bytes e =
    ap (λ (rest : List ℕ). store s.window (at - rcv_next s) (drop (rcv_next s - at) rest)) e
    ∙ (ap (λ (rest : List ℕ). store s.window (at - rcv_next s) rest) (drop-nothing (rcv_next s - at)) ∙ store-nothing s.window (at - rcv_next s))

module _ (s t : Side) (x : Segment) (out : OneWay s t) (back : OneWay t s) where
  -- RCV.NXT is less than 2 ^ 30 past the SYN that s took
  rcv_next-short : rcv_next s ≤ suc (suc s.irs) + 2 ^ 29
  rcv_next-short =
      let shorter = Begins-length (taken_in s) t.written back.received in
      let short = back.well_formed.short in
      let fin = one_if-small s.took_fin in
      omega arith

  -- a piece lies at its offset in the receive map
  laid_piece : (at : ℕ) → s.took_fin ≡ false → x.seq ≡ wire at → IsNear (rcv_next s) at → IsPiece t x → s.irs ≡ t.iss →
      AgreesWith (laid s at x.bytes) (drop (length (taken_in s)) t.written)
  laid_piece at none seq near piece counts =
      let next = rcv_next-open s none in
      let bound = rcv_next-short in
      let its = piece.seq in
      let past = piece.after_syn in
      let fits = piece.fits in
      let short = back.well_formed.short in
      let nearer = near.0 in
      let nearer' = near.1 in
      let same : at ≡ piece.at = omega arith in
      let cut = Begins-drop (rcv_next s - at) x.bytes (drop (piece.at - suc t.iss) t.written) piece.bytes in
      let offset : piece.at - suc t.iss + (rcv_next s - at) ≡ length (taken_in s) + (at - rcv_next s) = omega arith in
      let moved = drop-twice (rcv_next s - at) (piece.at - suc t.iss) (at - rcv_next s) (length (taken_in s)) t.written offset in
      AgreesWith-store s.window (at - rcv_next s) (drop (rcv_next s - at) x.bytes) (drop (length (taken_in s)) t.written) back.held
      (subst (λ (ys : List ℕ). Begins (drop (rcv_next s - at) x.bytes) ys) moved cut)

  laid_unchanged : (at : ℕ) → laid s at x.bytes ≡ s.window → AgreesWith (laid s at x.bytes) (drop (length (taken_in s)) t.written)
  laid_unchanged at e = subst (λ (map : List (Option ℕ)). AgreesWith map (drop (length (taken_in s)) t.written)) (sym e) back.held

  -- whatever came, the receive map holds bytes of the stream at their offsets
  laid_agrees : (at : ℕ) → s.took_fin ≡ false → IsData x.control → x.seq ≡ wire at → IsNear (rcv_next s) at → IsHonest t s x →
      AgreesWith (laid s at x.bytes) (drop (length (taken_in s)) t.written)
  laid_agrees at none data_kind seq near (inl reset) = absurd (subst IsData reset data_kind)
  laid_agrees at none data_kind seq near (inr h) = kind h.0 where
    from : IsPiece t x → IsInStep t s ⊎ IsSilent t s → AgreesWith (laid s at x.bytes) (drop (length (taken_in s)) t.written)
    from piece (inl in_step) = laid_piece at none seq near piece in_step.counts
    from piece (inr silent) =
        let nothing : drop (piece.at - suc t.iss) t.written ≡ [] = ap (λ (ys : List ℕ). drop (piece.at - suc t.iss) ys) silent.unwritten ∙
        drop-nothing (piece.at - suc t.iss) in
        laid_unchanged at (laid-nothing s at x.bytes (Begins-nothing x.bytes (subst (λ (ys : List ℕ). Begins x.bytes ys) nothing piece.bytes)))

    plain : (x.bytes ≡ []) ⊎ IsBelow s x → AgreesWith (laid s at x.bytes) (drop (length (taken_in s)) t.written)
    plain (inl no_bytes) = laid_unchanged at (laid-nothing s at x.bytes no_bytes)
    plain (inr below) =
        let its = below.number in
        let low = below.low in
        let high = below.high in
        let bound = rcv_next-short in
        let nearer = near.0 in
        let nearer' = near.1 in
        let same : at ≡ below.at = omega arith in
        laid_unchanged at (laid-below s at x.bytes (omega arith))

    kind : IsPiece t x ⊎ (IsPlain s x ⊎ IsSyn t x) → AgreesWith (laid s at x.bytes) (drop (length (taken_in s)) t.written)
    kind (inl piece) = from piece back.sync
    kind (inr (inl its_plain)) = plain its_plain.bytes
    kind (inr (inr its_syn)) = absurd (subst IsData its_syn.syn data_kind)

  -- what came with FIN set is the end of the stream
  fin_of : x.control ≡ Fin → IsHonest t s x → IsPiece t x
  fin_of e (inl reset) = absurd (let clash : Fin ≡ Rst = sym e ∙ reset in cc)
  fin_of e (inr h) = kind h.0 where
    kind : IsPiece t x ⊎ (IsPlain s x ⊎ IsSyn t x) → IsPiece t x
    kind (inl piece) = piece
    kind (inr (inl its_plain)) = absurd (let clash : Fin ≡ Plain = sym e ∙ its_plain.plain in cc)
    kind (inr (inr its_syn)) = absurd (let clash : Fin ≡ Syn = sym e ∙ its_syn.syn in cc)

  -- a FIN at RCV.NXT ends a stream that was taken in whole, from the SYN that its sender has now
  complete : s.took_fin ≡ false → 2 ^ 32 ≤ s.irs → x.control ≡ Fin → wire (x.seq + length x.bytes) ≡ wire (rcv_next s) → IsPiece t x → IsComplete t s
  complete none low e offset piece =
      let next = rcv_next-open s none in
      let its = piece.seq in
      let ends = piece.fin e in
      let last = ends.1 in
      let shorter = Begins-length (taken_in s) t.written back.received in
      let short = back.well_formed.short in
      let first_low = back.well_formed.iss.0 in
      let first_high = back.well_formed.iss.1 in
      let irs_high = out.well_formed.irs in
      by ends.0 next its last shorter short first_low first_high irs_high back.sync
    where
      by : t.closed ≡ true → rcv_next s ≡ suc s.irs + length (taken_in s) → x.seq ≡ wire piece.at → piece.at + length x.bytes ≡ suc t.iss + length t.written
          → length (taken_in s) ≤ length t.written → length t.written < 2 ^ 29 → 2 ^ 32 ≤ t.iss → t.iss < 2 ^ 33 → s.irs < 2 ^ 33
          → IsInStep t s ⊎ IsSilent t s → IsComplete t s
      by asked next its last shorter short first_low first_high irs_high (inl in_step) =
          let counts = in_step.counts in
          let longer : length t.written ≤ length (taken_in s) = omega arith in
          record { closed = asked; whole = Begins-whole (taken_in s) t.written back.received longer; counts = counts }
      by asked next its last shorter short first_low first_high irs_high (inr silent) =
          let nothing = ap length silent.unwritten in
          let longer : length t.written ≤ length (taken_in s) = omega arith in
          record { closed = asked; whole = Begins-whole (taken_in s) t.written back.received longer; counts = omega arith }

not_early : {A : Type 0} (s : Side) → s.phase ≡ Synchronized → IsEarly s.phase → A
not_early s e early = absurd (subst IsEarly e early)

pub keeps_takes_bytes : (s t : Side) (x : Segment) (at : ℕ) → Keeps s t (TakesBytes x at)
keeps_takes_bytes s t x at out back may =
    let new = after s (TakesBytes x at) in
    let map = laid s at x.bytes in
    let agrees = laid_agrees s t x out back at may.unfinished may.kind may.number may.near (honest t s x back may.comes) in
    let longer : taken_in new ≡ taken_in s ++ front map = sym (append_assoc s.read s.waiting (front map)) in
    let more = ap length longer ∙ length-append (taken_in s) (front map) in
    let rest = drop (length (taken_in s)) t.written in
    let following_them : drop (length (front map)) rest ≡ drop (length (taken_in new)) t.written =
    drop-drop (length (front map)) (length (taken_in s)) t.written ∙ ap (λ (k : ℕ). drop k t.written) (sym more) in
    keeps_received s t s.read (s.waiting ++ front map) (following map) s.took_fin out back
    (omega arith)
    (not_early s may.running)
    (subst (λ (bytes : List ℕ). Begins bytes t.written) (sym longer)
    (Begins-append (taken_in s) (front map) t.written back.received (Begins-front map rest agrees)))
    (subst (λ (ys : List ℕ). AgreesWith (following map) ys) following_them (AgreesWith-following map rest agrees))
    (λ e. absurd (let clash : false ≡ true = sym may.unfinished ∙ e in cc))

pub keeps_takes_fin : (s t : Side) (x : Segment) → Keeps s t (TakesFin x)
keeps_takes_fin s t x out back may =
    let low : 2 ^ 32 ≤ s.irs = fits_at s Synchronized out.well_formed may.running in
    let next = rcv_next-open s may.unfinished in
    let ends = complete s t x out back may.unfinished low may.fin may.next (fin_of s t x out back may.fin (honest t s x back may.comes)) in
    keeps_received s t s.read s.waiting s.window true out back
    (omega arith)
    (not_early s may.running)
    back.received
    back.held
    (λ _. record { closed = ends.closed; whole = ends.whole; counts = ends.counts })
