-- What an honest segment with bytes, or with an acknowledgement, says on numerals.
use Rattle.std.proofs.Common.{◌≡◌, ◌⊎◌, inl, inr, ℕ, zero, suc, ◌+◌, ◌-◌, ◌^◌, ◌<◌, List, [], ◌∷◌, length, drop, Some, None, slice_get, refl, sym, ap, ◌∙◌}
use Rattle.std.proofs.Common.{subst, arith, length-drop}
use Rattle.tcp_theory.specs.ReceiveMap.{Begins}
use Rattle.tcp_theory.specs.Numbers.{wire}
use Rattle.tcp_theory.specs.Segment.{Segment, IsData}
use Rattle.tcp_theory.specs.Segment.Control.{Plain, Syn, Fin, Rst}
use Rattle.tcp_theory.proofs.Lists.{Begins-length}
use Rattle.tcp_peer.specs.Peer.{End, IsEnd, IsAcknowledged, HasReached, IsPiece, IsOld, IsHonest, SaysOfItself, SaysOfTheOther}

-- its bytes are the stream's at this offset
pub bytes_there : (me other : End) (x : Segment) (k : ℕ) → IsEnd me → k < 2 ^ 29 → x.seq ≡ wire (suc me.first + k) → (length x.bytes ≡ 0 → ⊥) →
    IsPiece me other x → Begins x.bytes (drop k me.stream)
bytes_there me other x k e small number some p =
    let short = Begins-length x.bytes (drop (p.at - suc me.first) me.stream) p.bytes in
    let rest = length-drop (p.at - suc me.first) me.stream in
    let bound = e.short in
    let past = p.after_syn in
    let its = p.number in
    let longer : 0 < length x.bytes = positive (length x.bytes) some in
    let same : p.at - suc me.first ≡ k = omega arith in
    subst (λ (n : ℕ). Begins x.bytes (drop n me.stream)) same p.bytes
  where
    positive : (n : ℕ) → (n ≡ 0 → ⊥) → 0 < n
    positive zero nonzero = absurd (nonzero refl)
    positive (suc n) nonzero = omega arith

-- an acknowledgement is of a position that it has reached
pub reached_by : (me other : End) (theirs : List Segment) (x : Segment) (number : ℕ) → (x.control ≡ Rst → ⊥) → x.ack ≡ Some number →
    IsHonest me other theirs x → HasReached me other number
reached_by me other theirs x number no_reset e (inl reset) = absurd (no_reset reset)
reached_by me other theirs x number no_reset e (inr said) = by said.1 where
  by : SaysOfTheOther me other x → HasReached me other number
  by (inl none) = absurd (let clash : Some number ≡ None = sym e ∙ none in cc)
  by (inr some) =
      let both : Some some.0 ≡ Some number = sym some.1 ∙ e in
      let same : some.0 ≡ number = cc in
      subst (HasReached me other) same some.2

-- bytes without SYN are a piece, or old
pub piece_or_old : (me other : End) (theirs : List Segment) (x : Segment) → IsData x.control → (length x.bytes ≡ 0 → ⊥) → IsHonest me other theirs x →
    IsPiece me other x ⊎ IsOld other theirs x
piece_or_old me other theirs x kind some (inl reset) = absurd (subst IsData reset kind)
piece_or_old me other theirs x kind some (inr said) = by said.0 where
  by : SaysOfItself me other theirs x → IsPiece me other x ⊎ IsOld other theirs x
  by (inl piece) = inl piece
  by (inr (inl bare)) = absurd (some (ap length bare.1))
  by (inr (inr (inl old))) = inr old
  by (inr (inr (inr syn))) = absurd (subst IsData syn.syn kind)

-- a FIN is in a piece
pub fin_piece : (me other : End) (theirs : List Segment) (x : Segment) → x.control ≡ Fin → IsHonest me other theirs x → IsPiece me other x
fin_piece me other theirs x fin (inl reset) = absurd (let clash : Fin ≡ Rst = sym fin ∙ reset in cc)
fin_piece me other theirs x fin (inr said) = by said.0 where
  by : SaysOfItself me other theirs x → IsPiece me other x
  by (inl piece) = piece
  by (inr (inl bare)) = absurd (let clash : Fin ≡ Plain = sym fin ∙ bare.0 in cc)
  by (inr (inr (inl old))) = absurd (let clash : Fin ≡ Plain = sym fin ∙ old.plain in cc)
  by (inr (inr (inr syn))) = absurd (let clash : Fin ≡ Syn = sym fin ∙ syn.syn in cc)

-- a SYN without acknowledgement stands at the initial sequence number
pub bare_syn : (me other : End) (theirs : List Segment) (x : Segment) → x.control ≡ Syn → x.ack ≡ None → IsHonest me other theirs x → x.seq ≡ wire me.first
bare_syn me other theirs x syn none (inl reset) = absurd (let clash : Syn ≡ Rst = sym syn ∙ reset in cc)
bare_syn me other theirs x syn none (inr said) = by said.0 where
  by : SaysOfItself me other theirs x → x.seq ≡ wire me.first
  by (inl piece) = absurd (subst IsData syn piece.kind)
  by (inr (inl bare)) = absurd (let clash : Syn ≡ Plain = sym syn ∙ bare.0 in cc)
  by (inr (inr (inl old))) = absurd (let clash : Syn ≡ Plain = sym syn ∙ old.plain in cc)
  by (inr (inr (inr s))) = s.bare none

-- the numbers that two segments acknowledge
pub acked_of_two : (x y : Segment) (number : ℕ) → IsAcknowledged (x ∷ y ∷ []) number → (x.ack ≡ Some number) ⊎ (y.ack ≡ Some number)
acked_of_two x y number a = by a.offset a.among where
  by : (offset : ℕ) → slice_get (x ∷ y ∷ []) offset ≡ Some a.segment → (x.ack ≡ Some number) ⊎ (y.ack ≡ Some number)
  by zero e = let same : x ≡ a.segment = cc in inl (ap (λ (z : Segment). z.ack) same ∙ a.acks)
  by (suc zero) e = let same : y ≡ a.segment = cc in inr (ap (λ (z : Segment). z.ack) same ∙ a.acks)
  by (suc (suc offset)) e = absurd (cc)

pub acked_of_one : (x : Segment) (number : ℕ) → IsAcknowledged (x ∷ []) number → x.ack ≡ Some number
acked_of_one x number a = by a.offset a.among where
  by : (offset : ℕ) → slice_get (x ∷ []) offset ≡ Some a.segment → x.ack ≡ Some number
  by zero e = let same : x ≡ a.segment = cc in ap (λ (z : Segment). z.ack) same ∙ a.acks
  by (suc offset) e = absurd (cc)

pub acked_of_none : (number : ℕ) → IsAcknowledged [] number → ⊥
acked_of_none number a = absurd (let none = a.among in cc)
