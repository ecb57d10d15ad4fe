-- What a conforming peer says of itself is what a peer of the machine may say.
use Rattle.std.proofs.Common.{◌≡◌, ◌⊎◌, inl, inr, ℕ, suc, ◌+◌, ◌-◌, ◌^◌, ◌<◌, ◌≤◌, Bool, List, length, drop, refl, ap, ◌∙◌, subst, arith, length-drop}
use Rattle.tcp_theory.specs.ReceiveMap.{Begins}
use Rattle.tcp_theory.specs.Invariant.{HoldsBetween}
use Rattle.tcp_theory.specs.Invariant as law
use Rattle.tcp_theory.specs.Numbers.{wire}
use Rattle.tcp_theory.specs.Segment.{Control, Segment, IsData}
use Rattle.tcp_theory.specs.Segment.Control.{Plain, Syn, Fin, Rst}
use Rattle.tcp_theory.specs.Side.{Side, rcv_next, taken_in}
use Rattle.tcp_theory.proofs.Lists.{Begins-length}
use Rattle.tcp_theory.proofs.Calls.{one_if-small}
use Rattle.tcp_theory.proofs.Opening.{honest, acked}
use Rattle.tcp_peer.specs.Peer.{End, IsEnd, HasAckedTo, counted, IsSyn, IsPiece, IsBare, IsOld}
use Rattle.tcp_peer.proofs.Shadow.{shadow}

-- a position within 2 ^ 32 of the reference is the first of its number
pub counted-wire : (from position : ℕ) → from ≤ position → position < from + 2 ^ 32 → counted from (wire position) ≡ position
counted-wire from position low high = omega arith

-- a number of 32 bits is its own position's
number_of : (seq : ℕ) → seq < 2 ^ 32 → seq ≡ wire (2 ^ 32 + seq)
number_of seq small = omega arith

pub syn_said :
    (peer : End) (written : List ℕ) (closed : Bool) (una : ℕ) (took : List ℕ) (fin : Bool) (came : List Segment) (x : Segment) → IsEnd peer → IsSyn peer x
    → law.IsSyn (shadow peer written closed una took fin came) x
syn_said peer written closed una took fin came x e p = record {
  syn = p.syn;
  at = 2 ^ 32 + x.seq;
  first = let small = p.number in (omega arith, omega arith);
  seq = number_of x.seq p.number;
  bare = λ none. let first = p.bare none in let low = e.first.0 in let high = e.first.1 in (omega arith, refl);
}

-- what isn't empty lies within the stream
within : (k : ℕ) (bytes ys : List ℕ) → Begins bytes (drop k ys) → (length bytes ≡ 0 → ⊥) → k + length bytes ≤ length ys
within k bytes ys begins some =
    let short = Begins-length bytes (drop k ys) begins in
    let rest = length-drop k ys in
    omega arith

pub piece_said :
    (peer : End) (una : ℕ) (took : List ℕ) (fin : Bool) (came : List Segment) (other : End) (x : Segment) → IsPiece peer other x
    → (x.control ≡ Plain → length x.bytes ≡ 0 → ⊥)
    → law.IsPiece (shadow peer peer.stream peer.ends una took fin came) x
piece_said peer una took fin came other x p some =
    let past = p.after_syn in
    record {
      late = tt;
      kind = p.kind;
      at = p.at;
      seq = p.number;
      after_syn = p.after_syn;
      bytes = p.bytes;
      fits = fits x.control refl;
      fin = p.fin;
    }
  where
    fits : (control : Control) → x.control ≡ control → p.at + length x.bytes ≤ suc peer.first + length peer.stream
    fits Plain c = let bound = within (p.at - suc peer.first) x.bytes peer.stream p.bytes (some c) in let past = p.after_syn in omega arith
    fits Fin c = let last = (p.fin c).1 in omega arith
    fits Syn c = absurd (subst IsData c p.kind)
    fits Rst c = absurd (subst IsData c p.kind)

module _ (s t : Side) (holds : HoldsBetween s t) where
  -- RCV.NXT is less than 2 ^ 30 past the SYN that a side took
  pub rcv_next-near : rcv_next s ≤ suc (suc s.irs) + 2 ^ 29
  rcv_next-near =
      let shorter = Begins-length (taken_in s) t.written holds.1.received in
      let short = holds.1.well_formed.short in
      let fin = one_if-small s.took_fin in
      omega arith

  -- what lies below a number that this side acknowledged lies below RCV.NXT
  acked_to : (other : End) (position : ℕ) → other.heard ≡ s.irs → HasAckedTo other s.sent position → position ≤ rcv_next s
  acked_to other position same to =
      let a = to.acknowledged in
      let h = acked s t a.segment to.number a.no_reset a.acks (honest s t a.segment holds.0 (a.offset, a.among)) in
      let past = h.after_syn in
      let high = h.high in
      let near = rcv_next-near in
      let offset : counted s.irs to.number ≡ h.at = ap (λ (n : ℕ). counted s.irs n) h.same ∙ counted-wire s.irs h.at (omega arith) (omega arith) in
      let from : counted other.heard to.number ≡ counted s.irs to.number = ap (λ (n : ℕ). counted n to.number) same in
      let far = to.far in
      omega (arith, far, from, offset, high)

  pub old_said : (other : End) (x : Segment) → other.heard ≡ s.irs → IsOld other s.sent x → law.IsPlain s x
  old_said other x same p = record {
    plain = p.plain;
    bytes = inr (record {
      at = p.at;
      number = p.number;
      heard = let heard = p.heard in omega arith;
      low = let low = p.low in omega arith;
      high = below p.high;
    });
  } where
    below : (p.at + length x.bytes ≤ suc other.heard) ⊎ HasAckedTo other s.sent (p.at + length x.bytes) → p.at + length x.bytes ≤ rcv_next s
    below (inl syn) = omega arith
    below (inr to) = acked_to other (p.at + length x.bytes) same to

pub bare_said : (s : Side) (x : Segment) → IsBare x → law.IsPlain s x
bare_said s x p = record { plain = p.0; bytes = inl p.1 }
