-- Segments that came, and the number that one of them acknowledges.
use Rattle.std.proofs.Common.{◌≡◌, ℕ, zero, suc, List, [], ◌∷◌, ◌++◌, Some, length, slice_get, refl}
use Rattle.tcp_theory.specs.Segment.{Segment, IsNoReset}
use Rattle.tcp_peer.specs.Peer.{IsAcknowledged}

pub slice_get-more : {X : Type 0} (xs ys : List X) (k : ℕ) (x : X) → slice_get xs k ≡ Some x → slice_get (xs ++ ys) k ≡ Some x
slice_get-more [] ys k x e = absurd (cc)
slice_get-more (y ∷ xs) ys zero x e = e
slice_get-more (y ∷ xs) ys (suc k) x e = slice_get-more xs ys k x e

pub slice_get-last : {X : Type 0} (xs : List X) (x : X) → slice_get (xs ++ x ∷ []) (length xs) ≡ Some x
slice_get-last [] x = refl
slice_get-last (y ∷ xs) x = slice_get-last xs x

pub acknowledged-more : (came more : List Segment) (number : ℕ) → IsAcknowledged came number → IsAcknowledged (came ++ more) number
acknowledged-more came more number a = record {
  offset = a.offset;
  segment = a.segment;
  among = slice_get-more came more a.offset a.segment a.among;
  no_reset = a.no_reset;
  acks = a.acks;
}

pub acknowledged-last : (came : List Segment) (x : Segment) (number : ℕ) → IsNoReset x.control → x.ack ≡ Some number → IsAcknowledged (came ++ x ∷ []) number
acknowledged-last came x number no_reset e =
    record { offset = length came; segment = x; among = slice_get-last came x; no_reset = no_reset; acks = e }
