-- An honest segment comes.
use Rattle.std.proofs.Common.{◌≡◌, ◌⊎◌, inl, inr, ℕ, suc, ◌+◌, ◌<◌, ◌≤◌, nat_lt, Bool, true, false, List, [], ◌∷◌, ◌++◌, length, Some, refl, sym, ap, ◌∙◌}
use Rattle.std.proofs.Common.{subst, arith}
use Rattle.tcp_theory.specs.Invariant.{HoldsBetween}
use Rattle.tcp_theory.specs.Invariant as law
use Rattle.tcp_theory.specs.Numbers.{wire}
use Rattle.tcp_theory.specs.Segment.{Control, Segment, IsData, IsNoReset}
use Rattle.tcp_theory.specs.Segment.Control.{Plain, Syn, Fin, Rst}
use Rattle.tcp_theory.specs.Side.{Side, rcv_next, one_if}
use Rattle.tcp_peer.specs.Peer.{End, IsEnd, HasReached, IsSyn, IsPiece, IsOld, IsHonest, SaysOfItself, SaysOfTheOther, as_end}
use Rattle.tcp_peer.proofs.Among.{acknowledged-more, acknowledged-last}
use Rattle.tcp_peer.proofs.Shadow.{shadow, HasTaken, IsBeside, Meets, says}
use Rattle.tcp_peer.proofs.Learns.{opens, Reaches, reaches, test_lt, test_ge}
use Rattle.tcp_peer.proofs.Converts.{syn_said, piece_said, old_said, bare_said}

-- what it says of itself, however much it has taken in
abbrev Kind : Side → Side → Segment → Type 0
Kind t s x = law.IsPiece t x ⊎ (law.IsPlain s x ⊎ law.IsSyn t x)

kind_no_reset : (t s : Side) (x : Segment) → Kind t s x → IsNoReset x.control
kind_no_reset t s x (inl piece) = by x.control piece.kind where
  by : (control : Control) → IsData control → IsNoReset control
  by Plain k = tt
  by Fin k = tt
  by Syn k = absurd k
  by Rst k = absurd k
kind_no_reset t s x (inr (inl plain)) = subst IsNoReset (sym plain.plain) tt
kind_no_reset t s x (inr (inr syn)) = subst IsNoReset (sym syn.syn) tt

module _ (peer : End) (written : List ℕ) (closed : Bool) (s : Side) (came : List Segment) (x : Segment) (e : IsEnd peer)
    (b : IsBeside peer written closed s came) where
  abbrev peer_side : List ℕ → Bool → Side
  peer_side took fin = shadow peer written closed b.una took fin came

  more : HasTaken peer b.took b.fin came → HasTaken peer b.took b.fin (came ++ x ∷ [])
  more (inl nothing) = inl nothing
  more (inr some) = inr (acknowledged-more came (x ∷ []) _ some)

  -- it has taken in no more than before
  same_taken : law.IsHonest (peer_side b.took b.fin) s x → IsBeside peer written closed s (came ++ x ∷ [])
  same_taken honest = record {
    una = b.una;
    took = b.took;
    fin = b.fin;
    taken = more b.taken;
    holds = says s (peer_side b.took b.fin) x b.holds refl refl honest;
  }

  module _ (kind : (took : List ℕ) (fin : Bool) → Kind (peer_side took fin) s x) where
    -- it acknowledges a position
    module _ (number : ℕ) (acks : x.ack ≡ Some number) (h : HasReached peer (as_end s) number) where
      past : peer.heard < h.at
      past = by h.so_far where
        by : (h.at ≡ suc peer.heard) ⊎ ((peer.heard ≡ s.iss) × (peer.heard < h.at) × (h.at ≤ suc s.iss + length s.written + one_if s.closed)) →
            peer.heard < h.at
        by (inl syn) = omega arith
        by (inr far) = far.1

      -- that it has taken in before
      reached_before : h.at ≤ rcv_next (peer_side b.took b.fin) → IsBeside peer written closed s (came ++ x ∷ [])
      reached_before below =
          let reached : law.HasReached (peer_side b.took b.fin) number = record { at = h.at; same = h.same; heard = e.heard.0; after_syn = past; high = below } in
          same_taken (inr (kind b.took b.fin, inr (number, acks, reached)))

      -- that it takes in only now
      reached_now : Reaches peer written closed b.una s came h.at → IsBeside peer written closed s (came ++ x ∷ [])
      reached_now r =
          let t = peer_side r.took r.fin in
          let just = r.just in
          let reached : law.HasReached t number = record { at = h.at; same = h.same; heard = e.heard.0; after_syn = past; high = omega arith } in
          let k = kind r.took r.fin in
          record {
            una = b.una;
            took = r.took;
            fin = r.fin;
            taken = inr (acknowledged-last came x (wire (suc peer.heard + length r.took + one_if r.fin)) (kind_no_reset t s x k) (acks ∙
                ap Some (h.same ∙ ap wire (sym r.just))));
            holds = says s t x r.holds refl refl (inr (k, inr (number, acks, reached)));
          }

      acknowledges : IsBeside peer written closed s (came ++ x ∷ [])
      acknowledges = by (nat_lt (rcv_next (peer_side b.took b.fin)) h.at) refl h.so_far where
        by :
            (test : Bool) → nat_lt (rcv_next (peer_side b.took b.fin)) h.at ≡ test
            → (h.at ≡ suc peer.heard) ⊎ ((peer.heard ≡ s.iss) × (peer.heard < h.at) × (h.at ≤ suc s.iss + length s.written + one_if s.closed))
            → IsBeside peer written closed s (came ++ x ∷ [])
        by test t (inl syn) = reached_before (omega arith)
        by false t (inr far) = reached_before (test_ge (rcv_next (peer_side b.took b.fin)) h.at t)
        by true t (inr far) =
            let longer = test_lt (rcv_next (peer_side b.took b.fin)) h.at t in
            reached_now (reaches peer written closed b.una b.took b.fin s came e b.holds h.at (omega (arith, longer)) far.0 far.1 far.2)

    comes_as : SaysOfTheOther peer (as_end s) x → IsBeside peer written closed s (came ++ x ∷ [])
    comes_as (inl none) = same_taken (inr (kind b.took b.fin, inl none))
    comes_as (inr some) = acknowledges some.0 some.1 some.2

module _ (peer : End) (s : Side) (came : List Segment) (x : Segment) (e : IsEnd peer) (acks : SaysOfTheOther peer (as_end s) x) where
  -- without bytes of its stream, and without FIN
  other : (written : List ℕ) (closed : Bool) → law.IsPlain s x ⊎ IsSyn peer x → IsBeside peer written closed s came →
      IsBeside peer written closed s (came ++ x ∷ [])
  other written closed said b = comes_as peer written closed s came x e b (kind said) acks where
    kind : law.IsPlain s x ⊎ IsSyn peer x → (took : List ℕ) (fin : Bool) → Kind (shadow peer written closed b.una took fin came) s x
    kind (inl plain) took fin = inr (inl plain)
    kind (inr syn) took fin = inr (inr (syn_said peer written closed b.una took fin came x e syn))

  others : law.IsPlain s x ⊎ IsSyn peer x → Meets peer s came → Meets peer s (came ++ x ∷ [])
  others said (inl b) = inl (other [] false said b)
  others said (inr b) = inr (other peer.stream peer.ends said b)

  -- bytes, a FIN, or both
  stream : IsPiece peer (as_end s) x → (x.control ≡ Plain → length x.bytes ≡ 0 → ⊥) → IsBeside peer peer.stream peer.ends s came → Meets peer s (came ++ x ∷ [])
  stream piece some b =
      inr (comes_as peer peer.stream peer.ends s came x e b (λ took fin. inl (piece_said peer b.una took fin came (as_end s) x piece some)) acks)

  begun : IsPiece peer (as_end s) x → (x.control ≡ Plain → length x.bytes ≡ 0 → ⊥) → Meets peer s came → Meets peer s (came ++ x ∷ [])
  begun piece some (inl b) = stream piece some (opens peer s came e b piece.heard)
  begun piece some (inr b) = stream piece some b

  nothing : (bytes : List ℕ) → x.bytes ≡ bytes → length bytes ≡ 0 → x.bytes ≡ []
  nothing [] same none = same
  nothing (byte ∷ bytes) same none = absurd (omega arith)

  piece_comes : IsPiece peer (as_end s) x → (control : Control) → x.control ≡ control → (test : Bool) → nat_lt 0 (length x.bytes) ≡ test → Meets peer s came →
      Meets peer s (came ++ x ∷ [])
  piece_comes piece Plain c true t = begun piece (λ _ none. absurd (let some = test_lt 0 (length x.bytes) t in omega arith))
  piece_comes piece Plain c false t = others (inl (bare_said s x (c, nothing x.bytes refl (let none = test_ge 0 (length x.bytes) t in omega arith))))
  piece_comes piece Fin c test t = begun piece (λ plain. absurd (let clash : Fin ≡ Plain = sym c ∙ plain in cc))
  piece_comes piece Syn c test t = absurd (subst IsData c piece.kind)
  piece_comes piece Rst c test t = absurd (subst IsData c piece.kind)

  old_comes : IsOld (as_end s) s.sent x → Meets peer s came → Meets peer s (came ++ x ∷ [])
  old_comes old (inl b) = others (inl (old_said s (shadow peer [] false b.una b.took b.fin came) b.holds (as_end s) x refl old)) (inl b)
  old_comes old (inr b) = others (inl (old_said s (shadow peer peer.stream peer.ends b.una b.took b.fin came) b.holds (as_end s) x refl old)) (inr b)

  said_comes : SaysOfItself peer (as_end s) s.sent x → Meets peer s came → Meets peer s (came ++ x ∷ [])
  said_comes (inl piece) m = piece_comes piece x.control refl (nat_lt 0 (length x.bytes)) refl m
  said_comes (inr (inl bare)) m = others (inl (bare_said s x bare)) m
  said_comes (inr (inr (inl old))) m = old_comes old m
  said_comes (inr (inr (inr syn))) m = others (inr syn) m

pub meets_honest : (peer : End) (s : Side) (came : List Segment) (x : Segment) → IsEnd peer → IsHonest peer (as_end s) s.sent x → Meets peer s came →
    Meets peer s (came ++ x ∷ [])
meets_honest peer s came x e (inl reset) (inl b) = inl (same_taken peer [] false s came x e b (inl reset))
meets_honest peer s came x e (inl reset) (inr b) = inr (same_taken peer peer.stream peer.ends s came x e b (inl reset))
meets_honest peer s came x e (inr said) m = said_comes peer s came x e said.1 said.0 m
