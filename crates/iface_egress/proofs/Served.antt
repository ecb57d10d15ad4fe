-- A walk over the packets that wait.
use Rattle.std.proofs.Common.{◌≡◌, ◌⊎◌, inl, inr, ℕ, suc, ◌+◌, ◌<◌, ◌≤◌, Bool, true, false, List, [], ◌∷◌, ◌++◌, length, take, drop, get_or, Some, refl, sym, ap, subst, ◌∙◌, arith}
use Rattle.std.specs.Prelude.{remove, slice_get}
use Rattle.std.proofs.lemmas.List.{length-take-le, take-append-drop, take_at, take_all, drop_at, drop_more, drop_all}
use Rattle.std.proofs.lemmas.Grind.{take_at_read}
use Rattle.std.proofs.lemmas.Option.{get_or_from_slice_get, slice_get_within}
use Rattle.net_base.specs.Device.{Move}
use Rattle.iface_tables.specs.Parking.{ParkedValue}
use Rattle.iface_egress.specs.Parked.{GoesOn, Leaves, ServesEach, packet_in}
use Rattle.iface_egress.specs.Sender.{Sender}
use Rattle.iface_egress.specs.declared.egress_path.Sent.{Sent}
use Rattle.iface_egress.specs.declared.egress_path.Sent.TheVariants as Outcome

module _ (ps : List ParkedValue) (at : ℕ) (k : ParkedValue) (got : slice_get ps at ≡ Some k) where
  within : at < length ps
  within = slice_get_within ps at k got

  front : length (take at ps) ≡ at
  front = length-take-le at ps (omega (arith, within))

  from_here : drop at ps ≡ k ∷ drop (at + 1) ps
  from_here = drop_more ps at k within ∙ ap (λ (p : ParkedValue). p ∷ drop (at + 1) ps) (get_or_from_slice_get ps at k k got)

  next : suc at ≡ at + 1
  next = omega arith

  -- one is taken out
  left_from : drop at (remove ps at) ≡ drop (at + 1) ps
  left_from = drop_at (take at ps) (drop (suc at) ps) at front ∙ ap (λ (n : ℕ). drop n ps) next

  left_before : take at (remove ps at) ≡ take at ps
  left_before = take_at (take at ps) (drop (suc at) ps) at front

  -- one stays
  one_more : take (at + 1) ps ≡ take at ps ++ k ∷ []
  one_more =
      (take_at_read ps at k within).1 ∙ ap (λ (p : ParkedValue). take at ps ++ p ∷ []) (get_or_from_slice_get ps at k k got)

  whole : take at ps ++ k ∷ drop (at + 1) ps ≡ ps
  whole = ap (λ (rest : List ParkedValue). take at ps ++ rest) (sym from_here) ∙ take-append-drop at ps

  module _ {D : Type 0} (moves : D → Move → D → Type 0) (x mid : Sender D) (sent : Sent) (leaves : Leaves moves x (packet_in k) sent mid) (all : Bool)
      (x' : Sender D) (left : List ParkedValue) where
    abbrev After : Sent → Type 0
    After s =
        GoesOn moves s (ServesEach moves (drop (at + 1) ps) (take at ps) mid all x' left)
        (ServesEach moves (drop (at + 1) ps) (take at ps ++ k ∷ []) mid all x' left)
        ((all ≡ false) × (x' ≡ mid) × (left ≡ take at ps ++ k ∷ drop (at + 1) ps))

    here : After sent → ServesEach moves (drop at ps) (take at ps) x all x' left
    here goes = subst (λ (rest : List ParkedValue). ServesEach moves rest (take at ps) x all x' left) (sym from_here) (sent, mid, leaves, goes)

    gone_on : ServesEach moves (drop at (remove ps at)) (take at (remove ps at)) mid all x' left →
        ServesEach moves (drop (at + 1) ps) (take at ps) mid all x' left
    gone_on rest =
        subst (λ (kept : List ParkedValue). ServesEach moves (drop (at + 1) ps) kept mid all x' left) left_before
        (subst (λ (from : List ParkedValue). ServesEach moves from (take at (remove ps at)) mid all x' left) left_from rest)

    kept_on : ServesEach moves (drop (at + 1) ps) (take (at + 1) ps) mid all x' left →
        ServesEach moves (drop (at + 1) ps) (take at ps ++ k ∷ []) mid all x' left
    kept_on rest = subst (λ (kept : List ParkedValue). ServesEach moves (drop (at + 1) ps) kept mid all x' left) one_more rest

    -- it is gone
    walk_gone : sent ≡ Outcome.Gone → ServesEach moves (drop at (remove ps at)) (take at (remove ps at)) mid all x' left →
        ServesEach moves (drop at ps) (take at ps) x all x' left
    walk_gone is rest =
        here (subst After (sym is) (gone_on rest))

    walk_dropped : sent ≡ Outcome.Dropped → ServesEach moves (drop at (remove ps at)) (take at (remove ps at)) mid all x' left →
        ServesEach moves (drop at ps) (take at ps) x all x' left
    walk_dropped is rest =
        here (subst After (sym is) (gone_on rest))

    -- it waits on
    walk_waits : sent ≡ Outcome.Waits → ServesEach moves (drop (at + 1) ps) (take (at + 1) ps) mid all x' left →
        ServesEach moves (drop at ps) (take at ps) x all x' left
    walk_waits is rest =
        here (subst After (sym is) (kept_on rest))

    walk_busy : sent ≡ Outcome.Busy → ServesEach moves (drop (at + 1) ps) (take (at + 1) ps) mid all x' left →
        ServesEach moves (drop at ps) (take at ps) x all x' left
    walk_busy is rest =
        here (subst After (sym is) (kept_on rest))

    pub walk_on : (sent ≡ Outcome.Gone) ⊎ (sent ≡ Outcome.Dropped) → ServesEach moves (drop at (remove ps at)) (take at (remove ps at)) mid all x' left →
        ServesEach moves (drop at ps) (take at ps) x all x' left
    walk_on (inl is) rest = walk_gone is rest
    walk_on (inr is) rest = walk_dropped is rest

    pub walk_past : (sent ≡ Outcome.Waits) ⊎ (sent ≡ Outcome.Busy) → ServesEach moves (drop (at + 1) ps) (take (at + 1) ps) mid all x' left →
        ServesEach moves (drop at ps) (take at ps) x all x' left
    walk_past (inl is) rest = walk_waits is rest
    walk_past (inr is) rest = walk_busy is rest

    -- the device refuses
    pub walk_refused : sent ≡ Outcome.Refused → all ≡ false → x' ≡ mid → left ≡ ps → ServesEach moves (drop at ps) (take at ps) x all x' left
    walk_refused is none stays same =
        here (subst After (sym is) (none, stays, same ∙ sym whole))

-- the end of the walk
pub walk_ends : {D : Type 0} (moves : D → Move → D → Type 0) (ps : List ParkedValue) (at : ℕ) (x : Sender D) → at ≤ length ps → length ps ≤ at →
    ServesEach moves (drop at ps) (take at ps) x true x ps
walk_ends moves ps at x inside past =
    subst (λ (rest : List ParkedValue). ServesEach moves rest (take at ps) x true x ps) (sym (drop_all at ps past)) (refl, refl, sym (take_all at ps past))
