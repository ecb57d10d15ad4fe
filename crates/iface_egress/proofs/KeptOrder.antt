-- Packets that wait keep their order.
use Rattle.std.proofs.Common.{◌≡◌, ◌⊎◌, inl, inr, Bool, true, false, if◌then◌else◌, List, [], ◌∷◌, ◌++◌, append_assoc, append-nil, refl, sym, ap, subst, ◌∙◌}
use Rattle.std.specs.Prelude.{◌&&◌, not}
use Rattle.net_base.specs.Device.{Move}
use Rattle.iface_tables.specs.Parking.{ParkedValue}
use Rattle.iface_egress.specs.Parked.{GoesOn, IsPartOf, ServesEach, outcome_of, waits}
use Rattle.iface_egress.specs.Sender.{Sender}
use Rattle.iface_egress.specs.declared.egress_path.Sent.{Sent}
use Rattle.iface_egress.specs.declared.egress_path.Sent.TheVariants as Outcome

-- PARTS

part_itself : (xs : List ParkedValue) → IsPartOf xs xs
part_itself [] = tt
part_itself (x ∷ xs) = inl (refl, part_itself xs)

part_of_more : (part xs ys : List ParkedValue) (k : ParkedValue) → IsPartOf part (xs ++ ys) → IsPartOf part (xs ++ k ∷ ys)
part_of_more [] xs ys k is = tt
part_of_more (p ∷ part) [] ys k is = inr is
part_of_more (p ∷ part) (x ∷ xs) ys k (inl here) = inl (here.0, part_of_more part xs ys k here.1)
part_of_more (p ∷ part) (x ∷ xs) ys k (inr later) = inr (part_of_more (p ∷ part) xs ys k later)

-- A WALK

module _ {D : Type 0} (moves : D → Move → D → Type 0) where
  after : (sent : Sent) (kept rest left : List ParkedValue) (k : ParkedValue) (gone waits_on : Type 0) (refused : Type 0)
      → (gone → IsPartOf left (kept ++ rest)) → (waits_on → IsPartOf left ((kept ++ k ∷ []) ++ rest)) → (refused → left ≡ kept ++ k ∷ rest)
      → GoesOn moves sent gone waits_on refused → IsPartOf left (kept ++ k ∷ rest)
  after Outcome.Gone kept rest left k gone waits_on refused on past end goes = part_of_more left kept rest k (on goes)
  after Outcome.Dropped kept rest left k gone waits_on refused on past end goes = part_of_more left kept rest k (on goes)
  after Outcome.Waits kept rest left k gone waits_on refused on past end goes = subst (IsPartOf left) (append_assoc kept (k ∷ []) rest) (past goes)
  after Outcome.Busy kept rest left k gone waits_on refused on past end goes = subst (IsPartOf left) (append_assoc kept (k ∷ []) rest) (past goes)
  after Outcome.Refused kept rest left k gone waits_on refused on past end goes =
      subst (λ (xs : List ParkedValue). IsPartOf xs (kept ++ k ∷ rest)) (sym (end goes)) (part_itself (kept ++ k ∷ rest))

  pub in_order : (rest kept : List ParkedValue) (x : Sender D) (all : Bool) (x' : Sender D) (left : List ParkedValue) →
      ServesEach moves rest kept x all x' left → IsPartOf left (kept ++ rest)
  in_order [] kept x all x' left serves =
      subst (λ (xs : List ParkedValue). IsPartOf xs (kept ++ [])) (sym serves.2)
      (subst (λ (xs : List ParkedValue). IsPartOf kept xs) (sym (append-nil kept)) (part_itself kept))
  in_order (k ∷ rest) kept x all x' left serves =
      after serves.0 kept rest left k (ServesEach moves rest kept serves.1 all x' left) (ServesEach moves rest (kept ++ k ∷ []) serves.1 all x' left)
      ((all ≡ false) × (x' ≡ serves.1) × (left ≡ kept ++ k ∷ rest)) (λ more. in_order rest kept serves.1 all x' left more)
      (λ more. in_order rest (kept ++ k ∷ []) serves.1 all x' left more) (λ stays. stays.2) serves.3

-- OUTCOMES

pub holds_nobody : (searched segment : Bool) (sent : Sent) → searched ≡ true → segment ≡ false →
    waits (outcome_of (waits sent && (searched && not segment)) sent) ≡ false
holds_nobody searched segment sent is none =
    ap (λ (s : Bool). waits (outcome_of (waits sent && (s && not segment)) sent)) is
    ∙ ap (λ (s : Bool). waits (outcome_of (waits sent && (true && not s)) sent)) none ∙ by sent where
      by : (sent : Sent) → waits (outcome_of (waits sent && true) sent) ≡ false
      by Outcome.Gone = refl
      by Outcome.Dropped = refl
      by Outcome.Waits = refl
      by Outcome.Busy = refl
      by Outcome.Refused = refl
