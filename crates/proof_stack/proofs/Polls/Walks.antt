-- Moves, one after the other.
use Rattle.std.proofs.Common.{◌≡◌, ℕ, Bool, true, false, ◌||◌, inl, inr, List, [], ◌∷◌, ◌++◌, refl, subst}
use Rattle.std.specs.List.{list_any}
use Rattle.net_base.specs.Device.{Move}
use Rattle.proof_stack.specs.Progress.Moves.{AreMoves, is_sent, is_refused}
use Rattle.proof_stack.specs.Progress.OfUse.{Stirs}
use Rattle.proof_stack.specs.Progress.Queued.{Sends}

module _ {D : Type 0} (moves : D → Move → D → Type 0) where
  pub joined : (xs ys : List Move) (a b c : D) → AreMoves moves xs a b → AreMoves moves ys b c → AreMoves moves (xs ++ ys) a c
  joined [] ys a b c first second = subst (λ (x : D). AreMoves moves ys x c) first second
  joined (m ∷ xs) ys a b c first second = (first.0, first.1, joined xs ys first.0 b c first.2 second)

or_grows : (a b c : Bool) → (b ≡ true → c ≡ true) → (a || b) ≡ true → (a || c) ≡ true
or_grows true b c more e = refl
or_grows false b c more e = more e

or_second : (a b : Bool) → b ≡ true → (a || b) ≡ true
or_second true b e = refl
or_second false b e = e

module _ (test : Move → Bool) where
  any_before : (xs ys : List Move) → list_any test xs ≡ true → list_any test (xs ++ ys) ≡ true
  any_before [] ys e = absurd (let clash : false ≡ true = e in cc)
  any_before (x ∷ xs) ys e = or_grows (test x) (list_any test xs) (list_any test (xs ++ ys)) (any_before xs ys) e

  any_following : (xs ys : List Move) → list_any test ys ≡ true → list_any test (xs ++ ys) ≡ true
  any_following [] ys e = e
  any_following (x ∷ xs) ys e = or_second (test x) (list_any test (xs ++ ys)) (any_following xs ys e)

pub stirs_before : (xs ys : List Move) → Stirs xs → Stirs (xs ++ ys)
stirs_before xs ys (inl sent) = inl (any_before is_sent xs ys sent)
stirs_before xs ys (inr refused) = inr (any_before is_refused xs ys refused)

pub stirs_following : (xs ys : List Move) → Stirs ys → Stirs (xs ++ ys)
stirs_following xs ys (inl sent) = inl (any_following is_sent xs ys sent)
stirs_following xs ys (inr refused) = inr (any_following is_refused xs ys refused)

pub refused_before : (xs ys : List Move) → list_any is_refused xs ≡ true → list_any is_refused (xs ++ ys) ≡ true
refused_before xs ys e = any_before is_refused xs ys e

pub refused_following : (xs ys : List Move) → list_any is_refused ys ≡ true → list_any is_refused (xs ++ ys) ≡ true
refused_following xs ys e = any_following is_refused xs ys e

pub sends_before : (frame : List ℕ) (xs ys : List Move) → Sends frame xs → Sends frame (xs ++ ys)
sends_before frame [] ys sent = absurd sent
sends_before frame (x ∷ xs) ys (inl this) = inl this
sends_before frame (x ∷ xs) ys (inr later) = inr (sends_before frame xs ys later)

pub sends_following : (frame : List ℕ) (xs ys : List Move) → Sends frame ys → Sends frame (xs ++ ys)
sends_following frame [] ys sent = sent
sends_following frame (x ∷ xs) ys sent = inr (sends_following frame xs ys sent)
