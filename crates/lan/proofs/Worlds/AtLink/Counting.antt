-- Counts as a loop takes them.
use Rattle.std.proofs.Common.{◌≡◌, ◌+◌, ℕ, Bool, true, false, cond, List, [], ◌∷◌, drop, refl, sym, ap, ◌∙◌}
use Rattle.std.specs.Prelude.{if◌then◌else◌}
use Rattle.std.specs.List.{count_by}
use Rattle.std.specs.Global.{Vec}
use Rattle.std.proofs.lemmas.List.{drop-map}
use Rattle.std.proofs.lemmas.List.Sums.{sum_by-cons}
use Rattle.net_base.specs.Device.{frames_of}

-- frames counted by their bytes
pub counted_frames : (p : List ℕ → Bool) (xs : List (Vec ℕ)) → count_by (λ (x : Vec ℕ). p x.items) xs ≡ count_by p (frames_of xs)
counted_frames p [] = refl
counted_frames p (x ∷ xs) =
    sum_by-cons (λ (y : Vec ℕ). cond (p y.items) 1 0) x xs
    ∙ ap (λ (n : ℕ). cond (p x.items) 1 0 + n) (counted_frames p xs)
    ∙ sym (sum_by-cons (λ (y : List ℕ). cond (p y) 1 0) x.items (frames_of xs))

pub added_else : (b : Bool) (n m : ℕ) → b ≡ false → n ≡ m → n ≡ (if b then 0 else m)
added_else true n m is same = absurd cc
added_else false n m is same = same

-- the frames after so many
pub frames_following : (n : ℕ) (xs : List (Vec ℕ)) → frames_of (drop n xs) ≡ drop n (frames_of xs)
frames_following n xs = sym (drop-map (λ (x : Vec ℕ). x.items) n xs)
