-- Entries that are given back one after the other.
use Rattle.std.proofs.Common.{◌≡◌, ℕ, ◌+◌, ◌<◌, List, ◌++◌, length, map, take, drop, sym, subst}
use Rattle.std.specs.Prelude.{slice_index_or, slice_set}
use Rattle.std.proofs.lemmas.List.Edits.{map_over_more}
use Rattle.interface.specs.declared.listener.entry.Entry.{Entry}

pub back_step : (f : Entry → Entry) (xs ys : List Entry) (i : ℕ) (x e : Entry) → i < length xs → ys ≡ map f (take i xs) ++ drop i xs
    → x ≡ slice_index_or ys i x → e ≡ f x → slice_set ys i e ≡ map f (take (i + 1) xs) ++ drop (i + 1) xs
back_step f xs ys i x e h so_far read is =
    subst (λ (y : Entry). slice_set ys i y ≡ map f (take (i + 1) xs) ++ drop (i + 1) xs) (sym is) (map_over_more f xs ys i x h so_far read)
