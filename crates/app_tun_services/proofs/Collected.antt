-- What sessions counted, taken over one after the other.
use Rattle.std.proofs.Common.{◌≡◌, ℕ, ◌+◌, ◌-◌, ◌<◌, List, ◌++◌, length, take, drop, map, ap, sym, ◌∙◌, arith}
use Rattle.std.specs.Prelude.{slice_index_or}
use Rattle.std.proofs.Math.Seq.{get_or-append_right}
use Rattle.std.proofs.lemmas.List.{length-map, length-take-le, get_or-drop}
use Rattle.std.proofs.lemmas.List.Sums.{fold_more}
use Rattle.app_tun_services.specs.declared.site.Session.{Session}
use Rattle.app_tun_services.specs.Tallies.{tally_with, no_more, collected}
use Rattle.app_tun_services.specs.declared.tally.Tally.{Tally}

-- after those that were taken over stand the others, as they were
still : (xs ys : List Session) (i : ℕ) (d : Session) → i < length xs → ys ≡ map no_more (take i xs) ++ drop i xs → slice_index_or ys i d ≡ slice_index_or xs i d
still xs ys i d within is =
    let front = map no_more (take i xs) in
    let long : length front ≡ i = length-map (take i xs) no_more ∙ length-take-le i xs (omega (arith, within)) in
    ap (λ zs. slice_index_or zs i d) is ∙
    (get_or-append_right front (drop i xs) i d (omega (arith, long)) ∙
    (get_or-drop i xs (i - length front) d ∙ ap (λ k. slice_index_or xs k d) (omega (arith, long))))

-- one more is taken over
pub taken_more : (xs ys : List Session) (t t' : Tally) (i : ℕ) (x : Session) → i < length xs → t' ≡ collected (take i xs) t →
    ys ≡ map no_more (take i xs) ++ drop i xs
    → x ≡ slice_index_or ys i x → tally_with t' x ≡ collected (take (i + 1) xs) t
taken_more xs ys t t' i x within so_far rest is =
    ap (λ u. tally_with u x) so_far ∙
    (ap (tally_with (collected (take i xs) t)) (is ∙ still xs ys i x within rest) ∙ sym (fold_more tally_with t xs i x within))
