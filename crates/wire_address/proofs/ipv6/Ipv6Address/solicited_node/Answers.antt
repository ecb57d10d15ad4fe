use Rattle.std.proofs.Common.{rules, ◌≡◌, ℕ, List, [], ◌∷◌, length, drop, get_or, refl, ◌∙◌, ap, arith, drop-cons}
use Rattle.std.proofs.lemmas.List.{drop_all}
use Rattle.wire_address.proofs.ipv6.Ipv6Address.solicited_node.Goals as goal

-- the last three of sixteen
drop-13 : (xs : List ℕ) → length xs ≡ 16 → drop 13 xs ≡ get_or xs 13 0 ∷ get_or xs 14 0 ∷ get_or xs 15 0 ∷ []
drop-13 xs len =
    drop-cons xs 13 0 (omega arith)
    ∙ ap (λ ys. get_or xs 13 0 ∷ ys) (drop-cons xs 14 0 (omega arith) ∙
    ap (λ ys. get_or xs 14 0 ∷ ys) (drop-cons xs 15 0 (omega arith) ∙ ap (λ ys. get_or xs 15 0 ∷ ys) (drop_all 16 xs (omega arith))))

pub returns : goal.returns
returns c =
    let len : length c.args.self.now.0 ≡ 16 = search rules in
    rw (drop-13 c.args.self.now.0 len) refl
