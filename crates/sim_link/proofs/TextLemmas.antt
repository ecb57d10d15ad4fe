-- Lemmas on the texts of lines.
use Rattle.std.proofs.Common.{◌≡◌, ◌<◌, ◌+◌, ℕ, List, [], ◌∷◌, ◌++◌, ap, sym, ◌∙◌, refl, map, take, length, append_assoc, codes, get_or}
use Rattle.std.specs.List.{join_with_byte}
use Rattle.std.proofs.lemmas.List.{take_more}
use Rattle.ip_wire.specs.IpCidr.{IpCidr}
use Rattle.ip_wire.specs.Text.{cidr_text}
use Rattle.sim_link.specs.Text.{side_text, line_text}
use Rattle.sim_link.specs.declared.kinds.Side.{Side}
use Rattle.sim_link.specs.declared.line.Line.TheVariants.{Addrs}

-- one word more
pub joined_more : (c : ℕ) (first : List ℕ) (words : List (List ℕ)) (word : List ℕ)
    → join_with_byte c (first ∷ (words ++ word ∷ [])) ≡ join_with_byte c (first ∷ words) ++ c ∷ word
joined_more c first [] word = refl
joined_more c first (second ∷ words) word = rw (joined_more c second words word) (sym (append_assoc first (c ∷ join_with_byte c (second ∷ words)) (c ∷ word)))

pub map-more : {X Y : Type 0} (f : X → Y) (xs : List X) (x : X) → map f (xs ++ x ∷ []) ≡ map f xs ++ f x ∷ []
map-more f [] x = refl
map-more f (y ∷ xs) x = ap (λ t. f y ∷ t) (map-more f xs x)

-- one block more in the line of an address list
pub addrs_more : (side : Side) (blocks : List IpCidr) (i : ℕ) (cidr : IpCidr) (before : List ℕ) → i < length blocks → cidr ≡ get_or blocks i cidr
    → before ≡ line_text (Addrs side (take i blocks)) → before ++ 32 ∷ cidr_text cidr ≡ line_text (Addrs side (take (i + 1) blocks))
addrs_more side blocks i cidr before less at so =
    let more : take (i + 1) blocks ≡ take i blocks ++ cidr ∷ [] = take_more blocks i cidr less ∙ ap (λ b. take i blocks ++ b ∷ []) (sym at) in
    let words : List (List ℕ) → List ℕ = λ rest. join_with_byte 32 (codes "addrs" ∷ side_text side ∷ rest) in
    ap (λ text. text ++ 32 ∷ cidr_text cidr) so
    ∙ sym (joined_more 32 (codes "addrs") (side_text side ∷ map cidr_text (take i blocks)) (cidr_text cidr))
    ∙ ap words (sym (map-more cidr_text (take i blocks) cidr))
    ∙ ap (λ (bs : List IpCidr). words (map cidr_text bs)) (sym more)
