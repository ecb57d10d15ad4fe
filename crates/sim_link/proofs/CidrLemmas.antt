-- Lemmas on the texts of blocks.
use Rattle.std.proofs.Common.{◌≡◌, ◌≤◌, ℕ, List, [], ◌∷◌, ◌++◌, ap, sym, ◌∙◌, refl, subst, drop, slice_get, length, arith, append_assoc, append-nil, Some, None}
use Rattle.std.proofs.Common.{Result, Ok, Err}
use Rattle.std.specs.Result.{result_ok}
use mathlib.Core.HLevel.{is_prop→PathP}
use native.Mathlib.Bridge.{le_prop}
use Rattle.std.proofs.lemmas.List.{length-append}
use Rattle.ip_wire.specs.IpCidr.{IpCidr}
use Rattle.ip_wire.specs.IpCidr.TheVariants as Cidr
use Rattle.ip_wire.specs.Ipv4Cidr.{Ipv4Cidr}
use Rattle.ip_wire.specs.Ipv6Cidr.{Ipv6Cidr}
use Rattle.ip_wire.specs.Cidr.{cidr_address, cidr_prefix_len}
use Rattle.ip_wire.specs.Text.{ReadsIpCidr}
use Rattle.sim_link.specs.Words.{IsCidrText, AreCidrTexts}

same-v4 : (a b : Ipv4Cidr) → a.address ≡ b.address → a.prefix_len ≡ b.prefix_len → a ≡ b
same-v4 a b e f = λ i. record {
  address = e i;
  prefix_len = f i;
  in_range = is_prop→PathP (λ j. f j ≤ 32) (λ j. le_prop) a.in_range b.in_range i;
}

same-v6 : (a b : Ipv6Cidr) → a.address ≡ b.address → a.prefix_len ≡ b.prefix_len → a ≡ b
same-v6 a b e f = λ i. record {
  address = e i;
  prefix_len = f i;
  in_range = is_prop→PathP (λ j. f j ≤ 128) (λ j. le_prop) a.in_range b.in_range i;
}

-- blocks of the same address and the same prefix length are the same
pub same_tcb : (a b : IpCidr) → cidr_address a ≡ cidr_address b → cidr_prefix_len a ≡ cidr_prefix_len b → a ≡ b
same_tcb (Cidr.Ipv4 a) (Cidr.Ipv4 b) e f = ap Cidr.Ipv4 (same-v4 a b (cc) f)
same_tcb (Cidr.Ipv4 a) (Cidr.Ipv6 b) e f = absurd (cc)
same_tcb (Cidr.Ipv6 a) (Cidr.Ipv4 b) e f = absurd (cc)
same_tcb (Cidr.Ipv6 a) (Cidr.Ipv6 b) e f = ap Cidr.Ipv6 (same-v6 a b (cc) f)

-- what a reader of blocks gives is the block of the text
pub only_cidr : {E : Type 0} (text : List ℕ) (r : Result IpCidr E) (cidr : IpCidr) → ReadsIpCidr text r → IsCidrText text cidr → result_ok r ≡ Some cidr
only_cidr text (Ok b) cidr reads is =
    let same = reads.1 (cidr_address cidr) (cidr_prefix_len cidr) is in
    ap Some (same_tcb b cidr same.0 same.1)
only_cidr text (Err e) cidr reads is = absurd (reads.1 (cidr_address cidr) (cidr_prefix_len cidr) is)

-- one block more, and then the others
pub next_found : (words start : List (List ℕ)) (done : List IpCidr) (word : List ℕ) (cidr : IpCidr) → slice_get words 0 ≡ Some word → IsCidrText word cidr
    → ((x : List IpCidr) → AreCidrTexts words x → AreCidrTexts start (done ++ x))
    → (x : List IpCidr) → AreCidrTexts (drop 1 words) x → AreCidrTexts start ((done ++ cidr ∷ []) ++ x)
next_found [] start done word cidr at is before x rest = absurd (cc)
next_found (w ∷ words) start done word cidr at is before x rest =
    let same : word ≡ w = cc in
    rw append_assoc (before (cidr ∷ x) (subst (λ (t : List ℕ). IsCidrText t cidr) same is, rest))

next_of : (words : List (List ℕ)) (done : List IpCidr) (word : List ℕ) (cidr : IpCidr) → slice_get words 0 ≡ Some word
    → ((b : IpCidr) → IsCidrText word b → cidr ≡ b)
    → (x rest : List IpCidr) → AreCidrTexts words rest → x ≡ done ++ rest
    → (rest : List IpCidr) × AreCidrTexts (drop 1 words) rest × (x ≡ (done ++ cidr ∷ []) ++ rest)
next_of [] done word cidr at one x rest are e = absurd (cc)
next_of (w ∷ words) done word cidr at one x [] are e = absurd are
next_of (w ∷ words) done word cidr at one x (b ∷ rest) are e =
    let same : w ≡ word = cc in
    let is : cidr ≡ b = one b (subst (λ (t : List ℕ). IsCidrText t b) same are.0) in
    (rest, are.1, e ∙ rw (append_assoc, is) refl)

pub next_only : (words start : List (List ℕ)) (done : List IpCidr) (word : List ℕ) (cidr : IpCidr) → slice_get words 0 ≡ Some word
    → ((b : IpCidr) → IsCidrText word b → cidr ≡ b)
    → ((x : List IpCidr) → AreCidrTexts start x → (rest : List IpCidr) × AreCidrTexts words rest × (x ≡ done ++ rest))
    → (x : List IpCidr) → AreCidrTexts start x → (rest : List IpCidr) × AreCidrTexts (drop 1 words) rest × (x ≡ (done ++ cidr ∷ []) ++ rest)
next_only words start done word cidr at one before x is = next_of words done word cidr at one x (before x is).0 (before x is).1 (before x is).2

-- where no word is left, the blocks so far are all
pub all_found : (words start : List (List ℕ)) (done : List IpCidr) → slice_get words 0 ≡ None
    → ((x : List IpCidr) → AreCidrTexts words x → AreCidrTexts start (done ++ x)) → AreCidrTexts start done
all_found [] start done none before = let h = before [] tt in rw append-nil at h
all_found (w ∷ words) start done none before = absurd (cc)

no_rest : (done x rest : List IpCidr) → AreCidrTexts [] rest → x ≡ done ++ rest → done ≡ x
no_rest done x [] are e = sym (e ∙ append-nil done)
no_rest done x (b ∷ rest) are e = absurd are

pub all_only : (words start : List (List ℕ)) (done x : List IpCidr) → slice_get words 0 ≡ None → AreCidrTexts start x
    → ((x : List IpCidr) → AreCidrTexts start x → (rest : List IpCidr) × AreCidrTexts words rest × (x ≡ done ++ rest)) → done ≡ x
all_only [] start done x none are before = let h = before x are in no_rest done x h.0 h.1 h.2
all_only (w ∷ words) start done x none are before = absurd (cc)

first_none : (words : List (List ℕ)) (word : List ℕ) → slice_get words 0 ≡ Some word → ((b : IpCidr) → IsCidrText word b → ⊥)
    → (rest : List IpCidr) → AreCidrTexts words rest → ⊥
first_none [] word at none rest are = absurd (cc)
first_none (w ∷ words) word at none [] are = are
first_none (w ∷ words) word at none (b ∷ rest) are =
    let same : w ≡ word = cc in
    none b (subst (λ (t : List ℕ). IsCidrText t b) same are.0)

-- where a word is no block, the words are no blocks
pub none_read : (words start : List (List ℕ)) (done : List IpCidr) (word : List ℕ) → slice_get words 0 ≡ Some word → ((b : IpCidr) → IsCidrText word b → ⊥)
    → ((x : List IpCidr) → AreCidrTexts start x → (rest : List IpCidr) × AreCidrTexts words rest × (x ≡ done ++ rest))
    → (x : List IpCidr) → AreCidrTexts start x → ⊥
none_read words start done word at none before x are = first_none words word at none (before x are).0 (before x are).1

some_more : (words : List (List ℕ)) (done : List IpCidr) (word : List ℕ) → slice_get words 0 ≡ Some word → length done ≡ 4
    → (x rest : List IpCidr) → AreCidrTexts words rest → x ≡ done ++ rest → length x ≤ 4 → ⊥
some_more [] done word at four x rest are e few = absurd (cc)
some_more (w ∷ words) done word at four x [] are e few = are
some_more (w ∷ words) done word at four x (b ∷ rest) are e few = absurd (omega (arith, few, four, ap length e, length-append done (b ∷ rest)))

-- where four are read and one more word is a block, they are too many
pub too_many : (words start : List (List ℕ)) (done : List IpCidr) (word : List ℕ) → slice_get words 0 ≡ Some word → length done ≡ 4
    → ((x : List IpCidr) → AreCidrTexts start x → (rest : List IpCidr) × AreCidrTexts words rest × (x ≡ done ++ rest))
    → (x : List IpCidr) → AreCidrTexts start x → length x ≤ 4 → ⊥
too_many words start done word at four before x are few = some_more words done word at four x (before x are).0 (before x are).1 (before x are).2 few
