-- Options of neighbour messages read one by one.
use Rattle.std.proofs.Common.{◌≡◌, ◌≢◌, ℕ, ◌<◌, ◌≤◌, List, [], ◌∷◌, ◌++◌, length, take, drop, refl, sym, ◌∙◌, ap, subst, arith, ◌↔◌, inl, inr}
use Rattle.std.specs.Prelude.{Option, Some}
use Rattle.std.specs.List.{last_or}
use Rattle.std.proofs.Math.Seq.{take-append_seam, drop-append_seam}
use Rattle.std.proofs.lemmas.Bool.Decides.{eqb_tells}
use Rattle.wire_icmpv6.specs.NdiscOption.{OptionValue, Begins, units, option_bytes, options_bytes, AreOptions, links, HasLink}

-- two lists of one length before two others
front-same : (a b r s : List ℕ) → length a ≡ length b → a ++ r ≡ b ++ s → a ≡ b
front-same a b r s len e = sym (take-append_seam a r) ∙ ap (λ xs. take (length a) xs) e ∙ ap (λ n. take n (b ++ s)) len ∙ take-append_seam b s

back-same : (a b r s : List ℕ) → length a ≡ length b → a ++ r ≡ b ++ s → r ≡ s
back-same a b r s len e = sym (drop-append_seam a r) ∙ ap (λ xs. drop (length a) xs) e ∙ ap (λ n. drop n (b ++ s)) len ∙ drop-append_seam b s

-- bytes begin with one option at most
inside-length : (bytes : List ℕ) (o p : OptionValue) (r s : List ℕ) → Begins bytes o r → Begins bytes p s → length o.inside ≡ length p.inside
inside-length bytes o p r s a b =
    let e : o.kind ∷ units o ∷ (o.inside ++ r) ≡ p.kind ∷ units p ∷ (p.inside ++ s) = sym a.spelled ∙ b.spelled in
    let u : units o ≡ units p = cc in
    omega (arith, a.is_option.whole, b.is_option.whole, u)

inside-append : (bytes : List ℕ) (o p : OptionValue) (r s : List ℕ) → Begins bytes o r → Begins bytes p s → o.inside ++ r ≡ p.inside ++ s
inside-append bytes o p r s a b =
    let e : o.kind ∷ units o ∷ (o.inside ++ r) ≡ p.kind ∷ units p ∷ (p.inside ++ s) = sym a.spelled ∙ b.spelled in
    cc

kind-same : (bytes : List ℕ) (o p : OptionValue) (r s : List ℕ) → Begins bytes o r → Begins bytes p s → o.kind ≡ p.kind
kind-same bytes o p r s a b =
    let e : o.kind ∷ units o ∷ (o.inside ++ r) ≡ p.kind ∷ units p ∷ (p.inside ++ s) = sym a.spelled ∙ b.spelled in
    cc

inside-same : (bytes : List ℕ) (o p : OptionValue) (r s : List ℕ) → Begins bytes o r → Begins bytes p s → o.inside ≡ p.inside
inside-same bytes o p r s a b = front-same o.inside p.inside r s (inside-length bytes o p r s a b) (inside-append bytes o p r s a b)

rest-same : (bytes : List ℕ) (o p : OptionValue) (r s : List ℕ) → Begins bytes o r → Begins bytes p s → r ≡ s
rest-same bytes o p r s a b = back-same o.inside p.inside r s (inside-length bytes o p r s a b) (inside-append bytes o p r s a b)

option-same : (o p : OptionValue) → o.kind ≡ p.kind → o.inside ≡ p.inside → o ≡ p
option-same o p k i = ap (λ n. record { kind = n; inside = o.inside }) k ∙ ap (λ xs. record { kind = p.kind; inside = xs }) i

-- the options after the first
abbrev Follows : ℕ → Option (List ℕ) → OptionValue → List ℕ → Option (List ℕ) → Type 0
Follows kind so_far o rest link = (os : List OptionValue) × (rest ≡ options_bytes os) × (o.kind ≡ kind → length o.inside ≡ 6) × AreOptions kind os ×
    (link ≡ last_or so_far (links kind (o ∷ os)))

empty-length : (bytes : List ℕ) → bytes ≡ [] → length bytes ≡ 0
empty-length bytes none = ap length none

option-length : (bytes : List ℕ) (o : OptionValue) (r : List ℕ) → Begins bytes o r → 2 ≤ length bytes
option-length bytes o r a = omega (arith, ap length a.spelled)

HasLink-unfold : (kind : ℕ) (so_far link : Option (List ℕ)) (bytes : List ℕ) (o : OptionValue) (r : List ℕ) (os : List OptionValue) → Begins bytes o r →
    bytes ≡ options_bytes os → AreOptions kind os → link ≡ last_or so_far (links kind os)
    → Follows kind so_far o r link
HasLink-unfold kind so_far link bytes o r [] begins none are is = absurd (omega (arith, empty-length bytes none, option-length bytes o r begins))
HasLink-unfold kind so_far link bytes o r (p ∷ ps) begins spelled are is =
    let there : Begins bytes p (options_bytes ps) = record { is_option = are.0; spelled = spelled } in
    let same : p ≡ o = sym (option-same o p (kind-same bytes o p r _ begins there) (inside-same bytes o p r _ begins there)) in (
      ps,
      rest-same bytes o p r (options_bytes ps) begins there,
      subst (λ q. q.kind ≡ kind → length q.inside ≡ 6) same are.1,
      are.2,
      is ∙ ap (λ q. last_or so_far (links kind (q ∷ ps))) same,
    )

-- an option of another type gives no link address
pub links-other : (kind : ℕ) (o : OptionValue) (os : List OptionValue) → o.kind ≢ kind → links kind (o ∷ os) ≡ links kind os
links-other kind o os other = elim (eqb_tells o.kind kind) [ inl hit ↦ absurd (other hit.1) | inr miss ↦ rw miss.0 refl ]

pub links-this : (kind : ℕ) (o : OptionValue) (os : List OptionValue) → o.kind ≡ kind → links kind (o ∷ os) ≡ o.inside ∷ links kind os
links-this kind o os this = elim (eqb_tells o.kind kind) [ inl hit ↦ rw hit.0 refl | inr miss ↦ absurd (miss.1 this) ]

-- the first option is of another type
other-fold : (kind : ℕ) (so_far link : Option (List ℕ)) (bytes : List ℕ) (o : OptionValue) (r : List ℕ) → Begins bytes o r → o.kind ≢ kind →
    HasLink kind so_far r link → HasLink kind so_far bytes link
other-fold kind so_far link bytes o r begins other has = (
  o ∷ has.0,
  begins.spelled ∙ ap (λ xs. option_bytes o ++ xs) has.1,
  (begins.is_option, (λ this. absurd (other this)), has.2),
  has.3 ∙ ap (last_or so_far) (sym (links-other kind o has.0 other)),
)

other-unfold : (kind : ℕ) (so_far link : Option (List ℕ)) (bytes : List ℕ) (o : OptionValue) (r : List ℕ) → Begins bytes o r → o.kind ≢ kind →
    HasLink kind so_far bytes link → HasLink kind so_far r link
other-unfold kind so_far link bytes o r begins other has =
    let f = HasLink-unfold kind so_far link bytes o r has.0 begins has.1 has.2 has.3 in
    (f.0, f.1, f.3, f.4 ∙ ap (last_or so_far) (links-other kind o f.0 other))

pub HasLink-other : (kind : ℕ) (so_far link : Option (List ℕ)) (bytes : List ℕ) (o : OptionValue) (r : List ℕ) → Begins bytes o r → o.kind ≢ kind →
    HasLink kind so_far r link ↔ HasLink kind so_far bytes link
HasLink-other kind so_far link bytes o r begins other =
    (other-fold kind so_far link bytes o r begins other, other-unfold kind so_far link bytes o r begins other)

-- the first option is a link address
this-fold : (kind : ℕ) (so_far link : Option (List ℕ)) (bytes : List ℕ) (o : OptionValue) (r : List ℕ) → Begins bytes o r → o.kind ≡ kind →
    length o.inside ≡ 6 → HasLink kind (Some o.inside) r link → HasLink kind so_far bytes link
this-fold kind so_far link bytes o r begins this six has = (
  o ∷ has.0,
  begins.spelled ∙ ap (λ xs. option_bytes o ++ xs) has.1,
  (begins.is_option, (λ same. six), has.2),
  has.3 ∙ ap (last_or so_far) (sym (links-this kind o has.0 this)),
)

this-unfold : (kind : ℕ) (so_far link : Option (List ℕ)) (bytes : List ℕ) (o : OptionValue) (r : List ℕ) → Begins bytes o r → o.kind ≡ kind →
    HasLink kind so_far bytes link → HasLink kind (Some o.inside) r link
this-unfold kind so_far link bytes o r begins this has =
    let f = HasLink-unfold kind so_far link bytes o r has.0 begins has.1 has.2 has.3 in
    (f.0, f.1, f.3, f.4 ∙ ap (last_or so_far) (links-this kind o f.0 this))

pub HasLink-this : (kind : ℕ) (so_far link : Option (List ℕ)) (bytes : List ℕ) (o : OptionValue) (r : List ℕ) (address : List ℕ) → Begins bytes o r →
    o.kind ≡ kind → address ≡ o.inside → length o.inside ≡ 6
    → HasLink kind (Some address) r link ↔ HasLink kind so_far bytes link
HasLink-this kind so_far link bytes o r address begins this same six =
    rw same (this-fold kind so_far link bytes o r begins this six, this-unfold kind so_far link bytes o r begins this)

-- a link address of another length than six bytes is refused
pub HasLink-six : (kind : ℕ) (so_far link : Option (List ℕ)) (bytes : List ℕ) (o : OptionValue) (r : List ℕ) → Begins bytes o r → o.kind ≡ kind →
    HasLink kind so_far bytes link → length o.inside ≡ 6
HasLink-six kind so_far link bytes o r begins this has = (HasLink-unfold kind so_far link bytes o r has.0 begins has.1 has.2 has.3).2 this

-- bytes that are no option are refused
none-begins : (kind : ℕ) (bytes : List ℕ) (os : List OptionValue) → 0 < length bytes → ((o : OptionValue) (r : List ℕ) → Begins bytes o r → ⊥) →
    bytes ≡ options_bytes os → AreOptions kind os → ⊥
none-begins kind bytes [] some none spelled are = omega (arith, empty-length bytes spelled)
none-begins kind bytes (o ∷ os) some none spelled are = none o (options_bytes os) (record { is_option = are.0; spelled = spelled })

pub HasLink-none : (kind : ℕ) (so_far link : Option (List ℕ)) (bytes : List ℕ) → 0 < length bytes → ((o : OptionValue) (r : List ℕ) → Begins bytes o r → ⊥) →
    HasLink kind so_far bytes link → ⊥
HasLink-none kind so_far link bytes some none has = none-begins kind bytes has.0 some none has.1 has.2

-- no bytes are left
pub empty : (bytes : List ℕ) → length bytes ≡ 0 → bytes ≡ []
empty [] none = refl
empty (b ∷ bytes) none = absurd (omega arith)

pub HasLink-nothing : (kind : ℕ) (so_far : Option (List ℕ)) (bytes : List ℕ) → length bytes ≡ 0 → HasLink kind so_far bytes so_far
HasLink-nothing kind so_far bytes none = ([], empty bytes none, tt, refl)

last-none : (kind : ℕ) (so_far : Option (List ℕ)) (bytes : List ℕ) (os : List OptionValue) → length bytes ≡ 0 → bytes ≡ options_bytes os →
    so_far ≡ last_or so_far (links kind os)
last-none kind so_far bytes [] none spelled = refl
last-none kind so_far bytes (o ∷ os) none spelled = absurd (omega (arith, ap length spelled))

pub HasLink-empty : (kind : ℕ) (so_far link : Option (List ℕ)) (bytes : List ℕ) → length bytes ≡ 0 → HasLink kind so_far bytes link → so_far ≡ link
HasLink-empty kind so_far link bytes none has = last-none kind so_far bytes has.0 none has.1 ∙ sym has.3
