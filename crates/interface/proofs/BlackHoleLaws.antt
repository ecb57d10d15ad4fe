-- What is lost goes shorter, until it is short enough.
use Rattle.std.proofs.Common.{◌≡◌, ℕ, zero, suc, ◌<◌, ◌≤◌, nat_lt, nat_le, ◌&&◌, Bool, true, false, cond, if◌then◌else◌, ℤ, pos, ◌+ℤ◌, ◌≤ℤ◌, ◌<ℤ◌, List, [], ◌∷◌}
use Rattle.std.proofs.Common.{Option, Some, None, is_some, refl, sym, ap, ◌∙◌, subst, arith}
use Rattle.std.specs.Prelude.{find}
use Rattle.std.proofs.lemmas.Bool.{and_parts}
use Rattle.std.proofs.lemmas.Bool.Decides.{nat_tests}
use Rattle.std.proofs.lemmas.Int.{ints}
use Rattle.ip_wire.specs.IpAddress.{IpAddress}
use Rattle.ip_wire.specs.IpAddress.TheVariants as Address
use Rattle.iface_ingress.specs.TcpValue.{TcpValue}
use Rattle.iface_ingress.specs.TcpSocket.{times_out_after}
use Rattle.iface_tables.specs.Inner.{InnerValue, mtu_to}
use Rattle.iface_tables.specs.PathMtu.{is_news, least_mtu, lowered, mtu_towards, narrowed, path_time}
use Rattle.iface_tables.specs.declared.path_mtu.Path.{Path}
use Rattle.iface_tables.proofs.PathMtu.{counts, forgotten, mtu_within}
use Rattle.interface.specs.BlackHoles.{flight_len, is_swallowed, len_after, or_same, paths_told, paths_towards, tried_below, tried_lengths, tried_next, with_paths}

-- THE LENGTHS THAT ARE TRIED

same_some : {A : Type 0} (x y : A) → Some x ≡ Some y → x ≡ y
same_some x y is = cc

-- the first of a list that is below a length: it is, and it's no shorter than all of them are
abbrev AtLeast : ℕ → List ℕ → Type 0
AtLeast least [] = Unit {0}
AtLeast least (x ∷ xs) = (least ≤ x) × AtLeast least xs

found : (least len : ℕ) (xs : List ℕ) (x : ℕ) → AtLeast least xs → find (λ tried. nat_lt tried len) xs ≡ Some x → (x < len) × (least ≤ x)
found least len [] x all is = absurd cc
found least len (y ∷ xs) x all is = by (nat_lt y len) refl (found least len xs x all.1) where
  by : (b : Bool) → nat_lt y len ≡ b → (find (λ tried. nat_lt tried len) xs ≡ Some x → (x < len) × (least ≤ x)) → (x < len) × (least ≤ x)
  by true below rest =
      let same : y ≡ x = same_some y x (sym (ap (λ (b : Bool). cond b (Some y) (find (λ tried. nat_lt tried len) xs)) below) ∙ is) in
      let first = all.0 in
      (grind (arith, nat_tests), omega (arith, first, same))
  by false past rest =
      rest (sym (ap (λ (b : Bool). cond b (Some y) (find (λ tried. nat_lt tried len) xs)) past) ∙ is)

tried : (address : IpAddress) (len x : ℕ) → tried_below address len ≡ Some x → (x < len) × (least_mtu address ≤ x)
tried (Address.Ipv4 a) len x is =
    found 576 len (1_492 ∷ 1_400 ∷ 1_280 ∷ 1_024 ∷ 576 ∷ []) x (omega arith, (omega arith, (omega arith, (omega arith, (omega arith, tt))))) is
tried (Address.Ipv6 a) len x is = found 1_280 len (1_280 ∷ []) x (omega arith, tt) is

-- there is one where the length is above the least of them
some_of : {A : Type 0} (b : Bool) (x : A) (o : Option A) → is_some o ≡ true → is_some (cond b (Some x) o) ≡ true
some_of true x o some = refl
some_of false x o some = some

below_last : (last len : ℕ) → last < len → is_some (cond (nat_lt last len) (Some last) None) ≡ true
below_last last len above = by (nat_lt last len) refl where
  by : (b : Bool) → nat_lt last len ≡ b → is_some (cond b (Some last) None) ≡ true
  by true is = refl
  by false is = absurd (grind (arith, nat_tests))

some_tried : (address : IpAddress) (len : ℕ) → least_mtu address < len → is_some (tried_below address len) ≡ true
some_tried (Address.Ipv4 a) len above =
    some_of (nat_lt 1_492 len) 1_492 _ (some_of (nat_lt 1_400 len) 1_400 _ (some_of (nat_lt 1_280 len) 1_280 _
    (some_of (nat_lt 1_024 len) 1_024 _ (below_last 576 len above))))
some_tried (Address.Ipv6 a) len above = below_last 1_280 len above

-- A PACKET THAT IS LOST

pub lost_some : (i : InnerValue) (address : IpAddress) (v : TcpValue) → is_swallowed i address v ≡ true → least_mtu address < flight_len address v
    → is_some (tried_next i address v) ≡ true
lost_some i address v lost above =
    ap (λ (b : Bool). is_some (if b then tried_below address (flight_len address v) else None)) lost ∙ some_tried address (flight_len address v) above

if_some : {A : Type 0} (b : Bool) (o : Option A) (x : A) → (if b then o else None) ≡ Some x → (b ≡ true) × (o ≡ Some x)
if_some true o x is = (refl, is)
if_some false o x is = absurd cc

module _ (i : InnerValue) (address : IpAddress) (v : TcpValue) (len : ℕ) (next : tried_next i address v ≡ Some len) where
  swallowed : (is_swallowed i address v ≡ true) × (tried_below address (flight_len address v) ≡ Some len)
  swallowed = if_some (is_swallowed i address v) (tried_below address (flight_len address v)) len next

  below : (len < flight_len address v) × (least_mtu address ≤ len)
  below = tried address (flight_len address v) len swallowed.1

  goes : flight_len address v ≤ mtu_to i address
  goes = by (nat_le (flight_len address v) (mtu_to i address)) refl (and_parts _ _ swallowed.0).1 where
    by : (b : Bool) → nat_le (flight_len address v) (mtu_to i address) ≡ b → b ≡ true → flight_len address v ≤ mtu_to i address
    by true is so = grind (arith, nat_tests)
    by false is so = absurd cc

  within : mtu_to i address ≤ i.mtu
  within = mtu_within i.paths address i.instant i.mtu

  exactly : narrowed address len i.mtu ≡ len
  exactly = let a = below.0 in let b = below.1 in let c = goes in let d = within in omega (arith, a, b, c, d)

  news : is_news i.paths address len i.instant i.mtu ≡ true
  news = by (nat_lt (narrowed address len i.mtu) (mtu_to i address)) refl where
    by : (b : Bool) → nat_lt (narrowed address len i.mtu) (mtu_to i address) ≡ b → b ≡ true
    by true is = refl
    by false is = absurd (let a = below.0 in let c = goes in let e = exactly in grind (arith, nat_tests))

  told : paths_towards i (Some address) v ≡ lowered i.paths address len i.instant i.mtu
  told = ap (paths_told i address) next

  pub lost_ten_minutes : (later : ℤ) → later <ℤ (i.instant +ℤ pos path_time) → mtu_towards (paths_towards i (Some address) v) address later i.mtu ≡ len
  lost_ten_minutes later early =
      ap (λ (paths : List Path). mtu_towards paths address later i.mtu) told
      ∙ counts i.paths address len i.instant later i.mtu news early ∙ exactly

  pub lost_longer : (later : ℤ) → (i.instant +ℤ pos path_time) ≤ℤ later → mtu_towards (paths_towards i (Some address) v) address later i.mtu ≡ i.mtu
  lost_longer later late =
      ap (λ (paths : List Path). mtu_towards paths address later i.mtu) told
      ∙ forgotten i.paths address len i.instant later i.mtu news late

  soon : (now : ℤ) → now <ℤ (now +ℤ pos path_time)
  soon now = grind (arith, ints)

  pub lost_shorter : (len < flight_len address v) × (mtu_to (with_paths i (paths_towards i (Some address) v)) address ≡ len)
  lost_shorter = (below.0, lost_ten_minutes i.instant (soon i.instant))

-- FIVE ARE ENOUGH

none_shorter : (address : IpAddress) (len : ℕ) → tried_below address len ≡ None → (n : ℕ) → len_after n address len ≡ len
none_shorter address len none zero = refl
none_shorter address len none (suc n) = ap (λ (o : Option ℕ). len_after n address (or_same len o)) none ∙ none_shorter address len none n

at_most : (a b : ℕ) → nat_lt a b ≡ false → b ≤ a
at_most a b past = grind (arith, nat_tests)

-- the first of five tests that holds answers, or none
abbrev five : Bool → Bool → Bool → Bool → Bool → Option ℕ
five a b c d e = cond a (Some 1_492) (cond b (Some 1_400) (cond c (Some 1_280) (cond d (Some 1_024) (cond e (Some 576) None))))

pick : (P : Option ℕ → Type 0) (a b c d e : Bool) → P (Some 1_492) → P (Some 1_400) → P (Some 1_280) → P (Some 1_024) → P (Some 576) → (e ≡ false → P None) →
    P (five a b c d e)
pick P true b c d e first second third fourth fifth none = first
pick P false true c d e first second third fourth fifth none = second
pick P false false true d e first second third fourth fifth none = third
pick P false false false true e first second third fourth fifth none = fourth
pick P false false false false true first second third fourth fifth none = fifth
pick P false false false false false first second third fourth fifth none = none refl

pick_one : (P : Option ℕ → Type 0) (a : Bool) → P (Some 1_280) → (a ≡ false → P None) → P (cond a (Some 1_280) None)
pick_one P true one none = one
pick_one P false one none = none refl

stays : (address : IpAddress) (least most len : ℕ) → least ≤ most → nat_lt least len ≡ false → tried_below address len ≡ None → len_after 4 address len ≤ most
stays address least most len low past none =
    let same = none_shorter address len none 4 in
    let short = at_most least len past in
    omega (arith, same, short, low)

pub five_enough : (address : IpAddress) (most len : ℕ) → least_mtu address ≤ most → len_after 5 address len ≤ most
five_enough (Address.Ipv4 a) most len low =
    pick (λ (o : Option ℕ). tried_below (Address.Ipv4 a) len ≡ o → len_after 4 (Address.Ipv4 a) (or_same len o) ≤ most)
    (nat_lt 1_492 len) (nat_lt 1_400 len) (nat_lt 1_280 len) (nat_lt 1_024 len) (nat_lt 576 len)
    (λ is. low) (λ is. low) (λ is. low) (λ is. low) (λ is. low) (λ past none. stays (Address.Ipv4 a) 576 most len low past none) refl
five_enough (Address.Ipv6 a) most len low =
    pick_one (λ (o : Option ℕ). tried_below (Address.Ipv6 a) len ≡ o → len_after 4 (Address.Ipv6 a) (or_same len o) ≤ most) (nat_lt 1_280 len)
    (λ is. low) (λ past none. stays (Address.Ipv6 a) 1_280 most len low past none) refl
