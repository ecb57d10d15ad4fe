-- What a table of paths answers, and what a message changes in it.
use Rattle.std.proofs.Common.{◌≡◌, ℕ, suc, zero, ◌+◌, ◌<◌, ◌≤◌, Bool, true, false, cond, not, nat_lt, ℤ, pos, ◌+ℤ◌, ◌<ℤ◌, ◌≤ℤ◌, int_lt, List, [], ◌∷◌, ◌++◌}
use Rattle.std.proofs.Common.{length, take, drop, get_or, ◌⊎◌, inl, inr, Option, Some, None, is_some, refl, sym, ap, ◌∙◌, subst, arith}
use Rattle.std.specs.Prelude.{min, max, slice_get, slice_set, remove, find, position}
use Rattle.std.specs.Cmp.{IsStrictWeakOrder}
use Rattle.std.specs.List.{position_or_len}
use Rattle.std.proofs.lemmas.Bool.Decides.{nat_tests}
use Rattle.std.proofs.lemmas.Int.{ints}
use Rattle.std.proofs.lemmas.List.{length-append, length-set, length-take, length-drop}
use Rattle.std.proofs.lemmas.List.Folds.{find_at, find-set}
use Rattle.std.proofs.lemmas.List.MinMax.{IsFirstBest-from_best_of}
use Rattle.std.proofs.lemmas.List.Quantifiers.{position-Some}
use Rattle.std.proofs.lemmas.Option.{slice_get_past}
use Rattle.std.proofs.lemmas.Slice.Eq.{bytes_eq-Decides}
use Rattle.ip_wire.specs.AddressTests.{is_same_address}
use Rattle.ip_wire.specs.IpAddress.{IpAddress}
use Rattle.ip_wire.specs.IpAddress.TheVariants as Address
use Rattle.iface_tables.specs.Best.{at_index}
use Rattle.iface_tables.specs.PathMtu.{path_room, path_time, least_mtu, leads_to, path_index_of, path_to, narrowed, mtu_by, mtu_towards, end_by, end_towards}
use Rattle.iface_tables.specs.PathMtu.{ends_before, victim, entered_at, entered, heard_of, is_news, lowered}
use Rattle.iface_tables.specs.declared.path_mtu.Path.{Path}
use Rattle.iface_tables.proofs.BestOf.{index_of_first_best-is}

-- BETWEEN THE LEAST AND THE WHOLE

between : (address : IpAddress) (told whole : ℕ) → (min whole (least_mtu address) ≤ narrowed address told whole) × (narrowed address told whole ≤ whole)
between address told whole = (omega (arith), omega (arith))

mtu_between : (o : Option Path) (address : IpAddress) (now : ℤ) (whole : ℕ) →
    (min whole (least_mtu address) ≤ mtu_by o address now whole) × (mtu_by o address now whole ≤ whole)
mtu_between None address now whole = (omega arith, omega arith)
mtu_between (Some p) address now whole =
    elim (int_lt now p.until) as (λ b. (min whole (least_mtu address) ≤ cond b (narrowed address p.told whole) whole)
    × (cond b (narrowed address p.told whole) whole ≤ whole)) [ true ↦ between address p.told whole | false ↦ (omega arith, omega arith) ]

pub mtu_least : (paths : List Path) (address : IpAddress) (now : ℤ) (whole : ℕ) → min whole (least_mtu address) ≤ mtu_towards paths address now whole
unfolding mtu_towards
mtu_least paths address now whole = (mtu_between (path_to paths address) address now whole).0

pub mtu_within : (paths : List Path) (address : IpAddress) (now : ℤ) (whole : ℕ) → mtu_towards paths address now whole ≤ whole
unfolding mtu_towards
mtu_within paths address now whole = (mtu_between (path_to paths address) address now whole).1

least_low : (address : IpAddress) → 576 ≤ least_mtu address
least_low (Address.Ipv4 a) = omega arith
least_low (Address.Ipv6 a) = omega arith

pub mtu_low : (paths : List Path) (address : IpAddress) (now : ℤ) (whole : ℕ) → 576 ≤ whole → 576 ≤ mtu_towards paths address now whole
mtu_low paths address now whole low =
    let least = mtu_least paths address now whole in
    let floor = least_low address in
    omega (arith, least, floor, low)

-- WHERE NOTHING ENDS IN BETWEEN, what is known stays

stays_by : (o : Option Path) (address : IpAddress) (now later : ℤ) (whole : ℕ) → now ≤ℤ later
    → ((until : ℤ) → end_by o now ≡ Some until → later <ℤ until) → mtu_by o address later whole ≡ mtu_by o address now whole
stays_by None address now later whole since before = refl
stays_by (Some p) address now later whole since before = by (int_lt now p.until) refl where
  by : (b : Bool) → int_lt now p.until ≡ b → cond (int_lt later p.until) (narrowed address p.told whole) whole ≡
      cond (int_lt now p.until) (narrowed address p.told whole) whole
  by true is =
      let ahead : later <ℤ p.until = before p.until (ap (λ (b : Bool). cond b (Some p.until) None) is) in
      let lives : int_lt later p.until ≡ true = grind (arith, ints) in
      ap (λ (b : Bool). cond b (narrowed address p.told whole) whole) (lives ∙ sym is)
  by false is =
      let ended : int_lt later p.until ≡ false = grind (arith, ints) in
      ap (λ (b : Bool). cond b (narrowed address p.told whole) whole) (ended ∙ sym is)

pub mtu_stays : (paths : List Path) (address : IpAddress) (now later : ℤ) (whole : ℕ) → now ≤ℤ later
    → ((until : ℤ) → end_towards paths address now ≡ Some until → later <ℤ until)
    → mtu_towards paths address later whole ≡ mtu_towards paths address now whole
unfolding mtu_towards end_towards
mtu_stays paths address now later whole since before = stays_by (path_to paths address) address now later whole since before

-- SEARCHES

module _ {X : Type 0} (t : X → Bool) where
  first_by : (xs : List X) (n : ℕ) (b : Bool) → nat_lt n (length xs) ≡ b → at_index (cond b (Some n) None) xs ≡ slice_get xs n
  first_by xs n true is = refl
  first_by xs n false is = let past : length xs ≤ n = grind (arith, nat_tests) in sym (slice_get_past xs n past)

  pub at_first : (xs : List X) → at_index (position t xs) xs ≡ find t xs
  at_first xs = first_by xs (position_or_len t xs) (nat_lt (position_or_len t xs) (length xs)) refl ∙ sym (find_at t xs)

  pub find_last : (xs : List X) (y : X) → find t xs ≡ None → t y ≡ true → find t (xs ++ y ∷ []) ≡ Some y
  find_last [] y none is = ap (λ (b : Bool). cond b (Some y) None) is
  find_last (x ∷ xs) y none is = by (t x) none (λ rest. find_last xs y rest is) where
    by : (b : Bool) → cond b (Some x) (find t xs) ≡ None → (find t xs ≡ None → find t (xs ++ y ∷ []) ≡ Some y) →
        cond b (Some x) (find t (xs ++ y ∷ [])) ≡ Some y
    by true off rest = absurd (let no = off in cc)
    by false none rest = rest none

  find_more : (xs : List X) (y : X) → t y ≡ false → find t (xs ++ y ∷ []) ≡ find t xs
  find_more [] y is = ap (λ (b : Bool). cond b (Some y) None) is
  find_more (x ∷ xs) y is = ap (λ (o : Option X). cond (t x) (Some x) o) (find_more xs y is)

  find_set_other : (xs : List X) (i : ℕ) (y d : X) → t y ≡ false → t (get_or xs i d) ≡ false → find t (slice_set xs i y) ≡ find t xs
  find_set_other [] i y d off was = refl
  find_set_other (x ∷ xs) zero y d off was =
      ap (λ (b : Bool). cond b (Some y) (find t xs)) off ∙ sym (ap (λ (b : Bool). cond b (Some x) (find t xs)) was)
  find_set_other (x ∷ xs) (suc i) y d off was = ap (λ (o : Option X). cond (t x) (Some x) o) (find_set_other xs i y d off was)

  -- where none passes, none of some passes
  none_tail : (x : X) (xs : List X) → find t (x ∷ xs) ≡ None → (t x ≡ false) × (find t xs ≡ None)
  none_tail x xs = by (t x) refl where
    by : (b : Bool) → t x ≡ b → cond b (Some x) (find t xs) ≡ None → (t x ≡ false) × (find t xs ≡ None)
    by true is off = absurd (let no = off in cc)
    by false is rest = (is, rest)

  none_head : (x : X) (xs : List X) → t x ≡ false → find t xs ≡ None → find t (x ∷ xs) ≡ None
  none_head x xs off none = ap (λ (b : Bool). cond b (Some x) (find t xs)) off ∙ none

  pub none_removed : (xs : List X) (k : ℕ) → find t xs ≡ None → find t (remove xs k) ≡ None
  none_removed [] k none = rw_none where
    rw_none : find t (remove [] k) ≡ None
    rw_none = by k where
      by : (k : ℕ) → find t (remove [] k) ≡ None
      by zero = refl
      by (suc k) = refl
  none_removed (x ∷ xs) zero none = (none_tail x xs none).1
  none_removed (x ∷ xs) (suc k) none =
      let both = none_tail x xs none in none_head x (remove xs k) both.0 (none_removed xs k both.1)

  -- nothing is found where there is no place
  pub none_found : (xs : List X) → position t xs ≡ None → find t xs ≡ None
  none_found xs is = sym (at_first xs) ∙ ap (λ (o : Option ℕ). at_index o xs) is

  pub is_found : (xs : List X) (at : ℕ) (y : X) → position t xs ≡ Some at → t y ≡ true → find t (slice_set xs at y) ≡ Some y
  is_found xs at y is passes =
      let some = position-Some t xs at y is in
      find-set t xs at y (index xs at is) some.0 passes
    where
      index : (xs : List X) (at : ℕ) → position t xs ≡ Some at → at ≡ position_or_len t xs
      index xs at = by (nat_lt (position_or_len t xs) (length xs)) where
        by : (b : Bool) → cond b (Some (position_or_len t xs)) None ≡ Some at → at ≡ position_or_len t xs
        by true is = cc
        by false is = absurd (let no = is in cc)

-- ENTRIES

pub itself : (a : IpAddress) → is_same_address a a ≡ true
itself (Address.Ipv4 a) = (bytes_eq-Decides a.0 a.0).1 refl
itself (Address.Ipv6 a) = (bytes_eq-Decides a.0 a.0).1 refl

entered_found : (paths : List Path) (new : Path) → find (leads_to new.destination) (entered paths new) ≡ Some new
entered_found paths new = by (path_index_of paths new.destination) refl where
  by : (o : Option ℕ) → path_index_of paths new.destination ≡ o → find (leads_to new.destination) (entered_at o paths new) ≡ Some new
  by (Some at) is = is_found (leads_to new.destination) paths at new is (itself new.destination)
  by None is =
      let none = none_found (leads_to new.destination) paths is in
      elim (nat_lt (length paths) path_room) as (λ b. find (leads_to new.destination)
      (cond b (paths ++ new ∷ []) (remove paths (victim paths) ++ new ∷ [])) ≡ Some new) [
        | true ↦ find_last (leads_to new.destination) paths new none (itself new.destination)
        | false ↦ find_last (leads_to new.destination) (remove paths (victim paths)) new
            (none_removed (leads_to new.destination) paths (victim paths) none) (itself new.destination)
      ]

path_entered : (paths : List Path) (new : Path) → path_to (entered paths new) new.destination ≡ Some new
path_entered paths new = at_first (leads_to new.destination) (entered paths new) ∙ entered_found paths new

-- NEWS

lowered_is : (paths : List Path) (address : IpAddress) (told : ℕ) (now : ℤ) (whole : ℕ) (b : Bool) → is_news paths address told now whole ≡ b →
    lowered paths address told now whole ≡ cond b (entered paths (heard_of address told now)) paths
unfolding lowered
lowered_is paths address told now whole b is = ap (λ (b : Bool). cond b (entered paths (heard_of address told now)) paths) is

heard_mtu : (paths : List Path) (address : IpAddress) (told : ℕ) (now later : ℤ) (whole : ℕ) (b : Bool) → is_news paths address told now whole ≡ true
    → int_lt later (now +ℤ pos path_time) ≡ b
    → mtu_towards (lowered paths address told now whole) address later whole ≡ cond b (narrowed address told whole) whole
unfolding mtu_towards
heard_mtu paths address told now later whole b news is =
    ap (λ (ps : List Path). mtu_towards ps address later whole) (lowered_is paths address told now whole true news)
    ∙ ap (λ (o : Option Path). mtu_by o address later whole) (path_entered paths (heard_of address told now))
    ∙ ap (λ (b : Bool). cond b (narrowed address told whole) whole) is

pub counts : (paths : List Path) (address : IpAddress) (told : ℕ) (now later : ℤ) (whole : ℕ) → is_news paths address told now whole ≡ true
    → later <ℤ (now +ℤ pos path_time) → mtu_towards (lowered paths address told now whole) address later whole ≡ narrowed address told whole
counts paths address told now later whole news early =
    heard_mtu paths address told now later whole true news (let e : later <ℤ (now +ℤ pos path_time) = early in grind (arith, ints))

pub forgotten : (paths : List Path) (address : IpAddress) (told : ℕ) (now later : ℤ) (whole : ℕ) → is_news paths address told now whole ≡ true
    → (now +ℤ pos path_time) ≤ℤ later → mtu_towards (lowered paths address told now whole) address later whole ≡ whole
forgotten paths address told now later whole news late =
    heard_mtu paths address told now later whole false news (let e : (now +ℤ pos path_time) ≤ℤ later = late in grind (arith, ints))

pub nothing_else : (paths : List Path) (address : IpAddress) (told : ℕ) (now : ℤ) (whole : ℕ) → is_news paths address told now whole ≡ false
    → lowered paths address told now whole ≡ paths
nothing_else paths address told now whole none = lowered_is paths address told now whole false none

-- what was known later was known at least as much
later_most : (o : Option Path) (address : IpAddress) (now later : ℤ) (whole : ℕ) → now ≤ℤ later → mtu_by o address now whole ≤ mtu_by o address later whole
later_most None address now later whole since = omega arith
later_most (Some p) address now later whole since = by (int_lt later p.until) refl where
  by : (b : Bool) → int_lt later p.until ≡ b → cond (int_lt now p.until) (narrowed address p.told whole) whole ≤ cond b (narrowed address p.told whole) whole
  by true is =
      let lives : int_lt now p.until ≡ true = grind (arith, ints) in
      subst (λ (b : Bool). cond b (narrowed address p.told whole) whole ≤ narrowed address p.told whole) (sym lives) (omega arith)
  by false is = (mtu_between (Some p) address now whole).1

later_mtu : (paths : List Path) (address : IpAddress) (now later : ℤ) (whole : ℕ) → now ≤ℤ later →
    mtu_towards paths address now whole ≤ mtu_towards paths address later whole
unfolding mtu_towards
later_mtu paths address now later whole since = later_most (path_to paths address) address now later whole since

pub never_up : (paths : List Path) (address : IpAddress) (told : ℕ) (now later : ℤ) (whole : ℕ) → now ≤ℤ later → later <ℤ (now +ℤ pos path_time)
    → mtu_towards (lowered paths address told now whole) address later whole ≤ mtu_towards paths address later whole
never_up paths address told now later whole since early = by (is_news paths address told now whole) refl where
  by : (b : Bool) → is_news paths address told now whole ≡ b
      → mtu_towards (lowered paths address told now whole) address later whole ≤ mtu_towards paths address later whole
  by true is =
      let less : narrowed address told whole < mtu_towards paths address now whole =
      lt_by (narrowed address told whole) (mtu_towards paths address now whole) is in
      let more = later_mtu paths address now later whole since in
      subst (λ (n : ℕ). n ≤ mtu_towards paths address later whole) (sym (counts paths address told now later whole is early))
      (omega (arith, less, more))
    where
      lt_by : (a b : ℕ) → nat_lt a b ≡ true → a < b
      lt_by a b is = grind (arith, nat_tests)
  by false is =
      subst (λ (ps : List Path). mtu_towards ps address later whole ≤ mtu_towards paths address later whole)
      (sym (nothing_else paths address told now whole is)) (omega arith)

-- OTHERS

pub same_address : (a b : IpAddress) → is_same_address a b ≡ true → a ≡ b
same_address (Address.Ipv4 a) (Address.Ipv4 b) is = ap (λ (bs : List ℕ). Address.Ipv4 (record { 0 = bs })) ((bytes_eq-Decides a.0 b.0).0 is)
same_address (Address.Ipv6 a) (Address.Ipv6 b) is = ap (λ (bs : List ℕ). Address.Ipv6 (record { 0 = bs })) ((bytes_eq-Decides a.0 b.0).0 is)
same_address (Address.Ipv4 a) (Address.Ipv6 b) is = absurd (let no = is in cc)
same_address (Address.Ipv6 a) (Address.Ipv4 b) is = absurd (let no = is in cc)

other_there : (d address other : IpAddress) → is_same_address address other ≡ false → is_same_address d address ≡ true → is_same_address d other ≡ false
other_there d address other apart is = subst (λ (x : IpAddress). is_same_address x other ≡ false) (sym (same_address d address is)) apart

other_by : (paths : List Path) (new : Path) (other : IpAddress) (o : Option ℕ) → path_index_of paths new.destination ≡ o
    → is_same_address new.destination other ≡ false → nat_lt (length paths) path_room ≡ true ⊎ is_some o ≡ true
    → find (leads_to other) (entered_at o paths new) ≡ find (leads_to other) paths
other_by paths new other (Some at) is apart room =
    find_set_other (leads_to other) paths at new new apart
    (other_there (get_or paths at new).destination new.destination other apart (position-Some (leads_to new.destination) paths at new is).1)
other_by paths new other None is apart (inl room) =
    ap (λ (b : Bool). find (leads_to other) (cond b (paths ++ new ∷ []) (remove paths (victim paths) ++ new ∷ []))) room
    ∙ find_more (leads_to other) paths new apart
other_by paths new other None is apart (inr none) = absurd (let no = none in cc)

others_by : (paths : List Path) (address other : IpAddress) (told : ℕ) (now later : ℤ) (whole : ℕ) → is_same_address address other ≡ false
    → nat_lt (length paths) path_room ≡ true ⊎ is_some (path_index_of paths address) ≡ true
    → mtu_towards (lowered paths address told now whole) other later whole ≡ mtu_towards paths other later whole
unfolding mtu_towards lowered
others_by paths address other told now later whole apart room =
    elim (is_news paths address told now whole) as (λ b. mtu_towards (cond b (entered paths (heard_of address told now)) paths) other later whole ≡
    mtu_towards paths other later whole) [
      | true ↦ ap (λ (o : Option Path). mtu_by o other later whole)
          (at_first (leads_to other) (entered paths (heard_of address told now))
          ∙ other_by paths (heard_of address told now) other (path_index_of paths address) refl apart room
          ∙ sym (at_first (leads_to other) paths))
      | false ↦ refl
    ]

pub others : (paths : List Path) (address other : IpAddress) (told : ℕ) (now later : ℤ) (whole : ℕ) → is_same_address address other ≡ false
    → nat_lt (length paths) path_room ≡ true
    → mtu_towards (lowered paths address told now whole) other later whole ≡ mtu_towards paths other later whole
others paths address other told now later whole apart room = others_by paths address other told now later whole apart (inl room)

pub known : (paths : List Path) (address other : IpAddress) (told : ℕ) (now later : ℤ) (whole : ℕ) → is_same_address address other ≡ false
    → is_some (path_index_of paths address) ≡ true
    → mtu_towards (lowered paths address told now whole) other later whole ≡ mtu_towards paths other later whole
known paths address other told now later whole apart index = others_by paths address other told now later whole apart (inr index)

-- FEW

in_order : IsStrictWeakOrder ends_before
in_order = record {
  one_way = λ x y e. grind (arith, ints);
  chain = λ x y z e f. grind (arith, ints);
}

victim_inside : (paths : List Path) → 0 < length paths → victim paths < length paths
victim_inside [] some = absurd (omega (arith, some))
victim_inside (p ∷ paths) some =
    let best = IsFirstBest-from_best_of in_order p paths in
    let index = index_of_first_best-is ends_before (p ∷ paths) best.0 best.1 in
    omega (arith, index, best.1.0)

entered_few : (paths : List Path) (new : Path) → length paths ≤ 8 → length (entered paths new) ≤ 8
entered_few paths new few = by (path_index_of paths new.destination) where
  by : (o : Option ℕ) → length (entered_at o paths new) ≤ 8
  by (Some at) = omega (arith, length-set paths at new, few)
  by None = room (nat_lt (length paths) 8) refl where
    room : (b : Bool) → nat_lt (length paths) 8 ≡ b → length (cond b (paths ++ new ∷ []) (remove paths (victim paths) ++ new ∷ [])) ≤ 8
    room true is =
        let less : length paths < 8 = grind (arith, nat_tests) in
        omega (arith, length-append paths (new ∷ []), less)
    room false is =
        let taken = length-take (victim paths) paths in
        let dropped = length-drop (suc (victim paths)) paths in
        let joined = length-append (take (victim paths) paths) (drop (suc (victim paths)) paths) in
        let all = length-append (remove paths (victim paths)) (new ∷ []) in
        let full : 8 ≤ length paths = grind (arith, nat_tests) in
        let inside = victim_inside paths (omega (arith, full)) in
        omega (arith, taken, dropped, joined, all, few, full, inside)

pub lowered_few : (paths : List Path) (address : IpAddress) (told : ℕ) (now : ℤ) (whole : ℕ) → length paths ≤ path_room →
    length (lowered paths address told now whole) ≤ path_room
unfolding lowered
lowered_few paths address told now whole few =
    elim (is_news paths address told now whole) as (λ b. length (cond b (entered paths (heard_of address told now)) paths) ≤ path_room) [
      | true ↦ entered_few paths (heard_of address told now) few
      | false ↦ few
    ]
