-- An entry that is found among those of its key.
use Rattle.std.proofs.Common.{◌≡◌, ◌≢◌, ℕ, suc, ◌+◌, ◌-◌, ◌<◌, ◌≤◌, Bool, true, false, cond, nat_lt, List, [], ◌∷◌, length, get_or, Option, None, Some, refl, sym, subst, ap, ◌∙◌, arith}
use Rattle.std.specs.Prelude.{zero, if◌then◌else◌, ◌++◌, position, remove, slice_get, slice_set}
use Rattle.std.proofs.lemmas.Bool.Decides.{nat_tests}
use Rattle.std.proofs.lemmas.List.{length-append, length-set}
use Rattle.std.proofs.lemmas.List.Sums.{position_or_len_is}
use Rattle.std.proofs.lemmas.List.Quantifiers.{position-Some}
use Rattle.std.proofs.lemmas.Option.{slice_get-get_or, slice_get_read, slice_get_within, get_or_from_slice_get}
use Rattle.base_index.specs.Keys.{IsNextWith}
use Rattle.base_index.specs.Put.{put}
use Rattle.base_index.proofs.Puts.{put_within, put_following, put_here, put_elsewhere}
use Rattle.ip_wire.specs.AddressTests.{is_same_address}
use Rattle.ip_wire.specs.IpAddress.{IpAddress}
use Rattle.iface_tables.specs.Indexed.{AreIndexed, AreIndexedBefore, key_of}
use Rattle.iface_tables.specs.Neighbor.{is_of, neighbor_index_of}
use Rattle.iface_tables.specs.declared.neighbor.Neighbor.{Neighbor}
use Rattle.iface_tables.proofs.PathMtu.{same_address}

-- FIRST PLACES

less : (a b : ℕ) → a < b → nat_lt a b ≡ true
less a b is = grind (arith, nat_tests)

not_less : (n : ℕ) → nat_lt n n ≡ false
not_less n = grind (arith, nat_tests)

below : (a b : ℕ) → nat_lt a b ≡ true → a < b
below a b is = grind (arith, nat_tests)

above : (a b : ℕ) → nat_lt a b ≡ false → b ≤ a
above a b is = grind (arith, nat_tests)

module _ {X : Type 0} (p : X → Bool) where
  position_at : (xs : List X) (i : ℕ) (x : X) → slice_get xs i ≡ Some x → p x ≡ true → ((k : ℕ) (y : X) → k < i → slice_get xs k ≡ Some y → p y ≡ false)
      → position p xs ≡ Some i
  position_at xs i x got is none =
      let within : i < length xs = slice_get_within xs i x got in
      let index = position_or_len_is p xs i x (omega (arith, within))
      (λ k before. none k (get_or xs k x) before (slice_get-get_or xs k x (omega (arith, within, before))))
      (λ _. ap p (get_or_from_slice_get xs i x x got) ∙ is) in
      ap (λ (k : ℕ). cond (nat_lt k (length xs)) (Some k) None) index ∙ ap (λ (b : Bool). cond b (Some i) None) (less i (length xs) within)

  position_none : (xs : List X) → ((k : ℕ) (y : X) → slice_get xs k ≡ Some y → p y ≡ false) → position p xs ≡ None
  position_none [] none = refl
  position_none (x ∷ xs) none =
      let all : List X = x ∷ xs in
      let index = position_or_len_is p all (length all) x (omega arith)
      (λ k before. none k (get_or all k x) (slice_get-get_or all k x before))
      (λ h. absurd (omega (arith, h))) in
      ap (λ (k : ℕ). cond (nat_lt k (length all)) (Some k) None) index ∙ ap (λ (b : Bool). cond b (Some (length all)) None) (not_less (length all))

-- A WALK

-- no entry before this place is the address's
abbrev pub NoneBefore : ℕ → List Neighbor → IpAddress → Type 0
NoneBefore end entries address = (i : ℕ) (entry : Neighbor) → i < end → slice_get entries i ≡ Some entry → is_of address entry ≡ false

-- what a walk over the places of a key has come to: the next of them, and no entry before it is the address's
pub record IsSought (entries : List Neighbor) (keys : List ℕ) (address : IpAddress) (link : Option ℕ) : Type 0 where
  pub from : ℕ
  pub next : IsNextWith (key_of address) from keys link
  pub none : NoneBefore from entries address

-- how many places are left
abbrev pub left_to_go : ℕ → Option ℕ → ℕ
left_to_go size None = 0
left_to_go size (Some at) = size - at

pub sought_first : (entries : List Neighbor) (keys : List ℕ) (address : IpAddress) (link : Option ℕ) → IsNextWith (key_of address) 0 keys link
    → IsSought entries keys address link
sought_first entries keys address link next = record { from = 0; next = next; none = λ i entry before got. absurd (omega (arith, before)) }

module _ (entries : List Neighbor) (keys : List ℕ) (address : IpAddress) (indexed : AreIndexed entries keys) where
  has_key : (i : ℕ) (entry : Neighbor) → slice_get entries i ≡ Some entry → is_of address entry ≡ true → slice_get keys i ≡ Some (key_of address)
  has_key i entry got is =
      indexed i entry (slice_get_within entries i entry got) got ∙ ap (λ (a : IpAddress). Some (key_of a)) (same_address entry.protocol_addr address is)

  skipped : (from end : ℕ) → NoneBefore from entries address → ((i : ℕ) → from ≤ i → i < end → slice_get keys i ≡ Some (key_of address) → ⊥)
      → NoneBefore end entries address
  skipped from end none gap i entry before got = by (nat_lt i from) (is_of address entry) refl refl where
    by : (early ours : Bool) → nat_lt i from ≡ early → is_of address entry ≡ ours → is_of address entry ≡ false
    by true ours is e = none i entry (below i from is) got
    by false false is e = e
    by false true is e = absurd (gap i (above i from is) before (has_key i entry got e))

  before_it : (at : ℕ) → IsSought entries keys address (Some at) → NoneBefore at entries address
  before_it at s = skipped s.from at s.none s.next.2

  pub found : (at : ℕ) (entry : Neighbor) → IsSought entries keys address (Some at) → slice_get entries at ≡ Some entry → is_of address entry ≡ true
      → Some at ≡ neighbor_index_of entries address
  found at entry s got is = sym (position_at (is_of address) entries at entry got is (before_it at s))

  pub past_all : (at : ℕ) → IsSought entries keys address (Some at) → length entries ≤ at → None ≡ neighbor_index_of entries address
  past_all at s past = sym (position_none (is_of address) entries
      (λ k y there. before_it at s k y (omega (arith, slice_get_within entries k y there, past)) there))

  pub none_left : IsSought entries keys address None → None ≡ neighbor_index_of entries address
  none_left s = sym (position_none (is_of address) entries
      (λ k y there. skipped s.from (length entries) s.none (λ i low high. s.next i low) k y (slice_get_within entries k y there) there))

  pub proceeds : (at : ℕ) (entry : Neighbor) (link : Option ℕ) → IsSought entries keys address (Some at) → slice_get entries at ≡ Some entry
      → is_of address entry ≡ false → ((key : ℕ) → slice_get keys at ≡ Some key → IsNextWith key (at + 1) keys link) → IsSought entries keys address link
  proceeds at entry link s got other next = record { from = at + 1; next = next (key_of address) s.next.1; none = none } where
    none : NoneBefore (at + 1) entries address
    none i e before there = by (nat_lt i at) refl where
      by : (early : Bool) → nat_lt i at ≡ early → is_of address e ≡ false
      by true is = before_it at s i e (below i at is) there
      by false is =
          let here : i ≡ at = omega (arith, above i at is, before) in
          let same : e ≡ entry = cc in
          ap (is_of address) same ∙ other

  pub in_range : (at : ℕ) → IsSought entries keys address (Some at) → at < length keys
  in_range at s = slice_get_within keys at (key_of address) s.next.1

  pub nearer : (at : ℕ) (link : Option ℕ) → IsSought entries keys address (Some at) → IsNextWith (key_of address) (at + 1) keys link
      → left_to_go (length keys) link < left_to_go (length keys) (Some at)
  nearer at None s next = omega (arith, in_range at s)
  nearer at (Some to) s next = omega (arith, in_range at s, next.0, slice_get_within keys to (key_of address) next.1)

  at_link : (at : ℕ) (link : Option ℕ) → link ≡ Some at → IsSought entries keys address link → IsSought entries keys address (Some at)
  at_link at link is s = subst (λ (o : Option ℕ). IsSought entries keys address o) is s

  module _ (at : ℕ) (link : Option ℕ) (entry : Neighbor) (same : Bool) (is : link ≡ Some at) (s : IsSought entries keys address link)
      (within : at < length entries) (read : entry ≡ get_or entries at entry) (test : same ≡ is_same_address (get_or entries at entry).protocol_addr address) where
    got : slice_get entries at ≡ Some entry
    got = slice_get_read entries (length entries) at entry refl within read

    tested : is_of address entry ≡ same
    tested = ap (λ (e : Neighbor). is_same_address e.protocol_addr address) read ∙ sym test

    pub found_here : same ≡ true → Some at ≡ neighbor_index_of entries address
    found_here holds = found at entry (at_link at link is s) got (tested ∙ holds)

    module _ (next : Option ℕ) (leads : (key : ℕ) → slice_get keys at ≡ Some key → IsNextWith key (at + 1) keys next) where
      pub sought_on : same ≡ false → IsSought entries keys address next
      sought_on other = proceeds at entry next (at_link at link is s) got (tested ∙ other) leads

      pub less_to_go : left_to_go (length keys) next < left_to_go (length keys) link
      less_to_go =
          let here : IsSought entries keys address (Some at) = at_link at link is s in
          subst (λ (o : Option ℕ). left_to_go (length keys) next < left_to_go (length keys) o) (sym is) (nearer at next here (leads (key_of address) here.next.1))

  pub in_range_here : (at : ℕ) (link : Option ℕ) → link ≡ Some at → IsSought entries keys address link → at < length keys
  in_range_here at link is s = in_range at (at_link at link is s)

  pub past_here : (at : ℕ) (link : Option ℕ) → link ≡ Some at → IsSought entries keys address link → length entries ≤ at → None ≡ neighbor_index_of entries address
  past_here at link is s past = past_all at (at_link at link is s) past

  pub ended_here : (link : Option ℕ) → link ≡ None → IsSought entries keys address link → None ≡ neighbor_index_of entries address
  ended_here link is s = none_left (subst (λ (o : Option ℕ). IsSought entries keys address o) is s)

-- KEYS THAT ARE GIVEN

pub one_more : (b : Bool) (ys new : List ℕ) (at x : ℕ) → new ≡ (if b then put at x ys else ys) → b ≡ true → length ys ≡ at → length new ≡ at + 1
one_more b ys new at x is holds long =
    let placed : new ≡ put at x ys = is ∙ ap (λ (c : Bool). if c then put at x ys else ys) holds in
    let following : put at x ys ≡ ys ++ x ∷ [] = ap (λ (n : ℕ). put n x ys) (sym long) ∙ sym (put_following ys x) in
    ap length (placed ∙ following) ∙ length-append ys (x ∷ []) ∙ ap (λ (n : ℕ). n + 1) long

module _ (entries : List Neighbor) (keys new : List ℕ) (at key : ℕ) (entry : Neighbor) (b : Bool) (before : AreIndexedBefore at entries keys)
    (room : length entries ≤ length keys) (within : at < length entries) (read : entry ≡ get_or entries at entry)
    (key_is : key ≡ key_of (get_or entries at entry).protocol_addr) (value : new ≡ (if b then put at key keys else keys)) (done : at < length keys → b ≡ true) where
  placed : new ≡ put at key keys
  placed = value ∙ ap (λ (c : Bool). if c then put at key keys else keys) (done (omega (arith, room, within)))

  pub as_long : length new ≡ length keys
  as_long = ap length (placed ∙ sym (put_within keys at key (omega (arith, room, within)))) ∙ length-set keys at key

  pub one_more_key : AreIndexedBefore (at + 1) entries new
  one_more_key i e less_than there = by (nat_lt i at) refl where
    by : (early : Bool) → nat_lt i at ≡ early → slice_get new i ≡ Some (key_of e.protocol_addr)
    by true is =
        let early : i < at = below i at is in
        let other : i ≢ at = λ same. absurd (omega (arith, early, same)) in
        ap (λ (ks : List ℕ). slice_get ks i) placed ∙ put_elsewhere keys at i key other ∙ before i e early there
    by false is =
        let here : i ≡ at = omega (arith, above i at is, less_than) in
        let got : slice_get entries at ≡ Some entry = slice_get_read entries (length entries) at entry refl within read in
        let same : e ≡ entry = cc in
        let key_here : key ≡ key_of e.protocol_addr = key_is ∙ ap (λ (n : Neighbor). key_of n.protocol_addr) (sym read ∙ sym same) in
        ap (λ (ks : List ℕ). slice_get ks i) placed ∙ ap (slice_get (put at key keys)) here
        ∙ put_here keys at key (omega (arith, room, within)) ∙ ap Some key_here

-- ENTRIES THAT CHANGE

-- after the others
kept_front : (xs : List Neighbor) (n : Neighbor) (i : ℕ) (e : Neighbor) → i < length xs → slice_get (xs ++ n ∷ []) i ≡ Some e → slice_get xs i ≡ Some e
kept_front [] n i e within got = absurd (omega (arith, within))
kept_front (x ∷ xs) n zero e within got = got
kept_front (x ∷ xs) n (suc i) e within got = kept_front xs n i e (omega (arith, within)) got

pub before_last : (xs : List Neighbor) (keys : List ℕ) (n : Neighbor) → AreIndexed xs keys → AreIndexedBefore (length xs) (xs ++ n ∷ []) keys
before_last xs keys n indexed i e before got = indexed i e before (kept_front xs n i e before got)

-- after those that are left, where one made room
kept_before : (xs : List Neighbor) (v : ℕ) (n : Neighbor) (i : ℕ) (e : Neighbor) → i < v → v < length xs → slice_get (remove xs v ++ n ∷ []) i ≡ Some e
    → slice_get xs i ≡ Some e
kept_before [] v n i e before within got = absurd (omega (arith, within))
kept_before (x ∷ xs) zero n i e before within got = absurd (omega (arith, before))
kept_before (x ∷ xs) (suc v) n zero e before within got = got
kept_before (x ∷ xs) (suc v) n (suc i) e before within got = kept_before xs v n i e (omega (arith, before)) (omega (arith, within)) got

pub before_removed : (xs : List Neighbor) (keys : List ℕ) (v : ℕ) (n : Neighbor) → v < length xs → AreIndexed xs keys
    → AreIndexedBefore v (remove xs v ++ n ∷ []) keys
before_removed xs keys v n within indexed i e before got = indexed i e (omega (arith, before, within)) (kept_before xs v n i e before within got)

-- in the place of one of the same address
pub replaced : (xs : List Neighbor) (keys : List ℕ) (at : ℕ) (n : Neighbor) → AreIndexed xs keys → neighbor_index_of xs n.protocol_addr ≡ Some at
    → AreIndexed (slice_set xs at n) keys
replaced xs keys at n indexed index i e before got = by (nat_lt i at) (nat_lt at i) refl refl where
  within : at < length xs
  within = (position-Some (is_of n.protocol_addr) xs at n index).0

  ours : is_of n.protocol_addr (get_or xs at n) ≡ true
  ours = (position-Some (is_of n.protocol_addr) xs at n index).1

  there : slice_get (put at n xs) i ≡ Some e
  there = ap (λ (ys : List Neighbor). slice_get ys i) (sym (put_within xs at n within)) ∙ got

  elsewhere : i ≢ at → slice_get keys i ≡ Some (key_of e.protocol_addr)
  elsewhere other =
      let old : slice_get xs i ≡ Some e = sym (put_elsewhere xs at i n other) ∙ there in
      indexed i e (slice_get_within xs i e old) old

  by : (early late : Bool) → nat_lt i at ≡ early → nat_lt at i ≡ late → slice_get keys i ≡ Some (key_of e.protocol_addr)
  by true late is later = elsewhere (λ same. absurd (omega (arith, below i at is, same)))
  by false true is later = elsewhere (λ same. absurd (omega (arith, below at i later, same)))
  by false false is later =
      let here : i ≡ at = omega (arith, above i at is, above at i later) in
      let new : slice_get (put at n xs) at ≡ Some n = put_here xs at n (omega (arith, within)) in
      let found : slice_get (put at n xs) i ≡ Some e = there in
      let same : e ≡ n = cc in
      let old : Neighbor = get_or xs at n in
      let key : slice_get keys at ≡ Some (key_of old.protocol_addr) = indexed at old within (slice_get-get_or xs at n within) in
      ap (slice_get keys) here ∙ key
      ∙ ap (λ (a : IpAddress). Some (key_of a)) (same_address old.protocol_addr n.protocol_addr ours ∙ ap (λ (m : Neighbor). m.protocol_addr) (sym same))
