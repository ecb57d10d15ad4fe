-- The addresses of a name, in their positions.
use Rattle.std.proofs.Common.{◌≡◌, ℕ, zero, suc, ◌+◌, ◌<◌, ◌≤◌, Bool, true, false, ◌&&◌, nat_lt, if◌then◌else◌, is_some, Option, Some, None, Result, Ok, List}
use Rattle.std.proofs.Common.{[], ◌∷◌, ◌++◌, length, refl, sym, ◌∙◌, ap, subst, arith, append_assoc, length-append}
use Rattle.std.proofs.Math.ListN.{set}
use Rattle.std.proofs.lemmas.Bool.{ltb-true}
use Rattle.ip_wire.specs.IpAddress.{IpAddress}
use Rattle.wire_dns.specs.Message.{IsRecord}
use Rattle.wire_dns.specs.declared.codes.DnsQueryType.{DnsQueryType}
use Rattle.wire_dns.specs.declared.name.DnsName.{DnsName}
use Rattle.wire_dns.specs.declared.record_at.DnsRecord.{DnsRecord}
use Rattle.socket_datagram.specs.DnsClient.Records.{AreRecords, address_by, addresses_of, put_address, padded, with_address}
use Rattle.socket_datagram.proofs.DnsClient.Stood.{First, first_left, read_first}

padded-set : (n : ℕ) (xs : List IpAddress) (a : IpAddress) → length xs < n → set (padded n xs) (length xs) (Some a) ≡ padded n (xs ++ (a ∷ []))
padded-set zero xs a short = absurd (omega arith)
padded-set (suc n) [] a short = refl
padded-set (suc n) (x ∷ xs) a short = ap (λ l. Some x ∷ l) (padded-set n xs a (omega arith))

padded-full : (n : ℕ) (xs ys : List IpAddress) → n ≤ length xs → padded n (xs ++ ys) ≡ padded n xs
padded-full zero xs ys full = refl
padded-full (suc n) [] ys full = absurd (omega arith)
padded-full (suc n) (x ∷ xs) ys full = ap (λ l. Some x ∷ l) (padded-full n xs ys (omega arith))

no-more : (xs : List IpAddress) → xs ++ [] ≡ xs
no-more [] = refl
no-more (x ∷ xs) = ap (λ l. x ∷ l) (no-more xs)

-- these are found, and so many records are left
pub record FoundSo (message : List ℕ) (slot left end : ℕ) (kind : DnsQueryType) (name : DnsName) (found : List (Option IpAddress)) (count : ℕ)
    (answer : List (Option IpAddress)) : Type 0 where
  pub addresses : List IpAddress
  pub are : found ≡ padded 4 addresses
  pub counted : count ≡ length addresses
  pub todo : List DnsRecord
  pub stand : AreRecords message slot todo end
  pub len : length todo ≡ left
  pub same : padded 4 (addresses ++ addresses_of kind name todo) ≡ answer

pub FoundSo-first : (message : List ℕ) (slot left end : ℕ) (kind : DnsQueryType) (name : DnsName) (found : List (Option IpAddress)) (count : ℕ)
    (answer : List (Option IpAddress))
    (l : FoundSo message slot left end kind name found count answer) → 0 < left → First message slot l.todo end
FoundSo-first message slot left end kind name found count answer l some = first_left message slot l.todo end l.stand (omega (arith, l.len, some))

pub FoundSo-end : (message : List ℕ) (slot left end : ℕ) (kind : DnsQueryType) (name : DnsName) (found : List (Option IpAddress)) (count : ℕ)
    (answer : List (Option IpAddress))
    → FoundSo message slot left end kind name found count answer → left ≡ 0 → found ≡ answer
FoundSo-end message slot left end kind name found count answer l none = by l.todo (l.len ∙ none) l.same where
  by : (todo : List DnsRecord) → length todo ≡ 0 → padded 4 (l.addresses ++ addresses_of kind name todo) ≡ answer → found ≡ answer
  by [] none same = l.are ∙ sym (ap (padded 4) (no-more l.addresses)) ∙ same
  by (r ∷ rs) none same = absurd (omega (arith, none))

-- what is left after the first record
rest-same : (message : List ℕ) (slot left end : ℕ) (kind : DnsQueryType) (name : DnsName) (found : List (Option IpAddress)) (count : ℕ)
    (answer : List (Option IpAddress))
    (l : FoundSo message slot left end kind name found count answer) (f : First message slot l.todo end) (address : Option IpAddress) →
    address ≡ address_by kind name f.first
    → padded 4 (l.addresses ++ put_address address (addresses_of kind name f.rest)) ≡ answer
rest-same message slot left end kind name found count answer l f address is =
    ap (λ (o : Option IpAddress). padded 4 (l.addresses ++ put_address o (addresses_of kind name f.rest))) is
    ∙ sym (ap (λ (todo : List DnsRecord). padded 4 (l.addresses ++ addresses_of kind name todo)) f.same) ∙ l.same

-- the record that was read has no address
pub FoundSo-none : {E : Type 0} (message : List ℕ) (slot left left' end : ℕ) (kind : DnsQueryType) (name : DnsName) (found : List (Option IpAddress))
    (count : ℕ) (answer : List (Option IpAddress))
    (read : Result (DnsRecord × ℕ) E) (r : DnsRecord) (next : ℕ) (address : Option IpAddress)
    → FoundSo message slot left end kind name found count answer → left' + 1 ≡ left → read ≡ Ok (r, next) →
    ((s : DnsRecord) (n : ℕ) → IsRecord message slot s n → read ≡ Ok (s, n))
    → address ≡ address_by kind name r → address ≡ None → FoundSo message next left' end kind name found count answer
FoundSo-none message slot left left' end kind name found count answer read r next address l fewer is only by none =
    let f = FoundSo-first message slot left end kind name found count answer l (omega (arith, fewer)) in
    let same = read_first message slot l.todo end read r next f is only in
    let here : None ≡ address_by kind name f.first = sym none ∙ by ∙ ap (address_by kind name) same.0 in
    record {
      addresses = l.addresses;
      are = l.are;
      counted = l.counted;
      todo = f.rest;
      stand = subst (λ (n : ℕ). AreRecords message n f.rest end) (sym same.1) f.stand;
      len = omega (arith, l.len, fewer, ap length f.same);
      same = rest-same message slot left end kind name found count answer l f None here;
    }

-- it has one, and there is room for it
pub FoundSo-more : {E : Type 0} (message : List ℕ) (slot left left' end : ℕ) (kind : DnsQueryType) (name : DnsName) (found found' : List (Option IpAddress))
    (count count' : ℕ) (answer : List (Option IpAddress))
    (read : Result (DnsRecord × ℕ) E) (r : DnsRecord) (next : ℕ) (address : Option IpAddress)
    → FoundSo message slot left end kind name found count answer → left' + 1 ≡ left → read ≡ Ok (r, next) →
    ((s : DnsRecord) (n : ℕ) → IsRecord message slot s n → read ≡ Ok (s, n))
    → address ≡ address_by kind name r → is_some address ≡ true → count < 4 → count' ≡ count + 1 → found' ≡ set found count address →
    FoundSo message next left' end kind name found' count' answer
FoundSo-more message slot left left' end kind name found found' count count' answer read r next None l fewer is only by some room more written = absurd (cc)
FoundSo-more message slot left left' end kind name found found' count count' answer read r next (Some a) l fewer is only by some room more written =
    let f = FoundSo-first message slot left end kind name found count answer l (omega (arith, fewer)) in
    let same = read_first message slot l.todo end read r next f is only in
    let here : Some a ≡ address_by kind name f.first = by ∙ ap (address_by kind name) same.0 in
    record {
      addresses = l.addresses ++ (a ∷ []);
      are =
          written ∙ ap (λ (xs : List (Option IpAddress)). set xs count (Some a)) l.are ∙ ap (λ n. set (padded 4 l.addresses) n (Some a)) l.counted
          ∙ padded-set 4 l.addresses a (omega (arith, l.counted, room));
      counted = omega (arith, more, l.counted, length-append l.addresses (a ∷ []));
      todo = f.rest;
      stand = subst (λ (n : ℕ). AreRecords message n f.rest end) (sym same.1) f.stand;
      len = omega (arith, l.len, fewer, ap length f.same);
      same = ap (padded 4) (append_assoc l.addresses (a ∷ []) (addresses_of kind name f.rest)) ∙
          rest-same message slot left end kind name found count answer l f (Some a) here;
    }

-- there is no room
pub FoundSo-full : {E : Type 0} (message : List ℕ) (slot left left' end : ℕ) (kind : DnsQueryType) (name : DnsName) (found : List (Option IpAddress))
    (count : ℕ) (answer : List (Option IpAddress))
    (read : Result (DnsRecord × ℕ) E) (r : DnsRecord) (next : ℕ)
    → FoundSo message slot left end kind name found count answer → left' + 1 ≡ left → read ≡ Ok (r, next) →
    ((s : DnsRecord) (n : ℕ) → IsRecord message slot s n → read ≡ Ok (s, n))
    → 4 ≤ count → FoundSo message next left' end kind name found count answer
FoundSo-full message slot left left' end kind name found count answer read r next l fewer is only full =
    let f = FoundSo-first message slot left end kind name found count answer l (omega (arith, fewer)) in
    let same = read_first message slot l.todo end read r next f is only in
    let four : 4 ≤ length l.addresses = omega (arith, l.counted, full) in
    record {
      addresses = l.addresses;
      are = l.are;
      counted = l.counted;
      todo = f.rest;
      stand = subst (λ (n : ℕ). AreRecords message n f.rest end) (sym same.1) f.stand;
      len = omega (arith, l.len, fewer, ap length f.same);
      same =
          padded-full 4 l.addresses (addresses_of kind name f.rest) four
          ∙ sym (padded-full 4 l.addresses (put_address (address_by kind name f.first) (addresses_of kind name f.rest)) four)
          ∙ rest-same message slot left end kind name found count answer l f (address_by kind name f.first) refl;
    }

-- where a reader finds none there are none left
pub FoundSo-cut : {E : Type 0} (message : List ℕ) (slot left end : ℕ) (kind : DnsQueryType) (name : DnsName) (found : List (Option IpAddress)) (count : ℕ)
    (answer : List (Option IpAddress)) (read : Result (DnsRecord × ℕ) E)
    → FoundSo message slot left end kind name found count answer → 0 < left → ((p : DnsRecord × ℕ) → read ≡ Ok p → ⊥) →
    ((s : DnsRecord) (n : ℕ) → IsRecord message slot s n → read ≡ Ok (s, n)) → ⊥
FoundSo-cut message slot left end kind name found count answer read l more other only =
    let f = FoundSo-first message slot left end kind name found count answer l more in
    other (f.first, f.next) (only f.first f.next f.is)

-- an address after the others, where there is room
abbrev put_if : Bool → List (Option IpAddress) → ℕ → Option IpAddress → (List (Option IpAddress)) × ℕ
put_if room found count address = if is_some address && room then (set found count address, count + 1) else (found, count)

-- a record was read, and its address put after the others
pub FoundSo-step : {E : Type 0} (message : List ℕ) (slot left left' end : ℕ) (kind : DnsQueryType) (name : DnsName) (found : List (Option IpAddress))
    (count : ℕ) (answer : List (Option IpAddress))
    (read : Result (DnsRecord × ℕ) E) (r : DnsRecord) (next : ℕ) (address : Option IpAddress) (put : (List (Option IpAddress)) × ℕ)
    → FoundSo message slot left end kind name found count answer → left' + 1 ≡ left → read ≡ Ok (r, next) →
    ((s : DnsRecord) (n : ℕ) → IsRecord message slot s n → read ≡ Ok (s, n))
    → address ≡ address_by kind name r → put ≡ with_address found count address → FoundSo message next left' end kind name put.0 put.1 answer
FoundSo-step message slot left left' end kind name found count answer read r next address put l fewer is only by same =
    subst (λ (p : (List (Option IpAddress)) × ℕ). FoundSo message next left' end kind name p.0 p.1 answer) (sym same)
    (cases address (nat_lt count 4) by refl) where
      cases : (o : Option IpAddress) (room : Bool) → o ≡ address_by kind name r → nat_lt count 4 ≡ room
          → FoundSo message next left' end kind name (put_if room found count o).0 (put_if room found count o).1 answer
      cases None room by here = FoundSo-none message slot left left' end kind name found count answer read r next None l fewer is only by refl
      cases (Some a) true by here =
          FoundSo-more message slot left left' end kind name found (set found count (Some a)) count (count + 1) answer read r next (Some a) l fewer is only by
          refl (ltb-true count 4 here) refl refl
      cases (Some a) false by here = FoundSo-full message slot left left' end kind name found count answer read r next l fewer is only (grind (arith, here))
