-- What stands after the fragment header of a fragment, and after that of a datagram that is whole (RFC 8200, section 4.5).
use Rattle.std.proofs.Common.{◌≡◌, ℕ, suc, ◌+◌, ◌-◌, ◌/◌, ◌%◌, ◌^◌, ◌<◌, ◌≤◌, ◌==◌, ◌&&◌, not, Bool, true, false, cond, List, ◌∷◌, [], ◌++◌, length, drop}
use Rattle.std.proofs.Common.{slice_index, refl, sym, ◌∙◌, ap, subst, arith}
use Rattle.std.specs.Prelude.{nat_le, nat_lt}
use Rattle.std.proofs.lemmas.Bool.Decides.{nat_tests}
use Rattle.std.proofs.lemmas.List.{drop-drop}
use Rattle.tcp_theory.specs.ReceiveMap.{Begins}
use Rattle.tcp_theory.proofs.Lists.{Begins-whole}
use Rattle.wire_address.specs.Protocol.{protocol_number, protocol_of}
use Rattle.wire_ipv6_headers.proofs.Steps.{walk_step}
use Rattle.iface_tables.specs.FragmentList as FragmentList
use Rattle.iface_egress.specs.Departure.{fragment_header}
use Rattle.iface_ingress.specs.Following.{Following}
use Rattle.iface_ingress.specs.Following.TheVariants as End
use Rattle.iface_ingress.specs.Fields.{be16, be32}
use Rattle.iface_ingress.specs.Headers as Headers
use Rattle.iface_ingress.specs.Headers.{go_through, walked, step_at, upper_of, upper_bytes_of, is_extension, is_atomic, fragment_offset, has_more}
use Rattle.iface_ingress.specs.IpProtocol.{IpProtocol}
use Rattle.iface_ingress.specs.IpProtocol.TheVariants as Protocol
use Rattle.iface_ingress.specs.Reassembled.{whole_header}
use Rattle.lan.specs.Worlds.Link.Frames.{following_fragment}

abbrev pub fragment_with : (offset : ℕ) → Bool → List ℕ → FragmentList.FragmentPart
fragment_with offset more x = record { offset = offset; more = more; bytes = x }

-- a packet's payload from its fragment header on
abbrev pub rest_of : IpProtocol → (number : ℕ) → FragmentList.FragmentPart → List ℕ
rest_of carried number p = fragment_header carried number p ++ p.bytes

-- TESTS

is_zero : (n : ℕ) → n ≡ 0 → n == 0 ≡ true
is_zero n is = grind (arith, nat_tests, is)

zero_is : (n : ℕ) → n == 0 ≡ true → n ≡ 0
zero_is n is = grind (arith, nat_tests, is)

no_zero : (n k : ℕ) → n ≡ suc k → n == 0 ≡ false
no_zero n k is = grind (arith, nat_tests, is)

is_one : (n : ℕ) → n ≡ 1 → n == 1 ≡ true
is_one n is = grind (arith, nat_tests, is)

no_one : (n : ℕ) → n ≡ 0 → n == 1 ≡ false
no_one n is = grind (arith, nat_tests, is)

not_less : (n m : ℕ) → m ≤ n → nat_lt n m ≡ false
not_less n m is = grind (arith, nat_tests, is)

at_most : (n m : ℕ) → n ≤ m → nat_le n m ≡ true
at_most n m is = grind (arith, nat_tests, is)

second_false : (a b : Bool) → b ≡ false → a && b ≡ false
second_false true b none = none
second_false false b none = refl

first_false : (a b : Bool) → a ≡ false → a && b ≡ false
first_false true b none = absurd cc
first_false false b none = refl

and_not : (a b : Bool) → b ≡ true → a && not b ≡ false
and_not true true is = refl
and_not false true is = refl
and_not a false is = absurd cc

both_true : (a b : Bool) → a && b ≡ true → (a ≡ true) × (b ≡ true)
both_true true true is = (refl, refl)
both_true true false is = absurd cc
both_true false b is = absurd cc

-- THE HEADER'S FIELDS

module _ (carried : IpProtocol) (number offset : ℕ) (x : List ℕ) (small : offset < 2 ^ 16) (unit : offset % 8 ≡ 0) where
  abbrev rest : Bool → List ℕ
  rest more = rest_of carried number (fragment_with offset more x)

  slot_more : be16 (rest true) 2 ≡ offset + 1
  slot_more = omega (arith, small, unit)

  slot_last : be16 (rest false) 2 ≡ offset
  slot_last = omega (arith, small, unit)

  pub offset_is : (more : Bool) → fragment_offset (rest more) ≡ offset
  offset_is true = let p = slot_more in omega (arith, p, unit)
  offset_is false = let p = slot_last in omega (arith, p, unit)

  pub more_is : (more : Bool) → has_more (rest more) ≡ more
  more_is true = let p = slot_more in is_one (be16 (rest true) 2 % 2) (omega (arith, p, unit))
  more_is false = let p = slot_last in no_one (be16 (rest false) 2 % 2) (omega (arith, p, unit))

  -- a header that says neither is that of a whole datagram
  pub atomic_is : (more : Bool) → is_atomic (rest more) ≡ true → (offset ≡ 0) × (more ≡ false)
  atomic_is true is =
      let p = slot_more in
      let odd : be16 (rest true) 2 % 2 ≡ 0 = zero_is (be16 (rest true) 2 % 2) (both_true (be16 (rest true) 2 / 8 == 0) (be16 (rest true) 2 % 2 == 0) is).1 in
      absurd (omega (arith, p, unit, odd))
  atomic_is false is =
      let p = slot_last in
      let none : be16 (rest false) 2 / 8 ≡ 0 =
      zero_is (be16 (rest false) 2 / 8) (both_true (be16 (rest false) 2 / 8 == 0) (be16 (rest false) 2 % 2 == 0) is).0 in
      (omega (arith, p, unit, none), refl)

module _ (carried : IpProtocol) (number offset : ℕ) (more : Bool) (x : List ℕ) where
  abbrev all : List ℕ
  all = rest_of carried number (fragment_with offset more x)

  pub number_is : number < 2 ^ 32 → be32 all 4 ≡ number
  number_is small = omega (arith, small)

  pub following_is : drop 8 all ≡ x
  following_is = refl

  pub long_is : length all ≡ 8 + length x
  long_is = omega arith

  pub first_is : slice_index all 0 ≡ protocol_number carried
  first_is = refl

  -- what a slot holds of a first fragment
  pub front_is : whole_header all ++ x ≡ following_fragment carried number x
  front_is = refl

pub whole_rest : (carried : IpProtocol) (number : ℕ) (payload : List ℕ) → rest_of carried number (fragment_with 0 false payload) ≡
    following_fragment carried number payload
whole_rest carried number payload = refl

pub following_whole : (carried : IpProtocol) (number : ℕ) (payload : List ℕ) → drop 8 (following_fragment carried number payload) ≡ payload
following_whole carried number payload = refl

pub length_whole : (carried : IpProtocol) (number : ℕ) (payload : List ℕ) → length (following_fragment carried number payload) ≡ 8 + length payload
length_whole carried number payload = omega arith

-- THE STEP. What a header leads to has a type that no other crate names, so it is told by that of a header of given bytes.

chosen : {X : Type 0} (a b : Bool) (s t u : X) → a ≡ true → b ≡ false → cond a (cond b s t) u ≡ t
chosen a b s t u there cut = rw (there, cut) refl

first_chosen : {X : Type 0} (a b : Bool) (s t u : X) → a ≡ true → b ≡ true → cond a (cond b s t) u ≡ s
first_chosen a b s t u there cut = rw (there, cut) refl

last_chosen : {X : Type 0} (a b : Bool) (s t u : X) → a ≡ false → b ≡ false → cond a s (cond b t u) ≡ u
last_chosen a b s t u one two = rw (one, two) refl

-- the last fragment of a datagram of eight bytes, without a byte, and the whole of one that has none
abbrev last_bytes : List ℕ
last_bytes = 17 ∷ 0 ∷ 0 ∷ 8 ∷ 0 ∷ 0 ∷ 0 ∷ 0 ∷ []

abbrev whole_bytes : List ℕ
whole_bytes = 17 ∷ 0 ∷ 0 ∷ 0 ∷ 0 ∷ 0 ∷ 0 ∷ 0 ∷ []

module _ (bytes : List ℕ) (there : nat_le 8 (length bytes) ≡ true) where
  -- a fragment that ends where one may
  at_fragment : is_atomic bytes ≡ false → has_more bytes && not (length bytes % 8 == 0) ≡ false →
      nat_lt 65535 (0 + fragment_offset bytes + (length bytes - 8)) ≡ false → go_through Protocol.Ipv6Frag bytes ≡ End.FragmentPart 0
  at_fragment cut ends within =
      let step : step_at Protocol.Ipv6Frag 6 0 bytes ≡ step_at Protocol.Ipv6Frag 6 0 last_bytes =
      chosen _ _ _ _ _ there cut ∙ last_chosen _ _ _ _ _ ends within in
      walk_step (suc (length bytes)) (length bytes) Protocol.Ipv6Frag 6 0 bytes (step_at Protocol.Ipv6Frag 6 0 last_bytes) refl (sym step)

  -- what is whole is gone on with
  past_atomic : is_atomic bytes ≡ true → go_through Protocol.Ipv6Frag bytes ≡
      walked (length bytes) (protocol_of (slice_index bytes 0)) 40 8 (drop 8 bytes)
  past_atomic whole =
      let step : step_at Protocol.Ipv6Frag 6 0 bytes ≡ step_at Protocol.Ipv6Frag 6 0 whole_bytes = first_chosen _ _ _ _ _ there whole in
      walk_step (suc (length bytes)) (length bytes) Protocol.Ipv6Frag 6 0 bytes (step_at Protocol.Ipv6Frag 6 0 whole_bytes) refl (sym step)

-- A PIECE

module _ (carried : IpProtocol) (number offset : ℕ) (x : List ℕ) (small : offset + length x < 65536) (unit : offset % 8 ≡ 0) where
  abbrev rest_by : Bool → List ℕ
  rest_by more = rest_of carried number (fragment_with offset more x)

  short : offset < 2 ^ 16
  short = omega (arith, small)

  no_end : (more : Bool) → (more ≡ true → length x % 8 ≡ 0) → has_more (rest_by more) && not (length (rest_by more) % 8 == 0) ≡ false
  no_end true units =
      let u = units refl in
      let long = long_is carried number offset true x in
      and_not (has_more (rest_by true)) (length (rest_by true) % 8 == 0) (is_zero (length (rest_by true) % 8) (omega (arith, long, u)))
  no_end false units =
      first_false (has_more (rest_by false)) (not (length (rest_by false) % 8 == 0)) (more_is carried number offset x short unit false)

  inside : (more : Bool) → nat_lt 65535 (0 + fragment_offset (rest_by more) + (length (rest_by more) - 8)) ≡ false
  inside more =
      let at = offset_is carried number offset x short unit more in
      let long = long_is carried number offset more x in
      not_less 65535 (0 + fragment_offset (rest_by more) + (length (rest_by more) - 8)) (omega (arith, at, long, small))

  enough : (more : Bool) → nat_le 8 (length (rest_by more)) ≡ true
  enough more = let long = long_is carried number offset more x in at_most 8 (length (rest_by more)) (omega (arith, long))

  -- a fragment stands right after the IPv6 header
  pub stops_at_fragment : (more : Bool) → (more ≡ true → length x % 8 ≡ 0) → is_atomic (rest_by more) ≡ false →
      go_through Protocol.Ipv6Frag (rest_by more) ≡ End.FragmentPart 0
  stops_at_fragment more units cut = at_fragment (rest_by more) (enough more) cut (no_end more units) (inside more)

-- WHAT STANDS BEHIND THE HEADER OF A WHOLE DATAGRAM

-- of a protocol that is no extension header
abbrev pub upper_named : IpProtocol → IpProtocol
upper_named Protocol.Tcp = Protocol.Tcp
upper_named Protocol.Udp = Protocol.Udp
upper_named Protocol.Icmpv6 = Protocol.Icmpv6
upper_named protocol = Protocol.Ipv6NoNxt

abbrev pub bytes_named : IpProtocol → List ℕ → List ℕ
bytes_named Protocol.Tcp bytes = bytes
bytes_named Protocol.Udp bytes = bytes
bytes_named Protocol.Icmpv6 bytes = bytes
bytes_named protocol bytes = []

-- what a walk ends with there
pub record EndsSo (protocol : IpProtocol) (payload bytes : List ℕ) (following : Following) : Type 0 where
  pub upper : upper_of following ≡ upper_named protocol
  pub bytes_are : upper_bytes_of payload following ≡ bytes_named protocol bytes
  pub whole : Headers.is_fragment following ≡ false

ends_so : (protocol : IpProtocol) (most named_at at : ℕ) (payload rest : List ℕ) → is_extension protocol ≡ false →
    EndsSo protocol payload (drop at payload) (walked (suc most) protocol named_at at rest)
unfolding walked
ends_so Protocol.HopByHop most named_at at payload rest bare = absurd cc
ends_so Protocol.Icmp most named_at at payload rest bare = record { upper = refl; bytes_are = refl; whole = refl }
ends_so Protocol.Igmp most named_at at payload rest bare = record { upper = refl; bytes_are = refl; whole = refl }
ends_so Protocol.Tcp most named_at at payload rest bare = record { upper = refl; bytes_are = refl; whole = refl }
ends_so Protocol.Udp most named_at at payload rest bare = record { upper = refl; bytes_are = refl; whole = refl }
ends_so Protocol.Ipv6Route most named_at at payload rest bare = absurd cc
ends_so Protocol.Ipv6Frag most named_at at payload rest bare = absurd cc
ends_so Protocol.IpSecEsp most named_at at payload rest bare = record { upper = refl; bytes_are = refl; whole = refl }
ends_so Protocol.IpSecAh most named_at at payload rest bare = record { upper = refl; bytes_are = refl; whole = refl }
ends_so Protocol.Icmpv6 most named_at at payload rest bare = record { upper = refl; bytes_are = refl; whole = refl }
ends_so Protocol.Ipv6NoNxt most named_at at payload rest bare = record { upper = refl; bytes_are = refl; whole = refl }
ends_so Protocol.Ipv6Opts most named_at at payload rest bare = absurd cc
ends_so (Protocol.Unknown n) most named_at at payload rest bare = record { upper = refl; bytes_are = refl; whole = refl }

-- right after the IPv6 header
pub bare_so : (protocol : IpProtocol) (payload : List ℕ) → is_extension protocol ≡ false → EndsSo protocol payload payload (go_through protocol payload)
bare_so protocol payload bare = ends_so protocol (length payload) 6 0 payload payload bare

module _ (carried : IpProtocol) (number : ℕ) (payload : List ℕ) (bare : is_extension (protocol_of (protocol_number carried)) ≡ false) where
  abbrev whole_all : List ℕ
  whole_all = following_fragment carried number payload

  atomic_whole : is_atomic whole_all ≡ true
  atomic_whole = refl

  room : nat_le 8 (length whole_all) ≡ true
  room = let long = length_whole carried number payload in at_most 8 (length whole_all) (omega (arith, long))

  more_length : length whole_all ≡ suc (7 + length payload)
  more_length = let long = length_whole carried number payload in omega (arith, long)

  whole_walk : go_through Protocol.Ipv6Frag whole_all ≡ walked (suc (7 + length payload)) (protocol_of (protocol_number carried)) 40 8 payload
  whole_walk =
      past_atomic whole_all room atomic_whole
      ∙ ap (λ (n : ℕ). walked n (protocol_of (protocol_number carried)) 40 8 payload) more_length

  -- after the fragment header of a whole datagram stands what the packet carries
  pub fragment_so : EndsSo (protocol_of (protocol_number carried)) whole_all payload (go_through Protocol.Ipv6Frag whole_all)
  fragment_so =
      subst (EndsSo (protocol_of (protocol_number carried)) whole_all payload) (sym whole_walk)
      (ends_so (protocol_of (protocol_number carried)) (7 + length payload) 40 8 whole_all payload bare)

-- SLICES

begins_following : (front xs ys : List ℕ) → Begins xs ys → Begins (front ++ xs) (front ++ ys)
begins_following [] xs ys is = is
begins_following (b ∷ front) xs ys is = (refl, begins_following front xs ys is)

module _ (carried : IpProtocol) (number offset : ℕ) (x payload : List ℕ) (small : offset < 2 ^ 16) (unit : offset % 8 ≡ 0) where
  abbrev rest_in : Bool → List ℕ
  rest_in more = rest_of carried number (fragment_with offset more x)

  abbrev held_part : Bool → Bool → FragmentList.FragmentPart
  held_part more first = record {
    offset = cond first 0 (8 + fragment_offset (rest_in more));
    more = has_more (rest_in more);
    bytes = cond first (whole_header (rest_in more)) [] ++ drop 8 (rest_in more);
  }

  -- what a slot gets of a fragment is a slice of the datagram as it holds it
  pub fragment_slice : (more first : Bool) → FragmentList.IsSliceOf payload (fragment_with offset more x) → fragment_offset (rest_in more) == 0 ≡ first →
      FragmentList.IsSliceOf (following_fragment carried number payload) (held_part more first)
  fragment_slice more true within is =
      let at = offset_is carried number offset x small unit more in
      let none : offset ≡ 0 = sym at ∙ zero_is (fragment_offset (rest_in more)) is in
      record {
        slice = begins_following (following_fragment carried number []) x payload (subst (λ (n : ℕ). Begins x (drop n payload)) none within.slice);
        last = λ last.
            let end : offset + length x ≡ length payload = within.last (sym (more_is carried number offset x small unit more) ∙ last) in
            omega (arith, end, none);
      }
  fragment_slice more false within is =
      let at = offset_is carried number offset x small unit more in
      let there : drop (8 + fragment_offset (rest_in more)) (following_fragment carried number payload) ≡ drop offset payload =
      ap (λ (n : ℕ). drop (8 + n) (following_fragment carried number payload)) at ∙ sym (drop-drop offset 8 (following_fragment carried number payload)) in
      record {
        slice = subst (Begins x) (sym there) within.slice;
        last = λ last.
            let end : offset + length x ≡ length payload = within.last (sym (more_is carried number offset x small unit more) ∙ last) in
            let long = length_whole carried number payload in
            omega (arith, end, at, long);
      }

-- a fragment that is all of it
pub all_of_it : (payload x : List ℕ) (offset : ℕ) (more : Bool) → FragmentList.IsSliceOf payload (fragment_with offset more x) → offset ≡ 0 → more ≡ false →
    x ≡ payload
all_of_it payload x offset more within none last =
    let end : offset + length x ≡ length payload = within.last last in
    Begins-whole x payload (subst (λ (n : ℕ). Begins x (drop n payload)) none within.slice) (omega (arith, end, none))
