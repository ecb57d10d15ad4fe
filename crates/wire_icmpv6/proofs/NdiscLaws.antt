-- Neighbour messages written and read back.
use Rattle.std.proofs.Common.{◌≡◌, ℕ, ◌+◌, ◌-◌, ◌<◌, ◌≤◌, Bool, true, false, List, [], ◌∷◌, ◌++◌, length, take, drop, replicate, refl, sym, ◌∙◌, ap, subst}
use Rattle.std.proofs.Common.{arith}
use Rattle.std.specs.Prelude.{Option, Some, None}
use Rattle.std.specs.List.{last_or}
use Rattle.std.proofs.lemmas.List.{append-nil, length-append, length-drop, length-replicate}
use Rattle.std.proofs.Math.Seq.{take-append_seam, drop-append_seam}
use Rattle.wire_address.specs.Sum.{word_sum}
use Rattle.wire_icmpv6.specs.Ndisc.{NeighborMessage, Solicitation, Advertisement, IsNdisc, IsValue, IsLink, Fits, FitsLink, buffer_len, spelling, normal, flag_bits}
use Rattle.wire_icmpv6.specs.Ndisc.{flags_of}
use Rattle.wire_icmpv6.specs.NdiscOption.{OptionValue, units, option_bytes, options_bytes, AreOptions, links, HasLink, padded, link_len, link_option, read_link}
use Rattle.wire_icmpv6.specs.declared.ndisc_flags.NdiscNeighborFlags.{NdiscNeighborFlags}
use Rattle.wire_icmpv6.proofs.NdiscSteps.{links-this}

-- a list of 16 before another
front-16 : (a rest : List ℕ) → length a ≡ 16 → a ≡ take 16 (a ++ rest)
front-16 a rest len = sym (ap (λ n. take n (a ++ rest)) (sym len) ∙ take-append_seam a rest)

back-16 : (a rest : List ℕ) → length a ≡ 16 → drop 16 (a ++ rest) ≡ rest
back-16 a rest len = ap (λ n. drop n (a ++ rest)) (sym len) ∙ drop-append_seam a rest

-- a link address that was padded has six bytes
length-padded : (address : List ℕ) → length address ≤ 6 → length (padded address) ≡ 6
length-padded address short = omega (arith, length-append address (replicate (6 - length address) 0), length-replicate {A = ℕ} (6 - length address) 0)

-- an option of one unit
one-unit : (o : OptionValue) → length o.inside ≡ 6 → units o ≡ 1
one-unit o six = omega (arith, six)

-- the option of a link address is read
HasLink-written : (kind : ℕ) (link : Option (List ℕ)) → IsLink link → HasLink kind None (link_option kind link) (read_link link)
HasLink-written kind None small = ([], refl, tt, refl)
HasLink-written kind (Some address) small =
    let o : OptionValue = record { kind = kind; inside = padded address } in
    let six : length (padded address) ≡ 6 = length-padded address small.0 in
    let one : units o ≡ 1 = one-unit o six in (
      o ∷ [],
      ap (λ n. kind ∷ n ∷ padded address) (sym one) ∙ sym (append-nil (option_bytes o)),
      (record { some = omega (arith, one); whole = omega (arith, one, six) }, (λ this. six), tt),
      ap (last_or None) (sym (links-this kind o [] refl)),
    )

-- the flags are read from the byte that holds them
abbrev flags-from : Bool → Bool → Bool → NdiscNeighborFlags
flags-from router solicited overrides = record { router = router; solicited = solicited; overrides = overrides }

bits-same : (router solicited overrides : Bool) → flags-from router solicited overrides ≡ flags_of (flag_bits (flags-from router solicited overrides))
bits-same true true true = refl
bits-same true true false = refl
bits-same true false true = refl
bits-same true false false = refl
bits-same false true true = refl
bits-same false true false = refl
bits-same false false true = refl
bits-same false false false = refl

flags-same : (flags : NdiscNeighborFlags) → flags ≡ flags_of (flag_bits flags)
flags-same flags = bits-same flags.router flags.solicited flags.overrides

pub IsNdisc-written : (m : NeighborMessage) (check : ℕ) → IsValue m → IsNdisc (spelling m check) (normal m)
IsNdisc-written (Solicitation target link) check value = record {
  header = omega (arith, length-append target.0 (link_option 1 link), value.0.0);
  kind = refl;
  code = refl;
  target_is = front-16 target.0 (link_option 1 link) value.0.0;
  source_link = subst (λ xs. HasLink 1 None xs (read_link link)) (sym (back-16 target.0 (link_option 1 link) value.0.0)) (HasLink-written 1 link value.1);
}
IsNdisc-written (Advertisement flags target link) check value = record {
  header = omega (arith, length-append target.0 (link_option 2 link), value.0.0);
  kind = refl;
  code = refl;
  flags_are = flags-same flags;
  target_is = front-16 target.0 (link_option 2 link) value.0.0;
  target_link = subst (λ xs. HasLink 2 None xs (read_link link)) (sym (back-16 target.0 (link_option 2 link) value.0.0)) (HasLink-written 2 link value.1);
}

-- a link address of six bytes isn't padded, nor is a longer one
padded-long : (address : List ℕ) → 6 ≤ length address → padded address ≡ address
padded-long address long =
    let none : 6 - length address ≡ 0 = omega (arith, long) in
    ap (λ n. address ++ replicate n 0) none ∙ append-nil address

pub padded-same : (address : List ℕ) → length address ≡ 6 → padded address ≡ address
padded-same address six = padded-long address (omega (arith, six))

read_link-same : (link : Option (List ℕ)) → FitsLink link → read_link link ≡ link
read_link-same None fits = refl
read_link-same (Some address) fits = ap Some (padded-same address fits)

pub normal-same : (m : NeighborMessage) → Fits m → normal m ≡ m
normal-same (Solicitation target link) fits = ap (Solicitation target) (read_link-same link fits)
normal-same (Advertisement flags target link) fits = ap (Advertisement flags target) (read_link-same link fits)

-- one that was padded isn't padded again
padded-padded : (address : List ℕ) → padded (padded address) ≡ padded address
padded-padded address = padded-long (padded address)
    (omega (arith, length-append address (replicate (6 - length address) 0), length-replicate {A = ℕ} (6 - length address) 0))

read_link-again : (link : Option (List ℕ)) → read_link (read_link link) ≡ read_link link
read_link-again None = refl
read_link-again (Some address) = ap Some (padded-padded address)

-- a canonical form is in its canonical form
pub normal-normal : (m : NeighborMessage) → normal (normal m) ≡ normal m
normal-normal (Solicitation target link) = ap (Solicitation target) (read_link-again link)
normal-normal (Advertisement flags target link) = ap (Advertisement flags target) (read_link-again link)

-- a link address fills a unit at least
some-option : (kind : ℕ) (address : List ℕ) (bytes : List ℕ) (os : List OptionValue) → bytes ≡ options_bytes os → AreOptions kind os →
    Some address ≡ last_or None (links kind os) → 8 ≤ length bytes
some-option kind address bytes [] spelled are is = absurd (cc is)
some-option kind address bytes (o ∷ os) spelled are is = omega (arith, ap length spelled, length-append o.inside (options_bytes os), are.0.some, are.0.whole)

HasLink-room : (kind : ℕ) (bytes : List ℕ) (link : Option (List ℕ)) → HasLink kind None bytes link → link_len link ≤ length bytes
HasLink-room kind bytes None has = omega arith
HasLink-room kind bytes (Some address) has = some-option kind address bytes has.0 has.1 has.2 has.3

pub buffer_len-room : (bytes : List ℕ) (m : NeighborMessage) → IsNdisc bytes m → buffer_len m ≤ length bytes
buffer_len-room bytes (Solicitation target link) is = omega (arith, is.header, HasLink-room 1 (drop 24 bytes) link is.source_link, length-drop 24 bytes)
buffer_len-room bytes (Advertisement flags target link) is = omega (arith, is.header, HasLink-room 2 (drop 24 bytes) link is.target_link, length-drop 24 bytes)

-- the length of a message
length-link_option : (kind : ℕ) (link : Option (List ℕ)) → IsLink link → length (link_option kind link) ≡ link_len link
length-link_option kind None small = refl
length-link_option kind (Some address) small = omega (arith, length-padded address small.0)

pub length-spelling : (m : NeighborMessage) (check : ℕ) → IsValue m → length (spelling m check) ≡ buffer_len m
length-spelling (Solicitation target link) check value =
    omega (arith, length-append target.0 (link_option 1 link), length-link_option 1 link value.1, value.0.0)
length-spelling (Advertisement flags target link) check value =
    omega (arith, length-append target.0 (link_option 2 link), length-link_option 2 link value.1, value.0.0)

-- the checksum's part of a word sum
pub word_sum-spelling : (m : NeighborMessage) (check : ℕ) → check < 65536 → word_sum (spelling m check) ≡ word_sum (spelling m 0) + check
word_sum-spelling (Solicitation target link) check small = omega (arith, small)
word_sum-spelling (Advertisement flags target link) check small = omega (arith, small)
