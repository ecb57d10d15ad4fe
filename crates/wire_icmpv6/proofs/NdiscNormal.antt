-- A neighbour message that was read can be sent, and is in its canonical form.
use Rattle.std.proofs.Common.{◌≡◌, ℕ, zero, suc, ◌≤◌, List, [], ◌∷◌, ◌++◌, length, take, drop, sym, subst, arith, inl, inr, length-take, length-drop}
use Rattle.std.specs.Prelude.{Option, Some, None, slice_index, slice_range}
use Rattle.std.specs.List.{last_or}
use Rattle.std.proofs.lemmas.Bool.Decides.{eqb_tells}
use Rattle.std.proofs.lemmas.List.{take-append-drop}
use Rattle.wire_address.specs.Fields.{IsBytes}
use Rattle.wire_icmpv6.proofs.NdiscLaws.{normal-same}
use Rattle.wire_icmpv6.proofs.NdiscSteps.{links-this, links-other}
use Rattle.wire_icmpv6.proofs.Spelled.{IsBytes-drop}
use Rattle.wire_icmpv6.specs.Ndisc.{NeighborMessage, Solicitation, Advertisement, IsNdisc, IsValue, IsLink, FitsLink, normal}
use Rattle.wire_icmpv6.specs.NdiscOption.{OptionValue, option_bytes, options_bytes, AreOptions, links, HasLink}

-- the bytes of a link address, if there is one, are bytes
abbrev HasBytes : Option (List ℕ) → Type 0
HasBytes None = Unit {0}
HasBytes (Some address) = IsBytes address

-- parts of a list of bytes
at-front : (a b : List ℕ) (i : ℕ) → slice_index a i ≤ slice_index (a ++ b) i
at-front [] b i = omega arith
at-front (x ∷ a) b zero = omega arith
at-front (x ∷ a) b (suc i) = at-front a b i

front-bytes : (a b : List ℕ) → IsBytes (a ++ b) → IsBytes a
front-bytes a b small = λ i. omega (arith, at-front a b i, small i)

back-bytes : (a b : List ℕ) → IsBytes (a ++ b) → IsBytes b
back-bytes [] b small = small
back-bytes (x ∷ a) b small = back-bytes a b (λ i. small (suc i))

-- those of the last link address among options
last-bytes : (kind : ℕ) (so_far : Option (List ℕ)) (os : List OptionValue) → HasBytes so_far → IsBytes (options_bytes os) →
    HasBytes (last_or so_far (links kind os))
last-bytes kind so_far [] before small = before
last-bytes kind so_far (o ∷ os) before small = elim (eqb_tells o.kind kind) [
  | inl hit ↦ subst (λ xs. HasBytes (last_or so_far xs)) (sym (links-this kind o os hit.1))
      (last-bytes kind (Some o.inside) os (front-bytes o.inside (options_bytes os) (λ i. small (suc (suc i))))
      (back-bytes (option_bytes o) (options_bytes os) small))
  | inr miss ↦ subst (λ xs. HasBytes (last_or so_far xs)) (sym (links-other kind o os miss.1))
      (last-bytes kind so_far os before (back-bytes (option_bytes o) (options_bytes os) small))
]

link-bytes : (kind : ℕ) (bytes : List ℕ) (link : Option (List ℕ)) → IsBytes bytes → HasLink kind None bytes link → HasBytes link
link-bytes kind bytes link small has = subst HasBytes (sym has.3) (last-bytes kind None has.0 tt (subst IsBytes has.1 small))

-- the last link address among options has six bytes
last-six : (kind : ℕ) (so_far : Option (List ℕ)) (os : List OptionValue) → FitsLink so_far → AreOptions kind os → FitsLink (last_or so_far (links kind os))
last-six kind so_far [] before are = before
last-six kind so_far (o ∷ os) before are = elim (eqb_tells o.kind kind) [
  | inl hit ↦ subst (λ xs. FitsLink (last_or so_far xs)) (sym (links-this kind o os hit.1)) (last-six kind (Some o.inside) os (are.1 hit.1) are.2)
  | inr miss ↦ subst (λ xs. FitsLink (last_or so_far xs)) (sym (links-other kind o os miss.1)) (last-six kind so_far os before are.2)
]

link-six : (kind : ℕ) (bytes : List ℕ) (link : Option (List ℕ)) → HasLink kind None bytes link → FitsLink link
link-six kind bytes link has = subst FitsLink (sym has.3) (last-six kind None has.0 tt has.2)

-- a link address that was read has six bytes at most
link-value : (link : Option (List ℕ)) → FitsLink link → HasBytes link → IsLink link
link-value None six bytes = tt
link-value (Some address) six bytes = (omega (arith, six), bytes)

link-read : (kind : ℕ) (bytes : List ℕ) (link : Option (List ℕ)) → IsBytes bytes → HasLink kind None bytes link → IsLink link
link-read kind bytes link small has = link-value link (link-six kind bytes link has) (link-bytes kind bytes link small has)

-- a target that was read is an address
target-read : (bytes : List ℕ) → IsBytes bytes → 24 ≤ length bytes → (length (slice_range bytes 8 24) ≡ 16) × IsBytes (slice_range bytes 8 24)
target-read bytes small len = (
  omega (arith, length-take 16 (drop 8 bytes), length-drop {A = ℕ} 8 bytes),
  front-bytes (take 16 (drop 8 bytes)) (drop 16 (drop 8 bytes)) (subst IsBytes (sym (take-append-drop 16 (drop 8 bytes))) (IsBytes-drop 8 bytes small)),
)

pub IsNdisc-value : (bytes : List ℕ) (m : NeighborMessage) → IsBytes bytes → IsNdisc bytes m → IsValue m
IsNdisc-value bytes (Solicitation target link) small is = (
  subst (λ xs. (length xs ≡ 16) × IsBytes xs) (sym is.target_is) (target-read bytes small is.header),
  link-read 1 (drop 24 bytes) link (IsBytes-drop 24 bytes small) is.source_link,
)
IsNdisc-value bytes (Advertisement flags target link) small is = (
  subst (λ xs. (length xs ≡ 16) × IsBytes xs) (sym is.target_is) (target-read bytes small is.header),
  link-read 2 (drop 24 bytes) link (IsBytes-drop 24 bytes small) is.target_link,
)

-- a message that was read is in its canonical form
pub IsNdisc-normal : (bytes : List ℕ) (m : NeighborMessage) → IsNdisc bytes m → normal m ≡ m
IsNdisc-normal bytes (Solicitation target link) is = normal-same (Solicitation target link) (link-six 1 (drop 24 bytes) link is.source_link)
IsNdisc-normal bytes (Advertisement flags target link) is = normal-same (Advertisement flags target link) (link-six 2 (drop 24 bytes) link is.target_link)
