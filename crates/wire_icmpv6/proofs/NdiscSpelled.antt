-- Messages without other options, spelled by their values.
use Rattle.std.proofs.Common.{◌≡◌, ℕ, ◌+◌, ◌≤◌, List, [], ◌∷◌, ◌++◌, length, drop, refl, sym, ◌∙◌, ap, arith, inl, inr}
use Rattle.std.specs.Prelude.{Option, Some, None, slice_index, slice_range}
use Rattle.std.specs.Int.{w16, to_be_bytes}
use Rattle.std.specs.List.{last_or}
use Rattle.std.proofs.lemmas.Bool.Decides.{eqb_tells}
use Rattle.std.proofs.lemmas.List.{append-nil, length-append, length-drop}
use Rattle.wire_address.specs.Fields.{be16, IsBytes}
use Rattle.wire_icmpv6.specs.Ndisc.{NeighborMessage, Solicitation, Advertisement, IsNdisc, buffer_len, spelling, word_of, flag_bits}
use Rattle.wire_icmpv6.specs.NdiscOption.{OptionValue, IsOption, units, option_bytes, options_bytes, AreOptions, links, HasLink, link_len, link_option}
use Rattle.wire_icmpv6.specs.declared.message.Icmpv6Message.TheVariants as Message
use Rattle.wire_address.proofs.Peel.{peel8, peel16, peel_to}
use Rattle.wire_icmpv6.proofs.NdiscLaws.{padded-same}
use Rattle.wire_icmpv6.proofs.Types.{first-number}
use Rattle.wire_icmpv6.proofs.NdiscSteps.{links-this, links-other, empty}

-- no bytes hold no options
no-options : (kind : ℕ) (os : List OptionValue) → AreOptions kind os → length (options_bytes os) ≡ 0 → os ≡ []
no-options kind [] are none = refl
no-options kind (o ∷ os) are none = absurd (omega arith)

-- one unit that holds a link address
one-link : (kind : ℕ) (address : List ℕ) (o : OptionValue) → IsOption o → (o.kind ≡ kind → length o.inside ≡ 6) →
    Some address ≡ last_or None (links kind (o ∷ [])) → option_bytes o ≡ link_option kind (Some address)
one-link kind address o is six link = elim (eqb_tells o.kind kind) [
  | inr miss ↦ absurd (let e = link ∙ ap (last_or None) (links-other kind o [] miss.1) in cc e)
  | inl hit ↦
      let e : Some address ≡ Some o.inside = link ∙ ap (last_or None) (links-this kind o [] hit.1) in
      let same : address ≡ o.inside = cc in
      let len : length o.inside ≡ 6 = six hit.1 in
      let one : units o ≡ 1 = omega (arith, len) in
      ap (λ k. k ∷ units o ∷ o.inside) hit.1 ∙ ap (λ n. kind ∷ n ∷ o.inside) one ∙
      ap (λ xs. kind ∷ 1 ∷ xs) (sym same ∙ sym (padded-same address (ap length same ∙ len)))
]

some-link : (kind : ℕ) (address bytes : List ℕ) (os : List OptionValue) → bytes ≡ options_bytes os → AreOptions kind os →
    Some address ≡ last_or None (links kind os) → length bytes ≡ 8 → bytes ≡ link_option kind (Some address)
some-link kind address bytes [] spelled are link len = absurd (cc link)
some-link kind address bytes (o ∷ os) spelled are link len =
    let total : 8 ≡ length o.inside + 2 + length (options_bytes os) = omega (arith, len, ap length spelled, length-append o.inside (options_bytes os)) in
    let none : os ≡ [] = no-options kind os are.2 (omega (arith, total, are.0.some, are.0.whole)) in
    spelled ∙ ap (λ xs. option_bytes o ++ options_bytes xs) none ∙ append-nil (option_bytes o) ∙
    one-link kind address o are.0 are.1 (link ∙ ap (λ xs. last_or None (links kind (o ∷ xs))) none)

-- options that hold no more than a link address
HasLink-exact : (kind : ℕ) (bytes : List ℕ) (link : Option (List ℕ)) → HasLink kind None bytes link → length bytes ≡ link_len link →
    bytes ≡ link_option kind link
HasLink-exact kind bytes None has len = empty bytes len
HasLink-exact kind bytes (Some address) has len = some-link kind address bytes has.0 has.1 has.2 has.3 len

-- a message field by field
fields : (bytes word target options : List ℕ) (number : ℕ) → IsBytes bytes → 24 ≤ length bytes → number ≡ slice_index bytes 0 → 0 ≡ slice_index bytes 1 →
    word ≡ slice_range bytes 4 8 → target ≡ slice_range bytes 8 24 → drop 24 bytes ≡ options
    → bytes ≡ number ∷ 0 ∷ (to_be_bytes w16 (be16 bytes 2) ++ (word ++ (target ++ options)))
fields bytes word target options number small room kind code reserved there following =
    peel8 bytes 0 number _ (omega arith) kind (
    peel8 bytes 1 0 _ (omega arith) code (
    peel16 bytes 2 (be16 bytes 2) _ small (omega arith) refl (
    peel_to bytes 4 8 word _ (omega arith) reserved (
    peel_to bytes 8 24 target options (omega arith) there following
    )
    )
    )
    )

pub spelling-of : (bytes : List ℕ) (m : NeighborMessage) → IsBytes bytes → IsNdisc bytes m → slice_range bytes 4 8 ≡ word_of m → length bytes ≡ buffer_len m →
    bytes ≡ spelling m (be16 bytes 2)
spelling-of bytes (Solicitation target link) small is reserved len =
    fields bytes (0 ∷ 0 ∷ 0 ∷ 0 ∷ []) target.0 (link_option 1 link) 135 small is.header (sym (first-number bytes Message.NeighborSolicit is.kind)) (sym is.code)
    (sym reserved) is.target_is (
    HasLink-exact 1 (drop 24 bytes) link is.source_link (omega (arith, len, length-drop {A = ℕ} 24 bytes))
    )
spelling-of bytes (Advertisement flags target link) small is reserved len =
    fields bytes (flag_bits flags ∷ 0 ∷ 0 ∷ 0 ∷ []) target.0 (link_option 2 link) 136 small is.header (sym (first-number bytes Message.NeighborAdvert is.kind))
    (sym is.code) (sym reserved) is.target_is (
    HasLink-exact 2 (drop 24 bytes) link is.target_link (omega (arith, len, length-drop {A = ℕ} 24 bytes))
    )
