-- What a neighbour message of each type says.
use Rattle.std.proofs.Common.{◌≡◌, ℕ, List, drop, sym, ◌∙◌, ap, subst}
use Rattle.std.specs.Prelude.{Option, None, slice_index, slice_range}
use Rattle.wire_address.specs.declared.ipv6.Ipv6Address.{Ipv6Address}
use Rattle.wire_icmpv6.specs.Message.{header_len_of}
use Rattle.wire_icmpv6.specs.Ndisc.{NeighborMessage, Solicitation, Advertisement, IsNdisc, flags_of}
use Rattle.wire_icmpv6.specs.NdiscOption.{HasLink}
use Rattle.wire_icmpv6.specs.Packet.{type_of, payload_of}
use Rattle.wire_icmpv6.specs.declared.message.Icmpv6Message.{Icmpv6Message}
use Rattle.wire_icmpv6.specs.declared.message.Icmpv6Message.TheVariants as Message
use Rattle.wire_icmpv6.specs.declared.ndisc_flags.NdiscNeighborFlags.{NdiscNeighborFlags}

-- the options stand after the header
options-following : (bytes options : List ℕ) (kind : Icmpv6Message) → type_of bytes ≡ kind → options ≡ payload_of bytes → options ≡ drop (header_len_of kind) bytes
options-following bytes options kind is following = following ∙ ap (λ k. drop (header_len_of k) bytes) is

address-same : (a b : Ipv6Address) → a.0 ≡ b.0 → a ≡ b
address-same a b same = ap (λ xs. record { 0 = xs }) same

-- a solicitation with this target
pub record Solicits (bytes options : List ℕ) (target : Ipv6Address) (m : NeighborMessage) : Type 0 where
  pub link : Option (List ℕ)
  pub is : Solicitation target link ≡ m
  pub has : HasLink 1 None options link

pub IsNdisc-solicits : (bytes options : List ℕ) (target : Ipv6Address) (m : NeighborMessage) → type_of bytes ≡ Message.NeighborSolicit →
    options ≡ payload_of bytes → target.0 ≡ slice_range bytes 8 24 → IsNdisc bytes m → Solicits bytes options target m
IsNdisc-solicits bytes options target (Solicitation other link) kind following there is = record {
  link = link;
  is = ap (λ a. Solicitation a link) (address-same target other (there ∙ sym is.target_is));
  has = subst (λ xs. HasLink 1 None xs link) (sym (options-following bytes options Message.NeighborSolicit kind following)) is.source_link;
}
IsNdisc-solicits bytes options target (Advertisement flags other link) kind following there is = absurd (let e = sym kind ∙ is.kind in cc e)

-- an advertisement with these flags and this target
pub record Advertises (bytes options : List ℕ) (flags : NdiscNeighborFlags) (target : Ipv6Address) (m : NeighborMessage) : Type 0 where
  pub link : Option (List ℕ)
  pub is : Advertisement flags target link ≡ m
  pub has : HasLink 2 None options link

pub IsNdisc-advertises : (bytes options : List ℕ) (flags : NdiscNeighborFlags) (target : Ipv6Address) (m : NeighborMessage) →
    type_of bytes ≡ Message.NeighborAdvert → options ≡ payload_of bytes → flags ≡ flags_of (slice_index bytes 4) → target.0 ≡ slice_range bytes 8 24 →
    IsNdisc bytes m
    → Advertises bytes options flags target m
IsNdisc-advertises bytes options flags target (Solicitation other link) kind following set there is = absurd (let e = sym kind ∙ is.kind in cc e)
IsNdisc-advertises bytes options flags target (Advertisement more other link) kind following set there is = record {
  link = link;
  is = ap (λ a. Advertisement flags a link) (address-same target other (there ∙ sym is.target_is)) ∙
      ap (λ f. Advertisement f other link) (set ∙ sym is.flags_are);
  has = subst (λ xs. HasLink 2 None xs link) (sym (options-following bytes options Message.NeighborAdvert kind following)) is.target_link;
}
