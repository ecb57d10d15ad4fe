-- What fragments make of slots.
use Rattle.std.proofs.Common.{◌≡◌, ℕ, Bool, true, false, cond, ◌&&◌, ◌||◌, not, Option, Some, None, refl, sym, ap, subst, ◌∙◌, List}
use Rattle.std.specs.Prelude.{if◌then◌else◌, is_some}
use Rattle.ip_wire.specs.Ipv6Repr.{Ipv6Repr}
use Rattle.ip_wire.specs.Ipv4Repr.{Ipv4Repr}
use Rattle.ip_wire.specs.Ipv4Fragment.{Ipv4Fragment}
use Rattle.ip_wire.specs.declared.ethernet.repr.EthernetRepr.{EthernetRepr}
use Rattle.wire_ipv6_headers.specs.Headers as Headers
use Rattle.wire_ipv6_headers.specs.declared.headers.Following.{Following}
use Rattle.wire_ipv6_headers.specs.declared.headers.Following.TheVariants as End
use Rattle.iface_tables.specs.Inner.{InnerValue}
use Rattle.iface_tables.specs.Reassembly.{assembler_index_for}
use Rattle.iface_tables.specs.Assemblers.{overlaps_datagram, without_datagram}
use Rattle.iface_ingress.specs.Arrives.{assemblers_after, whole_after}
use Rattle.iface_ingress.specs.Incoming.{IncomingValue, Arp, Ip4, Ip6}
use Rattle.iface_ingress.specs.Reassembled.{Assemblers, FragmentValue, part_of, part_v4, part_following, following_headers, is_fragment, is_same_datagram, is_strict}
use Rattle.iface_ingress.specs.Reassembled.{is_unfit, is_within, slot_of, slot_in, kept, with_fragment, with_part, bytes_at}
use Rattle.iface_ingress.specs.Reassembled.{reassembled, reassembled_v6, whole_of, released}

-- A PIECE THAT OVERLAPS

unfit_by : (within strict over : Bool) → strict ≡ true → over ≡ true → not within || (strict && over) ≡ true
unfit_by true true true a b = refl
unfit_by false true true a b = refl
unfit_by within false over a b = cc
unfit_by within true false a b = cc

unfit : (assemblers : Assemblers) (p : FragmentValue) → is_strict p.key ≡ true → overlaps_datagram is_same_datagram assemblers p.key p.bytes p.offset ≡ true →
    is_unfit assemblers p ≡ true
unfit assemblers p strict over = unfit_by (is_within p) (is_strict p.key) (overlaps_datagram is_same_datagram assemblers p.key p.bytes p.offset) strict over

pub kept_unfit : (i : InnerValue) (timeout : ℕ) (assemblers : Assemblers) (content : Option IncomingValue) (p : FragmentValue) → part_of content ≡ Some p →
    is_strict p.key ≡ true → overlaps_datagram is_same_datagram assemblers p.key p.bytes p.offset ≡ true →
    kept i timeout assemblers content ≡ without_datagram is_same_datagram assemblers p.key
kept_unfit i timeout assemblers content p is strict over =
    ap (with_fragment i timeout assemblers) is
    ∙ ap (λ (b : Bool). if b then without_datagram is_same_datagram assemblers p.key else with_part i timeout assemblers p) (unfit assemblers p strict over)

pub slot_unfit : (assemblers : Assemblers) (content : Option IncomingValue) (p : FragmentValue) → part_of content ≡ Some p →
    is_strict p.key ≡ true → overlaps_datagram is_same_datagram assemblers p.key p.bytes p.offset ≡ true → slot_in assemblers content ≡ None
slot_unfit assemblers content p is strict over =
    ap (slot_of assemblers) is ∙ ap (λ (b : Bool). if b then None else assembler_index_for is_same_datagram assemblers p.key) (unfit assemblers p strict over)

-- WHAT IS NO PIECE

no_fragment_v4 : (header : Ipv4Repr) (fragment : Ipv4Fragment) (payload : List ℕ) (b : Bool) →
    (if b then Some (part_v4 header fragment payload) else None) ≡ None → b ≡ false
no_fragment_v4 header fragment payload true none = cc
no_fragment_v4 header fragment payload false none = refl

no_fragment_v6 : (header : Ipv6Repr) (payload : List ℕ) (b : Following) → part_following header payload b ≡ None → Headers.is_fragment b ≡ false
no_fragment_v6 header payload (End.Upper protocol at) none = refl
no_fragment_v6 header payload (End.FragmentPart at) none = cc
no_fragment_v6 header payload End.Nothing none = refl
no_fragment_v6 header payload (End.Problem problem pointer) none = refl

whole_is : (assemblers : Assemblers) (at : Option ℕ) (content : Option IncomingValue) → part_of content ≡ None → whole_of assemblers at content ≡ content
whole_is assemblers at None none = refl
whole_is assemblers at (Some (Arp link packet)) none = refl
whole_is assemblers at (Some (Ip4 link header fragment payload)) none =
    ap (λ (b : Bool). if b then reassembled link header (bytes_at at assemblers) else Some (Ip4 link header fragment payload))
    (no_fragment_v4 header fragment payload (is_fragment fragment) none)
whole_is assemblers at (Some (Ip6 link header payload)) none =
    ap (λ (b : Bool). if b then reassembled_v6 link header (bytes_at at assemblers) else Some (Ip6 link header payload))
    (no_fragment_v6 header payload (following_headers header payload) none)

pub assemblers_stay : (i : InnerValue) (timeout : ℕ) (assemblers : Assemblers) (content : Option IncomingValue) → part_of content ≡ None →
    assemblers_after i timeout assemblers content ≡ assemblers
assemblers_stay i timeout assemblers content none =
    ap (λ (o : Option FragmentValue). released (slot_of assemblers o) (with_fragment i timeout assemblers o)) none

pub whole_stays : (i : InnerValue) (timeout : ℕ) (assemblers : Assemblers) (content : Option IncomingValue) → part_of content ≡ None →
    whole_after i timeout assemblers content ≡ content
whole_stays i timeout assemblers content none = whole_is (kept i timeout assemblers content) (slot_in assemblers content) content none
