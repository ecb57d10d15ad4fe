-- What stays where room is made for a fragment: at most one slot is freed.
use Rattle.std.proofs.Common.{◌≡◌, ℕ, ◌<◌, Bool, true, false, cond, refl, sym, ap, subst, ◌∙◌, length, Option, Some, None}
use Rattle.std.specs.Prelude.{◌&&◌, ◌||◌, not, is_some, if◌then◌else◌}
use Rattle.iface_tables.specs.Assemblers.{assembler_of, changed_at, overlaps_datagram, without_datagram}
use Rattle.iface_tables.specs.Inner.{InnerValue}
use Rattle.iface_tables.specs.Reassembly.{assembler_index_for, freed}
use Rattle.iface_tables.specs.Room.{has_share, is_same_source, place_given_up, with_room_for}
use Rattle.iface_tables.specs.declared.key.FragKey.{FragKey}
use Rattle.iface_tables.specs.declared.key.FragKey.TheVariants as Keys
use Rattle.iface_tables.proofs.Apart.{fragment_other, given_up_other}
use Rattle.iface_tables.proofs.Keys.{key_test}
use Rattle.iface_tables.proofs.RoomMade.{room_found, room_other}
use Rattle.std.proofs.lemmas.Slice.Eq.{bytes_eq-Decides}
use Rattle.iface_ingress.specs.Incoming.{IncomingValue}
use Rattle.iface_ingress.specs.Reassembled.{Assemblers, FragmentValue, finds_room, given_up_at, is_same_datagram, is_strict, is_unfit, is_within}
use Rattle.iface_ingress.specs.Reassembled.{kept, part_of, room_for, runs_kept, slot_in, slot_of, with_fragment, with_part, with_room}

module _ (P : Assemblers → Type 0) (i : InnerValue) (assemblers : Assemblers) (freed_too : (at : Option ℕ) → P (changed_at freed at assemblers)) (all : P assemblers) where
  by_flag : (p : FragmentValue) (finds : Bool) → P (cond finds (with_room_for is_same_datagram is_same_source assemblers p.key) assemblers)
  by_flag p true = freed_too (place_given_up is_same_datagram is_same_source assemblers p.key)
  by_flag p false = all

  by_part : (o : Option FragmentValue) → P (room_for i assemblers o)
  by_part None = all
  by_part (Some p) = by_flag p (finds_room i p)

  -- what is so of the slots, and of them with any one freed, is so of them with room for a content
  pub roomed : (content : Option IncomingValue) → P (with_room i assemblers content)
  roomed content = by_part (part_of content)

-- what is no fragment leaves the slots
pub room_for_none : (i : InnerValue) (assemblers : Assemblers) (content : Option IncomingValue) → part_of content ≡ None → with_room i assemblers content ≡ assemblers
room_for_none i assemblers content none = ap (λ (o : Option FragmentValue). room_for i assemblers o) none

-- without host requirements no room is made
no_room : (i : InnerValue) (assemblers : Assemblers) → i.host_requirements ≡ false → (o : Option FragmentValue) → room_for i assemblers o ≡ assemblers
no_room i assemblers off None = refl
no_room i assemblers off (Some p) =
    ap (λ (b : Bool). cond (b && is_within p) (with_room_for is_same_datagram is_same_source assemblers p.key) assemblers) off

pub room_with_flag_off : (i : InnerValue) (assemblers : Assemblers) (content : Option IncomingValue) → i.host_requirements ≡ false → with_room i assemblers content ≡ assemblers
room_with_flag_off i assemblers content off = no_room i assemblers off (part_of content)

-- ROOM IS FOUND

within_by : (within strict over : Bool) → (not within || (strict && over)) ≡ false → within ≡ true
within_by true strict over fit = refl
within_by false strict over fit = absurd cc

finds_by : (flag within : Bool) → flag ≡ true → within ≡ true → (flag && within) ≡ true
finds_by true true on is = refl
finds_by true false on is = absurd cc
finds_by false within on is = absurd cc

room_is : (i : InnerValue) (assemblers : Assemblers) (content : Option IncomingValue) (p : FragmentValue) → i.host_requirements ≡ true →
    part_of content ≡ Some p → is_within p ≡ true → with_room i assemblers content ≡ with_room_for is_same_datagram is_same_source assemblers p.key
room_is i assemblers content p on is within =
    ap (λ (o : Option FragmentValue). room_for i assemblers o) is
    ∙ ap (λ (b : Bool). cond b (with_room_for is_same_datagram is_same_source assemblers p.key) assemblers)
    (finds_by i.host_requirements (is_within p) on within)

pub finds_slot : (i : InnerValue) (assemblers : Assemblers) (content : Option IncomingValue) (p : FragmentValue) → i.host_requirements ≡ true →
    0 < length assemblers → part_of content ≡ Some p → is_unfit (with_room i assemblers content) p ≡ false →
    is_some (slot_in (with_room i assemblers content) content) ≡ true
finds_slot i assemblers content p on some is fit =
    let within : is_within p ≡ true =
    within_by (is_within p) (is_strict p.key) (overlaps_datagram is_same_datagram (with_room i assemblers content) p.key p.bytes p.offset) fit in
    ap (λ (o : Option FragmentValue). is_some (slot_of (with_room i assemblers content) o)) is
    ∙ ap (λ (b : Bool). is_some (if b then None else assembler_index_for is_same_datagram (with_room i assemblers content) p.key)) fit
    ∙ ap (λ (ss : Assemblers). is_some (assembler_index_for is_same_datagram ss p.key)) (room_is i assemblers content p on is within)
    ∙ room_found is_same_datagram key_test is_same_source assemblers p.key some

-- OTHER SOURCES

alike_itself : (key : FragKey) → is_same_source key key ≡ true
alike_itself (Keys.Ipv4 key) = (bytes_eq-Decides key.src_addr.0 key.src_addr.0).1 refl
alike_itself (Keys.Ipv6 key) = (bytes_eq-Decides key.src_addr.0 key.src_addr.0).1 refl

apart_keys : (key other : FragKey) → is_same_source other key ≡ false → key ≡ other → ⊥
apart_keys key other not_alike same =
    let clash : true ≡ false = sym (alike_itself key) ∙ ap (λ (k : FragKey). is_same_source k key) same ∙ not_alike in
    absurd cc

kept_other : (i : InnerValue) (timeout : ℕ) (assemblers : Assemblers) (content : Option IncomingValue) (p : FragmentValue) (other : FragKey) →
    part_of content ≡ Some p → (p.key ≡ other → ⊥) →
    assembler_of is_same_datagram (kept i timeout assemblers content) other ≡ assembler_of is_same_datagram assemblers other
kept_other i timeout assemblers content p other is ne =
    ap (λ (o : Option FragmentValue). assembler_of is_same_datagram (with_fragment i timeout assemblers o) other) is ∙ by (is_unfit assemblers p) where
      by : (unfit : Bool) → assembler_of is_same_datagram
          (if unfit then without_datagram is_same_datagram assemblers p.key else with_part i timeout assemblers p) other ≡ assembler_of is_same_datagram assemblers other
      by true = given_up_other is_same_datagram key_test assemblers p.key other ne
      by false = fragment_other runs_kept is_same_datagram key_test assemblers p.key (given_up_at i timeout) p.bytes p.offset p.more other ne

flagged_other : (i : InnerValue) (assemblers : Assemblers) (p : FragmentValue) (other : FragKey) → has_share is_same_source p.key assemblers ≡ true →
    is_same_source other p.key ≡ false → (finds : Bool) →
    assembler_of is_same_datagram (cond finds (with_room_for is_same_datagram is_same_source assemblers p.key) assemblers) other
    ≡ assembler_of is_same_datagram assemblers other
flagged_other i assemblers p other has not_alike true = room_other is_same_datagram key_test is_same_source assemblers p.key other has not_alike
flagged_other i assemblers p other has not_alike false = refl

-- where a source has its share, its fragments leave what came of datagrams from others
pub others_stay : (i : InnerValue) (timeout : ℕ) (assemblers : Assemblers) (content : Option IncomingValue) (p : FragmentValue) (other : FragKey) →
    part_of content ≡ Some p → has_share is_same_source p.key assemblers ≡ true → is_same_source other p.key ≡ false →
    assembler_of is_same_datagram (kept i timeout (with_room i assemblers content) content) other ≡ assembler_of is_same_datagram assemblers other
others_stay i timeout assemblers content p other is has not_alike =
    kept_other i timeout (with_room i assemblers content) content p other is (apart_keys p.key other not_alike)
    ∙ ap (λ (o : Option FragmentValue). assembler_of is_same_datagram (room_for i assemblers o) other) is
    ∙ flagged_other i assemblers p other has not_alike (finds_room i p)
