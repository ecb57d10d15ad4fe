-- A host takes a frame: what it brings, whole or reassembled, was made.
use Rattle.std.proofs.Common.{◌≡◌, inl, inr, ℕ, ◌-◌, ◌^◌, Bool, true, false, cond, List, [], ◌∷◌, ◌++◌, length, drop, Option, Some, None, refl, sym, ◌∙◌, ap, subst}
use Rattle.std.specs.Prelude.{ℤ, nat_lt}
use Rattle.std.specs.List.{AllByRecursion}
use Rattle.iface_ingress.specs.HardwareAddress.{HardwareAddress}
use Rattle.iface_ingress.specs.Following.{Following}
use Rattle.iface_ingress.specs.Following.TheVariants as End
use Rattle.iface_ingress.specs.Headers as Headers
use Rattle.iface_ingress.specs.IpProtocol.TheVariants as Protocol
use Rattle.interface.specs.Ipv4 as Ipv4
use Rattle.interface.specs.Ipv4Fragment.{Ipv4Fragment}
use Rattle.interface.specs.Ipv4Repr.{Ipv4Repr}
use Rattle.interface.specs.Ipv6Repr.{Ipv6Repr}
use Rattle.interface.specs.IpRepr.TheVariants as Ip
use Rattle.iface_ingress.specs.EthernetRepr.{EthernetRepr}
use Rattle.sim_link.specs.ChecksumCapabilities.{ChecksumCapabilities}
use Rattle.iface_tables.specs.Inner.{InnerValue}
use Rattle.iface_tables.specs.Assemblers.{without_expired}
use Rattle.iface_tables.specs.Reassembly.{freed}
use Rattle.iface_tables.specs.declared.key.FragKey.{FragKey}
use Rattle.iface_tables.specs.declared.key.FragKey.TheVariants as Keys
use Rattle.iface_ingress.specs.Arrives.{Arrived, ArrivesAs, assemblers_after, whole_after, whole_arrived}
use Rattle.iface_ingress.specs.Delivered.{Slots}
use Rattle.iface_ingress.specs.Incoming.{IncomingValue, Arp, Ip4, Ip6, IsIncoming, IsContent}
use Rattle.iface_ingress.specs.Reassembled.{Assemblers, FragmentValue, is_fragment, is_fragment_v6, part_v4, part_v6, part_following, part_in, part_of, following_headers}
use Rattle.iface_ingress.specs.Reassembled.{is_taken_in, taken_in, slot_of, slot_in, with_fragment, kept, with_room, bytes_at, reassembled, reassembled_v6, uncut}
use Rattle.iface_ingress.proofs.Settings.{brings_same}
use Rattle.iface_ingress.proofs.Roomed.{roomed}
use Rattle.lan.specs.Worlds.Link.Made.{Makes, sealed, HandsMade, BringsMade}
use Rattle.lan.specs.Worlds.Link.Frames.{Outgoing, IsFrom, BringsFrom}
use Rattle.lan.specs.Worlds.Link.StoredFragments.{AreAssemblersOf, IsAssemblerOf}
use Rattle.lan.proofs.Worlds.Link.ReassembledDatagram.{IsReassembledOf}
use Rattle.lan.specs.Worlds.Link.Numbers.{AreFew}
use Rattle.lan.specs.Worlds.Link.Sides.{AreSent, IsReceiver}
use Rattle.lan.proofs.Worlds.Link.Hands.{brings_whole, hands_none, hands_v4, hands_v6, no_part}
use Rattle.lan.proofs.Worlds.Link.Assemblers.{IsPartOf, all_more, changed_keeps, expired_keep, freed_is, part_keeps, part_rebuilds, released_keeps}

-- each content is of a frame that is brought to a host
abbrev pub AreFrom : Makes → List Outgoing → Option IncomingValue → Type 0
AreFrom made out None = Unit {0}
AreFrom made out (Some v) = IsFrom made out v

-- WHAT IS READ

-- the content of a frame is what the frame brings
pub content_from : (made : Makes) (out : List Outgoing) (hardware : HardwareAddress) (caps : ChecksumCapabilities) (frame : List ℕ)
    (content : Option IncomingValue)
    → caps ≡ sealed → BringsFrom made out hardware frame → IsContent hardware caps frame content → AreFrom made out content
content_from made out hardware caps frame None are brings is = tt
content_from made out hardware caps frame (Some v) are brings is = brings v (subst (λ (c : ChecksumCapabilities). IsIncoming hardware c frame v) are is)

-- what a host takes in of it is so too
pub taken_from : (made : Makes) (out : List Outgoing) (i : InnerValue) (content : Option IncomingValue) → AreFrom made out content →
    AreFrom made out (taken_in i content)
taken_from made out i None from = tt
taken_from made out i (Some v) from = elim (is_taken_in i v) as (λ b. AreFrom made out (cond b (Some v) None)) [ true ↦ from | false ↦ tt ]

-- PIECES

pub part_cut : (b : Bool) (q p : FragmentValue) → cond b (Some q) None ≡ Some p → (b ≡ true) × (q ≡ p)
part_cut true q p is = (refl, cc)
part_cut false q p is = absurd cc

same_part : (a b : Option FragmentValue) (q p : FragmentValue) → a ≡ Some q → a ≡ Some p → q ≡ p
same_part a b q p one other = cc

-- a fragment of a content is of neither TCP nor UDP, or of a datagram that was sent
pub part_from : (made : Makes) (out : List Outgoing) (v : IncomingValue) → IsFrom made out v → (p : FragmentValue) → part_in v ≡ Some p →
    IsPartOf out p
part_from made out (Arp link packet) from p is = absurd cc
part_from made out (Ip4 link h q x) (inl whole) p is =
    let cut = part_cut (is_fragment q) (part_v4 h q x) p is in subst (IsPartOf out) cut.1 (inl (whole.0 cut.0))
part_from made out (Ip4 link h q x) (inr fragment) p is =
    let cut = part_cut (is_fragment q) (part_v4 h q x) p is in subst (IsPartOf out) cut.1 (inr fragment)
part_from made out (Ip6 link h x) (inl whole) p is = absurd (no_part h x (following_headers h x) p whole.0 is)
part_from made out (Ip6 link h x) (inr fragment) p is =
    subst (IsPartOf out) (same_part (part_in (Ip6 link h x)) None fragment.part p fragment.part_is is) (inr fragment.of)

part_of_from : (made : Makes) (out : List Outgoing) (content : Option IncomingValue) → AreFrom made out content →
    (p : FragmentValue) → part_of content ≡ Some p → IsPartOf out p
part_of_from made out None from p is = absurd cc
part_of_from made out (Some v) from p is = part_from made out v from p is

-- a packet of IPv6 that is a fragment
there_v6 : (h : Ipv6Repr) (x : List ℕ) (following : Following) → Headers.is_fragment following ≡ true → (p : FragmentValue) × (part_following h x following ≡ Some p)
there_v6 h x (End.FragmentPart at) cut = (_, refl)
there_v6 h x (End.Upper protocol at) cut = absurd cc
there_v6 h x (End.Problem problem pointer) cut = absurd cc
there_v6 h x End.Nothing cut = absurd cc

pub key_v6_is : (h : Ipv6Repr) (x : List ℕ) (following : Following) (p : FragmentValue) → part_following h x following ≡ Some p → (n : ℕ)
    × (p.key ≡ Keys.Ipv6 (record { id = n; src_addr = h.src_addr; dst_addr = h.dst_addr }))
key_v6_is h x (End.FragmentPart at) p is = (_, let e : part_v6 h (drop at x) ≡ p = cc in sym (ap (λ (q : FragmentValue). q.key) e))
key_v6_is h x (End.Upper protocol at) p is = absurd cc
key_v6_is h x (End.Problem problem pointer) p is = absurd cc
key_v6_is h x End.Nothing p is = absurd cc

module _ (made : Makes) (first : ℕ) (out : List Outgoing) (next : ℕ) (sent : AreSent made first next out) (few : AreFew out) where
  -- SLOTS

  -- the slots after a frame
  pub assemblers_keep : (i : InnerValue) (timeout : ℕ) (assemblers : Assemblers) (content : Option IncomingValue) → AreFrom made out content → AreAssemblersOf out assemblers →
      AreAssemblersOf out (assemblers_after i timeout assemblers content)
  assemblers_keep i timeout assemblers content from are =
      released_keeps first out next sent.numbered few (slot_in assemblers content) (kept i timeout assemblers content)
      (part_keeps first out next sent.numbered few i timeout assemblers are (part_of content) (part_of_from made out content from))

  -- and with room for a fragment before it
  room_keeps : (i : InnerValue) (assemblers : Assemblers) (content : Option IncomingValue) → AreAssemblersOf out assemblers →
      AreAssemblersOf out (with_room i assemblers content)
  room_keeps i assemblers content are =
      roomed (AreAssemblersOf out) i assemblers (λ at. changed_keeps (IsAssemblerOf out) freed at assemblers (λ s so. freed_is out s) are) are content

  -- WHAT IS WHOLE

  module _ (i : InnerValue) (timeout : ℕ) (assemblers : Assemblers) (are : AreAssemblersOf out assemblers) where
    -- what is complete once a content was taken in, of which this is the fragment
    complete : (content : Option IncomingValue) → AreFrom made out content → (p : FragmentValue) → part_of content ≡ Some p → (bytes : List ℕ) →
        bytes_at (slot_in assemblers content) (kept i timeout assemblers content) ≡ Some bytes → IsReassembledOf out p.key bytes
    complete content from p is bytes done =
        part_rebuilds first out next sent.numbered few i timeout assemblers are p (part_of_from made out content from p is) bytes
        (subst (λ (o : Option FragmentValue). bytes_at (slot_of assemblers o)
        (with_fragment i timeout assemblers o) ≡ Some bytes) is done)

    -- IPV4

    hands_by4 : (h : Ipv4Repr) (bytes : List ℕ) → IsReassembledOf out (Keys.Ipv4 (Ipv4.key_of h)) bytes →
        HandsMade made (Ip.Ipv4 (record h { payload_len = length bytes })) bytes
    hands_by4 h bytes (inl none) = hands_none made (Ip.Ipv4 (record h { payload_len = length bytes })) bytes none
    hands_by4 h bytes (inr of) = hands_v4 made out of.header (record h { payload_len = length bytes }) bytes sent.packets of.sent of.key_is

    reassembled4 : (link : Option EthernetRepr) (h : Ipv4Repr) (o : Option (List ℕ)) →
        ((bytes : List ℕ) → o ≡ Some bytes → HandsMade made (Ip.Ipv4 (record h { payload_len = length bytes })) bytes) → BringsMade made (reassembled link h o)
    reassembled4 link h None hands = tt
    reassembled4 link h (Some bytes) hands =
        elim (nat_lt (length bytes) (2 ^ 16 - 20)) as
        (λ b. BringsMade made (cond b (Some (Ip4 link (record h { payload_len = length bytes }) uncut bytes)) None))
        [ true ↦ hands bytes refl | false ↦ tt ]

    whole4 : (link : Option EthernetRepr) (h : Ipv4Repr) (p : Ipv4Fragment) (x : List ℕ) → IsFrom made out (Ip4 link h p x) → (cut : Bool) → is_fragment p ≡ cut →
        BringsMade made (cond cut (reassembled link h (bytes_at (slot_in assemblers (Some (Ip4 link h p x))) (kept i timeout assemblers (Some (Ip4 link h p x)))))
        (Some (Ip4 link h p x)))
    whole4 link h p x from true is =
        reassembled4 link h (bytes_at (slot_in assemblers (Some (Ip4 link h p x))) (kept i timeout assemblers (Some (Ip4 link h p x))))
        (λ bytes done. hands_by4 h bytes
        (complete (Some (Ip4 link h p x)) from (part_v4 h p x) (ap (λ (b : Bool). cond b (Some (part_v4 h p x)) None) is) bytes done))
    whole4 link h p x from false is =
        brings_whole made out (Ip4 link h p x) sent.packets from (λ l g q y same. let e : p ≡ q = cc in subst (λ (r : Ipv4Fragment). is_fragment r ≡ false) e is)
        (λ l g y same. absurd cc)

    -- IPV6

    hands_by6 : (h : Ipv6Repr) (n : ℕ) (bytes : List ℕ) → IsReassembledOf out (Keys.Ipv6 (record { id = n; src_addr = h.src_addr; dst_addr = h.dst_addr })) bytes →
        HandsMade made (Ip.Ipv6 (record h { next_header = Protocol.Ipv6Frag; payload_len = length bytes })) bytes
    hands_by6 h n bytes (inl none) = absurd none
    hands_by6 h n bytes (inr of) =
        hands_v6 made out (record { id = n; src_addr = h.src_addr; dst_addr = h.dst_addr }) (record h { next_header = Protocol.Ipv6Frag; payload_len = length bytes })
        bytes sent.packets of refl refl refl

    reassembled6 : (link : Option EthernetRepr) (h : Ipv6Repr) (o : Option (List ℕ)) →
        ((bytes : List ℕ) → o ≡ Some bytes → HandsMade made (Ip.Ipv6 (record h { next_header = Protocol.Ipv6Frag; payload_len = length bytes })) bytes)
        → BringsMade made (reassembled_v6 link h o)
    reassembled6 link h None hands = tt
    reassembled6 link h (Some bytes) hands =
        elim (nat_lt (length bytes) (2 ^ 16)) as
        (λ b. BringsMade made (cond b (Some (Ip6 link (record h { next_header = Protocol.Ipv6Frag; payload_len = length bytes }) bytes)) None))
        [ true ↦ hands bytes refl | false ↦ tt ]

    whole6 : (link : Option EthernetRepr) (h : Ipv6Repr) (x : List ℕ) → IsFrom made out (Ip6 link h x) → (cut : Bool) → is_fragment_v6 h x ≡ cut →
        BringsMade made (cond cut (reassembled_v6 link h (bytes_at (slot_in assemblers (Some (Ip6 link h x))) (kept i timeout assemblers (Some (Ip6 link h x)))))
        (Some (Ip6 link h x)))
    whole6 link h x from true is =
        let there = there_v6 h x (following_headers h x) is in
        let key = key_v6_is h x (following_headers h x) there.0 there.1 in
        reassembled6 link h (bytes_at (slot_in assemblers (Some (Ip6 link h x))) (kept i timeout assemblers (Some (Ip6 link h x))))
        (λ bytes done. hands_by6 h key.0 bytes
        (subst (λ (k : FragKey). IsReassembledOf out k bytes) key.1 (complete (Some (Ip6 link h x)) from there.0 there.1 bytes done)))
    whole6 link h x from false is =
        brings_whole made out (Ip6 link h x) sent.packets from (λ l g q y same. absurd cc)
        (λ l g y same. let a : h ≡ g = cc in let b : x ≡ y = cc in
        subst (λ (k : Ipv6Repr). is_fragment_v6 k y ≡ false) a (subst (λ (z : List ℕ). is_fragment_v6 h z ≡ false) b is))

    -- what is whole after a frame brings what was made
    pub whole_made : (content : Option IncomingValue) → AreFrom made out content → BringsMade made (whole_after i timeout assemblers content)
    whole_made None from = tt
    whole_made (Some (Arp link packet)) from = tt
    whole_made (Some (Ip4 link h p x)) from = whole4 link h p x from (is_fragment p) refl
    whole_made (Some (Ip6 link h x)) from = whole6 link h x from (is_fragment_v6 h x) refl

  -- A FRAME IS TAKEN

  -- the receiver of the same medium and the same checksums
  same_waits : (i i' : InnerValue) (waiting : List (List ℕ)) → i'.hardware ≡ i.hardware → AllByRecursion (BringsFrom made out i.hardware) waiting →
      AllByRecursion (BringsFrom made out i'.hardware) waiting
  same_waits i i' waiting same waits = subst (λ (h : HardwareAddress). AllByRecursion (BringsFrom made out h) waiting) (sym same) waits

  -- what a taken frame brings, whole or reassembled, was made
  pub taken_was_made : (i : InnerValue) (timeout : ℕ) (assemblers : Assemblers) (frame : List ℕ) (rest : List (List ℕ)) (content : Option IncomingValue)
      → IsReceiver made out i assemblers (frame ∷ rest) → IsContent i.hardware i.checksums frame content →
      BringsMade made (whole_arrived i timeout assemblers content)
  taken_was_made i timeout assemblers frame rest content r is =
      whole_made i timeout (with_room i assemblers (taken_in i content)) (room_keeps i assemblers (taken_in i content) r.assemblers_are) (taken_in i content)
      (taken_from made out i content (content_from made out i.hardware i.checksums frame content r.checksums r.waits.0 is))

  -- and the host is a receiver still
  pub taken_keeps : (i : InnerValue) (timeout : ℕ) (assemblers : Assemblers) (slots : Slots) (frame : List ℕ) (rest : List (List ℕ)) (content : Option IncomingValue)
      (assemblers' : Assemblers) (a : Arrived)
      → IsReceiver made out i assemblers (frame ∷ rest) → IsContent i.hardware i.checksums frame content → ArrivesAs i timeout assemblers slots content assemblers' a →
      IsReceiver made out a.inner assemblers' rest
  taken_keeps i timeout assemblers slots frame rest content assemblers' a r is arrives =
      let same = brings_same i slots (whole_arrived i timeout assemblers content) a arrives.1 in
      let from = taken_from made out i content (content_from made out i.hardware i.checksums frame content r.checksums r.waits.0 is) in
      record {
        checksums = same.checksums ∙ r.checksums;
        assemblers_are = subst (AreAssemblersOf out) (sym arrives.0) (assemblers_keep i timeout (with_room i assemblers (taken_in i content)) (taken_in i content) from
            (room_keeps i assemblers (taken_in i content) r.assemblers_are));
        waits = same_waits i a.inner rest same.hardware r.waits.1;
      }

  -- WHAT IS REBUILT

  -- what is whole once a fragment was taken in is a whole datagram
  pub taken_rebuilds : (i : InnerValue) (timeout : ℕ) (assemblers : Assemblers) (frame : List ℕ) (rest : List (List ℕ)) (v : IncomingValue) (p : FragmentValue)
      (bytes : List ℕ) → IsReceiver made out i assemblers (frame ∷ rest)
      → IsContent i.hardware i.checksums frame (Some v) → part_in v ≡ Some p
      → bytes_at (slot_in assemblers (Some v)) (kept i timeout assemblers (Some v)) ≡ Some bytes → IsReassembledOf out p.key bytes
  taken_rebuilds i timeout assemblers frame rest v p bytes receiver is cut done =
      let from = content_from made out i.hardware i.checksums frame (Some v) receiver.checksums receiver.waits.0 is in
      complete i timeout assemblers receiver.assemblers_are (Some v) from p cut bytes done

-- OTHER STEPS OF THE RECEIVER

module _ (made : Makes) (out : List Outgoing) where
  -- a frame that isn't read
  pub skipped_keeps : (i : InnerValue) (assemblers : Assemblers) (frame : List ℕ) (rest : List (List ℕ)) → IsReceiver made out i assemblers (frame ∷ rest) →
      IsReceiver made out i assemblers rest
  skipped_keeps i assemblers frame rest r = record { checksums = r.checksums; assemblers_are = r.assemblers_are; waits = r.waits.1 }

  -- slots that are given up
  pub expired_receiver : (i : InnerValue) (assemblers : Assemblers) (waiting : List (List ℕ)) (instant : ℤ) → IsReceiver made out i assemblers waiting →
      IsReceiver made out i (without_expired assemblers instant) waiting
  expired_receiver i assemblers waiting instant r = record { checksums = r.checksums; assemblers_are = expired_keep out assemblers instant r.assemblers_are; waits = r.waits }

  -- a host with the same checksums, on the same medium
  pub receiver_same : (i i' : InnerValue) (assemblers : Assemblers) (waiting : List (List ℕ)) → i'.checksums ≡ i.checksums → i'.hardware ≡ i.hardware →
      IsReceiver made out i assemblers waiting → IsReceiver made out i' assemblers waiting
  receiver_same i i' assemblers waiting caps hardware r = record {
    checksums = caps ∙ r.checksums;
    assemblers_are = r.assemblers_are;
    waits = subst (λ (h : HardwareAddress). AllByRecursion (BringsFrom made out h) waiting) (sym hardware) r.waits;
  }

  -- one more frame waits
  pub handed_receiver : (i : InnerValue) (assemblers : Assemblers) (waiting : List (List ℕ)) (frame : List ℕ) → BringsFrom made out i.hardware frame →
      IsReceiver made out i assemblers waiting → IsReceiver made out i assemblers (waiting ++ frame ∷ [])
  handed_receiver i assemblers waiting frame brings r =
      record { checksums = r.checksums; assemblers_are = r.assemblers_are; waits = all_more (BringsFrom made out i.hardware) waiting frame r.waits brings }
