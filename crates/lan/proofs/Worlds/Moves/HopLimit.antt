-- A host that knows throughout a poll where its frames for a destination go knows it in between.
use Rattle.std.proofs.Common.{◌≡◌, inl, inr, ℕ, zero, suc, ◌+◌, ◌-◌, ◌<◌, ◌≤◌, ℤ, pos, ◌+ℤ◌, int_lt, Bool, true, false, ◌||◌, cond, if◌then◌else◌, nat_lt, List, [], ◌∷◌, ◌++◌, length}
use Rattle.std.proofs.Common.{take, drop, get_or, Option, Some, None, IfSome, refl, sym, ap, ◌∙◌, subst, arith}
use Rattle.std.specs.Prelude.{find, position, remove, slice_set}
use Rattle.std.specs.List.{AllByRecursion, list_any}
use Rattle.std.proofs.lemmas.Bool.Decides.{nat_tests}
use Rattle.std.proofs.lemmas.Int.{ints}
use Rattle.std.proofs.lemmas.List.{length-append, length-set, length-take, length-drop}
use Rattle.std.proofs.lemmas.List.Quantifiers.{position-Some}
use Rattle.std.proofs.lemmas.Option.{get_or_from_slice_get}
use Rattle.iface_ingress.specs.AddressTests.{is_broadcast_v4, is_multicast}
use Rattle.iface_ingress.specs.Icmpv6 as Icmpv6
use Rattle.lan.specs.Worlds.AtLink.Ndisc.{NeighborMessage, Solicitation, Advertisement}
use Rattle.sim_link.specs.ChecksumCapabilities.{ChecksumCapabilities}
use Rattle.iface_ingress.specs.HardwareAddress.{HardwareAddress}
use Rattle.iface_ingress.specs.HardwareAddress.TheVariants as Hardware
use Rattle.iface_ingress.specs.IpAddress.{IpAddress}
use Rattle.iface_ingress.specs.IpAddress.TheVariants as Address
use Rattle.iface_ingress.specs.IpProtocol.TheVariants as Protocol
use Rattle.iface_ingress.specs.EthernetRepr.{EthernetRepr}
use Rattle.iface_ingress.specs.ArpRepr.{ArpRepr}
use Rattle.iface_ingress.specs.ArpRepr.TheVariants as Arps
use Rattle.interface.specs.IpRepr.{IpRepr}
use Rattle.interface.specs.IpRepr.TheVariants as Ip
use Rattle.interface.specs.Ipv4Repr.{Ipv4Repr}
use Rattle.interface.specs.Ipv6Repr.{Ipv6Repr}
use Rattle.interface.specs.SameHost.{IsSameHost}
use Rattle.wire_tcp.specs.declared.header.TcpHeader.{TcpHeader}
use Rattle.ip_wire.specs.AddressTests.{is_same_address, is_same_hardware}
use Rattle.ip_wire.specs.EthernetAddress.{EthernetAddress}
use Rattle.ip_wire.specs.Ipv6Address.{Ipv6Address}
use Rattle.ip_wire.specs.IpCidr.{IpCidr}
use Rattle.interface.specs.NdiscNeighborFlags.{NdiscNeighborFlags}
use Rattle.sockets.specs.Packet.{PayloadValue, ControlV4, ControlV6, Bytes, Datagram, Segment}
use Rattle.iface_egress.specs.Departing.{HasSettingsOf}
use Rattle.iface_tables.specs.Best.{at_index}
use Rattle.iface_tables.specs.Inner.{InnerValue, at_instant, context_of, is_broadcast_of, is_local_broadcast, next_hop, link_by, link_of_hop, link_on, link_address}
use Rattle.iface_tables.specs.Inner.{all_stations, asked_of, group_hardware_addr, with_error, with_neighbor, with_path, with_renewal}
use Rattle.iface_tables.specs.Neighbor.{CacheValue, lookup, missing, answer_by, neighbor_index_of, is_of, unless_failed, has_failed, filled_at, victim}
use Rattle.iface_tables.specs.Neighbor.{entry_lifetime, renewed_at, renewed_entry}
use Rattle.iface_tables.specs.declared.link.LinkAddress.{LinkAddress}
use Rattle.iface_tables.specs.declared.link.LinkAddress.TheVariants as Link
use Rattle.iface_tables.specs.declared.neighbor.Answer.{Answer}
use Rattle.iface_tables.specs.declared.neighbor.Answer.TheVariants as Known
use Rattle.iface_tables.specs.declared.neighbor.Neighbor.{Neighbor}
use Rattle.iface_tables.proofs.PathMtu.{at_first, find_last, is_found, itself, none_found, none_removed, same_address}
use Rattle.iface_ingress.specs.Arp.{teaches, learned, arp_arrived}
use Rattle.iface_ingress.specs.Arrives.{Arrived, ArrivesV4, ArrivesV6, Brings, Hands, is_direct, sender_of, renewed, renewed_by, whole_arrived}
use Rattle.iface_ingress.specs.Delivered.{Slots, drawn_if, is_taken_raw, packet_delivered, segment_draws}
use Rattle.iface_ingress.specs.Processed.{handed_host, handed_reply, is_unclaimed, limited_host, message_host, names_no_endpoint, segment_host}
use Rattle.iface_ingress.specs.Ndisc as Hearing
use Rattle.iface_ingress.specs.Ndisc.{advertised, answer, asks_host, heard, heard_at, heard_on, neighbor_learned, replaces, hardware_addr, tells}
use Rattle.iface_ingress.specs.Incoming.{IncomingValue, IsContent, Arp, Ip4, Ip6}
use Rattle.iface_ingress.specs.FragmentStored.{HasSameSettings}
use Rattle.iface_ingress.specs.Reassembled.{Assemblers, bytes_at, is_control_v6, is_fragment, is_fragment_v6, is_taken_in, kept, slot_in, reassembled, reassembled_v6, taken_in, uncut, whole_of, with_room}
use Rattle.iface_ingress.specs.Upper.{IsBrought}
use Rattle.iface_ingress.proofs.Limit.{counted_so}
use Rattle.iface_ingress.proofs.PathTold.{path_v4_so, path_v6_so}
use Rattle.lan.specs.Worlds.Moves.HopLimit.{FrameTellsAtMost, GoesTo, HasRoom, IsLinkOf, KnowsHop, TellsAtMost, TellsInMessage}

-- SEARCHES

module _ {X : Type 0} (t : X → Bool) where
  find_more : (xs : List X) (y x : X) → find t xs ≡ Some x → find t (xs ++ y ∷ []) ≡ Some x
  find_more [] y x is = absurd (let never : (let none : Option X = None in none) ≡ Some x = is in cc)
  find_more (z ∷ xs) y x is = by (t z) is (λ rest. find_more xs y x rest) where
    by : (b : Bool) → cond b (Some z) (find t xs) ≡ Some x → (find t xs ≡ Some x → find t (xs ++ y ∷ []) ≡ Some x) →
        cond b (Some z) (find t (xs ++ y ∷ [])) ≡ Some x
    by true this rest = this
    by false later rest = rest later

  find_set_other : (xs : List X) (i : ℕ) (y d : X) → t y ≡ false → t (get_or xs i d) ≡ false → find t (slice_set xs i y) ≡ find t xs
  find_set_other [] i y d off was = refl
  find_set_other (x ∷ xs) zero y d off was =
      ap (λ (b : Bool). cond b (Some y) (find t xs)) off ∙ sym (ap (λ (b : Bool). cond b (Some x) (find t xs)) was)
  find_set_other (x ∷ xs) (suc i) y d off was = ap (λ (o : Option X). cond (t x) (Some x) o) (find_set_other xs i y d off was)

-- WHO IS BELIEVED

abbrev pub Roomy : InnerValue → Type 0
Roomy i = HasRoom i.neighbors

module _ (t : ℤ) (hop : IpAddress) (to : HardwareAddress) where
  -- at this instant the entry of the neighbor is believed, and has this hardware address
  record IsBelieved (entries : List Neighbor) : Type 0 where
    entry : Neighbor
    found : find (is_of hop) entries ≡ Some entry
    lives : int_lt t entry.expires_at ≡ true
    is : entry.hardware_addr ≡ to

  abbrev Believed : InnerValue → Type 0
  Believed i = IsBelieved i.neighbors.entries

  -- as a lookup says
  missing_never : (c : CacheValue) → missing c t ≡ Known.Found to → ⊥
  missing_never c = by (int_lt t c.silent) where
    by : (b : Bool) → (if b then Known.RateLimited else Known.NotFound) ≡ Known.Found to → ⊥
    by true is = cc
    by false is = cc

  unless_found : (failed : Bool) (a : Answer) → unless_failed failed a ≡ Known.Found to → a ≡ Known.Found to
  unless_found failed (Known.Found hardware) is = is
  unless_found true Known.NotFound is = absurd (let never : Known.Unanswered ≡ Known.Found to = is in cc)
  unless_found false Known.NotFound is = is
  unless_found true Known.RateLimited is = absurd (let never : Known.Unanswered ≡ Known.Found to = is in cc)
  unless_found false Known.RateLimited is = is
  unless_found failed Known.Unanswered is = is

  answered : (c : CacheValue) (o : Option Neighbor) → find (is_of hop) c.entries ≡ o → answer_by o c t ≡ Known.Found to → IsBelieved c.entries
  answered c None found is = absurd (missing_never c is)
  answered c (Some entry) found is = by (int_lt t entry.expires_at) refl is where
    by : (b : Bool) → int_lt t entry.expires_at ≡ b → (if b then Known.Found entry.hardware_addr else missing c t) ≡ Known.Found to → IsBelieved c.entries
    by true lives is = record { entry = entry; found = found; lives = lives; is = (let same : Known.Found entry.hardware_addr ≡ Known.Found to = is in cc) }
    by false dead is = absurd (missing_never c is)

  believed_of : (c : CacheValue) → lookup c hop t ≡ Known.Found to → IsBelieved c.entries
  believed_of c is =
      answered c (find (is_of hop) c.entries) refl
      (ap (λ (o : Option Neighbor). answer_by o c t) (sym (at_first (is_of hop) c.entries))
      ∙ unless_found (has_failed c hop t) (answer_by (at_index (neighbor_index_of c.entries hop) c.entries) c t) is)

  lookup_of : (c : CacheValue) → IsBelieved c.entries → lookup c hop t ≡ Known.Found to
  lookup_of c b =
      ap (λ (o : Option Neighbor). unless_failed (has_failed c hop t) (answer_by o c t)) (at_first (is_of hop) c.entries ∙ b.found)
      ∙ ap (λ (x : Bool). unless_failed (has_failed c hop t) (if x then Known.Found b.entry.hardware_addr else missing c t)) b.lives
      ∙ ap (λ (h : HardwareAddress). Known.Found h) b.is

  -- AN ENTRY MORE

  lives_on : (n : ℕ) → 0 < n → int_lt t (t +ℤ pos n) ≡ true
  lives_on n some = grind (arith, ints)

  apart_there : (d address : IpAddress) → is_same_address address hop ≡ false → is_same_address d address ≡ true → is_same_address d hop ≡ false
  apart_there d address apart is = subst (λ (x : IpAddress). is_same_address x hop ≡ false) (sym (same_address d address is)) apart

  abbrev filled_in : ℕ → List Neighbor → Neighbor → List Neighbor
  filled_in room entries new = filled_at (neighbor_index_of entries new.protocol_addr) room entries new

  removed_most : (xs : List Neighbor) (v : ℕ) (new : Neighbor) → length xs ≤ length (remove xs v ++ new ∷ [])
  removed_most xs v new =
      let taken = length-take v xs in
      let dropped = length-drop (suc v) xs in
      let joined = length-append (take v xs) (drop (suc v) xs) in
      let all = length-append (remove xs v) (new ∷ []) in
      omega (arith, taken, dropped, joined, all)

  no_fewer : (room : ℕ) (entries : List Neighbor) (new : Neighbor) (o : Option ℕ) → length entries ≤ length (filled_at o room entries new)
  no_fewer room entries new (Some at) = omega (arith, length-set entries at new)
  no_fewer room entries new None =
      elim (nat_lt (length entries) room) as
      (λ (b : Bool). length entries ≤ length (if b then entries ++ new ∷ [] else remove entries (victim entries) ++ new ∷ [])) [
        | true ↦ omega (arith, length-append entries (new ∷ []))
        | false ↦ removed_most entries (victim entries) new
      ]

  -- the neighbor's own entry
  own_entry : (room : ℕ) (entries : List Neighbor) (new : Neighbor) (o : Option ℕ) → position (is_of new.protocol_addr) entries ≡ o → new.protocol_addr ≡ hop →
      find (is_of hop) (filled_at o room entries new) ≡ Some new
  own_entry room entries new (Some at) is same =
      is_found (is_of hop) entries at new (ap (λ (a : IpAddress). position (is_of a) entries) (sym same) ∙ is)
      (ap (λ (a : IpAddress). is_same_address new.protocol_addr a) (sym same) ∙ itself new.protocol_addr)
  own_entry room entries new None is same = by (nat_lt (length entries) room) where
    ours : is_of hop new ≡ true
    ours = ap (λ (a : IpAddress). is_same_address new.protocol_addr a) (sym same) ∙ itself new.protocol_addr

    none : find (is_of hop) entries ≡ None
    none = none_found (is_of hop) entries (ap (λ (a : IpAddress). position (is_of a) entries) (sym same) ∙ is)

    by : (b : Bool) → find (is_of hop) (if b then entries ++ new ∷ [] else remove entries (victim entries) ++ new ∷ []) ≡ Some new
    by true = find_last (is_of hop) entries new none ours
    by false = find_last (is_of hop) (remove entries (victim entries)) new
        (none_removed (is_of hop) entries (victim entries) none) ours

  -- another one's, where there is room after it
  other_entry : (room : ℕ) (entries : List Neighbor) (new entry : Neighbor) (o : Option ℕ) → position (is_of new.protocol_addr) entries ≡ o
      → is_of hop new ≡ false → length (filled_at o room entries new) < room → find (is_of hop) entries ≡ Some entry
      → find (is_of hop) (filled_at o room entries new) ≡ Some entry
  other_entry room entries new entry (Some at) is apart fits found =
      find_set_other (is_of hop) entries at new new apart
      (apart_there (get_or entries at new).protocol_addr new.protocol_addr apart (position-Some (is_of new.protocol_addr) entries at new is).1)
      ∙ found
  other_entry room entries new entry None is apart fits found = by (nat_lt (length entries) room) refl fits where
    by : (b : Bool) → nat_lt (length entries) room ≡ b → length (if b then entries ++ new ∷ [] else remove entries (victim entries) ++ new ∷ []) < room
        → find (is_of hop) (if b then entries ++ new ∷ [] else remove entries (victim entries) ++ new ∷ []) ≡ Some entry
    by true less fits = find_more (is_of hop) entries new entry found
    by false full fits =
        let most = removed_most entries (victim entries) new in
        let least : room ≤ length entries = grind (arith, nat_tests) in
        absurd (omega (arith, most, least, fits))

  filled_so : (room : ℕ) (entries : List Neighbor) (new : Neighbor) → (new.protocol_addr ≡ hop → new.hardware_addr ≡ to) → int_lt t new.expires_at ≡ true
      → length (filled_in room entries new) < room → IsBelieved entries → IsBelieved (filled_in room entries new)
  filled_so room entries new told late fits b = by (is_of hop new) refl where
    by : (ours : Bool) → is_of hop new ≡ ours → IsBelieved (filled_in room entries new)
    by true is =
        let same : new.protocol_addr ≡ hop = same_address new.protocol_addr hop is in record {
          entry = new;
          found = own_entry room entries new (neighbor_index_of entries new.protocol_addr) refl same;
          lives = late;
          is = told same;
        }
    by false is = record {
      entry = b.entry;
      found = other_entry room entries new b.entry (neighbor_index_of entries new.protocol_addr) refl is fits b.found;
      lives = b.lives;
      is = b.is;
    }

  -- AN ENTRY RENEWED

  abbrev renewed_in : List Neighbor → IpAddress → HardwareAddress → ℤ → List Neighbor
  renewed_in entries address hardware now = renewed_at (neighbor_index_of entries address) (at_index (neighbor_index_of entries address) entries) entries hardware now

  renewed_length : (entries : List Neighbor) (o : Option ℕ) (e : Option Neighbor) (hardware : HardwareAddress) (now : ℤ) →
      length (renewed_at o e entries hardware now) ≡ length entries
  renewed_length entries None e hardware now = refl
  renewed_length entries (Some at) None hardware now = refl
  renewed_length entries (Some at) (Some entry) hardware now = length-set entries at (renewed_entry entry hardware now)

  -- it stays the neighbor's, with its hardware address, and lives
  renewed_one : (entry : Neighbor) (hardware : HardwareAddress) → is_of hop (renewed_entry entry hardware t) ≡ is_of hop entry
  renewed_one entry hardware =
      elim (is_same_hardware entry.hardware_addr hardware) as
      (λ (b : Bool). is_of hop (if b then record entry { expires_at = t +ℤ pos entry_lifetime } else entry) ≡ is_of hop entry) [ true ↦ refl | false ↦ refl ]

  renewed_address : (entry : Neighbor) (hardware : HardwareAddress) → (renewed_entry entry hardware t).hardware_addr ≡ entry.hardware_addr
  renewed_address entry hardware =
      elim (is_same_hardware entry.hardware_addr hardware) as
      (λ (b : Bool). (if b then record entry { expires_at = t +ℤ pos entry_lifetime } else entry).hardware_addr ≡ entry.hardware_addr) [
        | true ↦ refl
        | false ↦ refl
      ]

  renewed_lives : (entry : Neighbor) (hardware : HardwareAddress) → int_lt t entry.expires_at ≡ true → int_lt t (renewed_entry entry hardware t).expires_at ≡ true
  renewed_lives entry hardware lives =
      elim (is_same_hardware entry.hardware_addr hardware) as
      (λ (b : Bool). int_lt t (if b then record entry { expires_at = t +ℤ pos entry_lifetime } else entry).expires_at ≡ true) [
        | true ↦ lives_on entry_lifetime (omega arith)
        | false ↦ lives
      ]

  renewed_so : (entries : List Neighbor) (address : IpAddress) (hardware : HardwareAddress) (o : Option ℕ) (e : Option Neighbor)
      → position (is_of address) entries ≡ o → at_index o entries ≡ e → IsBelieved entries → IsBelieved (renewed_at o e entries hardware t)
  renewed_so entries address hardware None e is got b = b
  renewed_so entries address hardware (Some at) None is got b = b
  renewed_so entries address hardware (Some at) (Some entry) is got b = by (is_same_address address hop) refl where
    new : Neighbor
    new = renewed_entry entry hardware t

    its : is_of address entry ≡ true
    its = ap (is_of address) (sym (get_or_from_slice_get entries at entry entry got)) ∙ (position-Some (is_of address) entries at entry is).1

    by : (ours : Bool) → is_same_address address hop ≡ ours → IsBelieved (slice_set entries at new)
    by true same =
        let slot : position (is_of hop) entries ≡ Some at = ap (λ (a : IpAddress). position (is_of a) entries) (sym (same_address address hop same)) ∙ is in
        let one : Some b.entry ≡ Some entry =
        sym b.found ∙ sym (at_first (is_of hop) entries) ∙ ap (λ (o : Option ℕ). at_index o entries) slot ∙ got in
        let this : b.entry ≡ entry = cc in
        let ours : is_of hop entry ≡ true = ap (λ (a : IpAddress). is_of a entry) (sym (same_address address hop same)) ∙ its in record {
          entry = new;
          found = is_found (is_of hop) entries at new slot (renewed_one entry hardware ∙ ours);
          lives = renewed_lives entry hardware (ap (λ (n : Neighbor). int_lt t n.expires_at) (sym this) ∙ b.lives);
          is = renewed_address entry hardware ∙ ap (λ (n : Neighbor). n.hardware_addr) (sym this) ∙ b.is;
        }
    by false apart = record {
      entry = b.entry;
      found = find_set_other (is_of hop) entries at new entry
          (renewed_one entry hardware ∙ apart_there entry.protocol_addr address apart its)
          (apart_there (get_or entries at entry).protocol_addr address apart (position-Some (is_of address) entries at entry is).1)
          ∙ b.found;
      lives = b.lives;
      is = b.is;
    }

  -- WHAT COMES to a host, if X says that nothing else is told

  module _ (X : Type 0) where
    record Keeps (i i' : InnerValue) : Type 0 where
      instant : i'.instant ≡ i.instant
      room : Roomy i' → Roomy i
      believed : i.instant ≡ t → X → Roomy i' → Believed i → Believed i'

    keeps_same : (i i' : InnerValue) → i'.instant ≡ i.instant → i'.neighbors ≡ i.neighbors → Keeps i i'
    keeps_same i i' instant same = record {
      instant = instant;
      room = λ has. subst (λ (c : CacheValue). length c.entries < c.room) same has;
      believed = λ now told has b. subst (λ (c : CacheValue). IsBelieved c.entries) (sym same) b;
    }

    keeps_itself : (i : InnerValue) → Keeps i i
    keeps_itself i = keeps_same i i refl refl

    keeps_then : (i j k : InnerValue) → Keeps i j → Keeps j k → Keeps i k
    keeps_then i j k first second = record {
      instant = second.instant ∙ first.instant;
      room = λ has. first.room (second.room has);
      believed = λ now told has b. second.believed (first.instant ∙ now) told has (first.believed now told (second.room has) b);
    }

    keeps_at : (i j k : InnerValue) → k ≡ j → Keeps i j → Keeps i k
    keeps_at i j k is keeps = subst (Keeps i) (sym is) keeps

    fills : (i : InnerValue) (address : IpAddress) (hardware : HardwareAddress) → (X → address ≡ hop → hardware ≡ to) → Keeps i (with_neighbor i address hardware)
    fills i address hardware told = record {
      instant = refl;
      room = λ has.
          let more = no_fewer i.neighbors.room i.neighbors.entries new (neighbor_index_of i.neighbors.entries address) in
          let fits : length (filled_in i.neighbors.room i.neighbors.entries new) < i.neighbors.room = has in
          omega (arith, more, fits);
      believed = λ now so has b. filled_so i.neighbors.room i.neighbors.entries new (told so)
          (subst (λ (u : ℤ). int_lt t (u +ℤ pos entry_lifetime) ≡ true) (sym now) (lives_on entry_lifetime (omega arith))) has b;
    } where
      new : Neighbor
      new = record { protocol_addr = address; hardware_addr = hardware; expires_at = i.instant +ℤ pos entry_lifetime }

    renews : (i : InnerValue) (address : IpAddress) (hardware : HardwareAddress) → Keeps i (with_renewal i address hardware)
    renews i address hardware = record {
      instant = refl;
      room = λ has.
          let same = renewed_length entries (neighbor_index_of entries address) (at_index (neighbor_index_of entries address) entries) hardware i.instant in
          let fits : length (renewed_in entries address hardware i.instant) < i.neighbors.room = has in
          omega (arith, same, fits);
      believed = λ now so has b.
          subst (λ (u : ℤ). IsBelieved (renewed_in entries address hardware u)) (sym now)
          (renewed_so entries address hardware (neighbor_index_of entries address) (at_index (neighbor_index_of entries address) entries) refl refl b);
    } where
      entries : List Neighbor
      entries = i.neighbors.entries

    -- what carries it
    keeps_drawn : (draws : Bool) (i : InnerValue) → Keeps i (drawn_if draws i)
    keeps_drawn true i = keeps_same i (drawn_if true i) refl refl
    keeps_drawn false i = keeps_itself i

    keeps_segment : (i : InnerValue) (slots : Slots) (ip : IpRepr) (header : TcpHeader) (bytes : List ℕ) → Keeps i (segment_host i slots ip header bytes)
    keeps_segment i slots ip header bytes =
        elim (names_no_endpoint i ip) as (λ (b : Bool). Keeps i (if b then i else drawn_if (segment_draws (context_of i) ip header bytes slots) i)) [
          | true ↦ keeps_itself i
          | false ↦ keeps_drawn (segment_draws (context_of i) ip header bytes slots) i
        ]

    keeps_learned : (i : InnerValue) (source : Ipv6Address) (link : Option (List ℕ)) → (X → Address.Ipv6 source ≡ hop → IsLinkOf to link) →
        Keeps i (Hearing.learned i source link)
    keeps_learned i source None told = keeps_itself i
    keeps_learned i source (Some link) told = fills i (Address.Ipv6 source) (Hardware.Ethernet (hardware_addr link)) told

    keeps_advertised : (i : InnerValue) (flags : NdiscNeighborFlags) (target : Ipv6Address) (link : Option (List ℕ))
        → (X → Address.Ipv6 target ≡ hop → IsLinkOf to link) → Keeps i (advertised i flags target link)
    keeps_advertised i flags target link told =
        elim (replaces i flags target) as (λ (b : Bool). Keeps i (if b then Hearing.learned i target link else i)) [
          | true ↦ keeps_learned i target link told
          | false ↦ keeps_itself i
        ]

    keeps_heard_at : (own : EthernetAddress) (i : InnerValue) (header : Ipv6Repr) (message : NeighborMessage) → (X → TellsInMessage hop to header message) →
        Keeps i (heard_at own i header message).inner
    keeps_heard_at own i header (Solicitation target link) told =
        elim (asks_host i header target link) as
        (λ (b : Bool). Keeps i (if b then heard (Hearing.learned i header.src_addr link) (answer own i header target) else heard i None).inner) [
          | true ↦ keeps_learned i header.src_addr link told
          | false ↦ keeps_itself i
        ]
    keeps_heard_at own i header (Advertisement flags target link) told =
        elim (tells header flags target link) as (λ (b : Bool). Keeps i (if b then heard (advertised i flags target link) None else heard i None).inner) [
          | true ↦ keeps_advertised i flags target link told
          | false ↦ keeps_itself i
        ]

    keeps_heard : (h : HardwareAddress) (i : InnerValue) (header : Ipv6Repr) (message : NeighborMessage) → (X → TellsInMessage hop to header message) →
        Keeps i (heard_on h i header message).inner
    keeps_heard Hardware.Ip i header message told = keeps_itself i
    keeps_heard (Hardware.Ethernet own) i header message told = keeps_heard_at own i header message told

    -- what is asked of a message in an IPv6 packet
    abbrev Says : Ipv6Repr → Icmpv6.MessageValue → Type 0
    Says header (Icmpv6.Ndisc message) = X → is_control_v6 header.next_header ≡ true → TellsInMessage hop to header message
    Says header message = Unit {0}

    keeps_told : (i : InnerValue) (address : IpAddress) (mtu : ℕ) → Keeps i (with_path i address mtu)
    keeps_told i address mtu = keeps_same i (with_path i address mtu) refl refl

    keeps_message : (i : InnerValue) (slots : Slots) (header : Ipv6Repr) (message : Icmpv6.MessageValue) (bytes : List ℕ) → Says header message →
        Keeps i (message_host i slots header message bytes)
    keeps_message i slots header (Icmpv6.DstUnreachable reason about) bytes says = keeps_itself i
    keeps_message i slots header (Icmpv6.PktTooBig mtu about) bytes says =
        path_v6_so (Keeps i) i (keeps_itself i) (keeps_told i) slots (Icmpv6.PktTooBig mtu about) bytes
    keeps_message i slots header (Icmpv6.TimeExceeded reason about) bytes says = keeps_itself i
    keeps_message i slots header (Icmpv6.ParamProblem reason pointer about) bytes says = keeps_itself i
    keeps_message i slots header (Icmpv6.EchoRequest ident seq_no) bytes says = keeps_itself i
    keeps_message i slots header (Icmpv6.EchoReply ident seq_no) bytes says = keeps_itself i
    keeps_message i slots header (Icmpv6.Ndisc message) bytes says = by (is_control_v6 header.next_header) refl where
      by : (b : Bool) → is_control_v6 header.next_header ≡ b → Keeps i (if b then (neighbor_learned i header message).inner else i)
      by true is = keeps_heard i.hardware i header message (λ x. says x is)
      by false is = keeps_itself i

    -- and of what a packet carries
    abbrev SaysIn : IpRepr → Option PayloadValue → Type 0
    SaysIn (Ip.Ipv6 header) (Some (ControlV6 message bytes)) = Says header message
    SaysIn ip carried = Unit {0}

    keeps_handed : (i : InnerValue) (slots : Slots) (ip : IpRepr) (payload : List ℕ) (carried : Option PayloadValue) → SaysIn ip carried →
        Keeps i (handed_host i slots ip payload carried)
    keeps_handed i slots (Ip.Ipv4 header) payload (Some (ControlV4 message bytes)) says =
        path_v4_so (Keeps i) i (keeps_itself i) (keeps_told i) slots payload message bytes
    keeps_handed i slots (Ip.Ipv6 header) payload (Some (ControlV4 message bytes)) says = keeps_itself i
    keeps_handed i slots (Ip.Ipv4 header) payload (Some (ControlV6 message bytes)) says = keeps_itself i
    keeps_handed i slots (Ip.Ipv6 header) payload (Some (ControlV6 message bytes)) says = keeps_message i slots header message bytes says
    keeps_handed i slots ip payload (Some (Bytes bytes)) says = keeps_itself i
    keeps_handed i slots ip payload (Some (Datagram udp bytes)) says = keeps_itself i
    keeps_handed i slots ip payload (Some (Segment header bytes)) says = keeps_segment i slots ip header bytes
    keeps_handed i slots ip payload None says = keeps_itself i

    keeps_limited : (i : InnerValue) (slots : Slots) (ip : IpRepr) (payload : List ℕ) (taken : Bool) (carried : Option PayloadValue) → SaysIn ip carried →
        Keeps i (limited_host i slots ip payload taken carried)
    keeps_limited i slots ip payload taken carried says =
        let after = handed_host i slots ip payload carried in
        let same = keeps_handed i slots ip payload carried says in
        counted_so (Keeps i) (is_unclaimed i slots ip carried) i (handed_reply i slots ip payload taken carried) after same
        (keeps_then i after (with_error after) same (keeps_same after (with_error after) refl refl))

    keeps_renewed : (i : InnerValue) (link : Option EthernetRepr) (ip : IpRepr) → Keeps i (renewed i link ip) × ((renewed i link ip).checksums ≡ i.checksums)
    keeps_renewed i link ip =
        elim (is_direct i ip) as (λ (b : Bool). Keeps i (if b then renewed_by i link (sender_of ip) else i)
        × ((if b then renewed_by i link (sender_of ip) else i).checksums ≡ i.checksums)) [ true ↦ by link | false ↦ (keeps_itself i, refl) ]
      where
        by : (link : Option EthernetRepr) → Keeps i (renewed_by i link (sender_of ip)) × ((renewed_by i link (sender_of ip)).checksums ≡ i.checksums)
        by None = (keeps_itself i, refl)
        by (Some link) = (renews i (sender_of ip) (Hardware.Ethernet link.src_addr), refl)

    keeps_in : (i : InnerValue) (slots : Slots) (link : Option EthernetRepr) (ip : IpRepr) (payload : List ℕ) (taken : Bool) (a : Arrived)
        → ((carried : Option PayloadValue) → IsBrought i.checksums ip payload carried → SaysIn ip carried) → Hands (renewed i link ip) slots ip payload taken a
        → Keeps i a.inner
    keeps_in i slots link ip payload taken a says (carried, is, handed) =
        let first = keeps_renewed i link ip in
        keeps_at i (limited_host (renewed i link ip) slots ip payload taken carried) a.inner handed.inner
        (keeps_then i (renewed i link ip) (limited_host (renewed i link ip) slots ip payload taken carried) first.0
        (keeps_limited (renewed i link ip) slots ip payload taken carried
        (says carried (subst (λ (caps : ChecksumCapabilities). IsBrought caps ip payload carried) first.1 is))))

    keeps_v4 : (ours : Bool) (i : InnerValue) (slots : Slots) (link : Option EthernetRepr) (header : Ipv4Repr) (payload : List ℕ) (a : Arrived) →
        ArrivesV4 ours i slots link (Ip.Ipv4 header) payload a → Keeps i a.inner
    keeps_v4 true i slots link header payload a h =
        keeps_in i (packet_delivered (Ip.Ipv4 header) payload slots) link (Ip.Ipv4 header) payload (is_taken_raw (Ip.Ipv4 header) slots) a
        (λ carried is. tt) h
    keeps_v4 false i slots link header payload a h = keeps_at i i a.inner h.inner (keeps_itself i)

    keeps_v6 : (ours : Bool) (i : InnerValue) (slots : Slots) (link : Option EthernetRepr) (header : Ipv6Repr) (payload : List ℕ) (a : Arrived)
        → (X → TellsAtMost i.checksums hop to (Ip6 link header payload)) → ArrivesV6 ours i slots link (Ip.Ipv6 header) payload a → Keeps i a.inner
    keeps_v6 true i slots link header payload a told h =
        keeps_in i (packet_delivered (Ip.Ipv6 header) payload slots) link (Ip.Ipv6 header) payload (is_taken_raw (Ip.Ipv6 header) slots) a says h
      where
        says : (carried : Option PayloadValue) → IsBrought i.checksums (Ip.Ipv6 header) payload carried → SaysIn (Ip.Ipv6 header) carried
        says (Some (ControlV6 (Icmpv6.Ndisc message) bytes)) is = λ x one. told x message bytes one is
        says (Some (ControlV6 message bytes)) is = tt
        says (Some (ControlV4 message bytes)) is = tt
        says (Some (Bytes bytes)) is = tt
        says (Some (Datagram udp bytes)) is = tt
        says (Some (Segment header bytes)) is = tt
        says None is = tt
    keeps_v6 false i slots link header payload a told h = keeps_at i i a.inner h.inner (keeps_itself i)

    keeps_arp : (i : InnerValue) (link : EthernetRepr) (packet : ArpRepr) → (X → TellsAtMost i.checksums hop to (Arp link packet)) → Keeps i (arp_arrived i packet)
    keeps_arp i link packet told =
        elim (teaches i packet) as (λ (b : Bool). Keeps i (if b then learned i packet else i)) [ true ↦ by packet told | false ↦ keeps_itself i ]
      where
        by : (packet : ArpRepr) → (X → TellsAtMost i.checksums hop to (Arp link packet)) → Keeps i (learned i packet)
        by (Arps.EthernetIpv4 operation source_hardware source target_hardware target) told =
            fills i (Address.Ipv4 source) (Hardware.Ethernet source_hardware) told

    brings_keeps : (i : InnerValue) (slots : Slots) (content : Option IncomingValue) (a : Arrived) → (X → IfSome content (TellsAtMost i.checksums hop to))
        → Brings i slots content a → Keeps i a.inner
    brings_keeps i slots None a told h = keeps_at i i a.inner h.inner (keeps_itself i)
    brings_keeps i slots (Some (Arp link packet)) a told h = keeps_at i (arp_arrived i packet) a.inner h.inner (keeps_arp i link packet told)
    brings_keeps i slots (Some (Ip4 link header fragment payload)) a told h = keeps_v4 _ i slots link header payload a h
    brings_keeps i slots (Some (Ip6 link header payload)) a told h = keeps_v6 _ i slots link header payload a told h

  -- A DATAGRAM THAT IS REBUILT tells nothing (RFC 6980)

  module _ (caps : ChecksumCapabilities) where
    abbrev Says_ : Option IncomingValue → Type 0
    Says_ content = IfSome content (TellsAtMost caps hop to)

    reassembled_v4_tells : (link : Option EthernetRepr) (h : Ipv4Repr) (bytes : Option (List ℕ)) → Says_ (reassembled link h bytes)
    reassembled_v4_tells link h None = tt
    reassembled_v4_tells link h (Some bytes) = by (nat_lt (length bytes) _) where
      by : (fits : Bool) → Says_ (if fits then Some (Ip4 link (record h { payload_len = length bytes }) uncut bytes) else None)
      by true = tt
      by false = tt

    reassembled_v6_tells : (link : Option EthernetRepr) (h : Ipv6Repr) (bytes : Option (List ℕ)) → Says_ (reassembled_v6 link h bytes)
    reassembled_v6_tells link h None = tt
    reassembled_v6_tells link h (Some bytes) = by (nat_lt (length bytes) _) where
      by : (fits : Bool) → Says_ (if fits then Some (Ip6 link (record h { next_header = Protocol.Ipv6Frag; payload_len = length bytes }) bytes) else None)
      by true = λ message bytes is brought. absurd (let never : false ≡ true = is in cc)
      by false = tt

    whole_tells : (assemblers : Assemblers) (at : Option ℕ) (content : Option IncomingValue) → Says_ content → Says_ (whole_of assemblers at content)
    whole_tells assemblers at None says = tt
    whole_tells assemblers at (Some (Arp link packet)) says = says
    whole_tells assemblers at (Some (Ip4 link h fragment payload)) says = by (is_fragment fragment) where
      by : (is : Bool) → Says_ (if is then reassembled link h (bytes_at at assemblers) else Some (Ip4 link h fragment payload))
      by true = reassembled_v4_tells link h (bytes_at at assemblers)
      by false = tt
    whole_tells assemblers at (Some (Ip6 link h payload)) says = by (is_fragment_v6 h payload) where
      by : (is : Bool) → Says_ (if is then reassembled_v6 link h (bytes_at at assemblers) else Some (Ip6 link h payload))
      by true = reassembled_v6_tells link h (bytes_at at assemblers)
      by false = says

    taken_tells : (i : InnerValue) (content : Option IncomingValue) → Says_ content → Says_ (taken_in i content)
    taken_tells i None says = tt
    taken_tells i (Some v) says =
        elim (is_taken_in i v) as (λ (b : Bool). Says_ (if b then Some v else None)) [ true ↦ says | false ↦ tt ]

    brought_tells : (i : InnerValue) (timeout : ℕ) (assemblers : Assemblers) (content : Option IncomingValue) → Says_ content
        → Says_ (whole_arrived i timeout assemblers content)
    brought_tells i timeout assemblers content says =
        whole_tells (kept i timeout (with_room i assemblers (taken_in i content)) (taken_in i content)) (slot_in (with_room i assemblers (taken_in i content)) (taken_in i content)) (taken_in i content) (taken_tells i content says)

-- WHERE FRAMES GO

module _ (t : ℤ) (remote : IpAddress) (to : HardwareAddress) where
  -- its addresses and its routes
  module _ (i i' : InnerValue) (addresses : i'.addresses ≡ i.addresses) (routes : i'.routes ≡ i.routes) where
    hop_limit_same : next_hop (at_instant t i') remote ≡ next_hop (at_instant t i) remote
    hop_limit_same = λ k. next_hop (record (at_instant t i) { addresses = addresses k; routes = routes k }) remote

    broadcasts : (a : IpAddress) → is_local_broadcast (at_instant t i') a ≡ is_local_broadcast (at_instant t i) a
    broadcasts (Address.Ipv4 a) = ap (λ (bs : List IpCidr). is_broadcast_v4 a || list_any (is_broadcast_of a) bs) addresses
    broadcasts (Address.Ipv6 a) = refl

    link_found : (a : Answer) (hop : IpAddress) → link_by a hop ≡ Link.Known to → a ≡ Known.Found to
    link_found (Known.Found hardware) hop is = (let same : Link.Known hardware ≡ Link.Known to = is in let at : hardware ≡ to = cc in ap (λ (h : HardwareAddress). Known.Found h) at)
    link_found Known.RateLimited hop is = absurd (let never : Link.Silent ≡ Link.Known to = is in cc)
    link_found Known.Unanswered hop is = absurd (let never : Link.Unanswered ≡ Link.Known to = is in cc)
    link_found Known.NotFound hop is = absurd (let never : Link.Unknown hop ≡ Link.Known to = is in cc)

    module _ (keeps : (hop : IpAddress) → next_hop (at_instant t i) remote ≡ Some hop → IsBelieved t hop to i.neighbors.entries
        → IsBelieved t hop to i'.neighbors.entries) where
      by_hop : (o : Option IpAddress) → next_hop (at_instant t i) remote ≡ o → link_of_hop (at_instant t i) o ≡ Link.Known to →
          link_of_hop (at_instant t i') o ≡ Link.Known to
      by_hop None is goes = absurd (let never : Link.NoRoute ≡ Link.Known to = goes in cc)
      by_hop (Some hop) is goes =
          let was = believed_of t hop to (asked_of (at_instant t i) hop) (link_found (lookup (asked_of (at_instant t i) hop) hop t) hop goes) in
          ap (λ (a : Answer). link_by a hop) (lookup_of t hop to (asked_of (at_instant t i') hop) (keeps hop is was))

      abbrev among : Bool → LinkAddress → LinkAddress
      among all link =
          if all then Link.Known (Hardware.Ethernet all_stations)
          else if is_multicast remote then Link.Known (Hardware.Ethernet (group_hardware_addr remote)) else link

      by_kind : (all group : Bool) (was now : LinkAddress) → (was ≡ Link.Known to → now ≡ Link.Known to)
          → (if all then Link.Known (Hardware.Ethernet all_stations) else if group then Link.Known (Hardware.Ethernet (group_hardware_addr remote)) else was)
          ≡ Link.Known to
          → (if all then Link.Known (Hardware.Ethernet all_stations) else if group then Link.Known (Hardware.Ethernet (group_hardware_addr remote)) else now)
          ≡ Link.Known to
      by_kind true group was now so goes = goes
      by_kind false true was now so goes = goes
      by_kind false false was now so goes = so goes

      on : (h : HardwareAddress) → link_on h (at_instant t i) remote ≡ Link.Known to → link_on h (at_instant t i') remote ≡ Link.Known to
      on Hardware.Ip goes = goes
      on (Hardware.Ethernet own) goes =
          ap (λ (all : Bool). among all (link_of_hop (at_instant t i') (next_hop (at_instant t i') remote))) (broadcasts remote)
          ∙ ap (λ (o : Option IpAddress). among (is_local_broadcast (at_instant t i) remote) (link_of_hop (at_instant t i') o)) hop_limit_same
          ∙ by_kind (is_local_broadcast (at_instant t i) remote) (is_multicast remote) (link_of_hop (at_instant t i) (next_hop (at_instant t i) remote))
          (link_of_hop (at_instant t i') (next_hop (at_instant t i) remote)) (by_hop (next_hop (at_instant t i) remote) refl) goes

      goes_still : i'.hardware ≡ i.hardware → GoesTo i t remote to → GoesTo i' t remote to
      goes_still hardware goes = ap (λ (h : HardwareAddress). link_on h (at_instant t i') remote) hardware ∙ on i.hardware goes

-- THE HOST IN A POLL, that took these frames

abbrev pub HopLimit : InnerValue → ℤ → List (List ℕ) → InnerValue → Type 0
HopLimit i0 t frames i = (remote : IpAddress) (to : HardwareAddress) → KnowsHop i0 t frames i remote to → GoesTo i t remote to

-- at first
pub hop_limit_first : (i0 : InnerValue) (t : ℤ) → HopLimit i0 t [] i0
hop_limit_first i0 t remote to (inl bare) =
    ap (λ (h : HardwareAddress). link_on h (at_instant t i0) remote) bare.0 ∙ ap (λ (h : HardwareAddress). Link.Known h) (sym bare.1)
hop_limit_first i0 t remote to (inr knows) = knows.known

-- on a medium that has no hardware addresses
bare_hop : (i0 i : InnerValue) (t : ℤ) (remote : IpAddress) (to : HardwareAddress) → i.hardware ≡ i0.hardware → (i0.hardware ≡ Hardware.Ip) × (to ≡ Hardware.Ip)
    → GoesTo i t remote to
bare_hop i0 i t remote to hardware bare =
    ap (λ (h : HardwareAddress). link_on h (at_instant t i) remote) (hardware ∙ bare.0) ∙ ap (λ (h : HardwareAddress). Link.Known h) (sym bare.1)

-- what is known at the host's own instant
pub hop_now : (i : InnerValue) (t : ℤ) (remote : IpAddress) (to : HardwareAddress) → i.instant ≡ t → GoesTo i t remote to → link_address i remote ≡ Link.Known to
hop_now i t remote to now goes = by i.hardware ∙ goes where
  by : (h : HardwareAddress) → link_on h i remote ≡ link_on h (at_instant t i) remote
  by Hardware.Ip = refl
  by (Hardware.Ethernet own) = λ k. link_on (Hardware.Ethernet own) (record (at_instant t i) { instant = now k }) remote

-- BACK: what is known throughout was known until then

front : (P : List ℕ → Type 0) (xs ys : List (List ℕ)) → AllByRecursion P (xs ++ ys) → AllByRecursion P xs
front P [] ys all = tt
front P (x ∷ xs) ys all = (all.0, front P xs ys all.1)

pub knew : (i0 : InnerValue) (t : ℤ) (frames more : List (List ℕ)) (i i' : InnerValue) (remote : IpAddress) (to : HardwareAddress) → (Roomy i' → Roomy i)
    → KnowsHop i0 t (frames ++ more) i' remote to → KnowsHop i0 t frames i remote to
knew i0 t frames more i i' remote to room (inl bare) = inl bare
knew i0 t frames more i i' remote to room (inr knows) = inr (record {
  known = knows.known;
  told = λ hop is. front (FrameTellsAtMost i0 hop to) frames more (knows.told hop is);
  room = room knows.room;
})

-- THE WAY OUT leaves it

same_room : (i i' : InnerValue) → IsSameHost i i' → Roomy i' → Roomy i
same_room i i' same has =
    subst (λ (c : CacheValue). length c.entries < c.room) (ap (λ (x : InnerValue). x.neighbors) same) has

pub knew_out : (i0 : InnerValue) (t : ℤ) (frames : List (List ℕ)) (i i' : InnerValue) → IsSameHost i i' → (remote : IpAddress) (to : HardwareAddress)
    → KnowsHop i0 t frames i' remote to → KnowsHop i0 t frames i remote to
knew_out i0 t frames i i' same remote to (inl bare) = inl bare
knew_out i0 t frames i i' same remote to (inr knows) =
    inr (record { known = knows.known; told = knows.told; room = same_room i i' same knows.room })

pub hop_limit_out : (i0 : InnerValue) (t : ℤ) (frames : List (List ℕ)) (i i' : InnerValue) → IsSameHost i i' → HopLimit i0 t frames i → HopLimit i0 t frames i'
hop_limit_out i0 t frames i i' same hop_limit remote to knows =
    let entries : i'.neighbors.entries ≡ i.neighbors.entries = ap (λ (x : InnerValue). x.neighbors.entries) same in
    goes_still t remote to i i' (ap (λ (x : InnerValue). x.addresses) same) (ap (λ (x : InnerValue). x.routes) same)
    (λ hop is b. subst (IsBelieved t hop to) (sym entries) b) (ap (λ (x : InnerValue). x.hardware) same)
    (hop_limit remote to (knew_out i0 t frames i i' same remote to knows))

-- A FRAME is taken

pub hop_limit_skip : (i0 : InnerValue) (t : ℤ) (frames more : List (List ℕ)) (i : InnerValue) → HopLimit i0 t frames i → HopLimit i0 t (frames ++ more) i
hop_limit_skip i0 t frames more i hop_limit remote to knows = hop_limit remote to (knew i0 t frames more i i remote to (λ room. room) knows)

last_so : (P : List ℕ → Type 0) (xs : List (List ℕ)) (x : List ℕ) → AllByRecursion P (xs ++ x ∷ []) → P x
last_so P [] x all = all.0
last_so P (y ∷ xs) x all = last_so P xs x all.1

module _ (i0 i : InnerValue) (t : ℤ) (frame : List ℕ) (timeout : ℕ) (assemblers : Assemblers) (slots : Slots) (content : Option IncomingValue) (a : Arrived)
    (settings : HasSettingsOf i0 i) (instant : i.instant ≡ t) (same : HasSameSettings i a.inner) (is : IsContent i.hardware i.checksums frame content)
    (brings : Brings i slots (whole_arrived i timeout assemblers content) a) where
  frame_tells : (hop : IpAddress) (to : HardwareAddress) → FrameTellsAtMost i0 hop to frame → IfSome content (TellsAtMost i.checksums hop to)
  frame_tells hop to all = by content is where
    by : (o : Option IncomingValue) → IsContent i.hardware i.checksums frame o → IfSome o (TellsAtMost i.checksums hop to)
    by None none = tt
    by (Some v) some =
        subst (λ (c : ChecksumCapabilities). TellsAtMost c hop to v) (sym settings.checksums)
        (all v (subst (λ (h : HardwareAddress). IsContent h i0.checksums frame (Some v)) settings.hardware
        (subst (λ (c : ChecksumCapabilities). IsContent i.hardware c frame (Some v)) settings.checksums some)))

  keeps : (hop : IpAddress) (to : HardwareAddress) → Keeps t hop to (FrameTellsAtMost i0 hop to frame) i a.inner
  keeps hop to =
      brings_keeps t hop to (FrameTellsAtMost i0 hop to frame) i slots (whole_arrived i timeout assemblers content) a
      (λ all. brought_tells t hop to i.checksums i timeout assemblers content (frame_tells hop to all)) brings

  pub room_before : Roomy a.inner → Roomy i
  room_before = (keeps nowhere Hardware.Ip).room where
    nowhere : IpAddress
    nowhere = Address.Ipv4 (record { 0 = [] })

  pub knew_before : (frames : List (List ℕ)) (remote : IpAddress) (to : HardwareAddress) → KnowsHop i0 t (frames ++ frame ∷ []) a.inner remote to
      → KnowsHop i0 t frames i remote to
  knew_before frames remote to knows = knew i0 t frames (frame ∷ []) i a.inner remote to room_before knows

  pub hop_limit_arrival : (frames : List (List ℕ)) → HopLimit i0 t frames i → HopLimit i0 t (frames ++ frame ∷ []) a.inner
  hop_limit_arrival frames hop_limit remote to (inl bare) = bare_hop i0 a.inner t remote to (same.hardware ∙ settings.hardware) bare
  hop_limit_arrival frames hop_limit remote to (inr knows) =
      goes_still t remote to i a.inner same.addresses same.routes
      (λ hop its b. (keeps hop to).believed instant
      (last_so (FrameTellsAtMost i0 hop to) frames frame
      (knows.told hop (sym (hop_limit_same t remote to i0 i settings.addresses settings.routes) ∙ its))) knows.room b)
      same.hardware (hop_limit remote to (knew_before frames remote to (inr knows)))
