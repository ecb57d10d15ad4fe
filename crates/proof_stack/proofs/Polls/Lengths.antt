-- How many bytes what a frame brings can have: as many as the frame, or as a slot for fragments.
use Rattle.std.proofs.Common.{◌≡◌, ℕ, zero, suc, ◌+◌, ◌-◌, ◌^◌, ◌≤◌, Bool, true, false, if◌then◌else◌, ℤ, List, [], ◌∷◌, ◌++◌, length, take, drop, map, Option, Some, None}
use Rattle.std.proofs.Common.{refl, sym, ap, subst, arith, length-append, length-drop}
use Rattle.std.proofs.lemmas.Bool.Decides.{nat_tests}
use Rattle.std.proofs.lemmas.List.{length-take}
use Rattle.std.specs.Prelude.{nat_le, nat_lt, position, is_some, slice_get, slice_set, slice_range}
use Rattle.std.specs.List.{AllByRecursion}
use Rattle.net_base.specs.ChecksumCapabilities.{ChecksumCapabilities}
use Rattle.net_base.specs.Device.{Move}
use Rattle.base_buffer.specs.Assembler.{front}
use Rattle.ip_wire.specs.Ethernet as Ethernet
use Rattle.ip_wire.specs.declared.ethernet.repr.EthernetRepr.{EthernetRepr}
use Rattle.ip_wire.specs.Fields.{be16}
use Rattle.ip_wire.specs.HardwareAddress.{HardwareAddress}
use Rattle.ip_wire.specs.HardwareAddress.TheVariants as Hardware
use Rattle.ip_wire.specs.IpProtocol.TheVariants as Protocol
use Rattle.ip_wire.specs.IpRepr.{IpRepr}
use Rattle.ip_wire.specs.IpRepr.TheVariants as Ip
use Rattle.ip_wire.specs.Ipv4 as Ipv4
use Rattle.ip_wire.specs.Ipv4Repr.{Ipv4Repr}
use Rattle.ip_wire.specs.Ipv6 as Ipv6
use Rattle.ip_wire.specs.Ipv6Repr.{Ipv6Repr}
use Rattle.ip_wire.specs.Udp as Udp
use Rattle.iface_ingress.specs.Arrives.{assemblers_after}
use Rattle.iface_ingress.specs.Following.{Following}
use Rattle.iface_ingress.specs.Following.TheVariants as End
use Rattle.iface_ingress.specs.Headers.{go_through, upper_bytes_of}
use Rattle.iface_ingress.specs.Incoming.{IncomingValue, Arp, Ip4, Ip6, IsContent}
use Rattle.iface_ingress.specs.Reassembled.{FragmentValue, Assemblers, bytes_at, given_up_at, is_fragment, is_fragment_v6, is_same_datagram, is_taken_in, is_unfit, kept}
use Rattle.iface_ingress.specs.Reassembled.{part_of, slot_in, reassembled, reassembled_v6, released, runs_kept, taken_in, uncut, whole_of, with_room}
use Rattle.iface_ingress.specs.Reassembled.{with_part, with_fragment}
use Rattle.iface_ingress.specs.Upper.{upper_payload}
use Rattle.iface_ingress.proofs.Roomed.{roomed}
use Rattle.iface_tables.specs.Inner.{InnerValue}
use Rattle.iface_tables.specs.Reassembly as Reassembly
use Rattle.iface_tables.specs.Reassembly.{AssemblerValue, completed, freed, is_complete, is_of, overwritten, assembler_index_for, placed, taken, takes_end, takes_total}
use Rattle.iface_tables.specs.Reassembly.{with_end, with_total}
use Rattle.iface_tables.specs.Assemblers.{changed, changed_at, completed_in, opened, is_expired, unless_expired, without_datagram, without_expired}
use Rattle.iface_tables.specs.declared.key.FragKey.{FragKey}
use Rattle.interface.specs.Ingress.{Takes}
use Rattle.interface.specs.State.{State}
use Rattle.proof_stack.specs.PeerHost.ReceivedPackets.{IsPacket, whole_in}

module _ (xs : List ℕ) where
  process_frame_fast : (n : ℕ) → length (take n xs) ≤ length xs
  process_frame_fast n = omega (arith, length-take n xs)

  range_short : (from to : ℕ) → length (slice_range xs from to) ≤ length xs
  range_short from to = omega (arith, length-take (to - from) (drop from xs), length-drop from xs)

  drop_short : (n : ℕ) → length (drop n xs) ≤ length xs
  drop_short n = omega (arith, length-drop n xs)

  same_short : (ys : List ℕ) (most : ℕ) → ys ≡ xs → length xs ≤ most → length ys ≤ most
  same_short ys most is short = subst (λ (zs : List ℕ). length zs ≤ most) (sym is) short

module _ (most : ℕ) where
  -- WHAT A FRAME CARRIES

  abbrev pub IsShort : Option IncomingValue → Type 0
  IsShort None = Unit {0}
  IsShort (Some (Arp link packet)) = Unit {0}
  IsShort (Some (Ip4 link header fragment payload)) = length payload ≤ most
  IsShort (Some (Ip6 link header payload)) = length payload ≤ most

  v4 : (bytes payload : List ℕ) → payload ≡ Ipv4.payload_of bytes → length bytes ≤ most → length payload ≤ most
  v4 bytes payload is short = omega (arith, ap length is, range_short bytes (Ipv4.header_len_of bytes) (be16 bytes 2), short)

  v6 : (bytes payload : List ℕ) → payload ≡ Ipv6.payload_of bytes → length bytes ≤ most → length payload ≤ most
  v6 bytes payload is short = omega (arith, ap length is, range_short bytes 40 (40 + be16 bytes 4), short)

  content_short : (hardware : HardwareAddress) (caps : ChecksumCapabilities) (frame : List ℕ) (content : Option IncomingValue)
      → IsContent hardware caps frame content → length frame ≤ most → IsShort content
  content_short hardware caps frame None is short = tt
  content_short hardware caps frame (Some (Arp link packet)) is short = tt
  content_short (Hardware.Ethernet own) caps frame (Some (Ip4 (Some link) h p x)) is short =
      v4 (Ethernet.payload_of frame) x is.1.payload_is (omega (arith, drop_short frame 14, short))
  content_short (Hardware.Ethernet own) caps frame (Some (Ip4 None h p x)) is short = absurd is
  content_short (Hardware.Ethernet own) caps frame (Some (Ip6 (Some link) h x)) is short =
      v6 (Ethernet.payload_of frame) x is.1.payload_is (omega (arith, drop_short frame 14, short))
  content_short (Hardware.Ethernet own) caps frame (Some (Ip6 None h x)) is short = absurd is
  content_short Hardware.Ip caps frame (Some (Ip4 (Some link) h p x)) is short = absurd is
  content_short Hardware.Ip caps frame (Some (Ip4 None h p x)) is short = v4 frame x is.payload_is short
  content_short Hardware.Ip caps frame (Some (Ip6 (Some link) h x)) is short = absurd is
  content_short Hardware.Ip caps frame (Some (Ip6 None h x)) is short = v6 frame x is.payload_is short

  taken_short : (i : InnerValue) (content : Option IncomingValue) → IsShort content → IsShort (taken_in i content)
  taken_short i None short = tt
  taken_short i (Some v) short = by (is_taken_in i v) where
    by : (taken : Bool) → IsShort (if taken then Some v else None)
    by true = short
    by false = tt

  -- SLOTS

  abbrev pub AreShort : Assemblers → Type 0
  AreShort assemblers = AllByRecursion (λ (s : AssemblerValue FragKey). length s.bytes ≤ most) assemblers

  short_at : (assemblers : Assemblers) (at : ℕ) (s : AssemblerValue FragKey) → slice_get assemblers at ≡ Some s → AreShort assemblers → length s.bytes ≤ most
  short_at [] at s is all = absurd (cc)
  short_at (x ∷ assemblers) zero s is all =
      let same : x ≡ s = let e : Some x ≡ Some s = is in cc in subst (λ (t : AssemblerValue FragKey). length t.bytes ≤ most) same all.0
  short_at (x ∷ assemblers) (suc at) s is all = short_at assemblers at s is all.1

  short_set : (assemblers : Assemblers) (at : ℕ) (s : AssemblerValue FragKey) → length s.bytes ≤ most → AreShort assemblers → AreShort (slice_set assemblers at s)
  short_set [] at s short all = all
  short_set (x ∷ assemblers) zero s short all = (short, all.1)
  short_set (x ∷ assemblers) (suc at) s short all = (all.0, short_set assemblers at s short all.1)

  module _ (change : AssemblerValue FragKey → AssemblerValue FragKey) (keeps : (s : AssemblerValue FragKey) → length s.bytes ≤ most → length (change s).bytes ≤ most) where
    changed_short : (at : Option ℕ) (assemblers : Assemblers) → AreShort assemblers → AreShort (changed_at change at assemblers)
    changed_short None assemblers all = all
    changed_short (Some at) assemblers all = by (slice_get assemblers at) refl where
      by : (o : Option (AssemblerValue FragKey)) → slice_get assemblers at ≡ o → AreShort (changed change (Some at) o assemblers)
      by None is = all
      by (Some s) is = short_set assemblers at (change s) (keeps s (short_at assemblers at s is all)) all

    map_short : (assemblers : Assemblers) → AreShort assemblers → AreShort (map change assemblers)
    map_short [] all = all
    map_short (s ∷ assemblers) all = (keeps s all.0, map_short assemblers all.1)

  -- one slot

  if_short : (test : Bool) (s t : AssemblerValue FragKey) → length s.bytes ≤ most → length t.bytes ≤ most → length (if test then s else t).bytes ≤ most
  if_short true s t one other = one
  if_short false s t one other = other

  module _ (fragment : List ℕ) (offset : ℕ) where
    written : (bytes : List ℕ) → offset + length fragment ≤ length bytes → length (overwritten bytes offset fragment) ≤ length bytes
    written bytes fits =
        omega (
          arith,
          length-append (take offset bytes ++ fragment) (drop (offset + length fragment) bytes),
          length-append (take offset bytes) fragment,
          length-take offset bytes,
          length-drop (offset + length fragment) bytes,
          fits,
        )

    fragment_short : (s : AssemblerValue FragKey) → length s.bytes ≤ most → length (Reassembly.with_fragment runs_kept s fragment offset).bytes ≤ most
    fragment_short s short = by (nat_le (offset + length fragment) (length s.bytes)) refl where
      by : (fits : Bool) → nat_le (offset + length fragment) (length s.bytes) ≡ fits → length (if fits
          then record s { bytes = overwritten s.bytes offset fragment; runs = Reassembly.marked runs_kept s.runs offset (length fragment) } else s).bytes ≤ most
      by true is = let fits : offset + length fragment ≤ length s.bytes = grind (arith, nat_tests, is) in omega (arith, written s.bytes fits, short)
      by false is = short

    end_short : (more : Bool) (s : AssemblerValue FragKey) → length s.bytes ≤ most → length (with_end s fragment offset more).bytes ≤ most
    end_short true s short = short
    end_short false s short = if_short (takes_total s (offset + length fragment)) (record s { total = Some (offset + length fragment) }) s short short

    placed_short : (more : Bool) (s : AssemblerValue FragKey) → length s.bytes ≤ most → length (placed runs_kept s fragment offset more).bytes ≤ most
    placed_short more s short =
        if_short (takes_end s fragment offset more) (Reassembly.with_fragment runs_kept (with_end s fragment offset more) fragment offset) s
        (fragment_short (with_end s fragment offset more) (end_short more s short)) short

  opened_short : (key : FragKey) (expires : ℤ) (s : AssemblerValue FragKey) → length s.bytes ≤ most
      → length (opened is_same_datagram key expires s).bytes ≤ most
  opened_short key expires s short = if_short (is_of is_same_datagram key s) s (taken key expires s) short short

  -- all of them

  with_fragment_short : (i : InnerValue) (timeout : ℕ) (assemblers : Assemblers) (p : Option FragmentValue) → AreShort assemblers → AreShort (with_fragment i timeout assemblers p)
  with_fragment_short i timeout assemblers None all = all
  with_fragment_short i timeout assemblers (Some p) all = by (is_unfit assemblers p) where
    by : (unfit : Bool) → AreShort (if unfit then without_datagram is_same_datagram assemblers p.key
        else with_part i timeout assemblers p)
    by true = changed_short freed (λ s short. short) (position (is_of is_same_datagram p.key) assemblers) assemblers all
    by false =
        changed_short (λ s. placed runs_kept (opened is_same_datagram p.key (given_up_at i timeout) s) p.bytes p.offset p.more)
        (λ s short. placed_short p.bytes p.offset p.more (opened is_same_datagram p.key (given_up_at i timeout) s)
        (opened_short p.key (given_up_at i timeout) s short)) (assembler_index_for is_same_datagram assemblers p.key) assemblers all

  kept_short : (i : InnerValue) (timeout : ℕ) (assemblers : Assemblers) (content : Option IncomingValue) → AreShort assemblers → AreShort (kept i timeout assemblers content)
  kept_short i timeout assemblers content all = with_fragment_short i timeout assemblers (part_of content) all

  released_short : (at : Option ℕ) (assemblers : Assemblers) → AreShort assemblers → AreShort (released at assemblers)
  released_short at assemblers all = by (is_some (bytes_at at assemblers)) where
    by : (done : Bool) → AreShort (if done then changed_at freed at assemblers else assemblers)
    by true = changed_short freed (λ s short. short) at assemblers all
    by false = all

  after_short : (i : InnerValue) (timeout : ℕ) (assemblers : Assemblers) (content : Option IncomingValue) → AreShort assemblers
      → AreShort (assemblers_after i timeout assemblers content)
  after_short i timeout assemblers content all = released_short (slot_in assemblers content) (kept i timeout assemblers content) (kept_short i timeout assemblers content all)

  room_short : (i : InnerValue) (assemblers : Assemblers) (content : Option IncomingValue) → AreShort assemblers → AreShort (with_room i assemblers content)
  room_short i assemblers content all = roomed AreShort i assemblers (λ at. changed_short freed (λ s short. short) at assemblers all) all content

  pub expired_short : (instant : ℤ) (assemblers : Assemblers) → AreShort assemblers → AreShort (without_expired assemblers instant)
  expired_short instant assemblers all =
      map_short (unless_expired instant) (λ s short. if_short (is_expired instant s) (freed s) s short short) assemblers all

  pub takes_short : {D : Type 0} (moves : D → Move → D → Type 0) (s s' : State D) (answer : Option Bool) → Takes moves s answer s' → AreShort s.host.assemblers
      → AreShort s'.host.assemblers
  takes_short {D} moves s s' None takes all = subst (λ (x : State D). AreShort x.host.assemblers) (sym takes.1) all
  takes_short {D} moves s s' (Some false) takes all = subst (λ (x : State D). AreShort x.host.assemblers) (sym takes.3) all
  takes_short {D} moves s s' (Some true) takes all =
      let reads = takes.4 in
      subst AreShort (sym reads.2.1.0) (after_short s.host.inner s.host.timeout (with_room s.host.inner s.host.assemblers (taken_in s.host.inner reads.0)) (taken_in s.host.inner reads.0)
      (room_short s.host.inner s.host.assemblers (taken_in s.host.inner reads.0) all))

  -- WHAT IS WHOLE

  abbrev BytesShort : Option (List ℕ) → Type 0
  BytesShort None = Unit {0}
  BytesShort (Some bytes) = length bytes ≤ most

  completed_short : (s : AssemblerValue FragKey) → length s.bytes ≤ most → BytesShort (completed s)
  completed_short s short = by (is_complete s) where
    by : (done : Bool) → BytesShort (if done then Some (take (front s.runs) s.bytes) else None)
    by true = omega (arith, process_frame_fast s.bytes (front s.runs), short)
    by false = tt

  bytes_short : (at : Option ℕ) (assemblers : Assemblers) → AreShort assemblers → BytesShort (bytes_at at assemblers)
  bytes_short None assemblers all = tt
  bytes_short (Some at) assemblers all = by (slice_get assemblers at) refl where
    by : (o : Option (AssemblerValue FragKey)) → slice_get assemblers at ≡ o → BytesShort (completed_in o)
    by None is = tt
    by (Some s) is = completed_short s (short_at assemblers at s is all)

  reassembled_short : (link : Option EthernetRepr) (header : Ipv4Repr) (o : Option (List ℕ)) → BytesShort o → IsShort (reassembled link header o)
  reassembled_short link header None short = tt
  reassembled_short link header (Some bytes) short = by (nat_lt (length bytes) (2 ^ 16 - 20)) where
    by : (fits : Bool) → IsShort (if fits
        then Some (Ip4 link (record header { payload_len = length bytes }) uncut bytes) else None)
    by true = short
    by false = tt

  reassembled_v6_short : (link : Option EthernetRepr) (header : Ipv6Repr) (o : Option (List ℕ)) → BytesShort o → IsShort (reassembled_v6 link header o)
  reassembled_v6_short link header None short = tt
  reassembled_v6_short link header (Some bytes) short = by (nat_lt (length bytes) (2 ^ 16)) where
    by : (fits : Bool) → IsShort (if fits
        then Some (Ip6 link (record header {
          next_header = Protocol.Ipv6Frag;
          payload_len = length bytes;
        }) bytes) else None)
    by true = short
    by false = tt

  whole_short : (assemblers : Assemblers) (at : Option ℕ) (content : Option IncomingValue) → AreShort assemblers → IsShort content → IsShort (whole_of assemblers at content)
  whole_short assemblers at None all short = tt
  whole_short assemblers at (Some (Arp link packet)) all short = tt
  whole_short assemblers at (Some (Ip4 link header fragment payload)) all short = by (is_fragment fragment) where
    by : (cut : Bool) → IsShort (if cut then reassembled link header (bytes_at at assemblers) else Some (Ip4 link header fragment payload))
    by true = reassembled_short link header (bytes_at at assemblers) (bytes_short at assemblers all)
    by false = short
  whole_short assemblers at (Some (Ip6 link header payload)) all short = by (is_fragment_v6 header payload) where
    by : (cut : Bool) → IsShort (if cut then reassembled_v6 link header (bytes_at at assemblers) else Some (Ip6 link header payload))
    by true = reassembled_v6_short link header (bytes_at at assemblers) (bytes_short at assemblers all)
    by false = short

  packet_short : (content : Option IncomingValue) (ip : IpRepr) (payload : List ℕ) → IsPacket content ip payload → IsShort content → length payload ≤ most
  packet_short (Some (Ip4 link header fragment bytes)) ip payload is short = same_short bytes payload most is.1 short
  packet_short (Some (Ip6 link header bytes)) ip payload is short = same_short bytes payload most is.1 short
  packet_short (Some (Arp link packet)) ip payload is short = absurd is
  packet_short None ip payload is short = absurd is

  -- the packet that is whole with a frame
  pub brought_short : {D : Type 0} (s : State D) (frame : List ℕ) (content : Option IncomingValue)
      → IsContent s.host.inner.hardware s.host.inner.checksums frame content → length frame ≤ most → AreShort s.host.assemblers
      → (ip : IpRepr) (payload : List ℕ) → IsPacket (whole_in s content) ip payload → length payload ≤ most
  brought_short s frame content is short all ip payload packet =
      let taken : Option IncomingValue = taken_in s.host.inner content in
      let room : Assemblers = with_room s.host.inner s.host.assemblers taken in
      packet_short (whole_in s content) ip payload packet
      (whole_short (kept s.host.inner s.host.timeout room taken) (slot_in room taken) taken
      (kept_short s.host.inner s.host.timeout room taken (room_short s.host.inner s.host.assemblers taken all))
      (taken_short s.host.inner content (content_short s.host.inner.hardware s.host.inner.checksums frame content is short)))

  -- and the bytes of a datagram in it
  following_short : (payload : List ℕ) (following : Following) → length (upper_bytes_of payload following) ≤ length payload
  following_short payload (End.FragmentPart at) = omega arith
  following_short payload (End.Upper protocol at) = drop_short payload at
  following_short payload (End.Problem problem pointer) = omega arith
  following_short payload End.Nothing = omega arith

  upper_short : (ip : IpRepr) (payload : List ℕ) → length (upper_payload ip payload) ≤ length payload
  upper_short (Ip.Ipv4 header) payload = omega arith
  upper_short (Ip.Ipv6 header) payload = following_short payload (go_through header.next_header payload)

  pub datagram_short : (ip : IpRepr) (payload bytes : List ℕ) → bytes ≡ Udp.payload_of (upper_payload ip payload) → length payload ≤ most → length bytes ≤ most
  datagram_short ip payload bytes is short =
      omega (arith, ap length is, range_short (upper_payload ip payload) 8 (be16 (upper_payload ip payload) 4), upper_short ip payload, short)
