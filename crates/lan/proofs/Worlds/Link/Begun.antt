-- The first frame of a packet that has a number begins a datagram.
use Rattle.std.proofs.Common.{◌≡◌, ℕ, ◌+◌, ◌/◌, ◌≤◌, ◌&&◌, ◌||◌, ◌==◌, Bool, true, false, cond, List, [], ◌∷◌, ◌++◌, length, drop, slice_index, Option, None}
use Rattle.std.proofs.Common.{refl, sym, ◌∙◌, ap, subst, arith, append-nil, length-append}
use Rattle.std.specs.Prelude.{is_some, nat_le}
use Rattle.std.specs.List.{count_by}
use Rattle.std.proofs.lemmas.List.{drop_at, get_or-drop}
use Rattle.std.proofs.lemmas.List.Sums.{sum_by_push}
use Rattle.std.proofs.lemmas.Bool.Decides.{nat_tests}
use Rattle.sim_link.specs.Medium.{Medium}
use Rattle.sim_link.specs.Medium.TheVariants as Medium
use Rattle.sim_link.specs.Capabilities.{frame_header}
use Rattle.interface.specs.Ipv4.{fragment_of}
use Rattle.iface_ingress.specs.Fields.{be16}
use Rattle.iface_ingress.specs.HardwareAddress.{HardwareAddress}
use Rattle.iface_ingress.specs.Headers.{fragment_offset}
use Rattle.interface.specs.IpRepr.{IpRepr}
use Rattle.interface.specs.IpRepr.TheVariants as Ip
use Rattle.interface.specs.Ipv4 as Ipv4
use Rattle.interface.specs.Ipv4Fragment.{Ipv4Fragment}
use Rattle.interface.specs.Ipv6 as Ipv6
use Rattle.sockets.specs.Packet.{PacketValue, PayloadValue, packet_of}
use Rattle.iface_tables.specs.FragmentList.{fragment_at}
use Rattle.iface_egress.specs.Departure.{packet_frame, packet_frame_len, fragment_frame, fragment_frame_len, fragment_v6, fragment_header}
use Rattle.iface_egress.specs.Fragments.{LeftValue, fragment_room, next_fragment}
use Rattle.iface_egress.specs.declared.frame.CutHeader.{CutHeader}
use Rattle.iface_egress.specs.declared.frame.CutHeader.TheVariants as Cut
use Rattle.interface.specs.Delivered.{IsWritable}
use Rattle.sim_link.specs.PacketInFrame.{packet_in}
use Rattle.sim_link.specs.Cuts.{ipv4_part}
use Rattle.sim_link.specs.Parts.{may_carry, is_ipv6, begins_fragments}
use Rattle.sim_link.specs.declared.part.Part.{Part}
use Rattle.sim_link.specs.Slices.{bytes_of_slice}
use Rattle.lan.specs.Worlds.AtLink.Origins.{begins_datagram}
use Rattle.lan.specs.Worlds.Link.Made.{sealed}
use Rattle.lan.specs.Worlds.Link.Frames.{Outgoing, number_by, medium_on, IsLinkHeader6, IsSlice, IsFragment6}
use Rattle.lan.specs.Worlds.Link.Numbers.{and_number, count_numbered, IsTied}
use Rattle.lan.specs.Worlds.Link.Sides.{IsSameKind, IsLeft}
use Rattle.lan.proofs.Worlds.Link.Following.{with_len, packet_of_slice, read_slice, ether_front}
use Rattle.lan.proofs.Worlds.Link.CutFrames.{part_is}
use Rattle.lan.proofs.Worlds.Link.Fragments.{offset_is}
use Rattle.lan.proofs.Worlds.Link.Fragments6.{value6, fits6, len6}
use Rattle.lan.proofs.Worlds.Link.Spelled.{as_whole, length_v6, whole4, fragment4, fragment6}

-- TESTS

either : (a b : Bool) → a ≡ true → a || b ≡ true
either true b is = refl
either false b is = absurd cc

or_else : (a b : Bool) → b ≡ true → a || b ≡ true
or_else true b is = refl
or_else false b is = is

three : (a b c : Bool) → a ≡ true → b ≡ true → c ≡ true → a && b && c ≡ true
three a b c x y z = rw (x, y, z) refl

four : (a b c d : Bool) → a ≡ true → b ≡ true → c ≡ true → d ≡ true → a && b && c && d ≡ true
four a b c d x y z w = rw (x, y, z, w) refl

less_is : (n m : ℕ) → n ≤ m → nat_le n m ≡ true
less_is n m is = grind (arith, nat_tests, is)

is_none : (n : ℕ) → n ≡ 0 → n == 0 ≡ true
is_none n is = grind (arith, nat_tests, is)

-- A SLICE

module _ (medium : Medium) (out : List Outgoing) (frame : List ℕ) (f : IsSlice medium out frame) where
  abbrev spelled : List ℕ
  spelled = Ipv4.written_fragment true (with_len f.header f.slice.count) f.slice.at f.slice.more ++ bytes_of_slice f.bytes f.slice

  -- the packet after the link header says where its slice begins
  slot_is : (fragment_of (packet_in medium frame)).offset ≡ f.slice.at
  slot_is =
      let packet : packet_in medium frame ≡ packet_of_slice f.header f.bytes f.slice [] =
      ap (drop (frame_header medium)) f.frame_is ∙ drop_at f.link spelled (frame_header medium) f.is_link.len ∙ sym (append-nil spelled) in
      let read = read_slice f.header f.bytes [] f.slice f.sent.value f.sent.short f.within f.unit in
      ap (λ (b : List ℕ). (fragment_of b).offset) packet ∙ sym (ap (λ (p : Ipv4Fragment). p.offset) read.fragment_is)

  pub slice_begins : f.slice.at ≡ 0 → begins_datagram medium frame ≡ true
  slice_begins first =
      either (is_some (ipv4_part medium frame) && ((fragment_of (packet_in medium frame)).offset == 0)) (begins_fragments medium frame)
      (ap (λ (o : Option Part). is_some o && ((fragment_of (packet_in medium frame)).offset == 0)) (part_is medium out frame f)
      ∙ ap (λ (n : ℕ). n == 0) (slot_is ∙ first))

-- A PIECE OF IPV6

module _ (medium : Medium) (out : List Outgoing) (frame : List ℕ) (f : IsFragment6 medium out frame) where
  abbrev rest_p : List ℕ
  rest_p = fragment_header f.header.next_header f.number f.fragment ++ f.fragment.bytes

  abbrev w_p : List ℕ
  w_p = Ipv6.written (fragment_v6 f.header f.fragment)

  in_frame : packet_in medium frame ≡ w_p ++ rest_p
  in_frame = ap (drop (frame_header medium)) f.frame_is ∙ drop_at f.link (w_p ++ rest_p) (frame_header medium) f.is_link.len

  carries_v6 : (m : Medium) → IsLinkHeader6 m f.link → may_carry m 0x86dd (f.link ++ (w_p ++ rest_p)) ≡ true
  carries_v6 Medium.Ethernet is_link =
      ap (λ (n : ℕ). n == 0x86dd) (ether_front f.link (w_p ++ rest_p) is_link.len) ∙ is_link.carries
  carries_v6 Medium.Ip is_link = refl

  header_long : length w_p ≡ 40
  header_long = length_v6 (fragment_v6 f.header f.fragment) (value6 medium out frame f)

  is_v6 : is_ipv6 (w_p ++ rest_p) ≡ true
  is_v6 =
      let size : be16 (w_p ++ rest_p) 4 ≡ 8 + length f.fragment.bytes = (let fits = fits6 medium out frame f in omega (arith, fits)) in
      let rest_long : length rest_p ≡ 8 + length f.fragment.bytes = sym (len6 medium out frame f) in
      three (nat_le 40 (length (w_p ++ rest_p))) (slice_index (w_p ++ rest_p) 0 / 16 == 6) (nat_le (40 + be16 (w_p ++ rest_p) 4) (length (w_p ++ rest_p)))
      (less_is 40 (length (w_p ++ rest_p)) (omega (arith, length-append w_p rest_p, header_long))) refl
      (less_is (40 + be16 (w_p ++ rest_p) 4) (length (w_p ++ rest_p)) (omega (arith, length-append w_p rest_p, header_long, size, rest_long)))

  word_following : be16 (w_p ++ rest_p) 42 ≡ be16 rest_p 2
  word_following =
      let following : drop 40 (w_p ++ rest_p) ≡ rest_p = drop_at w_p rest_p 40 header_long in
      let high : slice_index (w_p ++ rest_p) 42 ≡ slice_index rest_p 2 =
      sym (get_or-drop 40 (w_p ++ rest_p) 2 0) ∙ ap (λ (l : List ℕ). slice_index l 2) following in
      let low : slice_index (w_p ++ rest_p) 43 ≡ slice_index rest_p 3 =
      sym (get_or-drop 40 (w_p ++ rest_p) 3 0) ∙ ap (λ (l : List ℕ). slice_index l 3) following in
      omega (arith, high, low)

  pub fragment6_begins : f.fragment.offset ≡ 0 → begins_datagram medium frame ≡ true
  fragment6_begins first =
      let at : fragment_offset rest_p ≡ f.fragment.offset =
      offset_is f.header.next_header f.number f.fragment.offset f.fragment.bytes (let a = f.room in let b = f.cut.short in omega (arith, a, b)) f.unit f.fragment.more in
      let none : be16 rest_p 2 / 8 ≡ 0 = omega (arith, at, first) in
      let begins : begins_fragments medium frame ≡ true =
      four (may_carry medium 0x86dd frame) (is_ipv6 (packet_in medium frame)) (slice_index (packet_in medium frame) 6 == 44)
      (be16 (packet_in medium frame) 42 / 8 == 0)
      (ap (may_carry medium 0x86dd) f.frame_is ∙ carries_v6 medium f.is_link)
      (ap is_ipv6 in_frame ∙ is_v6)
      (ap (λ (l : List ℕ). slice_index l 6 == 44) in_frame)
      (ap (λ (l : List ℕ). be16 l 42 / 8 == 0) in_frame ∙ ap (λ (n : ℕ). n / 8 == 0) word_following ∙ is_none (be16 rest_p 2 / 8) none) in
      or_else (is_some (ipv4_part medium frame) && ((fragment_of (packet_in medium frame)).offset == 0)) (begins_fragments medium frame) begins

-- A FIRST FRAME

-- what a frame adds to a count
abbrev pub worth : Bool → ℕ
worth b = cond b 1 0

-- a packet that goes whole
pub whole_begins : (own to : HardwareAddress) (h : IpRepr) (x : PayloadValue) (n : ℕ) → IsSameKind own to → IsWritable (packet_of h x) →
    length (packet_frame sealed own to (packet_of h x)) ≡ packet_frame_len own to (packet_of h x)
    → and_number (number_by h None) n ≤ n + worth (begins_datagram (medium_on own) (packet_frame sealed own to (packet_of h x)))
whole_begins own to (Ip.Ipv4 v) x n same w len =
    let p : PacketValue = packet_of (Ip.Ipv4 v) x in
    let f = whole4 own to same [] v x w len in
    let begins : begins_datagram (medium_on own) (packet_frame sealed own to p) ≡ true =
    slice_begins (medium_on own) (as_whole p ∷ []) (packet_frame sealed own to p) f.0 f.1 in
    let one : worth (begins_datagram (medium_on own) (packet_frame sealed own to p)) ≡ 1 = ap worth begins in
    omega (arith, one)
whole_begins own to (Ip.Ipv6 v) x n same w len = omega arith

-- the first fragment of one that is cut
begins_by : (own : HardwareAddress) (out : List Outgoing) (mtu : ℕ) (l : LeftValue) → IsLeft own out l → (header : CutHeader) → l.header ≡ header
    → length (fragment_frame sealed own l.to header (fragment_at (fragment_room header mtu) l.payload l.at)) ≡
    fragment_frame_len own l.to header (fragment_at (fragment_room header mtu) l.payload l.at)
    → l.at ≡ 0 → begins_datagram (medium_on own) (fragment_frame sealed own l.to header (fragment_at (fragment_room header mtu) l.payload l.at)) ≡ true
begins_by own out mtu l left (Cut.Ipv4 v) is len first =
    let f = fragment4 own out mtu v l is left len in
    slice_begins (medium_on own) out (fragment_frame sealed own l.to (Cut.Ipv4 v) (fragment_at (fragment_room (Cut.Ipv4 v) mtu) l.payload l.at)) f.0 (f.1 ∙ first)
begins_by own out mtu l left (Cut.Ipv6 v number) is len first =
    let f = fragment6 own out mtu v number l is left len in
    fragment6_begins (medium_on own) out (fragment_frame sealed own l.to (Cut.Ipv6 v number) (fragment_at (fragment_room (Cut.Ipv6 v number) mtu) l.payload l.at)) f.0
    (f.1 ∙ first)

pub fragment_begins : (own : HardwareAddress) (out : List Outgoing) (mtu : ℕ) (l : LeftValue) → IsLeft own out l →
    length (fragment_frame sealed own l.to l.header (next_fragment mtu l)) ≡ fragment_frame_len own l.to l.header (next_fragment mtu l)
    → l.at ≡ 0 → begins_datagram (medium_on own) (fragment_frame sealed own l.to l.header (next_fragment mtu l)) ≡ true
fragment_begins own out mtu l left len first = begins_by own out mtu l left l.header refl len first

-- TIES

pub tied_same : (medium : Medium) (out : List Outgoing) (sent sent' : List (List ℕ)) → sent' ≡ sent → IsTied medium out sent out sent'
tied_same medium out sent sent' is = omega (arith, ap (count_by (begins_datagram medium)) is)

-- a packet with its first frame, or a frame alone
pub tied_frame : (medium : Medium) (out out' : List Outgoing) (sent sent' : List (List ℕ)) (frame : List ℕ) → sent' ≡ sent ++ frame ∷ []
    → count_numbered out' ≤ count_numbered out + worth (begins_datagram medium frame) → IsTied medium out sent out' sent'
tied_frame medium out out' sent sent' frame is few =
    let more : count_by (begins_datagram medium) sent' ≡ count_by (begins_datagram medium) sent + worth (begins_datagram medium frame) =
    ap (count_by (begins_datagram medium)) is ∙ sum_by_push (λ (x : List ℕ). worth (begins_datagram medium x)) sent frame in
    omega (arith, more, few)

pub tied_trans : (medium : Medium) (out mid out' : List Outgoing) (sent between sent' : List (List ℕ)) → IsTied medium out sent mid between →
    IsTied medium mid between out' sent' → IsTied medium out sent out' sent'
tied_trans medium out mid out' sent between sent' one two = omega (arith, one, two)

pub tied_on : (own own' : HardwareAddress) (out out' : List Outgoing) (sent sent' : List (List ℕ)) → own' ≡ own →
    IsTied (medium_on own) out sent out' sent' → IsTied (medium_on own') out sent out' sent'
tied_on own own' out out' sent sent' same tied = subst (λ (h : HardwareAddress). IsTied (medium_on h) out sent out' sent') (sym same) tied
