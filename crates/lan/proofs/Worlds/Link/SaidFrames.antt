-- Frames of slices and fragments say of a datagram what these say, cut and padded too.
use Rattle.std.proofs.Common.{◌≡◌, ◌⊎◌, inl, inr, ℕ, zero, suc, ◌+◌, ◌-◌, ◌%◌, ◌^◌, ◌<◌, ◌≤◌, Bool, true, false, cond, List, [], ◌∷◌, ◌++◌, length, take, drop}
use Rattle.std.proofs.Common.{Option, Some, None, refl, sym, ◌∙◌, ap, subst, append_assoc, append-nil, arith}
use Rattle.std.specs.Prelude.{slice_get}
use Rattle.std.specs.List.{AllByRecursion}
use Rattle.std.proofs.lemmas.List.{drop_at}
use Rattle.tcp_theory.specs.ReceiveMap.{Begins}
use Rattle.sim_link.specs.Medium.{Medium}
use Rattle.sim_link.specs.Medium.TheVariants as Medium
use Rattle.sim_link.specs.Capabilities.{frame_header}
use Rattle.iface_ingress.specs.HardwareAddress.{HardwareAddress}
use Rattle.iface_ingress.specs.HardwareAddress.TheVariants as Hardware
use Rattle.interface.specs.Ipv4 as Ipv4
use Rattle.interface.specs.Ipv4Fragment.{Ipv4Fragment}
use Rattle.interface.specs.Ipv4Repr.{Ipv4Repr}
use Rattle.interface.specs.Ipv6 as Ipv6
use Rattle.interface.specs.Ipv6Repr.{Ipv6Repr}
use Rattle.iface_ingress.specs.EthernetRepr.{EthernetRepr}
use Rattle.iface_tables.specs.FragmentList as FragmentList
use Rattle.iface_tables.specs.Settings.{is_of_medium}
use Rattle.iface_tables.specs.declared.key.FragKey.{FragKey}
use Rattle.iface_tables.specs.declared.key.FragKey.TheVariants as Keys
use Rattle.iface_ingress.specs.Incoming.{IncomingValue, Arp, Ip4, Ip6, IsPacketV4, IsPacketV6, IsIncoming}
use Rattle.iface_ingress.specs.Processed.{is_known_v6}
use Rattle.iface_ingress.specs.Reassembled.{FragmentValue, is_fragment, part_v4, part_in, following_headers, uncut}
use Rattle.iface_ingress.proofs.OneContent.{one-incoming}
use Rattle.sim_link.specs.PacketInFrame.{packet_in, names_tcp_or_udp}
use Rattle.sim_link.specs.Cuts.{ipv4_part, first_fragment, second_fragment}
use Rattle.sim_link.specs.Slices.{Slice, IsSliceOf, IsLinkHeader, bytes_of_slice, frame_of_slice, front_of, back_of}
use Rattle.sim_link.specs.declared.part.Part.{Part}
use Rattle.sim_link.proofs.Slicing.{first-slice, second-slice, ipv4_part-slice, IsSliceOf-front, IsSliceOf-back}
use Rattle.lan.specs.Worlds.Hosts.Damage.{BringsNoSegment, IsNoSegment}
use Rattle.lan.specs.Worlds.Link.Made.{sealed}
use Rattle.lan.specs.Worlds.Link.Frames.{Outgoing, medium_on, IsSlice, IsWhole6, IsFragment6, IsLinkHeader6}
use Rattle.lan.specs.Worlds.Link.StoredFragments.{IsForeignKey}
use Rattle.lan.specs.Worlds.Link.Sides.{IsHostFrame, IsOther, BringsNone}
use Rattle.lan.specs.Worlds.FragmentFacts.{Fact, ByteAt, EndsAt, IsOf, Says, CarriesV4, CarriesV6, Carries, IsSaid}
use Rattle.lan.proofs.Worlds.Link.Following.{with_len, packet_of_slice, fragment_of_slice, count_of_slice, read_slice, read_v6, read_following4, read_following6, none_left}
use Rattle.lan.proofs.Worlds.Link.Following.{any_node, framed6}
use Rattle.lan.proofs.Worlds.Link.HostFrames.{uncut6}
use Rattle.lan.proofs.Worlds.Link.Hands.{no_part}
use Rattle.lan.proofs.Worlds.Link.Noise.{noise_names_neither}
use Rattle.lan.proofs.Worlds.Link.Fragments6.{header6, rest6, value6, fits6, len6}
use Rattle.lan.proofs.Worlds.Link.AssemblerFacts.{FragmentSo, ContentSo}
use Rattle.lan.proofs.Worlds.Link.Whole6.{known_whole}

-- BYTES OF A SLICE

get_take : (n : ℕ) (xs : List ℕ) (j b : ℕ) → slice_get (take n xs) j ≡ Some b → (j < n) × (slice_get xs j ≡ Some b)
get_take zero xs j b is = absurd cc
get_take (suc n) [] j b is = absurd cc
get_take (suc n) (x ∷ xs) zero b is = (omega arith, is)
get_take (suc n) (x ∷ xs) (suc j) b is = let rest = get_take n xs j b is in ((let r = rest.0 in omega (arith, r)), rest.1)

take_get : (n : ℕ) (xs : List ℕ) (j b : ℕ) → j < n → slice_get xs j ≡ Some b → slice_get (take n xs) j ≡ Some b
take_get zero xs j b small is = absurd (omega (arith, small))
take_get (suc n) [] j b small is = absurd cc
take_get (suc n) (x ∷ xs) zero b small is = is
take_get (suc n) (x ∷ xs) (suc j) b small is = take_get n xs j b (omega (arith, small)) is

get_drop : (n : ℕ) (xs : List ℕ) (j b : ℕ) → slice_get (drop n xs) j ≡ Some b → slice_get xs (n + j) ≡ Some b
get_drop zero xs j b is = let e : j ≡ zero + j = omega arith in subst (λ (k : ℕ). slice_get xs k ≡ Some b) e is
get_drop (suc n) [] j b is = absurd cc
get_drop (suc n) (x ∷ xs) j b is = let e : suc (n + j) ≡ suc n + j = omega arith in subst (λ (k : ℕ). slice_get (x ∷ xs) k ≡ Some b) e (get_drop n xs j b is)

drop_get : (n : ℕ) (xs : List ℕ) (j b : ℕ) → slice_get xs (n + j) ≡ Some b → slice_get (drop n xs) j ≡ Some b
drop_get zero xs j b is = let e : zero + j ≡ j = omega arith in subst (λ (k : ℕ). slice_get xs k ≡ Some b) e is
drop_get (suc n) [] j b is = absurd cc
drop_get (suc n) (x ∷ xs) j b is = let e : suc n + j ≡ suc (n + j) = omega arith in drop_get n xs j b (subst (λ (k : ℕ). slice_get (x ∷ xs) k ≡ Some b) e is)

begins_get : (xs ys : List ℕ) (j b : ℕ) → Begins xs ys → slice_get xs j ≡ Some b → slice_get ys j ≡ Some b
begins_get [] ys j b begins is = absurd cc
begins_get (x ∷ xs) [] j b begins is = absurd begins
begins_get (x ∷ xs) (y ∷ ys) zero b begins is = let e : x ≡ b = cc in ap Some (sym begins.0 ∙ e)
begins_get (x ∷ xs) (y ∷ ys) (suc j) b begins is = begins_get xs ys j b begins.1 is

-- what a fragment of a datagram says is the datagram's
pub fragment_is_of : (bytes : List ℕ) (p : FragmentValue) → FragmentList.IsSliceOf bytes (record { offset = p.offset; more = p.more; bytes = p.bytes }) → (fact : Fact) →
    Says p fact → IsOf bytes fact
fragment_is_of bytes p within (ByteAt k b) says =
    subst (λ (n : ℕ). slice_get bytes n ≡ Some b) says.1
    (get_drop p.offset bytes says.0 b (begins_get p.bytes (drop p.offset bytes) says.0 b within.slice says.2))
fragment_is_of bytes p within (EndsAt n) says = says.1 ∙ within.last says.0

-- A SLICE CUT IN TWO

abbrev pub slice_part : FragKey → List ℕ → Slice → FragmentValue
slice_part key payload s = record { key = key; offset = s.at; more = s.more; bytes = bytes_of_slice payload s }

front_says : (key : FragKey) (payload : List ℕ) (s : Slice) (cut : ℕ) → cut ≤ s.count → (fact : Fact) →
    Says (slice_part key payload (front_of s cut)) fact → Says (slice_part key payload s) fact
front_says key payload s cut within (ByteAt k b) says =
    let got = get_take cut (drop s.at payload) says.0 b says.2 in
    let small : says.0 < s.count = (let g = got.0 in omega (arith, g, within)) in
    (says.0, says.1, take_get s.count (drop s.at payload) says.0 b small got.1)
front_says key payload s cut within (EndsAt n) says = absurd (let e = says.0 in cc)

back_says : (key : FragKey) (payload : List ℕ) (s : Slice) (cut : ℕ) → IsSliceOf payload s → cut ≤ s.count → (fact : Fact) →
    Says (slice_part key payload (back_of s cut)) fact → Says (slice_part key payload s) fact
back_says key payload s cut slice within (ByteAt k b) says =
    let got = get_take (s.count - cut) (drop (s.at + cut) payload) says.0 b says.2 in
    let there : slice_get payload (s.at + cut + says.0) ≡ Some b = get_drop (s.at + cut) payload says.0 b got.1 in
    let moved : slice_get payload (s.at + (cut + says.0)) ≡ Some b =
    (let e : s.at + cut + says.0 ≡ s.at + (cut + says.0) = omega arith in subst (λ (n : ℕ). slice_get payload n ≡ Some b) e there) in
    let small : cut + says.0 < s.count = (let g = got.0 in omega (arith, g, within)) in
    let slot : s.at + (cut + says.0) ≡ k = (let e = says.1 in omega (arith, e)) in
    (cut + says.0, slot, take_get s.count (drop s.at payload) (cut + says.0) b small (drop_get s.at payload (cut + says.0) b moved))
back_says key payload s cut slice within (EndsAt n) says =
    let short : length (bytes_of_slice payload (back_of s cut)) ≡ s.count - cut =
    count_of_slice payload (back_of s cut) (IsSliceOf-back payload s cut slice within) in
    let long : length (bytes_of_slice payload s) ≡ s.count = count_of_slice payload s slice in
    let end : n ≡ s.at + length (bytes_of_slice payload s) = (let e = says.1 in omega (arith, e, short, long, within)) in
    (says.0, end)

-- FRAMES

-- a frame of a slice of some payload
pub record IsSliceFrame (medium : Medium) (frame : List ℕ) : Type 0 where
  pub link : List ℕ
  pub header : Ipv4Repr
  pub bytes : List ℕ
  pub slice : Slice
  pub is_link : IsLinkHeader medium link
  pub value : Ipv4.IsValue header
  pub short : 20 + length bytes < 2 ^ 16
  pub within : IsSliceOf bytes slice
  pub unit : slice.at % 8 ≡ 0
  pub frame_is : frame ≡ frame_of_slice link header bytes slice

-- a frame of some IPv6 packet
pub record IsFrame6 (medium : Medium) (frame : List ℕ) : Type 0 where
  pub link : List ℕ
  pub header : Ipv6Repr
  pub bytes : List ℕ
  pub is_link : IsLinkHeader6 medium link
  pub value : Ipv6.IsValue header
  pub fits : Ipv6.Fits header
  pub len : header.payload_len ≡ length bytes
  pub frame_is : frame ≡ link ++ (Ipv6.written header ++ bytes)

-- no fragment of TCP or UDP, nor any of IPv6
abbrev pub IsNoFragment : IncomingValue → Type 0
IsNoFragment v = (p : FragmentValue) → part_in v ≡ Some p → IsForeignKey p.key

-- a frame that can't be cut, and brings no fragment of TCP or UDP, nor any of IPv6, whatever padding follows
pub record IsForeign (medium : Medium) (frame : List ℕ) : Type 0 where
  pub uncut : ipv4_part medium frame ≡ None
  pub brings : (hardware : HardwareAddress) (padding : List ℕ) (v : IncomingValue) → medium_on hardware ≡ medium →
      IsIncoming hardware sealed (frame ++ padding) v → IsNoFragment v

foreign_key : (b : Bool) (q p : FragmentValue) → cond b (Some q) None ≡ Some p → IsForeignKey q.key → IsForeignKey p.key
foreign_key true q p is none = let e : q ≡ p = cc in subst (λ (x : FragmentValue). IsForeignKey x.key) e none
foreign_key false q p is none = absurd cc

no_ports : (v : IncomingValue) → BringsNone v → IsNoFragment v
no_ports (Arp link packet) none p is = absurd cc
no_ports (Ip4 link h q x) none p is = foreign_key (is_fragment q) (part_v4 h q x) p is none.0
no_ports (Ip6 link h x) none p is = absurd (no_part h x (following_headers h x) p none.1 is)

abbrev pub slice_frame : (out : List Outgoing) (medium : Medium) (frame : List ℕ) → IsSlice medium out frame → IsSliceFrame medium frame
slice_frame out medium frame f =
    record {
      link = f.link;
      header = f.header;
      bytes = f.bytes;
      slice = f.slice;
      is_link = f.is_link;
      value = f.sent.value;
      short = f.sent.short;
      within =
          f.within;
      unit = f.unit;
      frame_is = f.frame_is;
    }

abbrev pub whole6_frame : (out : List Outgoing) (medium : Medium) (frame : List ℕ) → IsWhole6 medium out frame → IsFrame6 medium frame
whole6_frame out medium frame f = record {
  link = f.link;
  header = f.header;
  bytes = f.bytes;
  is_link = f.is_link;
  value = f.sent.value;
  fits = f.sent.fits;
  len = f.sent.len;
  frame_is = f.frame_is;
}

abbrev pub fragment6_frame : (out : List Outgoing) (medium : Medium) (frame : List ℕ) → IsFragment6 medium out frame → IsFrame6 medium frame
fragment6_frame out medium frame f = record {
  link = f.link;
  header = header6 medium out frame f;
  bytes = rest6 medium out frame f;
  is_link = f.is_link;
  value = value6 medium out frame f;
  fits = fits6 medium out frame f;
  len = len6 medium out frame f;
  frame_is = f.frame_is;
}

-- a host's frame is one of these three
abbrev pub IsEither : Medium → List ℕ → Type 0
IsEither medium frame = IsSliceFrame medium frame ⊎ IsFrame6 medium frame ⊎ IsForeign medium frame

pub either_frame : (out : List Outgoing) (medium : Medium) (frame : List ℕ) → IsHostFrame medium out frame → IsEither medium frame
either_frame out medium frame (inl f) = inl (slice_frame out medium frame f)
either_frame out medium frame (inr (inl f)) = inr (inl (whole6_frame out medium frame f))
either_frame out medium frame (inr (inr (inl f))) = inr (inl (fragment6_frame out medium frame f))
either_frame out medium frame (inr (inr (inr f))) =
    inr (inr (record { uncut = f.uncut; brings = λ hardware padding v same is. no_ports v (f.brings hardware padding v same is) }))

module _ (medium : Medium) (frame : List ℕ) (f : IsSliceFrame medium frame) where
  abbrev pub slice_key : FragKey
  slice_key = Keys.Ipv4 (Ipv4.key_of (Ipv4.normal f.header))

  abbrev pub SliceSays : Fact → Type 0
  SliceSays fact = Says (slice_part slice_key f.bytes f.slice) fact

  joined_is : (padding : List ℕ) → frame ++ padding ≡ f.link ++ packet_of_slice f.header f.bytes f.slice padding
  joined_is padding =
      let w : List ℕ = Ipv4.written_fragment true (with_len f.header f.slice.count) f.slice.at f.slice.more ++ bytes_of_slice f.bytes f.slice in
      ap (λ (b : List ℕ). b ++ padding) f.frame_is ∙ append_assoc f.link w padding

  read_is : (padding : List ℕ) →
      IsPacketV4 sealed (packet_of_slice f.header f.bytes f.slice padding) (Ipv4.normal (with_len f.header f.slice.count)) (fragment_of_slice f.slice)
      (bytes_of_slice f.bytes f.slice)
  read_is padding = read_slice f.header f.bytes padding f.slice f.value f.short f.within f.unit

  packet_is : packet_in medium frame ≡ packet_of_slice f.header f.bytes f.slice []
  packet_is =
      ap (drop (frame_header medium)) (sym (append-nil frame) ∙ joined_is []) ∙
      drop_at f.link (packet_of_slice f.header f.bytes f.slice []) (frame_header medium) f.is_link.len

  pub part_is : ipv4_part medium frame ≡ Some (record { at = frame_header medium + 20; len = f.slice.count })
  part_is =
      ap (ipv4_part medium) (f.frame_is ∙ sym (append-nil (frame_of_slice f.link f.header f.bytes f.slice)))
      ∙ ipv4_part-slice medium f.link [] f.bytes f.header f.slice f.is_link f.value f.short f.within f.unit

  -- it says what its slice says
  pub slice_carries : (fact : Fact) → SliceSays fact → Carries medium frame slice_key fact
  slice_carries fact says = record {
    fragment = slice_part slice_key f.bytes f.slice;
    read = inl (record {
      part = record { at = frame_header medium + 20; len = f.slice.count };
      there = part_is;
      header = Ipv4.normal (with_len f.header f.slice.count);
      fragment = fragment_of_slice f.slice;
      bytes = bytes_of_slice f.bytes f.slice;
      read = subst (λ (b : List ℕ). IsPacketV4 sealed b (Ipv4.normal (with_len f.header f.slice.count)) (fragment_of_slice f.slice)
          (bytes_of_slice f.bytes f.slice)) (sym packet_is) (read_is []);
      fragment_is = refl;
    });
    key_is = refl;
    says = says;
  }

  -- whoever takes it, with padding, reads the slice
  slice_read : (hardware : HardwareAddress) (padding : List ℕ) (v : IncomingValue) → medium_on hardware ≡ medium →
      IsIncoming hardware sealed (frame ++ padding) v
      → (l : Option EthernetRepr) × (v ≡ Ip4 l (Ipv4.normal (with_len f.header f.slice.count)) (fragment_of_slice f.slice) (bytes_of_slice f.bytes f.slice))
  slice_read hardware padding v same is =
      read_following4 (packet_of_slice f.header f.bytes f.slice padding) (Ipv4.normal (with_len f.header f.slice.count)) (fragment_of_slice f.slice)
      (bytes_of_slice f.bytes f.slice) (read_is padding) hardware f.link v
      (subst (λ (m : Medium). IsLinkHeader m f.link) (sym same) f.is_link) (subst (λ (b : List ℕ). IsIncoming hardware sealed b v) (joined_is padding) is)

  carries_v4 : (p : FragmentValue) → CarriesV4 medium frame p → p ≡ slice_part slice_key f.bytes f.slice
  carries_v4 p c =
      let read : IsPacketV4 sealed (packet_of_slice f.header f.bytes f.slice []) c.header c.fragment c.bytes =
      subst (λ (b : List ℕ). IsPacketV4 sealed b c.header c.fragment c.bytes) packet_is c.read in
      let same : Ip4 None c.header c.fragment c.bytes ≡
      Ip4 None (Ipv4.normal (with_len f.header f.slice.count)) (fragment_of_slice f.slice) (bytes_of_slice f.bytes f.slice) =
      one-incoming Hardware.Ip sealed (packet_of_slice f.header f.bytes f.slice []) (Ip4 None c.header c.fragment c.bytes)
      (Ip4 None (Ipv4.normal (with_len f.header f.slice.count)) (fragment_of_slice f.slice) (bytes_of_slice f.bytes f.slice)) read (read_is []) in
      let header : c.header ≡ Ipv4.normal (with_len f.header f.slice.count) = cc in
      let fragment : c.fragment ≡ fragment_of_slice f.slice = cc in
      let bytes : c.bytes ≡ bytes_of_slice f.bytes f.slice = cc in
      c.fragment_is
      ∙ ap (λ (h : Ipv4Repr). part_v4 h c.fragment c.bytes) header
      ∙ ap (λ (q : Ipv4Fragment). part_v4 (Ipv4.normal (with_len f.header f.slice.count)) q c.bytes) fragment
      ∙ ap (part_v4 (Ipv4.normal (with_len f.header f.slice.count)) (fragment_of_slice f.slice)) bytes

  -- and nothing else
  carries_by : (p : FragmentValue) → CarriesV4 medium frame p ⊎ CarriesV6 medium frame p → p ≡ slice_part slice_key f.bytes f.slice
  carries_by p (inl c) = carries_v4 p c
  carries_by p (inr c) =
      absurd (let e = (slice_read c.hardware [] (Ip6 c.link c.header c.payload) c.of_medium
      (subst (λ (b : List ℕ). IsIncoming c.hardware sealed b (Ip6 c.link c.header c.payload)) (sym (append-nil frame)) c.read)).1 in cc)

  pub carries_slice : (k : FragKey) (fact : Fact) → Carries medium frame k fact → (slice_key ≡ k) × SliceSays fact
  carries_slice k fact c =
      let same = carries_by c.fragment c.read in
      (sym (ap (λ (p : FragmentValue). p.key) same) ∙ c.key_is, subst (λ (p : FragmentValue). Says p fact) same c.says)

  module _ (at : ℕ) (less : at ≤ f.slice.count) where
    pub spelled_is : frame ≡ frame_of_slice f.link f.header f.bytes f.slice ++ []
    spelled_is = f.frame_is ∙ sym (append-nil (frame_of_slice f.link f.header f.bytes f.slice))

    abbrev pub front_frame : IsSliceFrame medium (first_fragment medium frame at)
    front_frame = record {
      link = f.link;
      header = f.header;
      bytes = f.bytes;
      slice = front_of f.slice at;
      is_link = f.is_link;
      value = f.value;
      short = f.short;
      within = IsSliceOf-front f.bytes f.slice at f.within less;
      unit = f.unit;
      frame_is = ap (λ (b : List ℕ). first_fragment medium b at) spelled_is ∙
          first-slice f.header f.bytes [] f.slice f.value f.short f.within f.unit medium f.link f.is_link at less;
    }

    abbrev pub back_frame : at % 8 ≡ 0 → IsSliceFrame medium (second_fragment medium frame at)
    back_frame unit = record {
      link = f.link;
      header = f.header;
      bytes = f.bytes;
      slice = back_of f.slice at;
      is_link = f.is_link;
      value = f.value;
      short = f.short;
      within = IsSliceOf-back f.bytes f.slice at f.within less;
      unit = let u = f.unit in omega (arith, u, unit);
      frame_is = ap (λ (b : List ℕ). second_fragment medium b at) spelled_is ∙
          second-slice f.header f.bytes [] f.slice f.value f.short f.within f.unit medium f.link f.is_link at less;
    }

-- IPV6

module _ (medium : Medium) (frame : List ℕ) (f : IsFrame6 medium frame) where
  -- which fragment its packet is, if it is one
  abbrev pub IsPart6 : FragmentValue → Type 0
  IsPart6 p = part_in (Ip6 None (Ipv6.normal f.header) f.bytes) ≡ Some p

  -- whoever takes it, with padding, reads the packet
  pub read6 : (hardware : HardwareAddress) (padding : List ℕ) (v : IncomingValue) → medium_on hardware ≡ medium → IsIncoming hardware sealed (frame ++ padding) v
      → (l : Option EthernetRepr) × (v ≡ Ip6 l (Ipv6.normal f.header) f.bytes)
  read6 hardware padding v same is =
      let w : List ℕ = Ipv6.written f.header ++ f.bytes in
      let joined : frame ++ padding ≡ f.link ++ (w ++ padding) = ap (λ (b : List ℕ). b ++ padding) f.frame_is ∙ append_assoc f.link w padding in
      read_following6 (w ++ padding) (Ipv6.normal f.header) f.bytes (read_v6 f.header f.bytes padding f.value f.fits f.len) hardware f.link v
      (subst (λ (m : Medium). IsLinkHeader6 m f.link) (sym same) f.is_link) (subst (λ (b : List ℕ). IsIncoming hardware sealed b v) joined is)

  -- it can't be cut
  pub uncut6_frame : ipv4_part medium frame ≡ None
  uncut6_frame = uncut6 medium frame f.link f.header f.bytes f.is_link f.frame_is

  -- there is a host of the medium that reads it
  reader_on : (m : Medium) → IsLinkHeader6 m f.link → (hardware : HardwareAddress) × (l : Option EthernetRepr) × (medium_on hardware ≡ m)
      × IsIncoming hardware sealed (f.link ++ (Ipv6.written f.header ++ f.bytes)) (Ip6 l (Ipv6.normal f.header) f.bytes)
  reader_on Medium.Ethernet is_link =
      let w : List ℕ = Ipv6.written f.header ++ f.bytes in
      let known : IsPacketV6 w (Ipv6.normal f.header) f.bytes =
      subst (λ (b : List ℕ). IsPacketV6 b (Ipv6.normal f.header) f.bytes) (append-nil w) (read_v6 f.header f.bytes [] f.value f.fits f.len) in
      let framed = framed6 f.link w is_link in (
        Hardware.Ethernet any_node,
        Some framed.0,
        refl,
        (framed.1, subst (λ (b : List ℕ). IsPacketV6 b (Ipv6.normal f.header) f.bytes) (sym (drop_at f.link w 14 is_link.len)) known),
      )
  reader_on Medium.Ip is_link =
      let w : List ℕ = Ipv6.written f.header ++ f.bytes in
      let known : IsPacketV6 w (Ipv6.normal f.header) f.bytes =
      subst (λ (b : List ℕ). IsPacketV6 b (Ipv6.normal f.header) f.bytes) (append-nil w) (read_v6 f.header f.bytes [] f.value f.fits f.len) in (
        Hardware.Ip,
        None,
        refl,
        subst (λ (l : List ℕ). IsIncoming Hardware.Ip sealed (l ++ w) (Ip6 None (Ipv6.normal f.header) f.bytes)) (sym (none_left f.link is_link.len)) known,
      )

  part_at : (l : Option EthernetRepr) (p : FragmentValue) → IsPart6 p → part_in (Ip6 l (Ipv6.normal f.header) f.bytes) ≡ Some p
  part_at l p is = is

  -- it says what its fragment says
  pub fragment_carries : (p : FragmentValue) → IsPart6 p → (fact : Fact) → Says p fact → Carries medium frame p.key fact
  fragment_carries p is fact says =
      let reader = reader_on medium f.is_link in
      record {
        fragment = p;
        read = inr (record {
          hardware = reader.0;
          of_medium = reader.2;
          link = reader.1;
          header = Ipv6.normal f.header;
          payload = f.bytes;
          read = subst (λ (b : List ℕ). IsIncoming reader.0 sealed b (Ip6 reader.1 (Ipv6.normal f.header) f.bytes)) (sym f.frame_is) reader.3;
          fragment_is = part_at reader.1 p is;
        });
        key_is = refl;
        says = says;
      }

  -- and nothing else
  carries6_by : (p : FragmentValue) → CarriesV4 medium frame p ⊎ CarriesV6 medium frame p → IsPart6 p
  carries6_by p (inl c) = absurd (let e : None ≡ Some c.part = sym uncut6_frame ∙ c.there in cc)
  carries6_by p (inr c) =
      let found = read6 c.hardware [] (Ip6 c.link c.header c.payload) c.of_medium
      (subst (λ (b : List ℕ). IsIncoming c.hardware sealed b (Ip6 c.link c.header c.payload)) (sym (append-nil frame)) c.read) in
      sym (ap part_in found.1) ∙ c.fragment_is

  pub carries_fragment : (k : FragKey) (fact : Fact) → Carries medium frame k fact → (p : FragmentValue) × IsPart6 p × (p.key ≡ k) × Says p fact
  carries_fragment k fact c = (c.fragment, carries6_by c.fragment c.read, c.key_is, c.says)

-- nothing is carried by others
pub carries_none : (medium : Medium) (frame : List ℕ) → IsOther medium frame → (k : FragKey) (fact : Fact) → Carries medium frame k fact → ⊥
carries_none medium frame f k fact c = by c.fragment c.read where
  by : (p : FragmentValue) → CarriesV4 medium frame p ⊎ CarriesV6 medium frame p → ⊥
  by p (inl c4) = let e : None ≡ Some c4.part = sym f.uncut ∙ c4.there in cc
  by p (inr c6) =
      let none = f.brings c6.hardware [] (Ip6 c6.link c6.header c6.payload) c6.of_medium
      (subst (λ (b : List ℕ). IsIncoming c6.hardware sealed b (Ip6 c6.link c6.header c6.payload)) (sym (append-nil frame)) c6.read) in
      no_part c6.header c6.payload (following_headers c6.header c6.payload) p none.1 c6.fragment_is

-- WHAT IS SO: S says it of the datagram with a key

-- a frame of a slice that says what is so
pub record SaysSo (S : FragKey → Fact → Type 0) (medium : Medium) (frame : List ℕ) : Type 0 where
  pub is_slice : IsSliceFrame medium frame
  pub so : (fact : Fact) → SliceSays medium frame is_slice fact → S (slice_key medium frame is_slice) fact

-- a frame of an IPv6 packet whose fragment, if it is one, says what is so
pub record SaysSo6 (S : FragKey → Fact → Type 0) (medium : Medium) (frame : List ℕ) : Type 0 where
  pub is_frame : IsFrame6 medium frame
  pub so : (p : FragmentValue) → IsPart6 medium frame is_frame p → (fact : Fact) → Says p fact → S p.key fact

abbrev pub FrameSo : (FragKey → Fact → Type 0) → Medium → List ℕ → Type 0
FrameSo S medium frame = SaysSo S medium frame ⊎ SaysSo6 S medium frame ⊎ IsForeign medium frame

-- whoever takes a frame reads what is so in it
abbrev pub TakenSo : (FragKey → Fact → Type 0) → Medium → List ℕ → Type 0
TakenSo S medium frame = (hardware : HardwareAddress) (v : IncomingValue) → medium_on hardware ≡ medium → IsIncoming hardware sealed frame v →
    ContentSo S (Some v)

no_fragment_so : (S : FragKey → Fact → Type 0) (v : IncomingValue) → IsNoFragment v → ContentSo S (Some v)
no_fragment_so S v none p is = inl (none p is)

slice_so : (S : FragKey → Fact → Type 0) (b : Bool) (q p : FragmentValue) → cond b (Some q) None ≡ Some p → ((fact : Fact) → Says q fact → S q.key fact) → FragmentSo S p
slice_so S true q p is so = let e : q ≡ p = cc in subst (FragmentSo S) e (inr so)
slice_so S false q p is so = absurd cc

module _ (S : FragKey → Fact → Type 0) (medium : Medium) where
  pub delivered_so : (frame padding : List ℕ) → FrameSo S medium frame → TakenSo S medium (frame ++ padding)
  delivered_so frame padding (inl f) hardware v same is =
      let found = slice_read medium frame f.is_slice hardware padding v same is in
      subst (λ (w : IncomingValue). ContentSo S (Some w)) (sym found.1)
      (λ p cut. slice_so S (is_fragment (fragment_of_slice f.is_slice.slice))
      (slice_part (slice_key medium frame f.is_slice) f.is_slice.bytes f.is_slice.slice) p cut f.so)
  delivered_so frame padding (inr (inl f)) hardware v same is =
      let found = read6 medium frame f.is_frame hardware padding v same is in
      subst (λ (w : IncomingValue). ContentSo S (Some w)) (sym found.1) (λ p there. inr (f.so p there))
  delivered_so frame padding (inr (inr f)) hardware v same is = no_fragment_so S v (f.brings hardware padding v same is)

  medium_of_hardware : (hardware : HardwareAddress) (m : Medium) → medium_on hardware ≡ m → is_of_medium hardware m ≡ true
  medium_of_hardware (Hardware.Ethernet own) Medium.Ethernet is = refl
  medium_of_hardware (Hardware.Ethernet own) Medium.Ip is = absurd cc
  medium_of_hardware Hardware.Ip Medium.Ethernet is = absurd cc
  medium_of_hardware Hardware.Ip Medium.Ip is = refl

  whole_fragment : (q : Ipv4Fragment) (h : Ipv4Repr) (x : List ℕ) (p : FragmentValue) → q ≡ uncut → cond (is_fragment q) (Some (part_v4 h q x)) None ≡ Some p → ⊥
  whole_fragment q h x p whole is =
      let e : None ≡ Some p = sym (ap (λ (r : Ipv4Fragment). cond (is_fragment r) (Some (part_v4 h r x)) None) whole) ∙ is in
      cc

  no_segment : (v : IncomingValue) → IsNoSegment sealed v → IsNoFragment v
  no_segment (Arp link packet) none p is = absurd cc
  no_segment (Ip4 link h q x) none p is = absurd (whole_fragment q h x p none.0 is)
  no_segment (Ip6 link h x) none p is = absurd (no_part h x (following_headers h x) p (known_whole h x (ap is_known_v6 none.0)) is)

  pub damaged_so : (frame : List ℕ) → BringsNoSegment medium frame → TakenSo S medium frame
  damaged_so frame none hardware v same is = no_fragment_so S v (no_segment v (none hardware v (medium_of_hardware hardware medium same) is))

  pub noise_so : (bytes : List ℕ) → names_tcp_or_udp medium bytes ≡ false → TakenSo S medium bytes
  noise_so bytes none hardware v same is =
      no_fragment_so S v (no_ports v (noise_names_neither hardware bytes v (ap (λ (m : Medium). names_tcp_or_udp m bytes) same ∙ none) is))

  -- both fragments of a frame that is cut
  pub cut_so : (frame : List ℕ) (part : Part) (at : ℕ) → FrameSo S medium frame → ipv4_part medium frame ≡ Some part → at ≤ part.len → at % 8 ≡ 0
      → FrameSo S medium (first_fragment medium frame at) × FrameSo S medium (second_fragment medium frame at)
  cut_so frame part at (inr (inl f)) is within unit = absurd (let e : None ≡ Some part = sym (uncut6_frame medium frame f.is_frame) ∙ is in cc)
  cut_so frame part at (inr (inr f)) is within unit = absurd (let e : None ≡ Some part = sym f.uncut ∙ is in cc)
  cut_so frame part at (inl f) is within unit =
      let same : Some part ≡ Some (record { at = frame_header medium + 20; len = f.is_slice.slice.count }) = sym is ∙ part_is medium frame f.is_slice in
      let part_same : part ≡ record { at = frame_header medium + 20; len = f.is_slice.slice.count } = cc in
      let count : part.len ≡ f.is_slice.slice.count = ap (λ (p : Part). p.len) part_same in
      let less : at ≤ f.is_slice.slice.count = subst (λ (n : ℕ). at ≤ n) count within in (
        inl (record {
          is_slice = front_frame medium frame f.is_slice at less;
          so = λ fact says. f.so fact (front_says (slice_key medium frame f.is_slice) f.is_slice.bytes f.is_slice.slice at less fact says);
        }),
        inl (record {
          is_slice = back_frame medium frame f.is_slice at less unit;
          so = λ fact says. f.so fact (back_says (slice_key medium frame f.is_slice) f.is_slice.bytes f.is_slice.slice at f.is_slice.within less fact says);
        }),
      )

-- FRAMES THAT A HOST SENT

get_following : (xs : List (List ℕ)) (x : List ℕ) (rest : List (List ℕ)) → slice_get (xs ++ x ∷ rest) (length xs) ≡ Some x
get_following [] x rest = refl
get_following (y ∷ xs) x rest = get_following xs x rest

get_more : (xs rest : List (List ℕ)) (k : ℕ) (x : List ℕ) → slice_get xs k ≡ Some x → slice_get (xs ++ rest) k ≡ Some x
get_more [] rest k x is = absurd cc
get_more (y ∷ xs) rest zero x is = is
get_more (y ∷ xs) rest (suc k) x is = get_more xs rest k x is

-- what was said is said by more frames
pub more_said : (medium : Medium) (frames rest : List (List ℕ)) (of : FragKey) (fact : Fact) → IsSaid medium frames of fact →
    IsSaid medium (frames ++ rest) of fact
more_said medium frames rest of fact s =
    record { slot = s.slot; frame = s.frame; frame_is = get_more frames rest s.slot s.frame s.frame_is; carries = s.carries }

-- each frame of a host says what its own frames say
pub own_so : (out : List Outgoing) (medium : Medium) (before frames : List (List ℕ)) → AllByRecursion (IsHostFrame medium out) frames →
    AllByRecursion (FrameSo (IsSaid medium (before ++ frames)) medium) frames
own_so out medium before [] all = tt
own_so out medium before (frame ∷ frames) all = (
  by (either_frame out medium frame all.0),
  subst (λ (xs : List (List ℕ)). AllByRecursion (FrameSo (IsSaid medium xs) medium) frames) (append_assoc before (frame ∷ []) frames)
      (own_so out medium (before ++ frame ∷ []) frames all.1),
) where
  said_by : (key : FragKey) (fact : Fact) → Carries medium frame key fact → IsSaid medium (before ++ frame ∷ frames) key fact
  said_by key fact carries = record { slot = length before; frame = frame; frame_is = get_following before frame frames; carries = carries }

  by : IsEither medium frame → FrameSo (IsSaid medium (before ++ frame ∷ frames)) medium frame
  by (inl f) = inl (record {
    is_slice = f;
    so = λ fact says. said_by (slice_key medium frame f) fact (slice_carries medium frame f fact says);
  })
  by (inr (inl f)) = inr (inl (record {
    is_frame = f;
    so = λ p is fact says. said_by p.key fact (fragment_carries medium frame f p is fact says);
  }))
  by (inr (inr f)) = inr (inr f)

-- LESS AND MORE

module _ (S T : FragKey → Fact → Type 0) (up : (key : FragKey) (fact : Fact) → S key fact → T key fact) (medium : Medium) where
  frame_up : (frame : List ℕ) → FrameSo S medium frame → FrameSo T medium frame
  frame_up frame (inl f) =
      inl (record { is_slice = f.is_slice; so = λ fact says. up (slice_key medium frame f.is_slice) fact (f.so fact says) })
  frame_up frame (inr (inl f)) = inr (inl (record { is_frame = f.is_frame; so = λ p is fact says. up p.key fact (f.so p is fact says) }))
  frame_up frame (inr (inr f)) = inr (inr f)

  pub frames_up : (frames : List (List ℕ)) → AllByRecursion (FrameSo S medium) frames → AllByRecursion (FrameSo T medium) frames
  frames_up [] all = tt
  frames_up (frame ∷ frames) all = (frame_up frame all.0, frames_up frames all.1)

  fragment_up : (p : FragmentValue) → FragmentSo S p → FragmentSo T p
  fragment_up p (inl none) = inl none
  fragment_up p (inr so) = inr (λ fact says. up p.key fact (so fact says))

  content_up : (v : IncomingValue) → ContentSo S (Some v) → ContentSo T (Some v)
  content_up v so p is = fragment_up p (so p is)

  pub taken_up : (frames : List (List ℕ)) → AllByRecursion (TakenSo S medium) frames → AllByRecursion (TakenSo T medium) frames
  taken_up [] all = tt
  taken_up (frame ∷ frames) all = (λ hardware v same is. content_up v (all.0 hardware v same is), taken_up frames all.1)
