-- The frames that a host sent, as the link hands them over and cuts them.
use Rattle.std.proofs.Common.{◌≡◌, inl, inr, ℕ, ◌+◌, ◌%◌, ◌≤◌, ◌/◌, ◌==◌, ◌&&◌, Bool, true, false, cond, List, ◌++◌, length, slice_index, Option, Some, None}
use Rattle.std.proofs.Common.{refl, sym, ◌∙◌, ap, subst}
use Rattle.std.specs.Prelude.{nat_le}
use Rattle.sim_link.specs.Medium.{Medium}
use Rattle.sim_link.specs.Capabilities.{frame_header}
use Rattle.iface_ingress.specs.Fields.{be16}
use Rattle.iface_ingress.specs.HardwareAddress.{HardwareAddress}
use Rattle.interface.specs.Ipv6 as Ipv6
use Rattle.interface.specs.Ipv6Repr.{Ipv6Repr}
use Rattle.iface_egress.specs.Departure.{fragment_v6, fragment_header}
use Rattle.interface.specs.Ipv4.{header_len_of}
use Rattle.sim_link.specs.PacketInFrame.{packet_in, names_tcp_or_udp}
use Rattle.sim_link.specs.Cuts.{ipv4_part, first_fragment, second_fragment}
use Rattle.sim_link.specs.Parts.{may_carry, is_ipv4, payload_v4}
use Rattle.sim_link.specs.declared.part.Part.{Part}
use Rattle.lan.specs.Worlds.Link.Made.{Makes}
use Rattle.lan.specs.Worlds.Link.Frames.{Outgoing, medium_on, IsLinkHeader6, BringsFrom, AreOut}
use Rattle.lan.specs.Worlds.Link.Sides.{IsHostFrame}
use Rattle.lan.proofs.Worlds.Link.Following.{ether_front, said, none_left}
use Rattle.lan.proofs.Worlds.Link.Contents.{slice_brings, whole6_brings, fragment6_brings}
use Rattle.lan.proofs.Worlds.Link.CutFrames.{part_is, front_is, back_is}
use Rattle.lan.proofs.Worlds.Link.Noise.{noise_names_neither, whole_where_none}

-- HANDED OVER

module _ (made : Makes) (hardware : HardwareAddress) (out : List Outgoing) where
  -- a host's frame, or a fragment that the link made, with any padding
  pub host_frame_brings : (frame padding : List ℕ) → AreOut made out → IsHostFrame (medium_on hardware) out frame →
      BringsFrom made out hardware (frame ++ padding)
  host_frame_brings frame padding all (inl f) = slice_brings made hardware out frame padding f
  host_frame_brings frame padding all (inr (inl f)) = whole6_brings made hardware out frame padding all f
  host_frame_brings frame padding all (inr (inr (inl f))) = fragment6_brings made hardware out frame padding all f
  host_frame_brings frame padding all (inr (inr (inr f))) = λ v is. inl (whole_where_none made v (f.brings hardware padding v refl is))

  -- bytes that name neither TCP nor UDP
  pub noise_brings : (bytes : List ℕ) → names_tcp_or_udp (medium_on hardware) bytes ≡ false → BringsFrom made out hardware bytes
  noise_brings bytes none v is = inl (whole_where_none made v (noise_names_neither hardware bytes v none is))

-- CUT

test_fails : (a b c d e : Bool) → b ≡ false → a && b && c && d && e ≡ false
test_fails true b c d e none = rw none refl
test_fails false b c d e none = refl

left_fails : (a b : Bool) (part : Part) → a ≡ false → (let o : Option Part = cond (a && b) (Some part) None in o) ≡ None
left_fails a b part none = rw none refl

right_fails : (a b : Bool) (part : Part) → b ≡ false → (let o : Option Part = cond (a && b) (Some part) None in o) ≡ None
right_fails true b part none = rw none refl
right_fails false b part none = refl

-- a packet of IPv6 has another version
pub other_version : (v : Ipv6Repr) (rest : List ℕ) → is_ipv4 (Ipv6.written v ++ rest) ≡ false
other_version v rest =
    let packet : List ℕ = Ipv6.written v ++ rest in
    test_fails (nat_le 20 (length packet)) (slice_index packet 0 / 16 == 4) (nat_le 20 (header_len_of packet)) (nat_le (header_len_of packet) (be16 packet 2))
    (nat_le (be16 packet 2) (length packet)) refl

number_other : (n : ℕ) → n ≡ 0x86dd → n == 0x0800 ≡ false
number_other n is = rw is refl

-- a frame of an IPv6 packet can't be cut
pub uncut6 : (medium : Medium) (frame link : List ℕ) (v : Ipv6Repr) (bytes : List ℕ) → IsLinkHeader6 medium link →
    frame ≡ link ++ (Ipv6.written v ++ bytes) → ipv4_part medium frame ≡ None
uncut6 Medium.Ethernet frame link v bytes is_link is =
    let packet : List ℕ = Ipv6.written v ++ bytes in
    let number : be16 (link ++ packet) 12 ≡ 0x86dd = ether_front link packet is_link.len ∙ said (be16 link 12) 0x86dd is_link.carries in
    ap (ipv4_part Medium.Ethernet) is
    ∙ left_fails (may_carry Medium.Ethernet 0x0800 (link ++ packet)) (is_ipv4 (packet_in Medium.Ethernet (link ++ packet)))
    (payload_v4 Medium.Ethernet (packet_in Medium.Ethernet (link ++ packet))) (number_other (be16 (link ++ packet) 12) number)
uncut6 Medium.Ip frame link v bytes is_link is =
    let packet : List ℕ = Ipv6.written v ++ bytes in
    let bare : frame ≡ packet = is ∙ ap (λ (l : List ℕ). l ++ packet) (none_left link is_link.len) in
    ap (ipv4_part Medium.Ip) bare ∙ right_fails true (is_ipv4 packet) (payload_v4 Medium.Ip packet) (other_version v bytes)

no_part : (o : Option Part) (part : Part) → o ≡ None → o ≡ Some part → ⊥
no_part o part none some = cc

-- both fragments of a frame that can be cut are frames of its host's packets
pub cut_is_host : (medium : Medium) (out : List Outgoing) (frame : List ℕ) (part : Part) (at : ℕ) → IsHostFrame medium out frame →
    ipv4_part medium frame ≡ Some part → at ≤ part.len → at % 8 ≡ 0
    → IsHostFrame medium out (first_fragment medium frame at) × IsHostFrame medium out (second_fragment medium frame at)
cut_is_host medium out frame part at (inl f) is within unit =
    let same : Some part ≡ Some (record { at = frame_header medium + 20; len = f.slice.count }) = sym is ∙ part_is medium out frame f in
    let part_same : part ≡ record { at = frame_header medium + 20; len = f.slice.count } = cc in
    let count : part.len ≡ f.slice.count = ap (λ (p : Part). p.len) part_same in
    let less : at ≤ f.slice.count = subst (λ (n : ℕ). at ≤ n) count within in
    (inl (front_is medium out frame f at less), inl (back_is medium out frame f at less unit))
cut_is_host medium out frame part at (inr (inl f)) is within unit =
    absurd (no_part (ipv4_part medium frame) part (uncut6 medium frame f.link f.header f.bytes f.is_link f.frame_is) is)
cut_is_host medium out frame part at (inr (inr (inl f))) is within unit =
    absurd (no_part (ipv4_part medium frame) part
    (uncut6 medium frame f.link (fragment_v6 f.header f.fragment) (fragment_header f.header.next_header f.number f.fragment ++ f.fragment.bytes) f.is_link f.frame_is)
    is)
cut_is_host medium out frame part at (inr (inr (inr f))) is within unit = absurd (no_part (ipv4_part medium frame) part f.uncut is)
