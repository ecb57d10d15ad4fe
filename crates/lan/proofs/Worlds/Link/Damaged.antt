-- A frame of which one word of the TCP segment was exchanged for one of another sum brings no segment.
use Rattle.std.proofs.Common.{◌≡◌, ◌≢◌, inl, inr, ℕ, zero, suc, ◌+◌, ◌/◌, ◌%◌, ◌^◌, ◌<◌, ◌≤◌, List, [], ◌∷◌, ◌++◌, length, refl, ◌∙◌, ap, subst, arith}
use Rattle.std.proofs.Math.ListN.{set}
use Rattle.iface_ingress.specs.Fields.{be16, put16}
use Rattle.interface.specs.Ip as Ips
use Rattle.interface.specs.Ip.{carried_in, source_of, destination_of}
use Rattle.iface_ingress.specs.IpProtocol.TheVariants as Protocol
use Rattle.interface.specs.IpRepr.{IpRepr}
use Rattle.interface.specs.IpRepr.TheVariants as Ip
use Rattle.wire_tcp.specs.Tcp as Tcp
use Rattle.wire_tcp.proofs.Sealed.{IsTcp-put16}
use Rattle.sockets.specs.Packet.{PacketValue, PayloadValue, ControlV4, ControlV6, Bytes, Datagram, Segment}
use Rattle.iface_ingress.specs.UpperLayer.{IsCarried}
use Rattle.iface_ingress.specs.FragmentStored.{IsDamaged}
use Rattle.iface_ingress.specs.Sent.{normal_payload}
use Rattle.iface_ingress.proofs.Bare.{bare_where}
use Rattle.iface_ingress.specs.Upper.{upper_payload}
use Rattle.iface_ingress.proofs.FramesArrive.{payload-arrives}
use Rattle.lan.specs.Worlds.Link.Made.{Makes, sealed, WasMade, HandsMade, bytes_of}
use Rattle.lan.specs.Worlds.Link.Frames.{IsOut}
use Rattle.lan.proofs.Worlds.Link.Following.{sealed_both}

-- A WORD EXCHANGED BEHIND

set_following : (a b : List ℕ) (n k x : ℕ) → n ≡ length a + k → set (a ++ b) n x ≡ a ++ set b k x
set_following [] b n k x is = let e : n ≡ k = omega arith in ap (λ (m : ℕ). set b m x) e
set_following (y ∷ a) b zero k x is = absurd (omega arith)
set_following (y ∷ a) b (suc n) k x is = ap (λ (l : List ℕ). y ∷ l) (set_following a b n k x (omega arith))

pub put_following : (a b : List ℕ) (n k word : ℕ) → n ≡ length a + k → put16 (a ++ b) n word ≡ a ++ put16 b k word
put_following a b n k word is =
    let high : ℕ = word / 256 % 256 in
    let low : ℕ = word % 256 in
    ap (λ (l : List ℕ). set l (n + 1) low) (set_following a b n k high is) ∙ set_following a (set b k high) (n + 1) (k + 1) low (omega (arith, is))

set_len : (xs : List ℕ) (k x : ℕ) → length (set xs k x) ≡ length xs
set_len [] k x = refl
set_len (y ∷ xs) zero x = refl
set_len (y ∷ xs) (suc k) x = ap suc (set_len xs k x)

pub put_len : (xs : List ℕ) (k word : ℕ) → length (put16 xs k word) ≡ length xs
put_len xs k word = set_len (set xs k (word / 256 % 256)) (k + 1) (word % 256) ∙ set_len xs k (word / 256 % 256)

-- THE CHECKSUM

module _ (made : Makes) where
  checked_by : (h : IpRepr) (x : PayloadValue) (bytes : List ℕ) → carried_in (Ips.normal h) ≡ Protocol.Tcp → IsCarried sealed (Ips.normal h) bytes x →
      Tcp.IsChecked (source_of (Ips.normal h)) (destination_of (Ips.normal h)) bytes
  checked_by h (Segment header carried_bytes) bytes is carried = carried.format.checked refl
  checked_by h (Datagram udp carried_bytes) bytes is carried = absurd (let p = carried.protocol in cc)
  checked_by (Ip.Ipv4 v) (ControlV4 message carried_bytes) bytes is carried = absurd (let p = carried.protocol in cc)
  checked_by (Ip.Ipv6 v) (ControlV4 message carried_bytes) bytes is carried = absurd carried
  checked_by (Ip.Ipv4 v) (ControlV6 message carried_bytes) bytes is carried = absurd carried
  checked_by (Ip.Ipv6 v) (ControlV6 message carried_bytes) bytes is carried = absurd (let p = carried.protocol in cc)
  checked_by h (Bytes carried_bytes) bytes is carried = absurd carried

  -- the checksum of a segment that a host sent holds
  pub segment_checked : (p : PacketValue) → IsOut made p → carried_in (Ips.normal p.header) ≡ Protocol.Tcp →
      Tcp.IsChecked (source_of (Ips.normal p.header)) (destination_of (Ips.normal p.header)) (bytes_of p)
  segment_checked p is tcp = elim is.going.carries [
    | inl none ↦ absurd (none.0.0 (ap carried_in (bare_where (Ips.normal p.header) (bytes_of p) Protocol.Tcp tcp refl).0 ∙ tcp))
    | inr reads ↦ checked_by p.header (normal_payload p.payload) (bytes_of p) tcp
        (payload-arrives sealed sealed p.header p.payload (is.going.offered.packet.payload is.fits) reads.0 sealed_both)
  ]

  -- what is no segment brings nothing that was not made
  none_damaged : (ip : IpRepr) (payload : List ℕ) → IsDamaged sealed ip payload → (x : PayloadValue) → IsCarried sealed ip payload x →
      WasMade made (source_of ip) (destination_of ip) x
  none_damaged ip payload bad (Segment header bytes) is = absurd (bad.1 header bytes is)
  none_damaged ip payload bad (Datagram udp bytes) is = absurd (let p = is.protocol in let q = bad.0 in cc)
  none_damaged ip payload bad (ControlV4 message bytes) is = tt
  none_damaged ip payload bad (ControlV6 message bytes) is = tt
  none_damaged ip payload bad (Bytes bytes) is = tt

  pub hands_damaged : (ip : IpRepr) (payload : List ℕ) → IsDamaged sealed ip payload → HandsMade made ip payload
  hands_damaged ip payload bad x is =
      let direct = bare_where ip payload Protocol.Tcp bad.0 refl in
      none_damaged ip payload bad x
      (subst (λ (bytes : List ℕ). IsCarried sealed ip bytes x) direct.1
      (subst (λ (h : IpRepr). IsCarried sealed h (upper_payload ip payload) x) direct.0 is))

-- a segment whose checksum holds, with a word exchanged, is none
pub no_segment : (ip : IpRepr) (bytes : List ℕ) (slot word : ℕ) → carried_in ip ≡ Protocol.Tcp → Tcp.IsChecked (source_of ip) (destination_of ip) bytes →
    slot % 2 ≡ 0 → slot + 2 ≤ length bytes → word < 2 ^ 16
    → be16 bytes slot % 65535 ≢ word % 65535 → IsDamaged sealed ip (put16 bytes slot word)
no_segment ip bytes slot word tcp checked even within small other =
    (tcp, λ header carried_bytes is. IsTcp-put16 (source_of ip) (destination_of ip) bytes slot word header checked even within small other is.format)
