-- What the checksum of TCP, UDP and ICMPv6 covers before the bytes of its own packet.
use Rattle.std.specs.Prelude.{ℕ, ◌+◌, ◌<◌, ◌^◌, List, [], ◌∷◌, ◌++◌, length}
use Rattle.std.specs.Int.{w16, w32, to_be_bytes}
use Rattle.wire_address.specs.Address.{address_bytes}
use Rattle.wire_address.specs.Sum.{word_sum}
use Rattle.wire_address.specs.declared.ip.IpAddress.{IpAddress}
use Rattle.wire_address.specs.declared.ip.IpAddress.TheVariants as Ip

-- both addresses, a zero byte, the protocol, and the length of the packet in two bytes (RFC 9293, section 3.1)
abbrev pub pseudo_v4 : List ℕ → List ℕ → ℕ → ℕ → List ℕ
pseudo_v4 source destination protocol len =
    source ++ (destination ++ (0 ∷ protocol ∷ to_be_bytes w16 len))

-- both addresses, the length of the packet in four bytes, three zero bytes and the protocol (RFC 8200, section 8.1)
abbrev pub pseudo_v6 : List ℕ → List ℕ → ℕ → ℕ → List ℕ
pseudo_v6 source destination protocol len =
    source ++ (destination ++ (to_be_bytes w32 len ++ 0 ∷ 0 ∷ 0 ∷ protocol ∷ []))

-- the pseudo header of the source's family
abbrev pub pseudo_of : IpAddress → IpAddress → ℕ → ℕ → List ℕ
pseudo_of (Ip.Ipv4 source) destination = pseudo_v4 source.0 (address_bytes destination)
pseudo_of (Ip.Ipv6 source) destination = pseudo_v6 source.0 (address_bytes destination)

-- the length fits the family's length field
abbrev pub FitsPseudo : IpAddress → ℕ → Type 0
FitsPseudo (Ip.Ipv4 source) len = len < 2 ^ 16
FitsPseudo (Ip.Ipv6 source) len = len < 2 ^ 32

-- the word sum of all that the checksum covers: the pseudo header, then the packet (RFC 9293, section 3.1; RFC 768;
-- RFC 8200, section 8.1)
abbrev pub covered : IpAddress → IpAddress → ℕ → List ℕ → ℕ
covered source destination protocol packet =
    word_sum (pseudo_of source destination protocol (length packet)) + word_sum packet
