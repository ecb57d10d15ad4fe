-- Fragments of an IPv6 datagram by hand (RFC 8200, section 4.5), from fd00::2 to fd00::1: of ten bytes, eight go first.
use Rattle.std.specs.Prelude.{ℕ, ◌+◌, List, [], ◌∷◌, ◌++◌, length, replicate, drop, Some, None}
use Rattle.ip_wire.specs.IpProtocol.{IpProtocol}
use Rattle.ip_wire.specs.IpProtocol.TheVariants as Protocol
use Rattle.ip_wire.specs.Ipv6Address.{Ipv6Address}
use Rattle.ip_wire.specs.Ipv6Repr.{Ipv6Repr}
use Rattle.iface_tables.specs.Inner.{InnerValue}
use Rattle.iface_tables.specs.Reassembly.{assembler_of}
use Rattle.iface_tables.specs.Assemblers.{free_assemblers}
use Rattle.iface_tables.specs.declared.key.FragKey.TheVariants as Keys
use Rattle.iface_ingress.specs.Incoming.{IncomingValue, Ip6}
use Rattle.iface_ingress.specs.Reassembled.{Assemblers, given_up_at}

abbrev pub address : ℕ → Ipv6Address
address last = record { 0 = 0xfd ∷ (replicate 14 0 ++ last ∷ []) }

abbrev pub header : ℕ → Ipv6Repr
header len = record { src_addr = address 2; dst_addr = address 1; next_header = Protocol.Ipv6Frag; payload_len = len; hop_limit = 64 }

abbrev pub packet : List ℕ → IncomingValue
packet payload = Ip6 None (header (length payload)) payload

-- UDP, whose reserved byte is ignored, offset 0, and more to come
abbrev pub first : IncomingValue
first = packet (17 ∷ 0xff ∷ 0 ∷ 1 ∷ 0x1a ∷ 0x2b ∷ 0x3c ∷ 0x4d ∷ 1 ∷ 2 ∷ 3 ∷ 4 ∷ 5 ∷ 6 ∷ 7 ∷ 8 ∷ [])

-- the last one, at 8, which names no next header
abbrev pub second : IncomingValue
second = packet (59 ∷ 0 ∷ 0 ∷ 8 ∷ 0x1a ∷ 0x2b ∷ 0x3c ∷ 0x4d ∷ 9 ∷ 10 ∷ [])

-- the same of another identification
abbrev pub other : IncomingValue
other = packet (17 ∷ 0 ∷ 0 ∷ 8 ∷ 0x1a ∷ 0x2b ∷ 0x3c ∷ 0x4e ∷ 9 ∷ 10 ∷ [])

-- the first one with another byte
abbrev pub overlapping : IncomingValue
overlapping = packet (17 ∷ 0 ∷ 0 ∷ 1 ∷ 0x1a ∷ 0x2b ∷ 0x3c ∷ 0x4d ∷ 1 ∷ 2 ∷ 3 ∷ 4 ∷ 5 ∷ 6 ∷ 7 ∷ 0 ∷ [])

-- a slot of 32 bytes
abbrev pub one_assembler : Assemblers
one_assembler = free_assemblers 1 32

abbrev pub atomic : List ℕ
atomic = 17 ∷ 0 ∷ 0 ∷ 0 ∷ 0x1a ∷ 0x2b ∷ 0x3c ∷ 0x4d ∷ []

abbrev pub following_first : InnerValue → Assemblers
following_first i =
    assembler_of (Some (Keys.Ipv6 (record { id = 0x1a2b3c4d; src_addr = address 2; dst_addr = address 1 })))
    (atomic ++ 1 ∷ 2 ∷ 3 ∷ 4 ∷ 5 ∷ 6 ∷ 7 ∷ 8 ∷ replicate 16 0) ((0, 16) ∷ []) None (given_up_at i 60) ∷ []

abbrev pub whole : IncomingValue
whole = packet (atomic ++ 1 ∷ 2 ∷ 3 ∷ 4 ∷ 5 ∷ 6 ∷ 7 ∷ 8 ∷ 9 ∷ 10 ∷ [])
