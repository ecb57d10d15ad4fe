-- A block is the set of the addresses of one family whose first bits are those of its address (RFC 4632, section 3.1).
use Rattle.std.specs.Prelude.{◌≡◌, ℕ, ◌+◌, ◌-◌, ◌/◌, ◌%◌, ◌^◌, List}
use Rattle.wire_address.specs.Address.{address_bytes, v4_number, v6_number, IsIpv4Address, IsIpv6Address}
use Rattle.wire_address.specs.declared.ipv4.Ipv4Address.{Ipv4Address}
use Rattle.wire_address.specs.declared.ipv4.Ipv4Cidr.{Ipv4Cidr}
use Rattle.wire_address.specs.declared.ipv6.Ipv6Address.{Ipv6Address}
use Rattle.wire_address.specs.declared.ipv6.Ipv6Cidr.{Ipv6Cidr}
use Rattle.wire_address.specs.declared.ip.IpAddress.{IpAddress}
use Rattle.wire_address.specs.declared.ip.IpAddress.TheVariants as Ip
use Rattle.wire_address.specs.declared.ip.IpCidr.{IpCidr}
use Rattle.wire_address.specs.declared.ip.IpCidr.TheVariants as Cidr

-- the most bits that a prefix of the address's family can have
abbrev pub width_of : IpAddress → ℕ
width_of (Ip.Ipv4 a) = 32
width_of (Ip.Ipv6 a) = 128

-- the address that a block was made with, host bits included
abbrev pub cidr_address : IpCidr → IpAddress
cidr_address (Cidr.Ipv4 b) = Ip.Ipv4 b.address
cidr_address (Cidr.Ipv6 b) = Ip.Ipv6 b.address

-- how many first bits the addresses of a block have in common
abbrev pub cidr_prefix_len : IpCidr → ℕ
cidr_prefix_len (Cidr.Ipv4 b) = b.prefix_len
cidr_prefix_len (Cidr.Ipv6 b) = b.prefix_len

-- the block of an address of these bytes and this prefix length
abbrev pub IsCidr : IpCidr → List ℕ → ℕ → Type 0
IsCidr b bytes len = (address_bytes (cidr_address b) ≡ bytes) × (cidr_prefix_len b ≡ len)

-- the block holds the address: the first prefix_len bits of both agree
abbrev pub IsInV4 : Ipv4Cidr → Ipv4Address → Type 0
IsInV4 b a = v4_number a / 2 ^ (32 - b.prefix_len) ≡ v4_number b.address / 2 ^ (32 - b.prefix_len)

-- the same for IPv6
abbrev pub IsInV6 : Ipv6Cidr → Ipv6Address → Type 0
IsInV6 b a = v6_number a / 2 ^ (128 - b.prefix_len) ≡ v6_number b.address / 2 ^ (128 - b.prefix_len)

-- a block holds addresses of its own family alone
abbrev pub IsIn : IpCidr → IpAddress → Type 0
IsIn (Cidr.Ipv4 b) (Ip.Ipv4 a) = IsInV4 b a
IsIn (Cidr.Ipv6 b) (Ip.Ipv6 a) = IsInV6 b a
IsIn _ _ = ⊥

-- every address of the inner block is in the outer one
abbrev pub IsWithinV4 : Ipv4Cidr → Ipv4Cidr → Type 0
IsWithinV4 outer inner = (a : Ipv4Address) → IsIpv4Address a → IsInV4 inner a → IsInV4 outer a

-- the same for IPv6
abbrev pub IsWithinV6 : Ipv6Cidr → Ipv6Cidr → Type 0
IsWithinV6 outer inner = (a : Ipv6Address) → IsIpv6Address a → IsInV6 inner a → IsInV6 outer a

-- blocks of different families never hold each other
abbrev pub IsWithin : IpCidr → IpCidr → Type 0
IsWithin (Cidr.Ipv4 outer) (Cidr.Ipv4 inner) = IsWithinV4 outer inner
IsWithin (Cidr.Ipv6 outer) (Cidr.Ipv6 inner) = IsWithinV6 outer inner
IsWithin _ _ = ⊥

-- the block's address with the host bits zero
abbrev pub network_number : Ipv4Cidr → ℕ
network_number b = v4_number b.address - v4_number b.address % 2 ^ (32 - b.prefix_len)

-- the block's address with the host bits one
abbrev pub broadcast_number : Ipv4Cidr → ℕ
broadcast_number b = network_number b + (2 ^ (32 - b.prefix_len) - 1)

-- prefix_len ones, then zeros
abbrev pub netmask_number : Ipv4Cidr → ℕ
netmask_number b = 2 ^ 32 - 2 ^ (32 - b.prefix_len)
