-- IP headers of either family.
use Rattle.std.specs.Prelude.{◌≡◌, ℕ, Bool, false, List}
use Rattle.wire_address.specs.declared.ip.IpAddress.{IpAddress}
use Rattle.wire_address.specs.declared.ip.IpAddress.TheVariants as Address
use Rattle.wire_address.specs.declared.ip.IpProtocol.{IpProtocol}
use Rattle.wire_address.specs.declared.ip.IpVersion.{IpVersion}
use Rattle.wire_address.specs.declared.ip.IpVersion.TheVariants as Version
use Rattle.wire_ip.specs.Ipv4 as Ipv4
use Rattle.wire_ip.specs.Ipv6 as Ipv6
use Rattle.wire_ip.specs.declared.ip.repr.IpRepr.{IpRepr}
use Rattle.wire_ip.specs.declared.ip.repr.IpRepr.TheVariants as Ip

-- the family
abbrev pub version_in : IpRepr → IpVersion
version_in (Ip.Ipv4 v) = Version.Ipv4
version_in (Ip.Ipv6 v) = Version.Ipv6

-- the source address
abbrev pub source_of : IpRepr → IpAddress
source_of (Ip.Ipv4 v) = Address.Ipv4 v.src_addr
source_of (Ip.Ipv6 v) = Address.Ipv6 v.src_addr

-- the destination address
abbrev pub destination_of : IpRepr → IpAddress
destination_of (Ip.Ipv4 v) = Address.Ipv4 v.dst_addr
destination_of (Ip.Ipv6 v) = Address.Ipv6 v.dst_addr

-- what the packet carries
abbrev pub carried_in : IpRepr → IpProtocol
carried_in (Ip.Ipv4 v) = v.next_header
carried_in (Ip.Ipv6 v) = v.next_header

-- how long the payload is
abbrev pub payload_len_of : IpRepr → ℕ
payload_len_of (Ip.Ipv4 v) = v.payload_len
payload_len_of (Ip.Ipv6 v) = v.payload_len

-- the hop limit
abbrev pub hop_limit_in : IpRepr → ℕ
hop_limit_in (Ip.Ipv4 v) = v.hop_limit
hop_limit_in (Ip.Ipv6 v) = v.hop_limit

-- an IPv4 header has identification 0 and may be cut
abbrev pub IsUnnumbered : IpRepr → Type 0
IsUnnumbered (Ip.Ipv4 v) = (v.ident ≡ 0) × (v.dont_frag ≡ false)
IsUnnumbered (Ip.Ipv6 v) = Unit {0}

-- how long the header is that is written
abbrev pub header_len_in : IpRepr → ℕ
header_len_in (Ip.Ipv4 v) = 20
header_len_in (Ip.Ipv6 v) = 40

-- the header for a payload of another length
abbrev pub with_payload_len : IpRepr → ℕ → IpRepr
with_payload_len (Ip.Ipv4 v) len = Ip.Ipv4 (record v { payload_len = len })
with_payload_len (Ip.Ipv6 v) len = Ip.Ipv6 (record v { payload_len = len })

-- the bytes are a packet with this header, and padding
abbrev pub IsIp : Bool → List ℕ → IpRepr → Type 0
IsIp tested bytes (Ip.Ipv4 v) = Ipv4.IsIpv4 tested bytes v
IsIp tested bytes (Ip.Ipv6 v) = Ipv6.IsIpv6 bytes v

-- what can be sent: the lengths fit their fields
abbrev pub Fits : IpRepr → Type 0
Fits (Ip.Ipv4 v) = Ipv4.Fits v
Fits (Ip.Ipv6 v) = Ipv6.Fits v

-- the header that is sent
abbrev pub written : Bool → IpRepr → List ℕ
written sealed (Ip.Ipv4 v) = Ipv4.written sealed v
written sealed (Ip.Ipv6 v) = Ipv6.written v

-- each field is a number of its width
abbrev pub IsValue : IpRepr → Type 0
IsValue (Ip.Ipv4 v) = Ipv4.IsValue v
IsValue (Ip.Ipv6 v) = Ipv6.IsValue v

-- what a reader makes of a value that was sent
abbrev pub normal : IpRepr → IpRepr
normal (Ip.Ipv4 v) = Ip.Ipv4 (Ipv4.normal v)
normal (Ip.Ipv6 v) = Ip.Ipv6 (Ipv6.normal v)
