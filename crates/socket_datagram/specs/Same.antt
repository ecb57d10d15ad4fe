-- Whether two families or two protocols are the same, as truth values.
use Rattle.std.specs.Prelude.{ℕ, ◌+◌, ◌==◌, Bool, true, false}
use Rattle.wire_address.specs.declared.ip.IpProtocol.{IpProtocol}
use Rattle.wire_address.specs.declared.ip.IpProtocol.TheVariants as Protocol
use Rattle.wire_address.specs.declared.ip.IpVersion.{IpVersion}
use Rattle.wire_address.specs.declared.ip.IpVersion.TheVariants as Version
use Rattle.wire_address.specs.Protocol.{protocol_number}

abbrev pub is_version : IpVersion → IpVersion → Bool
is_version Version.Ipv4 Version.Ipv4 = true
is_version Version.Ipv6 Version.Ipv6 = true
is_version a b = false

-- A protocol's number, and above all of these the number of one that has no name here, which is another protocol even
-- where a named one has its number.
abbrev pub told_apart : IpProtocol → ℕ
told_apart (Protocol.Unknown n) = 256 + n
told_apart protocol = protocol_number protocol

abbrev pub is_protocol : IpProtocol → IpProtocol → Bool
is_protocol a b = told_apart a == told_apart b
