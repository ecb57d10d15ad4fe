-- The IP header of a packet that a socket offers.
use Rattle.std.specs.Prelude.{ℕ, ◌+◌, ◌^◌, nat_lt, false, if◌then◌else◌, Option, None, Some}
use Rattle.wire_address.specs.declared.ip.IpAddress.{IpAddress}
use Rattle.wire_address.specs.declared.ip.IpAddress.TheVariants as Address
use Rattle.wire_address.specs.declared.ip.IpProtocol.{IpProtocol}
use Rattle.wire_ip.specs.declared.ip.repr.IpRepr.{IpRepr}
use Rattle.wire_ip.specs.declared.ip.repr.IpRepr.TheVariants as Ip

-- The addresses are of one family, and the length fits its field: over IPv4 that of header and payload, over IPv6 that
-- of the payload. An IPv4 header has identification 0 and may be cut.
abbrev pub header_between : IpAddress → IpAddress → IpProtocol → ℕ → ℕ → Option IpRepr
header_between (Address.Ipv4 source) (Address.Ipv4 destination) protocol len hop_limit =
    if nat_lt (20 + len) (2 ^ 16)
    then Some (Ip.Ipv4 (record {
      src_addr = source;
      dst_addr = destination;
      next_header = protocol;
      payload_len = len;
      hop_limit = hop_limit;
      ident =
          0;
      dont_frag = false;
    }))
    else None
header_between (Address.Ipv6 source) (Address.Ipv6 destination) protocol len hop_limit =
    if nat_lt len (2 ^ 16)
    then Some (Ip.Ipv6 (record { src_addr = source; dst_addr = destination; next_header = protocol; payload_len = len; hop_limit = hop_limit }))
    else None
header_between source destination protocol len hop_limit = None

-- the hop limit, 64 where none was set
abbrev pub hop_limit_or_default : Option ℕ → ℕ
hop_limit_or_default None = 64
hop_limit_or_default (Some n) = n
