-- How many bytes are sent.
use Rattle.std.proofs.Common.{◌≡◌, ℕ, ◌+◌, Bool, List, [], ◌++◌, length, arith, length-append}
use Rattle.wire_address.specs.declared.ip.IpAddress.{IpAddress}
use Rattle.wire_ip.specs.Ip as Ips
use Rattle.wire_ip.specs.Ip.{IsValue, header_len_in}
use Rattle.wire_ip.specs.Udp as Udp
use Rattle.wire_ip.specs.declared.ip.repr.IpRepr.{IpRepr}
use Rattle.wire_ip.specs.declared.ip.repr.IpRepr.TheVariants as Ip
use Rattle.wire_ip.specs.declared.udp.repr.UdpRepr.{UdpRepr}

pub length-header : (sealed : Bool) (v : IpRepr) → IsValue v → length (Ips.written sealed v) ≡ header_len_in v
length-header sealed (Ip.Ipv4 v) value =
    omega (arith, value.source.0, value.destination.0, length-append v.src_addr.0 (v.dst_addr.0 ++ []), length-append v.dst_addr.0 [])
length-header sealed (Ip.Ipv6 v) value = omega (arith, value.source.0, value.destination.0, length-append v.src_addr.0 v.dst_addr.0)

pub length-datagram : (source destination : IpAddress) (sealed : Bool) (v : UdpRepr) (payload : List ℕ) →
    length (Udp.written source destination sealed v payload) ≡ 8 + length payload
length-datagram source destination sealed v payload = omega arith
