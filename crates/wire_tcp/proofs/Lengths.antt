-- How many bytes are sent.
use Rattle.std.proofs.Common.{◌≡◌, ℕ, ◌+◌, Bool, List, length, arith, length-append}
use Rattle.wire_address.specs.declared.ip.IpAddress.{IpAddress}
use Rattle.wire_tcp.proofs.Written.{length-options_area}
use Rattle.wire_tcp.specs.Options.{options_area}
use Rattle.wire_tcp.specs.Tcp.{acknowledges, header_len, written}
use Rattle.wire_tcp.specs.declared.header.TcpHeader.{TcpHeader}

pub length-segment : (source destination : IpAddress) (sealed : Bool) (v : TcpHeader) (payload : List ℕ) →
    length (written source destination sealed v payload) ≡ header_len v + length payload
length-segment source destination sealed v payload =
    let area : List ℕ = options_area (acknowledges v.ack_number) v.options in
    omega (arith, length-append area payload, length-options_area (acknowledges v.ack_number) v.options)
