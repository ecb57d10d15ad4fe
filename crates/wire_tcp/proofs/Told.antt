-- Segments told apart by their bytes.
use Rattle.std.proofs.Common.{◌≡◌, Bool, false, IsTrue, List, ℕ, sym, ◌∙◌, ap, subst}
use Rattle.wire_address.specs.declared.ip.IpAddress.{IpAddress}
use Rattle.wire_tcp.proofs.Read.{IsTcp-one}
use Rattle.wire_tcp.proofs.Written.{IsTcp-written, payload_of-written}
use Rattle.wire_tcp.specs.Tcp.{IsTcp, IsValue, written, normal, payload_of}
use Rattle.wire_tcp.specs.declared.header.TcpHeader.{TcpHeader}

-- the same bytes are sent for one canonical form and payload
pub written-same : (source destination : IpAddress) (sealed sealed_too : Bool) (v w : TcpHeader) (payload other : List ℕ) → IsValue v → IsValue w
    → written source destination sealed v payload ≡ written source destination sealed_too w other → (normal v ≡ normal w) × (payload ≡ other)
written-same source destination sealed sealed_too v w payload other value value_too same =
    let untested : IsTrue false → IsTrue sealed = λ t. absurd (cc t) in
    let untested_too : IsTrue false → IsTrue sealed_too = λ t. absurd (cc t) in
    let first = IsTcp-written source destination false sealed v payload value untested in
    let second = IsTcp-written source destination false sealed_too w other value_too untested_too in (
      IsTcp-one source destination false (written source destination sealed_too w other) (normal v) (normal w)
          (subst (λ xs. IsTcp source destination false xs (normal v)) same first) second,
      sym (payload_of-written source destination sealed v payload) ∙ ap payload_of same ∙ payload_of-written source destination sealed_too w other,
    )
