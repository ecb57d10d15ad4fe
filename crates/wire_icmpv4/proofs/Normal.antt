-- Canonical forms.
use Rattle.std.proofs.Common.{◌≡◌, ℕ, Bool, List, refl, sym, ◌∙◌, ap}
use Rattle.std.specs.Prelude.{slice_index}
use Rattle.wire_address.specs.Protocol.{protocol_number, protocol_of}
use Rattle.wire_address.specs.declared.ip.IpProtocol.{IpProtocol}
use Rattle.wire_address.proofs.Numbers.{protocol_number-protocol_of}
use Rattle.wire_ip.specs.Ipv4 as Ipv4
use Rattle.wire_ip.specs.declared.ipv4.repr.Ipv4Repr.{Ipv4Repr}
use Rattle.wire_icmpv4.specs.Icmpv4Codes.{unreachable_number, unreachable_of, exceeded_number, exceeded_of}
use Rattle.wire_icmpv4.specs.declared.message.Icmpv4DstUnreachable.{Icmpv4DstUnreachable}
use Rattle.wire_icmpv4.specs.declared.message.Icmpv4TimeExceeded.{Icmpv4TimeExceeded}
use Rattle.wire_icmpv4.specs.declared.header.Icmpv4Header.{Icmpv4Header}
use Rattle.wire_icmpv4.specs.declared.header.Icmpv4Header.TheVariants as Header
use Rattle.wire_icmpv4.specs.Icmpv4.{IsIcmpv4, Says, following, normal}
use Rattle.wire_icmpv4.proofs.Codes.{unreachable_number-unreachable_of, exceeded_number-exceeded_of}

-- what a number names is in its canonical form
normal-protocol : (n : ℕ) (p : IpProtocol) → p ≡ protocol_of n → protocol_of (protocol_number p) ≡ p
normal-protocol n p is = ap protocol_of (ap protocol_number is ∙ protocol_number-protocol_of n) ∙ sym is

normal-unreachable : (n : ℕ) (r : Icmpv4DstUnreachable) → r ≡ unreachable_of n → unreachable_of (unreachable_number r) ≡ r
normal-unreachable n r is = ap unreachable_of (ap unreachable_number is ∙ unreachable_number-unreachable_of n) ∙ sym is

normal-exceeded : (n : ℕ) (r : Icmpv4TimeExceeded) → r ≡ exceeded_of n → exceeded_of (exceeded_number r) ≡ r
normal-exceeded n r is = ap exceeded_of (ap exceeded_number is ∙ exceeded_number-exceeded_of n) ∙ sym is

normal-header : (n : ℕ) (header : Ipv4Repr) → header.next_header ≡ protocol_of n → Ipv4.normal header ≡ header
normal-header n header is = ap (λ p. record header { next_header = p }) (normal-protocol n header.next_header is)

-- an error whose parts are in their canonical form
unreachable-alike : (r s : Icmpv4DstUnreachable) (h k : Ipv4Repr) → r ≡ s → h ≡ k → Header.DstUnreachable r h ≡ Header.DstUnreachable s k
unreachable-alike r s h k reasons headers = cc

exceeded-alike : (r s : Icmpv4TimeExceeded) (h k : Ipv4Repr) → r ≡ s → h ≡ k → Header.TimeExceeded r h ≡ Header.TimeExceeded s k
exceeded-alike r s h k reasons headers = cc

-- what bytes say is in its canonical form
normal-says : (bytes : List ℕ) (v : Icmpv4Header) (payload : List ℕ) → Says bytes v payload → normal v ≡ v
normal-says bytes (Header.EchoRequest ident seq_no) payload says = refl
normal-says bytes (Header.EchoReply ident seq_no) payload says = refl
normal-says bytes (Header.DstUnreachable reason header) payload says =
    unreachable-alike _ _ _ _ (normal-unreachable (slice_index bytes 1) reason says.0)
    (normal-header (slice_index (following bytes) 9) header says.1.quoted.protocol)
normal-says bytes (Header.TimeExceeded reason header) payload says =
    exceeded-alike _ _ _ _ (normal-exceeded (slice_index bytes 1) reason says.0) (normal-header (slice_index (following bytes) 9) header says.1.quoted.protocol)

pub normal-read : (tested : Bool) (bytes : List ℕ) (v : Icmpv4Header) (payload : List ℕ) → IsIcmpv4 tested bytes v payload → normal v ≡ v
normal-read tested bytes v payload is = normal-says bytes v payload is.says

-- so is the canonical form of any value
pub normal-normal : (v : Icmpv4Header) → normal (normal v) ≡ normal v
normal-normal (Header.EchoRequest ident seq_no) = refl
normal-normal (Header.EchoReply ident seq_no) = refl
normal-normal (Header.DstUnreachable reason header) =
    unreachable-alike _ _ _ _ (normal-unreachable (unreachable_number reason) _ refl)
    (normal-header (protocol_number header.next_header) (Ipv4.normal header) refl)
normal-normal (Header.TimeExceeded reason header) =
    exceeded-alike _ _ _ _ (normal-exceeded (exceeded_number reason) _ refl) (normal-header (protocol_number header.next_header) (Ipv4.normal header) refl)
