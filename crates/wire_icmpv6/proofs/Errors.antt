-- Errors quote a header.
use Rattle.std.proofs.Common.{ℕ, ◌<◌, List, drop, arith}
use Rattle.std.specs.Prelude.{slice_index}
use Rattle.wire_ip.specs.Ipv6 as Ipv6
use Rattle.wire_ip.specs.declared.ipv6.repr.Ipv6Repr.{Ipv6Repr}
use Rattle.wire_icmpv6.proofs.Types.{first-number}
use Rattle.wire_icmpv6.specs.Ndisc as Neighbor
use Rattle.wire_icmpv6.specs.Icmpv6.{MessageValue, DstUnreachable, PktTooBig, TimeExceeded, ParamProblem, EchoRequest, EchoReply, Ndisc, Says}

-- a message of an error's type quotes some header
pub quotes : (message : List ℕ) (v : MessageValue) → slice_index message 0 < 128 → Says message v → (header : Ipv6Repr) ×
    Ipv6.IsQuoted (drop 8 message) header 40
quotes message (DstUnreachable reason header) small says = (header, says.1.quoted)
quotes message (PktTooBig mtu header) small says = (header, says.2.quoted)
quotes message (TimeExceeded reason header) small says = (header, says.1.quoted)
quotes message (ParamProblem reason pointer header) small says = (header, says.2.quoted)
quotes message (EchoRequest ident seq_no) small says = absurd (omega (arith, says.kind))
quotes message (EchoReply ident seq_no) small says = absurd (omega (arith, says.kind))
quotes message (Ndisc (Neighbor.Solicitation target link)) small says = absurd (omega (arith, first-number message _ says.kind))
quotes message (Ndisc (Neighbor.Advertisement flags target link)) small says = absurd (omega (arith, first-number message _ says.kind))
