-- A message that was sent, read back.
use Rattle.std.proofs.Common.{◌≡◌, ℕ, ◌+◌, ◌-◌, ◌<◌, ◌≤◌, Bool, true, false, IsTrue, List, ◌++◌, length, drop, refl, sym, ap, subst, arith, length-append}
use Rattle.std.proofs.lemmas.List.{drop_at}
use Rattle.wire_address.proofs.Sums.{ChecksumHolds-complement}
use Rattle.wire_address.specs.Pseudo.{pseudo_v6}
use Rattle.wire_address.specs.Sum.{word_sum, folded, ChecksumHolds}
use Rattle.wire_address.specs.declared.ipv6.Ipv6Address.{Ipv6Address}
use Rattle.wire_ip.proofs.QuotedLaws.{IsQuoted-v6}
use Rattle.wire_ip.specs.Ipv6 as Ipv6
use Rattle.wire_ip.specs.declared.ipv6.repr.Ipv6Repr.{Ipv6Repr}
use Rattle.wire_icmpv6.specs.Packet.{IsChecked, covered, checksum_of}
use Rattle.wire_icmpv6.proofs.NdiscLaws.{IsNdisc-written, word_sum-spelling}
use Rattle.wire_icmpv6.specs.Ndisc as Neighbor
use Rattle.wire_icmpv6.specs.Icmpv6.{MessageValue, DstUnreachable, PktTooBig, TimeExceeded, ParamProblem, EchoRequest, EchoReply, Ndisc, IsIcmpv6, IsValue, CanCarry}
use Rattle.wire_icmpv6.specs.Icmpv6.{Says, Fits, carried_in, normal, sent_free, spelling, written}

-- a number in the checksum field adds itself to the word sum
word_sum-check : (v : MessageValue) (carried : List ℕ) (check : ℕ) → check < 65536
    → word_sum (spelling v (sent_free check) carried) ≡ word_sum (spelling v (sent_free 0) carried) + check
word_sum-check (DstUnreachable reason header) carried check small = omega arith
word_sum-check (PktTooBig mtu header) carried check small = omega arith
word_sum-check (TimeExceeded reason header) carried check small = omega arith
word_sum-check (ParamProblem reason pointer header) carried check small = omega arith
word_sum-check (EchoRequest ident seq_no) carried check small = omega arith
word_sum-check (EchoReply ident seq_no) carried check small = omega arith
word_sum-check (Ndisc neighbor) carried check small = word_sum-spelling neighbor check small

-- the checksum's value doesn't change the length
length-check : (v : MessageValue) (carried : List ℕ) (check : ℕ) → length (spelling v (sent_free check) carried) ≡ length (spelling v (sent_free 0) carried)
length-check (DstUnreachable reason header) carried check = refl
length-check (PktTooBig mtu header) carried check = refl
length-check (TimeExceeded reason header) carried check = refl
length-check (ParamProblem reason pointer header) carried check = refl
length-check (EchoRequest ident seq_no) carried check = refl
length-check (EchoReply ident seq_no) carried check = refl
length-check (Ndisc (Neighbor.Solicitation target link)) carried check = refl
length-check (Ndisc (Neighbor.Advertisement flags target link)) carried check = refl

-- a message whose checksum was written holds it
IsChecked-written : (source destination : Ipv6Address) (v : MessageValue) (carried : List ℕ) →
    IsChecked source destination (written source destination true v carried)
IsChecked-written source destination v carried =
    let total : ℕ = covered source destination (spelling v (sent_free 0) carried) in
    let sums : word_sum (spelling v (sent_free (65535 - folded total)) carried) ≡ word_sum (spelling v (sent_free 0) carried) + (65535 - folded total) =
    word_sum-check v carried (65535 - folded total) (omega arith)
    in
    let longer : word_sum (pseudo_v6 source.0 destination.0 58 (length (spelling v (sent_free (65535 - folded total)) carried))) ≡
    word_sum (pseudo_v6 source.0 destination.0 58 (length (spelling v (sent_free 0) carried))) =
    ap (λ n. word_sum (pseudo_v6 source.0 destination.0 58 n)) (length-check v carried (65535 - folded total))
    in
    let same : covered source destination (written source destination true v carried) ≡ total + (65535 - folded total) = omega (arith, sums, longer) in
    subst ChecksumHolds (sym same) (ChecksumHolds-complement total)

-- what was sent is said
Says-spelling : (v : MessageValue) (check : ℕ) (carried : List ℕ) → IsValue v → Fits v → Says (spelling v (sent_free check) carried) (normal v)
Says-spelling (DstUnreachable reason header) check carried value fits = (refl, record { kind = refl; quoted = IsQuoted-v6 header carried fits value.1 })
Says-spelling (PktTooBig mtu header) check carried value fits =
    (refl, omega (arith, value.0), record { kind = refl; quoted = IsQuoted-v6 header carried fits value.1 })
Says-spelling (TimeExceeded reason header) check carried value fits = (refl, record { kind = refl; quoted = IsQuoted-v6 header carried fits value.1 })
Says-spelling (ParamProblem reason pointer header) check carried value fits =
    (refl, omega (arith, value.1), record { kind = refl; quoted = IsQuoted-v6 header carried fits value.2 })
Says-spelling (EchoRequest ident seq_no) check carried value fits =
    record { kind = refl; code = refl; identifier = omega (arith, value.0); sequence = omega (arith, value.1) }
Says-spelling (EchoReply ident seq_no) check carried value fits =
    record { kind = refl; code = refl; identifier = omega (arith, value.0); sequence = omega (arith, value.1) }
Says-spelling (Ndisc neighbor) check carried value fits = IsNdisc-written neighbor check value

-- its first eight bytes are there
whole-spelling : (v : MessageValue) (check : ℕ) (carried : List ℕ) → IsValue v → 8 ≤ length (spelling v (sent_free check) carried)
whole-spelling (DstUnreachable reason header) check carried value = omega arith
whole-spelling (PktTooBig mtu header) check carried value = omega arith
whole-spelling (TimeExceeded reason header) check carried value = omega arith
whole-spelling (ParamProblem reason pointer header) check carried value = omega arith
whole-spelling (EchoRequest ident seq_no) check carried value = omega arith
whole-spelling (EchoReply ident seq_no) check carried value = omega arith
whole-spelling (Ndisc (Neighbor.Solicitation target link)) check carried value = omega arith
whole-spelling (Ndisc (Neighbor.Advertisement flags target link)) check carried value = omega arith

-- a message that was sent is read back in its canonical form
pub IsIcmpv6-written : (source destination : Ipv6Address) (tested sealed : Bool) (v : MessageValue) (carried : List ℕ) → IsValue v → Fits v →
    (IsTrue tested → IsTrue sealed)
    → IsIcmpv6 source destination tested (written source destination sealed v carried) (normal v)
IsIcmpv6-written source destination tested false v carried value fits both =
    record { whole = whole-spelling v 0 carried value; checked = λ t. absurd (cc (both t)); says = Says-spelling v 0 carried value fits }
IsIcmpv6-written source destination tested true v carried value fits both =
    let check : ℕ = checksum_of source destination (spelling v (sent_free 0) carried) in
    record {
      whole = whole-spelling v check carried value;
      checked = λ _. IsChecked-written source destination v carried;
      says =
          Says-spelling v check carried value fits;
    }

-- the bytes after an emitted header
following : (header : Ipv6Repr) (carried : List ℕ) → Ipv6.IsValue header → drop 40 (Ipv6.written header ++ carried) ≡ carried
following header carried value =
    drop_at (Ipv6.written header) carried 40 (omega (arith, value.source.0, value.destination.0, length-append header.src_addr.0 header.dst_addr.0))

carried_in-spelling : (v : MessageValue) (check : ℕ) (carried : List ℕ) → IsValue v → CanCarry v carried →
    carried_in (spelling v (sent_free check) carried) (normal v) ≡ carried
carried_in-spelling (DstUnreachable reason header) check carried value can = following header carried value.1
carried_in-spelling (PktTooBig mtu header) check carried value can = following header carried value.1
carried_in-spelling (TimeExceeded reason header) check carried value can = following header carried value.1
carried_in-spelling (ParamProblem reason pointer header) check carried value can = following header carried value.2
carried_in-spelling (EchoRequest ident seq_no) check carried value can = refl
carried_in-spelling (EchoReply ident seq_no) check carried value can = refl
carried_in-spelling (Ndisc neighbor) check carried value can = sym can

-- the bytes that it carries are read back
pub carried_in-written : (source destination : Ipv6Address) (sealed : Bool) (v : MessageValue) (carried : List ℕ) → IsValue v → CanCarry v carried
    → carried_in (written source destination sealed v carried) (normal v) ≡ carried
carried_in-written source destination false v carried value can = carried_in-spelling v 0 carried value can
carried_in-written source destination true v carried value can =
    carried_in-spelling v (checksum_of source destination (spelling v (sent_free 0) carried)) carried value can
