-- A bare acknowledgement that is old lies before the window.
use Rattle.std.proofs.Common.{◌≡◌, ℕ, ◌+◌, ◌≤◌, ◌==◌, ◌&&◌, nat_le, not, Bool, true, ap, ◌∙◌, arith}
use Rattle.std.proofs.lemmas.Bool.{le-leb, ne_eqb}
use Rattle.ip_wire.specs.Seq.{distance_of}
use Rattle.ip_wire.specs.TcpHeader.{TcpHeader}
use Rattle.tcp_block.specs.Checks.{lies_before}
use Rattle.tcp_block.specs.Segments.{segment_len}
use Rattle.tcp_block.specs.Value.{TcpValue, room_of}
use Rattle.tcp_liveness.specs.Bare.{IsBareBefore}
use Rattle.tcp_liveness.proofs.Taken.{begins}

before_so : (d size far : ℕ) → 1 ≤ d → size ≡ 0 → d ≤ far → (not (d == 0) && (nat_le size d && nat_le d far)) ≡ true
before_so d size far some bare e =
    ap (λ (t : Bool). not t && (nat_le size d && nat_le d far)) (ne_eqb d 0 (none d some))
    ∙ (ap (λ (t : Bool). t && nat_le d far) (le-leb size d (least size d bare)) ∙ le-leb d far e)
  where
    none : (d : ℕ) → 1 ≤ d → d ≡ 0 → ⊥
    none d some e = absurd (omega arith)

    least : (size d : ℕ) → size ≡ 0 → size ≤ d
    least size d e = omega arith

pub bare_lies_before : (v : TcpValue) (header : TcpHeader) → IsBareBefore v header → lies_before v.tcb (room_of v.received) header 0 ≡ true
bare_lies_before v header n =
    let it = begins v.tcb.receiver.next header.seq_number n.seq_small n.next_small n.begins in
    ap (λ (d : ℕ). not (d == 0) && (nat_le (segment_len header 0) d && nat_le d (room_of v.received + 2))) it.before
    ∙ before_so (distance_of header.seq_number v.tcb.receiver.next) (segment_len header 0) (room_of v.received + 2) n.some n.bare n.near
