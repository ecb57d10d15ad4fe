-- A bare acknowledgement in the window isn't answered.
use Rattle.std.proofs.Common.{◌≡◌, ℕ, ◌+◌, true, if◌then◌else◌, [], None, refl, sym, ap, ◌∙◌, subst, arith}
use Rattle.std.proofs.lemmas.Bool.{cond_both}
use Rattle.ip_wire.specs.Control.{control_len}
use Rattle.ip_wire.specs.IpRepr.{IpRepr}
use Rattle.ip_wire.specs.Seq.{distance_of}
use Rattle.ip_wire.specs.SeqNumber.{SeqNumber}
use Rattle.ip_wire.specs.TcpHeader.{TcpHeader}
use Rattle.tcp_refinement.specs.Context.{ContextValue}
use Rattle.tcp_invariants.specs.Controls.{is_syn}
use Rattle.tcp_invariants.specs.States.{is_closed}
use Rattle.tcp_block.specs.Acknowledged.{acknowledged, duplicates_after}
use Rattle.tcp_block.specs.Answers.{drawn}
use Rattle.tcp_block.specs.Arrival.{arrives, tsecr_heard, inside, passed_outside, taken, told, with_content}
use Rattle.tcp_block.specs.Checks.{is_in_window}
use Rattle.tcp_block.specs.Segments.{segment_len}
use Rattle.tcp_block.specs.Value.{TcpValue, Arrived, dropped, free_in, unoffered}
use Rattle.tcp_refinement.proofs.Tied.{if_so, if_not}
use Rattle.tcp_liveness.specs.Arrivals.{Counts}
use Rattle.tcp_liveness.proofs.Acked.{comes_to}
use Rattle.tcp_liveness.proofs.Shakes.{content_later}

pub bare_unanswered :
    (cx : ContextValue) (v : TcpValue) (ip : IpRepr) (header : TcpHeader) (number : SeqNumber) → Counts v.tcb header number
    → segment_len header 0 ≡ 0 → is_in_window v.tcb (free_in v) header 0 ≡ true → (arrives cx v ip header []).answer ≡ None
bare_unanswered cx v ip header number c bare there =
    subst (λ (a : Arrived). a.answer ≡ None)
    (sym (comes_to cx v ip header [] number c
    ∙ (if_so (is_in_window v.tcb (free_in v) header 0) (inside cx u ip header [] by) (passed_outside cx u ip header 0 by) there
    ∙ if_not (is_syn header.control) (drawn cx u ip header) (taken cx u ip header [] by) c.no_syn)))
    (cond_both (is_closed w.tcb.state) (dropped w) (with_content cx x ip header []) (λ (a : Arrived). a.answer ≡ None) (λ _. refl)
    (λ _. ap (λ (a : Arrived). a.answer) (content_later cx x ip header (none (control_len header.control) bare))))
  where
    by : ℕ
    by = distance_of v.tcb.sender.una number

    u : TcpValue
    u = unoffered v

    w : TcpValue
    w = acknowledged (tsecr_heard u header by cx.instant) by cx.instant

    x : TcpValue
    x = told w header (duplicates_after u.tcb header 0 by) cx.instant

    none : (n : ℕ) → 0 + n ≡ 0 → n ≡ 0
    none n e = omega arith
