-- What a window holds back goes when its instant has come.
use Rattle.std.proofs.Common.{◌≡◌, inl, inr, ◌≤◌, ℤ, true, None, Some, is_some, ap, ◌∙◌}
use Rattle.tcp_invariants.specs.Ends.{Proceeds}
use Rattle.tcp_invariants.specs.Moments.{is_due}
use Rattle.tcp_block.specs.Offers.{offer_of}
use Rattle.tcp_refinement.specs.Pair.Values.{PairValue}
use Rattle.tcp_refinement.specs.declared.pair.event.Side.{Side}
use Rattle.tcp_liveness.specs.Exchange.{IsOpen}
use Rattle.tcp_liveness.specs.Pair.{context_of, left_in, mtu_of, socket_of}
use Rattle.tcp_liveness.specs.PutOff.{ProbesAt}
use Rattle.tcp_liveness.specs.Reached.{IsReached}
use Rattle.tcp_liveness.specs.Restart.{Sends}
use Rattle.tcp_liveness.proofs.Held.{goes_then}
use Rattle.tcp_liveness.proofs.Mirrored.{named_in}
use Rattle.tcp_liveness.proofs.OfItself.{sends_there}
use Rattle.tcp_liveness.proofs.Resent.{again_sent}
use Rattle.tcp_liveness.proofs.Resumes.{SendsOut}
use Rattle.tcp_liveness.proofs.Wide.{reached_cwnd}

pub probe_goes :
    (p : PairValue) (side : Side) (instant at : ℤ) → IsReached p → IsOpen (socket_of p side).tcb → 1 ≤ left_in p side
    → Proceeds (context_of p side instant) (socket_of p side) → (socket_of p side).tcb.sender.flight_size ≡ 0
    → (socket_of p side).tcb.timers.retransmit_at ≡ None → ProbesAt at (socket_of p side) → is_due instant (Some at) ≡ true
    → Sends (context_of p side instant) (socket_of p side)
probe_goes p side instant at r own owes goes none timer probes due =
    let named = named_in p side r own.synchronized in
    let sends : SendsOut (context_of p side instant) (socket_of p side) (offer_of (context_of p side instant) (socket_of p side)) =
    goes_then (context_of p side instant) (socket_of p side) named.0 named.1 (record { own = own; owes = owes; over = inl none; goes = goes })
    (sends_there p side r own.synchronized own.acknowledged owes) (again_sent p side r own.acknowledged named.0.addresses (mtu_of p side) (socket_of p side).queued)
    none timer (reached_cwnd p side r) (inr (inr (λ _. ap is_some probes))) (λ _ _. ap (is_due instant) probes ∙ due)
    in
    record { o = sends.k; offered = sends.offered; kind = sends.kind; some = sends.some }
