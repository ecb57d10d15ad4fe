-- A reset whose number isn't RCV.NXT.
use Rattle.std.proofs.Common.{◌≡◌, ℕ, ◌==◌, ◌&&◌, not, Bool, true, false, if◌then◌else◌, List, length, None, refl, sym, ◌∙◌}
use Rattle.std.proofs.lemmas.Bool.{cond_both}
use Rattle.ip_wire.specs.IpRepr.{IpRepr}
use Rattle.ip_wire.specs.TcpHeader.{TcpHeader}
use Rattle.tcp_block.specs.Context.{ContextValue}
use Rattle.tcp_state.specs.Controls.{is_rst}
use Rattle.tcp_state.specs.States.{is_time_wait}
use Rattle.tcp_state.specs.declared.state.State.{State}
use Rattle.tcp_state.specs.declared.state.State.TheVariants as In
use Rattle.tcp_block.specs.Answers.{drawn, may_challenge, with_draw, acked}
use Rattle.tcp_block.specs.Arrival.{takes_reset, challenges_reset, reset_arrives, challenges_first, checked, received, arrives_in, arrives, is_void_syn}
use Rattle.tcp_block.specs.Checks.{acknowledgement_check, taken_down}
use Rattle.tcp_block.specs.Value.{TcpValue, Arrived, dropped, unoffered}
use Rattle.tcp_block.specs.Segments.{no_ranges}
use Rattle.tcp_invariants.specs.Events.{is_past}
use Rattle.tcp_invariants.specs.Forged.{IsUntouched}

abbrev pub Left : TcpValue → Arrived → Type 0
Left v a = IsUntouched v a.socket × (a.answer ≡ None → a.socket ≡ unoffered v)

module _ (cx : ContextValue) (ip : IpRepr) (header : TcpHeader) (bytes : List ℕ) (v : TcpValue) where
  pub stays : Left v (dropped (unoffered v))
  stays = (
    record {
      state = refl;
      names = refl;
      sender = refl;
      next = refl;
      took_fin = refl;
      peer = refl;
      stamps = refl;
      timer = refl;
      time_wait = refl;
      timeout = refl;
      round_trip = refl;
      reno = refl;
      settings = refl;
      received = refl;
      queued = refl;
    },
    λ _. refl,
  )

  pub answers : Left v (acked cx (with_draw (unoffered v) cx.instant) ip header no_ranges)
  answers = (
    record {
      state = refl;
      names = refl;
      sender = refl;
      next = refl;
      took_fin = refl;
      peer = refl;
      stamps = refl;
      timer = refl;
      time_wait = refl;
      timeout = refl;
      round_trip = refl;
      reno = refl;
      settings = refl;
      received = refl;
      queued = refl;
    },
    λ e. absurd (cc),
  )

  not_taken : (v.tcb.receiver.next.0 == header.seq_number.0) ≡ false → takes_reset v.tcb header ≡ true → ⊥
  not_taken elsewhere e = at (is_time_wait v.tcb.state) e where
    at : (waits : Bool) → (not waits && (v.tcb.receiver.next.0 == header.seq_number.0)) ≡ true → ⊥
    at true e = absurd (cc)
    at false e = absurd (let clash : true ≡ false = sym e ∙ elsewhere in cc)

  by_reset : is_rst header.control ≡ true → (v.tcb.receiver.next.0 == header.seq_number.0) ≡ false → Left v (received cx (unoffered v) ip header bytes)
  by_reset rst elsewhere =
      cond_both (is_rst header.control) (reset_arrives cx (unoffered v) ip header (length bytes))
      (if challenges_first v.tcb header cx.instant
      then drawn cx (unoffered v) ip header
      else checked (acknowledgement_check v.tcb header.ack_number) cx (unoffered v) ip header bytes)
      (Left v)
      (λ _.
      cond_both (takes_reset v.tcb header) (dropped (taken_down (unoffered v)))
      (if challenges_reset (unoffered v) header (length bytes) then drawn cx (unoffered v) ip header else dropped (unoffered v)) (Left v)
      (λ takes. absurd (not_taken elsewhere takes))
      (λ _.
      cond_both (challenges_reset (unoffered v) header (length bytes)) (drawn cx (unoffered v) ip header) (dropped (unoffered v)) (Left v)
      (λ _.
      cond_both (may_challenge cx.instant v.tcb.timers.challenges_from) (acked cx (with_draw (unoffered v) cx.instant) ip header no_ranges)
      (dropped (unoffered v)) (Left v)
      (λ _. answers)
      (λ _. stays))
      (λ _. stays)))
      (λ not. absurd (let clash : true ≡ false = sym rst ∙ not in cc))

  by_state :
      (state : State) → is_past state ≡ true → is_rst header.control ≡ true → (v.tcb.receiver.next.0 == header.seq_number.0) ≡ false
      → Left v (arrives_in state cx (unoffered v) ip header bytes)
  by_state In.Closed past rst elsewhere = stays
  by_state In.Listen past rst elsewhere = absurd (cc)
  by_state In.SynSent past rst elsewhere = absurd (cc)
  by_state other past rst elsewhere = by_reset rst elsewhere

  left : is_past v.tcb.state ≡ true → is_rst header.control ≡ true → (v.tcb.receiver.next.0 == header.seq_number.0) ≡ false →
      Left v (arrives cx v ip header bytes)
  left past rst elsewhere =
      cond_both (is_void_syn header) (dropped (unoffered v)) (arrives_in v.tcb.state cx (unoffered v) ip header bytes) (Left v)
      (λ _. stays)
      (λ _. by_state v.tcb.state past rst elsewhere)

pub untouched :
    (cx : ContextValue) (v : TcpValue) (ip : IpRepr) (header : TcpHeader) (bytes : List ℕ) → is_past v.tcb.state ≡ true → is_rst header.control ≡ true
    → (v.tcb.receiver.next.0 == header.seq_number.0) ≡ false → IsUntouched v (arrives cx v ip header bytes).socket
untouched cx v ip header bytes past rst elsewhere = (left cx ip header bytes v past rst elsewhere).0

pub ignored :
    (cx : ContextValue) (v : TcpValue) (ip : IpRepr) (header : TcpHeader) (bytes : List ℕ) → is_past v.tcb.state ≡ true → is_rst header.control ≡ true
    → (v.tcb.receiver.next.0 == header.seq_number.0) ≡ false → (arrives cx v ip header bytes).answer ≡ None
    → (arrives cx v ip header bytes).socket ≡ unoffered v
ignored cx v ip header bytes past rst elsewhere = (left cx ip header bytes v past rst elsewhere).1
