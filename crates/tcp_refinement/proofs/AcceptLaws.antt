-- Which segments are acceptable, and how much a socket sends at once.
use Rattle.std.proofs.Common.{◌≡◌, ◌≢◌, ◌↔◌, ◌⊎◌, inl, inr, ℕ, zero, suc, ◌+◌, ◌-◌, ◌^◌, ◌<◌, ◌≤◌, ◌==◌, ◌&&◌, not, nat_lt, min, max, Bool, true, false}
use Rattle.std.proofs.Common.{if◌then◌else◌, List, length, None, is_some, refl, sym, ap, ◌∙◌, subst, arith}
use Rattle.std.proofs.lemmas.Bool.{and_parts, cond_both}
use Rattle.std.proofs.lemmas.Bool.Decides.{nat_tests}
use Rattle.ip_wire.specs.IpRepr.{IpRepr}
use Rattle.ip_wire.specs.Seq.{distance_of}
use Rattle.ip_wire.specs.SeqNumber.{SeqNumber}
use Rattle.ip_wire.specs.TcpControl.{TcpControl}
use Rattle.ip_wire.specs.TcpControl.TheVariants as Control
use Rattle.ip_wire.specs.TcpHeader.{TcpHeader}
use Rattle.net_base.specs.Ring.{Ring}
use Rattle.socket_context.specs.Context.{ContextValue}
use Rattle.tcp_theory.specs.Numbers.{wire, nearest, IsNear}
use Rattle.tcp_theory.proofs.DecodedLemmas.{nearest-wire}
use Rattle.tcp_block.specs.AddressPair.{AddressPair}
use Rattle.tcp_block.specs.declared.tcb.Tcb.{Tcb}
use Rattle.tcp_block.specs.declared.tcb.CongestionControl.{CongestionControl}
use Rattle.tcp_block.specs.declared.tcb.CongestionControl.TheVariants as Congestion
use Rattle.tcp_block.specs.State.{State}
use Rattle.tcp_block.specs.State.TheVariants as In
use Rattle.tcp_block.specs.Answers.{drawn, acked, may_challenge, with_draw}
use Rattle.tcp_block.specs.Arrival.{arrives, arrives_in, is_void_syn, checked, takes_reset, challenges_reset, reset_arrives, challenges_first, received}
use Rattle.tcp_block.specs.Checks.{acknowledgement_check, is_in_window, taken_down}
use Rattle.tcp_block.specs.Controls.{is_syn, is_rst}
use Rattle.tcp_block.specs.Endpoints.{ip_header_len, pair_in}
use Rattle.tcp_block.specs.Offsets.{distance_after, distance_before, overlaps_window}
use Rattle.tcp_block.specs.Opening.{is_first_syn, answering, acks_syn, syn_answered}
use Rattle.tcp_block.specs.LossRecovery.{retransmit_offset, hole_len}
use Rattle.tcp_block.specs.Rules.{payload_choice, resend_choice, timestamps_len, size_limit}
use Rattle.tcp_block.specs.Rules.{congestion_limit, next_offset, congestion_room, sent_count}
use Rattle.tcp_block.specs.Segments.{no_ranges, segment_len, rst_reply}
use Rattle.tcp_block.specs.States.{is_time_wait}
use Rattle.tcp_block.specs.Timeout.{timeout_restarted}
use Rattle.tcp_block.specs.Value.{TcpValue, Arrived, with_tcb, dropped, answered_with, unoffered, ended, queued_in}
use Rattle.tcp_block.specs.Isn.{isn, draws_number}
use Rattle.tcp_block.specs.Timestamps.{believed}
use Rattle.tcp_block.proofs.Positions.{offsets_nearest}
use Rattle.tcp_refinement.specs.Acceptance.{Meets, reset_counts_in, reset_counts, IsIgnored}
use Rattle.tcp_refinement.specs.Tie.{core_of}
use Rattle.tcp_refinement.proofs.Tied.{if_not}

-- THE WINDOW

-- where a segment stands, so far past RCV.NXT or so far before it
record Stands (next at before past : ℕ) : Type 0 where
  offset : at + before ≡ next + past
  one : (past ≡ 0) ⊎ (before ≡ 0)

one_way : (far : ℕ) → ((if nat_lt far (2 ^ 31) then far else 0) ≡ 0) ⊎ ((if nat_lt far (2 ^ 31) then 0 else 2 ^ 32 - far) ≡ 0)
one_way far = by (nat_lt far (2 ^ 31)) where
  by : (test : Bool) → ((if test then far else 0) ≡ 0) ⊎ ((if test then 0 else 2 ^ 32 - far) ≡ 0)
  by true = inr refl
  by false = inl refl

stands : (next at : ℕ) (mine theirs : SeqNumber) → 2 ^ 31 ≤ next → mine.0 ≡ wire next → theirs.0 ≡ wire at → IsNear next at →
    Stands next at (distance_before mine theirs) (distance_after mine theirs)
stands next at mine theirs low e f near = record {
  offset = ap (λ (n : ℕ). n + distance_before mine theirs) (sym (ap (nearest next) f ∙ nearest-wire next at low near)) ∙ offsets_nearest next mine theirs low e;
  one = one_way (distance_of mine theirs);
}

is_zero : (n : ℕ) → (n == 0) ≡ true → n ≡ 0
is_zero n e = grind (arith, nat_tests)

zero_is : (n : ℕ) → n ≡ 0 → (n == 0) ≡ true
zero_is n e = grind (arith, nat_tests)

is_below : (a b : ℕ) → nat_lt a b ≡ true → a < b
is_below a b e = grind (arith, nat_tests)

below_is : (a b : ℕ) → a < b → nat_lt a b ≡ true
below_is a b e = grind (arith, nat_tests)

both : (a b : Bool) → a ≡ true → b ≡ true → (a && b) ≡ true
both true b e f = f
both false b e f = absurd (cc)

inside_or_there : (past space : ℕ) → (if past == 0 then true else nat_lt past space) ≡ true → (past ≡ 0) ⊎ (past < space)
inside_or_there past space =
    cond_both (past == 0) true (nat_lt past space) (λ (test : Bool). test ≡ true → (past ≡ 0) ⊎ (past < space))
    (λ there _. inl (is_zero past there))
    (λ _ below. inr (is_below past space below))

there_or_inside : (past space : ℕ) → (past ≡ 0) ⊎ (past < space) → (if past == 0 then true else nat_lt past space) ≡ true
there_or_inside past space at =
    cond_both (past == 0) true (nat_lt past space) (λ (test : Bool). test ≡ true) (λ _. refl) (λ other. by other at)
  where
    by : (past == 0) ≡ false → (past ≡ 0) ⊎ (past < space) → nat_lt past space ≡ true
    by other (inl there) = absurd (let clash : true ≡ false = sym (zero_is past there) ∙ other in cc)
    by other (inr below) = below_is past space below

empty_to : (next at before past space : ℕ) → Stands next at before past → (before ≡ 0) → (past ≡ 0) ⊎ (past < space) → Meets next at 0 space
empty_to next at before past space s none (inl there) = let offset = s.offset in inl (omega arith)
empty_to next at before past space s none (inr below) = let offset = s.offset in inr (omega arith, omega arith)

empty_from : (next at before past space : ℕ) → Stands next at before past → Meets next at 0 space → (before ≡ 0) × ((past ≡ 0) ⊎ (past < space))
empty_from next at before past space s (inl there) = by s.one where
  by : (past ≡ 0) ⊎ (before ≡ 0) → (before ≡ 0) × ((past ≡ 0) ⊎ (past < space))
  by (inl none) = let offset = s.offset in (omega arith, inl none)
  by (inr none) = let offset = s.offset in (none, inl (omega arith))
empty_from next at before past space s (inr inside) = by s.one where
  by : (past ≡ 0) ⊎ (before ≡ 0) → (before ≡ 0) × ((past ≡ 0) ⊎ (past < space))
  by (inl none) = let offset = s.offset in let low = inside.0 in (omega arith, inl none)
  by (inr none) = let offset = s.offset in let high = inside.1 in (none, inr (omega arith))

full_to : (next at before past more space : ℕ) → Stands next at before past → past < space → before < suc more → Meets next at (suc more) space
full_to next at before past more space s inside reaches =
    let offset = s.offset in
    (next + past, omega arith, omega arith, omega arith, omega arith)

full_from : (next at before past more space : ℕ) → Stands next at before past → Meets next at (suc more) space → (past < space) × (before < suc more)
full_from next at before past more space s m = by s.one where
  by : (past ≡ 0) ⊎ (before ≡ 0) → (past < space) × (before < suc more)
  by (inl none) = let offset = s.offset in let h1 = m.1 in let h2 = m.2 in let h3 = m.3 in let h4 = m.4 in (omega arith, omega arith)
  by (inr none) = let offset = s.offset in let h1 = m.1 in let h2 = m.2 in let h3 = m.3 in let h4 = m.4 in (omega arith, omega arith)

meets : (next at before past len space : ℕ) → Stands next at before past → (overlaps_window before past len space ≡ true) ↔ Meets next at len space
meets next at before past zero space s = (
  λ e.
      let parts = and_parts (before == 0) (if past == 0 then true else nat_lt past space) e in
      empty_to next at before past space s (is_zero before parts.0) (inside_or_there past space parts.1),
  λ m.
      let parts = empty_from next at before past space s m in
      both (before == 0) (if past == 0 then true else nat_lt past space) (zero_is before parts.0) (there_or_inside past space parts.1),
)
meets next at before past (suc more) space s = (
  λ e.
      let full : (nat_lt past space && nat_lt before (suc more)) ≡ true =
      sym (if_not (suc more == 0) ((before == 0) && (if past == 0 then true else nat_lt past space)) (nat_lt past space && nat_lt before (suc more))
      (has more)) ∙ e in
      let parts = and_parts (nat_lt past space) (nat_lt before (suc more)) full in
      full_to next at before past more space s (is_below past space parts.0) (is_below before (suc more) parts.1),
  λ m.
      let parts = full_from next at before past more space s m in
      if_not (suc more == 0) ((before == 0) && (if past == 0 then true else nat_lt past space)) (nat_lt past space && nat_lt before (suc more)) (has more)
      ∙ both (nat_lt past space) (nat_lt before (suc more)) (below_is past space parts.0) (below_is before (suc more) parts.1),
)
  where
    has : (more : ℕ) → (suc more == 0) ≡ false
    has more = grind (arith, nat_tests)

pub window_meets :
    (b : Tcb) (header : TcpHeader) (size space next at : ℕ) → 2 ^ 31 ≤ next → b.receiver.next.0 ≡ wire next → header.seq_number.0 ≡ wire at → IsNear next at
    → (is_in_window b space header size ≡ true) ↔ Meets next at (segment_len header size) space
window_meets b header size space next at low e f near =
    meets next at (distance_before b.receiver.next header.seq_number) (distance_after b.receiver.next header.seq_number) (segment_len header size) space
    (stands next at b.receiver.next header.seq_number low e f near)

-- RESETS

no_syn : (control : TcpControl) → is_rst control ≡ true → is_syn control ≡ false
no_syn Control.Rst e = refl
no_syn other e = absurd (cc)

drawn_core : (cx : ContextValue) (v : TcpValue) (ip : IpRepr) (header : TcpHeader) → core_of (drawn cx v ip header).socket ≡ core_of v
drawn_core cx v ip header =
    cond_both (may_challenge cx.instant v.tcb.timers.challenges_from) (acked cx (with_draw v cx.instant) ip header no_ranges) (dropped v)
    (λ (a : Arrived). core_of a.socket ≡ core_of v) (λ _. refl) (λ _. refl)

module _ (cx : ContextValue) (v : TcpValue) (ip : IpRepr) (header : TcpHeader) (bytes : List ℕ) (rst : is_rst header.control ≡ true) where
  silently : IsIgnored cx v ip header (dropped (unoffered v))
  silently = record { core = refl; answer = inl refl }

  by_an_answer : IsIgnored cx v ip header (drawn cx (unoffered v) ip header)
  by_an_answer = record { core = drawn_core cx (unoffered v) ip header; answer = inr refl }

  -- from SYN-RECEIVED on
  later_reset : takes_reset v.tcb header ≡ false → IsIgnored cx v ip header (received cx (unoffered v) ip header bytes)
  later_reset other_reset =
      cond_both (is_rst header.control) (reset_arrives cx (unoffered v) ip header (length bytes))
      (if challenges_first v.tcb header cx.instant then drawn cx (unoffered v) ip header
      else checked (acknowledgement_check v.tcb header.ack_number) cx (unoffered v) ip header bytes)
      (IsIgnored cx v ip header)
      (λ _.
      cond_both (takes_reset v.tcb header) (dropped (taken_down (unoffered v)))
      (if challenges_reset (unoffered v) header (length bytes) then drawn cx (unoffered v) ip header else dropped (unoffered v))
      (IsIgnored cx v ip header)
      (λ taken. absurd (let clash : true ≡ false = sym taken ∙ other_reset in cc))
      (λ _.
      cond_both (challenges_reset (unoffered v) header (length bytes)) (drawn cx (unoffered v) ip header) (dropped (unoffered v)) (IsIgnored cx v ip header)
      (λ _. by_an_answer)
      (λ _. silently)))
      (λ none. absurd (let clash : true ≡ false = sym rst ∙ none in cc))

  no_first_syn : is_first_syn header ≡ false
  no_first_syn = ap (λ (syn : Bool). syn && not (is_some header.ack_number)) (no_syn header.control rst)

  and_false : (test : Bool) → (test && false) ≡ false
  and_false true = refl
  and_false false = refl

  reset_in : (state : State) → v.tcb.state ≡ state → reset_counts_in state v.tcb header ≡ false →
      IsIgnored cx v ip header (arrives_in state cx (unoffered v) ip header bytes)
  reset_in In.Closed at other_reset = silently
  reset_in In.Listen at other_reset =
      subst (IsIgnored cx v ip header)
      (sym (if_not (is_first_syn header)
      (record {
        socket =
            with_tcb (unoffered v) (timeout_restarted (believed (answering v.tcb ip header (isn cx (pair_in ip header))) cx.instant) cx.instant 0);
        answer =
            None;
        draws = draws_number cx;
      }) (dropped (unoffered v)) no_first_syn))
      silently
  reset_in In.SynSent at other_reset =
      cond_both (is_rst header.control) (if acks_syn v.tcb.sender.una header.ack_number then dropped (ended (unoffered v)) else dropped (unoffered v))
      (if is_some header.ack_number && not (acks_syn v.tcb.sender.una header.ack_number) then answered_with (unoffered v) (rst_reply ip header (length bytes))
      else if is_syn header.control then dropped (with_tcb (unoffered v) (timeout_restarted (syn_answered v.tcb header cx.instant) cx.instant (queued_in v)))
      else dropped (unoffered v))
      (IsIgnored cx v ip header)
      (λ _.
      cond_both (acks_syn v.tcb.sender.una header.ack_number) (dropped (ended (unoffered v))) (dropped (unoffered v)) (IsIgnored cx v ip header)
      (λ acks. absurd (let clash : true ≡ false = sym acks ∙ other_reset in cc))
      (λ _. silently))
      (λ none. absurd (let clash : true ≡ false = sym rst ∙ none in cc))
  reset_in In.TimeWait at other_reset =
      later_reset (ap (λ (state : State). not (is_time_wait state) && (v.tcb.receiver.next.0 == header.seq_number.0)) at)
  reset_in other at other_reset =
      later_reset
      (ap (λ (test : Bool). not (is_time_wait v.tcb.state) && test) other_reset ∙ and_false (not (is_time_wait v.tcb.state)))

pub reset_ignored :
    (cx : ContextValue) (v : TcpValue) (ip : IpRepr) (header : TcpHeader) (bytes : List ℕ) → is_rst header.control ≡ true → reset_counts v header ≡ false
    → IsIgnored cx v ip header (arrives cx v ip header bytes)
reset_ignored cx v ip header bytes rst other_reset =
    cond_both (is_void_syn header) (dropped (unoffered v)) (arrives_in v.tcb.state cx (unoffered v) ip header bytes) (IsIgnored cx v ip header)
    (λ _. silently cx v ip header bytes rst)
    (λ _. reset_in cx v ip header bytes rst v.tcb.state refl other_reset)

-- LIMITS

-- the congestion window can only lower a count
lowered : (control : CongestionControl) (cwnd size : ℕ) → congestion_limit control cwnd size ≤ size
lowered Congestion.None cwnd size = omega arith
lowered other cwnd size = omega arith

held_limit : (control : CongestionControl) (cwnd size : ℕ) → control ≢ Congestion.None → congestion_limit control cwnd size ≤ cwnd
held_limit Congestion.None cwnd size e = absurd (e refl)
held_limit other cwnd size e = omega arith

min_both : (a b : ℕ) → (min a b ≤ a) × (min a b ≤ b)
min_both a b = (omega arith, omega arith)

below_parts : (a b c : ℕ) → a ≤ b → b ≤ c → a ≤ c
below_parts a b c e f = omega arith

module _ (b : Tcb) (addresses : AddressPair) (mtu : ℕ) (queued : Ring ℕ) where
  abbrev size : ℕ
  size = min (size_limit b addresses mtu) (length queued.queue - next_offset b)

  pub payload_in_window : (payload_choice b addresses mtu queued).len ≤ b.peer.window - b.sender.flight_size
  payload_in_window =
      below_parts _ _ _ (lowered b.settings.congestion_control (congestion_room b) (min (b.peer.window - b.sender.flight_size) size))
      (min_both (b.peer.window - b.sender.flight_size) size).0

  pub payload_in_congestion : b.settings.congestion_control ≢ Congestion.None →
      (payload_choice b addresses mtu queued).len ≤ congestion_room b
  payload_in_congestion e = held_limit b.settings.congestion_control (congestion_room b)
      (min (b.peer.window - b.sender.flight_size) size) e

  payload_in_size : (payload_choice b addresses mtu queued).len ≤ size_limit b addresses mtu
  payload_in_size =
      below_parts _ _ _ (lowered b.settings.congestion_control (congestion_room b) (min (b.peer.window - b.sender.flight_size) size))
      (below_parts _ _ _ (min_both (b.peer.window - b.sender.flight_size) size).1 (min_both (size_limit b addresses mtu) (length queued.queue - next_offset b)).0)

  again_in_size : (resend_choice b addresses mtu queued).len ≤ size_limit b addresses mtu
  again_in_size =
      below_parts _ _ _ (min_both (hole_len b again (sent_count b)) (min (size_limit b addresses mtu) (length queued.queue - again))).1
      (min_both (size_limit b addresses mtu) (length queued.queue - again)).0
    where
      again : ℕ
      again = retransmit_offset b (size_limit b addresses mtu) (sent_count b) (length queued.queue)

  size_in_mss : size_limit b addresses mtu ≤ max 1 (b.peer.mss - timestamps_len b)
  size_in_mss = omega arith

  size_in_packet : size_limit b addresses mtu ≤ max 1 (mtu - (ip_header_len addresses + 20 + timestamps_len b))
  size_in_packet = omega arith

  pub payload_in_mss : (payload_choice b addresses mtu queued).len ≤ max 1 (b.peer.mss - timestamps_len b)
  payload_in_mss = below_parts _ _ _ payload_in_size size_in_mss

  pub payload_in_packet : (payload_choice b addresses mtu queued).len ≤ max 1 (mtu - (ip_header_len addresses + 20 + timestamps_len b))
  payload_in_packet = below_parts _ _ _ payload_in_size size_in_packet

  pub again_in_mss : (resend_choice b addresses mtu queued).len ≤ max 1 (b.peer.mss - timestamps_len b)
  again_in_mss = below_parts _ _ _ again_in_size size_in_mss

  pub again_in_packet : (resend_choice b addresses mtu queued).len ≤ max 1 (mtu - (ip_header_len addresses + 20 + timestamps_len b))
  again_in_packet = below_parts _ _ _ again_in_size size_in_packet

pub ruleset payload_fits = (payload_in_window, payload_in_congestion, payload_in_mss, payload_in_packet, again_in_mss, again_in_packet)
