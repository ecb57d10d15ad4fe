-- SYNs that come to a socket which calls or is connected: they cross in SYN-SENT, say nothing new in SYN-RECEIVED, and are answered there and
-- later.
use Rattle.std.proofs.Common.{◌≡◌, ℕ, ◌+◌, ◌-◌, ◌%◌, ◌^◌, ◌<◌, ◌==◌, ◌&&◌, ◌||◌, nat_lt, not, ℤ, Bool, true, false, if◌then◌else◌, List, length}
use Rattle.std.proofs.Common.{Option, Some, None, is_some, refl, sym, ap, ◌∙◌, subst, arith}
use Rattle.std.proofs.lemmas.Bool.{cond_both, eq-eqb}
use Rattle.ip_wire.specs.IpRepr.{IpRepr}
use Rattle.ip_wire.specs.Control.{control_len}
use Rattle.ip_wire.specs.Seq.{distance_of}
use Rattle.ip_wire.specs.SeqNumber.{SeqNumber}
use Rattle.ip_wire.specs.TcpControl.{TcpControl}
use Rattle.ip_wire.specs.TcpControl.TheVariants as Control
use Rattle.ip_wire.specs.TcpHeader.{TcpHeader}
use Rattle.tcp_refinement.specs.Context.{ContextValue}
use Rattle.tcp_invariants.specs.Controls.{is_syn, is_rst, is_zero}
use Rattle.tcp_invariants.specs.Offsets.{distance_after, distance_before, advanced_by, overlaps_window}
use Rattle.tcp_invariants.specs.Reply.{Reply}
use Rattle.tcp_invariants.specs.State.{State}
use Rattle.tcp_invariants.specs.State.TheVariants as In
use Rattle.tcp_invariants.specs.States.{is_answering, is_closed}
use Rattle.tcp_block.specs.Opening.{acks_syn, connected, crossed}
use Rattle.tcp_block.specs.Timeout.{timeout_restarted}
use Rattle.tcp_block.specs.Acknowledged.{acknowledged}
use Rattle.tcp_block.specs.Answers.{acked, drawn, may_challenge, with_draw}
use Rattle.tcp_block.specs.Arrival.{arrives, arrives_in, checked, challenges_first, inside, is_void_syn, outside, passed_outside, reset_arrives, is_before_window}
use Rattle.tcp_block.specs.Arrival.{tsecr_heard, waiting_anew}
use Rattle.tcp_block.specs.declared.tcb.Tcb.{Tcb}
use Rattle.tcp_block.specs.TcbRules.{snd_max}
use Rattle.tcp_block.specs.Checks.{Check, acknowledgement_check, opening_check, synchronized_check, is_in_window, lies_before}
use Rattle.tcp_block.specs.Checks.Check.{Passes, Resets}
use Rattle.tcp_block.specs.Segments.{no_ranges, rst_reply, segment_len, has_length}
use Rattle.tcp_block.specs.Timestamps.{believed, is_stale}
use Rattle.tcp_block.specs.Value.{TcpValue, Arrived, answered_with, dropped, ended, free_in, queued_in, room_of, unoffered, with_tcb}
use Rattle.tcp_refinement.proofs.Tied.{if_so, if_not}
use Rattle.tcp_liveness.proofs.Shakes.{IsPlain}
use Rattle.tcp_liveness.proofs.Taken.{Begins, begins}

not_second : (a b : Bool) → b ≡ false → (a && b) ≡ false
not_second true b e = e
not_second false b e = refl

or_second : (a b : Bool) → b ≡ true → (a || b) ≡ true
or_second true b e = refl
or_second false b e = e

-- WHAT STAYS

-- what a handshake reads of a socket
pub record Unmoved (old new : TcpValue) : Type 0 where
  pub state : new.tcb.state ≡ old.tcb.state
  pub names : new.tcb.names ≡ old.tcb.names
  pub una : new.tcb.sender.una ≡ old.tcb.sender.una
  pub syn_unacked : new.tcb.sender.syn_unacked ≡ old.tcb.sender.syn_unacked
  pub flight_size : new.tcb.sender.flight_size ≡ old.tcb.sender.flight_size
  pub snd_max : new.tcb.sender.snd_max ≡ old.tcb.sender.snd_max
  pub timeouts : new.tcb.sender.timeouts ≡ old.tcb.sender.timeouts
  pub unanswered : new.tcb.sender.unanswered ≡ old.tcb.sender.unanswered
  pub next : new.tcb.receiver.next ≡ old.tcb.receiver.next
  pub took_syn : new.tcb.receiver.took_syn ≡ old.tcb.receiver.took_syn
  pub timer : new.tcb.timers.retransmit_at ≡ old.tcb.timers.retransmit_at
  pub timeout : new.tcb.settings.timeout ≡ old.tcb.settings.timeout
  pub paused : new.tcb.settings.synack_paused ≡ old.tcb.settings.synack_paused
  pub stamps : new.tcb.settings.timestamps ≡ old.tcb.settings.timestamps
  pub opening : new.tcb.settings.opening_retries ≡ old.tcb.settings.opening_retries
  pub retries : new.tcb.settings.retries ≡ old.tcb.settings.retries
  pub agreed : new.tcb.peer.timestamps ≡ old.tcb.peer.timestamps
  pub generator : new.tcb.stamps.generator ≡ old.tcb.stamps.generator
  pub received : new.received ≡ old.received

-- a socket but for its offer and the end of its TIME-WAIT
abbrev waiting_until : TcpValue → Option ℤ → TcpValue
waiting_until v ends = with_tcb (unoffered v) (record v.tcb { timers = record v.tcb.timers { time_wait_ends = ends } })

acked_unmoved : (cx : ContextValue) (v : TcpValue) (ends : Option ℤ) (ip : IpRepr) (header : TcpHeader) →
    Unmoved v (acked cx (with_draw (waiting_until v ends) cx.instant) ip header no_ranges).socket
acked_unmoved cx v ends ip header = record {
  state = refl;
  names = refl;
  una = refl;
  syn_unacked = refl;
  flight_size = refl;
  snd_max = refl;
  timeouts = refl;
  unanswered = refl;
  next = refl;
  took_syn = refl;
  timer = refl;
  timeout = refl;
  paused = refl;
  stamps = refl;
  opening = refl;
  retries = refl;
  agreed = refl;
  generator = refl;
  received = refl;
}

dropped_unmoved : (v : TcpValue) (ends : Option ℤ) → Unmoved v (dropped (waiting_until v ends)).socket
dropped_unmoved v ends = record {
  state = refl;
  names = refl;
  una = refl;
  syn_unacked = refl;
  flight_size = refl;
  snd_max = refl;
  timeouts = refl;
  unanswered = refl;
  next = refl;
  took_syn = refl;
  timer = refl;
  timeout = refl;
  paused = refl;
  stamps = refl;
  opening = refl;
  retries = refl;
  agreed = refl;
  generator = refl;
  received = refl;
}

drawn_unmoved : (cx : ContextValue) (v : TcpValue) (ends : Option ℤ) (ip : IpRepr) (header : TcpHeader) →
    Unmoved v (drawn cx (waiting_until v ends) ip header).socket
drawn_unmoved cx v ends ip header =
    cond_both (may_challenge cx.instant v.tcb.timers.challenges_from) (acked cx (with_draw (waiting_until v ends) cx.instant) ip header no_ranges)
    (dropped (waiting_until v ends)) (λ (a : Arrived). Unmoved v a.socket) (λ _. acked_unmoved cx v ends ip header) (λ _. dropped_unmoved v ends)

-- AN ANSWER IS DRAWN

-- by a bare acknowledgement of RCV.NXT, past all that was sent
pub record Draws (v : TcpValue) (a : Arrived) : Type 0 where
  pub reply : Reply
  pub answer : a.answer ≡ Some reply
  pub number : reply.segment.seq_number ≡ snd_max v.tcb
  pub acknowledges : reply.segment.ack_number ≡ Some v.tcb.receiver.next
  pub plain : IsPlain reply.segment
  pub still : Unmoved v a.socket

draws :
    (cx : ContextValue) (v : TcpValue) (ends : Option ℤ) (ip : IpRepr) (header : TcpHeader) → may_challenge cx.instant v.tcb.timers.challenges_from ≡ true
    → Draws v (drawn cx (waiting_until v ends) ip header)
draws cx v ends ip header may =
    subst (Draws v)
    (sym (if_so (may_challenge cx.instant v.tcb.timers.challenges_from) (acked cx (with_draw (waiting_until v ends) cx.instant) ip header no_ranges)
    (dropped (waiting_until v ends)) may))
    (record {
      reply = _;
      answer = refl;
      number = refl;
      acknowledges = refl;
      plain = record { no_reset = refl; none = refl };
      still = acked_unmoved cx v ends ip header;
    })

-- a SYN in a state
module _ (cx : ContextValue) (v : TcpValue) (ip : IpRepr) (header : TcpHeader) (bytes : List ℕ) (syn : header.control ≡ Control.Syn) where
  abbrev u : TcpValue
  u = unoffered v

  not_void : is_zero header.options.max_seg_size ≡ false → arrives cx v ip header bytes ≡ arrives_in v.tcb.state cx u ip header bytes
  not_void named =
      if_not (is_void_syn header) (dropped u) (arrives_in v.tcb.state cx u ip header bytes)
      (not_second (is_syn header.control) (is_zero header.options.max_seg_size) named)

  abbrev checks : Arrived
  checks = checked (acknowledgement_check v.tcb header.ack_number) cx u ip header bytes

  -- what is no reset
  abbrev unreset : Arrived
  unreset = if challenges_first v.tcb header cx.instant then drawn cx u ip header else checks

  no_reset : (if is_rst header.control then reset_arrives cx u ip header (length bytes) else unreset) ≡ unreset
  no_reset = if_not (is_rst header.control) (reset_arrives cx u ip header (length bytes)) unreset (ap is_rst syn)

  -- ESTABLISHED

  pub established_draws :
      v.tcb.state ≡ In.Established → is_zero header.options.max_seg_size ≡ false → may_challenge cx.instant v.tcb.timers.challenges_from ≡ true
      → Draws v (arrives cx v ip header bytes)
  established_draws at named may =
      subst (Draws v)
      (sym (not_void named ∙ (ap (λ (state : State). arrives_in state cx u ip header bytes) at ∙ (no_reset
      ∙ if_so (challenges_first v.tcb header cx.instant) (drawn cx u ip header) checks first))))
      (draws cx v v.tcb.timers.time_wait_ends ip header may)
    where
      first : challenges_first v.tcb header cx.instant ≡ true
      first =
          or_second (is_stale v.tcb header cx.instant) (is_syn header.control && not (is_answering v.tcb.state))
          (ap (λ (control : TcpControl). is_syn control && not (is_answering v.tcb.state)) syn ∙ ap (λ (state : State). not (is_answering state)) at)

  -- SYN-RECEIVED

  module _ (at : v.tcb.state ≡ In.SynReceived) where
    received : is_zero header.options.max_seg_size ≡ false → arrives cx v ip header bytes ≡ unreset
    received named = not_void named ∙ (ap (λ (state : State). arrives_in state cx u ip header bytes) at ∙ no_reset)

    -- a SYN without ACK says nothing new
    pub again_unmoved : is_zero header.options.max_seg_size ≡ false → header.ack_number ≡ None → Unmoved v (arrives cx v ip header bytes).socket
    again_unmoved named none =
        subst (λ (a : Arrived). Unmoved v a.socket) (sym (received named))
        (cond_both (challenges_first v.tcb header cx.instant) (drawn cx u ip header) checks (λ (a : Arrived). Unmoved v a.socket)
        (λ _. drawn_unmoved cx v v.tcb.timers.time_wait_ends ip header)
        (λ _.
        subst (λ (n : Option SeqNumber). Unmoved v (checked (acknowledgement_check v.tcb n) cx u ip header bytes).socket) (sym none)
        (dropped_unmoved v v.tcb.timers.time_wait_ends)))

    -- one that acknowledges the own lies before the window
    module _ (number : SeqNumber) (acknowledges : header.ack_number ≡ Some number) (one : distance_of v.tcb.sender.una number ≡ 1)
        (old : v.tcb.receiver.next ≡ advanced_by header.seq_number 1) (small : header.seq_number.0 < 2 ^ 32) (none : length bytes ≡ 0) where
      passes : acknowledgement_check v.tcb header.ack_number ≡ Passes 1
      passes =
          ap (acknowledgement_check v.tcb) acknowledges
          ∙ (if_so (is_answering v.tcb.state) (opening_check (distance_of v.tcb.sender.una number))
          (synchronized_check v.tcb (distance_after v.tcb.sender.una number) (distance_before v.tcb.sender.una number)) (ap is_answering at)
          ∙ if_so (distance_of v.tcb.sender.una number == 1) (Passes 1) Resets (eq-eqb (distance_of v.tcb.sender.una number) 1 one))

      next_small : v.tcb.receiver.next.0 < 2 ^ 32
      next_small = subst (λ (n : SeqNumber). n.0 < 2 ^ 32) (sym old) (below header.seq_number.0) where
        below : (n : ℕ) → (n + 1) % 2 ^ 32 < 2 ^ 32
        below n = omega arith

      one_before : distance_of header.seq_number v.tcb.receiver.next ≡ 1
      one_before = ap (distance_of header.seq_number) old ∙ one_past header.seq_number.0 small where
        one_past : (n : ℕ) → n < 2 ^ 32 → ((n + 1) % 2 ^ 32 + (2 ^ 32 - n)) % 2 ^ 32 ≡ 1
        one_past n e = omega arith

      near : distance_of header.seq_number v.tcb.receiver.next < 2 ^ 31
      near = by (distance_of header.seq_number v.tcb.receiver.next) one_before where
        by : (d : ℕ) → d ≡ 1 → d < 2 ^ 31
        by d e = omega arith

      outside_it : is_in_window v.tcb (free_in v) header (length bytes) ≡ false
      outside_it =
          let it : Begins v.tcb.receiver.next header.seq_number = begins v.tcb.receiver.next header.seq_number small next_small near in
          ap (λ (d : ℕ). overlaps_window d (distance_after v.tcb.receiver.next header.seq_number) (segment_len header (length bytes)) (free_in v))
          (it.before ∙ one_before)
          ∙ (ap (λ (d : ℕ). overlaps_window 1 d (segment_len header (length bytes)) (free_in v)) it.past
          ∙ (ap (λ (n : ℕ). overlaps_window 1 0 (n + control_len header.control) (free_in v)) none
          ∙ (ap (λ (control : TcpControl). overlaps_window 1 0 (0 + control_len control) (free_in v)) syn
          ∙ not_second (nat_lt 0 (free_in v)) (nat_lt 1 1) refl)))

      no_news : is_before_window u header (length bytes) ≡ false
      no_news = ap (λ (state : State). not (is_answering state) && lies_before v.tcb (room_of v.received) header (length bytes)) at

      pub answering_draws : is_zero header.options.max_seg_size ≡ false → may_challenge cx.instant v.tcb.timers.challenges_from ≡ true
          → Draws v (arrives cx v ip header bytes)
      answering_draws named may =
          subst (Draws v) (sym (received named))
          (cond_both (challenges_first v.tcb header cx.instant) (drawn cx u ip header) checks (Draws v)
          (λ _. draws cx v v.tcb.timers.time_wait_ends ip header may)
          (λ _. subst (Draws v) (sym answered) (draws cx v (waiting_anew u header cx.instant).tcb.timers.time_wait_ends ip header may)))
        where
          answered : checks ≡ drawn cx (waiting_anew u header cx.instant) ip header
          answered =
              ap (λ (check : Check). checked check cx u ip header bytes) passes
              ∙ (if_not (is_in_window v.tcb (free_in v) header (length bytes)) (inside cx u ip header bytes 1)
              (passed_outside cx u ip header (length bytes) 1) outside_it
              ∙ (if_not (is_before_window u header (length bytes))
              (outside cx (acknowledged (tsecr_heard u header 1 cx.instant) 1 cx.instant) ip header (has_length header (length bytes)))
              (outside cx u ip header false) no_news
              ∙ if_not (is_closed v.tcb.state) (dropped u) (drawn cx (waiting_anew u header cx.instant) ip header) (ap is_closed at)))

-- SYN-SENT

-- it takes the SYN of the other, which doesn't acknowledge its own
pub record Crosses (v : TcpValue) (header : TcpHeader) (a : Arrived) : Type 0 where
  pub silent : a.answer ≡ None
  pub state : a.socket.tcb.state ≡ In.SynReceived
  pub names : a.socket.tcb.names ≡ v.tcb.names
  pub una : a.socket.tcb.sender.una ≡ v.tcb.sender.una
  pub snd_max : a.socket.tcb.sender.snd_max ≡ v.tcb.sender.snd_max
  pub timeouts : a.socket.tcb.sender.timeouts ≡ 0
  pub next : a.socket.tcb.receiver.next ≡ advanced_by header.seq_number 1
  pub timeout : a.socket.tcb.settings.timeout ≡ v.tcb.settings.timeout
  pub paused : a.socket.tcb.settings.synack_paused ≡ v.tcb.settings.synack_paused
  pub opening : a.socket.tcb.settings.opening_retries ≡ v.tcb.settings.opening_retries
  pub retries : a.socket.tcb.settings.retries ≡ v.tcb.settings.retries
  pub agreed : a.socket.tcb.peer.timestamps ≡ is_some header.options.timestamp
  pub generator : a.socket.tcb.stamps.generator ≡ v.tcb.stamps.generator
  pub undrawn : a.socket.tcb.timers.challenges_from ≡ v.tcb.timers.challenges_from
  pub room : room_of a.socket.received ≡ room_of v.received

pub crosses :
    (cx : ContextValue) (v : TcpValue) (ip : IpRepr) (header : TcpHeader) (bytes : List ℕ) → v.tcb.state ≡ In.SynSent
    → header.control ≡ Control.Syn → header.ack_number ≡ None → is_zero header.options.max_seg_size ≡ false
    → Crosses v header (arrives cx v ip header bytes)
crosses cx v ip header bytes at syn none named =
    subst (Crosses v header) (sym path)
    (record {
      silent = refl;
      state = refl;
      names = refl;
      una = refl;
      snd_max = refl;
      timeouts = refl;
      next = refl;
      timeout = refl;
      paused = refl;
      opening = refl;
      retries = refl;
      agreed = refl;
      generator = refl;
      undrawn = refl;
      room = refl;
    })
  where
    u : TcpValue
    u = unoffered v

    with_it : Tcb → Arrived
    with_it b = dropped (with_tcb u (timeout_restarted (believed b cx.instant) cx.instant (queued_in u)))

    -- what a SYN without ACK finds
    rest : Option SeqNumber → Bool → Arrived
    rest number syn =
        if is_some number && not (acks_syn v.tcb.sender.una number) then answered_with u (rst_reply ip header (length bytes))
        else if syn then with_it (if is_some number then connected u.tcb header cx.instant else crossed u.tcb header)
        else dropped u

    path : arrives cx v ip header bytes ≡ with_it (crossed u.tcb header)
    path =
        if_not (is_void_syn header) (dropped u) (arrives_in v.tcb.state cx u ip header bytes)
        (not_second (is_syn header.control) (is_zero header.options.max_seg_size) named)
        ∙ (ap (λ (state : State). arrives_in state cx u ip header bytes) at
        ∙ (if_not (is_rst header.control) (if acks_syn v.tcb.sender.una header.ack_number then dropped (ended u) else dropped u)
        (rest header.ack_number (is_syn header.control)) (ap is_rst syn)
        ∙ (ap (λ (n : Option SeqNumber). rest n (is_syn header.control)) none ∙ ap (λ (control : TcpControl). rest None (is_syn control)) syn)))
