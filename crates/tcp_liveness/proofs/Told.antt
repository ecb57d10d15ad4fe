-- Payload that comes in SYN-RECEIVED, from RCV.NXT on, with the acknowledgement of the own SYN: it opens the connection, and is taken.
use Rattle.std.proofs.Common.{◌≡◌, ℕ, ◌+◌, ◌-◌, ◌%◌, ◌^◌, ◌<◌, ◌≤◌, ◌==◌, ◌&&◌, ◌||◌, nat_le, nat_lt, not, min, Bool, true, false, if◌then◌else◌}
use Rattle.std.proofs.Common.{List, length, drop, Option, Some, None, refl, sym, ap, ◌∙◌, subst, arith}
use Rattle.std.proofs.lemmas.Bool.{cond_both, eq-eqb, lt-ltb, ne_eqb}
use Rattle.tcp_invariants.specs.OutOfOrder.{runs_of}
use Rattle.ip_wire.specs.IpRepr.{IpRepr}
use Rattle.ip_wire.specs.Seq.{distance_of}
use Rattle.ip_wire.specs.SeqNumber.{SeqNumber}
use Rattle.ip_wire.specs.TcpHeader.{TcpHeader}
use Rattle.tcp_refinement.specs.Context.{ContextValue}
use Rattle.tcp_refinement.proofs.Tied.{if_so, if_not}
use Rattle.tcp_invariants.specs.Controls.{is_syn, is_rst, is_zero}
use Rattle.tcp_invariants.specs.Offsets.{distance_after, distance_before, advanced_by, overlaps_window}
use Rattle.tcp_invariants.specs.State.{State}
use Rattle.tcp_invariants.specs.State.TheVariants as In
use Rattle.tcp_invariants.specs.States.{after_ack, after_ack_of_fin, after_fin, is_answering, is_closed, owes_fin, accepts_data}
use Rattle.tcp_invariants.proofs.ArrivalCases.{acked_cases, acked_open}
use Rattle.tcp_invariants.proofs.OrderSteps.{clash}
use Rattle.tcp_block.specs.Settled.{nxt_past_held}
use Rattle.tcp_block.specs.Timeout.{timeout_restarted}
use Rattle.tcp_block.specs.Acknowledged.{counted, duplicates_after, names_window, ranges_taken, windowed, state_after_ack}
use Rattle.tcp_block.specs.Answers.{ack_due, acked, answer_for, answers_at_once, drawn}
use Rattle.tcp_block.specs.Arrival.{arrives, arrives_in, checked, continued, challenges_first, tsecr_heard, inside, is_void_syn, passed_outside, reset_arrives}
use Rattle.tcp_block.specs.Arrival.{taken, told, with_content}
use Rattle.tcp_block.specs.declared.tcb.Tcb.{Tcb}
use Rattle.tcp_block.specs.TcbRules.{unacked}
use Rattle.tcp_block.specs.Checks.{Check, acknowledgement_check, is_in_window, opening_check, synchronized_check}
use Rattle.tcp_block.specs.Checks.Check.{Passes, Resets}
use Rattle.tcp_block.specs.Probing.{probe_kept}
use Rattle.tcp_block.specs.Segments.{no_ranges, segment_len}
use Rattle.tcp_block.specs.declared.tcb.Sender.{Sender}
use Rattle.tcp_block.specs.Payload.{DataStored, fin_taken, has_new_payload, out_of_order, laid, taken_in_order, takes_fin, data_stored, with_bytes_at, with_fin, with_payload}
use Rattle.tcp_block.specs.Timestamps.{is_stale, tsval_taken}
use Rattle.tcp_block.specs.Value.{Arrived, Received, TcpValue, dropped, free_in, queued_in, received_of, unoffered, with_tcb}
use Rattle.tcp_liveness.specs.Arrivals.{Rises, is_synchronized}
use Rattle.tcp_liveness.proofs.Acked.{content_keeps}
use Rattle.tcp_liveness.proofs.Taken.{Begins, begins, content_rises}

-- THE STATE BEHIND TEXT AND A FIN

module _ (cx : ContextValue) (ip : IpRepr) (header : TcpHeader) where
  answer_state : (v : TcpValue) (size : ℕ) (fills : Bool) (early : Option ℕ) → (answer_for cx v ip header size fills early).socket.tcb.state ≡ v.tcb.state
  answer_state v size fills None =
      cond_both (answers_at_once cx v.tcb ip header size) (acked cx v ip header no_ranges)
      (dropped (with_tcb v (ack_due v.tcb header size fills cx.instant))) (λ (a : Arrived). a.socket.tcb.state ≡ v.tcb.state)
      (λ _. refl) (λ _. refl)
  answer_state v size fills (Some offset) = refl

  abbrev Same : TcpValue → DataStored → Type 0
  Same v t = t.socket.tcb.state ≡ v.tcb.state

  payload_state : (v : TcpValue) (bytes : List ℕ) → Same v (with_payload v header bytes)
  payload_state v bytes =
      cond_both (accepts_data v.tcb.state && has_new_payload v offset rest) (with_bytes_at v offset rest) (data_stored v 0 false None) (Same v)
      (λ _.
      cond_both (offset == 0) (taken_in_order v map) (out_of_order v offset map) (Same v)
      (λ _. refl)
      (λ _. cond_both (nat_le (length (runs_of map)) 32)
      (data_stored (record v { received = received_of v.received.waiting map v.received.start }) 0 false (Some offset)) (data_stored v 0 false None) (Same v)
      (λ _. refl) (λ _. refl)))
      (λ _. refl)
    where
      offset : ℕ
      offset = distance_after v.tcb.receiver.next header.seq_number

      rest : List ℕ
      rest = drop (distance_before v.tcb.receiver.next header.seq_number) bytes

      map : List (Option ℕ)
      map = laid v offset rest

  -- the state stays, or is the one after a FIN
  content_state :
      (P : State → Type 0) (v : TcpValue) (bytes : List ℕ) → P v.tcb.state → P (after_fin v.tcb.state)
      → P (with_content cx v ip header bytes).socket.tcb.state
  content_state P v bytes same fin =
      let t = with_payload v header bytes in
      subst P
      (sym (answer_state
      (with_tcb t.socket (probe_kept (with_fin t.socket.tcb v.tcb header (length bytes) t.advance cx.instant) (queued_in t.socket))) (length bytes)
      t.fills t.early))
      (cond_both (takes_fin v.tcb header (length bytes) t.advance) (fin_taken t.socket.tcb cx.instant) t.socket.tcb (λ (b : Tcb). P b.state)
      (λ _. subst (λ (state : State). P (after_fin state)) (sym (payload_state v bytes)) fin)
      (λ _. subst P (sym (payload_state v bytes)) same))

-- IT COMES

-- the connection is open, the own SYN is acknowledged, and all of the payload that there is room for is taken
pub record Speaks (w : TcpValue) (header : TcpHeader) (size : ℕ) (a : Arrived) : Type 0 where
  pub state : is_synchronized a.socket.tcb.state ≡ true
  pub una : a.socket.tcb.sender.una ≡ advanced_by w.tcb.sender.una 1
  pub syn_unacked : a.socket.tcb.sender.syn_unacked ≡ false
  pub by : ℕ
  pub next : a.socket.tcb.receiver.next ≡ advanced_by w.tcb.receiver.next by
  pub some : 1 ≤ by
  pub all : min size (free_in w) ≤ by

and_not : (a b : Bool) → a ≡ false → (a && b) ≡ false
and_not a b e = ap (λ (t : Bool). t && b) e

neither : (a c d : Bool) → a ≡ false → c ≡ false → (a || (c && d)) ≡ false
neither a c d e f = ap (λ (t : Bool). t || (c && d)) e ∙ ap (λ (t : Bool). t && d) f

and_false : (t : Bool) → (t && false) ≡ false
and_false true = refl
and_false false = refl

at_itself : (n : ℕ) → n < 2 ^ 32 → (n + (2 ^ 32 - n)) % 2 ^ 32 ≡ 0
at_itself n e = omega arith

none_before : (d : ℕ) → d ≡ 0 → d < 2 ^ 31
none_before d e = omega arith

starts_within : (d size : ℕ) → d ≡ 0 → 1 ≤ size → d < size
starts_within d size e f = omega arith

meets_some : (size space : ℕ) → 1 ≤ size → 1 ≤ space → overlaps_window 0 0 size space ≡ true
meets_some size space some room =
    if_not (size == 0) ((0 == 0) && (if 0 == 0 then true else nat_lt 0 space)) (nat_lt 0 space && nat_lt 0 size) (ne_eqb size 0 (never size some))
    ∙ (ap (λ (t : Bool). t && nat_lt 0 size) (lt-ltb 0 space room) ∙ lt-ltb 0 size some)
  where
    never : (n : ℕ) → 1 ≤ n → n ≡ 0 → ⊥
    never n e f = absurd (omega arith)

all_new : (size d room by : ℕ) → d ≡ 0 → min (size - d) room ≤ by → min size room ≤ by
all_new size d room by e f = omega arith

module _ (cx : ContextValue) (w : TcpValue) (ip : IpRepr) (header : TcpHeader) (bytes : List ℕ) (number : SeqNumber) (at : w.tcb.state ≡ In.SynReceived)
    (no_syn : is_syn header.control ≡ false) (no_reset : is_rst header.control ≡ false) (begins_at : header.seq_number ≡ w.tcb.receiver.next)
    (small : w.tcb.receiver.next.0 < 2 ^ 32) (some : 1 ≤ segment_len header (length bytes)) (room : 1 ≤ free_in w)
    (acknowledges : header.ack_number ≡ Some number) (one : distance_of w.tcb.sender.una number ≡ 1) (initial : is_stale w.tcb header cx.instant ≡ false) where
  abbrev u : TcpValue
  u = unoffered w

  seq_small : header.seq_number.0 < 2 ^ 32
  seq_small = subst (λ (n : SeqNumber). n.0 < 2 ^ 32) (sym begins_at) small

  none : distance_of header.seq_number w.tcb.receiver.next ≡ 0
  none = subst (λ (n : SeqNumber). distance_of n w.tcb.receiver.next ≡ 0) (sym begins_at) (at_itself w.tcb.receiver.next.0 small)

  there : is_in_window w.tcb (free_in w) header (length bytes) ≡ true
  there =
      let it : Begins w.tcb.receiver.next header.seq_number =
      begins w.tcb.receiver.next header.seq_number seq_small small (none_before (distance_of header.seq_number w.tcb.receiver.next) none) in
      ap (λ (d : ℕ). overlaps_window d (distance_after w.tcb.receiver.next header.seq_number) (segment_len header (length bytes)) (free_in w)) (it.before ∙ none)
      ∙ (ap (λ (d : ℕ). overlaps_window 0 d (segment_len header (length bytes)) (free_in w)) it.past
      ∙ meets_some (segment_len header (length bytes)) (free_in w) some room)

  passes : acknowledgement_check w.tcb header.ack_number ≡ Passes 1
  passes =
      ap (acknowledgement_check w.tcb) acknowledges
      ∙ (if_so (is_answering w.tcb.state) (opening_check (distance_of w.tcb.sender.una number))
      (synchronized_check w.tcb (distance_after w.tcb.sender.una number) (distance_before w.tcb.sender.una number)) (ap is_answering at)
      ∙ if_so (distance_of w.tcb.sender.una number == 1) (Passes 1) Resets (eq-eqb (distance_of w.tcb.sender.una number) 1 one))

  path : arrives cx w ip header bytes ≡ taken cx u ip header bytes 1
  path =
      if_not (is_void_syn header) (dropped u) (arrives_in w.tcb.state cx u ip header bytes)
      (and_not (is_syn header.control) (is_zero header.options.max_seg_size) no_syn)
      ∙ (ap (λ (state : State). arrives_in state cx u ip header bytes) at
      ∙ (if_not (is_rst header.control) (reset_arrives cx u ip header (length bytes))
      (if challenges_first w.tcb header cx.instant then drawn cx u ip header else checked (acknowledgement_check w.tcb header.ack_number) cx u ip header bytes)
      no_reset
      ∙ (if_not (challenges_first w.tcb header cx.instant) (drawn cx u ip header) (checked (acknowledgement_check w.tcb header.ack_number) cx u ip header bytes)
      (neither (is_stale w.tcb header cx.instant) (is_syn header.control) (not (is_answering w.tcb.state)) initial no_syn)
      ∙ (ap (λ (check : Check). checked check cx u ip header bytes) passes
      ∙ (if_so (is_in_window w.tcb (free_in w) header (length bytes)) (inside cx u ip header bytes 1)
      (passed_outside cx u ip header (length bytes) 1) there
      ∙ if_not (is_syn header.control) (drawn cx u ip header) (taken cx u ip header bytes 1) no_syn)))))

  abbrev heard_of : TcpValue
  heard_of = tsecr_heard u header 1 cx.instant

  opened : state_after_ack heard_of.tcb 1 (queued_in heard_of) ≡ In.Established
  opened =
      ap (λ (state : State). if owes_fin state && (1 == unacked heard_of.tcb (queued_in heard_of)) then after_ack_of_fin state else after_ack state) at

  abbrev SpeaksNow : Arrived → Type 0
  SpeaksNow a = Speaks w header (length bytes) a

  -- what it tells of the window and of ranges
  abbrev told_by : TcpValue → ℕ → Tcb → Tcb
  told_by x duplicates b =
      timeout_restarted (nxt_past_held (counted (ranges_taken (tsval_taken b header cx.instant) header cx.instant) duplicates cx.instant) (queued_in x)) cx.instant
      (queued_in x)

  -- what it finds once its acknowledgement is taken
  record Finds (x : TcpValue) (b : Tcb) : Type 0 where
    state : b.state ≡ In.Established
    una : b.sender.una ≡ advanced_by w.tcb.sender.una 1
    syn_unacked : b.sender.syn_unacked ≡ false
    next : b.receiver.next ≡ w.tcb.receiver.next
    received : x.received ≡ w.received

  speaks_by : (x : TcpValue) (b : Tcb) (duplicates : ℕ) → Finds x b → SpeaksNow (with_content cx (with_tcb x (told_by x duplicates b)) ip header bytes)
  speaks_by x b duplicates f = record {
    state =
        content_state cx ip header (λ (state : State). is_synchronized state ≡ true) y bytes (ap is_synchronized f.state)
        (ap (λ (state : State). is_synchronized (after_fin state)) f.state);
    una = ap (λ (s : Sender). s.una) kept ∙ f.una;
    syn_unacked = ap (λ (s : Sender). s.syn_unacked) kept ∙ f.syn_unacked;
    by = r.by;
    next = r.next ∙ ap (λ (n : SeqNumber). advanced_by n r.by) f.next;
    some = r.some;
    all =
        subst (λ (it : Received). min (length bytes) (length it.map) ≤ r.by) f.received
        (all_new (length bytes) (distance_of header.seq_number b.receiver.next) (free_in x) r.by far r.all);
  }
    where
      y : TcpValue
      y = with_tcb x (told_by x duplicates b)

      kept : (with_content cx y ip header bytes).socket.tcb.sender ≡ y.tcb.sender
      kept = content_keeps cx ip header y bytes

      far : distance_of header.seq_number b.receiver.next ≡ 0
      far = ap (distance_of header.seq_number) f.next ∙ none

      r : Rises cx y header (length bytes) (with_content cx y ip header bytes)
      r =
          content_rises cx ip header bytes y
          (record {
            takes = ap accepts_data f.state;
            room = subst (λ (it : Received). 1 ≤ length it.map) (sym f.received) room;
            begins = none_before (distance_of header.seq_number b.receiver.next) far;
            ends = starts_within (distance_of header.seq_number b.receiver.next) (segment_len header (length bytes)) far some;
            seq_small = seq_small;
            next_small = subst (λ (n : SeqNumber). n.0 < 2 ^ 32) (sym f.next) small;
          })
          no_syn

  pub speaks : SpeaksNow (arrives cx w ip header bytes)
  speaks =
      subst SpeaksNow (sym path)
      (acked_cases heard_of 1 cx.instant (λ (x : TcpValue). SpeaksNow (continued cx u.tcb x ip header bytes 1))
      (λ closed. clash (sym closed ∙ ap is_closed opened))
      (λ alive.
      let x = acked_open heard_of 1 cx.instant in
      let duplicates = duplicates_after u.tcb header (length bytes) 1 in
      subst SpeaksNow
      (sym (if_not (is_closed x.tcb.state) (dropped x) (with_content cx (told x header duplicates cx.instant) ip header bytes) alive))
      (cond_both (names_window x.tcb header) (windowed x.tcb header) x.tcb
      (λ (b : Tcb). SpeaksNow (with_content cx (with_tcb x (told_by x duplicates b)) ip header bytes))
      (λ _.
      speaks_by x (windowed x.tcb header) duplicates
      (record { state = opened; una = refl; syn_unacked = and_false w.tcb.sender.syn_unacked; next = refl; received = refl }))
      (λ _.
      speaks_by x x.tcb duplicates
      (record { state = opened; una = refl; syn_unacked = and_false w.tcb.sender.syn_unacked; next = refl; received = refl })))))
