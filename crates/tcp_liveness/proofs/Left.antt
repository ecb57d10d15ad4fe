-- What an acknowledgement without payload leaves unacknowledged: as much less as SND.UNA rises.
use Rattle.std.proofs.Common.{◌≡◌, ℕ, ◌+◌, ◌-◌, ◌<◌, ◌≤◌, ◌==◌, ◌&&◌, min, nat_le, nat_lt, ℤ, Bool, true, false, if◌then◌else◌, List, length, drop}
use Rattle.std.proofs.Common.{Option, Some, None, refl, sym, ap, ◌∙◌, subst, arith, length-drop}
use Rattle.std.proofs.lemmas.Bool.{cond_both, eqb-true, eq-eqb, ltb-true, ltb-false}
use Rattle.net_base.specs.Ring.{Ring, released}
use Rattle.ip_wire.specs.IpRepr.{IpRepr}
use Rattle.ip_wire.specs.Seq.{distance_of}
use Rattle.ip_wire.specs.SeqNumber.{SeqNumber}
use Rattle.ip_wire.specs.TcpHeader.{TcpHeader}
use Rattle.tcp_refinement.specs.Context.{ContextValue}
use Rattle.tcp_invariants.specs.Controls.{is_syn, is_fin}
use Rattle.tcp_invariants.specs.OutOfOrder.{runs_of}
use Rattle.tcp_invariants.specs.Offsets.{distance_after, distance_before}
use Rattle.tcp_invariants.specs.State.{State}
use Rattle.tcp_invariants.specs.State.TheVariants as In
use Rattle.tcp_invariants.specs.States.{is_closed, accepts_data, owes_fin, after_ack, after_ack_of_fin}
use Rattle.tcp_block.specs.Acknowledged.{acks_fin, state_after_ack, freed_by, names_window, windowed, duplicates_after}
use Rattle.tcp_block.specs.Answers.{ack_due, acked, answer_for, answers_at_once, drawn}
use Rattle.tcp_block.specs.Arrival.{arrives, checked, inside, taken, continued, told, with_content, passed_outside}
use Rattle.tcp_block.specs.declared.tcb.Tcb.{Tcb}
use Rattle.tcp_block.specs.TcbRules.{one_if, unacked}
use Rattle.tcp_block.specs.Checks.{is_in_window}
use Rattle.tcp_block.specs.Checks.Check.{Passes}
use Rattle.tcp_block.specs.Probing.{probe_kept}
use Rattle.tcp_block.specs.Payload.{DataStored, data_stored, with_payload, with_bytes_at, taken_in_order, out_of_order}
use Rattle.tcp_block.specs.Payload.{laid, has_new_payload, with_fin, takes_fin, is_at_fin, fin_taken}
use Rattle.tcp_block.specs.Segments.{no_ranges}
use Rattle.tcp_block.specs.Value.{TcpValue, Arrived, with_tcb, dropped, unoffered, queued_in, free_in, received_of}
use Rattle.tcp_refinement.proofs.Tied.{if_so, if_not}
use Rattle.tcp_invariants.proofs.ArrivalCases.{acked_cases, acked_open, acked_last, timed}
use Rattle.tcp_invariants.proofs.OrderSteps.{clash}
use Rattle.tcp_liveness.specs.Arrivals.{Counts}
use Rattle.tcp_liveness.proofs.Acked.{comes_to}

-- WHAT AN ACKNOWLEDGEMENT FREES

owes_still : (state : State) → owes_fin (after_ack state) ≡ owes_fin state
owes_still In.Closed = refl
owes_still In.Listen = refl
owes_still In.SynSent = refl
owes_still In.SynReceived = refl
owes_still In.Established = refl
owes_still In.FinWait1 = refl
owes_still In.FinWait2 = refl
owes_still In.CloseWait = refl
owes_still In.Closing = refl
owes_still In.LastAck = refl
owes_still In.TimeWait = refl

owes_none : (state : State) → owes_fin (after_ack_of_fin state) ≡ false
owes_none In.Closed = refl
owes_none In.Listen = refl
owes_none In.SynSent = refl
owes_none In.SynReceived = refl
owes_none In.Established = refl
owes_none In.FinWait1 = refl
owes_none In.FinWait2 = refl
owes_none In.CloseWait = refl
owes_none In.Closing = refl
owes_none In.LastAck = refl
owes_none In.TimeWait = refl

all_gone :
    (syn queue after owed by : ℕ) → syn ≡ 0 → owed ≡ 0 → by ≡ syn + queue + 1 → after ≡ queue - min (by - syn) queue
    → syn + after + owed + by ≡ syn + queue + 1
all_gone syn queue after owed by a b c d = omega arith

some_gone :
    (syn queue after owed fin by : ℕ) → syn ≡ 0 → owed ≡ fin → by ≤ queue → after ≡ queue - min (by - syn) queue → syn + after + owed + by ≡ syn + queue + fin
some_gone syn queue after owed fin by a b c d = omega arith

less_than_all : (queue by syn fin : ℕ) → syn ≡ 0 → by ≤ syn + queue + fin → fin ≤ 1 → (by ≡ syn + queue + fin → ⊥) → by ≤ queue
less_than_all queue by syn fin a b c d = at (nat_lt queue by) refl where
  whole : (queue by syn fin : ℕ) → syn ≡ 0 → by ≤ syn + queue + fin → fin ≤ 1 → queue < by → by ≡ syn + queue + fin
  whole queue by syn fin a b c more = omega arith

  at : (test : Bool) → nat_lt queue by ≡ test → by ≤ queue
  at true is = absurd (d (whole queue by syn fin a b c (ltb-true queue by is)))
  at false is = ltb-false queue by is

-- by what it acknowledges
pub fell :
    (b : Tcb) (queue after by : ℕ) → b.sender.syn_unacked ≡ false → by ≤ unacked b queue → after ≡ queue - min (by - one_if b.sender.syn_unacked) queue
    → one_if b.sender.syn_unacked + after + one_if (owes_fin (state_after_ack b by queue)) + by ≡ unacked b queue
fell b queue after by syn within freed = at (owes_fin b.state) (by == unacked b queue) refl refl where
  none : one_if b.sender.syn_unacked ≡ 0
  none = ap one_if syn

  at : (owes whole : Bool) → owes_fin b.state ≡ owes → (by == unacked b queue) ≡ whole →
      one_if b.sender.syn_unacked + after + one_if (owes_fin (state_after_ack b by queue)) + by ≡ unacked b queue
  at true true e f =
      let fin : acks_fin b by queue ≡ true = ap (λ (t : Bool). t && (by == unacked b queue)) e ∙ f in
      let owed : owes_fin (state_after_ack b by queue) ≡ false =
      ap (λ (t : Bool). owes_fin (if t then after_ack_of_fin b.state else after_ack b.state)) fin ∙ owes_none b.state in
      let one : one_if (owes_fin b.state) ≡ 1 = ap one_if e in
      all_gone (one_if b.sender.syn_unacked) queue after (one_if (owes_fin (state_after_ack b by queue))) by none (ap one_if owed)
      (eqb-true by (unacked b queue) f ∙ ap (λ (n : ℕ). one_if b.sender.syn_unacked + queue + n) one) freed
      ∙ ap (λ (n : ℕ). one_if b.sender.syn_unacked + queue + n) (sym one)
  at true false e f =
      let fin : acks_fin b by queue ≡ false = ap (λ (t : Bool). t && (by == unacked b queue)) e ∙ f in
      let owed : owes_fin (state_after_ack b by queue) ≡ owes_fin b.state =
      ap (λ (t : Bool). owes_fin (if t then after_ack_of_fin b.state else after_ack b.state)) fin ∙ owes_still b.state in
      some_gone (one_if b.sender.syn_unacked) queue after (one_if (owes_fin (state_after_ack b by queue))) (one_if (owes_fin b.state)) by none
      (ap one_if owed)
      (less_than_all queue by (one_if b.sender.syn_unacked) (one_if (owes_fin b.state)) none within (at_most_one (owes_fin b.state)) (λ is.
      absurd (let clashes : true ≡ false = sym (eq-eqb by (unacked b queue) is) ∙ f in cc)))
      freed
    where
      at_most_one : (t : Bool) → one_if t ≤ 1
      at_most_one true = omega arith
      at_most_one false = omega arith
  at false whole e f =
      let fin : acks_fin b by queue ≡ false = ap (λ (t : Bool). t && (by == unacked b queue)) e in
      let owed : owes_fin (state_after_ack b by queue) ≡ owes_fin b.state =
      ap (λ (t : Bool). owes_fin (if t then after_ack_of_fin b.state else after_ack b.state)) fin ∙ owes_still b.state in
      some_gone (one_if b.sender.syn_unacked) queue after (one_if (owes_fin (state_after_ack b by queue))) (one_if (owes_fin b.state)) by none
      (ap one_if owed) (no_fin by (one_if b.sender.syn_unacked) queue (one_if (owes_fin b.state)) none (ap one_if e) within) freed
    where
      no_fin : (by syn queue fin : ℕ) → syn ≡ 0 → fin ≡ 0 → by ≤ syn + queue + fin → by ≤ queue
      no_fin by syn queue fin a b c = omega arith

-- WHAT KEEPS IT

-- the state, the SYN and the send queue
pub record KeepsLeft (v w : TcpValue) : Type 0 where
  pub state : w.tcb.state ≡ v.tcb.state
  pub syn_unacked : w.tcb.sender.syn_unacked ≡ v.tcb.sender.syn_unacked
  pub queued : w.queued ≡ v.queued

pub left_same : (v w : TcpValue) → KeepsLeft v w → unacked w.tcb (queued_in w) ≡ unacked v.tcb (queued_in v)
left_same v w k =
    ap (λ (t : Bool). one_if t + queued_in w + one_if (owes_fin w.tcb.state)) k.syn_unacked
    ∙ (ap (λ (state : State). one_if v.tcb.sender.syn_unacked + queued_in w + one_if (owes_fin state)) k.state
    ∙ ap (λ (r : Ring ℕ). one_if v.tcb.sender.syn_unacked + length r.queue + one_if (owes_fin v.tcb.state)) k.queued)

then_left : (u v w : TcpValue) → KeepsLeft u v → KeepsLeft v w → KeepsLeft u w
then_left u v w a b =
    record { state = b.state ∙ a.state; syn_unacked = b.syn_unacked ∙ a.syn_unacked; queued = b.queued ∙ a.queued }

module _ (cx : ContextValue) (ip : IpRepr) (header : TcpHeader) where
  answer_left : (v : TcpValue) (size : ℕ) (fills : Bool) (early : Option ℕ) → KeepsLeft v (answer_for cx v ip header size fills early).socket
  answer_left v size fills None =
      cond_both (answers_at_once cx v.tcb ip header size) (acked cx v ip header no_ranges)
      (dropped (with_tcb v (ack_due v.tcb header size fills cx.instant))) (λ (a : Arrived). KeepsLeft v a.socket)
      (λ _. record { state = refl; syn_unacked = refl; queued = refl }) (λ _. record { state = refl; syn_unacked = refl; queued = refl })
  answer_left v size fills (Some offset) = record { state = refl; syn_unacked = refl; queued = refl }

  abbrev Left : TcpValue → DataStored → Type 0
  Left v t = KeepsLeft v t.socket

  payload_left : (v : TcpValue) (bytes : List ℕ) → KeepsLeft v (with_payload v header bytes).socket
  payload_left v bytes =
      cond_both (accepts_data v.tcb.state && has_new_payload v offset rest) (with_bytes_at v offset rest) (data_stored v 0 false None) (Left v)
      (λ _.
      cond_both (offset == 0) (taken_in_order v map) (out_of_order v offset map) (Left v)
      (λ _. plain)
      (λ _. cond_both (nat_le (length (runs_of map)) 32)
      (data_stored (record v { received = received_of v.received.waiting map v.received.start }) 0 false (Some offset)) (data_stored v 0 false None) (Left v)
      (λ _. record { state = refl; syn_unacked = refl; queued = refl }) (λ _. record { state = refl; syn_unacked = refl; queued = refl })))
      (λ _. record { state = refl; syn_unacked = refl; queued = refl })
    where
      offset : ℕ
      offset = distance_after v.tcb.receiver.next header.seq_number

      rest : List ℕ
      rest = drop (distance_before v.tcb.receiver.next header.seq_number) bytes

      map : List (Option ℕ)
      map = laid v offset rest

      plain : KeepsLeft v (taken_in_order v map).socket
      plain = record { state = refl; syn_unacked = refl; queued = refl }

  -- no FIN comes
  fin_left :
      (v : TcpValue) (old : Tcb) (size advance : ℕ) (now : ℤ) → is_fin header.control ≡ false
      → KeepsLeft v (with_tcb v (probe_kept (with_fin v.tcb old header size advance now) (queued_in v)))
  fin_left v old size advance now no_fin =
      cond_both (takes_fin old header size advance) (fin_taken v.tcb now) v.tcb
      (λ (b : Tcb). KeepsLeft v (with_tcb v (probe_kept b (queued_in v))))
      (λ takes. clash (sym takes ∙ ap (λ (t : Bool). t && (accepts_data old.state && is_at_fin old header size advance)) no_fin))
      (λ _. record { state = refl; syn_unacked = refl; queued = refl })

  content_left : (v : TcpValue) (bytes : List ℕ) → is_fin header.control ≡ false → KeepsLeft v (with_content cx v ip header bytes).socket
  content_left v bytes no_fin =
      let t = with_payload v header bytes in
      let w = with_tcb t.socket (probe_kept (with_fin t.socket.tcb v.tcb header (length bytes) t.advance cx.instant) (queued_in t.socket)) in
      then_left v t.socket (answer_for cx w ip header (length bytes) t.fills t.early).socket (payload_left v bytes)
      (then_left t.socket w (answer_for cx w ip header (length bytes) t.fills t.early).socket
      (fin_left t.socket v.tcb (length bytes) t.advance cx.instant no_fin) (answer_left w (length bytes) t.fills t.early))

  told_left : (v : TcpValue) (duplicates : ℕ) → KeepsLeft v (told v header duplicates cx.instant)
  told_left v duplicates = record {
    state = cond_both (names_window v.tcb header) (windowed v.tcb header) v.tcb (λ (b : Tcb). b.state ≡ v.tcb.state) (λ _. refl) (λ _. refl);
    syn_unacked =
        cond_both (names_window v.tcb header) (windowed v.tcb header) v.tcb
        (λ (b : Tcb). b.sender.syn_unacked ≡ v.tcb.sender.syn_unacked) (λ _. refl) (λ _. refl);
    queued = refl;
  }

-- A BARE ACKNOWLEDGEMENT COMES

freed_len : (b : Tcb) (r : Ring ℕ) (by : ℕ) → length (released r (freed_by b by (length r.queue))).queue ≡ length r.queue -
    min (by - one_if b.sender.syn_unacked) (length r.queue)
freed_len b r by = length-drop (freed_by b by (length r.queue)) r.queue

no_syn_more : (syn none : Bool) → syn ≡ false → (syn && none) ≡ syn
no_syn_more syn none e = ap (λ (t : Bool). t && none) e ∙ sym e

module _ (cx : ContextValue) (u : TcpValue) (ip : IpRepr) (header : TcpHeader) (bytes : List ℕ) (by : ℕ) (syn : u.tcb.sender.syn_unacked ≡ false)
    (within : by ≤ unacked u.tcb (queued_in u)) (no_fin : is_fin header.control ≡ false) where
  abbrev Lowered : TcpValue → Type 0
  Lowered v = unacked v.tcb (queued_in v) + by ≡ unacked u.tcb (queued_in u)

  counted_left : (owed after : ℕ) → after ≡ queued_in u - min (by - one_if u.tcb.sender.syn_unacked) (queued_in u)
      → owed ≡ one_if (owes_fin (state_after_ack u.tcb by (queued_in u)))
      → one_if (u.tcb.sender.syn_unacked && (by == 0)) + after + owed + by ≡ unacked u.tcb (queued_in u)
  counted_left owed after freed same =
      ap (λ (t : Bool). one_if t + after + owed + by) (no_syn_more u.tcb.sender.syn_unacked (by == 0) syn)
      ∙ (ap (λ (n : ℕ). one_if u.tcb.sender.syn_unacked + after + n + by) same ∙ fell u.tcb (queued_in u) after by syn within freed)

  closed_owes : (state : State) → is_closed state ≡ true → one_if (owes_fin In.Closed) ≡ one_if (owes_fin state)
  closed_owes In.Closed e = refl
  closed_owes other e = clash (sym e)

  lowered_taken : Lowered (taken cx u ip header bytes by).socket
  lowered_taken =
      acked_cases (timed cx.instant header u by) by cx.instant (λ (w : TcpValue). Lowered (continued cx u.tcb w ip header bytes by).socket)
      (λ closed.
      counted_left (one_if (owes_fin In.Closed)) (length (acked_last (timed cx.instant header u by) by cx.instant).queued.queue)
      (freed_len u.tcb u.queued by)
      (closed_owes (state_after_ack u.tcb by (queued_in u)) closed))
      (λ alive.
      let x = acked_open (timed cx.instant header u by) by cx.instant in
      let y = told x header (duplicates_after u.tcb header (length bytes) by) cx.instant in
      cond_both (is_closed x.tcb.state) (dropped x) (with_content cx y ip header bytes) (λ (a : Arrived). Lowered a.socket)
      (λ closed. clash (sym closed ∙ alive))
      (λ _.
      ap (λ (n : ℕ). n + by)
      (left_same x (with_content cx y ip header bytes).socket
      (then_left x y (with_content cx y ip header bytes).socket (told_left cx ip header x (duplicates_after u.tcb header (length bytes) by))
      (content_left cx ip header y bytes no_fin)))
      ∙ counted_left (one_if (owes_fin (state_after_ack u.tcb by (queued_in u)))) (length x.queued.queue) (freed_len u.tcb u.queued by) refl))

  pub lowered_checked : is_syn header.control ≡ false → is_in_window u.tcb (free_in u) header (length bytes) ≡ true →
      Lowered (checked (Passes by) cx u ip header bytes).socket
  lowered_checked no_syn there =
      subst (λ (a : Arrived). Lowered a.socket)
      (sym (if_so (is_in_window u.tcb (free_in u) header (length bytes)) (inside cx u ip header bytes by)
      (passed_outside cx u ip header (length bytes) by) there
      ∙ if_not (is_syn header.control) (drawn cx u ip header) (taken cx u ip header bytes by) no_syn))
      lowered_taken

pub lowered :
    (cx : ContextValue) (v : TcpValue) (ip : IpRepr) (header : TcpHeader) (bytes : List ℕ) (number : SeqNumber) → Counts v.tcb header number
    → v.tcb.sender.syn_unacked ≡ false → distance_of v.tcb.sender.una number ≤ unacked v.tcb (queued_in v) → is_fin header.control ≡ false
    → is_in_window v.tcb (free_in v) header (length bytes) ≡ true
    → unacked (arrives cx v ip header bytes).socket.tcb (queued_in (arrives cx v ip header bytes).socket) + distance_of v.tcb.sender.una number
    ≡ unacked v.tcb (queued_in v)
lowered cx v ip header bytes number c syn within no_fin there =
    let by = distance_of v.tcb.sender.una number in
    ap (λ (a : Arrived). unacked a.socket.tcb (queued_in a.socket) + by) (comes_to cx v ip header bytes number c)
    ∙ lowered_checked cx (unoffered v) ip header bytes by syn within no_fin c.no_syn there
