-- An acknowledgement that comes raises SND.UNA to its number, and leaves nothing unanswered.
use Rattle.std.proofs.Common.{◌≡◌, inl, inr, ℕ, ◌+◌, ◌-◌, ◌%◌, ◌^◌, ◌<◌, ◌≤◌, ◌==◌, ◌&&◌, ◌||◌, nat_le, nat_lt, not, ℤ, Bool, true, false, if◌then◌else◌, List}
use Rattle.std.proofs.Common.{length, drop, Option, Some, None, is_some, refl, sym, ap, ◌∙◌, subst, arith}
use Rattle.std.proofs.lemmas.Bool.{cond_both, le-ltb, lt-ltb, lt-leb}
use Rattle.ip_wire.specs.IpRepr.{IpRepr}
use Rattle.ip_wire.specs.Seq.{distance_of}
use Rattle.ip_wire.specs.SeqNumber.{SeqNumber}
use Rattle.ip_wire.specs.TcpHeader.{TcpHeader}
use Rattle.tcp_refinement.specs.Context.{ContextValue}
use Rattle.tcp_invariants.specs.Controls.{is_syn, is_rst, is_zero}
use Rattle.tcp_invariants.specs.Offsets.{distance_after, distance_before, advanced_by}
use Rattle.tcp_invariants.specs.States.{is_closed, is_answering, accepts_data}
use Rattle.tcp_invariants.specs.State.{State}
use Rattle.tcp_invariants.specs.State.TheVariants as In
use Rattle.tcp_block.specs.Acknowledged.{acknowledged, names_window, windowed, duplicates_after}
use Rattle.tcp_block.specs.Answers.{ack_due, answers_at_once, drawn, may_challenge, with_draw, acked, answer_for}
use Rattle.tcp_block.specs.Arrival.{arrives, arrives_in, is_void_syn, received, reset_arrives, challenges_syn, checked, inside, taken, told, with_content}
use Rattle.tcp_block.specs.Arrival.{passed_outside, outside, is_before_window, waiting_anew}
use Rattle.tcp_block.specs.Checks.{Check, acknowledgement_check, opening_check, synchronized_check, is_in_window, lies_before}
use Rattle.tcp_block.specs.Checks.Check.{Passes, Drops, Draws}
use Rattle.tcp_block.specs.Probing.{probe_kept}
use Rattle.tcp_block.specs.Payload.{DataStored, data_stored, with_payload, with_bytes_at, taken_in_order, out_of_order, laid, has_new_payload, with_fin, takes_fin, fin_taken}
use Rattle.tcp_invariants.specs.OutOfOrder.{runs_of}
use Rattle.tcp_block.specs.Value.{TcpValue, Arrived, with_tcb, dropped, unoffered, queued_in, free_in, room_of, received_of}
use Rattle.tcp_block.specs.declared.tcb.Tcb.{Tcb}
use Rattle.tcp_block.specs.declared.tcb.Sender.{Sender}
use Rattle.tcp_block.specs.Segments.{no_ranges, has_length}
use Rattle.tcp_refinement.proofs.Tied.{if_so, if_not}
use Rattle.tcp_invariants.proofs.ArrivalCases.{acked_cases}
use Rattle.tcp_invariants.proofs.OrderSteps.{clash}
use Rattle.tcp_invariants.specs.Events.{is_past}
use Rattle.tcp_liveness.specs.Arrivals.{is_synchronized, Counts, IsNearWindow}
use Rattle.tcp_block.specs.Timestamps.{is_recent_valid, arrives_older}
use Rattle.tcp_block.specs.Arrival.{challenges_first, tsecr_heard}

-- WHICH CHECK IT PASSES

parts : (a b : Bool) → (a && b) ≡ true → (a ≡ true) × (b ≡ true)
parts true b e = (refl, e)
parts false b e = clash (sym e)

not_so : (a : Bool) → not a ≡ true → a ≡ false
not_so true e = clash (sym e)
not_so false e = refl

and_not : (a b : Bool) → a ≡ false → (a && b) ≡ false
and_not a b e = ap (λ (t : Bool). t && b) e

pub half : (by snd_max : ℕ) → by ≤ snd_max → snd_max < 2 ^ 31 → by < 2 ^ 31
half by snd_max e f = omega arith

none_left : (n : ℕ) → 1 ≤ n → 0 < n
none_left n e = omega arith

pub not_answering : (state : State) → is_synchronized state ≡ true → is_answering state ≡ false
not_answering state e = not_so (is_answering state) (parts (is_past state) (not (is_answering state)) e).1

module _ (b : Tcb) (header : TcpHeader) (number : SeqNumber) (c : Counts b header number) where
  abbrev by : ℕ
  by = distance_of b.sender.una number

  close : nat_lt by (2 ^ 31) ≡ true
  close = lt-ltb by (2 ^ 31) (half by b.sender.snd_max c.sent c.few)

  is_past_by : distance_after b.sender.una number ≡ by
  is_past_by = ap (λ (t : Bool). if t then by else 0) close

  is_before_by : distance_before b.sender.una number ≡ 0
  is_before_by = ap (λ (t : Bool). if t then 0 else 2 ^ 32 - by) close

  on : synchronized_check b by 0 ≡ Passes by
  on =
      if_not (nat_lt b.sender.snd_max by) Draws (if (by == 0) && nat_le b.sender.past_iss 0 then Drops else Passes by) (le-ltb b.sender.snd_max by c.sent)
      ∙ if_not ((by == 0) && nat_le b.sender.past_iss 0) Drops (Passes by)
      (second (by == 0) (nat_le b.sender.past_iss 0) (lt-leb b.sender.past_iss 0 (none_left b.sender.past_iss c.opened)))
    where
      second : (x y : Bool) → y ≡ false → (x && y) ≡ false
      second true y e = e
      second false y e = refl

  pub passes : acknowledgement_check b header.ack_number ≡ Passes by
  passes =
      ap (acknowledgement_check b) c.acknowledges
      ∙ (if_not (is_answering b.state) (opening_check by) (synchronized_check b (distance_after b.sender.una number) (distance_before b.sender.una number))
      (not_answering b.state c.synchronized)
      ∙ (ap (λ (past : ℕ). synchronized_check b past (distance_before b.sender.una number)) is_past_by ∙ (ap (synchronized_check b by) is_before_by ∙ on)))

-- past SYN-RECEIVED, what is neither a SYN nor a reset is checked by its acknowledgement
reaches : (state : State) (cx : ContextValue) (u : TcpValue) (ip : IpRepr) (header : TcpHeader) (bytes : List ℕ) → is_past state ≡ true
    → arrives_in state cx u ip header bytes ≡ received cx u ip header bytes
reaches In.Closed cx u ip header bytes e = clash (sym e)
reaches In.Listen cx u ip header bytes e = clash (sym e)
reaches In.SynSent cx u ip header bytes e = clash (sym e)
reaches other cx u ip header bytes e = refl

-- its timestamp isn't older, and it is no SYN
accepted :
    (has some believed older syn : Bool) → (has && older) ≡ false → syn ≡ false → (((has && some) && (believed && older)) || syn) ≡ false
accepted true true true older syn e f = ap (λ (t : Bool). t || syn) e ∙ f
accepted true true false older syn e f = f
accepted true false believed older syn e f = f
accepted false some believed older syn e f = f

pub comes_to :
    (cx : ContextValue) (v : TcpValue) (ip : IpRepr) (header : TcpHeader) (bytes : List ℕ) (number : SeqNumber) → Counts v.tcb header number
    → arrives cx v ip header bytes ≡ checked (Passes (distance_of v.tcb.sender.una number)) cx (unoffered v) ip header bytes
comes_to cx v ip header bytes number c =
    if_not (is_void_syn header) (dropped (unoffered v)) (arrives_in v.tcb.state cx (unoffered v) ip header bytes)
    (and_not (is_syn header.control) (is_zero header.options.max_seg_size) c.no_syn)
    ∙ (reaches v.tcb.state cx (unoffered v) ip header bytes (parts (is_past v.tcb.state) (not (is_answering v.tcb.state)) c.synchronized).0
    ∙ (if_not (is_rst header.control) (reset_arrives cx (unoffered v) ip header (length bytes))
    (if challenges_first v.tcb header cx.instant then drawn cx (unoffered v) ip header
    else checked (acknowledgement_check v.tcb header.ack_number) cx (unoffered v) ip
    header bytes) c.no_reset
    ∙ (if_not (challenges_first v.tcb header cx.instant) (drawn cx (unoffered v) ip header)
    (checked (acknowledgement_check v.tcb header.ack_number) cx (unoffered v) ip header bytes)
    (accepted v.tcb.peer.timestamps (is_some v.tcb.stamps.generator) (is_recent_valid v.tcb cx.instant)
    (arrives_older header.options.timestamp v.tcb.peer.recent)
    (challenges_syn v.tcb header) c.initial
    (and_not (is_syn header.control) (not (is_answering v.tcb.state)) c.no_syn))
    ∙ ap (λ (check : Check). checked check cx (unoffered v) ip header bytes) (passes v.tcb header number c))))

-- WHAT KEEPS SND.UNA

-- SND.UNA is this number, and neither a timeout nor a question is unanswered
record IsTold (number : SeqNumber) (s : Sender) : Type 0 where
  una : s.una ≡ number
  timeouts : s.timeouts ≡ 0
  unanswered : s.unanswered ≡ 0

module _ (cx : ContextValue) (ip : IpRepr) (header : TcpHeader) where
  answer_keeps : (v : TcpValue) (size : ℕ) (fills : Bool) (early : Option ℕ) → (answer_for cx v ip header size fills early).socket.tcb.sender ≡ v.tcb.sender
  answer_keeps v size fills None =
      cond_both (answers_at_once cx v.tcb ip header size) (acked cx v ip header no_ranges)
      (dropped (with_tcb v (ack_due v.tcb header size fills cx.instant))) (λ (a : Arrived). a.socket.tcb.sender ≡ v.tcb.sender)
      (λ _. refl) (λ _. refl)
  answer_keeps v size fills (Some offset) = refl

  fin_keeps : (b old : Tcb) (size advance : ℕ) (now : ℤ) → (with_fin b old header size advance now).sender ≡ b.sender
  fin_keeps b old size advance now =
      cond_both (takes_fin old header size advance) (fin_taken b now) b (λ (new : Tcb). new.sender ≡ b.sender) (λ _. refl) (λ _. refl)

  abbrev Same : TcpValue → DataStored → Type 0
  Same v t = t.socket.tcb.sender ≡ v.tcb.sender

  payload_keeps : (v : TcpValue) (bytes : List ℕ) → (with_payload v header bytes).socket.tcb.sender ≡ v.tcb.sender
  payload_keeps v bytes =
      cond_both (accepts_data v.tcb.state && has_new_payload v offset rest) (with_bytes_at v offset rest) (data_stored v 0 false None) (Same v)
      (λ _.
      cond_both (offset == 0) (taken_in_order v map) (out_of_order v offset map) (Same v)
      (λ _. refl)
      (λ _. cond_both (nat_le (length (runs_of map)) 32)
      (data_stored (record v { received = received_of v.received.waiting map v.received.start }) 0 false (Some offset)) (data_stored v 0 false None) (Same v)
      (λ _. refl) (λ _. refl)))
      (λ _. refl)
    where
      offset : ℕ
      offset = distance_after v.tcb.receiver.next header.seq_number

      rest : List ℕ
      rest = drop (distance_before v.tcb.receiver.next header.seq_number) bytes

      map : List (Option ℕ)
      map = laid v offset rest

  pub content_keeps : (v : TcpValue) (bytes : List ℕ) → (with_content cx v ip header bytes).socket.tcb.sender ≡ v.tcb.sender
  content_keeps v bytes =
      let t = with_payload v header bytes in
      answer_keeps (with_tcb t.socket (probe_kept (with_fin t.socket.tcb v.tcb header (length bytes) t.advance cx.instant) (queued_in t.socket)))
      (length bytes) t.fills t.early
      ∙ (fin_keeps t.socket.tcb v.tcb (length bytes) t.advance cx.instant ∙ payload_keeps v bytes)

  told_keeps : (una : SeqNumber) (v : TcpValue) (duplicates : ℕ) (now : ℤ) → IsTold una v.tcb.sender → IsTold una (told v header duplicates now).tcb.sender
  told_keeps una v duplicates now t =
      let it =
      cond_both (names_window v.tcb header) (windowed v.tcb header) v.tcb (λ (b : Tcb). IsTold una b.sender) (λ _. t) (λ _. t) in
      record { una = it.una; timeouts = it.timeouts; unanswered = it.unanswered }

  drawn_keeps : (v : TcpValue) → (drawn cx v ip header).socket.tcb.sender ≡ v.tcb.sender
  drawn_keeps v =
      cond_both (may_challenge cx.instant v.tcb.timers.challenges_from) (acked cx (with_draw v cx.instant) ip header no_ranges) (dropped v)
      (λ (a : Arrived). a.socket.tcb.sender ≡ v.tcb.sender)
      (λ _. refl) (λ _. refl)

-- IT IS TAKEN

moves_una : (u : TcpValue) (by : ℕ) (now : ℤ) → IsTold (advanced_by u.tcb.sender.una by) (acknowledged u by now).tcb.sender
moves_una u by now =
    acked_cases u by now (λ (w : TcpValue). IsTold (advanced_by u.tcb.sender.una by) w.tcb.sender)
    (λ _. record { una = refl; timeouts = refl; unanswered = refl }) (λ _. record { una = refl; timeouts = refl; unanswered = refl })

back_again : (una n : ℕ) → una < 2 ^ 32 → n < 2 ^ 32 → (una + (n + (2 ^ 32 - una)) % 2 ^ 32) % 2 ^ 32 ≡ n
back_again una n e f = omega arith

module _ (cx : ContextValue) (u : TcpValue) (ip : IpRepr) (header : TcpHeader) (bytes : List ℕ) (by : ℕ) where
  abbrev number : SeqNumber
  number = advanced_by u.tcb.sender.una by

  abbrev Moved : Arrived → Type 0
  Moved a = IsTold number a.socket.tcb.sender

  moved_taken : Moved (taken cx u ip header bytes by)
  moved_taken =
      let heard_of = tsecr_heard u header by cx.instant in
      let w = acknowledged heard_of by cx.instant in
      cond_both (is_closed w.tcb.state) (dropped w)
      (with_content cx (told w header (duplicates_after u.tcb header (length bytes) by) cx.instant) ip header bytes) Moved
      (λ _. moves_una heard_of by cx.instant)
      (λ _.
      subst (IsTold number) (sym (content_keeps cx ip header (told w header (duplicates_after u.tcb header (length bytes) by) cx.instant) bytes))
      (told_keeps cx ip header number w (duplicates_after u.tcb header (length bytes) by) cx.instant (moves_una heard_of by cx.instant)))

  moved_outside : (again : Bool) → Moved (outside cx (acknowledged (tsecr_heard u header by cx.instant) by cx.instant) ip header again)
  moved_outside again =
      let heard_of = tsecr_heard u header by cx.instant in
      let w = acknowledged heard_of by cx.instant in
      let x = waiting_anew w header cx.instant in
      cond_both (is_closed w.tcb.state) (dropped w) (if again then acked cx x ip header no_ranges else drawn cx x ip header) Moved
      (λ _. moves_una heard_of by cx.instant)
      (λ _. cond_both again (acked cx x ip header no_ranges) (drawn cx x ip header) Moved (λ _. moves_una heard_of by cx.instant)
      (λ _. subst (IsTold number) (sym (drawn_keeps cx ip header x)) (moves_una heard_of by cx.instant)))

  moved_checked : is_syn header.control ≡ false → is_answering u.tcb.state ≡ false → IsNearWindow u header (length bytes) →
      Moved (checked (Passes by) cx u ip header bytes)
  moved_checked no_syn past there =
      cond_both (is_in_window u.tcb (free_in u) header (length bytes)) (inside cx u ip header bytes by)
      (passed_outside cx u ip header (length bytes) by) Moved
      (λ _. cond_both (is_syn header.control) (drawn cx u ip header) (taken cx u ip header bytes by) Moved (λ syn. clash (sym syn ∙ no_syn)) (λ _. moved_taken))
      (λ out. before out there)
    where
      before : is_in_window u.tcb (free_in u) header (length bytes) ≡ false → IsNearWindow u header (length bytes) →
          Moved (passed_outside cx u ip header (length bytes) by)
      before out (inl in_window) = clash (sym in_window ∙ out)
      before out (inr old) =
          subst Moved
          (sym (if_so (is_before_window u header (length bytes)) (outside cx (acknowledged (tsecr_heard u header by cx.instant) by cx.instant) ip header again)
          (outside cx u ip header false)
          (ap (λ (t : Bool). not t && lies_before u.tcb (room_of u.received) header (length bytes)) past ∙ old)))
          (moved_outside again)
        where
          again : Bool
          again = has_length header (length bytes)

told_of :
    (cx : ContextValue) (v : TcpValue) (ip : IpRepr) (header : TcpHeader) (bytes : List ℕ) (number : SeqNumber) → Counts v.tcb header number
    → IsNearWindow v header (length bytes)
    → IsTold (advanced_by v.tcb.sender.una (distance_of v.tcb.sender.una number)) (arrives cx v ip header bytes).socket.tcb.sender
told_of cx v ip header bytes number c there =
    subst (λ (a : Arrived). IsTold (advanced_by v.tcb.sender.una (distance_of v.tcb.sender.una number)) a.socket.tcb.sender)
    (sym (comes_to cx v ip header bytes number c))
    (moved_checked cx (unoffered v) ip header bytes (distance_of v.tcb.sender.una number) c.no_syn (not_answering v.tcb.state c.synchronized) there)

pub una_rises :
    (cx : ContextValue) (v : TcpValue) (ip : IpRepr) (header : TcpHeader) (bytes : List ℕ) (number : SeqNumber) → Counts v.tcb header number
    → IsNearWindow v header (length bytes) → (arrives cx v ip header bytes).socket.tcb.sender.una.0 ≡ number.0
una_rises cx v ip header bytes number c there =
    ap (λ (s : SeqNumber). s.0) (told_of cx v ip header bytes number c there).una
    ∙ back_again v.tcb.sender.una.0 number.0 c.una_small c.number_small

-- neither a timeout nor a question is unanswered
pub record IsHeard (s : Sender) : Type 0 where
  pub timeouts : s.timeouts ≡ 0
  pub unanswered : s.unanswered ≡ 0

pub none_unanswered :
    (cx : ContextValue) (v : TcpValue) (ip : IpRepr) (header : TcpHeader) (bytes : List ℕ) (number : SeqNumber) → Counts v.tcb header number
    → IsNearWindow v header (length bytes) → IsHeard (arrives cx v ip header bytes).socket.tcb.sender
none_unanswered cx v ip header bytes number c there =
    let it = told_of cx v ip header bytes number c there in record { timeouts = it.timeouts; unanswered = it.unanswered }
