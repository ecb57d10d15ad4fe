-- The payload, the FIN and the answer of an accepted segment, in the socket's own words.
use Rattle.std.proofs.Common.{◌≡◌, ℕ, zero, suc, ◌+◌, ◌-◌, ◌%◌, ◌^◌, ◌<◌, ◌≤◌, nat_lt, nat_le, not, ◌==◌, ◌&&◌, ℤ, Bool, true, false, if◌then◌else◌, List, []}
use Rattle.std.proofs.Common.{◌∷◌, ◌++◌, Option, Some, None, length, drop, refl, sym, ap, ◌∙◌, subst, arith, length-drop, append-nil}
use Rattle.std.proofs.lemmas.Bool.{and_parts, cond_both, not-true, eqb-true, eqb-false}
use Rattle.tcp_block.specs.OutOfOrder.{runs_of}
use Rattle.ip_wire.specs.IpRepr.{IpRepr}
use Rattle.ip_wire.specs.TcpControl.{TcpControl}
use Rattle.ip_wire.specs.TcpControl.TheVariants as Bits
use Rattle.ip_wire.specs.TcpHeader.{TcpHeader}
use Rattle.socket_context.specs.Context.{ContextValue}
use Rattle.tcp_theory.specs.Move.{Comes}
use Rattle.tcp_theory.specs.ReceiveMap.{store, front, following}
use Rattle.tcp_theory.specs.Segment.{IsData, IsNoReset}
use Rattle.tcp_theory.specs.Segment.Control.{Fin}
use Rattle.tcp_theory.specs.Side.{Side, rcv_next}
use Rattle.tcp_theory.specs.Side.Phase.{Synchronized}
use Rattle.tcp_theory.proofs.Calls as law
use Rattle.tcp_block.specs.declared.tcb.Tcb.{Tcb}
use Rattle.tcp_block.specs.State.{State}
use Rattle.tcp_block.specs.Answers.{ack_due, acked, answers_at_once, drawn, with_draw, may_challenge, answer_for, sack_blocks}
use Rattle.tcp_block.specs.Arrival.{with_content}
use Rattle.tcp_block.specs.Controls.{is_syn, is_fin, is_rst}
use Rattle.tcp_block.specs.Offsets.{distance_after, distance_before}
use Rattle.tcp_block.specs.Probing.{probe_kept}
use Rattle.tcp_block.specs.States.{accepts_data, after_fin}
use Rattle.tcp_block.specs.Payload.{DataStored, data_stored, laid, out_of_order, taken_in_order, with_bytes_at, has_new_payload, with_payload, is_at_fin, takes_fin, fin_taken}
use Rattle.tcp_block.specs.Payload.{with_fin}
use Rattle.tcp_block.specs.Value.{TcpValue, Arrived, with_tcb, dropped, queued_in, free_in, received_of}
use Rattle.tcp_block.specs.Segments.{no_ranges}
use Rattle.tcp_refinement.specs.Tie.{Core, Past, unsent, core_of, segment_of, control_of}
use Rattle.tcp_refinement.specs.History.{with_answer}
use Rattle.tcp_refinement.proofs.Tied.{Tied, fits_connected, is_connected, takes_in}
use Rattle.tcp_refinement.proofs.PayloadMoves as moves
use Rattle.tcp_refinement.proofs.PayloadMoves.{IsPlaced, placed, seq_small, with_received, sends_ack, sends_reset}

-- what a segment leads to is a side, which sent what answers it
abbrev pub Led : Past → Side → Arrived → Type 0
Led p t a = Tied (core_of a.socket) (with_answer p a.answer) t

-- CONTROLS

pub data_control : (c : TcpControl) → is_rst c ≡ false → is_syn c ≡ false → IsData (control_of c)
data_control Bits.None e f = tt
data_control Bits.Psh e f = tt
data_control Bits.Fin e f = tt
data_control Bits.Syn e f = absurd (cc)
data_control Bits.Rst e f = absurd (cc)

pub no_reset_control : (c : TcpControl) → is_rst c ≡ false → IsNoReset (control_of c)
no_reset_control Bits.None e = tt
no_reset_control Bits.Psh e = tt
no_reset_control Bits.Fin e = tt
no_reset_control Bits.Syn e = tt
no_reset_control Bits.Rst e = absurd (cc)

pub fin_control : (c : TcpControl) → is_fin c ≡ true → control_of c ≡ Fin
fin_control Bits.Fin e = refl
fin_control other e = absurd (cc)

-- ANSWERS

pub led_acked :
    (cx : ContextValue) (v : TcpValue) (ip : IpRepr) (header : TcpHeader) (ranges : List (Option (ℕ × ℕ))) (p : Past) (t : Side) →
    is_connected v.tcb.state ≡ true
    → Tied (core_of v) p t → Led p t (acked cx v ip header ranges)
led_acked cx v ip header ranges p t connected r = sends_ack (core_of v) p t v.tcb.sender.snd_max connected r

pub led_drawn :
    (cx : ContextValue) (v : TcpValue) (ip : IpRepr) (header : TcpHeader) (p : Past) (t : Side) → is_connected v.tcb.state ≡ true
    → Tied (core_of v) p t → Led p t (drawn cx v ip header)
led_drawn cx v ip header p t connected r =
    cond_both (may_challenge cx.instant v.tcb.timers.challenges_from) (acked cx (with_draw v cx.instant) ip header no_ranges) (dropped v) (λ (a : Arrived). Led p t a)
    (λ _. led_acked cx (with_draw v cx.instant) ip header no_ranges p t connected r) (λ _. r)

led_answer :
    (cx : ContextValue) (v : TcpValue) (ip : IpRepr) (header : TcpHeader) (size : ℕ) (fills : Bool) (early : Option ℕ) (p : Past) (t : Side) →
    is_connected v.tcb.state ≡ true
    → Tied (core_of v) p t → Led p t (answer_for cx v ip header size fills early)
led_answer cx v ip header size fills (Some offset) p t connected r = led_acked cx v ip header (sack_blocks v offset) p t connected r
led_answer cx v ip header size fills None p t connected r =
    cond_both (answers_at_once cx v.tcb ip header size) (acked cx v ip header no_ranges)
    (dropped (with_tcb v (ack_due v.tcb header size fills cx.instant))) (λ (a : Arrived). Led p t a)
    (λ _. led_acked cx v ip header no_ranges p t connected r) (λ _. r)

-- TEXT

-- the socket after a segment's payload
pub record IsDataStored (old : Core) (p : Past) (t : Side) (x : DataStored) : Type 0 where
  pub tied : Tied (core_of x.socket) p t
  pub state : x.socket.tcb.state ≡ old.state
  pub syn : x.socket.tcb.sender.syn_unacked ≡ old.syn_unacked
  pub small : old.next < 2 ^ 32
  pub next : x.socket.tcb.receiver.next.0 ≡ (old.next + x.advance) % 2 ^ 32

next_small : (c : Core) (p : Past) (t : Side) → is_connected c.state ≡ true → Tied c p t → c.next < 2 ^ 32
next_small c p t connected r = let k = (fits_connected c.state c (unsent r.side) connected r.fits).next in omega arith

same_next : (n : ℕ) → n < 2 ^ 32 → n ≡ (n + 0) % 2 ^ 32
same_next n small = omega arith

data_stored_none :
    (v : TcpValue) (early : Option ℕ) (p : Past) (t : Side) → is_connected v.tcb.state ≡ true → Tied (core_of v) p t →
    IsDataStored (core_of v) p t (data_stored v 0 false early)
data_stored_none v early p t connected r =
    let small = next_small (core_of v) p t connected r in
    record { tied = r; state = refl; syn = refl; small = small; next = same_next v.tcb.receiver.next.0 small }

front-store : (map : List (Option ℕ)) (offset : ℕ) (bytes : List ℕ) → (offset == 0) ≡ false → front map ≡ [] → front (store map offset bytes) ≡ []
front-store [] offset bytes e gap = refl
front-store (entry ∷ map) zero bytes e gap = absurd (cc)
front-store (None ∷ map) (suc offset) bytes e gap = refl
front-store (Some byte ∷ map) (suc offset) bytes e gap = absurd (cc)

following-gap : (map : List (Option ℕ)) → front map ≡ [] → following map ≡ map
following-gap [] e = refl
following-gap (None ∷ map) e = refl
following-gap (Some byte ∷ map) e = absurd (cc)

module _ (v : TcpValue) (header : TcpHeader) (bytes : List ℕ) (p : Past) (t : Side) (comes : Comes t (segment_of header bytes))
    (kind : IsData (control_of header.control)) (connected : is_connected v.tcb.state ≡ true) (r : Tied (core_of v) p t) where
  abbrev past : ℕ
  past = distance_after v.tcb.receiver.next header.seq_number

  abbrev before : ℕ
  before = distance_before v.tcb.receiver.next header.seq_number

  abbrev map_with : List (Option ℕ)
  map_with = laid v past (drop before bytes)

  some_bytes : has_new_payload v past (drop before bytes) ≡ true → length bytes ≡ 0 → ⊥
  some_bytes e none =
      let both = and_parts (not (length (drop before bytes) == 0)) (nat_lt past (free_in v)) e in
      let some = eqb-false (length (drop before bytes)) 0 (not-true (length (drop before bytes) == 0) both.0) in
      let left = length-drop before bytes in
      some (omega arith)

  -- bytes that are laid there, as a move
  move :
      (next : ℕ) (waiting : List ℕ) (map : List (Option ℕ)) → accepts_data v.tcb.state ≡ true → has_new_payload v past (drop before bytes) ≡ true
      → next ≡ (v.tcb.receiver.next.0 + length (front map_with)) % 2 ^ 32 → waiting ≡ v.received.waiting ++ front map_with → map ≡ following map_with
      → Tied (with_received (core_of v) next waiting map) p t
  move next waiting map takes some is_next is_waiting is_map =
      let k = fits_connected v.tcb.state (core_of v) (unsent r.side) connected r.fits in
      let low : 2 ^ 32 ≤ r.side.irs = law.fits_at r.side Synchronized r.holds.0.well_formed (k.phase ∙ (takes_in v.tcb.state takes).phase) in
      let small = seq_small r.side t (segment_of header bytes) r.holds comes kind (some_bytes some) in
      let offset : IsPlaced (rcv_next r.side) header.seq_number.0 past before =
      placed (rcv_next r.side) v.tcb.receiver.next.0 header.seq_number.0 ((header.seq_number.0 + (2 ^ 32 - v.tcb.receiver.next.0)) % 2 ^ 32) (omega arith)
      k.next small refl in
      subst (λ (p : Past). Tied (with_received (core_of v) next waiting map) p t) r.past
      (moves.takes_bytes (core_of v) r.side t (segment_of header bytes) past before next waiting map_with map comes kind takes offset refl is_next is_waiting
      is_map r.fits r.holds)

  in_order : accepts_data v.tcb.state ≡ true → has_new_payload v past (drop before bytes) ≡ true → IsDataStored (core_of v) p t (taken_in_order v map_with)
  in_order takes some = record {
    tied = move _ _ _ takes some refl refl refl;
    state = refl;
    syn = refl;
    small = next_small (core_of v) p t connected r;
    next = refl;
  }

  early : accepts_data v.tcb.state ≡ true → has_new_payload v past (drop before bytes) ≡ true → (past == 0) ≡ false →
      IsDataStored (core_of v) p t (out_of_order v past map_with)
  early takes some e =
      let k = fits_connected v.tcb.state (core_of v) (unsent r.side) connected r.fits in
      let gap = front-store v.received.map past (drop before bytes) e k.gap in
      let small = next_small (core_of v) p t connected r in
      let still : v.tcb.receiver.next.0 ≡ (v.tcb.receiver.next.0 + length (front map_with)) % 2 ^ 32 =
      same_next v.tcb.receiver.next.0 small ∙ ap (λ (n : ℕ). (v.tcb.receiver.next.0 + n) % 2 ^ 32) (sym (ap length gap)) in
      let held : Tied (with_received (core_of v) v.tcb.receiver.next.0 v.received.waiting map_with) p t =
      move v.tcb.receiver.next.0 v.received.waiting map_with takes some still
      (sym (append-nil v.received.waiting) ∙ ap (λ (more : List ℕ). v.received.waiting ++ more) (sym gap)) (sym (following-gap map_with gap)) in
      cond_both (nat_le (length (runs_of map_with)) 32)
      (data_stored (record v { received = received_of v.received.waiting map_with v.received.start }) 0 false (Some past))
      (data_stored v 0 false None)
      (λ (x : DataStored). IsDataStored (core_of v) p t x)
      (λ _. record { tied = held; state = refl; syn = refl; small = small; next = same_next v.tcb.receiver.next.0 small })
      (λ _. data_stored_none v None p t connected r)

  pub texts : IsDataStored (core_of v) p t (with_payload v header bytes)
  texts =
      cond_both (accepts_data v.tcb.state && has_new_payload v past (drop before bytes)) (with_bytes_at v past (drop before bytes)) (data_stored v 0 false None)
      (λ (x : DataStored). IsDataStored (core_of v) p t x)
      (λ both.
      let tests = and_parts (accepts_data v.tcb.state) (has_new_payload v past (drop before bytes)) both in
      cond_both (past == 0) (taken_in_order v map_with) (out_of_order v past map_with) (λ (x : DataStored). IsDataStored (core_of v) p t x)
      (λ _. in_order tests.0 tests.1)
      (λ e. early tests.0 tests.1 e))
      (λ _. data_stored_none v None p t connected r)

-- THE FIN

fin_offset :
    (seq next a size advance : ℕ) → next < 2 ^ 32 → a ≡ (seq + (2 ^ 32 - next)) % 2 ^ 32 → (if nat_lt a (2 ^ 31) then a else 0) ≡ 0
    → (if nat_lt a (2 ^ 31) then 0 else 2 ^ 32 - a) + advance ≡ size → (seq + size) % 2 ^ 32 ≡ (next + advance) % 2 ^ 32
fin_offset seq next a size advance small d = by (nat_lt a (2 ^ 31)) where
  by : (test : Bool) → (if test then a else 0) ≡ 0 → (if test then 0 else 2 ^ 32 - a) + advance ≡ size → (seq + size) % 2 ^ 32 ≡ (next + advance) % 2 ^ 32
  by true at whole = omega arith
  by false at whole = omega arith

after_fin_connected : (state : State) → accepts_data state ≡ true → is_connected (after_fin state) ≡ true
after_fin_connected state e = (moves.finishes_in state e).connected

-- a socket with this block, which is connected
abbrev IsBlocked : TcpValue → Past → Side → Tcb → Type 0
IsBlocked v p t b = Tied (core_of (with_tcb v b)) p t × (is_connected b.state ≡ true)

-- `old` is the block before the payload
pub fins :
    (old : TcpValue) (x : DataStored) (header : TcpHeader) (bytes : List ℕ) (now : ℤ) (p : Past) (t : Side) → Comes t (segment_of header bytes)
    → is_connected old.tcb.state ≡ true → old.tcb.sender.syn_unacked ≡ false → IsDataStored (core_of old) p t x
    → IsBlocked x.socket p t (with_fin x.socket.tcb old.tcb header (length bytes) x.advance now)
fins old x header bytes now p t comes connected acked data_stored =
    cond_both (takes_fin old.tcb header (length bytes) x.advance) (fin_taken x.socket.tcb now) x.socket.tcb (λ (b : Tcb). IsBlocked x.socket p t b)
    (λ e.
    let tests = and_parts (is_fin header.control) (accepts_data old.tcb.state && is_at_fin old.tcb header (length bytes) x.advance) e in
    let more = and_parts (accepts_data old.tcb.state) (is_at_fin old.tcb header (length bytes) x.advance) tests.1 in
    let positions =
    and_parts (distance_after old.tcb.receiver.next header.seq_number == 0) (distance_before old.tcb.receiver.next header.seq_number +
    x.advance == length bytes) more.1 in
    let takes : accepts_data x.socket.tcb.state ≡ true = ap accepts_data data_stored.state ∙ more.0 in
    let r = data_stored.tied in
    let offset : (header.seq_number.0 + length bytes) % 2 ^ 32 ≡ x.socket.tcb.receiver.next.0 =
    fin_offset header.seq_number.0 old.tcb.receiver.next.0 ((header.seq_number.0 + (2 ^ 32 - old.tcb.receiver.next.0)) % 2 ^ 32) (length bytes) x.advance
    data_stored.small refl (eqb-true (distance_after old.tcb.receiver.next header.seq_number) 0 positions.0)
    (eqb-true (distance_before old.tcb.receiver.next header.seq_number + x.advance) (length bytes) positions.1) ∙ sym data_stored.next in (
      subst (λ (p : Past). Tied (core_of (with_tcb x.socket (fin_taken x.socket.tcb now))) p t) r.past
          (moves.takes_fin (core_of x.socket) r.side t (segment_of header bytes) comes (fin_control header.control tests.0) takes (data_stored.syn ∙
          acked) offset r.fits r.holds),
      after_fin_connected x.socket.tcb.state takes,
    ))
    (λ _. (data_stored.tied, ap is_connected data_stored.state ∙ connected))

-- payload, FIN and answer
pub led_content :
    (cx : ContextValue) (v : TcpValue) (ip : IpRepr) (header : TcpHeader) (bytes : List ℕ) (p : Past) (t : Side) → Comes t (segment_of header bytes)
    → IsData (control_of header.control) → is_connected v.tcb.state ≡ true → v.tcb.sender.syn_unacked ≡ false → Tied (core_of v) p t
    → Led p t (with_content cx v ip header bytes)
led_content cx v ip header bytes p t comes kind connected acked r =
    let done = fins v (with_payload v header bytes) header bytes cx.instant p t comes connected acked (texts v header bytes p t comes kind connected r) in
    led_answer cx
    (with_tcb (with_payload v header bytes).socket
    (probe_kept (with_fin (with_payload v header bytes).socket.tcb v.tcb header (length bytes) (with_payload v header bytes).advance cx.instant)
    (queued_in (with_payload v header bytes).socket)))
    ip header (length bytes) (with_payload v header bytes).fills (with_payload v header bytes).early p t done.1 done.0
