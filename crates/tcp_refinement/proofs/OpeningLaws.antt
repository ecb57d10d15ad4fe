-- A segment comes in LISTEN or SYN-SENT, and a reset comes later.
use Rattle.std.proofs.Common.{◌≡◌, ◌⊎◌, inl, inr, ℕ, suc, ◌+◌, ◌-◌, ◌%◌, ◌^◌, ◌<◌, not, ◌==◌, ◌&&◌, min, ℤ, Bool, true, false, if◌then◌else◌, List, [], ◌∷◌}
use Rattle.std.proofs.Common.{◌++◌, Option, Some, None, is_some, length, drop, refl, sym, ap, ◌∙◌, subst, arith}
use Rattle.std.proofs.lemmas.Bool.{and_parts, and_cases, cond_both, not-true, not-false, eqb-true}
use Rattle.ip_wire.specs.IpRepr.{IpRepr}
use Rattle.ip_wire.specs.Seq.{distance_of}
use Rattle.ip_wire.specs.SeqNumber.{SeqNumber}
use Rattle.ip_wire.specs.TcpControl.{TcpControl}
use Rattle.ip_wire.specs.TcpControl.TheVariants as Bits
use Rattle.ip_wire.specs.TcpHeader.{TcpHeader}
use Rattle.socket_context.specs.Context.{ContextValue}
use Rattle.tcp_theory.specs.Invariant.{HoldsBetween}
use Rattle.tcp_theory.specs.Move.{after, Comes, listening}
use Rattle.tcp_theory.specs.Move.Move.{TakesSyn, TakesSynAck, TakesCrossedSyn, FallsBack}
use Rattle.tcp_theory.specs.Numbers.{wire}
use Rattle.tcp_theory.specs.ReceiveMap.{space, front}
use Rattle.tcp_theory.specs.Segment.{Segment, IsNoReset}
use Rattle.tcp_theory.specs.Segment.Control.{Syn}
use Rattle.tcp_theory.specs.Side.{Side, Opening, one_if, taken_in}
use Rattle.tcp_theory.specs.Side.Phase.{Listen, SynSent, SynReceived}
use Rattle.tcp_theory.specs.Side.Opening.{NotYet, Passive, Active}
use Rattle.tcp_theory.proofs.Calls as law
use Rattle.tcp_theory.proofs.Lists as lists
use Rattle.tcp_theory.proofs.Opening.{honest, acked}
use Rattle.tcp_block.specs.declared.tcb.Tcb.{Tcb}
use Rattle.tcp_block.specs.FourTuple.{FourTuple}
use Rattle.tcp_block.specs.State.{State}
use Rattle.tcp_block.specs.State.TheVariants as In
use Rattle.tcp_block.specs.Calls as calls
use Rattle.tcp_block.specs.Checks.{falls_back, taken_down}
use Rattle.tcp_block.specs.Controls.{is_syn, is_rst}
use Rattle.tcp_block.specs.Endpoints.{pair_in}
use Rattle.tcp_block.specs.Opening.{opens, is_first_syn, answering, takes_answer, acks_syn, syn_answered, connected, crossed}
use Rattle.tcp_block.specs.Segments.{rst_reply}
use Rattle.tcp_block.specs.States.{is_answering}
use Rattle.tcp_block.specs.Timeout.{timeout_restarted}
use Rattle.tcp_block.specs.Value.{TcpValue, Arrived, with_tcb, dropped, answered_with, ended, queued_in, room_of}
use Rattle.tcp_block.specs.Isn.{isn, draws_number}
use Rattle.tcp_block.specs.Timestamps.{believed}
use Rattle.tcp_block.proofs.Numbers.{number_small}
use Rattle.tcp_refinement.specs.Tie.{Core, Past, past_of, unsent, phase_of, FitsIn, IsConnectedAs, IsListening, IsAsking, core_of, segment_of, control_of, ack_of}
use Rattle.tcp_refinement.proofs.Tied.{Tied, tied_by, fits_connected, is_connected, no_stream}
use Rattle.tcp_refinement.proofs.CallMoves.{front-space, wire_first, blank, listening_core, length-space}
use Rattle.tcp_refinement.proofs.CallLaws.{to_closed}
use Rattle.tcp_refinement.proofs.PayloadMoves.{sends_reset}
use Rattle.tcp_refinement.proofs.PayloadLaws.{Led}

pub syn_control : (c : TcpControl) → is_syn c ≡ true → control_of c ≡ Syn
syn_control Bits.Syn e = refl
syn_control other e = absurd (cc)

-- LISTEN

abbrev pub answering_core : Core → FourTuple → ℕ → ℕ → Core
answering_core c pair number seq =
    record c { state = In.SynReceived; pair = Some pair; una = number; syn_unacked = true; past_iss = 0; snd_max = 0; next = (seq + 1) % 2 ^ 32; took_syn = true }

takes_syn :
    (c : Core) (s t : Side) (x : Segment) (number : ℕ) (pair : FourTuple) → Comes t x → x.control ≡ Syn → x.ack ≡ None → number < 2 ^ 32
    → IsListening c (unsent s) → HoldsBetween s t → Tied (answering_core c pair number x.seq) (past_of s) t
takes_syn c s t x number pair comes syn bare small l holds =
    let passive : s.opening ≡ Passive = ap (λ (x : Side). x.opening) l.side in
    let phase : s.phase ≡ Listen = ap (λ (x : Side). x.phase) l.side in
    let open_yet : s.closed ≡ false = ap (λ (x : Side). x.closed) l.side in
    let unfinished : s.took_fin ≡ false = ap (λ (x : Side). x.took_fin) l.side in
    let unwritten : s.written ≡ [] = ap (λ (x : Side). x.written) l.side in
    let nothing : taken_in s ≡ [] = ap taken_in l.side in
    let size = ap length unwritten in
    let none = ap length nothing in
    let queue = ap length l.blank.queue in
    let no_fin = ap one_if open_yet in
    let no_fin_taken = ap one_if unfinished in
    let k' : IsConnectedAs (answering_core c pair number x.seq) (unsent (after s (TakesSyn x (2 ^ 32 + number)))) = record {
      once = λ e. absurd (let clash : Passive ≡ NotYet = sym passive ∙ e in cc);
      phase = refl;
      closed = open_yet;
      side_finished = unfinished;
      finished = l.blank.unfinished;
      heard = refl;
      una = wire_first number small;
      syn = omega arith;
      opened = inr refl;
      unopened = λ e. refl;
      past_iss = λ e. refl;
      snd_max = omega arith;
      end = omega arith;
      next = omega arith;
      queue = l.blank.queue ∙ sym (ap (λ (bytes : List ℕ). drop (2 ^ 32 + number - suc (2 ^ 32 + number)) bytes) unwritten ∙
          lists.drop-nothing (2 ^ 32 + number - suc (2 ^ 32 + number)));
      waiting = l.blank.waiting ∙ sym (ap (λ (x : Side). x.waiting) l.side);
      map = l.blank.map ∙ sym (ap (λ (x : Side). x.window) l.side);
      gap = ap front l.blank.map ∙ front-space (length c.map);
      listener = λ e. passive;
    } in
    tied_by _ _ s t (TakesSyn x (2 ^ 32 + number)) holds
    (record { listening = phase; comes = comes; syn = syn; bare = bare; first = (omega arith, omega arith) }) refl k'

no_number_of : (ack : Option SeqNumber) → is_some ack ≡ false → ack_of ack ≡ None
no_number_of None e = refl
no_number_of (Some n) e = absurd (cc)

listening_state : (v : TcpValue) (p : Past) (t : Side) → v.tcb.state ≡ In.Listen → (r : Tied (core_of v) p t) → IsListening (core_of v) (unsent r.side)
listening_state v p t e r = subst (λ (state : State). FitsIn state (core_of v) (unsent r.side)) e r.fits

pub led_opens :
    (cx : ContextValue) (v : TcpValue) (ip : IpRepr) (header : TcpHeader) (bytes : List ℕ) (p : Past) (t : Side) → Comes t (segment_of header bytes)
    → v.tcb.state ≡ In.Listen → Tied (core_of v) p t → Led p t (opens cx v ip header)
led_opens cx v ip header bytes p t comes e r =
    cond_both (is_first_syn header)
    (record {
      socket = with_tcb v (timeout_restarted (believed (answering v.tcb ip header (isn cx (pair_in ip header))) cx.instant) cx.instant 0);
      answer = None;
      draws = draws_number cx;
    })
    (dropped v) (λ (a : Arrived). Led p t a)
    (λ first.
    let tests = and_parts (is_syn header.control) (not (is_some header.ack_number)) first in
    subst (λ (p : Past). Tied (answering_core (core_of v) (pair_in ip header) (isn cx (pair_in ip header)) header.seq_number.0) p t) r.past
    (takes_syn (core_of v) r.side t (segment_of header bytes) (isn cx (pair_in ip header)) (pair_in ip header) comes
    (syn_control header.control tests.0)
    (no_number_of header.ack_number (not-true (is_some header.ack_number) tests.1)) (number_small cx (pair_in ip header)) (listening_state v p t e r) r.holds))
    (λ _. r)

-- SYN-SENT

abbrev pub asked_core : Core → State → ℕ → Bool → ℕ → ℕ → ℕ → Core
asked_core c state una syn_unacked past_iss snd_max seq =
    record c { state = state; una = una; syn_unacked = syn_unacked; past_iss = past_iss; snd_max = snd_max; next = (seq + 1) % 2 ^ 32; took_syn = true }

no_listener : {A : Type 0} (port : ℕ) → port ≡ 0 → (port == 0) ≡ false → A
no_listener port e f = absurd (let clash : (port == 0) ≡ true = ap (λ (n : ℕ). n == 0) e in let both : true ≡ false = sym clash ∙ f in cc)

takes_syn_ack :
    (c : Core) (s t : Side) (x : Segment) (n past_iss : ℕ) (syn : Bool) → Comes t x → x.control ≡ Syn → x.ack ≡ Some n →
    (n + (2 ^ 32 - c.una)) % 2 ^ 32 ≡ 1 → syn ≡ false
    → IsAsking c (unsent s) → HoldsBetween s t → Tied (asked_core c In.Established ((c.una + 1) % 2 ^ 32) syn past_iss (c.snd_max - 1) x.seq) (past_of s) t
takes_syn_ack c s t x n past_iss syn comes control number distance no_syn k holds =
    let nothing = no_stream s t SynSent holds k.phase tt in
    let active : s.opening ≡ Active = (law.fits_at s SynSent holds.0.well_formed k.phase).0 in
    let reached = (acked t s x n (subst IsNoReset (sym control) tt) number (honest t s x holds.1 comes)).same in
    let una = k.una in
    let first = k.first in
    let here : n ≡ wire (suc s.iss) = omega arith in
    let size = ap length nothing.0 in
    let none = ap length nothing.1 in
    let queue = ap length k.queue in
    let no_fin = ap one_if nothing.2 in
    let no_fin_taken = ap one_if nothing.3 in
    let acked_syn = ap one_if no_syn in
    let snd_max = k.snd_max in
    let k' : IsConnectedAs (asked_core c In.Established ((c.una + 1) % 2 ^ 32) syn past_iss (c.snd_max - 1) x.seq) (unsent (after s (TakesSynAck x))) = record {
      once = λ e. absurd (let clash : Active ≡ NotYet = sym active ∙ e in cc);
      phase = refl;
      closed = nothing.2;
      side_finished = nothing.3;
      finished = k.unfinished;
      heard = refl;
      una = omega arith;
      syn = omega arith;
      opened = inl no_syn;
      unopened = λ e. absurd (cc);
      past_iss = λ e. absurd (let clash : false ≡ true = sym no_syn ∙ e in cc);
      snd_max = omega arith;
      end = omega arith;
      next = omega arith;
      queue = k.queue ∙ sym (ap (λ (bytes : List ℕ). drop (suc s.iss - suc s.iss) bytes) nothing.0 ∙ lists.drop-nothing (suc s.iss - suc s.iss));
      waiting = k.waiting;
      map = k.map;
      gap = k.gap;
      listener = no_listener c.listen_port k.caller;
    } in
    tied_by _ _ s t (TakesSynAck x) holds
    (record { asking = k.phase; comes = comes; syn = control; acks_syn = number ∙ ap Some here }) refl k'

takes_crossed_syn :
    (c : Core) (s t : Side) (x : Segment) → Comes t x → x.control ≡ Syn → x.ack ≡ None
    → IsAsking c (unsent s) → HoldsBetween s t → Tied (asked_core c In.SynReceived c.una c.syn_unacked c.past_iss c.snd_max x.seq) (past_of s) t
takes_crossed_syn c s t x comes control bare k holds =
    let nothing = no_stream s t SynSent holds k.phase tt in
    let active : s.opening ≡ Active = (law.fits_at s SynSent holds.0.well_formed k.phase).0 in
    let first = k.first in
    let size = ap length nothing.0 in
    let none = ap length nothing.1 in
    let queue = ap length k.queue in
    let no_fin = ap one_if nothing.2 in
    let no_fin_taken = ap one_if nothing.3 in
    let unacked = ap one_if k.syn_unacked in
    let snd_max = k.snd_max in
    let k' : IsConnectedAs (asked_core c In.SynReceived c.una c.syn_unacked c.past_iss c.snd_max x.seq) (unsent (after s (TakesCrossedSyn x))) = record {
      once = λ e. absurd (let clash : Active ≡ NotYet = sym active ∙ e in cc);
      phase = refl;
      closed = nothing.2;
      side_finished = nothing.3;
      finished = k.unfinished;
      heard = refl;
      una = k.una;
      syn = omega arith;
      opened = inr refl;
      unopened = λ e. k.syn_unacked;
      past_iss = λ e. k.past_iss;
      snd_max = omega arith;
      end = omega arith;
      next = omega arith;
      queue = k.queue ∙ sym (ap (λ (bytes : List ℕ). drop (s.una - suc s.iss) bytes) nothing.0 ∙ lists.drop-nothing (s.una - suc s.iss));
      waiting = k.waiting;
      map = k.map;
      gap = k.gap;
      listener = no_listener c.listen_port k.caller;
    } in
    tied_by _ _ s t (TakesCrossedSyn x) holds (record { asking = k.phase; comes = comes; syn = control; bare = bare }) refl k'

asking_state : (v : TcpValue) (p : Past) (t : Side) → v.tcb.state ≡ In.SynSent → (r : Tied (core_of v) p t) → IsAsking (core_of v) (unsent r.side)
asking_state v p t e r = subst (λ (state : State). FitsIn state (core_of v) (unsent r.side)) e r.fits

-- its SYN was answered, and nothing else
led_syn_ack :
    (v : TcpValue) (header : TcpHeader) (bytes : List ℕ) (now : ℤ) (p : Past) (t : Side) (ack : Option SeqNumber) → Comes t (segment_of header bytes)
    → v.tcb.state ≡ In.SynSent → is_syn header.control ≡ true → header.ack_number ≡ ack → is_some ack ≡ true → acks_syn v.tcb.sender.una ack ≡ true
    → Tied (core_of v) p t → Tied (core_of (with_tcb v (connected v.tcb header now))) p t
led_syn_ack v header bytes now p t None comes e syn number some acks r = absurd (cc)
led_syn_ack v header bytes now p t (Some n) comes e syn number some acks r =
    let k = asking_state v p t e r in
    let no_syn = and_zero v.tcb.sender.syn_unacked in
    subst (λ (p : Past). Tied
    (asked_core (core_of v) In.Established ((v.tcb.sender.una.0 + 1) % 2 ^ 32) (v.tcb.sender.syn_unacked && (1 == 0))
    (min (v.tcb.sender.past_iss + 1) 4_294_967_295)
    (v.tcb.sender.snd_max - 1) header.seq_number.0) p t) r.past
    (takes_syn_ack (core_of v) r.side t (segment_of header bytes) n.0 (min (v.tcb.sender.past_iss + 1) 4_294_967_295) (v.tcb.sender.syn_unacked && (1 == 0))
    comes (syn_control header.control syn) (ap ack_of number)
    (eqb-true (distance_of v.tcb.sender.una n) 1 acks) no_syn k r.holds)
  where
    and_zero : (test : Bool) → (test && (1 == 0)) ≡ false
    and_zero true = refl
    and_zero false = refl

led_syn :
    (cx : ContextValue) (v : TcpValue) (header : TcpHeader) (bytes : List ℕ) (p : Past) (t : Side) → Comes t (segment_of header bytes)
    → v.tcb.state ≡ In.SynSent → is_syn header.control ≡ true → (is_some header.ack_number && not (acks_syn v.tcb.sender.una header.ack_number)) ≡ false
    → Tied (core_of v) p t → Tied (core_of (with_tcb v (syn_answered v.tcb header cx.instant))) p t
led_syn cx v header bytes p t comes e syn good r =
    cond_both (is_some header.ack_number) (connected v.tcb header cx.instant) (crossed v.tcb header) (λ (b : Tcb). Tied (core_of (with_tcb v b)) p t)
    (λ some. led_syn_ack v header bytes cx.instant p t header.ack_number comes e syn refl some
    (acknowledges some (and_cases (is_some header.ack_number) (not (acks_syn v.tcb.sender.una header.ack_number)) good)) r)
    (λ none.
    subst (λ (p : Past). Tied
    (asked_core (core_of v) In.SynReceived v.tcb.sender.una.0 v.tcb.sender.syn_unacked v.tcb.sender.past_iss v.tcb.sender.snd_max
    header.seq_number.0) p t) r.past
    (takes_crossed_syn (core_of v) r.side t (segment_of header bytes) comes (syn_control header.control syn) (no_number_of header.ack_number none)
    (asking_state v p t e r) r.holds))
  where
    acknowledges :
        is_some header.ack_number ≡ true → (is_some header.ack_number ≡ false) ⊎ (not (acks_syn v.tcb.sender.una header.ack_number) ≡ false)
        → acks_syn v.tcb.sender.una header.ack_number ≡ true
    acknowledges some (inl none) = absurd (let clash : true ≡ false = sym some ∙ none in cc)
    acknowledges some (inr its) = not-false (acks_syn v.tcb.sender.una header.ack_number) its

-- to CLOSED
tied_ended : (v : TcpValue) (p : Past) (t : Side) → Tied (core_of v) p t → Tied (core_of (ended v)) p t
tied_ended v p t r =
    subst (λ (p : Past). Tied (core_of (ended v)) p t) r.past (to_closed (core_of v) (core_of (ended v)) r.side t refl refl refl refl refl r.fits r.holds)

pub led_reset : (v : TcpValue) (ip : IpRepr) (header : TcpHeader) (size : ℕ) (p : Past) (t : Side) → Tied (core_of v) p t →
    Led p t (answered_with v (rst_reply ip header size))
led_reset v ip header size p t r = sends_reset (core_of v) p t (segment_of (rst_reply ip header size).segment []) refl r

pub led_takes_answer :
    (cx : ContextValue) (v : TcpValue) (ip : IpRepr) (header : TcpHeader) (bytes : List ℕ) (p : Past) (t : Side) → Comes t (segment_of header bytes)
    → v.tcb.state ≡ In.SynSent → Tied (core_of v) p t → Led p t (takes_answer cx v ip header bytes)
led_takes_answer cx v ip header bytes p t comes e r =
    cond_both (is_rst header.control)
    (if acks_syn v.tcb.sender.una header.ack_number then dropped (ended v) else dropped v)
    (if is_some header.ack_number && not (acks_syn v.tcb.sender.una header.ack_number)
    then answered_with v (rst_reply ip header (length bytes))
    else if is_syn header.control
    then dropped (with_tcb v (timeout_restarted (syn_answered v.tcb header cx.instant) cx.instant (queued_in v)))
    else dropped v)
    (λ (a : Arrived). Led p t a)
    (λ _. cond_both (acks_syn v.tcb.sender.una header.ack_number) (dropped (ended v)) (dropped v) (λ (a : Arrived). Led p t a)
    (λ _. tied_ended v p t r) (λ _. r))
    (λ _.
    cond_both (is_some header.ack_number && not (acks_syn v.tcb.sender.una header.ack_number))
    (answered_with v (rst_reply ip header (length bytes)))
    (if is_syn header.control
    then dropped (with_tcb v (timeout_restarted (syn_answered v.tcb header cx.instant) cx.instant (queued_in v)))
    else dropped v)
    (λ (a : Arrived). Led p t a)
    (λ _. led_reset v ip header (length bytes) p t r)
    (λ good.
    cond_both (is_syn header.control) (dropped (with_tcb v (timeout_restarted (syn_answered v.tcb header cx.instant) cx.instant (queued_in v)))) (dropped v)
    (λ (a : Arrived). Led p t a)
    (λ syn. led_syn cx v header bytes p t comes e syn good r)
    (λ _. r)))

-- A RESET, FROM SYN-RECEIVED ON

pub state_phase : (state : State) → is_answering state ≡ true → phase_of state ≡ SynReceived
state_phase In.SynReceived e = refl
state_phase other e = absurd (cc)

no_front : (xs ys : List ℕ) → xs ++ ys ≡ [] → xs ≡ []
no_front [] ys e = refl
no_front (x ∷ xs) ys e = absurd (cc)

falls_back_to :
    (v : TcpValue) (s t : Side) → is_answering v.tcb.state ≡ true → (v.tcb.names.listen.port == 0) ≡ false → IsConnectedAs (core_of v) (unsent s) →
    HoldsBetween s t
    → Tied (listening_core (core_of v) v.tcb.names.listen.port (room_of v.received)) (past_of s) t
falls_back_to v s t answers listens k holds =
    let phase : s.phase ≡ SynReceived = k.phase ∙ state_phase v.tcb.state answers in
    let passive : s.opening ≡ Passive = k.listener listens in
    let nothing = no_stream s t SynReceived holds phase tt in
    let no_written : s.written ≡ [] = nothing.0 in
    let no_read : s.read ≡ [] = no_front s.read s.waiting nothing.1 in
    let open_yet : s.closed ≡ false = nothing.2 in
    let waits = ap length k.waiting in
    let maps = ap length k.map in
    let sized = length-space (room_of v.received) in
    let room : length s.waiting + length s.window ≡ length (space (room_of v.received)) = omega arith in
    let l : IsListening (listening_core (core_of v) v.tcb.names.listen.port (room_of v.received)) (unsent (after s FallsBack)) = record {
      side = ap (λ (n : ℕ). record (listening n) { irs = s.irs }) room;
      blank = blank (core_of v) v.tcb.names.listen.port (room_of v.received);
      unnamed = refl;
    } in
    let same : past_of (after s FallsBack) ≡ past_of s =
    ap (λ (o : Opening). record { opening = o; written = []; read = []; closed = false; sent = s.sent }) (sym passive)
    ∙ (ap (λ (w : List ℕ). record { opening = s.opening; written = w; read = []; closed = false; sent = s.sent }) (sym no_written)
    ∙ (ap (λ (w : List ℕ). record { opening = s.opening; written = s.written; read = w; closed = false; sent = s.sent }) (sym no_read)
    ∙ ap (λ (b : Bool). record { opening = s.opening; written = s.written; read = s.read; closed = b; sent = s.sent }) (sym open_yet))) in
    tied_by _ (past_of s) s t FallsBack holds (phase, passive) same l

answering_connected : (state : State) → is_answering state ≡ true → is_connected state ≡ true
answering_connected In.SynReceived e = refl
answering_connected other e = absurd (cc)

-- a listener whose connection isn't there yet listens again
pub tied_back : (v : TcpValue) (p : Past) (t : Side) → falls_back v.tcb ≡ true → Tied (core_of v) p t →
    Tied (core_of (calls.listening v v.tcb.names.listen)) p t
tied_back v p t e r =
    let tests = and_parts (is_answering v.tcb.state) (not (v.tcb.names.listen.port == 0)) e in
    subst (λ (p : Past). Tied (core_of (calls.listening v v.tcb.names.listen)) p t) r.past
    (falls_back_to v r.side t tests.0 (not-true (v.tcb.names.listen.port == 0) tests.1)
    (fits_connected v.tcb.state (core_of v) (unsent r.side) (answering_connected v.tcb.state tests.0) r.fits) r.holds)

pub tied_down : (v : TcpValue) (p : Past) (t : Side) → Tied (core_of v) p t → Tied (core_of (taken_down v)) p t
tied_down v p t r =
    cond_both (falls_back v.tcb) (calls.listening v v.tcb.names.listen) (ended v) (λ (v : TcpValue). Tied (core_of v) p t)
    (λ e. tied_back v p t e r)
    (λ _. tied_ended v p t r)
