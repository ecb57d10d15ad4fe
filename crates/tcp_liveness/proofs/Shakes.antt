-- The segments of a handshake that come: LISTEN takes a SYN, SYN-SENT its answer, and SYN-RECEIVED the acknowledgement of that.
use Rattle.std.proofs.Common.{◌≡◌, ℕ, ◌+◌, ◌-◌, ◌%◌, ◌^◌, ◌<◌, ◌≤◌, ◌==◌, ◌&&◌, ◌||◌, nat_lt, not, ℤ, Bool, true, false, if◌then◌else◌, List, []}
use Rattle.std.proofs.Common.{length, drop, Option, Some, None, is_some, refl, sym, ap, ◌∙◌, subst, arith, length-drop}
use Rattle.std.proofs.lemmas.Bool.{cond_both, eq-eqb}
use Rattle.ip_wire.specs.Control.{control_len}
use Rattle.ip_wire.specs.IpRepr.{IpRepr}
use Rattle.ip_wire.specs.Seq.{distance_of}
use Rattle.ip_wire.specs.SeqNumber.{SeqNumber}
use Rattle.ip_wire.specs.TcpControl.{TcpControl}
use Rattle.ip_wire.specs.TcpControl.TheVariants as Control
use Rattle.ip_wire.specs.TcpHeader.{TcpHeader}
use Rattle.tcp_refinement.specs.Context.{ContextValue}
use Rattle.tcp_invariants.specs.Controls.{is_syn, is_fin, is_rst, is_zero}
use Rattle.tcp_invariants.specs.Endpoints.{pair_in}
use Rattle.tcp_invariants.specs.Offsets.{distance_after, distance_before, advanced_by, overlaps_window}
use Rattle.tcp_invariants.specs.State.{State}
use Rattle.tcp_invariants.specs.State.TheVariants as In
use Rattle.tcp_invariants.specs.States.{is_answering, is_closed, owes_fin, after_ack, after_ack_of_fin, accepts_data}
use Rattle.tcp_block.specs.Opening.{acks_syn, answering, connected, crossed, is_first_syn}
use Rattle.tcp_block.specs.Settled.{nxt_past_held}
use Rattle.tcp_block.specs.Timeout.{timeout_restarted}
use Rattle.tcp_block.specs.Acknowledged.{counted, duplicates_after, names_window, ranges_taken, windowed, state_after_ack}
use Rattle.tcp_block.specs.Answers.{ack_due, acked, answer_for, answers_at_once, arrived_twice, drawn}
use Rattle.tcp_block.specs.Arrival.{arrives, arrives_in, checked, continued, challenges_first, tsecr_heard, finished, inside, is_void_syn, passed_outside}
use Rattle.tcp_block.specs.Arrival.{reset_arrives, taken, told, with_content}
use Rattle.tcp_block.specs.declared.tcb.Tcb.{Tcb}
use Rattle.tcp_block.specs.TcbRules.{unacked}
use Rattle.tcp_block.specs.Checks.{Check, acknowledgement_check, opening_check, synchronized_check, is_in_window}
use Rattle.tcp_block.specs.Checks.Check.{Passes, Resets}
use Rattle.tcp_block.specs.Isn.{isn, draws_number}
use Rattle.tcp_block.specs.Probing.{probe_kept}
use Rattle.tcp_block.specs.Segments.{no_ranges, rst_reply, segment_len}
use Rattle.tcp_block.specs.Payload.{DataStored, data_stored, with_bytes_at, has_new_payload, takes_fin, fin_taken}
use Rattle.tcp_block.specs.Timestamps.{believed, is_stale, tsval_taken}
use Rattle.tcp_block.specs.Value.{TcpValue, Arrived, with_tcb, answered_with, dropped, unoffered, ended, queued_in, free_in, room_of}
use Rattle.tcp_refinement.proofs.Tied.{if_so, if_not}
use Rattle.tcp_invariants.proofs.ArrivalCases.{acked_cases, acked_open}
use Rattle.tcp_invariants.proofs.OrderSteps.{clash}
use Rattle.tcp_liveness.proofs.Taken.{Begins, begins}

and_not : (a b : Bool) → a ≡ false → (a && b) ≡ false
and_not a b e = ap (λ (t : Bool). t && b) e

not_second : (a b : Bool) → b ≡ false → (a && b) ≡ false
not_second true b e = e
not_second false b e = refl

-- LISTEN

pub record Answering (w : TcpValue) (ip : IpRepr) (header : TcpHeader) (a : Arrived) : Type 0 where
  pub state : a.socket.tcb.state ≡ In.SynReceived
  pub named : a.socket.tcb.names.pair ≡ Some (pair_in ip header)
  pub syn_unacked : a.socket.tcb.sender.syn_unacked ≡ true
  pub flight_size : a.socket.tcb.sender.flight_size ≡ 0
  pub snd_max : a.socket.tcb.sender.snd_max ≡ 0
  pub timeouts : a.socket.tcb.sender.timeouts ≡ 0
  pub next : a.socket.tcb.receiver.next ≡ advanced_by header.seq_number 1
  pub took_syn : a.socket.tcb.receiver.took_syn ≡ true
  pub timeout : a.socket.tcb.settings.timeout ≡ w.tcb.settings.timeout
  pub paused : a.socket.tcb.settings.synack_paused ≡ w.tcb.settings.synack_paused
  pub stamps : a.socket.tcb.settings.timestamps ≡ w.tcb.settings.timestamps
  pub retries : a.socket.tcb.settings.opening_retries ≡ w.tcb.settings.opening_retries
  pub limit : a.socket.tcb.settings.retries ≡ w.tcb.settings.retries
  pub agreed : a.socket.tcb.peer.timestamps ≡ is_some header.options.timestamp
  pub room : room_of a.socket.received ≡ room_of w.received

pub listener_takes :
    (cx : ContextValue) (w : TcpValue) (ip : IpRepr) (header : TcpHeader) (bytes : List ℕ) → w.tcb.state ≡ In.Listen → header.control ≡ Control.Syn
    → header.ack_number ≡ None → is_zero header.options.max_seg_size ≡ false → Answering w ip header (arrives cx w ip header bytes)
listener_takes cx w ip header bytes at syn none named =
    subst (Answering w ip header) (sym path)
    (record {
      state = refl;
      named = refl;
      syn_unacked = refl;
      flight_size = refl;
      snd_max = refl;
      timeouts = refl;
      next = refl;
      took_syn = refl;
      timeout = refl;
      paused = refl;
      stamps = refl;
      retries = refl;
      limit = refl;
      agreed = refl;
      room = refl;
    })
  where
    u : TcpValue
    u = unoffered w

    it : Arrived
    it = record {
      socket = with_tcb u (timeout_restarted (believed (answering u.tcb ip header (isn cx (pair_in ip header))) cx.instant) cx.instant 0);
      answer = None;
      draws = draws_number cx;
    }

    first : is_first_syn header ≡ true
    first =
        ap (λ (control : TcpControl). is_syn control && not (is_some header.ack_number)) syn
        ∙ ap (λ (number : Option SeqNumber). not (is_some number)) none

    path : arrives cx w ip header bytes ≡ it
    path =
        if_not (is_void_syn header) (dropped u) (arrives_in w.tcb.state cx u ip header bytes)
        (not_second (is_syn header.control) (is_zero header.options.max_seg_size) named)
        ∙ (ap (λ (state : State). arrives_in state cx u ip header bytes) at ∙ if_so (is_first_syn header) it (dropped u) first)

-- SYN-SENT

pub record Connecting (v : TcpValue) (header : TcpHeader) (now : ℤ) (a : Arrived) : Type 0 where
  pub state : a.socket.tcb.state ≡ In.Established
  pub named : a.socket.tcb.names.pair ≡ v.tcb.names.pair
  pub una : a.socket.tcb.sender.una ≡ advanced_by v.tcb.sender.una 1
  pub syn_unacked : a.socket.tcb.sender.syn_unacked ≡ false
  pub flight_size : a.socket.tcb.sender.flight_size ≡ v.tcb.sender.flight_size - 1
  pub snd_max : a.socket.tcb.sender.snd_max ≡ v.tcb.sender.snd_max - 1
  pub timeouts : a.socket.tcb.sender.timeouts ≡ 0
  pub unanswered : a.socket.tcb.sender.unanswered ≡ 0
  pub timer : v.tcb.sender.flight_size ≤ 1 → a.socket.tcb.timers.retransmit_at ≡ None
  pub next : a.socket.tcb.receiver.next ≡ advanced_by header.seq_number 1
  pub took_syn : a.socket.tcb.receiver.took_syn ≡ true
  pub due : a.socket.tcb.timers.ack_at ≡ Some now
  pub timeout : a.socket.tcb.settings.timeout ≡ v.tcb.settings.timeout
  pub retries : a.socket.tcb.settings.retries ≡ v.tcb.settings.retries
  pub queued : a.socket.queued ≡ v.queued
  pub agreed : a.socket.tcb.peer.timestamps ≡ is_some header.options.timestamp
  pub room : room_of a.socket.received ≡ room_of v.received

pub caller_takes :
    (cx : ContextValue) (v : TcpValue) (ip : IpRepr) (header : TcpHeader) (bytes : List ℕ) (number : SeqNumber) → v.tcb.state ≡ In.SynSent
    → header.control ≡ Control.Syn → header.ack_number ≡ Some number → distance_of v.tcb.sender.una number ≡ 1
    → is_zero header.options.max_seg_size ≡ false → Connecting v header cx.instant (arrives cx v ip header bytes)
caller_takes cx v ip header bytes number at syn acknowledges one named =
    subst (Connecting v header cx.instant) (sym path)
    (record {
      state = refl;
      named = refl;
      una = refl;
      syn_unacked = and_false v.tcb.sender.syn_unacked;
      flight_size = refl;
      snd_max = refl;
      timeouts = refl;
      unanswered = refl;
      timer = λ few. if_so (v.tcb.sender.flight_size - 1 == 0) None _ (eq-eqb (v.tcb.sender.flight_size - 1) 0 (none_left v.tcb.sender.flight_size few));
      next = refl;
      took_syn = refl;
      due = refl;
      timeout = refl;
      retries = refl;
      queued = refl;
      agreed = refl;
      room = refl;
    })
  where
    and_false : (t : Bool) → (t && false) ≡ false
    and_false true = refl
    and_false false = refl

    none_left : (n : ℕ) → n ≤ 1 → n - 1 ≡ 0
    none_left n e = omega arith

    u : TcpValue
    u = unoffered v

    with_it : Tcb → Arrived
    with_it b = dropped (with_tcb u (timeout_restarted (believed b cx.instant) cx.instant (queued_in u)))

    some : is_some header.ack_number ≡ true
    some = ap (λ (n : Option SeqNumber). is_some n) acknowledges

    right : (is_some header.ack_number && not (acks_syn v.tcb.sender.una header.ack_number)) ≡ false
    right =
        ap (λ (n : Option SeqNumber). is_some n && not (acks_syn v.tcb.sender.una n)) acknowledges
        ∙ ap (λ (t : Bool). not t) (eq-eqb (distance_of v.tcb.sender.una number) 1 one)

    path : arrives cx v ip header bytes ≡ with_it (connected u.tcb header cx.instant)
    path =
        if_not (is_void_syn header) (dropped u) (arrives_in v.tcb.state cx u ip header bytes)
        (not_second (is_syn header.control) (is_zero header.options.max_seg_size) named)
        ∙ (ap (λ (state : State). arrives_in state cx u ip header bytes) at
        ∙ (if_not (is_rst header.control) (if acks_syn v.tcb.sender.una header.ack_number then dropped (ended u) else dropped u)
        (if is_some header.ack_number && not (acks_syn v.tcb.sender.una header.ack_number) then answered_with u (rst_reply ip header (length bytes))
        else if is_syn header.control then with_it (if is_some header.ack_number then connected u.tcb header cx.instant else crossed u.tcb header)
        else dropped u)
        (ap is_rst syn)
        ∙ (if_not (is_some header.ack_number && not (acks_syn v.tcb.sender.una header.ack_number)) (answered_with u (rst_reply ip header (length bytes)))
        (if is_syn header.control then with_it (if is_some header.ack_number then connected u.tcb header cx.instant else crossed u.tcb header)
        else dropped u) right
        ∙ (if_so (is_syn header.control) (with_it (if is_some header.ack_number then connected u.tcb header cx.instant else crossed u.tcb header))
        (dropped u) (ap is_syn syn)
        ∙ ap with_it (if_so (is_some header.ack_number) (connected u.tcb header cx.instant) (crossed u.tcb header) some)))))

-- NO TEXT AND NO FIN

no_bytes : (n : ℕ) (xs : List ℕ) → length xs ≡ 0 → (length (drop n xs) == 0) ≡ true
no_bytes n xs e = eq-eqb (length (drop n xs)) 0 (none (length (drop n xs)) (length xs) (length-drop n xs) e) where
  none : (len all : ℕ) → len ≡ all - n → all ≡ 0 → len ≡ 0
  none len all e f = omega arith

without : (control : TcpControl) → control_len control ≡ 0 → (is_syn control ≡ false) × (is_fin control ≡ false)
without Control.None e = (refl, refl)
without Control.Psh e = (refl, refl)
without Control.Syn e = absurd (omega (arith, e))
without Control.Fin e = absurd (omega (arith, e))
without Control.Rst e = (refl, refl)

-- so nothing is taken that is answered at once
abbrev pub later : ContextValue → TcpHeader → TcpValue → Arrived
later cx header y = dropped (with_tcb y (ack_due y.tcb header 0 false cx.instant))

module _ (cx : ContextValue) (x : TcpValue) (ip : IpRepr) (header : TcpHeader) (bare : control_len header.control ≡ 0) where
  pub content_later : with_content cx x ip header [] ≡ later cx header (with_tcb x (probe_kept x.tcb (queued_in x)))
  content_later =
      ap (λ (t : DataStored). finished cx x.tcb t ip header 0)
      (if_not (accepts_data x.tcb.state && has_new_payload x offset rest) (with_bytes_at x offset rest) (data_stored x 0 false None)
      (not_second (accepts_data x.tcb.state) (has_new_payload x offset rest)
      (ap (λ (t : Bool). not t && nat_lt offset (free_in x)) (no_bytes (distance_before x.tcb.receiver.next header.seq_number) [] refl))))
      ∙ ap (λ (b : Tcb). answer_for cx (with_tcb x (probe_kept b (queued_in x))) ip header 0 false None)
      (if_not (takes_fin x.tcb header 0 0) (fin_taken x.tcb cx.instant) x.tcb (and_not (is_fin header.control) _ (without header.control bare).1))
      ∙ if_not (answers_at_once cx y.tcb ip header 0) (acked cx y ip header no_ranges) (later cx header y)
      (ap (λ (n : ℕ). not (0 + n == 0) && arrived_twice cx y.tcb ip) bare)
    where
      y : TcpValue
      y = with_tcb x (probe_kept x.tcb (queued_in x))

      offset : ℕ
      offset = distance_after x.tcb.receiver.next header.seq_number

      rest : List ℕ
      rest = drop (distance_before x.tcb.receiver.next header.seq_number) []

-- SYN-RECEIVED

pub record Opens (w : TcpValue) (a : Arrived) : Type 0 where
  pub state : a.socket.tcb.state ≡ In.Established
  pub una : a.socket.tcb.sender.una ≡ advanced_by w.tcb.sender.una 1
  pub next : a.socket.tcb.receiver.next ≡ w.tcb.receiver.next
  pub timeouts : a.socket.tcb.sender.timeouts ≡ 0
  pub unanswered : a.socket.tcb.sender.unanswered ≡ 0
  pub timeout : a.socket.tcb.settings.timeout ≡ w.tcb.settings.timeout
  pub limit : a.socket.tcb.settings.retries ≡ w.tcb.settings.retries
  pub agreed : a.socket.tcb.peer.timestamps ≡ w.tcb.peer.timestamps
  pub room : room_of a.socket.received ≡ room_of w.received
  pub names : a.socket.tcb.names ≡ w.tcb.names
  pub snd_max : a.socket.tcb.sender.snd_max ≡ w.tcb.sender.snd_max - 1
  pub undrawn : a.socket.tcb.timers.challenges_from ≡ w.tcb.timers.challenges_from

-- a bare acknowledgement
pub record IsPlain (header : TcpHeader) : Type 0 where
  pub no_reset : is_rst header.control ≡ false
  pub none : control_len header.control ≡ 0

at_itself : (n : ℕ) → n < 2 ^ 32 → (n + (2 ^ 32 - n)) % 2 ^ 32 ≡ 0
at_itself n e = omega arith

at_first : (n : ℕ) → n < 2 ^ 32 → (n + (2 ^ 32 - n)) % 2 ^ 32 < 2 ^ 31
at_first n e = omega arith

-- it lies in the window where it begins at RCV.NXT
pub there_at_next :
    (w : TcpValue) (header : TcpHeader) → IsPlain header → header.seq_number ≡ w.tcb.receiver.next → w.tcb.receiver.next.0 < 2 ^ 32
    → is_in_window w.tcb (free_in w) header 0 ≡ true
there_at_next w header p begins_at small =
    ap (λ (d : ℕ). overlaps_window d (distance_after w.tcb.receiver.next header.seq_number) (segment_len header 0) (free_in w)) (it.before ∙ none)
    ∙ (ap (λ (d : ℕ). overlaps_window 0 d (segment_len header 0) (free_in w)) it.past
    ∙ ap (λ (size : ℕ). overlaps_window 0 0 (0 + size) (free_in w)) p.none)
  where
    near : distance_of header.seq_number w.tcb.receiver.next < 2 ^ 31
    near = subst (λ (n : SeqNumber). distance_of n w.tcb.receiver.next < 2 ^ 31) (sym begins_at) (at_first w.tcb.receiver.next.0 small)

    none : distance_of header.seq_number w.tcb.receiver.next ≡ 0
    none = subst (λ (n : SeqNumber). distance_of n w.tcb.receiver.next ≡ 0) (sym begins_at) (at_itself w.tcb.receiver.next.0 small)

    it : Begins w.tcb.receiver.next header.seq_number
    it =
        begins w.tcb.receiver.next header.seq_number (subst (λ (n : SeqNumber). n.0 < 2 ^ 32) (sym begins_at) small) small near

module _ (cx : ContextValue) (w : TcpValue) (ip : IpRepr) (header : TcpHeader) (number : SeqNumber) (at : w.tcb.state ≡ In.SynReceived)
    (p : IsPlain header) (there : is_in_window w.tcb (free_in w) header 0 ≡ true)
    (acknowledges : header.ack_number ≡ Some number) (one : distance_of w.tcb.sender.una number ≡ 1) (initial : is_stale w.tcb header cx.instant ≡ false) where
  abbrev u : TcpValue
  u = unoffered w

  no_syn : is_syn header.control ≡ false
  no_syn = (without header.control p.none).0

  passes : acknowledgement_check w.tcb header.ack_number ≡ Passes 1
  passes =
      ap (acknowledgement_check w.tcb) acknowledges
      ∙ (if_so (is_answering w.tcb.state) (opening_check (distance_of w.tcb.sender.una number))
      (synchronized_check w.tcb (distance_after w.tcb.sender.una number) (distance_before w.tcb.sender.una number)) (ap is_answering at)
      ∙ if_so (distance_of w.tcb.sender.una number == 1) (Passes 1) Resets (eq-eqb (distance_of w.tcb.sender.una number) 1 one))

  neither : (a c d : Bool) → a ≡ false → c ≡ false → (a || (c && d)) ≡ false
  neither a c d e f = ap (λ (t : Bool). t || (c && d)) e ∙ ap (λ (t : Bool). t && d) f

  path : arrives cx w ip header [] ≡ taken cx u ip header [] 1
  path =
      if_not (is_void_syn header) (dropped u) (arrives_in w.tcb.state cx u ip header [])
      (and_not (is_syn header.control) (is_zero header.options.max_seg_size) no_syn)
      ∙ (ap (λ (state : State). arrives_in state cx u ip header []) at
      ∙ (if_not (is_rst header.control) (reset_arrives cx u ip header 0)
      (if challenges_first w.tcb header cx.instant then drawn cx u ip header else checked (acknowledgement_check w.tcb header.ack_number) cx u ip header [])
      p.no_reset
      ∙ (if_not (challenges_first w.tcb header cx.instant) (drawn cx u ip header) (checked (acknowledgement_check w.tcb header.ack_number) cx u ip header [])
      (neither (is_stale w.tcb header cx.instant) (is_syn header.control) (not (is_answering w.tcb.state)) initial no_syn)
      ∙ (ap (λ (check : Check). checked check cx u ip header []) passes
      ∙ (if_so (is_in_window w.tcb (free_in w) header 0) (inside cx u ip header [] 1) (passed_outside cx u ip header 0 1) there
      ∙ if_not (is_syn header.control) (drawn cx u ip header) (taken cx u ip header [] 1) no_syn)))))

  abbrev heard_of : TcpValue
  heard_of = tsecr_heard u header 1 cx.instant

  opened : state_after_ack heard_of.tcb 1 (queued_in heard_of) ≡ In.Established
  opened =
      ap (λ (state : State). if owes_fin state && (1 == unacked heard_of.tcb (queued_in heard_of)) then after_ack_of_fin state else after_ack state) at

  by_told : (x : TcpValue) → Opens w (dropped x) → (duplicates : ℕ) → Opens w (with_content cx (told x header duplicates cx.instant) ip header [])
  by_told x o duplicates =
      subst (Opens w) (sym (content_later cx (told x header duplicates cx.instant) ip header p.none))
      (cond_both (names_window x.tcb header) (windowed x.tcb header) x.tcb
      (λ (b : Tcb). Opens w (later cx header (kept_by (with_tcb x (told_by b)))))
      (λ _. record {
        state = o.state;
        una = o.una;
        next = o.next;
        timeouts = o.timeouts;
        unanswered = o.unanswered;
        timeout = o.timeout;
        limit = o.limit;
        agreed = o.agreed;
        room = o.room;
        names = o.names;
        snd_max = o.snd_max;
        undrawn = o.undrawn;
      })
      (λ _. record {
        state = o.state;
        una = o.una;
        next = o.next;
        timeouts = o.timeouts;
        unanswered = o.unanswered;
        timeout = o.timeout;
        limit = o.limit;
        agreed = o.agreed;
        room = o.room;
        names = o.names;
        snd_max = o.snd_max;
        undrawn = o.undrawn;
      }))
    where
      told_by : Tcb → Tcb
      told_by b =
          timeout_restarted (nxt_past_held (counted (ranges_taken (tsval_taken b header cx.instant) header cx.instant) duplicates cx.instant) (queued_in x)) cx.instant
          (queued_in x)

      kept_by : TcpValue → TcpValue
      kept_by y = with_tcb y (probe_kept y.tcb (queued_in y))

  pub opens : Opens w (arrives cx w ip header [])
  opens =
      subst (Opens w) (sym path)
      (acked_cases heard_of 1 cx.instant (λ (x : TcpValue). Opens w (continued cx u.tcb x ip header [] 1))
      (λ closed. clash (sym closed ∙ ap is_closed opened))
      (λ alive.
      let x = acked_open heard_of 1 cx.instant in
      subst (Opens w)
      (sym (if_not (is_closed x.tcb.state) (dropped x) (with_content cx (told x header (duplicates_after u.tcb header 0 1) cx.instant) ip header []) alive))
      (by_told x
      (record {
        state = opened;
        una = refl;
        next = refl;
        timeouts = refl;
        unanswered = refl;
        timeout = refl;
        limit = refl;
        agreed = refl;
        room = refl;
        names = refl;
        snd_max = refl;
        undrawn = refl;
      })
      (duplicates_after u.tcb header 0 1))))
