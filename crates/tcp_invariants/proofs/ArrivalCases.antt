-- A segment that comes, case by case: what holds of what each case leads to holds of the arrival.
use Rattle.std.proofs.Common.{◌≡◌, ℕ, zero, suc, ◌+◌, ◌==◌, ◌&&◌, nat_le, nat_lt, not, ℤ, Bool, true, false, if◌then◌else◌, List, [], ◌∷◌, length, drop, Option}
use Rattle.std.proofs.Common.{Some, None, is_some, refl, sym, ap, ◌∙◌, subst, arith}
use Rattle.std.proofs.lemmas.Bool.{cond_both, eqb-true}
use Rattle.tcp_ranges.specs.OutOfOrder.{runs_of}
use Rattle.ip_wire.specs.IpRepr.{IpRepr}
use Rattle.ip_wire.specs.TcpHeader.{TcpHeader}
use Rattle.tcp_block.specs.Context.{ContextValue}
use Rattle.tcp_state.specs.Controls.{is_syn, is_fin, is_rst}
use Rattle.tcp_state.specs.Offsets.{distance_after, distance_before}
use Rattle.tcp_state.specs.States.{is_closed, accepts_data}
use Rattle.tcp_state.specs.declared.state.State.{State}
use Rattle.tcp_state.specs.declared.state.State.TheVariants as In
use Rattle.tcp_ranges.specs.ReceiveMap.{store, front}
use Rattle.net_base.specs.Ring.{released}
use Rattle.tcp_block.specs.Acknowledged.{acknowledged, duplicates_after, names_window, windowed, ranges_taken, counted, ended_if, in_state}
use Rattle.tcp_block.specs.Acknowledged.{una_moved, state_after_ack, freed_by}
use Rattle.tcp_block.specs.TcbRules.{forgotten}
use Rattle.tcp_block.specs.Answers.{drawn, may_challenge, with_draw, acked, answer_for, answers_at_once, sack_blocks, ack_due}
use Rattle.tcp_block.specs.Arrival.{waiting_anew, outside, passed_outside, is_before_window, is_repeated, finished, with_content, told, taken}
use Rattle.tcp_block.specs.Arrival.{inside, checked, continued}
use Rattle.tcp_block.specs.Arrival.{takes_reset, challenges_reset, reset_arrives, challenges_first, tsecr_heard, received, arrives_in, arrives, is_void_syn}
use Rattle.tcp_block.specs.Calls.{listening}
use Rattle.tcp_block.specs.Checks.{Check, acknowledgement_check, is_in_window, taken_down, falls_back}
use Rattle.tcp_block.specs.Checks.Check.{Passes, Old, Drops, Draws, Resets}
use Rattle.tcp_block.specs.Opening.{is_first_syn, opens, takes_answer, acks_syn, syn_answered, connected, crossed, answering}
use Rattle.tcp_block.specs.Probing.{probe_kept}
use Rattle.tcp_block.specs.Retries.{heard}
use Rattle.tcp_block.specs.Segments.{no_ranges, rst_reply, has_length}
use Rattle.tcp_block.specs.Settled.{nxt_past_held}
use Rattle.tcp_block.specs.Payload.{DataStored, data_stored, with_bytes_at, taken_in_order, out_of_order, has_out_of_order, laid, has_new_payload}
use Rattle.tcp_block.specs.Payload.{takes_fin, fin_taken, is_at_fin}
use Rattle.tcp_block.specs.Timeout.{timeout_restarted}
use Rattle.tcp_block.specs.Value.{TcpValue, Arrived, with_tcb, dropped, answered_with, unoffered, ended, queued_in, free_in, received_of}
use Rattle.tcp_block.specs.declared.tcb.Tcb.{Tcb}
use Rattle.tcp_block.specs.Isn.{isn, draws_number}
use Rattle.tcp_block.specs.Timestamps.{believed, tsval_taken}
use Rattle.tcp_state.specs.Endpoints.{pair_in}
use Rattle.tcp_invariants.specs.Events.{is_past}

-- the store keeps the length of the map
pub store-length : (map : List (Option ℕ)) (offset : ℕ) (bytes : List ℕ) → length (store map offset bytes) ≡ length map
store-length [] offset bytes = refl
store-length (entry ∷ map) (suc offset) bytes = ap suc (store-length map offset bytes)
store-length (entry ∷ map) zero [] = refl
store-length (entry ∷ map) zero (byte ∷ bytes) = ap suc (store-length map zero bytes)

-- a number with one before it isn't 0
pub suc_not : (n : ℕ) → (suc n == 0) ≡ false
suc_not n = at (suc n == 0) refl where
  at : (t : Bool) → (suc n == 0) ≡ t → t ≡ false
  at true is = let none = eqb-true (suc n) 0 is in absurd (omega arith)
  at false is = refl

-- payload that is held early
abbrev pub held : TcpValue → List (Option ℕ) → TcpValue
held x map = record x { received = received_of x.received.waiting map x.received.start }

-- the instant of a probe ends where it does
abbrev pub kept : TcpValue → Tcb → TcpValue
kept x b = with_tcb x (probe_kept b (queued_in x))

-- AN ACKNOWLEDGEMENT

-- the block after it, where it doesn't end the connection
abbrev pub tcb_acked : Tcb → ℕ → ℕ → ℤ → Tcb
tcb_acked b by queued now = in_state (una_moved b by queued now) (state_after_ack b by queued) now

abbrev pub acked_open : TcpValue → ℕ → ℤ → TcpValue
acked_open u by now = record u { tcb = tcb_acked u.tcb by (queued_in u) now; queued = released u.queued (freed_by u.tcb by (queued_in u)) }

-- it ends LAST-ACK
abbrev pub acked_last : TcpValue → ℕ → ℤ → TcpValue
acked_last u by now =
    record u { tcb = forgotten (tcb_acked u.tcb by (queued_in u) now); queued = released u.queued (freed_by u.tcb by (queued_in u)) }

pub acked_cases :
    (u : TcpValue) (by : ℕ) (now : ℤ) (P : TcpValue → Type 0) → (is_closed (state_after_ack u.tcb by (queued_in u)) ≡ true → P (acked_last u by now))
    → (is_closed (state_after_ack u.tcb by (queued_in u)) ≡ false → P (acked_open u by now)) → P (acknowledged u by now)
acked_cases u by now P last other = at (is_closed (state_after_ack u.tcb by (queued_in u))) refl where
  at :
      (test : Bool) → is_closed (state_after_ack u.tcb by (queued_in u)) ≡ test
      → P (record u { tcb = ended_if test (tcb_acked u.tcb by (queued_in u) now); queued = released u.queued (freed_by u.tcb by (queued_in u)) })
  at true e = last e
  at false e = other e

-- the socket with the round trip that the segment's echo tells of
abbrev pub timed : ℤ → TcpHeader → TcpValue → ℕ → TcpValue
timed now header u by = tsecr_heard u header by now

-- the block with its acknowledgement, its duplicates and its ranges, and with its window where it names one
abbrev pub heeded : ℤ → TcpHeader → ℕ → TcpValue → ℕ → Tcb → TcpValue
heeded now header size u by b =
    with_tcb (acked_open (timed now header u by) by now)
    (timeout_restarted
    (nxt_past_held (counted (ranges_taken (tsval_taken b header now) header now) (duplicates_after u.tcb header size by) now)
    (queued_in (acked_open (timed now header u by) by now)))
    now (queued_in (acked_open (timed now header u by) by now)))

module _ (cx : ContextValue) (ip : IpRepr) (header : TcpHeader) (bytes : List ℕ) (Q : Arrived → Type 0) where
  -- a segment that is answered, at once or unless the last answer is too near
  pub record Drawing (x : TcpValue) : Type 0 where
    pub answers : may_challenge cx.instant x.tcb.timers.challenges_from ≡ true → Q (acked cx (with_draw x cx.instant) ip header no_ranges)
    pub at_once : Q (acked cx x ip header no_ranges)
    pub pauses : Q (dropped x)

  -- an acknowledgement is due after it
  abbrev pub due : TcpValue → Bool → TcpValue
  due y fills = with_tcb y (ack_due y.tcb header (length bytes) fills cx.instant)

  -- what was taken is acknowledged later, where too little came to be answered at once, or at once
  abbrev pub Told : TcpValue → Bool → Type 0
  Told y fills =
      (answers_at_once cx y.tcb ip header (length bytes) ≡ false → Q (dropped (due y fills))) × Q (acked cx y ip header no_ranges)

  -- its payload and its FIN
  pub record Content (x : TcpValue) : Type 0 where
    pub plain : Told (kept x x.tcb) false
    pub fin : is_fin header.control ≡ true → accepts_data x.tcb.state ≡ true → Told (kept x (fin_taken x.tcb cx.instant)) false
    pub ordered :
        (map : List (Option ℕ)) → length map ≡ free_in x → accepts_data x.tcb.state ≡ true → (length bytes == 0) ≡ false
        → Told (kept (taken_in_order x map).socket (taken_in_order x map).socket.tcb) (has_out_of_order x)
    pub ordered_fin :
        (map : List (Option ℕ)) → length map ≡ free_in x → is_fin header.control ≡ true → accepts_data x.tcb.state ≡ true
        → Told (kept (taken_in_order x map).socket (fin_taken (taken_in_order x map).socket.tcb cx.instant)) (has_out_of_order x)
    pub early :
        (map : List (Option ℕ)) (offset : ℕ) → length map ≡ free_in x → accepts_data x.tcb.state ≡ true
        → Q (acked cx (kept (held x map) x.tcb) ip header (sack_blocks (kept (held x map) x.tcb) offset))

  pub record Received (u : TcpValue) : Type 0 where
    pub stays : Q (dropped u)
    pub refuses : Q (answered_with u (rst_reply ip header (length bytes)))
    pub draws : Drawing u
    pub falls : is_rst header.control ≡ true → takes_reset u.tcb header ≡ true → falls_back u.tcb ≡ true → Q (dropped (listening u u.tcb.names.listen))
    pub ends : is_rst header.control ≡ true → takes_reset u.tcb header ≡ true → falls_back u.tcb ≡ false → Q (dropped (ended u))
    pub closes :
        (by : ℕ) → acknowledgement_check u.tcb header.ack_number ≡ Passes by → is_closed (state_after_ack u.tcb by (queued_in u)) ≡ true
        → Q (dropped (acked_last (timed cx.instant header u by) by cx.instant))
    pub taken :
        (by : ℕ) → acknowledgement_check u.tcb header.ack_number ≡ Passes by → is_closed (state_after_ack u.tcb by (queued_in u)) ≡ false
        → Content (heeded cx.instant header (length bytes) u by (acked_open (timed cx.instant header u by) by cx.instant).tcb)
    -- and it names the window
    pub taken_window :
        (by : ℕ) → acknowledgement_check u.tcb header.ack_number ≡ Passes by → is_closed (state_after_ack u.tcb by (queued_in u)) ≡ false
        → Content (heeded cx.instant header (length bytes) u by (windowed (acked_open (timed cx.instant header u by) by cx.instant).tcb header))
    pub news :
        (by : ℕ) → acknowledgement_check u.tcb header.ack_number ≡ Passes by → is_closed (state_after_ack u.tcb by (queued_in u)) ≡ false
        → Drawing (waiting_anew (acked_open (timed cx.instant header u by) by cx.instant) header cx.instant)
    pub outside : Drawing (waiting_anew u header cx.instant)
    pub old : acknowledgement_check u.tcb header.ack_number ≡ Old → Content (with_tcb u (tsval_taken (heard u.tcb) header cx.instant))

  by_drawn : (x : TcpValue) → Drawing x → Q (drawn cx x ip header)
  by_drawn x d =
      cond_both (may_challenge cx.instant x.tcb.timers.challenges_from) (acked cx (with_draw x cx.instant) ip header no_ranges) (dropped x) Q
      (λ may. d.answers may)
      (λ _. d.pauses)

  -- the FIN after what was taken so far
  abbrev Finishing : Tcb → DataStored → Type 0
  Finishing old t = Q (finished cx old t ip header (length bytes))

  by_told : (y : TcpValue) (fills : Bool) → Told y fills → Q (answer_for cx y ip header (length bytes) fills None)
  by_told y fills told_so =
      cond_both (answers_at_once cx y.tcb ip header (length bytes)) (acked cx y ip header no_ranges) (dropped (due y fills)) Q
      (λ _. told_so.1)
      (λ little. told_so.0 little)

  by_fin :
      (old : Tcb) (t : DataStored) → t.early ≡ None →
      (takes_fin old header (length bytes) t.advance ≡ true → Told (kept t.socket (fin_taken t.socket.tcb cx.instant)) t.fills)
      → Told (kept t.socket t.socket.tcb) t.fills → Finishing old t
  by_fin old t none fin plain =
      cond_both (takes_fin old header (length bytes) t.advance) (fin_taken t.socket.tcb cx.instant) t.socket.tcb
      (λ (b : Tcb). Q (answer_for cx (kept t.socket b) ip header (length bytes) t.fills t.early))
      (λ takes. subst (λ (e : Option ℕ). Q (answer_for cx (kept t.socket (fin_taken t.socket.tcb cx.instant)) ip header (length bytes) t.fills e)) (sym none)
      (by_told (kept t.socket (fin_taken t.socket.tcb cx.instant)) t.fills (fin takes)))
      (λ _. subst (λ (e : Option ℕ). Q (answer_for cx (kept t.socket t.socket.tcb) ip header (length bytes) t.fills e)) (sym none)
      (by_told (kept t.socket t.socket.tcb) t.fills plain))

  and_first : (a b : Bool) → (a && b) ≡ true → a ≡ true
  and_first true b e = refl
  and_first false b e = e

  and_second : (a b : Bool) → (a && b) ≡ true → b ≡ true
  and_second true b e = e
  and_second false b e = absurd (cc)

  not_true : (a : Bool) → not a ≡ true → a ≡ false
  not_true true e = absurd (cc)
  not_true false e = refl

  fin_parts : (old : Tcb) (advance : ℕ) → takes_fin old header (length bytes) advance ≡ true → (is_fin header.control ≡ true) × (accepts_data old.state ≡ true)
  fin_parts old advance e =
      let rest = and_second (is_fin header.control) (accepts_data old.state && is_at_fin old header (length bytes) advance) e in (
        and_first (is_fin header.control) (accepts_data old.state && is_at_fin old header (length bytes) advance) e,
        and_first (accepts_data old.state) (is_at_fin old header (length bytes) advance) rest,
      )

  -- a segment whose payload begins past RCV.NXT has no FIN at RCV.NXT
  by_early :
      (x : TcpValue) (map : List (Option ℕ)) (offset : ℕ) → (distance_after x.tcb.receiver.next header.seq_number == 0) ≡ false
      → Q (acked cx (kept (held x map) x.tcb) ip header (sack_blocks (kept (held x map) x.tcb) offset)) →
      Finishing x.tcb (data_stored (held x map) 0 false (Some offset))
  by_early x map offset past q =
      cond_both (takes_fin x.tcb header (length bytes) 0) (fin_taken x.tcb cx.instant) x.tcb
      (λ (b : Tcb). Q (answer_for cx (kept (held x map) b) ip header (length bytes) false (Some offset)))
      (λ takes.
      let rest = and_second (is_fin header.control) (accepts_data x.tcb.state && is_at_fin x.tcb header (length bytes) 0) takes in
      let more = and_second (accepts_data x.tcb.state) (is_at_fin x.tcb header (length bytes) 0) rest in
      let at_next = and_first (distance_after x.tcb.receiver.next header.seq_number == 0) (distance_before x.tcb.receiver.next header.seq_number +
      0 == length bytes) more in
      absurd (let clash : true ≡ false = sym at_next ∙ past in cc))
      (λ _. q)

  some_bytes : (n : ℕ) (xs : List ℕ) → (length (drop n xs) == 0) ≡ false → (length xs == 0) ≡ false
  some_bytes zero xs e = e
  some_bytes (suc n) [] e = e
  some_bytes (suc n) (x ∷ xs) e = suc_not (length xs)

  by_content : (x : TcpValue) → Content x → Q (with_content cx x ip header bytes)
  by_content x c =
      cond_both (accepts_data x.tcb.state && has_new_payload x offset rest) (with_bytes_at x offset rest) (data_stored x 0 false None) (Finishing x.tcb)
      (λ new.
      let takes = and_first (accepts_data x.tcb.state) (has_new_payload x offset rest) new in
      let more = and_second (accepts_data x.tcb.state) (has_new_payload x offset rest) new in
      let some = not_true (length rest == 0) (and_first (not (length rest == 0)) (nat_lt offset (free_in x)) more) in
      cond_both (offset == 0) (taken_in_order x map) (out_of_order x offset map) (Finishing x.tcb)
      (λ _.
      by_fin x.tcb (taken_in_order x map) refl
      (λ f. c.ordered_fin map (store-length x.received.map offset rest) (fin_parts x.tcb (length (front map)) f).0 takes)
      (c.ordered map (store-length x.received.map offset rest) takes (some_bytes (distance_before x.tcb.receiver.next header.seq_number) bytes some)))
      (λ past.
      cond_both (nat_le (length (runs_of map)) 32) (data_stored (held x map) 0 false (Some offset)) (data_stored x 0 false None) (Finishing x.tcb)
      (λ _. by_early x map offset past (c.early map offset (store-length x.received.map offset rest) takes))
      (λ _. plain)))
      (λ _. plain)
    where
      offset : ℕ
      offset = distance_after x.tcb.receiver.next header.seq_number

      rest : List ℕ
      rest = drop (distance_before x.tcb.receiver.next header.seq_number) bytes

      map : List (Option ℕ)
      map = laid x offset rest

      plain : Finishing x.tcb (data_stored x 0 false None)
      plain = by_fin x.tcb (data_stored x 0 false None) refl (λ f. let parts = fin_parts x.tcb 0 f in c.fin parts.0 parts.1) c.plain

  by_answered : (x : TcpValue) (again : Bool) → Drawing x → Q (if again then acked cx x ip header no_ranges else drawn cx x ip header)
  by_answered x true d = d.at_once
  by_answered x false d = by_drawn x d

  by_outside : (x : TcpValue) (again : Bool) → Q (dropped x) → Drawing (waiting_anew x header cx.instant) → Q (outside cx x ip header again)
  by_outside x again stays d =
      let y = waiting_anew x header cx.instant in
      cond_both (is_closed x.tcb.state) (dropped x) (if again then acked cx y ip header no_ranges else drawn cx y ip header) Q
      (λ _. stays)
      (λ _. by_answered y again d)

  by_news : (u : TcpValue) (by : ℕ) → Received u → acknowledgement_check u.tcb header.ack_number ≡ Passes by →
      Q (outside cx (acknowledged (timed cx.instant header u by) by cx.instant) ip header (has_length header (length bytes)))
  by_news u by r passes =
      let again = has_length header (length bytes) in
      acked_cases (timed cx.instant header u by) by cx.instant (λ (w : TcpValue). Q (outside cx w ip header again)) (r.closes by passes)
      (λ alive.
      let x = acked_open (timed cx.instant header u by) by cx.instant in
      let y = waiting_anew x header cx.instant in
      cond_both (is_closed x.tcb.state) (dropped x) (if again then acked cx y ip header no_ranges else drawn cx y ip header) Q
      (λ closed. absurd (let clash : true ≡ false = sym closed ∙ alive in cc))
      (λ _. by_answered y again (r.news by passes alive)))

  by_taken : (u : TcpValue) (by : ℕ) → Received u → acknowledgement_check u.tcb header.ack_number ≡ Passes by → Q (taken cx u ip header bytes by)
  by_taken u by r passes =
      acked_cases (timed cx.instant header u by) by cx.instant (λ (w : TcpValue). Q (continued cx u.tcb w ip header bytes by)) (r.closes by passes)
      (λ alive.
      let x = acked_open (timed cx.instant header u by) by cx.instant in
      cond_both (is_closed x.tcb.state) (dropped x)
      (with_content cx (told x header (duplicates_after u.tcb header (length bytes) by) cx.instant) ip header bytes) Q
      (λ closed. absurd (let clash : true ≡ false = sym closed ∙ alive in cc))
      (λ _.
      cond_both (names_window x.tcb header) (windowed x.tcb header) x.tcb
      (λ (b : Tcb). Q (with_content cx (heeded cx.instant header (length bytes) u by b) ip header bytes))
      (λ _. by_content (heeded cx.instant header (length bytes) u by (windowed x.tcb header)) (r.taken_window by passes alive))
      (λ _. by_content (heeded cx.instant header (length bytes) u by x.tcb) (r.taken by passes alive))))

  by_checked : (check : Check) (u : TcpValue) → Received u → acknowledgement_check u.tcb header.ack_number ≡ check → Q (checked check cx u ip header bytes)
  by_checked (Passes by) u r passes =
      cond_both (is_in_window u.tcb (free_in u) header (length bytes)) (inside cx u ip header bytes by) (passed_outside cx u ip header (length bytes) by) Q
      (λ _.
      cond_both (is_syn header.control) (drawn cx u ip header) (taken cx u ip header bytes by) Q
      (λ _. by_drawn u r.draws)
      (λ _. by_taken u by r passes))
      (λ _.
      cond_both (is_before_window u header (length bytes))
      (outside cx (acknowledged (timed cx.instant header u by) by cx.instant) ip header (has_length header (length bytes)))
      (outside cx u ip header false) Q
      (λ _. by_news u by r passes)
      (λ _. by_outside u false r.stays r.outside))
  by_checked Old u r old =
      cond_both (is_in_window u.tcb (free_in u) header (length bytes))
      (with_content cx (with_tcb u (tsval_taken (heard u.tcb) header cx.instant)) ip header bytes)
      (outside cx u ip header (is_repeated u header (length bytes))) Q
      (λ _. by_content (with_tcb u (tsval_taken (heard u.tcb) header cx.instant)) (r.old old))
      (λ _. by_outside u (is_repeated u header (length bytes)) r.stays r.outside)
  by_checked Drops u r e = r.stays
  by_checked Draws u r e = by_drawn u r.draws
  by_checked Resets u r e = r.refuses

  by_received : (u : TcpValue) → Received u → Q (received cx u ip header bytes)
  by_received u r =
      cond_both (is_rst header.control) (reset_arrives cx u ip header (length bytes))
      (if challenges_first u.tcb header cx.instant then drawn cx u ip header else checked (acknowledgement_check u.tcb header.ack_number) cx u ip header bytes)
      Q
      (λ rst.
      cond_both (takes_reset u.tcb header) (dropped (taken_down u)) (if challenges_reset u header (length bytes) then drawn cx u ip header else dropped u) Q
      (λ takes.
      cond_both (falls_back u.tcb) (listening u u.tcb.names.listen) (ended u) (λ (w : TcpValue). Q (dropped w))
      (λ falls. r.falls rst takes falls)
      (λ not. r.ends rst takes not))
      (λ _.
      cond_both (challenges_reset u header (length bytes)) (drawn cx u ip header) (dropped u) Q
      (λ _. by_drawn u r.draws)
      (λ _. r.stays)))
      (λ _.
      cond_both (challenges_first u.tcb header cx.instant) (drawn cx u ip header) (checked (acknowledgement_check u.tcb header.ack_number) cx u ip header bytes) Q
      (λ _. by_drawn u r.draws)
      (λ _. by_checked (acknowledgement_check u.tcb header.ack_number) u r refl))

  -- it opens a connection, or answers its SYN
  pub record Opening (u : TcpValue) : Type 0 where
    pub opens :
        u.tcb.state ≡ In.Listen → is_first_syn header ≡ true
        → Q (record {
          socket = with_tcb u (timeout_restarted (believed (answering u.tcb ip header (isn cx (pair_in ip header))) cx.instant) cx.instant 0);
          answer =
              None;
          draws = draws_number cx;
        })
    pub refuses : Q (answered_with u (rst_reply ip header (length bytes)))
    pub ends : u.tcb.state ≡ In.SynSent → Q (dropped (ended u))
    pub connects : u.tcb.state ≡ In.SynSent → is_syn header.control ≡ true →
        Q (dropped (with_tcb u (timeout_restarted (believed (connected u.tcb header cx.instant) cx.instant) cx.instant (queued_in u))))
    pub crosses : u.tcb.state ≡ In.SynSent → is_syn header.control ≡ true →
        Q (dropped (with_tcb u (timeout_restarted (believed (crossed u.tcb header) cx.instant) cx.instant (queued_in u))))

  by_answer : (u : TcpValue) → u.tcb.state ≡ In.SynSent → Q (dropped u) → Opening u → Q (takes_answer cx u ip header bytes)
  by_answer u at stays o =
      let answered = with_tcb u (timeout_restarted (syn_answered u.tcb header cx.instant) cx.instant (queued_in u)) in
      cond_both (is_rst header.control) (if acks_syn u.tcb.sender.una header.ack_number then dropped (ended u) else dropped u)
      (if is_some header.ack_number && not (acks_syn u.tcb.sender.una header.ack_number)
      then answered_with u (rst_reply ip header (length bytes))
      else if is_syn header.control
      then dropped answered
      else dropped u)
      Q
      (λ _.
      cond_both (acks_syn u.tcb.sender.una header.ack_number) (dropped (ended u)) (dropped u) Q
      (λ _. o.ends at)
      (λ _. stays))
      (λ _.
      cond_both (is_some header.ack_number && not (acks_syn u.tcb.sender.una header.ack_number)) (answered_with u (rst_reply ip header (length bytes)))
      (if is_syn header.control then dropped answered else dropped u) Q
      (λ _. o.refuses)
      (λ _.
      cond_both (is_syn header.control) (dropped answered) (dropped u) Q
      (λ syn.
      cond_both (is_some header.ack_number) (connected u.tcb header cx.instant) (crossed u.tcb header)
      (λ (b : Tcb). Q (dropped (with_tcb u (timeout_restarted (believed b cx.instant) cx.instant (queued_in u)))))
      (λ _. o.connects at syn)
      (λ _. o.crosses at syn))
      (λ _. stays)))

  by_opens : (u : TcpValue) → u.tcb.state ≡ In.Listen → Q (dropped u) → Opening u → Q (opens cx u ip header)
  by_opens u at stays o =
      cond_both (is_first_syn header)
      (record {
        socket = with_tcb u (timeout_restarted (believed (answering u.tcb ip header (isn cx (pair_in ip header))) cx.instant) cx.instant 0);
        answer =
            None;
        draws = draws_number cx;
      })
      (dropped u) Q
      (λ first. o.opens at first)
      (λ _. stays)

  by_state :
      (state : State) (u : TcpValue) → u.tcb.state ≡ state → Q (dropped u) → Opening u → (is_past u.tcb.state ≡ true → Received u)
      → Q (arrives_in state cx u ip header bytes)
  by_state In.Closed u at stays o r = stays
  by_state In.Listen u at stays o r = by_opens u at stays o
  by_state In.SynSent u at stays o r = by_answer u at stays o
  by_state other u at stays o r = by_received u (r (ap is_past at))

  pub by_arrival :
      (v : TcpValue) → Q (dropped (unoffered v)) → (is_void_syn header ≡ false → Opening (unoffered v)) →
      (is_past v.tcb.state ≡ true → Received (unoffered v))
      → Q (arrives cx v ip header bytes)
  by_arrival v stays o r =
      cond_both (is_void_syn header) (dropped (unoffered v)) (arrives_in v.tcb.state cx (unoffered v) ip header bytes) Q
      (λ _. stays)
      (λ not. by_state v.tcb.state (unoffered v) refl stays (o not) r)
