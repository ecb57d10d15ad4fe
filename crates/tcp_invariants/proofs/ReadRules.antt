-- Each header that a socket makes is in its canonical form, so a reader has it as it was made.
use Rattle.std.proofs.Common.{◌≡◌, ℕ, zero, suc, ◌/◌, ◌^◌, ◌≤◌, ◌==◌, nat_le, nat_lt, not, ◌&&◌, ◌||◌, min, ℤ, Bool, true, false, if◌then◌else◌}
use Rattle.std.proofs.Common.{List, [], ◌∷◌, length, drop, map, Option, Some, None, is_some, refl, sym, ap, ◌∙◌, subst, arith}
use Rattle.std.proofs.lemmas.Bool.{cond_both, ltb-true}
use Rattle.tcp_ranges.specs.OutOfOrder.{is_held, runs_of}
use Rattle.tcp_ranges.specs.ReceiveMap.{store}
use Rattle.tcp_ranges.proofs.RunsOf.{is_held-store}
use Rattle.ip_wire.specs.IpRepr.{IpRepr}
use Rattle.ip_wire.specs.Options.{capped, closed_up, no_options, read_scale, sent_ranges}
use Rattle.ip_wire.specs.SeqNumber.{SeqNumber}
use Rattle.ip_wire.specs.Tcp.{acknowledges, normal}
use Rattle.ip_wire.specs.TcpHeader.{TcpHeader}
use Rattle.tcp_state.specs.Controls.{is_syn, is_rst}
use Rattle.tcp_state.specs.Endpoints.{ip_header_len, pair_in}
use Rattle.tcp_state.specs.Offsets.{distance_after, distance_before}
use Rattle.tcp_state.specs.States.{is_closed, accepts_data}
use Rattle.tcp_state.specs.declared.endpoints.FourTuple.{FourTuple}
use Rattle.tcp_state.specs.declared.offer.OpenOffer.{OpenOffer}
use Rattle.tcp_state.specs.declared.offer.Reply.{Reply}
use Rattle.tcp_state.specs.declared.state.State.{State}
use Rattle.tcp_state.specs.declared.state.State.TheVariants as In
use Rattle.tcp_block.specs.Acknowledged.{acknowledged, duplicates_after}
use Rattle.tcp_block.specs.Answers.{ack_due, acked, answer_for, answers_at_once, drawn, may_challenge, with_draw, first_two, lies_in, numbers_of, others, sack_blocks, run_at}
use Rattle.tcp_block.specs.Arrival.{arrives, arrives_in, challenges_reset, checked, is_repeated, challenges_first, tsecr_heard, inside, is_void_syn}
use Rattle.tcp_block.specs.Arrival.{outside, passed_outside, received, reset_arrives, taken, takes_reset, is_before_window, told, waiting_anew, with_content}
use Rattle.tcp_block.specs.BaseOffers.{Offered}
use Rattle.tcp_block.specs.TcbRules.{local_scale, scale_for}
use Rattle.tcp_block.specs.Checks.{Check, acknowledgement_check, is_in_window, taken_down}
use Rattle.tcp_block.specs.Checks.Check.{Passes, Old, Drops, Draws, Resets}
use Rattle.tcp_block.specs.Context.{ContextValue}
use Rattle.tcp_block.specs.Offers.{offer_of}
use Rattle.tcp_block.specs.Opening.{acks_syn, is_first_syn, opens, syn_answered, takes_answer}
use Rattle.tcp_block.specs.Probing.{probe_kept}
use Rattle.tcp_block.specs.Retries.{heard}
use Rattle.tcp_block.specs.Segments.{mss_for, next_if_heard, no_ranges, reset_ack, reset_for, reset_segment, rst_reply, sack_segment, tsval_of, syn_options, has_length}
use Rattle.tcp_block.specs.Segments.{syn_segment}
use Rattle.tcp_block.specs.Payload.{with_fin, DataStored, has_new_payload, out_of_order, laid, taken_in_order, data_stored, with_bytes_at, with_payload}
use Rattle.tcp_block.specs.Timeout.{timeout_restarted}
use Rattle.tcp_block.specs.Timestamps.{tsval_taken}
use Rattle.tcp_block.specs.Value.{TcpValue, Arrived, answered_with, dropped, ended, free_in, queued_in, received_of, unoffered, window_of, with_tcb}
use Rattle.tcp_block.specs.declared.tcb.Tcb.{Tcb}
use Rattle.tcp_invariants.proofs.OfferCases.{FirstRules, LastRules, by_rules}
use Rattle.tcp_invariants.proofs.OrderSteps.{clash}

-- THE SCALE OF A SYN

scale_most : (most count : ℕ) → scale_for most count ≤ most
scale_most zero count = omega arith
scale_most (suc most) count =
    let less = scale_most most (count / 2) in
    cond_both (nat_lt count (2 ^ 16)) 0 (suc (scale_for most (count / 2))) (λ (n : ℕ). n ≤ suc most) (λ _. omega arith) (λ _. omega (arith, less))

-- a reader has it as it is
pub capped_own : (capacity : ℕ) → capped (local_scale capacity) ≡ local_scale capacity
capped_own capacity = by (local_scale capacity) (scale_most 14 capacity) where
  by : (n : ℕ) → n ≤ 14 → min n 14 ≡ n
  by n e = omega arith

none_sent : (permitted acknowledges : Bool) → sent_ranges permitted acknowledges no_ranges ≡ no_ranges
none_sent true acknowledges = refl
none_sent false true = refl
none_sent false false = refl

syn_read : (b : Tcb) (pair : FourTuple) (now : ℤ) (ip_mtu capacity free : ℕ) →
    normal (syn_segment b pair now ip_mtu capacity free) ≡ syn_segment b pair now ip_mtu capacity free
syn_read b pair now ip_mtu capacity free = λ k. record (syn_segment b pair now ip_mtu capacity free) {
  options = record (syn_options b (mss_for ip_mtu (ip_header_len pair.addresses)) now (local_scale capacity)) {
    window_scale = scale k;
    sack_ranges = ranges k;
  };
}
  where
    named : Bool
    named = not b.receiver.took_syn || is_some b.peer.scale

    scale : read_scale (if named then Some (local_scale capacity) else None) ≡ (if named then Some (local_scale capacity) else None)
    scale = cond_both named (Some (local_scale capacity)) None (λ (s : Option ℕ). read_scale s ≡ s) (λ _. ap Some (capped_own capacity)) (λ _. refl)

    ranges : sent_ranges (not b.receiver.took_syn || b.peer.sack) (acknowledges (next_if_heard b)) no_ranges ≡ no_ranges
    ranges = none_sent (not b.receiver.took_syn || b.peer.sack) (acknowledges (next_if_heard b))

-- RESETS

reset_read : (b : Tcb) (pair : FourTuple) (now : ℤ) (window : ℕ) → normal (reset_segment b pair now window) ≡ reset_segment b pair now window
reset_read b pair now window = λ k. record (reset_segment b pair now window) {
  options = record no_options { timestamp = tsval_of b now; sack_ranges = none_sent false (acknowledges (next_if_heard b)) k };
}

refusal_read : (header : TcpHeader) (size : ℕ) → normal (reset_for header size) ≡ reset_for header size
refusal_read header size = λ k. record (reset_for header size) {
  options = record no_options {
    sack_ranges = none_sent false (acknowledges (reset_ack header.ack_number header.control header.seq_number size)) k;
  };
}

-- OFFERS

abbrev IsRead : Option OpenOffer → Type 0
IsRead None = Unit {0}
IsRead (Some o) = normal o.segment ≡ o.segment

module _ (cx : ContextValue) (v : TcpValue) where
  abbrev Read : Offered TcpValue → Type 0
  Read offered = IsRead offered.socket.offered

  last_read : (pair : FourTuple) (b : Tcb) → LastRules cx pair Read (with_tcb (unoffered v) b)
  last_read pair b = record {
    probe = λ _ _. refl;
    window_limited = λ _ _. refl;
    ack = λ _. refl;
    update = λ _ _. refl;
    keep_alive = λ _ _. refl;
    quiet = λ _. tt;
  }

  first_read : (pair : FourTuple) (b : Tcb) → FirstRules cx pair Read (with_tcb (unoffered v) b)
  first_read pair b = record {
    syn = λ _. syn_read b pair cx.instant cx.ip_mtu _ _;
    again = λ _ _. refl;
    payload = λ _ _. refl;
    last = λ _. last_read pair _;
  }

  offer_read : Read (offer_of cx v)
  offer_read = by_rules cx v Read (record {
    nobody = λ _. tt;
    time_wait = λ _. tt;
    timeout = λ _. tt;
    closed = λ _. tt;
    reset = λ pair _ _. reset_read v.tcb pair cx.instant (window_of v);
    falls = λ _ _ _. tt;
    over = λ _ _ _. tt;
    backs = λ pair _ _ _. first_read pair _;
    probes = λ pair _ _ _ _. first_read pair _;
    goes = λ pair _ _ _. first_read pair _;
  })

pub offers_read : (cx : ContextValue) (v : TcpValue) (o : OpenOffer) → (offer_of cx v).socket.offered ≡ Some o → normal o.segment ≡ o.segment
offers_read cx v o e = subst IsRead e (offer_read cx v)

-- RANGES

-- one that is there has none missing before it
closed : (next : SeqNumber) (first : Option (ℕ × ℕ)) (rest : List (ℕ × ℕ)) → is_some first ≡ true →
    closed_up (map (numbers_of next) (first ∷ first_two rest)) ≡ map (numbers_of next) (first ∷ first_two rest)
closed next None rest e = clash (sym e)
closed next (Some run) [] e = refl
closed next (Some run) (one ∷ []) e = refl
closed next (Some run) (one ∷ other ∷ rest) e = refl

-- an offset that is held lies in a run
found : (runs : List (ℕ × ℕ)) (offset : ℕ) → is_held runs offset ≡ true → is_some (run_at runs offset) ≡ true
found [] offset e = e
found (run ∷ runs) offset e = by (lies_in offset run) (λ held. found runs offset held) e where
  by : (here : Bool) → (is_held runs offset ≡ true → is_some (run_at runs offset) ≡ true) → (here || is_held runs offset) ≡ true
      → is_some (if here then Some run else run_at runs offset) ≡ true
  by true rest e = refl
  by false rest e = rest e

ranges_closed : (v : TcpValue) (offset : ℕ) → is_held (runs_of v.received.map) offset ≡ true → closed_up (sack_blocks v offset) ≡ sack_blocks v offset
ranges_closed v offset held =
    let runs = runs_of v.received.map in
    cond_both v.tcb.peer.sack (map (numbers_of v.tcb.receiver.next) (run_at runs offset ∷ first_two (others offset runs))) no_ranges
    (λ (ranges : List (Option (ℕ × ℕ))). closed_up ranges ≡ ranges)
    (λ _. closed v.tcb.receiver.next (run_at runs offset) (others offset runs) (found runs offset held)) (λ _. refl)

-- TEXT

-- the place of payload that is held early is held
abbrev Holds : DataStored → Type 0
Holds t = (offset : ℕ) → t.early ≡ Some offset → is_held (runs_of t.socket.received.map) offset ≡ true

unheld : (t : DataStored) → t.early ≡ None → Holds t
unheld t none offset e = absurd (let it : None ≡ Some offset = sym none ∙ e in cc)

second : (a b : Bool) → (a && b) ≡ true → b ≡ true
second true b e = e
second false b e = clash (sym e)

laid_holds : (map : List (Option ℕ)) (offset : ℕ) (bytes : List ℕ) → (not (length bytes == 0) && nat_lt offset (length map)) ≡ true →
    is_held (runs_of (store map offset bytes)) offset ≡ true
laid_holds map offset [] e = clash (sym e)
laid_holds map offset (byte ∷ bytes) e =
    is_held-store map offset byte bytes (ltb-true offset (length map) (second (not (length (byte ∷ bytes) == 0)) (nat_lt offset (length map)) e))

early_holds : (v : TcpValue) (offset : ℕ) (map : List (Option ℕ)) → is_held (runs_of map) offset ≡ true → Holds (out_of_order v offset map)
early_holds v offset map held =
    cond_both (nat_le (length (runs_of map)) 32)
    (data_stored (record v { received = received_of v.received.waiting map v.received.start }) 0 false (Some offset)) (data_stored v 0 false None) Holds
    (λ _ at e. let it : offset ≡ at = by offset at e in subst (λ (n : ℕ). is_held (runs_of map) n ≡ true) it held) (λ _. unheld (data_stored v 0 false None) refl)
  where
    by : (a b : ℕ) → Some a ≡ Some b → a ≡ b
    by a b e = cc

payload_holds : (v : TcpValue) (header : TcpHeader) (bytes : List ℕ) → Holds (with_payload v header bytes)
payload_holds v header bytes =
    cond_both (accepts_data v.tcb.state && has_new_payload v offset rest) (with_bytes_at v offset rest) (data_stored v 0 false None) Holds
    (λ new.
    cond_both (offset == 0) (taken_in_order v (laid v offset rest)) (out_of_order v offset (laid v offset rest)) Holds
    (λ _. unheld (taken_in_order v (laid v offset rest)) refl)
    (λ _.
    early_holds v offset (laid v offset rest)
    (laid_holds v.received.map offset rest (second (accepts_data v.tcb.state) (has_new_payload v offset rest) new))))
    (λ _. unheld (data_stored v 0 false None) refl)
  where
    offset : ℕ
    offset = distance_after v.tcb.receiver.next header.seq_number

    rest : List ℕ
    rest = drop (distance_before v.tcb.receiver.next header.seq_number) bytes

-- ANSWERS

abbrev IsReadReply : Option Reply → Type 0
IsReadReply None = Unit {0}
IsReadReply (Some reply) = normal reply.segment ≡ reply.segment

abbrev Answers : Arrived → Type 0
Answers a = IsReadReply a.answer

module _ (cx : ContextValue) (ip : IpRepr) (header : TcpHeader) where
  either : (t : Bool) (a b : Arrived) → Answers a → Answers b → Answers (if t then a else b)
  either true a b ra rb = ra
  either false a b ra rb = rb

  acked_read : (v : TcpValue) (ranges : List (Option (ℕ × ℕ))) → closed_up ranges ≡ ranges → Answers (acked cx v ip header ranges)
  acked_read v ranges e = λ k. sack_segment v.tcb (pair_in ip header) cx.instant (window_of v) (e k)

  bare_read : (v : TcpValue) → Answers (acked cx v ip header no_ranges)
  bare_read v = acked_read v no_ranges refl

  drawn_read : (v : TcpValue) → Answers (drawn cx v ip header)
  drawn_read v =
      either (may_challenge cx.instant v.tcb.timers.challenges_from) (acked cx (with_draw v cx.instant) ip header no_ranges) (dropped v)
      (bare_read (with_draw v cx.instant)) tt

  outside_read : (v : TcpValue) (again : Bool) → Answers (outside cx v ip header again)
  outside_read v again =
      let w = waiting_anew v header cx.instant in
      either (is_closed v.tcb.state) (dropped v) (if again then acked cx w ip header no_ranges else drawn cx w ip header) tt
      (either again (acked cx w ip header no_ranges) (drawn cx w ip header) (bare_read w) (drawn_read w))

  passed_read : (v : TcpValue) (size by : ℕ) → Answers (passed_outside cx v ip header size by)
  passed_read v size by =
      let w = acknowledged (tsecr_heard v header by cx.instant) by cx.instant in
      either (is_before_window v header size) (outside cx w ip header (has_length header size)) (outside cx v ip header false)
      (outside_read w (has_length header size)) (outside_read v false)

  answer_read : (v : TcpValue) (size : ℕ) (fills : Bool) (early : Option ℕ) →
      ((offset : ℕ) → early ≡ Some offset → is_held (runs_of v.received.map) offset ≡ true) → Answers (answer_for cx v ip header size fills early)
  answer_read v size fills None held =
      either (answers_at_once cx v.tcb ip header size) (acked cx v ip header no_ranges)
      (dropped (with_tcb v (ack_due v.tcb header size fills cx.instant))) (bare_read v) tt
  answer_read v size fills (Some offset) held = acked_read v (sack_blocks v offset) (ranges_closed v offset (held offset refl))

  content_read : (v : TcpValue) (bytes : List ℕ) → Answers (with_content cx v ip header bytes)
  content_read v bytes =
      let t = with_payload v header bytes in
      let y = with_tcb t.socket (probe_kept (with_fin t.socket.tcb v.tcb header (length bytes) t.advance cx.instant) (queued_in t.socket)) in
      answer_read y (length bytes) t.fills t.early (payload_holds v header bytes)

  taken_read : (v : TcpValue) (bytes : List ℕ) (by : ℕ) → Answers (taken cx v ip header bytes by)
  taken_read v bytes by =
      let u = acknowledged (tsecr_heard v header by cx.instant) by cx.instant in
      let w = told u header (duplicates_after v.tcb header (length bytes) by) cx.instant in
      either (is_closed u.tcb.state) (dropped u) (with_content cx w ip header bytes) tt (content_read w bytes)

  inside_read : (v : TcpValue) (bytes : List ℕ) (by : ℕ) → Answers (inside cx v ip header bytes by)
  inside_read v bytes by =
      either (is_syn header.control) (drawn cx v ip header) (taken cx v ip header bytes by) (drawn_read v) (taken_read v bytes by)

  checked_read : (c : Check) (v : TcpValue) (bytes : List ℕ) → Answers (checked c cx v ip header bytes)
  checked_read (Passes by) v bytes =
      either (is_in_window v.tcb (free_in v) header (length bytes)) (inside cx v ip header bytes by) (passed_outside cx v ip header (length bytes) by)
      (inside_read v bytes by) (passed_read v (length bytes) by)
  checked_read Old v bytes =
      let w = with_tcb v (tsval_taken (heard v.tcb) header cx.instant) in
      either (is_in_window v.tcb (free_in v) header (length bytes)) (with_content cx w ip header bytes)
      (outside cx v ip header (is_repeated v header (length bytes))) (content_read w bytes) (outside_read v (is_repeated v header (length bytes)))
  checked_read Drops v bytes = tt
  checked_read Draws v bytes = drawn_read v
  checked_read Resets v bytes = refusal_read header (length bytes)

  reset_arrives_read : (v : TcpValue) (size : ℕ) → Answers (reset_arrives cx v ip header size)
  reset_arrives_read v size =
      either (takes_reset v.tcb header) (dropped (taken_down v)) (if challenges_reset v header size then drawn cx v ip header else dropped v) tt
      (either (challenges_reset v header size) (drawn cx v ip header) (dropped v) (drawn_read v) tt)

  received_read : (v : TcpValue) (bytes : List ℕ) → Answers (received cx v ip header bytes)
  received_read v bytes =
      let c = acknowledgement_check v.tcb header.ack_number in
      either (is_rst header.control) (reset_arrives cx v ip header (length bytes))
      (if challenges_first v.tcb header cx.instant then drawn cx v ip header else checked c cx v ip header bytes) (reset_arrives_read v (length bytes))
      (either (challenges_first v.tcb header cx.instant) (drawn cx v ip header) (checked c cx v ip header bytes) (drawn_read v) (checked_read c v bytes))

  opens_read : (v : TcpValue) → Answers (opens cx v ip header)
  opens_read v = cond_both (is_first_syn header) _ (dropped v) Answers (λ _. tt) (λ _. tt)

  syn_answer_read : (v : TcpValue) (bytes : List ℕ) → Answers (takes_answer cx v ip header bytes)
  syn_answer_read v bytes =
      let wrong = is_some header.ack_number && not (acks_syn v.tcb.sender.una header.ack_number) in
      let taken = dropped (with_tcb v (timeout_restarted (syn_answered v.tcb header cx.instant) cx.instant (queued_in v))) in
      let syn = if is_syn header.control then taken else dropped v in
      let refusal = answered_with v (rst_reply ip header (length bytes)) in
      let reset = if acks_syn v.tcb.sender.una header.ack_number then dropped (ended v) else dropped v in
      either (is_rst header.control) reset (if wrong then refusal else syn)
      (either (acks_syn v.tcb.sender.una header.ack_number) (dropped (ended v)) (dropped v) tt tt)
      (either wrong refusal syn (refusal_read header (length bytes)) (either (is_syn header.control) taken (dropped v) tt tt))

  in_read : (state : State) (v : TcpValue) (bytes : List ℕ) → Answers (arrives_in state cx v ip header bytes)
  in_read In.Closed v bytes = tt
  in_read In.Listen v bytes = opens_read v
  in_read In.SynSent v bytes = syn_answer_read v bytes
  in_read state v bytes = received_read v bytes

  arrival_read : (v : TcpValue) (bytes : List ℕ) → Answers (arrives cx v ip header bytes)
  arrival_read v bytes =
      either (is_void_syn header) (dropped (unoffered v)) (arrives_in v.tcb.state cx (unoffered v) ip header bytes) tt
      (in_read v.tcb.state (unoffered v) bytes)

pub answers_read : (cx : ContextValue) (v : TcpValue) (ip : IpRepr) (header : TcpHeader) (bytes : List ℕ) (reply : Reply) →
    (arrives cx v ip header bytes).answer ≡ Some reply → normal reply.segment ≡ reply.segment
answers_read cx v ip header bytes reply e = subst IsReadReply e (arrival_read cx ip header v bytes)
