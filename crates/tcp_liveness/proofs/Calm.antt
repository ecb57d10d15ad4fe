-- What an arrival and an offer leave of a connection: no more isn't acknowledged, and no less was taken.
use Rattle.std.proofs.Common.{◌≡◌, ℕ, ◌+◌, ◌-◌, ◌≤◌, ◌==◌, ◌&&◌, ℤ, Bool, true, false, if◌then◌else◌, List, ◌++◌, length, drop}
use Rattle.std.proofs.Common.{Option, Some, None, refl, sym, ap, ◌∙◌, subst, arith, length-append, length-drop}
use Rattle.std.proofs.lemmas.Bool.{cond_both}
use Rattle.ip_wire.specs.IpRepr.{IpRepr}
use Rattle.ip_wire.specs.Tcp.{header_len}
use Rattle.ip_wire.specs.TcpHeader.{TcpHeader}
use Rattle.tcp_theory.specs.ReceiveMap.{front, following}
use Rattle.tcp_refinement.specs.Context.{ContextValue}
use Rattle.tcp_refinement.specs.Offers.{Offered}
use Rattle.tcp_invariants.specs.FourTuple.{FourTuple}
use Rattle.tcp_invariants.specs.Endpoints.{header_for}
use Rattle.tcp_invariants.specs.Moments.{is_over, timeout_from}
use Rattle.tcp_invariants.specs.OfferKind.{OfferKind}
use Rattle.tcp_invariants.specs.OfferKind.TheVariants as Kind
use Rattle.tcp_invariants.specs.OpenOffer.{OpenOffer}
use Rattle.tcp_invariants.specs.State.{State}
use Rattle.tcp_invariants.specs.State.TheVariants as In
use Rattle.tcp_invariants.specs.States.{is_answering, is_closed, owes_fin, after_ack, after_ack_of_fin, after_fin}
use Rattle.tcp_invariants.proofs.ArrivalCases.{by_arrival, Received, Opening, Content, Drawing, acked_open, heeded, timed}
use Rattle.tcp_invariants.proofs.OfferCases.{FirstRules, by_rules, begun, probing}
use Rattle.tcp_invariants.proofs.OrderSteps.{clash}
use Rattle.tcp_block.specs.Acknowledged.{acks_fin, freed_by, state_after_ack, windowed}
use Rattle.tcp_block.specs.Arrival.{arrives, waiting_anew}
use Rattle.tcp_block.specs.declared.tcb.Tcb.{Tcb}
use Rattle.tcp_block.specs.TcbRules.{one_if}
use Rattle.tcp_block.specs.LossRecovery.{loss_probed}
use Rattle.tcp_block.specs.Offers.{number_at, offer_of}
use Rattle.tcp_block.specs.Retries.{asked, heard, one_more}
use Rattle.tcp_block.specs.Rules.{backed_off_now, control_for, probe_choice}
use Rattle.tcp_block.specs.Segments.{hop_limit_of, keep_alive_segment, segment, tsval_by, tsval_of}
use Rattle.tcp_block.specs.Settled.{end_of, probed, recorded, settled}
use Rattle.tcp_block.specs.Timestamps.{tsval_taken}
use Rattle.tcp_block.specs.Value.{TcpValue, Arrived, with_tcb, unoffered, free_in, queued_in, room_of, window_of}
use Rattle.tcp_liveness.specs.Sent.{is_early}
use Rattle.tcp_liveness.proofs.Stampless.{tsval_in}
use Rattle.tcp_liveness.proofs.WindowSteps.{as_large}

-- what waits for the other, and what came
pub record Load : Type 0 where
  pub state : State
  pub syn : ℕ
  pub queued : ℕ
  pub waiting : ℕ
  pub took_fin : Bool
  pub room : ℕ
  pub stamps : Bool
  pub timeout : Option ℕ
  pub retries : Option ℕ

abbrev pub load_of : TcpValue → Load
load_of v = record {
  state = v.tcb.state;
  syn = one_if v.tcb.sender.syn_unacked;
  queued = queued_in v;
  waiting = length v.received.waiting;
  took_fin = v.tcb.receiver.took_fin;
  room = room_of v.received;
  stamps = v.tcb.peer.timestamps;
  timeout = v.tcb.settings.timeout;
  retries = v.tcb.settings.retries;
}

-- no connection is opened, none that is over comes back, no more waits for the other, and no less came
pub record IsCalm (old new : Load) : Type 0 where
  pub early : is_early old.state ≡ false → is_early new.state ≡ false
  pub closed : is_closed old.state ≡ true → is_closed new.state ≡ true
  pub left : new.syn + new.queued + one_if (owes_fin new.state) ≤ old.syn + old.queued + one_if (owes_fin old.state)
  pub came : old.waiting + one_if old.took_fin ≤ new.waiting + one_if new.took_fin
  pub syn : new.syn ≤ old.syn
  pub room : new.room ≡ old.room
  pub stamps : new.stamps ≡ old.stamps
  pub timeout : new.timeout ≡ old.timeout
  pub retries : new.retries ≡ old.retries

same_load : (n : ℕ) → n ≤ n
same_load n = omega arith

upto : (a b c : ℕ) → a ≤ b → b ≤ c → a ≤ c
upto a b c e f = omega arith

pub calm : (x : Load) → IsCalm x x
calm x = record {
  early = λ e. e;
  closed = λ e. e;
  left = same_load _;
  came = same_load _;
  syn = same_load x.syn;
  room = refl;
  stamps = refl;
  timeout = refl;
  retries = refl;
}

pub then_calm : (x y z : Load) → IsCalm x y → IsCalm y z → IsCalm x z
then_calm x y z c d = record {
  early = λ e. d.early (c.early e);
  closed = λ e. d.closed (c.closed e);
  left =
      upto (z.syn + z.queued + one_if (owes_fin z.state)) (y.syn + y.queued + one_if (owes_fin y.state))
      (x.syn + x.queued + one_if (owes_fin x.state)) d.left c.left;
  came = upto (x.waiting + one_if x.took_fin) (y.waiting + one_if y.took_fin) (z.waiting + one_if z.took_fin) c.came d.came;
  syn = upto z.syn y.syn x.syn d.syn c.syn;
  room = d.room ∙ c.room;
  stamps = d.stamps ∙ c.stamps;
  timeout = d.timeout ∙ c.timeout;
  retries = d.retries ∙ c.retries;
}

-- the connection is over
ended_calm : (x : Load) → IsCalm x (record x { state = In.Closed })
ended_calm x = record {
  early = λ _. refl;
  closed = λ _. refl;
  left = less x.syn x.queued (one_if (owes_fin x.state));
  came = same_load _;
  syn = same_load x.syn;
  room = refl;
  stamps = refl;
  timeout = refl;
  retries = refl;
}
  where
    less : (a b c : ℕ) → a + b + 0 ≤ a + b + c
    less a b c = omega arith

one_most : (t : Bool) → one_if t ≤ 1
one_most true = omega arith
one_most false = omega arith

-- STATES

ack_owes : (state : State) → one_if (owes_fin (after_ack state)) ≤ one_if (owes_fin state)
ack_owes In.SynReceived = omega arith
ack_owes other = same_load _

fin_owes : (state : State) → one_if (owes_fin (after_ack_of_fin state)) ≤ one_if (owes_fin state)
fin_owes In.FinWait1 = omega arith
fin_owes In.Closing = omega arith
fin_owes In.LastAck = omega arith
fin_owes other = same_load _

acked_owes : (b : Tcb) (by queued : ℕ) → one_if (owes_fin (state_after_ack b by queued)) ≤ one_if (owes_fin b.state)
acked_owes b by queued =
    cond_both (acks_fin b by queued) (after_ack_of_fin b.state) (after_ack b.state) (λ (state : State). one_if (owes_fin state) ≤ one_if (owes_fin b.state))
    (λ _. fin_owes b.state) (λ _. ack_owes b.state)

after_fin_owes : (state : State) → one_if (owes_fin (after_fin state)) ≤ one_if (owes_fin state)
after_fin_owes In.Established = omega arith
after_fin_owes In.FinWait1 = omega arith
after_fin_owes In.FinWait2 = omega arith
after_fin_owes other = same_load _

ack_early : (state : State) → is_early state ≡ false → is_early (after_ack state) ≡ false
ack_early In.SynReceived e = refl
ack_early other e = e

ack_of_fin_early : (state : State) → is_early state ≡ false → is_early (after_ack_of_fin state) ≡ false
ack_of_fin_early In.FinWait1 e = refl
ack_of_fin_early In.Closing e = refl
ack_of_fin_early In.LastAck e = refl
ack_of_fin_early other e = e

acked_early : (b : Tcb) (by queued : ℕ) → is_early b.state ≡ false → is_early (state_after_ack b by queued) ≡ false
acked_early b by queued e =
    cond_both (acks_fin b by queued) (after_ack_of_fin b.state) (after_ack b.state) (λ (state : State). is_early state ≡ false)
    (λ _. ack_of_fin_early b.state e) (λ _. ack_early b.state e)

after_fin_early : (state : State) → is_early state ≡ false → is_early (after_fin state) ≡ false
after_fin_early In.Established e = refl
after_fin_early In.FinWait1 e = refl
after_fin_early In.FinWait2 e = refl
after_fin_early other e = e

fin_closed : (state : State) → is_closed state ≡ true → is_closed (after_fin state) ≡ true
fin_closed In.Closed e = refl
fin_closed In.Established e = clash (sym e)
fin_closed In.FinWait1 e = clash (sym e)
fin_closed In.FinWait2 e = clash (sym e)
fin_closed other e = clash (sym e)

acked_closed : (b : Tcb) (by queued : ℕ) → is_closed b.state ≡ true → is_closed (state_after_ack b by queued) ≡ true
acked_closed b by queued e =
    cond_both (acks_fin b by queued) (after_ack_of_fin b.state) (after_ack b.state) (λ (state : State). is_closed state ≡ true)
    (λ _. one b.state e) (λ _. two b.state e)
  where
    one : (state : State) → is_closed state ≡ true → is_closed (after_ack_of_fin state) ≡ true
    one In.Closed e = refl
    one In.FinWait1 e = clash (sym e)
    one In.Closing e = clash (sym e)
    one In.LastAck e = refl
    one other e = clash (sym e)

    two : (state : State) → is_closed state ≡ true → is_closed (after_ack state) ≡ true
    two In.Closed e = refl
    two In.SynReceived e = clash (sym e)
    two other e = clash (sym e)

early_answering : (state : State) → is_answering state ≡ true → is_early state ≡ true
early_answering In.SynReceived e = refl
early_answering other e = clash (sym e)

and_first : (a b : Bool) → (a && b) ≡ true → a ≡ true
and_first true b e = refl
and_first false b e = e

less_syn : (a b : Bool) → one_if (a && b) ≤ one_if a
less_syn true b = one_most b
less_syn false b = omega arith

drop_less : (n : ℕ) (xs : List ℕ) → length (drop n xs) ≤ length xs
drop_less n xs = subst (λ (m : ℕ). m ≤ length xs) (sym (length-drop n xs)) (less (length xs) n) where
  less : (a b : ℕ) → a - b ≤ a
  less a b = omega arith

-- no timestamp
pub no_tsval : (b : Tcb) (now : ℤ) → b.peer.timestamps ≡ false → tsval_of b now ≡ None
no_tsval b now none = ap (λ (t : Bool). if t then tsval_by b.stamps.generator now b.peer.recent else None) none

-- A SEGMENT COMES

module _ (cx : ContextValue) (ip : IpRepr) (header : TcpHeader) (bytes : List ℕ) (v : TcpValue) (late : is_early v.tcb.state ≡ false) where
  abbrev Calmly : Arrived → Type 0
  Calmly a = IsCalm (load_of v) (load_of a.socket)

  abbrev Since : TcpValue → Type 0
  Since x = IsCalm (load_of v) (load_of x)

  calm_drawing : (x : TcpValue) → Since x → Drawing cx ip header bytes Calmly x
  calm_drawing x c = record { answers = λ _. c; at_once = c; pauses = c }

  fin_calm : (x : Load) → IsCalm x (record x { state = after_fin x.state; took_fin = true })
  fin_calm x = record {
    early = after_fin_early x.state;
    closed = fin_closed x.state;
    left = less x.syn x.queued (one_if (owes_fin (after_fin x.state))) (one_if (owes_fin x.state)) (after_fin_owes x.state);
    came = more x.waiting (one_if x.took_fin) (one_most x.took_fin);
    syn = same_load x.syn;
    room = refl;
    stamps = refl;
    timeout = refl;
    retries = refl;
  }
    where
      less : (a b c d : ℕ) → c ≤ d → a + b + c ≤ a + b + d
      less a b c d e = omega arith

      more : (a b : ℕ) → b ≤ 1 → a + b ≤ a + 1
      more a b e = omega arith

  payload_calm : (x : Load) (waiting room : ℕ) → x.waiting ≤ waiting → room ≡ x.room → IsCalm x (record x { waiting = waiting; room = room })
  payload_calm x waiting room e whole = record {
    early = λ e. e;
    closed = λ e. e;
    left = same_load _;
    came = more x.waiting waiting (one_if x.took_fin) e;
    syn = same_load x.syn;
    room = whole;
    stamps = refl;
    timeout = refl;
    retries = refl;
  }
    where
      more : (a b c : ℕ) → a ≤ b → a + c ≤ b + c
      more a b c e = omega arith

  longer : (xs ys : List ℕ) → length xs ≤ length (xs ++ ys)
  longer xs ys = subst (λ (n : ℕ). length xs ≤ n) (sym (length-append xs ys)) (more (length xs) (length ys)) where
    more : (a b : ℕ) → a ≤ a + b
    more a b = omega arith

  in_order : (x : TcpValue) (map : List (Option ℕ)) → length map ≡ free_in x → IsCalm (load_of x)
      (record (load_of x) {
        waiting = length (x.received.waiting ++ front map);
        room = length (x.received.waiting ++ front map) + length (following map);
      })
  in_order x map is =
      payload_calm (load_of x) (length (x.received.waiting ++ front map)) (length (x.received.waiting ++ front map) + length (following map))
      (longer x.received.waiting (front map)) (as_large map x.received.waiting (free_in x) is)

  calm_content : (x : TcpValue) → Since x → Content cx ip header bytes Calmly x
  calm_content x c = record {
    plain = (λ _. c, c);
    fin = λ _ _. (λ _. then_calm (load_of v) (load_of x) _ c (fin_calm (load_of x)), then_calm (load_of v) (load_of x) _ c (fin_calm (load_of x)));
    ordered = λ map is _ _. (λ _. then_calm (load_of v) (load_of x) _ c (in_order x map is), then_calm (load_of v) (load_of x) _ c (in_order x map is));
    ordered_fin = λ map is _ _. (λ _. both_calm map is, both_calm map is);
    early = λ map _ is _.
        then_calm (load_of v) (load_of x) _ c
        (payload_calm (load_of x) (length x.received.waiting) (length x.received.waiting + length map) (same_load _)
        (ap (λ (n : ℕ). length x.received.waiting + n) is));
  }
    where
      both_calm : (map : List (Option ℕ)) → length map ≡ free_in x → IsCalm (load_of v)
          (record (load_of x) {
            waiting = length (x.received.waiting ++ front map);
            room = length (x.received.waiting ++ front map) + length (following map);
            state = after_fin x.tcb.state;
            took_fin = true;
          })
      both_calm map is =
          let y : Load = record (load_of x) {
            waiting = length (x.received.waiting ++ front map);
            room = length (x.received.waiting ++ front map) + length (following map);
          } in
          then_calm (load_of v) y _ (then_calm (load_of v) (load_of x) y c (in_order x map is)) (fin_calm y)

  acked_calm : (by : ℕ) → Since (acked_open (timed cx.instant header (unoffered v) by) by cx.instant)
  acked_calm by = record {
    early = λ _. acked_early v.tcb by (queued_in v) late;
    closed = acked_closed v.tcb by (queued_in v);
    left =
        less (one_if (v.tcb.sender.syn_unacked && (by == 0))) (length (drop (freed_by v.tcb by (queued_in v)) v.queued.queue))
        (one_if (owes_fin (state_after_ack v.tcb by (queued_in v)))) (one_if v.tcb.sender.syn_unacked) (queued_in v) (one_if (owes_fin v.tcb.state))
        (less_syn v.tcb.sender.syn_unacked (by == 0)) (drop_less (freed_by v.tcb by (queued_in v)) v.queued.queue)
        (acked_owes v.tcb by (queued_in v));
    came = same_load _;
    syn = less_syn v.tcb.sender.syn_unacked (by == 0);
    room = refl;
    stamps = refl;
    timeout = refl;
    retries = refl;
  }
    where
      less : (a b c d e f : ℕ) → a ≤ d → b ≤ e → c ≤ f → a + b + c ≤ d + e + f
      less a b c d e f x y z = omega arith

  calm_received : Received cx ip header bytes Calmly (unoffered v)
  calm_received = record {
    stays = calm _;
    refuses = calm _;
    draws = calm_drawing (unoffered v) (calm _);
    falls = λ _ _ falls. clash (sym (early_answering v.tcb.state (and_first (is_answering v.tcb.state) _ falls)) ∙ late);
    ends = λ _ _ _. ended_calm (load_of v);
    closes = λ by _ _.
        then_calm (load_of v) (load_of (acked_open (timed cx.instant header (unoffered v) by) by cx.instant)) _ (acked_calm by)
        (ended_calm (load_of (acked_open (timed cx.instant header (unoffered v) by) by cx.instant)));
    taken = λ by _ _.
        calm_content (heeded cx.instant header (length bytes) (unoffered v) by (acked_open (timed cx.instant header (unoffered v) by) by cx.instant).tcb)
        (acked_calm by);
    taken_window = λ by _ _.
        calm_content
        (heeded cx.instant header (length bytes) (unoffered v) by
        (windowed (acked_open (timed cx.instant header (unoffered v) by) by cx.instant).tcb header))
        (acked_calm by);
    news = λ by _ _. calm_drawing (waiting_anew (acked_open (timed cx.instant header (unoffered v) by) by cx.instant) header cx.instant) (acked_calm by);
    outside = calm_drawing (waiting_anew (unoffered v) header cx.instant) (calm _);
    old = λ _. calm_content (with_tcb (unoffered v) (tsval_taken (heard v.tcb) header cx.instant)) (calm _);
  }

  calm_opening : Opening cx ip header bytes Calmly (unoffered v)
  calm_opening = record {
    opens = λ at _. clash (sym (ap is_early at) ∙ late);
    refuses = calm _;
    ends = λ at. clash (sym (ap is_early at) ∙ late);
    connects = λ at _. clash (sym (ap is_early at) ∙ late);
    crosses = λ at _. clash (sym (ap is_early at) ∙ late);
  }

  pub arrival_calm : IsCalm (load_of v) (load_of (arrives cx v ip header bytes).socket)
  arrival_calm = by_arrival cx ip header bytes Calmly v (calm _) (λ _. calm_opening) (λ _. calm_received)

-- where timestamps weren't agreed on no answer has one
module _ (cx : ContextValue) (ip : IpRepr) (header : TcpHeader) (bytes : List ℕ) where
  abbrev Bare : Arrived → Type 0
  Bare a = tsval_in a.answer ≡ None

  bare_drawing : (x : TcpValue) → x.tcb.peer.timestamps ≡ false → Drawing cx ip header bytes Bare x
  bare_drawing x none = record { answers = λ _. no_tsval x.tcb cx.instant none; at_once = no_tsval x.tcb cx.instant none; pauses = refl }

  bare_content : (x : TcpValue) → x.tcb.peer.timestamps ≡ false → Content cx ip header bytes Bare x
  bare_content x none = record {
    plain = (λ _. refl, no_tsval x.tcb cx.instant none);
    fin = λ _ _. (λ _. refl, no_tsval x.tcb cx.instant none);
    ordered = λ _ _ _ _. (λ _. refl, no_tsval x.tcb cx.instant none);
    ordered_fin = λ _ _ _ _. (λ _. refl, no_tsval x.tcb cx.instant none);
    early = λ _ _ _ _. no_tsval x.tcb cx.instant none;
  }

  bare_received : (u : TcpValue) → u.tcb.peer.timestamps ≡ false → Received cx ip header bytes Bare u
  bare_received u none = record {
    stays = refl;
    refuses = refl;
    draws = bare_drawing u none;
    falls = λ _ _ _. refl;
    ends = λ _ _ _. refl;
    closes = λ _ _ _. refl;
    taken = λ by _ _. bare_content (heeded cx.instant header (length bytes) u by (acked_open (timed cx.instant header u by) by cx.instant).tcb) none;
    taken_window = λ by _ _.
        bare_content (heeded cx.instant header (length bytes) u by (windowed (acked_open (timed cx.instant header u by) by cx.instant).tcb header)) none;
    news = λ by _ _. bare_drawing (waiting_anew (acked_open (timed cx.instant header u by) by cx.instant) header cx.instant) none;
    outside = bare_drawing (waiting_anew u header cx.instant) none;
    old = λ _. bare_content (with_tcb u (tsval_taken (heard u.tcb) header cx.instant)) none;
  }

  pub answer_bare : (v : TcpValue) → v.tcb.peer.timestamps ≡ false → tsval_in (arrives cx v ip header bytes).answer ≡ None
  answer_bare v none =
      by_arrival cx ip header bytes Bare v refl
      (λ _.
      record { opens = λ _ _. refl; refuses = refl; ends = λ _. refl; connects = λ _ _. refl; crosses = λ _ _. refl })
      (λ _. bare_received (unoffered v) none)

-- AN OFFER

module _ (cx : ContextValue) (v : TcpValue) (late : is_early v.tcb.state ≡ false) where
  abbrev Calm : Offered TcpValue → Type 0
  Calm o = IsCalm (load_of v) (load_of (settled true o.socket))

  asked_calm : (x : TcpValue) (b : Tcb) → IsCalm (load_of v) (load_of (with_tcb x b)) → IsCalm (load_of v) (load_of (with_tcb x (asked b cx.instant)))
  asked_calm x b c =
      cond_both (is_over cx.instant b.timers.counts_from)
      (record b {
        sender = record b.sender { unanswered = one_more b.sender.unanswered };
        timers = record b.timers { counts_from = Some (timeout_from cx.instant b.round_trip) };
      })
      b (λ (b : Tcb). IsCalm (load_of v) (load_of (with_tcb x b))) (λ _. c) (λ _. c)

  abbrev opened_by : OfferKind → TcpValue → FourTuple → TcpHeader → ℕ → ℕ → OpenOffer
  opened_by kind x pair header offset len = record {
    kind = kind;
    instant = cx.instant;
    header = header_for pair.addresses (hop_limit_of x.tcb.settings.hop_limit) (header_len header + len);
    segment = header;
    offset = offset;
    len = len;
  }

  calm_first : (pair : FourTuple) (b : Tcb) → IsCalm (load_of v) (load_of (with_tcb (unoffered v) b)) →
      FirstRules cx pair Calm (with_tcb (unoffered v) b)
  calm_first pair b c = record {
    syn = λ _. c;
    again = λ _ _. c;
    payload = λ _ _. c;
    last = λ _.
        record {
          probe = λ _ _.
              let o = opened_by Kind.Probe x pair
              (segment x.tcb pair cx.instant (window_of x) (control_for probe_choice (queued_in x)) (number_at x.tcb 0)) 0 1 in
              asked_calm x (probed (recorded x.tcb o (room_of x.received)) (end_of (recorded x.tcb o (room_of x.received)) o) cx.instant) c;
          window_limited = λ _ _. c;
          ack = λ _. c;
          update = λ _ _. c;
          keep_alive = λ _ _.
              let o = opened_by Kind.KeepAlive x pair (keep_alive_segment x.tcb pair cx.instant (window_of x)) 0 1 in
              asked_calm x (recorded x.tcb o (room_of x.received)) c;
          quiet = λ _. c;
        };
  }
    where
      x : TcpValue
      x = probing cx (with_tcb (unoffered v) b)

  pub offer_calm : IsCalm (load_of v) (load_of (settled true (offer_of cx v).socket))
  offer_calm =
      by_rules cx v Calm
      (record {
        nobody = λ _. calm _;
        time_wait = λ _. ended_calm (load_of v);
        timeout = λ _. ended_calm (load_of v);
        closed = λ _. calm _;
        reset = λ _ _ _. ended_calm (load_of v);
        falls = λ _ _ falls. clash (sym (early_answering v.tcb.state (and_first (is_answering v.tcb.state) _ falls)) ∙ late);
        over = λ _ _ _. ended_calm (load_of v);
        backs = λ pair _ _ _. calm_first pair (backed_off_now (begun cx v)) (calm _);
        probes = λ pair _ _ _ _. calm_first pair (loss_probed (begun cx v)) (calm _);
        goes = λ pair _ _ _. calm_first pair (begun cx v) (calm _);
      })

  -- one that the link doesn't take
  abbrev Refused : Offered TcpValue → Type 0
  Refused o = IsCalm (load_of v) (load_of (settled false o.socket))

  refuses_first : (pair : FourTuple) (b : Tcb) → IsCalm (load_of v) (load_of (with_tcb (unoffered v) b)) →
      FirstRules cx pair Refused (with_tcb (unoffered v) b)
  refuses_first pair b c = record {
    syn = λ _. c;
    again = λ _ _. c;
    payload = λ _ _. c;
    last = λ _. record { probe = λ _ _. c; window_limited = λ _ _. c; ack = λ _. c; update = λ _ _. c; keep_alive = λ _ _. c; quiet = λ _. c };
  }

  pub refused_calm : IsCalm (load_of v) (load_of (settled false (offer_of cx v).socket))
  refused_calm =
      by_rules cx v Refused
      (record {
        nobody = λ _. calm _;
        time_wait = λ _. ended_calm (load_of v);
        timeout = λ _. ended_calm (load_of v);
        closed = λ _. calm _;
        reset = λ _ _ _. calm _;
        falls = λ _ _ falls. clash (sym (early_answering v.tcb.state (and_first (is_answering v.tcb.state) _ falls)) ∙ late);
        over = λ _ _ _. ended_calm (load_of v);
        backs = λ pair _ _ _. refuses_first pair (backed_off_now (begun cx v)) (calm _);
        probes = λ pair _ _ _ _. refuses_first pair (loss_probed (begun cx v)) (calm _);
        goes = λ pair _ _ _. refuses_first pair (begun cx v) (calm _);
      })
