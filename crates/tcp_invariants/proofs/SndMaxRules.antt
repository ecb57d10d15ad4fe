-- As long as its user may write, nothing was sent that lies past the send queue: no FIN.
use Rattle.std.proofs.Common.{◌≡◌, ℕ, zero, suc, ◌+◌, ◌-◌, ◌/◌, ◌<◌, ◌≤◌, ◌==◌, ◌&&◌, not, min, max, ℤ, Bool, true, false}
use Rattle.std.proofs.Common.{if◌then◌else◌, List, [], ◌∷◌, length, take, Option, Some, None, is_some, refl, sym, ap, ◌∙◌, subst, arith}
use Rattle.std.proofs.lemmas.Bool.{cond_both, eqb-true, ltb-true}
use Rattle.std.proofs.lemmas.List.{length-drop}
use Rattle.ip_wire.specs.Control.{control_len}
use Rattle.ip_wire.specs.IpRepr.{IpRepr}
use Rattle.ip_wire.specs.Seq.{distance_of}
use Rattle.ip_wire.specs.TcpHeader.{TcpHeader}
use Rattle.net_base.specs.Ring.{anchored, enqueued}
use Rattle.tcp_block.specs.Context.{ContextValue}
use Rattle.tcp_block.specs.BaseOffers.{Offered}
use Rattle.tcp_state.specs.Moments.{is_due, is_over, timeout_from}
use Rattle.tcp_state.specs.States.{is_closed, is_answering, is_opening, is_time_wait, sends_syn, may_send_data, accepts_data, takes_writes, owes_fin}
use Rattle.tcp_state.specs.States.{after_ack, after_ack_of_fin, after_fin, after_close}
use Rattle.tcp_state.specs.declared.endpoints.FourTuple.{FourTuple}
use Rattle.tcp_state.specs.declared.offer.OfferKind.{OfferKind}
use Rattle.tcp_state.specs.declared.offer.OfferKind.TheVariants as Kind
use Rattle.tcp_state.specs.declared.offer.OpenOffer.{OpenOffer}
use Rattle.tcp_state.specs.declared.state.State.{State}
use Rattle.tcp_state.specs.declared.state.State.TheVariants as In
use Rattle.tcp_block.specs.Acknowledged.{acks_fin, freed_by, state_after_ack}
use Rattle.tcp_block.specs.Arrival.{arrives}
use Rattle.tcp_block.specs.TcbRules.{one_if, unacked}
use Rattle.tcp_block.specs.Calls.{listening, connected_by, four_tuple_for, sent_more}
use Rattle.tcp_block.specs.Isn.{number_for}
use Rattle.tcp_block.specs.LossRecovery.{loss_probed}
use Rattle.tcp_block.specs.Offers.{offer_of, number_at}
use Rattle.tcp_block.specs.Probing.{is_probing, is_window_small, probe_deadline}
use Rattle.tcp_block.specs.Retries.{asked, one_more}
use Rattle.tcp_block.specs.Rules.{backed_off_now, control_for, probe_choice, window_limit}
use Rattle.tcp_block.specs.Settled.{end_of, probed, recorded, sent_as, sent_off}
use Rattle.tcp_block.specs.Value.{TcpValue, Arrived, with_tcb, unoffered, ended, queued_in, room_of}
use Rattle.tcp_block.specs.declared.tcb.Tcb.{Tcb}
use Rattle.tcp_block.proofs.Undone.{undone_cases}
use Rattle.tcp_invariants.specs.Events.{Event, Setting, after, led, set as sets}
use Rattle.tcp_invariants.specs.Events.Event.{Comes, Asked, Listens, Connects, Sends, Reads, Closes, Aborts, Sets}
use Rattle.tcp_invariants.specs.Events.Setting.{Timeout, KeepAlive, AckDelay, Nagle, HopLimit, Timestamps, Paused, Retries, Congestion, MinRto, FineTimer}
use Rattle.tcp_invariants.specs.InOrder.{sending_of, IsInOrder, all_of}
use Rattle.tcp_invariants.proofs.ArrivalCases.{timed, by_arrival, Received, Opening, Content, Drawing, acked_open}
use Rattle.tcp_invariants.proofs.OfferCases.{Rules, FirstRules, LastRules, by_rules, begun, probing}
use Rattle.tcp_invariants.proofs.OrderSteps.{clash, own_distance, one_if_least, backed_order}
use Rattle.tcp_invariants.proofs.OrderRules.{event_order, payload_within, again_within, choice_within, enqueued_least, unset}

-- no FIN was asked for
abbrev pub proceeds : State → Bool
proceeds In.Listen = true
proceeds In.SynSent = true
proceeds In.SynReceived = true
proceeds In.Established = true
proceeds In.CloseWait = true
proceeds other = false

pub record Sent : Type 0 where
  pub state : State
  pub syn : Bool
  pub snd_max : ℕ
  pub queued : ℕ

abbrev pub sent_of : TcpValue → Sent
sent_of v = record { state = v.tcb.state; syn = v.tcb.sender.syn_unacked; snd_max = v.tcb.sender.snd_max; queued = queued_in v }

abbrev pub Within : Sent → Type 0
Within s = proceeds s.state ≡ true → s.snd_max ≤ one_if s.syn + s.queued

left_true : (a b : Bool) → (a && b) ≡ true → a ≡ true
left_true true b e = refl
left_true false b e = clash (sym e)

right_true : (a b : Bool) → (a && b) ≡ true → b ≡ true
right_true true b e = e
right_true false b e = clash (sym e)

least : (n : ℕ) → 0 ≤ n
least n = omega arith

-- AN ACKNOWLEDGEMENT

acked_state : (state : State) → proceeds (after_ack state) ≡ true → proceeds state ≡ true
acked_state In.Listen e = refl
acked_state In.SynSent e = refl
acked_state In.SynReceived e = refl
acked_state In.Established e = refl
acked_state In.CloseWait e = refl
acked_state In.FinWait1 e = clash (sym e)
acked_state In.FinWait2 e = clash (sym e)
acked_state In.Closing e = clash (sym e)
acked_state In.LastAck e = clash (sym e)
acked_state In.TimeWait e = clash (sym e)
acked_state In.Closed e = clash (sym e)

-- the acknowledgement of a FIN
fin_state : (state : State) → owes_fin state ≡ true → proceeds (after_ack_of_fin state) ≡ true → proceeds state ≡ true
fin_state In.FinWait1 owes e = clash (sym e)
fin_state In.Closing owes e = clash (sym e)
fin_state In.LastAck owes e = clash (sym e)
fin_state other owes e = clash (sym owes)

pub state_before : (u : TcpValue) (by : ℕ) → proceeds (state_after_ack u.tcb by (queued_in u)) ≡ true → proceeds u.tcb.state ≡ true
state_before u by =
    cond_both (acks_fin u.tcb by (queued_in u)) (after_ack_of_fin u.tcb.state) (after_ack u.tcb.state)
    (λ (s : State). proceeds s ≡ true → proceeds u.tcb.state ≡ true)
    (λ fin e. fin_state u.tcb.state (left_true (owes_fin u.tcb.state) (by == unacked u.tcb (queued_in u)) fin) e)
    (λ _ e. acked_state u.tcb.state e)

acked_within : (syn : Bool) (snd_max queued by : ℕ) → snd_max ≤ one_if syn + queued
    → snd_max - by ≤ one_if (syn && (by == 0)) + (queued - min (by - one_if syn) queued)
acked_within syn snd_max queued by e = at (by == 0) refl where
  none : (snd_max s queued by : ℕ) → by ≡ 0 → snd_max ≤ s + queued → snd_max - by ≤ s + (queued - min (by - s) queued)
  none snd_max s queued by e f = omega arith

  some : (snd_max s queued by : ℕ) → 1 ≤ by → s ≤ 1 → snd_max ≤ s + queued → snd_max - by ≤ 0 + (queued - min (by - s) queued)
  some snd_max s queued by e f g = omega arith

  one : (n : ℕ) → (n == 0) ≡ false → 1 ≤ n
  one zero e = clash e
  one (suc n) e = omega arith

  same : (s : Bool) → (s && true) ≡ s
  same true = refl
  same false = refl

  never : (s : Bool) → (s && false) ≡ false
  never true = refl
  never false = refl

  at : (t : Bool) → (by == 0) ≡ t → snd_max - by ≤ one_if (syn && (by == 0)) + (queued - min (by - one_if syn) queued)
  at true is =
      subst (λ (s : Bool). snd_max - by ≤ one_if s + (queued - min (by - one_if syn) queued)) (sym (ap (λ (t : Bool). syn && t) is ∙ same syn))
      (none snd_max (one_if syn) queued by (eqb-true by 0 is) e)
  at false is =
      subst (λ (s : Bool). snd_max - by ≤ one_if s + (queued - min (by - one_if syn) queued)) (sym (ap (λ (t : Bool). syn && t) is ∙ never syn))
      (some snd_max (one_if syn) queued by (one by is) (one_if_least syn) e)

pub freed_left : (u : TcpValue) (by : ℕ) (now : ℤ) → queued_in (acked_open u by now) ≡ queued_in u - min (by - one_if u.tcb.sender.syn_unacked) (queued_in u)
freed_left u by now = length-drop (freed_by u.tcb by (queued_in u)) u.queued.queue

-- A SEGMENT COMES

module _ (cx : ContextValue) (ip : IpRepr) (header : TcpHeader) (bytes : List ℕ) where
  abbrev WithinAfter : Arrived → Type 0
  WithinAfter a = Within (sent_of a.socket)

  fin_on : (state : State) → accepts_data state ≡ true → proceeds (after_fin state) ≡ true → proceeds state ≡ true
  fin_on In.Established takes e = refl
  fin_on In.FinWait1 takes e = clash (sym e)
  fin_on In.FinWait2 takes e = clash (sym e)
  fin_on other takes e = clash (sym takes)

  within_content : (x : TcpValue) → Within (sent_of x) → Content cx ip header bytes WithinAfter x
  within_content x w = record {
    plain = (λ _. w, w);
    fin = λ _ takes. (λ _. λ e. w (fin_on x.tcb.state takes e), λ e. w (fin_on x.tcb.state takes e));
    ordered = λ _ _ _ _. (λ _. w, w);
    ordered_fin = λ _ _ _ takes. (λ _. λ e. w (fin_on x.tcb.state takes e), λ e. w (fin_on x.tcb.state takes e));
    early = λ _ _ _ _. w;
  }

  within_drawing : (x : TcpValue) → Within (sent_of x) → Drawing cx ip header bytes WithinAfter x
  within_drawing x w = record { answers = λ _. w; at_once = w; pauses = w }

  within_received : (u : TcpValue) → Within (sent_of u) → Received cx ip header bytes WithinAfter u
  within_received u w = record {
    stays = w;
    refuses = w;
    draws = within_drawing u w;
    falls = λ _ _ _ _. least _;
    ends = λ _ _ _ e. clash (sym e);
    closes = λ _ _ _ e. clash (sym e);
    taken = λ by _ _. within_content _ (risen by);
    taken_window = λ by _ _. within_content _ (risen by);
    news = λ by _ _. within_drawing _ (risen by);
    outside = within_drawing _ w;
    old = λ _. within_content _ w;
  }
    where
      heard : (by : ℕ) → Within (sent_of (timed cx.instant header u by))
      heard by =
          undone_cases u.tcb header by (queued_in u) (λ (c : Tcb). Within (sent_of (with_tcb u c))) w (λ _ _ _. w)

      risen : (by : ℕ) → Within (sent_of (acked_open (timed cx.instant header u by) by cx.instant))
      risen by e =
          let x = timed cx.instant header u by in
          subst (λ (n : ℕ). x.tcb.sender.snd_max - by ≤ one_if (x.tcb.sender.syn_unacked && (by == 0)) + n) (sym (freed_left x by cx.instant))
          (acked_within x.tcb.sender.syn_unacked x.tcb.sender.snd_max (queued_in x) by (heard by (state_before x by e)))

  within_opening : (u : TcpValue) → Within (sent_of u) → Opening cx ip header bytes WithinAfter u
  within_opening u w = record {
    opens = λ _ _ _. least _;
    refuses = w;
    ends = λ _ e. clash (sym e);
    connects = λ at _ _.
        subst (λ (s : Bool). u.tcb.sender.snd_max - 1 ≤ one_if s + queued_in u) (sym (never u.tcb.sender.syn_unacked))
        (one_less u.tcb.sender.snd_max (one_if u.tcb.sender.syn_unacked) (queued_in u) (one_if_least u.tcb.sender.syn_unacked) (w (ap proceeds at)));
    crosses = λ at _ _. w (ap proceeds at);
  }
    where
      never : (s : Bool) → (s && (1 == 0)) ≡ false
      never true = refl
      never false = refl

      one_less : (snd_max s queued : ℕ) → s ≤ 1 → snd_max ≤ s + queued → snd_max - 1 ≤ 0 + queued
      one_less snd_max s queued e f = omega arith

  within_arrival : (v : TcpValue) → Within (sent_of v) → WithinAfter (arrives cx v ip header bytes)
  within_arrival v w =
      by_arrival cx ip header bytes WithinAfter v w (λ _. within_opening (unoffered v) w) (λ _. within_received (unoffered v) w)

-- IT IS ASKED

-- where no FIN was asked for none is in the way
no_fin : (state : State) → proceeds state ≡ true → one_if (owes_fin state) ≡ 0
no_fin In.Listen e = refl
no_fin In.SynSent e = refl
no_fin In.SynReceived e = refl
no_fin In.Established e = refl
no_fin In.CloseWait e = refl
no_fin other e = clash (sym e)

-- what ends within all that may be in flight
ends_within : (syn : Bool) (state : State) (snd_max queued end : ℕ) → proceeds state ≡ true → (proceeds state ≡ true → snd_max ≤ one_if syn + queued)
    → end ≤ one_if syn + queued + one_if (owes_fin state) → max snd_max end ≤ one_if syn + queued
ends_within syn state snd_max queued end on w e = joined snd_max end (one_if syn + queued) (one_if (owes_fin state)) (w on) e (no_fin state on) where
  joined : (snd_max end all fin : ℕ) → snd_max ≤ all → end ≤ all + fin → fin ≡ 0 → max snd_max end ≤ all
  joined snd_max end all fin e f g = omega arith

asked_within : (v : TcpValue) (b : Tcb) (now : ℤ) → Within (sent_of (with_tcb v b)) → Within (sent_of (with_tcb v (asked b now)))
asked_within v b now w =
    cond_both (is_over now b.timers.counts_from)
    (record b {
      sender = record b.sender { unanswered = one_more b.sender.unanswered };
      timers = record b.timers { counts_from = Some (timeout_from now b.round_trip) };
    })
    b (λ (c : Tcb). Within (sent_of (with_tcb v c))) (λ _. w) (λ _. w)

-- a segment of these kinds raises what was sent
abbrev raises : OfferKind → Bool
raises Kind.Syn = true
raises Kind.FastRetransmission = true
raises Kind.Payload = true
raises Kind.Probe = true
raises other = false

-- what is offered ends within the send queue where no FIN was asked for
abbrev Ends : TcpValue → Option OpenOffer → Type 0
Ends x None = Unit {0}
Ends x (Some o) = raises o.kind ≡ true → end_of x.tcb o ≤ all_of (sending_of x)

sent_within : (kind : OfferKind) (x : TcpValue) (b : Tcb) (o : OpenOffer) → Within (sent_of (with_tcb x b))
    → (raises kind ≡ true → end_of b o ≤ all_of (sending_of (with_tcb x b))) → Within (sent_of (with_tcb x (sent_as kind b o (queued_in x))))
sent_within Kind.Reset x b o w ends = λ e. clash (sym e)
sent_within Kind.Syn x b o w ends = λ on. ends_within b.sender.syn_unacked b.state b.sender.snd_max (queued_in x) (end_of b o) on w (ends refl)
sent_within Kind.FastRetransmission x b o w ends = λ on. ends_within b.sender.syn_unacked b.state b.sender.snd_max (queued_in x) (end_of b o) on w (ends refl)
sent_within Kind.Payload x b o w ends = λ on. ends_within b.sender.syn_unacked b.state b.sender.snd_max (queued_in x) (end_of b o) on w (ends refl)
sent_within Kind.Probe x b o w ends =
    asked_within x (probed b (end_of b o) o.instant) o.instant
    (λ on. ends_within b.sender.syn_unacked b.state b.sender.snd_max (queued_in x) (end_of b o) on w (ends refl))
sent_within Kind.KeepAlive x b o w ends = asked_within x b o.instant w
sent_within other x b o w ends = w

settled_within : (offered : Option OpenOffer) (x : TcpValue) → Within (sent_of x) → Ends x offered → Within (sent_of (sent_off offered x))
settled_within None x w ends = w
settled_within (Some o) x w ends = sent_within o.kind x (recorded x.tcb o (room_of x.received)) o w ends

module _ (cx : ContextValue) where
  abbrev Sound : Offered TcpValue → Type 0
  Sound o = Within (sent_of o.socket) × Ends o.socket o.socket.offered

  sound_last : (pair : FourTuple) (x : TcpValue) → x.offered ≡ None → IsInOrder (sending_of x) → Within (sent_of x) → LastRules cx pair Sound x
  sound_last pair x none p w = record {
    probe = λ due _. (w, λ _. byte due);
    window_limited = λ due _. (w, λ _. payload_within cx pair x p (open_on x.tcb.state (probing_on due)));
    ack = λ _. (w, λ e. clash (sym e));
    update = λ _ _. (w, λ e. clash (sym e));
    keep_alive = λ _ _. (w, λ e. clash (sym e));
    quiet = λ _. (w, subst (Ends x) (sym none) tt);
  }
    where
      open_on : (state : State) → may_send_data state ≡ true → is_closed state ≡ false
      open_on In.Closed e = clash (sym e)
      open_on other e = refl

      probing_on : is_due cx.instant (probe_deadline x.tcb (queued_in x)) ≡ true → may_send_data x.tcb.state ≡ true
      probing_on due = left_true (may_send_data x.tcb.state) _ (unset cx pair (is_probing x.tcb (queued_in x)) x.tcb.timers.probe_at due)

      byte : is_due cx.instant (probe_deadline x.tcb (queued_in x)) ≡ true
          → distance_of x.tcb.sender.una (number_at x.tcb 0) + (1 + control_len (control_for probe_choice (queued_in x))) ≤ all_of (sending_of x)
      byte due = choice_within x probe_choice p (least _) (queued due) (λ e. clash (sym e)) where
        small : (a b c : ℕ) → a < min b c → 1 ≤ b - 0
        small a b c e = omega arith

        queued : is_due cx.instant (probe_deadline x.tcb (queued_in x)) ≡ true → 1 ≤ queued_in x - 0
        queued due =
            let rest = right_true (may_send_data x.tcb.state) (is_window_small x.tcb (queued_in x) && (x.tcb.sender.flight_size == 0))
            (unset cx pair (is_probing x.tcb (queued_in x)) x.tcb.timers.probe_at due) in
            small (window_limit x.tcb (queued_in x)) (queued_in x) (max 1 (x.tcb.peer.largest_window / 2))
            (ltb-true (window_limit x.tcb (queued_in x)) (min (queued_in x) (max 1 (x.tcb.peer.largest_window / 2)))
            (left_true (is_window_small x.tcb (queued_in x)) (x.tcb.sender.flight_size == 0) rest))

  sound_first : (pair : FourTuple) (w : TcpValue) → w.offered ≡ None → IsInOrder (sending_of w) → is_closed w.tcb.state ≡ false
      → Within (sent_of w) → FirstRules cx pair Sound w
  sound_first pair w none p alive k = record {
    syn = λ owes. (k, λ _. syn_end (right_true (sends_syn w.tcb.state && not (is_answering w.tcb.state && w.tcb.settings.synack_paused)) _ owes));
    again = λ _ _. (k, λ _. again_within cx pair w p);
    payload = λ _ _. (k, λ _. payload_within cx pair w p alive);
    last = λ _. sound_last pair (probing cx w) none p k;
  }
    where
      one_at_most : (far syn queued owes : ℕ) → far ≡ 0 → syn ≡ 1 → far + (0 + 1) ≤ syn + queued + owes
      one_at_most far syn queued owes e f = omega arith

      syn_end : (w.tcb.sender.syn_unacked && (w.tcb.sender.flight_size == 0)) ≡ true
          → distance_of w.tcb.sender.una w.tcb.sender.una + (0 + 1) ≤ all_of (sending_of w)
      syn_end e =
          one_at_most (distance_of w.tcb.sender.una w.tcb.sender.una) (one_if w.tcb.sender.syn_unacked) (queued_in w) (one_if (owes_fin w.tcb.state))
          (own_distance w.tcb.sender.una p.number) (ap one_if (left_true w.tcb.sender.syn_unacked (w.tcb.sender.flight_size == 0) e))

  sound_rules : (v : TcpValue) → IsInOrder (sending_of v) → Within (sent_of v) → Rules cx v Sound
  sound_rules v p k = record {
    nobody = λ _. (k, tt);
    time_wait = λ _. (λ e. clash (sym e), tt);
    timeout = λ _. (λ e. clash (sym e), tt);
    closed = λ _. (k, tt);
    reset = λ _ _ _. (k, λ e. clash (sym e));
    falls = λ _ _ _. (λ _. least _, tt);
    over = λ _ _ _. (λ e. clash (sym e), tt);
    backs = λ pair _ on _.
        sound_first pair (with_tcb (unoffered v) (backed_off_now (begun cx v))) refl (backed_order (sending_of v) p) on.alive k;
    probes = λ pair _ on _ _. sound_first pair (with_tcb (unoffered v) (loss_probed (begun cx v))) refl p on.alive k;
    goes = λ pair _ on _. sound_first pair (with_tcb (unoffered v) (begun cx v)) refl p on.alive k;
  }

  sound_offer : (v : TcpValue) → IsInOrder (sending_of v) → Within (sent_of v) → Sound (offer_of cx v)
  sound_offer v p k = by_rules cx v Sound (sound_rules v p k)

-- EVENTS

connected_within : (v : TcpValue) (names : Option FourTuple) (number : ℕ) → Within (sent_of v) → Within (sent_of (connected_by v names number))
connected_within v None number w = w
connected_within v (Some pair) number w = λ _. least _

set_within : (v : TcpValue) (setting : Setting) → Within (sent_of v) → Within (sent_of (sets v setting))
set_within v (Timeout duration) w = w
set_within v (KeepAlive interval) w = w
set_within v (AckDelay duration) w = w
set_within v (Nagle enabled) w = w
set_within v (HopLimit limit) w = w
set_within v (Timestamps generator) w = w
set_within v (Paused paused) w = w
set_within v (Retries limit) w = w
set_within v (MinRto duration) w = w
set_within v (FineTimer fine) w = w
set_within v (Congestion control) w = w

pub event_within : (v : TcpValue) (it : Event) → IsInOrder (sending_of v) → Within (sent_of v) → Within (sent_of (after v it))
event_within v (Comes cx ip header bytes) p w = within_arrival cx ip header bytes v w
event_within v (Asked cx true) p w =
    let it = sound_offer cx v p w in settled_within (offer_of cx v).socket.offered (unoffered (offer_of cx v).socket) it.0 it.1
event_within v (Asked cx false) p w = (sound_offer cx v p w).0
event_within v (Listens endpoint) p w =
    cond_both (is_closed v.tcb.state && not (endpoint.port == 0)) (listening v endpoint) (unoffered v) (λ (x : TcpValue). Within (sent_of x))
    (λ _ _. least _) (λ _. w)
event_within v (Connects cx remote local) p w =
    cond_both (is_closed v.tcb.state) (connected_by v (four_tuple_for cx remote local) (number_for cx (four_tuple_for cx remote local))) (unoffered v)
    (λ (x : TcpValue). Within (sent_of x))
    (λ _. connected_within v (four_tuple_for cx remote local) (number_for cx (four_tuple_for cx remote local)) w) (λ _. w)
event_within v (Sends bytes) p w =
    cond_both (takes_writes v.tcb.state) (sent_more v (enqueued (anchored v.queued) (take (min (length bytes) (length v.queued.free)) bytes))) (unoffered v)
    (λ (x : TcpValue). Within (sent_of x))
    (λ _ on.
    more v.tcb.sender.snd_max (one_if v.tcb.sender.syn_unacked) (queued_in v) _ (w on)
    (enqueued_least v.queued (take (min (length bytes) (length v.queued.free)) bytes)))
    (λ _. w)
  where
    more : (snd_max syn a b : ℕ) → snd_max ≤ syn + a → a ≤ b → snd_max ≤ syn + b
    more snd_max syn a b e f = omega arith
event_within v (Reads count) p w = w
event_within v Closes p w =
    cond_both (is_opening v.tcb.state) (ended (unoffered v)) (with_tcb (unoffered v) (record v.tcb { state = after_close v.tcb.state }))
    (λ (x : TcpValue). Within (sent_of x)) (λ _ e. clash (sym e)) (λ _ e. w (closing v.tcb.state e))
  where
    closing : (state : State) → proceeds (after_close state) ≡ true → proceeds state ≡ true
    closing In.Listen e = refl
    closing In.SynSent e = refl
    closing In.SynReceived e = refl
    closing In.Established e = refl
    closing In.CloseWait e = refl
    closing other e = e
event_within v Aborts p w =
    cond_both (is_time_wait v.tcb.state) (ended (unoffered v))
    (with_tcb (unoffered v) (record v.tcb { state = In.Closed; sender = record v.tcb.sender { reset_due = is_some v.tcb.names.pair } }))
    (λ (x : TcpValue). Within (sent_of x)) (λ _ e. clash (sym e)) (λ _ e. clash (sym e))
event_within v (Sets setting) p w = set_within v setting w

pub led_within : (v : TcpValue) (events : List Event) → IsInOrder (sending_of v) → Within (sent_of v) → Within (sent_of (led v events))
led_within v [] p w = w
led_within v (it ∷ more) p w = led_within (after v it) more (event_order v it p) (event_within v it p w)
