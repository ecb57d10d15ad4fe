-- A side that starts over goes on whatever its windows are: what they hold back goes at the instant of the probe (RFC 9293, 3.8.6.1).
use Rattle.std.proofs.Common.{◌≡◌, ◌⊎◌, inl, inr, ℕ, zero, suc, ◌+◌, ◌-◌, ◌/◌, ◌<◌, ◌≤◌, ◌==◌, ◌&&◌, ◌||◌, nat_le, nat_lt, not, min, max, ℤ, Bool, true, false}
use Rattle.std.proofs.Common.{if◌then◌else◌, Option, Some, None, is_none, is_some, refl, sym, ap, ◌∙◌, subst, arith}
use Rattle.std.proofs.lemmas.Bool.{eq-eqb, le-leb, lt-ltb, ltb-true, ltb-false, ne_eqb}
use Rattle.tcp_refinement.specs.Context.{ContextValue}
use Rattle.tcp_refinement.specs.Offers.{Offered}
use Rattle.tcp_refinement.proofs.Tied.{if_so, if_not}
use Rattle.tcp_invariants.specs.FourTuple.{FourTuple}
use Rattle.tcp_invariants.specs.Moments.{is_due, timeout_from}
use Rattle.tcp_invariants.specs.OfferKind.TheVariants as Kind
use Rattle.tcp_invariants.specs.States.{owes_fin, may_send_data}
use Rattle.tcp_invariants.proofs.OfferCases.{begun, by_first, probing}
use Rattle.tcp_invariants.proofs.OrderSteps.{clash}
use Rattle.tcp_block.specs.declared.tcb.Tcb.{Tcb}
use Rattle.tcp_block.specs.TcbRules.{one_if, unacked}
use Rattle.tcp_block.specs.LossRecovery.{loss_probe_deadline, loss_probed, loss_probed_by}
use Rattle.tcp_block.specs.Offers.{backed_off, first_rules, last_rules, offer_choice, offer_window_limited, offer_of, offer_syn}
use Rattle.tcp_block.specs.Probing.{is_probe_unset, is_probing, is_window_small, probe_deadline, probe_started}
use Rattle.tcp_block.specs.Rules.{Choice, backed_off_now, congestion_limit, congestion_room, fills_enough, has_payload, is_sendable, may_be_small}
use Rattle.tcp_block.specs.Rules.{next_offset, owes_syn, probe_choice, resend_choice, resends, payload_choice, window_limit}
use Rattle.tcp_block.specs.Value.{TcpValue, queued_in, unoffered, with_tcb}
use Rattle.tcp_block.specs.declared.tcb.CongestionControl.{CongestionControl}
use Rattle.tcp_block.specs.declared.tcb.CongestionControl.TheVariants as Congestion
use Rattle.tcp_liveness.proofs.Resumes.{SendsOut, Starts, StartsWith, both, fin_owed, first, goes, is_retransmitted, idles, limit, no_probe, no_syn}
use Rattle.tcp_liveness.proofs.Resumes.{not_second, or_left, or_right, ran_out, room, some_goes, some_len, to_rules}

parts : (a b : Bool) → (a && b) ≡ true → (a ≡ true) × (b ≡ true)
parts true b e = (refl, e)
parts false b e = clash (sym e)

either : (a b : Bool) {X : Type 0} → (a ≡ true → X) → (b ≡ true → X) → (a || b) ≡ true → X
either true b f g e = f refl
either false b f g e = g e

not_none : (n : ℕ) → not (n == 0) ≡ true → 1 ≤ n
not_none zero e = clash (sym e)
not_none (suc n) e = omega arith

some_not : (n : ℕ) → 1 ≤ n → not (n == 0) ≡ true
some_not n e = ap not (ne_eqb n 0 (never n e)) where
  never : (n : ℕ) → 1 ≤ n → n ≡ 0 → ⊥
  never n e f = absurd (omega arith)

-- THE WINDOWS

-- what both windows leave
abbrev pub widest : CongestionControl → ℕ → ℕ → ℕ
widest Congestion.None most window = window
widest other most window = min most window

abbrev pub most_of : Tcb → ℕ
most_of b = widest b.settings.congestion_control (congestion_room b) (b.peer.window - b.sender.flight_size)

limit_is : (b : Tcb) (size : ℕ) → window_limit b size ≡ min (most_of b) size
limit_is b size = by b.settings.congestion_control where
  three : (a b c : ℕ) → min a (min b c) ≡ min (min a b) c
  three a b c = omega arith

  by : (control : CongestionControl) → congestion_limit control (congestion_room b) (min (b.peer.window - b.sender.flight_size) size) ≡
      min (widest control (congestion_room b) (b.peer.window - b.sender.flight_size)) size
  by Congestion.None = refl
  by other = three (congestion_room b) (b.peer.window - b.sender.flight_size) size

-- a window that isn't closed leaves something
most_some : (b : Tcb) → b.sender.flight_size ≡ 0 → 1 ≤ b.peer.window → 1 ≤ b.reno.cwnd → 1 ≤ most_of b
most_some b none window cwnd = by b.settings.congestion_control where
  alone : (window flight : ℕ) → flight ≡ 0 → 1 ≤ window → 1 ≤ window - flight
  alone window flight e f = omega arith

  less : (cwnd room window flight : ℕ) → cwnd ≤ room → 1 ≤ cwnd → flight ≡ 0 → 1 ≤ window → 1 ≤ min room (window - flight)
  less cwnd room window flight e f g h = omega arith

  by : (control : CongestionControl) → 1 ≤ widest control (congestion_room b) (b.peer.window - b.sender.flight_size)
  by Congestion.None = alone b.peer.window b.sender.flight_size none window
  by other = less b.reno.cwnd (congestion_room b) b.peer.window b.sender.flight_size (room b none) cwnd none window

module _ (cx : ContextValue) (v : TcpValue) (pair : FourTuple) (b : Tcb) (s : StartsWith cx v pair b) where
  abbrev all : ℕ
  all = queued_in v

  abbrev pub payload : Choice
  payload = payload_choice b pair.addresses cx.ip_mtu v.queued

  abbrev pub full : ℕ
  full = limit cx v pair b s

  pub at_una : next_offset b ≡ 0
  at_una = first cx v pair b s

  pub len_is : payload.len ≡ min (most_of b) (min full (all - next_offset b))
  len_is = limit_is b (min full (all - next_offset b))

  -- WHAT MAY GO

  payload_parts : has_payload b pair.addresses cx.ip_mtu v.queued ≡ true → (payload.fin ≡ true) ⊎ ((1 ≤ payload.len) × (1 ≤ all))
  payload_parts e =
      let one = parts (may_send_data b.state) _ e in
      let two = parts (nat_le (one_if b.sender.syn_unacked) b.sender.flight_size) _ one.1 in
      let three = parts (nat_lt b.sender.flight_size (unacked b all)) (is_sendable b all full payload) two.1 in
      either payload.fin (not (payload.len == 0) && rest) (λ fin. inl fin)
      (λ more. let some = not_none payload.len (parts (not (payload.len == 0)) rest more).0 in inr (some, following payload.len some len_is))
      three.1
    where
      rest : Bool
      rest = nat_le full payload.len || (may_be_small b && fills_enough b all payload.len)

      following : (len : ℕ) → 1 ≤ len → len ≡ min (most_of b) (min full (all - next_offset b)) → 1 ≤ all
      following len some is = by len (most_of b) full all (next_offset b) some is where
        by : (len most full all offset : ℕ) → 1 ≤ len → len ≡ min most (min full (all - offset)) → 1 ≤ all
        by len most full all offset e f = omega arith

  pub goes_payload : has_payload b pair.addresses cx.ip_mtu v.queued ≡ true →
      SendsOut cx v (offer_choice Kind.Payload cx (with_tcb (unoffered v) b) pair payload)
  goes_payload e = goes cx v pair b s Kind.Payload payload refl refl (some_goes payload v.queued.queue at_una (payload_parts e))

  -- WHAT IS HELD BACK

  abbrev half : ℕ
  half = b.peer.largest_window / 2

  -- a window that isn't small lets payload go
  payload_where_wide : is_window_small b all ≡ false → has_payload b pair.addresses cx.ip_mtu v.queued ≡ true
  payload_where_wide not_small =
      both (may_send_data b.state) _ s.sends
      (both (nat_le (one_if b.sender.syn_unacked) b.sender.flight_size) _
      (le-leb (one_if b.sender.syn_unacked) b.sender.flight_size (least (one_if b.sender.syn_unacked) b.sender.flight_size (ap one_if s.syn)))
      (both (nat_lt b.sender.flight_size (unacked b all)) _
      (lt-ltb b.sender.flight_size (unacked b all) (below b.sender.flight_size (unacked b all) s.none s.owes)) (sendable all refl)))
    where
      least : (syn m : ℕ) → syn ≡ 0 → syn ≤ m
      least syn m e = omega arith

      below : (flight all : ℕ) → flight ≡ 0 → 1 ≤ all → flight < all
      below flight all e f = omega arith

      wide : min all (max 1 half) ≤ min (most_of b) all
      wide =
          subst (λ (n : ℕ). min all (max 1 half) ≤ n) (limit_is b all)
          (ltb-false (window_limit b all) (min all (max 1 half)) not_small)

      fin_alone : all ≡ 0 → payload.fin ≡ true
      fin_alone none =
          both (owes_fin b.state) (next_offset b + payload.len == all) (fin_owed cx v pair b s none)
          (eq-eqb (next_offset b + payload.len) all
          (ap (λ (len : ℕ). next_offset b + len) len_is
          ∙ nothing (most_of b) full all (next_offset b) none at_una))
        where
          nothing : (most full all offset : ℕ) → all ≡ 0 → offset ≡ 0 → offset + min most (min full (all - offset)) ≡ all
          nothing most full all offset e f = omega arith

      some_payload : 1 ≤ all → 1 ≤ payload.len
      some_payload some =
          subst (λ (n : ℕ). 1 ≤ n) (sym len_is)
          (by (most_of b) all half (min full (all - next_offset b)) some wide (some_len cx v pair b s some))
        where
          by : (most all half piece : ℕ) → 1 ≤ all → min all (max 1 half) ≤ min most all → 1 ≤ piece → 1 ≤ min most piece
          by most all half piece e f g = omega arith

      worth : 1 ≤ all → (nat_le full payload.len || (may_be_small b && fills_enough b all payload.len)) ≡ true
      worth some = by (nat_lt payload.len full) refl where
        enough : payload.len < full → fills_enough b all payload.len ≡ true
        enough less = at (nat_lt (most_of b) all) refl where
          at : (test : Bool) → nat_lt (most_of b) all ≡ test → fills_enough b all payload.len ≡ true
          at true e =
              or_right (next_offset b + payload.len == all) (nat_le half payload.len)
              (le-leb half payload.len
              (large (most_of b) all half full payload.len (next_offset b) wide (ltb-true (most_of b) all e) len_is at_una less))
            where
              large :
                  (most all half full ready offset : ℕ) → min all (max 1 half) ≤ min most all → most < all
                  → ready ≡ min most (min full (all - offset)) → offset ≡ 0 → ready < full → half ≤ ready
              large most all half full ready offset a b c d e = omega arith
          at false e =
              or_left (next_offset b + payload.len == all) (nat_le half payload.len)
              (eq-eqb (next_offset b + payload.len) all
              (whole (most_of b) all full payload.len (next_offset b) (ltb-false (most_of b) all e) len_is at_una less))
            where
              whole : (most all full ready offset : ℕ) → all ≤ most → ready ≡ min most (min full (all - offset)) → offset ≡ 0 → ready < full → offset + ready ≡ all
              whole most all full ready offset a b c d = omega arith

        by : (less : Bool) → nat_lt payload.len full ≡ less →
            (nat_le full payload.len || (may_be_small b && fills_enough b all payload.len)) ≡ true
        by true e =
            or_right (nat_le full payload.len) _
            (both (may_be_small b) (fills_enough b all payload.len)
            (or_right (not b.settings.nagle) (b.sender.flight_size == 0) (eq-eqb b.sender.flight_size 0 s.none))
            (enough (ltb-true payload.len full e)))
        by false e = or_left (nat_le full payload.len) _ (le-leb full payload.len (ltb-false payload.len full e))

      sendable : (n : ℕ) → all ≡ n → is_sendable b all full payload ≡ true
      sendable zero e = or_left payload.fin _ (fin_alone e)
      sendable (suc n) e =
          let some : 1 ≤ all = more n e in
          or_right payload.fin _ (both (not (payload.len == 0)) _ (some_not payload.len (some_payload some)) (worth some))
        where
          more : (n : ℕ) → all ≡ suc n → 1 ≤ all
          more n e = omega arith

  -- where no payload may go, the window holds it back
  pub holds_back : has_payload b pair.addresses cx.ip_mtu v.queued ≡ false → is_probing b all ≡ true
  holds_back none =
      both (may_send_data b.state) _ s.sends
      (both (is_window_small b all) (b.sender.flight_size == 0) (small (is_window_small b all) refl) (eq-eqb b.sender.flight_size 0 s.none))
    where
      small : (test : Bool) → is_window_small b all ≡ test → test ≡ true
      small true e = refl
      small false e = clash (sym (payload_where_wide e) ∙ none)

  -- and goes at its instant
  pub held_goes : is_probing b all ≡ true → 1 ≤ b.reno.cwnd → SendsOut cx v (offer_window_limited cx (with_tcb (unoffered v) b) pair)
  held_goes probes cwnd = at (b.peer.window == 0) refl where
    small : is_window_small b all ≡ true
    small = (parts (is_window_small b all) (b.sender.flight_size == 0) (parts (may_send_data b.state) _ probes).1).0

    some : 1 ≤ all
    some =
        by (window_limit b all) all half (ltb-true (window_limit b all) (min all (max 1 half)) small) where
          by : (limit all half : ℕ) → limit < min all (max 1 half) → 1 ≤ all
          by limit all half e = omega arith

    probe : SendsOut cx v (offer_choice Kind.Probe cx (with_tcb (unoffered v) b) pair probe_choice)
    probe = goes cx v pair b s Kind.Probe probe_choice refl refl (some_goes probe_choice v.queued.queue refl (inr (omega arith, some)))

    open_window : (n : ℕ) → (n == 0) ≡ false → 1 ≤ n
    open_window zero e = clash e
    open_window (suc n) e = omega arith

    held : 1 ≤ b.peer.window → SendsOut cx v (offer_choice Kind.Payload cx (with_tcb (unoffered v) b) pair payload)
    held window =
        goes cx v pair b s Kind.Payload payload refl refl
        (some_goes payload v.queued.queue at_una
        (inr (
          subst (λ (n : ℕ). 1 ≤ n) (sym len_is)
              (by (most_of b) (min full (all - next_offset b)) (most_some b s.none window cwnd) (some_len cx v pair b s some)),
          some,
        )))
      where
        by : (most piece : ℕ) → 1 ≤ most → 1 ≤ piece → 1 ≤ min most piece
        by most piece e f = omega arith

    at : (shut : Bool) → (b.peer.window == 0) ≡ shut →
        SendsOut cx v
        (if shut then offer_choice Kind.Probe cx (with_tcb (unoffered v) b) pair probe_choice
        else offer_choice Kind.Payload cx (with_tcb (unoffered v) b) pair payload)
    at true e = probe
    at false e = held (open_window b.peer.window e)

-- THE FIRST TIME IT IS ASKED

-- nothing is in flight, no timer runs, and where nothing goes the instant of a probe is set
pub record IsSet (cx : ContextValue) (pair : FourTuple) (v x : TcpValue) : Type 0 where
  pub none : x.tcb.sender.flight_size ≡ 0
  pub timer : x.tcb.timers.retransmit_at ≡ None
  pub state : x.tcb.state ≡ v.tcb.state
  pub syn : x.tcb.sender.syn_unacked ≡ v.tcb.sender.syn_unacked
  pub past_iss : x.tcb.sender.past_iss ≡ v.tcb.sender.past_iss
  pub names : x.tcb.names ≡ v.tcb.names
  pub queued : x.queued ≡ v.queued
  pub again : resends x.tcb pair.addresses cx.ip_mtu v.queued ≡ true → 1 ≤ x.tcb.sender.snd_max
  pub set : (resends x.tcb pair.addresses cx.ip_mtu v.queued ≡ true) ⊎ ((has_payload x.tcb pair.addresses cx.ip_mtu v.queued ≡ true)
      ⊎ (is_probing x.tcb (queued_in v) ≡ true → is_some x.tcb.timers.probe_at ≡ true))

-- of another with the same block
of_tcb : (cx : ContextValue) (pair : FourTuple) (v x y : TcpValue) → IsSet cx pair v y → x.tcb ≡ y.tcb → x.queued ≡ v.queued → IsSet cx pair v x
of_tcb cx pair v x y s e q = record {
  none = ap (λ (b : Tcb). b.sender.flight_size) e ∙ s.none;
  timer = ap (λ (b : Tcb). b.timers.retransmit_at) e ∙ s.timer;
  state = ap (λ (b : Tcb). b.state) e ∙ s.state;
  syn = ap (λ (b : Tcb). b.sender.syn_unacked) e ∙ s.syn;
  past_iss = ap (λ (b : Tcb). b.sender.past_iss) e ∙ s.past_iss;
  names = ap (λ (b : Tcb). b.names) e ∙ s.names;
  queued = q;
  again = subst (λ (b : Tcb). resends b pair.addresses cx.ip_mtu v.queued ≡ true → 1 ≤ b.sender.snd_max) (sym e) s.again;
  set =
      subst
      (λ (b : Tcb).
      (resends b pair.addresses cx.ip_mtu v.queued ≡ true) ⊎ ((has_payload b pair.addresses cx.ip_mtu v.queued ≡ true)
      ⊎ (is_probing b (queued_in v) ≡ true → is_some b.timers.probe_at ≡ true)))
      (sym e) s.set;
}

-- the instant is set where one is needed
pub set_probe : (now : ℤ) (all : ℕ) (b : Tcb) → is_probing b all ≡ true → is_some (probe_started now all b).timers.probe_at ≡ true
set_probe now all b probes = by b.timers.probe_at refl where
  unset : is_probe_unset b all ≡ is_none b.timers.probe_at
  unset = ap (λ (t : Bool). t && is_none b.timers.probe_at) probes

  by : (instant : Option ℤ) → b.timers.probe_at ≡ instant →
      is_some (if is_probe_unset b all then Some (timeout_from now b.round_trip) else b.timers.probe_at) ≡ true
  by None e =
      ap (λ (t : Bool). is_some (if t then Some (timeout_from now b.round_trip) else b.timers.probe_at)) (unset ∙ ap is_none e)
  by (Some m) e =
      ap (λ (t : Bool). is_some (if t then Some (timeout_from now b.round_trip) else b.timers.probe_at)) (unset ∙ ap is_none e) ∙ ap is_some e

module _ (cx : ContextValue) (v : TcpValue) (pair : FourTuple) (named : v.tcb.names.pair ≡ Some pair) (m : Starts cx v)
    (sends : may_send_data v.tcb.state ≡ true) (sent : resends v.tcb pair.addresses cx.ip_mtu v.queued ≡ true → 1 ≤ v.tcb.sender.snd_max)
    (runs : is_due cx.instant v.tcb.timers.retransmit_at ≡ false → v.tcb.timers.retransmit_at ≡ None) where
  abbrev Set : Offered TcpValue → Type 0
  Set o = IsSet cx pair v o.socket

  set_first :
      (b : Tcb) (s : StartsWith cx v pair b) → b.timers.retransmit_at ≡ None → b.state ≡ v.tcb.state
      → b.sender.syn_unacked ≡ v.tcb.sender.syn_unacked → b.sender.past_iss ≡ v.tcb.sender.past_iss → b.names ≡ v.tcb.names
      → Set (first_rules cx (with_tcb (unoffered v) b) pair)
  set_first b s timer state syn past names =
      by_first cx pair Set (with_tcb (unoffered v) b)
      (record {
        syn = λ e. clash (sym e ∙ no_syn cx v pair b s);
        again = λ _ e. of_tcb cx pair v _ _ (here b s.none timer state syn past names s.again (inl e)) refl refl;
        payload = λ _ e. of_tcb cx pair v _ _ (here b s.none timer state syn past names s.again (inr (inl e))) refl refl;
        last = λ _.
            let it = here c s.none timer state syn past names s.again (inr (inr (λ e. set_probe cx.instant (queued_in v) b e))) in
            record {
              probe = λ _ _. of_tcb cx pair v _ _ it refl refl;
              window_limited = λ _ _. of_tcb cx pair v _ _ it refl refl;
              ack = λ _. of_tcb cx pair v _ _ it refl refl;
              update = λ _ _. of_tcb cx pair v _ _ it refl refl;
              keep_alive = λ _ _. of_tcb cx pair v _ _ it refl refl;
              quiet = λ _. of_tcb cx pair v _ _ it refl refl;
            };
      })
    where
      c : Tcb
      c = probe_started cx.instant (queued_in v) b

      here :
          (b : Tcb) → b.sender.flight_size ≡ 0 → b.timers.retransmit_at ≡ None → b.state ≡ v.tcb.state
          → b.sender.syn_unacked ≡ v.tcb.sender.syn_unacked → b.sender.past_iss ≡ v.tcb.sender.past_iss → b.names ≡ v.tcb.names
          → (resends b pair.addresses cx.ip_mtu v.queued ≡ true → 1 ≤ b.sender.snd_max)
          → (resends b pair.addresses cx.ip_mtu v.queued ≡ true) ⊎ ((has_payload b pair.addresses cx.ip_mtu v.queued ≡ true)
          ⊎ (is_probing b (queued_in v) ≡ true → is_some b.timers.probe_at ≡ true))
          → IsSet cx pair v (with_tcb (unoffered v) b)
      here b none timer state syn past names again set =
          record { none = none; timer = timer; state = state; syn = syn; past_iss = past; names = names; queued = refl; again = again; set = set }

  pub asked_sets : Set (offer_of cx v)
  asked_sets = subst Set (sym (to_rules cx v pair named m sends sent)) (at (is_due cx.instant v.tcb.timers.retransmit_at) refl) where
    at : (due : Bool) → is_due cx.instant v.tcb.timers.retransmit_at ≡ due →
        Set (first_rules cx (with_tcb (unoffered v) (backed_off cx.instant (begun cx v))) pair)
    at true e =
        subst (λ (b : Tcb). Set (first_rules cx (with_tcb (unoffered v) b) pair))
        (sym (if_so (is_due cx.instant v.tcb.timers.retransmit_at) (backed_off_now (begun cx v)) (loss_probed_by cx.instant (begun cx v)) e))
        (set_first (backed_off_now (begun cx v)) (ran_out cx v pair named m sends sent e) refl refl refl refl refl)
    at false e = by m.over where
      by : (v.tcb.sender.flight_size ≡ 0) ⊎ (is_due cx.instant v.tcb.timers.retransmit_at ≡ true) →
          Set (first_rules cx (with_tcb (unoffered v) (backed_off cx.instant (begun cx v))) pair)
      by (inr out) = clash (sym out ∙ e)
      by (inl idle) =
          subst (λ (b : Tcb). Set (first_rules cx (with_tcb (unoffered v) b) pair))
          (sym
          (if_not (is_due cx.instant v.tcb.timers.retransmit_at) (backed_off_now (begun cx v)) (loss_probed_by cx.instant (begun cx v)) e
          ∙ if_not (is_due cx.instant (loss_probe_deadline (begun cx v))) (loss_probed (begun cx v)) (begun cx v)
          (no_probe cx v pair named m sends sent idle)))
          (set_first (begun cx v) (idles cx v pair named m sends sent e idle) (runs e) refl refl refl refl)

-- THE SECOND TIME

-- with nothing in flight, no timer, and the instant of a probe, where one is set, come
module _ (cx : ContextValue) (v : TcpValue) (pair : FourTuple) (named : v.tcb.names.pair ≡ Some pair) (m : Starts cx v)
    (sends : may_send_data v.tcb.state ≡ true) (sent : resends v.tcb pair.addresses cx.ip_mtu v.queued ≡ true → 1 ≤ v.tcb.sender.snd_max)
    (none : v.tcb.sender.flight_size ≡ 0) (timer : v.tcb.timers.retransmit_at ≡ None) (cwnd : 1 ≤ v.tcb.reno.cwnd)
    (set : (resends v.tcb pair.addresses cx.ip_mtu v.queued ≡ true) ⊎ ((has_payload v.tcb pair.addresses cx.ip_mtu v.queued ≡ true)
    ⊎ (is_probing v.tcb (queued_in v) ≡ true → is_some v.tcb.timers.probe_at ≡ true)))
    (come : is_probing v.tcb (queued_in v) ≡ true → is_some v.tcb.timers.probe_at ≡ true → is_due cx.instant v.tcb.timers.probe_at ≡ true) where
  not_due : is_due cx.instant v.tcb.timers.retransmit_at ≡ false
  not_due = ap (is_due cx.instant) timer

  abbrev b : Tcb
  b = begun cx v

  s : StartsWith cx v pair b
  s = idles cx v pair named m sends sent not_due none

  abbrev x : TcpValue
  x = with_tcb (unoffered v) b

  abbrev c : Tcb
  c = probe_started cx.instant (queued_in v) b

  later : StartsWith cx v pair c
  later = record { sends = s.sends; syn = s.syn; none = s.none; owes = s.owes; mss = s.mss; tsval = s.tsval; again = s.again }

  abbrev fast : Offered TcpValue
  fast = offer_choice Kind.FastRetransmission cx x pair (resend_choice b pair.addresses cx.ip_mtu v.queued)

  abbrev plain : Offered TcpValue
  plain = offer_choice Kind.Payload cx x pair (payload_choice b pair.addresses cx.ip_mtu v.queued)

  abbrev last : Offered TcpValue
  last = last_rules cx (probing cx x) pair

  -- the probe's instant is as it was set
  due : is_probing b (queued_in v) ≡ true → is_some v.tcb.timers.probe_at ≡ true → is_due cx.instant (probe_deadline c (queued_in v)) ≡ true
  due probes some =
      ap (λ (t : Bool). is_due cx.instant (if t then c.timers.probe_at else None)) probes
      ∙ (ap (λ (t : Bool). is_due cx.instant (if t then Some (timeout_from cx.instant b.round_trip) else v.tcb.timers.probe_at)) kept ∙ come probes some)
    where
      kept : is_probe_unset b (queued_in v) ≡ false
      kept = not_second (is_probing b (queued_in v)) (is_none v.tcb.timers.probe_at) (is_there v.tcb.timers.probe_at some) where
        is_there : (instant : Option ℤ) → is_some instant ≡ true → is_none instant ≡ false
        is_there None e = clash (sym e)
        is_there (Some m) e = refl

  held_last : is_probing b (queued_in v) ≡ true → is_some v.tcb.timers.probe_at ≡ true → SendsOut cx v last
  held_last probes some =
      subst (SendsOut cx v) (sym (if_so (is_due cx.instant (probe_deadline c (queued_in v))) (offer_window_limited cx (probing cx x) pair) _ (due probes some)))
      (held_goes cx v pair c later probes cwnd)

  by_rules : SendsOut cx v (first_rules cx x pair)
  by_rules =
      subst (SendsOut cx v) (sym (if_not (owes_syn b) (offer_syn cx x pair) rest (no_syn cx v pair b s)))
      (at (resends b pair.addresses cx.ip_mtu v.queued) refl)
    where
      later_on : Offered TcpValue
      later_on = if has_payload b pair.addresses cx.ip_mtu v.queued then plain else last

      rest : Offered TcpValue
      rest = if resends b pair.addresses cx.ip_mtu v.queued then fast else later_on

      some_set :
          resends b pair.addresses cx.ip_mtu v.queued ≡ false → has_payload b pair.addresses cx.ip_mtu v.queued ≡ false
          → is_probing b (queued_in v) ≡ true → is_some v.tcb.timers.probe_at ≡ true
      some_set no_more no_payload probes = by set where
        by :
            (resends v.tcb pair.addresses cx.ip_mtu v.queued ≡ true) ⊎ ((has_payload v.tcb pair.addresses cx.ip_mtu v.queued ≡ true)
            ⊎ (is_probing v.tcb (queued_in v) ≡ true → is_some v.tcb.timers.probe_at ≡ true))
            → is_some v.tcb.timers.probe_at ≡ true
        by (inl e) = clash (sym e ∙ no_more)
        by (inr (inl e)) = clash (sym e ∙ no_payload)
        by (inr (inr is)) = is probes

      of_payload : resends b pair.addresses cx.ip_mtu v.queued ≡ false → (t : Bool) → has_payload b pair.addresses cx.ip_mtu v.queued ≡ t → SendsOut cx v later_on
      of_payload no_more true e =
          subst (SendsOut cx v) (sym (if_so (has_payload b pair.addresses cx.ip_mtu v.queued) plain last e)) (goes_payload cx v pair b s e)
      of_payload no_more false e =
          let probes = holds_back cx v pair b s e in
          subst (SendsOut cx v) (sym (if_not (has_payload b pair.addresses cx.ip_mtu v.queued) plain last e)) (held_last probes (some_set no_more e probes))

      at : (t : Bool) → resends b pair.addresses cx.ip_mtu v.queued ≡ t → SendsOut cx v rest
      at true e = subst (SendsOut cx v) (sym (if_so (resends b pair.addresses cx.ip_mtu v.queued) fast later_on e)) (is_retransmitted cx v pair b s (s.again e))
      at false e =
          subst (SendsOut cx v) (sym (if_not (resends b pair.addresses cx.ip_mtu v.queued) fast later_on e))
          (of_payload e (has_payload b pair.addresses cx.ip_mtu v.queued) refl)

  pub goes_then : SendsOut cx v (offer_of cx v)
  goes_then =
      subst (SendsOut cx v)
      (sym
      (to_rules cx v pair named m sends sent
      ∙ ap (λ (b : Tcb). first_rules cx (with_tcb (unoffered v) b) pair)
      (if_not (is_due cx.instant v.tcb.timers.retransmit_at) (backed_off_now b) (loss_probed_by cx.instant b) not_due
      ∙ if_not (is_due cx.instant (loss_probe_deadline b)) (loss_probed b) b (no_probe cx v pair named m sends sent none))))
      by_rules
