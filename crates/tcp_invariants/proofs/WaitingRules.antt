-- What waits names an instant.
use Rattle.std.proofs.Common.{◌≡◌, ℕ, ◌+◌, ◌-◌, ◌%◌, ◌/◌, ◌<◌, ◌≤◌, zero, suc, ◌==◌, ◌&&◌, ◌||◌, nat_le, nat_lt, not, min, max, ℤ, int_le, Bool, true, false}
use Rattle.std.proofs.Common.{if◌then◌else◌, length, Option, Some, None, is_some, is_none, refl, sym, ap, ◌∙◌, subst, arith}
use Rattle.std.proofs.lemmas.Bool.{eqb-true, eq-eqb, le-leb, ltb-true, ltb-false, lt-ltb}
use Rattle.tcp_block.specs.Context.{ContextValue}
use Rattle.tcp_block.specs.BaseOffers.{IsBefore, offered_as}
use Rattle.tcp_block.specs.Offer.TheVariants as Answer
use Rattle.tcp_state.specs.PollAt.{PollAt}
use Rattle.tcp_state.specs.PollAt.TheVariants as At
use Rattle.tcp_state.specs.Moments.{is_due}
use Rattle.tcp_state.specs.States.{is_closed, is_listening, is_opening, is_answering, sends_syn, may_send_data, owes_fin}
use Rattle.tcp_state.specs.declared.endpoints.AddressPair.{AddressPair}
use Rattle.tcp_state.specs.declared.endpoints.FourTuple.{FourTuple}
use Rattle.tcp_state.specs.declared.state.State.{State}
use Rattle.tcp_state.specs.declared.state.State.TheVariants as In
use Rattle.tcp_block.proofs.Idle.{idle}
use Rattle.tcp_block.proofs.Waits.{is_quiet}
use Rattle.tcp_block.specs.TcbRules.{one_if, unacked}
use Rattle.tcp_block.specs.Due.{poll_open, poll_with, poll_of}
use Rattle.tcp_block.specs.Offers.{offer_of}
use Rattle.tcp_block.specs.Probing.{is_window_small, is_probing}
use Rattle.tcp_block.specs.Quiet.{IsQuiet}
use Rattle.tcp_block.specs.Rules.{congestion_limit, window_limit, size_limit, next_offset, ready, fills_enough, is_sendable, has_payload}
use Rattle.tcp_block.specs.Rules.{payload_choice, congestion_room}
use Rattle.tcp_block.specs.Value.{TcpValue, unoffered, queued_in}
use Rattle.tcp_block.specs.declared.tcb.Tcb.{Tcb}
use Rattle.tcp_block.specs.declared.tcb.CongestionControl.{CongestionControl}
use Rattle.tcp_block.specs.declared.tcb.CongestionControl.TheVariants as Congestion
use Rattle.tcp_invariants.specs.InOrder.{has_all}
use Rattle.tcp_invariants.specs.Waiting.{IsWaiting}
use Rattle.tcp_invariants.proofs.OrderSteps.{clash}

-- WHAT BOTH WINDOWS LEAVE

-- with nothing in flight they leave so much at most, whatever is to go
record Leaves (b : Tcb) : Type 0 where
  bound : ℕ
  limits : (size : ℕ) → window_limit b size ≡ min bound size

leaves_with : (control : CongestionControl) (window room : ℕ) → (bound : ℕ) × ((size : ℕ) → congestion_limit control window (min room size) ≡ min bound size)
leaves_with Congestion.None window room = (room, λ size. refl)
leaves_with other window room = (min window room, λ size. both window room size) where
  both : (a b c : ℕ) → min a (min b c) ≡ min (min a b) c
  both a b c = omega arith

leaves : (b : Tcb) → Leaves b
leaves b =
    let it = leaves_with b.settings.congestion_control (congestion_room b) (b.peer.window - b.sender.flight_size) in
    record { bound = it.0; limits = it.1 }

-- WHAT MAY GO

both_true : (a b : Bool) → a ≡ true → b ≡ true → (a && b) ≡ true
both_true true b e f = f
both_true false b e f = clash (sym e)

or_left_true : (a b : Bool) → a ≡ true → (a || b) ≡ true
or_left_true true b e = refl
or_left_true false b e = clash (sym e)

or_right_true : (a b : Bool) → b ≡ true → (a || b) ≡ true
or_right_true true b e = refl
or_right_true false b e = e

-- at least a byte goes
some_len : (bound limit queued offset most : ℕ) → offset ≡ 0 → 1 ≤ limit → 1 ≤ queued → min queued (max 1 most) ≤ min bound queued
    → 1 ≤ min bound (min limit (queued - offset))
some_len bound limit queued offset most a b c d = omega arith

-- and it is all that is queued, or enough
enough : (bound limit queued offset most : ℕ) → offset ≡ 0 → min queued (max 1 most) ≤ min bound queued → min bound (min limit (queued - offset)) < limit
    → min bound (min limit (queued - offset)) < queued → most ≤ min bound (min limit (queued - offset))
enough bound limit queued offset most a b c d = omega arith

whole : (bound limit queued offset : ℕ) → offset ≡ 0 → queued ≤ min bound (min limit (queued - offset)) → offset + min bound (min limit (queued - offset)) ≡ queued
whole bound limit queued offset a b = omega arith

none_len : (bound limit queued offset : ℕ) → queued ≡ 0 → offset ≡ 0 → offset + min bound (min limit (queued - offset)) ≡ queued
none_len bound limit queued offset a b = omega arith

not_none : (n : ℕ) → 1 ≤ n → not (n == 0) ≡ true
not_none n e = at (n == 0) refl where
  never : n ≡ 0 → ⊥
  never z = absurd (omega arith)

  at : (t : Bool) → (n == 0) ≡ t → not t ≡ true
  at true is = absurd (never (eqb-true n 0 is))
  at false is = refl

least_limit : (m : ℕ) → 1 ≤ max 1 m
least_limit m = omega arith

one_of : (n : ℕ) → (n == 0) ≡ false → 1 ≤ n
one_of zero e = clash e
one_of (suc n) e = omega arith

module _ (v : TcpValue) (addresses : AddressPair) (ip_mtu : ℕ) (none : v.tcb.sender.flight_size ≡ 0) (no_syn : v.tcb.sender.syn_unacked ≡ false) where
  first : next_offset v.tcb ≡ 0
  first = before v.tcb.sender.flight_size (one_if v.tcb.sender.syn_unacked) none where
    before : (flight syn : ℕ) → flight ≡ 0 → flight - syn ≡ 0
    before flight syn e = omega arith

  -- the FIN goes with nothing else
  fin_goes_alone : queued_in v ≡ 0 → owes_fin v.tcb.state ≡ true → (payload_choice v.tcb addresses ip_mtu v.queued).fin ≡ true
  fin_goes_alone empty owes =
      let l = leaves v.tcb in
      both_true (owes_fin v.tcb.state) (next_offset v.tcb + (payload_choice v.tcb addresses ip_mtu v.queued).len == queued_in v) owes
      (eq-eqb (next_offset v.tcb + (payload_choice v.tcb addresses ip_mtu v.queued).len) (queued_in v)
      (ap (λ (len : ℕ). next_offset v.tcb + len) (l.limits (min (size_limit v.tcb addresses ip_mtu) (queued_in v - next_offset v.tcb)))
      ∙ none_len l.bound (size_limit v.tcb addresses ip_mtu) (queued_in v) (next_offset v.tcb) empty first))

  -- payload goes, where the window isn't small
  payload_is_enough :
      1 ≤ queued_in v → is_window_small v.tcb (queued_in v) ≡ false
      → (not ((payload_choice v.tcb addresses ip_mtu v.queued).len == 0)
      && (nat_le (size_limit v.tcb addresses ip_mtu) (ready v.tcb (size_limit v.tcb addresses ip_mtu) (queued_in v))
      || ((not v.tcb.settings.nagle || (v.tcb.sender.flight_size == 0)) && fills_enough v.tcb (queued_in v)
      (ready v.tcb (size_limit v.tcb addresses ip_mtu) (queued_in v)))))
      ≡ true
  payload_is_enough some large =
      both_true (not ((payload_choice v.tcb addresses ip_mtu v.queued).len == 0)) _ (not_none (payload_choice v.tcb addresses ip_mtu v.queued).len has_len)
      full_or_enough
    where
      l : Leaves v.tcb
      l = leaves v.tcb

      window : min (queued_in v) (max 1 (v.tcb.peer.largest_window / 2)) ≤ min l.bound (queued_in v)
      window =
          subst (λ (m : ℕ). min (queued_in v) (max 1 (v.tcb.peer.largest_window / 2)) ≤ m) (l.limits (queued_in v))
          (ltb-false (window_limit v.tcb (queued_in v)) (min (queued_in v) (max 1 (v.tcb.peer.largest_window / 2))) large)

      has_len : 1 ≤ (payload_choice v.tcb addresses ip_mtu v.queued).len
      has_len =
          subst (λ (m : ℕ). 1 ≤ m) (sym (l.limits (min (size_limit v.tcb addresses ip_mtu) (queued_in v - next_offset v.tcb))))
          (some_len l.bound (size_limit v.tcb addresses ip_mtu) (queued_in v) (next_offset v.tcb) (v.tcb.peer.largest_window / 2) first
          (least_limit _) some window)

      go : ℕ
      go = min l.bound (min (size_limit v.tcb addresses ip_mtu) (queued_in v - next_offset v.tcb))

      is_go : ready v.tcb (size_limit v.tcb addresses ip_mtu) (queued_in v) ≡ go
      is_go = l.limits (min (size_limit v.tcb addresses ip_mtu) (queued_in v - next_offset v.tcb))

      small_may : (not v.tcb.settings.nagle || (v.tcb.sender.flight_size == 0)) ≡ true
      small_may = or_right_true (not v.tcb.settings.nagle) (v.tcb.sender.flight_size == 0) (eq-eqb v.tcb.sender.flight_size 0 none)

      fills : nat_lt go (size_limit v.tcb addresses ip_mtu) ≡ true → fills_enough v.tcb (queued_in v) go ≡ true
      fills less = at (nat_lt go (queued_in v)) refl where
        at : (part : Bool) → nat_lt go (queued_in v) ≡ part → fills_enough v.tcb (queued_in v) go ≡ true
        at true e =
            or_right_true (next_offset v.tcb + go == queued_in v) (nat_le (v.tcb.peer.largest_window / 2) go)
            (le-leb (v.tcb.peer.largest_window / 2) go
            (enough l.bound (size_limit v.tcb addresses ip_mtu) (queued_in v) (next_offset v.tcb) (v.tcb.peer.largest_window / 2) first window
            (ltb-true go (size_limit v.tcb addresses ip_mtu) less) (ltb-true go (queued_in v) e)))
        at false e =
            or_left_true (next_offset v.tcb + go == queued_in v) (nat_le (v.tcb.peer.largest_window / 2) go)
            (eq-eqb (next_offset v.tcb + go) (queued_in v)
            (whole l.bound (size_limit v.tcb addresses ip_mtu) (queued_in v) (next_offset v.tcb) first (ltb-false go (queued_in v) e)))

      full_or_enough :
          (nat_le (size_limit v.tcb addresses ip_mtu) (ready v.tcb (size_limit v.tcb addresses ip_mtu) (queued_in v))
          || ((not v.tcb.settings.nagle || (v.tcb.sender.flight_size == 0)) && fills_enough v.tcb (queued_in v)
          (ready v.tcb (size_limit v.tcb addresses ip_mtu) (queued_in v))))
          ≡ true
      full_or_enough =
          subst
          (λ (size : ℕ). (nat_le (size_limit v.tcb addresses ip_mtu) size ||
          ((not v.tcb.settings.nagle || (v.tcb.sender.flight_size == 0)) && fills_enough v.tcb (queued_in v) size)) ≡ true)
          (sym is_go) (at (nat_lt go (size_limit v.tcb addresses ip_mtu)) refl)
        where
          at :
              (part : Bool) → nat_lt go (size_limit v.tcb addresses ip_mtu) ≡ part
              → (nat_le (size_limit v.tcb addresses ip_mtu) go ||
              ((not v.tcb.settings.nagle || (v.tcb.sender.flight_size == 0)) && fills_enough v.tcb (queued_in v) go)) ≡ true
          at true e =
              or_right_true (nat_le (size_limit v.tcb addresses ip_mtu) go) _
              (both_true (not v.tcb.settings.nagle || (v.tcb.sender.flight_size == 0)) (fills_enough v.tcb (queued_in v) go) small_may (fills e))
          at false e = or_left_true (nat_le (size_limit v.tcb addresses ip_mtu) go) _
              (le-leb (size_limit v.tcb addresses ip_mtu) go (ltb-false go (size_limit v.tcb addresses ip_mtu) e))

  payload_goes : may_send_data v.tcb.state ≡ true → 1 ≤ unacked v.tcb (queued_in v) → is_window_small v.tcb (queued_in v) ≡ false →
      has_payload v.tcb addresses ip_mtu v.queued ≡ true
  payload_goes sends some large =
      both_true (may_send_data v.tcb.state) _ sends
      (both_true (nat_le (one_if v.tcb.sender.syn_unacked) v.tcb.sender.flight_size) _
      (le-leb (one_if v.tcb.sender.syn_unacked) v.tcb.sender.flight_size
      (least (one_if v.tcb.sender.syn_unacked) v.tcb.sender.flight_size (ap one_if no_syn)))
      (both_true (nat_lt v.tcb.sender.flight_size (unacked v.tcb (queued_in v))) _
      (lt-ltb v.tcb.sender.flight_size (unacked v.tcb (queued_in v)) (below (unacked v.tcb (queued_in v)) some))
      (at (queued_in v == 0) refl)))
    where
      least : (syn m : ℕ) → syn ≡ 0 → syn ≤ m
      least syn m e = omega arith

      below : (all : ℕ) → 1 ≤ all → v.tcb.sender.flight_size < all
      below all e = omega (arith, none)

      fin_alone : queued_in v ≡ 0 → owes_fin v.tcb.state ≡ true
      fin_alone empty = by_fin (owes_fin v.tcb.state) refl where
        nothing : (syn queued fin : ℕ) → 1 ≤ syn + queued + fin → syn ≡ 0 → queued ≡ 0 → fin ≡ 0 → ⊥
        nothing syn queued fin e f g h = absurd (omega arith)

        by_fin : (owes : Bool) → owes_fin v.tcb.state ≡ owes → owes ≡ true
        by_fin true e = refl
        by_fin false e = absurd (nothing (one_if v.tcb.sender.syn_unacked) (queued_in v) (one_if (owes_fin v.tcb.state)) some (ap one_if no_syn) empty
            (ap one_if e))

      at : (empty : Bool) → (queued_in v == 0) ≡ empty →
          is_sendable v.tcb (queued_in v) (size_limit v.tcb addresses ip_mtu) (payload_choice v.tcb addresses ip_mtu v.queued) ≡ true
      at true e = or_left_true (payload_choice v.tcb addresses ip_mtu v.queued).fin _
          (fin_goes_alone (eqb-true (queued_in v) 0 e) (fin_alone (eqb-true (queued_in v) 0 e)))
      at false e = or_right_true (payload_choice v.tcb addresses ip_mtu v.queued).fin _ (payload_is_enough (one_of (queued_in v) e) large)

-- THE MOMENT

module _ (cx : ContextValue) (v : TcpValue) (pair : FourTuple) (w : IsWaiting v pair) where
  comes : (m : ℤ) → int_le m m ≡ true
  comes m = grind arith

  -- the states in which it may be
  sends_in : v.tcb.sender.syn_unacked ≡ false → (state : State) → v.tcb.state ≡ state → may_send_data state ≡ true
  sends_in gone In.Closed at = clash (sym (ap is_closed at) ∙ w.alive)
  sends_in gone In.Listen at = clash (sym (ap is_some w.named) ∙ (w.order.listens (ap is_listening at)).0)
  sends_in gone In.SynSent at = clash (sym (ap (λ (s : State). is_opening s || is_answering s) at) ∙ w.order.opened gone)
  sends_in gone In.SynReceived at = clash (sym (ap (λ (s : State). is_opening s || is_answering s) at) ∙ w.order.opened gone)
  sends_in gone In.FinWait2 at =
      absurd (no_more (one_if v.tcb.sender.syn_unacked) (queued_in v) (one_if (owes_fin v.tcb.state)) w.owes (ap one_if gone)
      (w.order.acked (ap has_all at)).2 (ap one_if (ap owes_fin at)))
    where
      no_more : (syn queued fin : ℕ) → 1 ≤ syn + queued + fin → syn ≡ 0 → queued ≡ 0 → fin ≡ 0 → ⊥
      no_more syn queued fin e f g h = absurd (omega arith)
  sends_in gone In.TimeWait at =
      absurd (no_more (one_if v.tcb.sender.syn_unacked) (queued_in v) (one_if (owes_fin v.tcb.state)) w.owes (ap one_if gone)
      (w.order.acked (ap has_all at)).2 (ap one_if (ap owes_fin at)))
    where
      no_more : (syn queued fin : ℕ) → 1 ≤ syn + queued + fin → syn ≡ 0 → queued ≡ 0 → fin ≡ 0 → ⊥
      no_more syn queued fin e f g h = absurd (omega arith)
  sends_in gone other at = refl

  -- some rule isn't quiet at some instant
  not_quiet : ((now : ℤ) → IsQuiet (record cx { instant = now }) v pair) → ⊥
  not_quiet quiet = by_flight (v.tcb.sender.flight_size == 0) refl where
    by_timer : (timer : Option ℤ) → v.tcb.timers.retransmit_at ≡ timer → is_some timer ≡ true → ⊥
    by_timer None e some = clash (sym some)
    by_timer (Some m) e some = clash (sym (ap (is_due m) e ∙ comes m) ∙ (quiet m).retransmission)

    by_syn : v.tcb.sender.flight_size ≡ 0 → v.tcb.sender.syn_unacked ≡ true → ⊥
    by_syn none syn =
        let goes = or_second (is_closed v.tcb.state) (sends_syn v.tcb.state) w.alive (w.order.opening syn).2 in
        let owes =
        both_true (sends_syn v.tcb.state && not (is_answering v.tcb.state && v.tcb.settings.synack_paused))
        (v.tcb.sender.syn_unacked && (v.tcb.sender.flight_size == 0))
        (both_true (sends_syn v.tcb.state) (not (is_answering v.tcb.state && v.tcb.settings.synack_paused)) goes
        (not_paused (is_answering v.tcb.state) v.tcb.settings.synack_paused w.unpaused))
        (both_true v.tcb.sender.syn_unacked (v.tcb.sender.flight_size == 0) syn (eq-eqb v.tcb.sender.flight_size 0 none)) in
        clash (sym owes ∙ (quiet cx.instant).syn)
      where
        or_second : (a c : Bool) → a ≡ false → (a || c) ≡ true → c ≡ true
        or_second true c e f = clash e
        or_second false c e f = f

        not_paused : (a c : Bool) → c ≡ false → not (a && c) ≡ true
        not_paused true true e = clash e
        not_paused true false e = refl
        not_paused false c e = refl

    by_window : v.tcb.sender.flight_size ≡ 0 → v.tcb.sender.syn_unacked ≡ false → (small : Bool) → is_window_small v.tcb (queued_in v) ≡ small → ⊥
    by_window none gone false e =
        clash (sym (payload_goes v pair.addresses cx.ip_mtu none gone (sends_in gone v.tcb.state refl) w.owes e) ∙ (quiet cx.instant).payload)
    by_window none gone true e = by_probe v.tcb.timers.probe_at refl where
      probing : is_probing v.tcb (queued_in v) ≡ true
      probing =
          both_true (may_send_data v.tcb.state) (is_window_small v.tcb (queued_in v) && (v.tcb.sender.flight_size == 0)) (sends_in gone v.tcb.state refl)
          (both_true (is_window_small v.tcb (queued_in v)) (v.tcb.sender.flight_size == 0) e (eq-eqb v.tcb.sender.flight_size 0 none))

      by_probe : (at : Option ℤ) → v.tcb.timers.probe_at ≡ at → ⊥
      by_probe None unset = clash (sym (both_true (is_probing v.tcb (queued_in v)) (is_none v.tcb.timers.probe_at) probing (ap is_none unset)) ∙
          (quiet cx.instant).probe_set)
      by_probe (Some m) set =
          clash
          (sym (ap (λ (p : Bool). is_due m (if p then v.tcb.timers.probe_at else None)) probing ∙ (ap (is_due m) set ∙ comes m))
          ∙ (quiet m).probe)

    by_sending : v.tcb.sender.flight_size ≡ 0 → (syn : Bool) → v.tcb.sender.syn_unacked ≡ syn → ⊥
    by_sending none true e = by_syn none e
    by_sending none false e = by_window none e (is_window_small v.tcb (queued_in v)) refl

    by_flight : (empty : Bool) → (v.tcb.sender.flight_size == 0) ≡ empty → ⊥
    by_flight false e = by_timer v.tcb.timers.retransmit_at refl (w.armed e)
    by_flight true e = by_sending (eqb-true v.tcb.sender.flight_size 0 e) v.tcb.sender.syn_unacked refl

  is_open : poll_of cx.ip_mtu v ≡ poll_open cx.ip_mtu v pair
  is_open =
      ap (λ (names : Option FourTuple). poll_with names cx.ip_mtu v) w.named
      ∙ ap (λ (closed : Bool). if closed then (if v.tcb.sender.reset_due then At.Now else At.Ingress) else poll_open cx.ip_mtu v pair) w.alive

  never : poll_of cx.ip_mtu v ≡ At.Ingress → ⊥
  never e = not_quiet (λ now. is_quiet (record cx { instant = now }) v pair (subst (λ (at : PollAt). IsBefore now at) (sym e ∙ is_open) tt))

pub names_instant : (cx : ContextValue) (v : TcpValue) (pair : FourTuple) → IsWaiting v pair → poll_of cx.ip_mtu v ≡ At.Ingress → ⊥
names_instant cx v pair w = never cx v pair w

pub acts_then :
    (cx : ContextValue) (v : TcpValue) (pair : FourTuple) → IsWaiting v pair → (IsBefore cx.instant (poll_of cx.ip_mtu v) → ⊥)
    → offer_of cx v ≡ offered_as (Answer.Silent false) (unoffered v) → ⊥
acts_then cx v pair w come silent = come (idle cx v silent)
