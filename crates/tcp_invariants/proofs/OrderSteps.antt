-- How the steps of the rules keep a socket in order.
use Rattle.std.proofs.Common.{◌≡◌, ℕ, zero, suc, ◌+◌, ◌-◌, ◌^◌, ◌<◌, ◌≤◌, ◌==◌, ◌&&◌, ◌||◌, nat_le, nat_lt, min, max, ℤ, Bool, true, false, if◌then◌else◌}
use Rattle.std.proofs.Common.{Option, Some, None, refl, sym, ap, ◌∙◌, subst, arith}
use Rattle.std.proofs.lemmas.Bool.{cond_both, eqb-true, eq-eqb, ltb-true, ltb-false, le-leb}
use Rattle.ip_wire.specs.SeqNumber.{SeqNumber}
use Rattle.tcp_state.specs.Offsets.{advanced_by, distance_after, distance_before}
use Rattle.tcp_state.specs.States.{is_closed, is_listening, is_opening, is_answering, sends_syn, owes_fin, accepts_data, after_fin, after_ack, after_ack_of_fin}
use Rattle.tcp_state.specs.declared.state.State.{State}
use Rattle.tcp_state.specs.declared.state.State.TheVariants as In
use Rattle.tcp_block.specs.TcbRules.{one_if}
use Rattle.tcp_block.specs.Checks.{Check, acknowledgement_check, opening_check, synchronized_check}
use Rattle.tcp_block.specs.Checks.Check.{Passes, Old, Drops, Draws, Resets}
use Rattle.tcp_block.specs.declared.tcb.Tcb.{Tcb}
use Rattle.tcp_invariants.specs.Events.{is_past}
use Rattle.tcp_invariants.specs.InOrder.{has_all, Sending, all_of, IsInOrder}
use Rattle.ip_wire.specs.Seq.{distance_of}

pub clash : {A : Type 0} → true ≡ false → A
clash e = absurd (cc)

-- WHICH ACKNOWLEDGEMENTS PASS

passes_by : (a by : ℕ) → Passes a ≡ Passes by → a ≡ by
passes_by a by e = cc

module _ (b : Tcb) (past before : ℕ) (none : b.sender.past_iss ≡ 0) where
  starts : (past == 0) ≡ true → ((past == 0) && nat_le b.sender.past_iss before) ≡ true
  starts e = subst (λ (n : ℕ). ((past == 0) && nat_le n before) ≡ true) (sym none) (subst (λ (t : Bool). (t && nat_le 0 before) ≡ true) (sym e) (least before))
    where
      least : (n : ℕ) → nat_le 0 n ≡ true
      least n = le-leb 0 n (omega arith)

  -- it doesn't pass, where nothing is new and the SYN isn't acknowledged yet
  no_pass : (by : ℕ) → by ≡ 0 → synchronized_check b past before ≡ Passes by → ⊥
  no_pass by none_new =
      cond_both (nat_lt b.sender.snd_max past) Draws
      (if (past == 0) && nat_le b.sender.past_iss before then Drops
      else if before == 0 then Passes past else if nat_lt b.peer.largest_window before then Draws else Old)
      (λ (c : Check). c ≡ Passes by → ⊥)
      (λ _ e. absurd (cc))
      (λ _.
      cond_both ((past == 0) && nat_le b.sender.past_iss before) Drops
      (if before == 0 then Passes past else if nat_lt b.peer.largest_window before then Draws else Old)
      (λ (c : Check). c ≡ Passes by → ⊥)
      (λ _ e. absurd (cc))
      (λ not.
      cond_both (before == 0) (Passes past) (if nat_lt b.peer.largest_window before then Draws else Old) (λ (c : Check). c ≡ Passes by → ⊥)
      (λ _ e. clash (sym (starts (eq-eqb past 0 (passes_by past by e ∙ none_new))) ∙ not))
      (λ _. cond_both (nat_lt b.peer.largest_window before) Draws Old (λ (c : Check). c ≡ Passes by → ⊥) (λ _ e. absurd (cc)) (λ _ e. absurd (cc)))))

  -- nor is it old
  no_old : (past == 0) ≡ true → synchronized_check b past before ≡ Old → ⊥
  no_old none_new =
      cond_both (nat_lt b.sender.snd_max past) Draws
      (if (past == 0) && nat_le b.sender.past_iss before then Drops
      else if before == 0 then Passes past else if nat_lt b.peer.largest_window before then Draws else Old)
      (λ (c : Check). c ≡ Old → ⊥)
      (λ _ e. absurd (cc))
      (λ _.
      cond_both ((past == 0) && nat_le b.sender.past_iss before) Drops
      (if before == 0 then Passes past else if nat_lt b.peer.largest_window before then Draws else Old)
      (λ (c : Check). c ≡ Old → ⊥)
      (λ _ e. absurd (cc))
      (λ not _. clash (sym (starts none_new) ∙ not)))

  -- what lies ahead isn't
  not_ahead : synchronized_check b past 0 ≡ Old → ⊥
  not_ahead =
      cond_both (nat_lt b.sender.snd_max past) Draws (if (past == 0) && nat_le b.sender.past_iss 0 then Drops else Passes past) (λ (c : Check). c ≡ Old → ⊥)
      (λ _ e. absurd (cc))
      (λ _. cond_both ((past == 0) && nat_le b.sender.past_iss 0) Drops (Passes past) (λ (c : Check). c ≡ Old → ⊥) (λ _ e. absurd (cc)) (λ _ e. absurd (cc)))

pub passes_news : (b : Tcb) (ack : Option SeqNumber) (by : ℕ) → acknowledgement_check b ack ≡ Passes by → b.sender.past_iss ≡ 0 → by ≡ 0 → ⊥
passes_news b None by e none none_new = absurd (cc)
passes_news b (Some n) by e none none_new = at e where
  far : ℕ
  far = distance_of b.sender.una n

  at : acknowledgement_check b (Some n) ≡ Passes by → ⊥
  at =
      cond_both (is_answering b.state) (opening_check far) (synchronized_check b (distance_after b.sender.una n) (distance_before b.sender.una n)) (λ (c : Check). c ≡
      Passes by → ⊥)
      (λ _.
      cond_both (far == 1) (Passes 1) Resets (λ (c : Check). c ≡ Passes by → ⊥)
      (λ _ e. let one = passes_by 1 by e in absurd (omega arith))
      (λ _ e. absurd (cc)))
      (λ _. no_pass b (distance_after b.sender.una n) (distance_before b.sender.una n) none by none_new)

pub old_news : (b : Tcb) (ack : Option SeqNumber) → acknowledgement_check b ack ≡ Old → b.sender.past_iss ≡ 0 → ⊥
old_news b None e none = absurd (cc)
old_news b (Some n) e none = at e where
  far : ℕ
  far = distance_of b.sender.una n

  at : acknowledgement_check b (Some n) ≡ Old → ⊥
  at =
      cond_both (is_answering b.state) (opening_check far) (synchronized_check b (distance_after b.sender.una n) (distance_before b.sender.una n))
      (λ (c : Check). c ≡ Old → ⊥)
      (λ _. cond_both (far == 1) (Passes 1) Resets (λ (c : Check). c ≡ Old → ⊥) (λ _ e. absurd (cc)) (λ _ e. absurd (cc)))
      (λ _. nearer)
    where
      -- of the two offsets one is 0
      nearer : synchronized_check b (distance_after b.sender.una n) (distance_before b.sender.una n) ≡ Old → ⊥
      nearer = by_side (nat_lt far (2 ^ 31)) where
        by_side : (ahead : Bool) → synchronized_check b (if ahead then far else 0) (if ahead then 0 else 2 ^ 32 - far) ≡ Old → ⊥
        by_side true = not_ahead b far 0 none
        by_side false = no_old b 0 (2 ^ 32 - far) none refl

-- THE SYN IS ACKNOWLEDGED

no_more : (syn : Bool) (by : ℕ) → (syn ≡ true → by ≡ 0 → ⊥) → (syn && (by == 0)) ≡ false
no_more false by e = refl
no_more true by e = not_zero (by == 0) refl where
  not_zero : (t : Bool) → (by == 0) ≡ t → t ≡ false
  not_zero true is = absurd (e refl (eqb-true by 0 is))
  not_zero false is = refl

pub syn_gone : (s : Sending) (by : ℕ) → IsInOrder s → (s.past_iss ≡ 0 → by ≡ 0 → ⊥) → (s.syn_unacked && (by == 0)) ≡ false
syn_gone s by p news = no_more s.syn_unacked by (λ syn. news (p.opening syn).0)

pub syn_gone_old : (s : Sending) → IsInOrder s → (s.past_iss ≡ 0 → ⊥) → s.syn_unacked ≡ false
syn_gone_old s p news = at s.syn_unacked refl where
  at : (syn : Bool) → s.syn_unacked ≡ syn → syn ≡ false
  at true e = absurd (news (p.opening e).0)
  at false e = refl

-- AN ACKNOWLEDGEMENT

abbrev pub acked_sending : Sending → State → ℕ → ℕ → ℕ → Option ℤ → Sending
acked_sending s state una by queued instant = record s {
  state = state;
  una = una;
  syn_unacked = s.syn_unacked && (by == 0);
  past_iss = min (s.past_iss + by) 4_294_967_295;
  flight_size = s.flight_size - by;
  retransmit_at = if by == 0 then s.retransmit_at else if s.flight_size - by == 0 then None else instant;
  queued = queued;
}

-- the states after an acknowledgement
record Onward (old new : State) : Type 0 where
  past : is_past new ≡ true
  opened : (is_opening new || is_answering new) ≡ false
  owes : owes_fin new ≡ owes_fin old
  all : has_all new ≡ true → has_all old ≡ true

onward : (state : State) → is_past state ≡ true → Onward state (after_ack state)
onward In.Closed past = absurd (cc)
onward In.Listen past = absurd (cc)
onward In.SynSent past = absurd (cc)
onward In.SynReceived past = record { past = refl; opened = refl; owes = refl; all = λ e. e }
onward other past = record { past = refl; opened = refl; owes = refl; all = λ e. e }

pub listens_not : (state : State) → is_past state ≡ true → is_listening state ≡ true → ⊥
listens_not In.Listen past e = absurd (cc)
listens_not other past e = absurd (cc)

closed_not : (state : State) → is_past state ≡ true → is_closed state ≡ false
closed_not In.Closed past = absurd (cc)
closed_not other past = refl

-- the numbers of what is left
left_within : (flight syn queued fin by left one fin_left : ℕ) → flight ≤ syn + queued + fin → syn ≤ 1 → left ≡ queued - min (by - syn) queued → syn ≤ by
    → fin_left ≡ fin → flight - by ≤ one + left + fin_left
left_within flight syn queued fin by left one fin_left a b c d e = omega arith

pub one_if_least : (t : Bool) → one_if t ≤ 1
one_if_least true = omega arith
one_if_least false = omega arith

zero_flight : (flight by : ℕ) → flight ≡ 0 → flight - by ≡ 0
zero_flight flight by e = omega arith

zero_left : (queued freed : ℕ) → queued ≡ 0 → queued - freed ≡ 0
zero_left queued freed e = omega arith

timer_off : (at : Option ℤ) (instant : Option ℤ) (by flight : ℕ) → at ≡ None → flight ≡ 0 → (if by == 0 then at else if flight == 0 then None else instant) ≡ None
timer_off at instant by flight none none_new =
    cond_both (by == 0) at (if flight == 0 then None else instant) (λ (m : Option ℤ). m ≡ None) (λ _. none)
    (λ _. ap (λ (n : ℕ). if n == 0 then None else instant) none_new)

module _ (s : Sending) (p : IsInOrder s) (una by queued : ℕ) (instant : Option ℤ) (past : is_past s.state ≡ true) where
  -- where its FIN isn't acknowledged
  pub acked_on :
      una < 2 ^ 32 → queued ≡ s.queued - min (by - one_if s.syn_unacked) s.queued → (s.syn_unacked && (by == 0)) ≡ false
      → IsInOrder (acked_sending s (after_ack s.state) una by queued instant)
  acked_on number rest gone = record {
    number = number;
    within = λ _.
        left_within s.flight_size (one_if s.syn_unacked) s.queued (one_if (owes_fin s.state)) by queued (one_if (s.syn_unacked && (by == 0)))
        (one_if (owes_fin (after_ack s.state)))
        (p.within (closed_not s.state past)) (one_if_least s.syn_unacked) rest no_syn (ap one_if (onward s.state past).owes);
    opening = λ syn. clash (sym syn ∙ gone);
    opened = λ _. (onward s.state past).opened;
    acked = λ all.
        let old = p.acked ((onward s.state past).all all) in (
          zero_flight s.flight_size by old.0,
          timer_off s.retransmit_at instant by (s.flight_size - by) old.1 (zero_flight s.flight_size by old.0),
          rest ∙ zero_left s.queued (min (by - one_if s.syn_unacked) s.queued) old.2,
        );
    took = λ _. p.took past;
    listens = λ e. absurd (listens_not (after_ack s.state) (onward s.state past).past e);
  }
    where
      some_by : (n : ℕ) → (n == 0) ≡ false → 1 ≤ n
      some_by zero e = clash e
      some_by (suc n) e = omega arith

      none_by : (n : ℕ) → 0 ≤ n
      none_by n = omega arith

      no_syn : one_if s.syn_unacked ≤ by
      no_syn = at s.syn_unacked gone where
        at : (syn : Bool) → (syn && (by == 0)) ≡ false → one_if syn ≤ by
        at true e = some_by by e
        at false e = none_by by

-- all is acknowledged
nothing_left : (syn queued by : ℕ) → by ≡ syn + queued + 1 → queued - min (by - syn) queued ≡ 0
nothing_left syn queued by e = omega arith

nothing_flies : (flight all by : ℕ) → flight ≤ all → by ≡ all → flight - by ≡ 0
nothing_flies flight all by e f = omega arith

timer_ends : (at instant : Option ℤ) (by flight n : ℕ) → by ≡ n + 1 → flight ≡ 0 → (if by == 0 then at else if flight == 0 then None else instant) ≡ None
timer_ends at instant by flight n more none_new =
    cond_both (by == 0) at (if flight == 0 then None else instant) (λ (m : Option ℤ). m ≡ None)
    (λ is. let zero_by = eqb-true by 0 is in absurd (omega arith))
    (λ _. ap (λ (n : ℕ). if n == 0 then None else instant) none_new)

-- where it acknowledges the FIN, and the connection isn't over yet
pub acked_fin :
    (state : State) (s : Sending) → s.state ≡ state → IsInOrder s → (una by queued : ℕ) (instant : Option ℤ) → una < 2 ^ 32 → owes_fin s.state ≡ true
    → is_closed (after_ack_of_fin state) ≡ false → queued ≡ s.queued - min (by - one_if s.syn_unacked) s.queued → (s.syn_unacked && (by == 0)) ≡ false
    → by ≡ all_of s → IsInOrder (acked_sending s (after_ack_of_fin state) una by queued instant)
acked_fin state s at p una by queued instant number owes alive rest gone fin = by_state state at alive where
  all : by ≡ one_if s.syn_unacked + s.queued + 1
  all = fin ∙ ap (λ (t : Bool). one_if s.syn_unacked + s.queued + one_if t) owes

  flies : s.flight_size - by ≡ 0
  flies = nothing_flies s.flight_size (all_of s) by (p.within (open_of s.state owes)) fin
    where
      open_of : (state : State) → owes_fin state ≡ true → is_closed state ≡ false
      open_of In.Closed e = absurd (cc)
      open_of other e = refl

  done : (new : State) → is_past new ≡ true → (is_opening new || is_answering new) ≡ false → s.took_syn ≡ true →
      IsInOrder (acked_sending s new una by queued instant)
  done new past opened took = record {
    number = number;
    within = λ _. zero_least (s.flight_size - by) _ flies;
    opening = λ syn. clash (sym syn ∙ gone);
    opened = λ _. opened;
    acked = λ _. (
      flies,
      timer_ends s.retransmit_at instant by (s.flight_size - by) (one_if s.syn_unacked + s.queued) all flies,
      rest ∙ nothing_left (one_if s.syn_unacked) s.queued by all,
    );
    took = λ _. took;
    listens = λ e. absurd (listens_not new past e);
  }
    where
      zero_least : (n m : ℕ) → n ≡ 0 → n ≤ m
      zero_least n m e = omega arith

  by_state : (state : State) → s.state ≡ state → is_closed (after_ack_of_fin state) ≡ false →
      IsInOrder (acked_sending s (after_ack_of_fin state) una by queued instant)
  by_state In.FinWait1 at alive = done In.FinWait2 refl refl (p.took (ap is_past at))
  by_state In.Closing at alive = done In.TimeWait refl refl (p.took (ap is_past at))
  by_state In.LastAck at alive = absurd (cc)
  by_state other at alive = clash (sym owes ∙ ap owes_fin at)

-- TEXT AND FIN

record Takes (old new : State) : Type 0 where
  alive : is_closed old ≡ false
  past : is_past old ≡ true
  new_past : is_past new ≡ true
  opened : (is_opening new || is_answering new) ≡ false
  owes : owes_fin new ≡ owes_fin old
  all : has_all new ≡ true → has_all old ≡ true

takes_fin_in : (state : State) → accepts_data state ≡ true → Takes state (after_fin state)
takes_fin_in In.Established e = record { alive = refl; past = refl; new_past = refl; opened = refl; owes = refl; all = λ f. absurd (cc) }
takes_fin_in In.FinWait1 e = record { alive = refl; past = refl; new_past = refl; opened = refl; owes = refl; all = λ f. absurd (cc) }
takes_fin_in In.FinWait2 e = record { alive = refl; past = refl; new_past = refl; opened = refl; owes = refl; all = λ f. refl }
takes_fin_in other e = absurd (cc)

takes_in : (state : State) → accepts_data state ≡ true → Takes state state
takes_in In.Established e = record { alive = refl; past = refl; new_past = refl; opened = refl; owes = refl; all = λ f. f }
takes_in In.FinWait1 e = record { alive = refl; past = refl; new_past = refl; opened = refl; owes = refl; all = λ f. f }
takes_in In.FinWait2 e = record { alive = refl; past = refl; new_past = refl; opened = refl; owes = refl; all = λ f. f }
takes_in other e = absurd (cc)

content : (s : Sending) (new : State) (waiting : ℕ) → IsInOrder s → s.syn_unacked ≡ false → Takes s.state new →
    IsInOrder (record s { state = new; waiting = waiting })
content s new waiting p gone t = record {
  number = p.number;
  within = λ _. subst (λ (o : Bool). s.flight_size ≤ one_if s.syn_unacked + s.queued + one_if o) (sym t.owes) (p.within t.alive);
  opening = λ syn. clash (sym syn ∙ gone);
  opened = λ _. t.opened;
  acked = λ all. p.acked (t.all all);
  took = λ _. p.took t.past;
  listens = λ e. absurd (listens_not new t.new_past e);
}

pub with_waiting : (s : Sending) (waiting : ℕ) → IsInOrder s → s.syn_unacked ≡ false → accepts_data s.state ≡ true → IsInOrder (record s { waiting = waiting })
with_waiting s waiting p gone takes = content s s.state waiting p gone (takes_in s.state takes)

pub with_fin_taken :
    (s : Sending) (waiting : ℕ) → IsInOrder s → s.syn_unacked ≡ false → accepts_data s.state ≡ true →
    IsInOrder (record s { state = after_fin s.state; waiting = waiting })
with_fin_taken s waiting p gone takes = content s (after_fin s.state) waiting p gone (takes_fin_in s.state takes)

-- IT ENDS, OR BEGINS

-- it is closed
pub closed_order : (s : Sending) (named : Bool) → IsInOrder s → IsInOrder (record s { state = In.Closed; named = named })
closed_order s named p = record {
  number = p.number;
  within = λ e. clash e;
  opening = λ syn. let old = p.opening syn in (old.0, old.1, refl);
  opened = λ _. refl;
  acked = λ e. clash (sym e);
  took = λ e. clash (sym e);
  listens = λ e. clash (sym e);
}

-- the acknowledgement that ends LAST-ACK
pub last_order : (s : Sending) (una by queued : ℕ) (instant : Option ℤ) → IsInOrder s → una < 2 ^ 32 → (s.syn_unacked && (by == 0)) ≡ false
    → IsInOrder (record (acked_sending s In.Closed una by queued instant) { named = false })
last_order s una by queued instant p number gone = record {
  number = number;
  within = λ e. clash e;
  opening = λ syn. clash (sym syn ∙ gone);
  opened = λ _. refl;
  acked = λ e. clash (sym e);
  took = λ e. clash (sym e);
  listens = λ e. clash (sym e);
}

-- nothing is in flight, and the SYN is to go
pub begins : (s : Sending) (state : State) → s.state ≡ state → sends_syn state ≡ true → s.una < 2 ^ 32 → s.syn_unacked ≡ true → s.past_iss ≡ 0 → s.waiting ≡ 0
    → s.flight_size ≡ 0 → (is_past state ≡ true → s.took_syn ≡ true) → IsInOrder s
begins s state at sends number syn iss waiting none took = record {
  number = number;
  within = λ _. nothing s.flight_size _ none;
  opening = λ _. (iss, waiting, closed_or (is_closed s.state) (sends_syn s.state) (ap sends_syn at ∙ sends));
  opened = λ gone. clash (sym syn ∙ gone);
  acked = λ all. clash (sym (sym (ap has_all at) ∙ all) ∙ not_all state sends);
  took = λ past. took (sym (ap is_past at) ∙ past);
  listens = λ e. clash (sym (sym (ap is_listening at) ∙ e) ∙ no_listener state sends);
}
  where
    nothing : (n m : ℕ) → n ≡ 0 → n ≤ m
    nothing n m e = omega arith

    closed_or : (a b : Bool) → b ≡ true → (a || b) ≡ true
    closed_or true b e = refl
    closed_or false b e = e

    not_all : (state : State) → sends_syn state ≡ true → has_all state ≡ false
    not_all In.FinWait2 e = clash (sym e)
    not_all In.TimeWait e = clash (sym e)
    not_all other e = refl

    no_listener : (state : State) → sends_syn state ≡ true → is_listening state ≡ false
    no_listener In.Listen e = clash (sym e)
    no_listener other e = refl

-- SENDING

-- a segment goes that ends there
pub went_order : (s : Sending) (end : ℕ) (instant : Option ℤ) → IsInOrder s → has_all s.state ≡ false → end ≤ all_of s
    → IsInOrder (record s { flight_size = max s.flight_size end; retransmit_at = instant })
went_order s end instant p not_all small = record {
  number = p.number;
  within = λ alive. larger s.flight_size end (all_of s) (p.within alive) small;
  opening = p.opening;
  opened = p.opened;
  acked = λ all. clash (sym all ∙ not_all);
  took = p.took;
  listens = p.listens;
}
  where
    larger : (a b c : ℕ) → a ≤ c → b ≤ c → max a b ≤ c
    larger a b c e f = omega arith

-- SND.NXT moves after what is held there
pub skip_order : (s : Sending) (missing snd_max : ℕ) → IsInOrder s
    → IsInOrder (record s { flight_size = if s.flight_size == 0 then 0 else max s.flight_size (min missing (min snd_max (one_if s.syn_unacked + s.queued))) })
skip_order s missing snd_max p = record {
  number = p.number;
  within = λ alive.
      cond_both (s.flight_size == 0) 0 (max s.flight_size (min missing (min snd_max (one_if s.syn_unacked + s.queued)))) (λ (n : ℕ). n ≤ all_of s)
      (λ _. no_more s.flight_size (all_of s) (p.within alive))
      (λ _. upto s.flight_size missing snd_max (one_if s.syn_unacked + s.queued) (one_if (owes_fin s.state)) (p.within alive));
  opening = p.opening;
  opened = p.opened;
  acked = λ all.
      let old = p.acked all in (
        cond_both (s.flight_size == 0) 0 (max s.flight_size (min missing (min snd_max (one_if s.syn_unacked + s.queued)))) (λ (n : ℕ). n ≡ 0) (λ _. refl)
            (λ some. clash (sym (ap (λ (n : ℕ). n == 0) old.0) ∙ some)),
        old.1,
        old.2,
      );
  took = p.took;
  listens = p.listens;
}
  where
    no_more : (flight all : ℕ) → flight ≤ all → 0 ≤ all
    no_more flight all e = omega arith

    upto : (flight missing snd_max all fin : ℕ) → flight ≤ all + fin → max flight (min missing (min snd_max all)) ≤ all + fin
    upto flight missing snd_max all fin e = omega arith

-- the timer runs out
pub backed_order : (s : Sending) → IsInOrder s → IsInOrder (record s { flight_size = 0; retransmit_at = None })
backed_order s p = record {
  number = p.number;
  within = λ _. least _;
  opening = p.opening;
  opened = p.opened;
  acked = λ all. (refl, refl, (p.acked all).2);
  took = p.took;
  listens = p.listens;
}
  where
    least : (m : ℕ) → 0 ≤ m
    least m = omega arith

-- NUMBERS

near_distance : (a : SeqNumber) (n : ℕ) → a.0 < 2 ^ 32 → n < 2 ^ 32 → distance_of a (advanced_by a n) ≡ n
near_distance a n small near = omega (arith, small, near)

small_distance : (a b : SeqNumber) → distance_of a b < 2 ^ 32
small_distance a b = omega arith

pub distance_at_most : (a : SeqNumber) (n : ℕ) → a.0 < 2 ^ 32 → distance_of a (advanced_by a n) ≤ n
distance_at_most a n small = at (nat_lt n (2 ^ 32)) refl where
  same : (k m : ℕ) → k ≡ m → k ≤ m
  same k m e = omega arith

  far : (k m : ℕ) → k < 2 ^ 32 → 2 ^ 32 ≤ m → k ≤ m
  far k m e f = omega arith

  at : (t : Bool) → nat_lt n (2 ^ 32) ≡ t → distance_of a (advanced_by a n) ≤ n
  at true e = same (distance_of a (advanced_by a n)) n (near_distance a n small (ltb-true n (2 ^ 32) e))
  at false e = far (distance_of a (advanced_by a n)) n (small_distance a (advanced_by a n)) (ltb-false n (2 ^ 32) e)

pub own_distance : (a : SeqNumber) → a.0 < 2 ^ 32 → distance_of a a ≡ 0
own_distance a small = omega (arith, small)
