-- An acknowledgement that is due.
use Rattle.std.proofs.Common.{◌≡◌, ◌⊎◌, inl, inr, ⊎_elim, take, ℕ, ◌+◌, ◌*◌, ◌<◌, ◌==◌, ◌&&◌, ◌||◌, min, not, ℤ, ◌≤ℤ◌, int_le, int_lt, pos, ◌+ℤ◌, Bool, true, false}
use Rattle.std.proofs.Common.{if◌then◌else◌, List, length, Option, Some, None, is_some, refl, sym, ap, ◌∙◌, subst, arith}
use Rattle.std.proofs.lemmas.Bool.{cond_both, eq-eqb, ne_eqb, leb-false}
use Rattle.std.proofs.lemmas.Int.{ints}
use Rattle.ip_wire.specs.Control.{control_len}
use Rattle.ip_wire.specs.IpRepr.{IpRepr}
use Rattle.ip_wire.specs.Seq.{distance_of}
use Rattle.ip_wire.specs.TcpControl.{TcpControl}
use Rattle.ip_wire.specs.TcpControl.TheVariants as Control
use Rattle.ip_wire.specs.TcpHeader.{TcpHeader}
use Rattle.net_base.specs.Ring.{anchored, enqueued}
use Rattle.net_base.specs.Time.{last_instant}
use Rattle.tcp_block.specs.Context.{ContextValue}
use Rattle.tcp_block.specs.BaseOffers.{Offered}
use Rattle.tcp_state.specs.Controls.{is_fin}
use Rattle.tcp_state.specs.Endpoints.{addresses_in, pair_in}
use Rattle.tcp_state.specs.Moments.{is_due, earlier}
use Rattle.tcp_state.specs.States.{is_closed, is_opening, is_time_wait, takes_writes, after_close}
use Rattle.tcp_state.specs.declared.endpoints.FourTuple.{FourTuple}
use Rattle.tcp_state.specs.declared.offer.OpenOffer.{OpenOffer}
use Rattle.tcp_state.specs.declared.state.State.{State}
use Rattle.tcp_state.specs.declared.state.State.TheVariants as In
use Rattle.tcp_block.specs.Answers.{acked, answers_at_once, arrived_twice, delayed, sooner, ack_instant_after}
use Rattle.tcp_block.specs.Arrival.{arrives}
use Rattle.tcp_block.specs.Calls.{listening, connected_by, four_tuple_for, sent_more}
use Rattle.tcp_block.specs.Offers.{offer_of, offer_syn, silent}
use Rattle.tcp_block.specs.Rules.{ack_deadline, size_limit}
use Rattle.tcp_block.specs.Segments.{has_length, hop_limit_of, next_if_heard, no_ranges, reply_to, sack_segment}
use Rattle.tcp_block.specs.Settled.{settled, sent_off}
use Rattle.tcp_block.specs.Payload.{has_out_of_order, taken_in_order, fin_taken}
use Rattle.tcp_block.specs.Timeout.{timed_out}
use Rattle.tcp_block.specs.Value.{TcpValue, Arrived, with_tcb, unoffered, ended, window_of}
use Rattle.tcp_block.specs.declared.tcb.Tcb.{Tcb}
use Rattle.tcp_block.specs.declared.tcb.Receiver.{Receiver}
use Rattle.tcp_block.specs.Isn.{number_for}
use Rattle.tcp_invariants.specs.Acks.{IsDueWithin, IsAcknowledged, IsAcknowledgedBy, IsAcknowledgedTwice, OffersAck, answer_acks, offer_acks, IsBy, IsDueBy, StaysDue}
use Rattle.tcp_invariants.specs.Ends.{Proceeds}
use Rattle.tcp_invariants.specs.Events.{Event, Setting, set, is_past}
use Rattle.tcp_invariants.specs.Events.Setting.{Timeout, KeepAlive, AckDelay, Nagle, HopLimit, Timestamps, Paused, Retries, Congestion, MinRto, FineTimer}
use Rattle.tcp_invariants.specs.Events.Event.{Comes, Asked, Listens, Connects, Sends, Reads, Closes, Aborts, Sets}
use Rattle.tcp_invariants.proofs.ArrivalCases.{by_arrival, Received, Opening, Content, Drawing, Told, kept}
use Rattle.tcp_invariants.proofs.OfferCases.{Rules, FirstRules, LastRules, by_rules, probing}

-- THE MOMENT

now_or_later : (now : ℤ) (n : ℕ) → now ≤ℤ (now +ℤ pos n)
now_or_later now n = first_of (omega (arith, ints), grind (arith, ints))

after_delay : (now : ℤ) (delay : Option ℕ) → now ≤ℤ delayed now delay
after_delay now None = same where
  same : now ≤ℤ now
  same = grind arith
after_delay now (Some delay) = now_or_later now (min delay last_instant)

earlier_within : (a b : ℤ) → earlier a b ≤ℤ b
earlier_within a b = cond_both (int_lt b a) b a (λ (m : ℤ). m ≤ℤ b) (λ _. same) (λ e. not_less e) where
  same : b ≤ℤ b
  same = grind arith

  not_less : int_lt b a ≡ false → a ≤ℤ b
  not_less e = grind arith

sooner_within : (at : Option ℤ) (limit : ℤ) → sooner at limit ≤ℤ limit
sooner_within None limit = same where
  same : limit ≤ℤ limit
  same = grind arith
sooner_within (Some other) limit = earlier_within other limit

module _ (b : Tcb) (header : TcpHeader) (size : ℕ) (fills : Bool) (now : ℤ) where
  abbrev Within : Option ℤ → Type 0
  Within at = IsDueWithin at (delayed now b.settings.ack_delay)

  at_once : Within (Some now)
  at_once = record { instant = now; due = refl; soon = after_delay now b.settings.ack_delay }

  -- where payload was taken
  within_payload : (size == 0) ≡ false → Within (ack_instant_after b header size fills now)
  within_payload some =
      cond_both (is_fin header.control || fills) (Some now)
      (if size == 0 then b.timers.ack_at else if b.timers.data_unacked then Some now else Some
      (sooner b.timers.ack_at (delayed now b.settings.ack_delay))) Within
      (λ _. at_once)
      (λ _.
      cond_both (size == 0) b.timers.ack_at
      (if b.timers.data_unacked then Some now else Some (sooner b.timers.ack_at (delayed now b.settings.ack_delay))) Within
      (λ none. absurd (let clash : true ≡ false = sym none ∙ some in cc))
      (λ _.
      cond_both b.timers.data_unacked (Some now) (Some (sooner b.timers.ack_at (delayed now b.settings.ack_delay))) Within
      (λ _. at_once)
      (λ _.
      record {
        instant = sooner b.timers.ack_at (delayed now b.settings.ack_delay);
        due = refl;
        soon = sooner_within b.timers.ack_at (delayed now b.settings.ack_delay);
      })))

  -- where a FIN was
  within_fin : is_fin header.control ≡ true → Within (ack_instant_after b header size fills now)
  within_fin fin =
      subst (λ (f : Bool). Within (if f || fills then Some now
      else if size == 0 then b.timers.ack_at else if b.timers.data_unacked then Some now else Some (sooner b.timers.ack_at (delayed now b.settings.ack_delay))))
      (sym fin) at_once

  -- what is due by an instant is due by it still
  still_due : (t : ℤ) → int_le now t ≡ true → IsDueBy t b → is_due t (ack_instant_after b header size fills now) ≡ true
  still_due t by due =
      cond_both (is_fin header.control || fills) (Some now)
      (if size == 0 then b.timers.ack_at else if b.timers.data_unacked then Some now else Some (sooner b.timers.ack_at (delayed now b.settings.ack_delay)))
      (λ (at : Option ℤ). is_due t at ≡ true)
      (λ _. by)
      (λ _.
      cond_both (size == 0) b.timers.ack_at (if b.timers.data_unacked then Some now else Some (sooner b.timers.ack_at (delayed now b.settings.ack_delay)))
      (λ (at : Option ℤ). is_due t at ≡ true)
      (λ _. due)
      (λ _.
      cond_both b.timers.data_unacked (Some now) (Some (sooner b.timers.ack_at (delayed now b.settings.ack_delay))) (λ (at : Option ℤ). is_due t at ≡ true)
      (λ _. by)
      (λ _. no_later b.timers.ack_at due)))
    where
      earlier_due : (a c : ℤ) → int_le a t ≡ true → int_le (earlier a c) t ≡ true
      earlier_due a c e = cond_both (int_lt c a) c a (λ (m : ℤ). int_le m t ≡ true) (λ less. below less) (λ _. e) where
        below : int_lt c a ≡ true → int_le c t ≡ true
        below less = grind arith

      no_later : (at : Option ℤ) → is_due t at ≡ true → int_le (sooner at (delayed now b.settings.ack_delay)) t ≡ true
      no_later None e = absurd (cc)
      no_later (Some m) e = earlier_due m (delayed now b.settings.ack_delay) e

-- A SEGMENT COMES

pub is_in : (state : State) → is_past state ≡ true → (state ≡ In.Listen → ⊥) × (state ≡ In.SynSent → ⊥)
is_in state past = (λ at. absurd (let clash = ap is_past at in cc), λ at. absurd (let clash = ap is_past at in cc))

-- what is acknowledged at once
pub at_once_acknowledged : (cx : ContextValue) (ip : IpRepr) (header : TcpHeader) (y : TcpValue) → IsAcknowledged (acked cx y ip header no_ranges)
at_once_acknowledged cx ip header y = record {
  reply = reply_to ip (hop_limit_of y.tcb.settings.hop_limit) (sack_segment y.tcb (pair_in ip header) cx.instant (window_of y) no_ranges);
  answer = refl;
  acknowledges = refl;
  bare = refl;
  plain = refl;
  none = record { last = refl; due = refl; payload = refl };
}

-- a segment with payload or a FIN
payload_long : (header : TcpHeader) (size : ℕ) → (size == 0) ≡ false → has_length header size ≡ true
payload_long header size some = ap not (ne_eqb (size + control_len header.control) 0 (by (control_len header.control))) where
  by : (n : ℕ) → size + n ≡ 0 → ⊥
  by n e = let zero_size : size ≡ 0 = omega arith in let clash : true ≡ false = sym (eq-eqb size 0 zero_size) ∙ some in cc

fin_long : (header : TcpHeader) (size : ℕ) → is_fin header.control ≡ true → has_length header size ≡ true
fin_long header size fin = at header.control fin where
  at : (control : TcpControl) → is_fin control ≡ true → not (size + control_len control == 0) ≡ true
  at Control.Fin e = ap not (ne_eqb (size + 1) 0 some) where
    some : size + 1 ≡ 0 → ⊥
    some e = absurd (omega arith)
  at other e = absurd (cc)

module _ (cx : ContextValue) (v : TcpValue) (ip : IpRepr) (header : TcpHeader) (bytes : List ℕ) (past : is_past v.tcb.state ≡ true) where
  abbrev Due : Arrived → Type 0
  Due a =
      is_past a.socket.tcb.state ≡ true → (a.socket.tcb.receiver.next ≡ v.tcb.receiver.next → ⊥)
      → IsAcknowledgedBy a (delayed cx.instant v.tcb.settings.ack_delay)

  due_content : (x : TcpValue) → x.tcb.receiver.next ≡ v.tcb.receiver.next → x.tcb.settings.ack_delay ≡ v.tcb.settings.ack_delay →
      Content cx ip header bytes Due x
  due_content x next delay = record {
    plain = (λ _ _ moved. absurd (moved next), λ _ moved. absurd (moved next));
    fin = λ fin _.
        told_by (kept x (fin_taken x.tcb cx.instant)) false (within_fin (kept x (fin_taken x.tcb cx.instant)).tcb header (length bytes) false cx.instant fin);
    ordered = λ map _ _ some.
        let t = (taken_in_order x map).socket in
        told_by (kept t t.tcb) (has_out_of_order x) (within_payload (kept t t.tcb).tcb header (length bytes) (has_out_of_order x) cx.instant some);
    ordered_fin = λ map _ fin _.
        let t = (taken_in_order x map).socket in
        told_by (kept t (fin_taken t.tcb cx.instant)) (has_out_of_order x)
        (within_fin (kept t (fin_taken t.tcb cx.instant)).tcb header (length bytes) (has_out_of_order x) cx.instant fin);
    early = λ map offset _ _ _ moved. absurd (moved next);
  }
    where
      -- it is acknowledged at once, or later
      told_by : (y : TcpValue) (fills : Bool)
          → IsDueWithin (ack_instant_after y.tcb header (length bytes) fills cx.instant) (delayed cx.instant x.tcb.settings.ack_delay)
          → Told cx ip header bytes Due y fills
      told_by y fills d = (
        λ _ _ _.
            inr
            (record {
              silent = refl;
              due =
                  subst
                  (λ (wait : Option ℕ). IsDueWithin (ack_instant_after y.tcb header (length bytes) fills cx.instant) (delayed cx.instant wait))
                  delay d;
            }),
        λ _ _. inl (at_once_acknowledged cx ip header y),
      )

  due_drawing : (x : TcpValue) → x.tcb.receiver.next ≡ v.tcb.receiver.next → Drawing cx ip header bytes Due x
  due_drawing x next = record { answers = λ _ _ moved. absurd (moved next); at_once = λ _ moved. absurd (moved next); pauses = λ _ moved. absurd (moved next) }

  due_received : Received cx ip header bytes Due (unoffered v)
  due_received = record {
    stays = λ _ moved. absurd (moved refl);
    refuses = λ _ moved. absurd (moved refl);
    draws = due_drawing _ refl;
    falls = λ _ _ _ is_in _. absurd (cc);
    ends = λ _ _ _ is_in _. absurd (cc);
    closes = λ by _ _ is_in _. absurd (cc);
    taken = λ by _ _. due_content _ refl refl;
    taken_window = λ by _ _. due_content _ refl refl;
    news = λ by _ _. due_drawing _ refl;
    outside = due_drawing _ refl;
    old = λ _. due_content _ refl refl;
  }

  due_opening : Opening cx ip header bytes Due (unoffered v)
  due_opening = record {
    opens = λ at _. absurd ((is_in v.tcb.state past).0 at);
    refuses = λ _ moved. absurd (moved refl);
    ends = λ at. absurd ((is_in v.tcb.state past).1 at);
    connects = λ at _. absurd ((is_in v.tcb.state past).1 at);
    crosses = λ at _. absurd ((is_in v.tcb.state past).1 at);
  }

  due_arrival : Due (arrives cx v ip header bytes)
  due_arrival = by_arrival cx ip header bytes Due v (λ _ moved. absurd (moved refl)) (λ _. due_opening) (λ _. due_received)

  abbrev Twice : Arrived → Type 0
  Twice a =
      is_past a.socket.tcb.state ≡ true → (a.socket.tcb.receiver.next ≡ v.tcb.receiver.next → ⊥) → IsAcknowledgedTwice cx ip a

  -- where it isn't answered at once, too little came
  too_little : (b : Tcb) → has_length header (length bytes) ≡ true → answers_at_once cx b ip header (length bytes) ≡ false →
      distance_of b.receiver.last_ack b.receiver.next < 2 * size_limit b (addresses_in ip) cx.ip_mtu
  too_little b long not =
      leb-false (2 * size_limit b (addresses_in ip) cx.ip_mtu) (distance_of b.receiver.last_ack b.receiver.next)
      (sym (ap (λ (t : Bool). t && arrived_twice cx b ip) long) ∙ not)

  twice_content : (x : TcpValue) → x.tcb.receiver.next ≡ v.tcb.receiver.next → Content cx ip header bytes Twice x
  twice_content x next = record {
    plain = (λ _ _ moved. absurd (moved next), λ _ moved. absurd (moved next));
    fin = λ fin _. little_by (kept x (fin_taken x.tcb cx.instant)) false (fin_long header (length bytes) fin);
    ordered = λ map _ _ some.
        let t = (taken_in_order x map).socket in
        little_by (kept t t.tcb) (has_out_of_order x) (payload_long header (length bytes) some);
    ordered_fin = λ map _ fin _.
        let t = (taken_in_order x map).socket in
        little_by (kept t (fin_taken t.tcb cx.instant)) (has_out_of_order x) (fin_long header (length bytes) fin);
    early = λ map offset _ _ _ moved. absurd (moved next);
  }
    where
      little_by : (y : TcpValue) (fills : Bool) → has_length header (length bytes) ≡ true → Told cx ip header bytes Twice y fills
      little_by y fills long = (λ not _ _. inr (too_little y.tcb long not), λ _ _. inl (at_once_acknowledged cx ip header y))

  twice_drawing : (x : TcpValue) → x.tcb.receiver.next ≡ v.tcb.receiver.next → Drawing cx ip header bytes Twice x
  twice_drawing x next = record { answers = λ _ _ moved. absurd (moved next); at_once = λ _ moved. absurd (moved next); pauses = λ _ moved. absurd (moved next) }

  twice_received : Received cx ip header bytes Twice (unoffered v)
  twice_received = record {
    stays = λ _ moved. absurd (moved refl);
    refuses = λ _ moved. absurd (moved refl);
    draws = twice_drawing _ refl;
    falls = λ _ _ _ is_in _. absurd (cc);
    ends = λ _ _ _ is_in _. absurd (cc);
    closes = λ by _ _ is_in _. absurd (cc);
    taken = λ by _ _. twice_content _ refl;
    taken_window = λ by _ _. twice_content _ refl;
    news = λ by _ _. twice_drawing _ refl;
    outside = twice_drawing _ refl;
    old = λ _. twice_content _ refl;
  }

  twice_opening : Opening cx ip header bytes Twice (unoffered v)
  twice_opening = record {
    opens = λ at _. absurd ((is_in v.tcb.state past).0 at);
    refuses = λ _ moved. absurd (moved refl);
    ends = λ at. absurd ((is_in v.tcb.state past).1 at);
    connects = λ at _. absurd ((is_in v.tcb.state past).1 at);
    crosses = λ at _. absurd ((is_in v.tcb.state past).1 at);
  }

  twice_arrival : Twice (arrives cx v ip header bytes)
  twice_arrival = by_arrival cx ip header bytes Twice v (λ _ moved. absurd (moved refl)) (λ _. twice_opening) (λ _. twice_received)

  module _ (t : ℤ) (by_then : int_le cx.instant t ≡ true) where
    abbrev Stays : Arrived → Type 0
    Stays a = (is_past a.socket.tcb.state ≡ false) ⊎ ((answer_acks a.answer ≡ true) ⊎ IsDueBy t a.socket.tcb)

    stays_content : (x : TcpValue) → IsDueBy t x.tcb → Content cx ip header bytes Stays x
    stays_content x due = record {
      plain = (λ _. inr (inr (still_due x.tcb header (length bytes) false cx.instant t by_then due)), inr (inl refl));
      fin = λ _ _. (λ _. inr (inr (still_due x.tcb header (length bytes) false cx.instant t by_then due)), inr (inl refl));
      ordered = λ map _ _ _. (λ _. inr (inr (still_due x.tcb header (length bytes) (has_out_of_order x) cx.instant t by_then due)), inr (inl refl));
      ordered_fin = λ map _ _ _. (λ _. inr (inr (still_due x.tcb header (length bytes) (has_out_of_order x) cx.instant t by_then due)), inr (inl refl));
      early = λ map offset _ _. inr (inl refl);
    }

    stays_drawing : (x : TcpValue) → IsDueBy t x.tcb → Drawing cx ip header bytes Stays x
    stays_drawing x due = record { answers = λ _. inr (inl refl); at_once = inr (inl refl); pauses = inr (inr due) }

    stays_received : IsDueBy t v.tcb → Received cx ip header bytes Stays (unoffered v)
    stays_received due = record {
      stays = inr (inr due);
      refuses = inr (inr due);
      draws = stays_drawing (unoffered v) due;
      falls = λ _ _ _. inl refl;
      ends = λ _ _ _. inl refl;
      closes = λ by _ _. inl refl;
      taken = λ by _ _. stays_content _ due;
      taken_window = λ by _ _. stays_content _ due;
      news = λ by _ _. stays_drawing _ due;
      outside = stays_drawing _ due;
      old = λ _. stays_content _ due;
    }

    stays_opening : IsDueBy t v.tcb → Opening cx ip header bytes Stays (unoffered v)
    stays_opening due = record {
      opens = λ at _. absurd ((is_in v.tcb.state past).0 at);
      refuses = inr (inr due);
      ends = λ at. absurd ((is_in v.tcb.state past).1 at);
      connects = λ at _. absurd ((is_in v.tcb.state past).1 at);
      crosses = λ at _. absurd ((is_in v.tcb.state past).1 at);
    }

    stays_arrival : IsDueBy t v.tcb → Stays (arrives cx v ip header bytes)
    stays_arrival due = by_arrival cx ip header bytes Stays v (inr (inr due)) (λ _. stays_opening due) (λ _. stays_received due)

pub due_after_payload :
    (cx : ContextValue) (v : TcpValue) (ip : IpRepr) (header : TcpHeader) (bytes : List ℕ) → is_past v.tcb.state ≡ true
    → is_past (arrives cx v ip header bytes).socket.tcb.state ≡ true
    → ((arrives cx v ip header bytes).socket.tcb.receiver.next ≡ v.tcb.receiver.next → ⊥)
    → IsAcknowledgedBy (arrives cx v ip header bytes) (delayed cx.instant v.tcb.settings.ack_delay)
due_after_payload cx v ip header bytes past = due_arrival cx v ip header bytes past

pub twice_after_payload :
    (cx : ContextValue) (v : TcpValue) (ip : IpRepr) (header : TcpHeader) (bytes : List ℕ) → is_past v.tcb.state ≡ true
    → is_past (arrives cx v ip header bytes).socket.tcb.state ≡ true
    → ((arrives cx v ip header bytes).socket.tcb.receiver.next ≡ v.tcb.receiver.next → ⊥)
    → IsAcknowledgedTwice cx ip (arrives cx v ip header bytes)
twice_after_payload cx v ip header bytes past = twice_arrival cx v ip header bytes past

-- IT IS ASKED

module _ (cx : ContextValue) (v : TcpValue) (t : ℤ) (due : IsDueBy t v.tcb) where
  -- settled as sent: an acknowledgement went, or it stays due
  abbrev Kept : Offered TcpValue → Type 0
  Kept o =
      ((is_past (settled true o.socket).tcb.state ≡ false) ⊎ ((offer_acks o.socket.offered ≡ true) ⊎ IsDueBy t (settled true o.socket).tcb))
      × ((is_past o.socket.tcb.state ≡ false) ⊎ IsDueBy t o.socket.tcb)

  kept_silent : (changed : Bool) (w : TcpValue) → w.offered ≡ None → (is_past w.tcb.state ≡ false) ⊎ IsDueBy t w.tcb → Kept (silent changed w)
  kept_silent changed w none stays = (
    subst (λ (x : Option OpenOffer). (is_past (sent_off x (unoffered w)).tcb.state ≡ false) ⊎
        ((offer_acks w.offered ≡ true) ⊎ IsDueBy t (sent_off x (unoffered w)).tcb)) (sym none)
        (⊎_elim (λ past. inl past) (λ e. inr (inr e)) stays),
    stays,
  )

  kept_last : (pair : FourTuple) (x : TcpValue) → x.offered ≡ None → IsDueBy t x.tcb → LastRules cx pair Kept x
  kept_last pair x none still = record {
    probe = λ _ _. (inr (inl refl), inr still);
    window_limited = λ _ _. (inr (inl refl), inr still);
    ack = λ _. (inr (inl refl), inr still);
    update = λ _ _. (inr (inl refl), inr still);
    keep_alive = λ _ _. (inr (inl refl), inr still);
    quiet = λ _. kept_silent false x none (inr still);
  }

  kept_syn : (pair : FourTuple) (w : TcpValue) → IsDueBy t w.tcb → Kept (offer_syn cx w pair)
  kept_syn pair w still = (at w.tcb.receiver.took_syn refl, inr still) where
    at : (heard : Bool) → w.tcb.receiver.took_syn ≡ heard
        → (is_past (settled true (offer_syn cx w pair).socket).tcb.state ≡ false)
        ⊎ ((offer_acks (offer_syn cx w pair).socket.offered ≡ true) ⊎ IsDueBy t (settled true (offer_syn cx w pair).socket).tcb)
    at true e = inr (inl (ap (λ (heard : Bool). is_some (if heard then Some w.tcb.receiver.next else None)) e))
    at false e =
        inr (inr (subst (λ (heard : Bool). is_due t (if is_some (if heard then Some w.tcb.receiver.next else None) then None else w.tcb.timers.ack_at) ≡
        true) (sym e) still))

  kept_first : (pair : FourTuple) (w : TcpValue) → w.offered ≡ None → IsDueBy t w.tcb → FirstRules cx pair Kept w
  kept_first pair w none still = record {
    syn = λ _. kept_syn pair w still;
    again = λ _ _. (inr (inl refl), inr still);
    payload = λ _ _. (inr (inl refl), inr still);
    last = λ _. kept_last pair (probing cx w) none still;
  }

  kept_rules : Rules cx v Kept
  kept_rules = record {
    nobody = λ _. kept_silent false (unoffered v) refl (inr due);
    time_wait = λ _. kept_silent true (ended (unoffered v)) refl (inl refl);
    timeout = λ _. kept_silent true (with_tcb (unoffered v) (timed_out v.tcb)) refl (inl refl);
    closed = λ _. kept_silent false (unoffered v) refl (inr due);
    reset = λ pair _ _. (inl refl, inr due);
    falls = λ _ _ _. kept_silent true (listening (unoffered v) v.tcb.names.listen) refl (inl refl);
    over = λ _ _ _. kept_silent true (with_tcb (unoffered v) (timed_out v.tcb)) refl (inl refl);
    backs = λ pair _ _ _. kept_first pair _ refl due;
    probes = λ pair _ _ _ _. kept_first pair _ refl due;
    goes = λ pair _ _ _. kept_first pair _ refl due;
  }

  kept_offer : Kept (offer_of cx v)
  kept_offer = by_rules cx v Kept kept_rules

-- THE USER CALLS

-- a call leaves what is due, or ends the connection
call_leaves : (t : ℤ) (v w : TcpValue) → w.tcb.timers.ack_at ≡ v.tcb.timers.ack_at → IsDueBy t v.tcb → IsDueBy t w.tcb
call_leaves t v w e due = ap (λ (at : Option ℤ). is_due t at) e ∙ due

not_closed : (state : State) → is_past state ≡ true → is_closed state ≡ false
not_closed In.Closed past = absurd (cc)
not_closed other past = refl

pub stays_due : (v : TcpValue) (it : Event) (t : ℤ) → is_past v.tcb.state ≡ true → IsBy t it → IsDueBy t v.tcb → StaysDue t v it
stays_due v (Comes cx ip header bytes) t past by due = stays_arrival cx v ip header bytes past t by due
stays_due v (Asked cx true) t past by due = (kept_offer cx v t due).0
stays_due v (Asked cx false) t past by due = ⊎_elim (λ over. inl over) (λ still. inr (inr still)) (kept_offer cx v t due).1
stays_due v (Listens endpoint) t past by due =
    cond_both (is_closed v.tcb.state && not (endpoint.port == 0)) (listening v endpoint) (unoffered v) (λ (w : TcpValue). (is_past w.tcb.state ≡ false) ⊎
    ((false ≡ true) ⊎ IsDueBy t w.tcb))
    (λ _. inl refl) (λ _. inr (inr due))
stays_due v (Connects cx remote local) t past by due =
    cond_both (is_closed v.tcb.state) (connected_by v (four_tuple_for cx remote local) (number_for cx (four_tuple_for cx remote local))) (unoffered v)
    (λ (w : TcpValue). (is_past w.tcb.state ≡ false) ⊎ ((false ≡ true) ⊎ IsDueBy t w.tcb))
    (λ closed. absurd (let clash : true ≡ false = sym closed ∙ not_closed v.tcb.state past in cc))
    (λ _. inr (inr due))
stays_due v (Sends bytes) t past by due =
    cond_both (takes_writes v.tcb.state) (sent_more v (enqueued (anchored v.queued) (take (min (length bytes) (length v.queued.free)) bytes))) (unoffered v)
    (λ (w : TcpValue). (is_past w.tcb.state ≡ false) ⊎ ((false ≡ true) ⊎ IsDueBy t w.tcb))
    (λ _. inr (inr due)) (λ _. inr (inr due))
stays_due v (Reads count) t past by due = inr (inr due)
stays_due v Closes t past by due =
    cond_both (is_opening v.tcb.state) (ended (unoffered v)) (with_tcb (unoffered v) (record v.tcb { state = after_close v.tcb.state }))
    (λ (w : TcpValue). (is_past w.tcb.state ≡ false) ⊎ ((false ≡ true) ⊎ IsDueBy t w.tcb))
    (λ _. inl refl) (λ _. inr (inr due))
stays_due v Aborts t past by due =
    cond_both (is_time_wait v.tcb.state) (ended (unoffered v))
    (with_tcb (unoffered v) (record v.tcb { state = In.Closed; sender = record v.tcb.sender { reset_due = is_some v.tcb.names.pair } }))
    (λ (w : TcpValue). (is_past w.tcb.state ≡ false) ⊎ ((false ≡ true) ⊎ IsDueBy t w.tcb))
    (λ _. inl refl) (λ _. inl refl)
stays_due v (Sets setting) t past by due = inr (inr (kept_by setting)) where
  kept_by : (setting : Setting) → IsDueBy t (set v setting).tcb
  kept_by (Timeout duration) = due
  kept_by (KeepAlive interval) = due
  kept_by (AckDelay duration) = due
  kept_by (Nagle enabled) = due
  kept_by (HopLimit limit) = due
  kept_by (Timestamps generator) = due
  kept_by (Paused paused) = due
  kept_by (Retries limit) = due
  kept_by (MinRto duration) = due
  kept_by (FineTimer fine) = due
  kept_by (Congestion control) = due

-- THE POLL

module _ (cx : ContextValue) (v : TcpValue) (heard : v.tcb.receiver.took_syn ≡ true) (due : IsDueBy cx.instant v.tcb) where
  abbrev Offers : Offered TcpValue → Type 0
  Offers o = OffersAck o.socket v.tcb

  -- the rule's own test
  is_owed : is_due cx.instant (ack_deadline v.tcb) ≡ true
  is_owed = subst (λ (took : Bool). is_due cx.instant (if took then v.tcb.timers.ack_at else None) ≡ true) (sym heard) due

  goes_last : (pair : FourTuple) (x : TcpValue) → x.tcb.receiver ≡ v.tcb.receiver → is_due cx.instant (ack_deadline x.tcb) ≡ true →
      LastRules cx pair Offers x
  goes_last pair x same owed = record {
    probe = λ _ _. record { offer = _; offered = refl; acknowledges = next };
    window_limited = λ _ _. record { offer = _; offered = refl; acknowledges = next };
    ack = λ _. record { offer = _; offered = refl; acknowledges = next };
    update = λ none _. absurd (let clash : true ≡ false = sym owed ∙ none in cc);
    keep_alive = λ none _. absurd (let clash : true ≡ false = sym owed ∙ none in cc);
    quiet = λ none. absurd (let clash : true ≡ false = sym owed ∙ none in cc);
  }
    where
      next : Some x.tcb.receiver.next ≡ Some v.tcb.receiver.next
      next = ap (λ (r : Receiver). Some r.next) same

  goes_first : (pair : FourTuple) (w : TcpValue) → w.tcb.receiver ≡ v.tcb.receiver → is_due cx.instant (ack_deadline w.tcb) ≡ true →
      FirstRules cx pair Offers w
  goes_first pair w same owed = record {
    syn = λ _. record { offer = _; offered = refl; acknowledges = acked };
    again = λ _ _. record { offer = _; offered = refl; acknowledges = next };
    payload = λ _ _. record { offer = _; offered = refl; acknowledges = next };
    last = λ _. goes_last pair (probing cx w) same owed;
  }
    where
      next : Some w.tcb.receiver.next ≡ Some v.tcb.receiver.next
      next = ap (λ (r : Receiver). Some r.next) same

      acked : next_if_heard w.tcb ≡ Some v.tcb.receiver.next
      acked = ap (λ (r : Receiver). if r.took_syn then Some r.next else None) same ∙
          ap (λ (took : Bool). if took then Some v.tcb.receiver.next else None) heard

  goes_rules : (pair : FourTuple) → v.tcb.names.pair ≡ Some pair → Proceeds cx v → Rules cx v Offers
  goes_rules pair named on = record {
    nobody = λ none. absurd (let clash = sym none ∙ named in cc);
    time_wait = λ over. absurd (let clash : true ≡ false = sym over ∙ on.lasts in cc);
    timeout = λ over. absurd (let clash : true ≡ false = sym over ∙ on.in_time in cc);
    closed = λ closed. absurd (let clash : true ≡ false = sym closed ∙ on.alive in cc);
    reset = λ _ closed _. absurd (let clash : true ≡ false = sym closed ∙ on.alive in cc);
    falls = λ _ over _. absurd (let clash : true ≡ false = sym over ∙ on.tries in cc);
    over = λ _ over _. absurd (let clash : true ≡ false = sym over ∙ on.tries in cc);
    backs = λ pair _ _ _. goes_first pair _ refl is_owed;
    probes = λ pair _ _ _ _. goes_first pair _ refl is_owed;
    goes = λ pair _ _ _. goes_first pair _ refl is_owed;
  }

pub goes_when_due :
    (cx : ContextValue) (v : TcpValue) (pair : FourTuple) → v.tcb.names.pair ≡ Some pair → v.tcb.receiver.took_syn ≡ true → Proceeds cx v
    → IsDueBy cx.instant v.tcb → OffersAck (offer_of cx v).socket v.tcb
goes_when_due cx v pair named heard on due = by_rules cx v (Offers cx v heard due) (goes_rules cx v heard due pair named on)
