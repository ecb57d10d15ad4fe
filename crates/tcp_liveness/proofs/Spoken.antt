-- What a side says that is asked twice: how long it is, and what the asking leaves of the count of its tries.
use Rattle.std.proofs.Common.{◌≡◌, ◌⊎◌, inl, inr, ℕ, suc, ◌+◌, ◌-◌, ◌*◌, ◌≤◌, ◌==◌, ◌&&◌, ◌||◌, min, not, ℤ, Bool, true, false}
use Rattle.std.proofs.Common.{if◌then◌else◌, length, take, drop, Option, Some, None, is_some, refl, sym, ap, ◌∙◌, subst, arith}
use Rattle.std.proofs.Common.{length-take, length-drop}
use Rattle.std.proofs.lemmas.Bool.{cond_both, eq-eqb, eqb-true, ne_eqb}
use Rattle.net_base.specs.Ring.{Ring}
use Rattle.ip_wire.specs.Control.{control_len}
use Rattle.ip_wire.specs.Tcp.{header_len}
use Rattle.ip_wire.specs.TcpControl.{TcpControl}
use Rattle.ip_wire.specs.TcpControl.TheVariants as Control
use Rattle.ip_wire.specs.TcpHeader.{TcpHeader}
use Rattle.tcp_refinement.specs.Context.{ContextValue}
use Rattle.tcp_refinement.specs.Offers.{Offered}
use Rattle.tcp_refinement.proofs.Tied.{if_so, if_not}
use Rattle.tcp_invariants.specs.FourTuple.{FourTuple}
use Rattle.tcp_invariants.specs.Endpoints.{header_for}
use Rattle.tcp_invariants.specs.Moments.{is_due, is_over, timeout_from}
use Rattle.tcp_invariants.specs.OfferKind.{OfferKind}
use Rattle.tcp_invariants.specs.OfferKind.TheVariants as Kind
use Rattle.tcp_invariants.specs.OpenOffer.{OpenOffer}
use Rattle.tcp_invariants.specs.States.{may_send_data}
use Rattle.tcp_invariants.specs.Timing.{carries}
use Rattle.tcp_invariants.proofs.OfferCases.{begun, by_first, probing}
use Rattle.tcp_invariants.proofs.OrderSteps.{clash}
use Rattle.tcp_block.specs.AddressPair.{AddressPair}
use Rattle.tcp_block.specs.Reno as reno
use Rattle.tcp_block.specs.Reno.{RenoValue}
use Rattle.tcp_block.specs.declared.tcb.CongestionControl.{CongestionControl}
use Rattle.tcp_block.specs.declared.tcb.CongestionControl.TheVariants as Congestion
use Rattle.tcp_block.specs.declared.tcb.Loss.{Loss}
use Rattle.tcp_block.specs.Undo.{undo_sent}
use Rattle.tcp_block.specs.declared.tcb.Tcb.{Tcb}
use Rattle.tcp_block.specs.TcbRules.{past_snd_max}
use Rattle.tcp_block.specs.LossRecovery.{fills_hole, is_sent_early, loss_probe_deadline, loss_probed, loss_probed_by, pipe, probe_armed, probe_from}
use Rattle.tcp_block.specs.LossRecovery.{probes_losses}
use Rattle.tcp_block.specs.Offers.{backed_off, first_rules, last_rules, number_at, offer_choice, offer_of, offer_segment, offer_syn}
use Rattle.tcp_block.specs.Probing.{probe_started}
use Rattle.tcp_block.specs.Retries.{asked, one_more}
use Rattle.tcp_block.specs.Rules.{Choice, backed_off_now, beyond, congestion_room, control_for, has_payload, next_offset, owes_syn, probe_choice}
use Rattle.tcp_block.specs.Rules.{resend_choice, resends, resends_beside, size_limit, payload_choice}
use Rattle.tcp_block.specs.Segments.{ack_segment, hop_limit_of, keep_alive_segment, segment, segment_len}
use Rattle.tcp_block.specs.Settled.{end_of, nxt_moved, probed, recorded, resent, settled, timer_started, was_sent}
use Rattle.tcp_block.specs.Value.{TcpValue, queued_in, room_of, unoffered, window_of, with_tcb}
use Rattle.tcp_liveness.specs.Exchange.{data_of}
use Rattle.tcp_liveness.proofs.Held.{at_una, full, len_is, most_of, widest}
use Rattle.tcp_liveness.proofs.Resumes.{Starts, StartsWith, idles, neither, no_hole, no_probe, no_syn, none_early, to_rules}

-- THE VOICE OF A SIDE

-- what bounds a segment of payload, but for the congestion window and the send queue
pub record Voice : Type 0 where
  pub limit : ℕ
  pub mss : ℕ
  pub window : ℕ
  pub control : CongestionControl

abbrev pub voice_of : AddressPair → ℕ → Tcb → Voice
voice_of addresses mtu b = record {
  limit = size_limit b addresses mtu;
  mss = b.reno.mss;
  window = b.peer.window;
  control = b.settings.congestion_control;
}

-- how much payload goes once the timer has run out: the congestion window is a segment then (RFC 5681, 3.1)
abbrev pub says : Voice → Ring ℕ → ℕ
says voice queued = min (widest voice.control voice.mss voice.window) (min voice.limit (length queued.queue))

-- no more than the remote's window
pub says_most : (voice : Voice) (queued : Ring ℕ) → says voice queued ≤ voice.window
says_most voice queued = by voice.control where
  alone : (window rest : ℕ) → min window rest ≤ window
  alone window rest = omega arith

  less : (mss window rest : ℕ) → min (min mss window) rest ≤ window
  less mss window rest = omega arith

  by : (control : CongestionControl) → min (widest control voice.mss voice.window) (min voice.limit (length queued.queue)) ≤ voice.window
  by Congestion.None = alone voice.window (min voice.limit (length queued.queue))
  by other = less voice.mss voice.window (min voice.limit (length queued.queue))

-- the timer has run out
pub record IsSlowed (b : Tcb) : Type 0 where
  pub cwnd : b.reno.cwnd ≡ b.reno.mss
  pub recover : 1 ≤ b.sender.recover

some_not : (n : ℕ) → 1 ≤ n → (n == 0) ≡ false
some_not n e = ne_eqb n 0 (never n e) where
  never : (n : ℕ) → 1 ≤ n → n ≡ 0 → ⊥
  never n e f = absurd (omega arith)

room_is : (b : Tcb) → b.sender.flight_size ≡ 0 → IsSlowed b → congestion_room b ≡ b.reno.mss
room_is b none slow =
    cond_both b.peer.sack (b.reno.cwnd - pipe b) (b.reno.cwnd + beyond b - b.sender.flight_size) (λ (n : ℕ). n ≡ b.reno.mss)
    (λ _. less b.reno.cwnd (pipe b) (if_so (b.sender.flight_size == 0) 0 _ (eq-eqb b.sender.flight_size 0 none)) ∙ slow.cwnd)
    (λ _.
    all b.reno.cwnd (beyond b) b.sender.flight_size (if_not (b.sender.recover == 0) (b.reno.mss * min 2 b.sender.duplicates) 0 (some_not b.sender.recover slow.recover))
    none
    ∙ slow.cwnd)
  where
    less : (cwnd pipe : ℕ) → pipe ≡ 0 → cwnd - pipe ≡ cwnd
    less cwnd pipe e = omega arith

    all : (cwnd more flight : ℕ) → more ≡ 0 → flight ≡ 0 → cwnd + more - flight ≡ cwnd
    all cwnd more flight e f = omega arith

-- THE FIRST TIME IT IS ASKED

-- of a block and what an offer that isn't taken makes of it
pub record IsRoused (addresses : AddressPair) (mtu : ℕ) (old new : Tcb) : Type 0 where
  pub timeouts : new.sender.timeouts ≤ old.sender.timeouts + 1
  pub unanswered : new.sender.unanswered ≡ old.sender.unanswered
  -- what wasn't to be retransmitted isn't, whatever payload goes
  pub again : old.sender.resend ≡ false → old.loss.probes ≡ false → (payload : Bool) → resends_beside new payload ≡ false
  pub voice : voice_of addresses mtu new ≡ voice_of addresses mtu old
  pub slowed : is_some old.timers.retransmit_at ≡ true → IsSlowed new

capped : (n : ℕ) → min (n + 1) 255 ≤ n + 1
capped n = omega arith

one_above : (n : ℕ) → n ≤ n + 1
one_above n = omega arith

none_again :
    (sends resend probes hole early payload : Bool) → resend ≡ false → probes ≡ false → hole ≡ false → early ≡ false
    → (sends && (resend || (probes || (hole || (early && not payload))))) ≡ false
none_again true resend probes hole early payload e f g h =
    neither resend _ e (neither probes _ f (neither hole (early && not payload) g (ap (λ (t : Bool). t && not payload) h)))
none_again false resend probes hole early payload e f g h = refl

module _ (cx : ContextValue) (v : TcpValue) (pair : FourTuple) (named : v.tcb.names.pair ≡ Some pair) (m : Starts cx v)
    (sends : may_send_data v.tcb.state ≡ true) (sent : resends v.tcb pair.addresses cx.ip_mtu v.queued ≡ true → 1 ≤ v.tcb.sender.snd_max)
    (runs : is_due cx.instant v.tcb.timers.retransmit_at ≡ false → v.tcb.timers.retransmit_at ≡ None) where
  abbrev Roused : Tcb → Type 0
  Roused new = IsRoused pair.addresses cx.ip_mtu v.tcb new

  backed : Roused (backed_off_now (begun cx v))
  backed = record {
    timeouts = capped v.tcb.sender.timeouts;
    unanswered = refl;
    again = λ resend _ payload.
        none_again (may_send_data v.tcb.state) v.tcb.sender.resend false (fills_hole b) (is_sent_early b) payload resend refl (no_hole b refl)
        (none_early b refl);
    voice =
        ap (λ (r : RenoValue). record {
          limit = size_limit v.tcb pair.addresses cx.ip_mtu;
          mss = r.mss;
          window = v.tcb.peer.window;
          control = v.tcb.settings.congestion_control;
        }) slow;
    slowed = λ _.
        record {
          cwnd = ap (λ (r : RenoValue). r.cwnd) slow ∙ sym (ap (λ (r : RenoValue). r.mss) slow);
          recover =
              subst (λ (n : ℕ). 1 ≤ n) (sym (if_not v.tcb.sender.syn_unacked v.tcb.sender.recover (past_snd_max v.tcb) m.own.acknowledged))
              (past v.tcb.sender.snd_max);
        };
  }
    where
      b : Tcb
      b = backed_off_now (begun cx v)

      slow : b.reno ≡ reno.timed_out v.tcb.reno v.tcb.sender.flight_size
      slow = if_not v.tcb.sender.syn_unacked v.tcb.reno (reno.timed_out v.tcb.reno v.tcb.sender.flight_size) m.own.acknowledged

      past : (snd_max : ℕ) → 1 ≤ min (snd_max + 1) 4_294_967_295
      past snd_max = omega arith

  idle : is_due cx.instant v.tcb.timers.retransmit_at ≡ false → v.tcb.sender.flight_size ≡ 0 → Roused (begun cx v)
  idle not_due none = record {
    timeouts = one_above v.tcb.sender.timeouts;
    unanswered = refl;
    again = λ resend probes payload.
        none_again (may_send_data v.tcb.state) v.tcb.sender.resend v.tcb.loss.probes (fills_hole (begun cx v)) (is_sent_early (begun cx v)) payload resend
        probes (no_hole (begun cx v) none) (none_early (begun cx v) none);
    voice = refl;
    slowed = λ some. clash (sym some ∙ ap is_some (runs not_due));
  }

  first_roused : (b : Tcb) → Roused b → Roused (first_rules cx (with_tcb (unoffered v) b) pair).socket.tcb
  first_roused b g =
      by_first cx pair (λ (o : Offered TcpValue). Roused o.socket.tcb) (with_tcb (unoffered v) b)
      (record {
        syn = λ _. g;
        again = λ _ _. g;
        payload = λ _ _. g;
        last = λ _.
            record { probe = λ _ _. h; window_limited = λ _ _. h; ack = λ _. h; update = λ _ _. h; keep_alive = λ _ _. h; quiet = λ _. h };
      })
    where
      h : Roused (probe_started cx.instant (queued_in v) b)
      h = record { timeouts = g.timeouts; unanswered = g.unanswered; again = g.again; voice = g.voice; slowed = λ e. slow (g.slowed e) } where
        slow : IsSlowed b → IsSlowed (probe_started cx.instant (queued_in v) b)
        slow s = record { cwnd = s.cwnd; recover = s.recover }

  pub asked_roused : Roused (offer_of cx v).socket.tcb
  asked_roused =
      subst (λ (o : Offered TcpValue). Roused o.socket.tcb) (sym (to_rules cx v pair named m sends sent))
      (at (is_due cx.instant v.tcb.timers.retransmit_at) refl)
    where
      at : (due : Bool) → is_due cx.instant v.tcb.timers.retransmit_at ≡ due →
          Roused (first_rules cx (with_tcb (unoffered v) (backed_off cx.instant (begun cx v))) pair).socket.tcb
      at true e =
          subst (λ (b : Tcb). Roused (first_rules cx (with_tcb (unoffered v) b) pair).socket.tcb)
          (sym (if_so (is_due cx.instant v.tcb.timers.retransmit_at) (backed_off_now (begun cx v)) (loss_probed_by cx.instant (begun cx v)) e))
          (first_roused (backed_off_now (begun cx v)) backed)
      at false e = by m.over where
        by : (v.tcb.sender.flight_size ≡ 0) ⊎ (is_due cx.instant v.tcb.timers.retransmit_at ≡ true) →
            Roused (first_rules cx (with_tcb (unoffered v) (backed_off cx.instant (begun cx v))) pair).socket.tcb
        by (inr out) = clash (sym out ∙ e)
        by (inl none) =
            subst (λ (b : Tcb). Roused (first_rules cx (with_tcb (unoffered v) b) pair).socket.tcb)
            (sym
            (if_not (is_due cx.instant v.tcb.timers.retransmit_at) (backed_off_now (begun cx v)) (loss_probed_by cx.instant (begun cx v)) e
            ∙ if_not (is_due cx.instant (loss_probe_deadline (begun cx v))) (loss_probed (begun cx v)) (begun cx v)
            (no_probe cx v pair named m sends sent none)))
            (first_roused (begun cx v) (idle e none))

-- THE SECOND TIME

-- a segment takes all the payload that may go, and its FIN no more than one position alongside
pub record HasSize (v : TcpValue) (len : ℕ) (o : OpenOffer) : Type 0 where
  pub least : len ≤ length (data_of v o)
  pub most : segment_len o.segment (length (data_of v o)) ≤ suc len

-- what goes of a socket with this block, and leaves it as `x`
pub record IsSpoken (addresses : AddressPair) (mtu : ℕ) (v : TcpValue) (b : Tcb) (o : OpenOffer) (x : TcpValue) : Type 0 where
  pub timeouts : x.tcb.sender.timeouts ≡ b.sender.timeouts
  pub unanswered : x.tcb.sender.unanswered ≤ b.sender.unanswered + 1
  pub resend : x.tcb.sender.resend ≡ false
  pub probes : x.tcb.loss.probes ≡ false
  pub voice : voice_of addresses mtu x.tcb ≡ voice_of addresses mtu b
  pub names : x.tcb.names ≡ b.names
  pub queued : x.queued ≡ v.queued
  -- the timer runs, but after a probe of a closed window
  pub runs : (is_some x.tcb.timers.retransmit_at ≡ true) ⊎ (x.tcb.peer.window ≡ 0)
  pub size : (resends b addresses mtu v.queued ≡ true) ⊎ HasSize v (payload_choice b addresses mtu v.queued).len o

armed_probes : (b : Tcb) (l : Loss) (now : ℤ) → (probe_armed b l now).probes ≡ l.probes
armed_probes b l now =
    cond_both (probes_losses b && not l.probed) (record l { probe_at = probe_from b now }) l (λ (x : Loss). x.probes ≡ l.probes) (λ _. refl) (λ _. refl)

started : (timer : Option ℤ) (instant : ℤ) → is_some (if is_some timer then timer else Some instant) ≡ true
started None instant = refl
started (Some m) instant = refl

-- what went of the send queue: no loss is probed by it, and the timer runs
went_probes : (b : Tcb) (o : OpenOffer) (queued : ℕ) → (was_sent b o queued).loss.probes ≡ b.loss.probes
went_probes b o queued = armed_probes d (record d.loss { undo = undo_sent d d.loss.undo o.instant }) o.instant where
  d : Tcb
  d = timer_started (nxt_moved b (end_of b o) queued o.instant) o.instant

went_runs : (b : Tcb) (o : OpenOffer) (queued : ℕ) → is_some (was_sent b o queued).timers.retransmit_at ≡ true
went_runs b o queued = started b.timers.retransmit_at (timeout_from o.instant (nxt_moved b (end_of b o) queued o.instant).round_trip)

-- nothing is to be retransmitted
not_again : (sends resend probes more : Bool) → sends ≡ true → (sends && (resend || (probes || more))) ≡ false → (resend ≡ false) × (probes ≡ false)
not_again false resend probes more e f = clash (sym e)
not_again true true probes more e f = clash f
not_again true false true more e f = clash f
not_again true false false more e f = (refl, refl)

control_most : (c : Choice) (queued : ℕ) → control_len (control_for c queued) ≤ 1
control_most c queued =
    cond_both c.fin Control.Fin (if not (c.len == 0) && (c.offset + c.len == queued) then Control.Psh else Control.None)
    (λ (control : TcpControl). control_len control ≤ 1) (λ _. one)
    (λ _.
    cond_both (not (c.len == 0) && (c.offset + c.len == queued)) Control.Psh Control.None (λ (control : TcpControl). control_len control ≤ 1) (λ _. none)
    (λ _. none))
  where
    one : 1 ≤ 1
    one = omega arith

    none : 0 ≤ 1
    none = omega arith

one_offer : (mine k : OpenOffer) → Some mine ≡ Some k → mine ≡ k
one_offer mine k e = cc

none_offered : {A : Type 0} → (k : OpenOffer) → None ≡ Some k → A
none_offered k e = absurd (cc)

module _ (cx : ContextValue) (v : TcpValue) (pair : FourTuple) (b : Tcb) (s : StartsWith cx v pair b) where
  abbrev x : TcpValue
  x = with_tcb (unoffered v) b

  abbrev c : Tcb
  c = probe_started cx.instant (queued_in v) b

  abbrev len : ℕ
  len = (payload_choice b pair.addresses cx.ip_mtu v.queued).len

  abbrev Spoken : OpenOffer → TcpValue → Type 0
  Spoken o y = IsSpoken pair.addresses cx.ip_mtu v b o y

  abbrev Speaks : Offered TcpValue → Type 0
  Speaks off = (o : OpenOffer) → off.socket.offered ≡ Some o → carries o.kind ≡ true → Spoken o (settled true off.socket)

  abbrev header : Tcb → Choice → TcpHeader
  header d choice =
      segment d pair cx.instant (window_of (with_tcb (unoffered v) d)) (control_for choice (queued_in v)) (number_at d choice.offset)

  abbrev mine : OfferKind → Tcb → Choice → OpenOffer
  mine kind d choice = record {
    kind = kind;
    instant = cx.instant;
    header = header_for pair.addresses (hop_limit_of d.settings.hop_limit) (header_len (header d choice) + choice.len);
    segment = header d choice;
    offset = choice.offset;
    len = choice.len;
  }

  abbrev told : Tcb → OpenOffer → Tcb
  told d o = recorded d o (room_of v.received)

  -- what is to be retransmitted
  fast : resends b pair.addresses cx.ip_mtu v.queued ≡ true
      → Speaks (offer_choice Kind.FastRetransmission cx x pair (resend_choice b pair.addresses cx.ip_mtu v.queued))
  fast e k is _ =
      subst (λ (o : OpenOffer). Spoken o (settled true (offer_choice Kind.FastRetransmission cx x pair choice).socket)) (one_offer it k is)
      (record {
        timeouts = refl;
        unanswered = one_above b.sender.unanswered;
        resend = refl;
        probes = went_probes again it (queued_in v);
        voice = refl;
        names = refl;
        queued = refl;
        runs = inl (went_runs again it (queued_in v));
        size = inl e;
      })
    where
      choice : Choice
      choice = resend_choice b pair.addresses cx.ip_mtu v.queued

      it : OpenOffer
      it = mine Kind.FastRetransmission b choice

      again : Tcb
      again = resent (told b it) (end_of (told b it) it)

  module _ (quiet : resends b pair.addresses cx.ip_mtu v.queued ≡ false) where
    none : (b.sender.resend ≡ false) × (b.loss.probes ≡ false)
    none = not_again (may_send_data b.state) b.sender.resend b.loss.probes _ s.sends quiet

    -- payload from SND.UNA on
    payload_size : HasSize v len (mine Kind.Payload b (payload_choice b pair.addresses cx.ip_mtu v.queued))
    payload_size = record {
      least = least (length (take len (drop offset v.queued.queue))) len whole;
      most =
          most (length (take len (drop offset v.queued.queue))) len (control_len (control_for (payload_choice b pair.addresses cx.ip_mtu v.queued) (queued_in v)))
          whole (control_most (payload_choice b pair.addresses cx.ip_mtu v.queued) (queued_in v));
    }
      where
        offset : ℕ
        offset = next_offset b

        is : (got rest size from count room limit : ℕ) → got ≡ min size rest → rest ≡ count - from → size ≡ min room (min limit (count - from)) → got ≡ size
        is got rest size from count room limit a b c = omega arith

        whole : length (take len (drop offset v.queued.queue)) ≡ len
        whole =
            is (length (take len (drop offset v.queued.queue))) (length (drop offset v.queued.queue)) len offset (length v.queued.queue) (most_of b)
            (full cx v pair b s) (length-take len (drop offset v.queued.queue)) (length-drop offset v.queued.queue) (len_is cx v pair b s)

        least : (a b : ℕ) → a ≡ b → b ≤ a
        least a b e = omega arith

        most : (a b c : ℕ) → a ≡ b → c ≤ 1 → a + c ≤ suc b
        most a b c e f = omega arith

    plain : Speaks (offer_choice Kind.Payload cx x pair (payload_choice b pair.addresses cx.ip_mtu v.queued))
    plain k is _ =
        subst (λ (o : OpenOffer). Spoken o (settled true (offer_choice Kind.Payload cx x pair (payload_choice b pair.addresses cx.ip_mtu v.queued)).socket))
        (one_offer it k is)
        (record {
          timeouts = refl;
          unanswered = one_above b.sender.unanswered;
          resend = none.0;
          probes = went_probes (told b it) it (queued_in v) ∙ none.1;
          voice = refl;
          names = refl;
          queued = refl;
          runs = inl (went_runs (told b it) it (queued_in v));
          size = inr payload_size;
        })
      where
        it : OpenOffer
        it = mine Kind.Payload b (payload_choice b pair.addresses cx.ip_mtu v.queued)

    -- what the window held back, which is as long
    held : Speaks (offer_choice Kind.Payload cx (probing cx x) pair (payload_choice c pair.addresses cx.ip_mtu v.queued))
    held k is _ =
        subst
        (λ (o : OpenOffer). Spoken o (settled true (offer_choice Kind.Payload cx (probing cx x) pair (payload_choice c pair.addresses cx.ip_mtu v.queued)).socket))
        (one_offer it k is)
        (record {
          timeouts = refl;
          unanswered = one_above b.sender.unanswered;
          resend = none.0;
          probes = went_probes (told c it) it (queued_in v) ∙ none.1;
          voice = refl;
          names = refl;
          queued = refl;
          runs = inl (went_runs (told c it) it (queued_in v));
          size = inr (record { least = payload_size.least; most = payload_size.most });
        })
      where
        it : OpenOffer
        it = mine Kind.Payload c (payload_choice c pair.addresses cx.ip_mtu v.queued)

    -- the byte that probes a closed window
    shut_len : b.peer.window ≡ 0 → len ≡ 0
    shut_len shut = len_is cx v pair b s ∙ ap (λ (n : ℕ). min n (min (full cx v pair b s) (queued_in v - next_offset b))) nothing ∙ least _ where
      least : (n : ℕ) → min 0 n ≡ 0
      least n = omega arith

      alone : (window flight : ℕ) → window ≡ 0 → window - flight ≡ 0
      alone window flight e = omega arith

      less : (room window flight : ℕ) → window ≡ 0 → min room (window - flight) ≡ 0
      less room window flight e = omega arith

      nothing : most_of b ≡ 0
      nothing = by b.settings.congestion_control where
        by : (control : CongestionControl) → widest control (congestion_room b) (b.peer.window - b.sender.flight_size) ≡ 0
        by Congestion.None = alone b.peer.window b.sender.flight_size shut
        by other = less (congestion_room b) b.peer.window b.sender.flight_size shut

    probe_size : b.peer.window ≡ 0 → HasSize v len (mine Kind.Probe c probe_choice)
    probe_size shut = record {
      least = subst (λ (n : ℕ). n ≤ length (take 1 (drop 0 v.queued.queue))) (sym (shut_len shut)) (low (length (take 1 (drop 0 v.queued.queue))));
      most =
          one (length (take 1 (drop 0 v.queued.queue))) (length (drop 0 v.queued.queue)) (control_len (control_for probe_choice (queued_in v))) len
          (length-take 1 (drop 0 v.queued.queue)) bare;
    }
      where
        low : (n : ℕ) → 0 ≤ n
        low n = omega arith

        one : (got rest control len : ℕ) → got ≡ min 1 rest → control ≡ 0 → got + control ≤ suc len
        one got rest control len e f = omega arith

        bare : control_len (control_for probe_choice (queued_in v)) ≡ 0
        bare =
            cond_both (not (1 == 0) && (0 + 1 == queued_in v)) Control.Psh Control.None (λ (control : TcpControl). control_len control ≡ 0) (λ _. refl)
            (λ _. refl)

    probe : (b.peer.window == 0) ≡ true → Speaks (offer_choice Kind.Probe cx (probing cx x) pair probe_choice)
    probe shut k is _ =
        subst (λ (o : OpenOffer). Spoken o (settled true (offer_choice Kind.Probe cx (probing cx x) pair probe_choice).socket)) (one_offer it k is) body
      where
        it : OpenOffer
        it = mine Kind.Probe c probe_choice

        d : Tcb
        d = probed (told c it) (end_of (told c it) it) cx.instant

        zero_window : b.peer.window ≡ 0
        zero_window = eqb-true b.peer.window 0 shut

        body : Spoken it (with_tcb (unoffered v) (asked d cx.instant))
        body =
            cond_both (is_over cx.instant d.timers.counts_from)
            (record d {
              sender = record d.sender { unanswered = one_more d.sender.unanswered };
              timers = record d.timers { counts_from = Some (timeout_from cx.instant d.round_trip) };
            })
            d (λ (e : Tcb). Spoken it (with_tcb (unoffered v) e))
            (λ _.
            record {
              timeouts = refl;
              unanswered = capped b.sender.unanswered;
              resend = none.0;
              probes = none.1;
              voice = refl;
              names = refl;
              queued = refl;
              runs = inr zero_window;
              size = inr (probe_size zero_window);
            })
            (λ _.
            record {
              timeouts = refl;
              unanswered = one_above b.sender.unanswered;
              resend = none.0;
              probes = none.1;
              voice = refl;
              names = refl;
              queued = refl;
              runs = inr zero_window;
              size = inr (probe_size zero_window);
            })

    -- it carries nothing
    bare : (kind : OfferKind) (y : TcpValue) (h : TcpHeader) (offset size : ℕ) → carries kind ≡ false → Speaks (offer_segment kind cx y pair h offset size)
    bare kind y h offset size none k e some = clash (sym some ∙ (ap (λ (o : OpenOffer). carries o.kind) (sym (one_offer it k e)) ∙ none)) where
      it : OpenOffer
      it = record {
        kind = kind;
        instant = cx.instant;
        header = header_for pair.addresses (hop_limit_of y.tcb.settings.hop_limit) (header_len h + size);
        segment = h;
        offset = offset;
        len = size;
      }

    first : Speaks (first_rules cx x pair)
    first =
        let y = probing cx x in
        by_first cx pair Speaks x
        (record {
          syn = λ e. clash (sym e ∙ no_syn cx v pair b s);
          again = λ _ third. clash (sym third ∙ quiet);
          payload = λ _ _. plain;
          last = λ _.
              record {
                probe = λ _ shut. probe shut;
                window_limited = λ _ _. held;
                ack = λ _. bare Kind.Ack y (ack_segment y.tcb pair cx.instant (window_of y)) 0 0 refl;
                update = λ _ _. bare Kind.WindowUpdate y (ack_segment y.tcb pair cx.instant (window_of y)) 0 0 refl;
                keep_alive = λ _ _. bare Kind.KeepAlive y (keep_alive_segment y.tcb pair cx.instant (window_of y)) 0 1 refl;
                quiet = λ _ k e _. none_offered k e;
              };
        })

  speaks : Speaks (first_rules cx x pair)
  speaks = at (resends b pair.addresses cx.ip_mtu v.queued) refl where
    at : (t : Bool) → resends b pair.addresses cx.ip_mtu v.queued ≡ t → Speaks (first_rules cx x pair)
    at false e = first e
    at true e =
        subst Speaks
        (sym
        (if_not (owes_syn b) (offer_syn cx x pair) rest (no_syn cx v pair b s)
        ∙ if_so (resends b pair.addresses cx.ip_mtu v.queued)
        (offer_choice Kind.FastRetransmission cx x pair (resend_choice b pair.addresses cx.ip_mtu v.queued)) later e))
        (fast e)
      where
        later : Offered TcpValue
        later =
            if has_payload b pair.addresses cx.ip_mtu v.queued then offer_choice Kind.Payload cx x pair (payload_choice b pair.addresses cx.ip_mtu v.queued)
            else last_rules cx (probing cx x) pair

        rest : Offered TcpValue
        rest =
            if resends b pair.addresses cx.ip_mtu v.queued
            then offer_choice Kind.FastRetransmission cx x pair (resend_choice b pair.addresses cx.ip_mtu v.queued) else later

  -- as much as once the timer has run out
  payload_says : IsSlowed b ⊎ (b.peer.window ≡ 0) → len ≡ says (voice_of pair.addresses cx.ip_mtu b) v.queued
  payload_says how =
      len_is cx v pair b s
      ∙ (from_first (most_of b) (full cx v pair b s) (queued_in v) (next_offset b) (at_una cx v pair b s)
      ∙ ap (λ (n : ℕ). min n (min (full cx v pair b s) (queued_in v))) (by how b.settings.congestion_control))
    where
      from_first : (room limit count offset : ℕ) → offset ≡ 0 → min room (min limit (count - offset)) ≡ min room (min limit count)
      from_first room limit count offset e = omega arith

      whole : (window flight : ℕ) → flight ≡ 0 → window - flight ≡ window
      whole window flight e = omega arith

      both : (room mss window flight : ℕ) → room ≡ mss → flight ≡ 0 → min room (window - flight) ≡ min mss window
      both room mss window flight e f = omega arith

      shut : (room mss window flight : ℕ) → window ≡ 0 → min room (window - flight) ≡ min mss window
      shut room mss window flight e = omega arith

      by : IsSlowed b ⊎ (b.peer.window ≡ 0) → (control : CongestionControl) →
          widest control (congestion_room b) (b.peer.window - b.sender.flight_size) ≡ widest control b.reno.mss b.peer.window
      by how Congestion.None = whole b.peer.window b.sender.flight_size s.none
      by (inl slow) other = both (congestion_room b) b.reno.mss b.peer.window b.sender.flight_size (room_is b s.none slow) s.none
      by (inr none) other = shut (congestion_room b) b.reno.mss b.peer.window b.sender.flight_size none

-- of a socket that starts over with nothing in flight and no timer
module _ (cx : ContextValue) (v : TcpValue) (pair : FourTuple) (named : v.tcb.names.pair ≡ Some pair) (m : Starts cx v)
    (sends : may_send_data v.tcb.state ≡ true) (sent : resends v.tcb pair.addresses cx.ip_mtu v.queued ≡ true → 1 ≤ v.tcb.sender.snd_max)
    (none : v.tcb.sender.flight_size ≡ 0) (timer : v.tcb.timers.retransmit_at ≡ None) where
  not_due : is_due cx.instant v.tcb.timers.retransmit_at ≡ false
  not_due = ap (is_due cx.instant) timer

  starts : StartsWith cx v pair (begun cx v)
  starts = idles cx v pair named m sends sent not_due none

  pub spoken : (o : OpenOffer) → (offer_of cx v).socket.offered ≡ Some o → carries o.kind ≡ true →
      IsSpoken pair.addresses cx.ip_mtu v v.tcb o (settled true (offer_of cx v).socket)
  spoken =
      subst
      (λ (off : Offered TcpValue).
      (o : OpenOffer) → off.socket.offered ≡ Some o → carries o.kind ≡ true
      → IsSpoken pair.addresses cx.ip_mtu v v.tcb o (settled true off.socket))
      (sym
      (to_rules cx v pair named m sends sent
      ∙ ap (λ (b : Tcb). first_rules cx (with_tcb (unoffered v) b) pair)
      (if_not (is_due cx.instant v.tcb.timers.retransmit_at) (backed_off_now (begun cx v)) (loss_probed_by cx.instant (begun cx v)) not_due
      ∙ if_not (is_due cx.instant (loss_probe_deadline (begun cx v))) (loss_probed (begun cx v)) (begun cx v)
      (no_probe cx v pair named m sends sent none))))
      (λ o e some. as_it_was o (speaks cx v pair (begun cx v) starts o e some))
    where
      as_it_was : (o : OpenOffer) {y : TcpValue} → IsSpoken pair.addresses cx.ip_mtu v (begun cx v) o y → IsSpoken pair.addresses cx.ip_mtu v v.tcb o y
      as_it_was o s = record {
        timeouts = s.timeouts;
        unanswered = s.unanswered;
        resend = s.resend;
        probes = s.probes;
        voice = s.voice;
        names = s.names;
        queued = s.queued;
        runs = s.runs;
        size = s.size;
      }

  pub says_payload : IsSlowed v.tcb ⊎ (v.tcb.peer.window ≡ 0) →
      (payload_choice v.tcb pair.addresses cx.ip_mtu v.queued).len ≡ says (voice_of pair.addresses cx.ip_mtu v.tcb) v.queued
  says_payload how = payload_says cx v pair (begun cx v) starts (by how) where
    by : IsSlowed v.tcb ⊎ (v.tcb.peer.window ≡ 0) → IsSlowed (begun cx v) ⊎ (v.tcb.peer.window ≡ 0)
    by (inl s) = inl (record { cwnd = s.cwnd; recover = s.recover })
    by (inr e) = inr e
