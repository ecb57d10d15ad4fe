-- What an offer and its settling do to what is in flight, and where the offers lie that carry nothing.
use Rattle.std.proofs.Common.{◌≡◌, ℕ, ◌+◌, ◌<◌, ◌≤◌, ◌==◌, ℤ, Bool, true, false, if◌then◌else◌, Option, Some, None, refl, sym, ap, ◌∙◌, subst, arith}
use Rattle.std.proofs.lemmas.Bool.{cond_both}
use Rattle.ip_wire.specs.Tcp.{header_len}
use Rattle.ip_wire.specs.TcpHeader.{TcpHeader}
use Rattle.tcp_block.specs.Context.{ContextValue}
use Rattle.tcp_block.specs.BaseOffers.{Offered}
use Rattle.tcp_state.specs.Endpoints.{header_for}
use Rattle.tcp_state.specs.Moments.{is_due, is_over, timeout_from}
use Rattle.tcp_state.specs.States.{is_closed, is_listening}
use Rattle.tcp_state.specs.declared.endpoints.FourTuple.{FourTuple}
use Rattle.tcp_state.specs.declared.offer.OfferKind.{OfferKind}
use Rattle.tcp_state.specs.declared.offer.OfferKind.TheVariants as Kind
use Rattle.tcp_state.specs.declared.offer.OpenOffer.{OpenOffer}
use Rattle.tcp_block.specs.TcbRules.{snd_max}
use Rattle.tcp_block.specs.Calls.{listening}
use Rattle.tcp_block.specs.Checks.{falls_back}
use Rattle.tcp_block.specs.Offers.{offer_segment, offer_choice, offer_ack, offer_syn, offer_reset, offer_keep_alive, offer_window_limited, silent, last_rules}
use Rattle.tcp_block.specs.Offers.{first_rules, backed_off, offer_between, offer_with, offer_of, number_at}
use Rattle.tcp_block.specs.LossRecovery.{loss_probe_deadline, loss_probed, loss_probed_by}
use Rattle.tcp_block.specs.Probing.{probe_started, probe_deadline}
use Rattle.tcp_block.specs.Retries.{asked, one_more, gives_up, given_up}
use Rattle.tcp_block.specs.Rules.{control_for, time_wait_end, owes_syn, resends, ack_deadline, has_payload, payload_choice, resend_choice, probe_choice, updates_window}
use Rattle.tcp_block.specs.Rules.{keep_alive_deadline, backed_off_now}
use Rattle.tcp_block.specs.Segments.{hop_limit_of, segment, ack_segment, syn_segment, reset_segment, keep_alive_segment}
use Rattle.tcp_block.specs.Settled.{settled, sent_off, recorded, probed, end_of, sent_as, timer_rearmed}
use Rattle.tcp_block.specs.Timeout.{timeout_end, timeout_started, timed_out}
use Rattle.tcp_block.specs.Value.{TcpValue, with_tcb, unoffered, ended, queued_in, free_in, room_of, window_of}
use Rattle.tcp_block.specs.declared.tcb.Tcb.{Tcb}
use Rattle.tcp_invariants.specs.Flight.{is_bare}
use Rattle.tcp_invariants.proofs.Going.{Goes}
use Rattle.tcp_invariants.proofs.Steps.{same, proceeds, goes_from, anew, backs_off, sends, probes, timer_runs}

-- SETTLING

asked_goes : (old b : Tcb) (now : ℤ) → Goes old b → Goes old (asked b now)
asked_goes old b now goes =
    cond_both (is_over now b.timers.counts_from)
    (record b {
      sender = record b.sender { unanswered = one_more b.sender.unanswered };
      timers = record b.timers { counts_from = Some (timeout_from now b.round_trip) };
    })
    b (Goes old) (λ _. record { armed = goes.armed; rises = goes.rises }) (λ _. goes)

-- by its kind; `b` is the block with the offer recorded
sent_goes : (kind : OfferKind) (b : Tcb) (o : OpenOffer) (queued : ℕ) → Goes b (sent_as kind b o queued)
sent_goes Kind.Reset b o queued = same b (sent_as Kind.Reset b o queued) refl
sent_goes Kind.Syn b o queued = sends b (sent_as Kind.Syn b o queued) (end_of b o) refl refl (timer_runs b.timers.retransmit_at _)
sent_goes Kind.FastRetransmission b o queued = sends b (sent_as Kind.FastRetransmission b o queued) (end_of b o) refl refl (timer_runs (timer_rearmed b) _)
sent_goes Kind.Payload b o queued = sends b (sent_as Kind.Payload b o queued) (end_of b o) refl refl (timer_runs b.timers.retransmit_at _)
sent_goes Kind.Probe b o queued =
    asked_goes b (probed b (end_of b o) o.instant) o.instant (probes b (probed b (end_of b o) o.instant) (end_of b o) refl refl refl refl)
sent_goes Kind.KeepAlive b o queued = asked_goes b b o.instant (same b b refl)
sent_goes Kind.Ack b o queued = same b b refl
sent_goes Kind.WindowUpdate b o queued = same b b refl

-- OFFERING

-- two steps, of which the second leaves LISTEN alone
then_goes : (old mid new : Tcb) → Goes old mid → is_listening mid.state ≡ is_listening old.state → Goes mid new → Goes old new
then_goes old mid new first listens second = record {
  armed = λ a. second.armed (first.armed a);
  rises = λ before after counted.
      let more = second.rises (listens ∙ before) after counted in
      let mid_counted : mid.sender.past_iss < 4_294_967_295 = below mid.sender.past_iss new.sender.past_iss more.0 counted in
      let less = first.rises before (listens ∙ before) mid_counted in
      (at_most _ _ _ less.0 more.0, at_most _ _ _ less.1 more.1);
}
  where
    below : (a b : ℕ) → a ≤ b → b < 4_294_967_295 → a < 4_294_967_295
    below a b e f = omega arith

    at_most : (a b c : ℕ) → a ≤ b → b ≤ c → a ≤ c
    at_most a b c e f = omega arith

module _ (cx : ContextValue) (pair : FourTuple) where
  -- the step from a block, settled as sent or not, and where an offer lies that carries nothing
  abbrev Sound : Tcb → Offered TcpValue → Type 0
  Sound old o =
      (Goes old (settled true o.socket).tcb × Goes old o.socket.tcb)
      × ((x : OpenOffer) → o.socket.offered ≡ Some x → is_bare x.kind ≡ true → x.segment.seq_number ≡ snd_max o.socket.tcb)

  -- the block that the rules go on with: only its timers moved
  record Going (old : Tcb) (v : TcpValue) : Type 0 where
    none : v.offered ≡ None
    goes : Goes old v.tcb
    listens : is_listening v.tcb.state ≡ is_listening old.state

  by_silent : (changed : Bool) (old : Tcb) (v : TcpValue) → v.offered ≡ None → Goes old v.tcb → Sound old (silent changed v)
  by_silent changed old v none goes = (
    (subst (λ (x : Option OpenOffer). Goes old (sent_off x (unoffered v)).tcb) (sym none) goes, goes),
    λ x e. absurd (let clash : None ≡ Some x = sym none ∙ e in cc),
  )

  by_segment :
      (old : Tcb) (v : TcpValue) (kind : OfferKind) (header : TcpHeader) (offset len : ℕ) → Going old v →
      (is_bare kind ≡ true → header.seq_number ≡ snd_max v.tcb)
      → Sound old (offer_segment kind cx v pair header offset len)
  by_segment old v kind header offset len going past = ((sent, going.goes), λ x e bare. at x e bare) where
    mine : OpenOffer
    mine = record {
      kind = kind;
      instant = cx.instant;
      header = header_for pair.addresses (hop_limit_of v.tcb.settings.hop_limit) (header_len header + len);
      segment = header;
      offset = offset;
      len = len;
    }

    sent : Goes old (settled true (offer_segment kind cx v pair header offset len).socket).tcb
    sent =
        then_goes old v.tcb (sent_as kind (recorded v.tcb mine (room_of v.received)) mine (queued_in v)) going.goes going.listens
        (goes_from v.tcb (recorded v.tcb mine (room_of v.received)) (sent_as kind (recorded v.tcb mine (room_of v.received)) mine (queued_in v)) refl refl
        (sent_goes kind (recorded v.tcb mine (room_of v.received)) mine (queued_in v)))

    at : (x : OpenOffer) → (offer_segment kind cx v pair header offset len).socket.offered ≡ Some x → is_bare x.kind ≡ true → x.segment.seq_number ≡ snd_max v.tcb
    at x e bare =
        let it : mine ≡ x = by_some mine x e in
        ap (λ (o : OpenOffer). o.segment.seq_number) (sym it) ∙ past (ap (λ (o : OpenOffer). is_bare o.kind) it ∙ bare)
      where
        by_some : (a b : OpenOffer) → Some a ≡ Some b → a ≡ b
        by_some a b e = cc

  no_bare : {A : Type 0} → false ≡ true → A
  no_bare e = absurd (cc)

  by_window_limited : (old : Tcb) (v : TcpValue) → Going old v → Sound old (offer_window_limited cx v pair)
  by_window_limited old v goes =
      let payload = payload_choice v.tcb pair.addresses cx.ip_mtu v.queued in
      cond_both (v.tcb.peer.window == 0) (offer_choice Kind.Probe cx v pair probe_choice) (offer_choice Kind.Payload cx v pair payload) (Sound old)
      (λ _. by_segment old v Kind.Probe (segment v.tcb pair cx.instant (window_of v) (control_for probe_choice (queued_in v)) (number_at v.tcb 0)) 0 1 goes
      (λ e. no_bare e))
      (λ _. by_segment old v Kind.Payload (segment v.tcb pair cx.instant (window_of v) (control_for payload (queued_in v)) (number_at v.tcb payload.offset)) payload.offset
      payload.len goes (λ e. no_bare e))

  by_last : (old : Tcb) (v : TcpValue) → Going old v → Sound old (last_rules cx v pair)
  by_last old v goes =
      let ack = ack_segment v.tcb pair cx.instant (window_of v) in
      cond_both (is_due cx.instant (probe_deadline v.tcb (queued_in v))) (offer_window_limited cx v pair)
      (if is_due cx.instant (ack_deadline v.tcb) then offer_ack Kind.Ack cx v pair
      else if updates_window v.tcb (room_of v.received) (free_in v) then offer_ack Kind.WindowUpdate cx v pair
      else if is_due cx.instant (keep_alive_deadline v.tcb) then offer_keep_alive cx v pair
      else silent false v)
      (Sound old)
      (λ _. by_window_limited old v goes)
      (λ _.
      cond_both (is_due cx.instant (ack_deadline v.tcb)) (offer_ack Kind.Ack cx v pair)
      (if updates_window v.tcb (room_of v.received) (free_in v) then offer_ack Kind.WindowUpdate cx v pair
      else if is_due cx.instant (keep_alive_deadline v.tcb) then offer_keep_alive cx v pair
      else silent false v)
      (Sound old)
      (λ _. by_segment old v Kind.Ack ack 0 0 goes (λ _. refl))
      (λ _.
      cond_both (updates_window v.tcb (room_of v.received) (free_in v)) (offer_ack Kind.WindowUpdate cx v pair)
      (if is_due cx.instant (keep_alive_deadline v.tcb) then offer_keep_alive cx v pair else silent false v)
      (Sound old)
      (λ _. by_segment old v Kind.WindowUpdate ack 0 0 goes (λ _. refl))
      (λ _.
      cond_both (is_due cx.instant (keep_alive_deadline v.tcb)) (offer_keep_alive cx v pair) (silent false v) (Sound old)
      (λ _. by_segment old v Kind.KeepAlive (keep_alive_segment v.tcb pair cx.instant (window_of v)) 0 1 goes (λ e. no_bare e))
      (λ _. by_silent false old v goes.none goes.goes))))

  by_first : (old : Tcb) (v : TcpValue) → Going old v → Sound old (first_rules cx v pair)
  by_first old v goes =
      let again = resend_choice v.tcb pair.addresses cx.ip_mtu v.queued in
      let payload = payload_choice v.tcb pair.addresses cx.ip_mtu v.queued in
      let probing = with_tcb v (probe_started cx.instant (queued_in v) v.tcb) in
      cond_both (owes_syn v.tcb) (offer_syn cx v pair)
      (if resends v.tcb pair.addresses cx.ip_mtu v.queued then offer_choice Kind.FastRetransmission cx v pair again
      else if has_payload v.tcb pair.addresses cx.ip_mtu v.queued then offer_choice Kind.Payload cx v pair payload
      else last_rules cx probing pair)
      (Sound old)
      (λ _. by_segment old v Kind.Syn (syn_segment v.tcb pair cx.instant cx.ip_mtu (room_of v.received) (free_in v)) 0 0 goes (λ e. no_bare e))
      (λ _.
      cond_both (resends v.tcb pair.addresses cx.ip_mtu v.queued) (offer_choice Kind.FastRetransmission cx v pair again)
      (if has_payload v.tcb pair.addresses cx.ip_mtu v.queued then offer_choice Kind.Payload cx v pair payload else last_rules cx probing pair)
      (Sound old)
      (λ _.
      by_segment old v Kind.FastRetransmission (segment v.tcb pair cx.instant (window_of v) (control_for again (queued_in v)) (number_at v.tcb again.offset))
      again.offset again.len goes
      (λ e. no_bare e))
      (λ _.
      cond_both (has_payload v.tcb pair.addresses cx.ip_mtu v.queued) (offer_choice Kind.Payload cx v pair payload) (last_rules cx probing pair) (Sound old)
      (λ _. by_segment old v Kind.Payload (segment v.tcb pair cx.instant (window_of v) (control_for payload (queued_in v)) (number_at v.tcb payload.offset)) payload.offset
      payload.len goes (λ e. no_bare e))
      (λ _. by_last old probing (record { none = goes.none; goes = proceeds old v.tcb probing.tcb goes.goes refl refl; listens = goes.listens }))))

  by_end : (v : TcpValue) → Sound v.tcb (silent true (given_up (unoffered v)))
  by_end v =
      cond_both (falls_back v.tcb) (listening (unoffered v) v.tcb.names.listen) (with_tcb (unoffered v) (timed_out v.tcb))
      (λ (w : TcpValue). Sound v.tcb (silent true w))
      (λ _. by_silent true v.tcb (listening (unoffered v) v.tcb.names.listen) refl
      (anew v.tcb (listening (unoffered v) v.tcb.names.listen).tcb refl refl))
      (λ _. by_silent true v.tcb (with_tcb (unoffered v) (timed_out v.tcb)) refl (same v.tcb (timed_out v.tcb) refl))

  by_between : (v : TcpValue) → Sound v.tcb (offer_between cx (unoffered v) pair)
  by_between v =
      let started = timeout_started cx.instant (queued_in v) v.tcb in
      let reset : Offered TcpValue = if v.tcb.sender.reset_due then offer_reset cx (unoffered v) pair else silent false (unoffered v) in
      let going : Offered TcpValue = first_rules cx (with_tcb (unoffered v) (backed_off cx.instant started)) pair in
      let gone : Offered TcpValue = silent true (given_up (unoffered v)) in
      let unchanged = same v.tcb v.tcb refl in
      cond_both (is_due cx.instant (time_wait_end v.tcb)) (silent true (ended (unoffered v)))
      (if is_due cx.instant (timeout_end v.tcb (queued_in v)) then silent true (with_tcb (unoffered v) (timed_out v.tcb))
      else if is_closed v.tcb.state then reset else if gives_up cx.instant v.tcb (queued_in v) then gone else going)
      (Sound v.tcb)
      (λ _. by_silent true v.tcb (ended (unoffered v)) refl (same v.tcb (ended v).tcb refl))
      (λ _.
      cond_both (is_due cx.instant (timeout_end v.tcb (queued_in v))) (silent true (with_tcb (unoffered v) (timed_out v.tcb)))
      (if is_closed v.tcb.state then reset else if gives_up cx.instant v.tcb (queued_in v) then gone else going)
      (Sound v.tcb)
      (λ _. by_silent true v.tcb (with_tcb (unoffered v) (timed_out v.tcb)) refl (same v.tcb (timed_out v.tcb) refl))
      (λ _.
      cond_both (is_closed v.tcb.state) reset (if gives_up cx.instant v.tcb (queued_in v) then gone else going) (Sound v.tcb)
      (λ _.
      cond_both v.tcb.sender.reset_due (offer_reset cx (unoffered v) pair) (silent false (unoffered v)) (Sound v.tcb)
      (λ _.
      by_segment v.tcb (unoffered v) Kind.Reset (reset_segment v.tcb pair cx.instant (window_of v)) 0 0
      (record { none = refl; goes = unchanged; listens = refl }) (λ _. refl))
      (λ _. by_silent false v.tcb (unoffered v) refl unchanged))
      (λ _.
      cond_both (gives_up cx.instant v.tcb (queued_in v)) gone going (Sound v.tcb)
      (λ _. by_end v)
      (λ _.
      cond_both (is_due cx.instant v.tcb.timers.retransmit_at) (backed_off_now started) (loss_probed_by cx.instant started)
      (λ (b : Tcb). Sound v.tcb (first_rules cx (with_tcb (unoffered v) b) pair))
      (λ _.
      by_first v.tcb (with_tcb (unoffered v) (backed_off_now started))
      (record { none = refl; goes = backs_off v.tcb (backed_off_now started) refl refl refl; listens = refl }))
      (λ _.
      cond_both (is_due cx.instant (loss_probe_deadline started)) (loss_probed started) started
      (λ (b : Tcb). Sound v.tcb (first_rules cx (with_tcb (unoffered v) b) pair))
      (λ _.
      by_first v.tcb (with_tcb (unoffered v) (loss_probed started))
      (record { none = refl; goes = same v.tcb (loss_probed started) refl; listens = refl }))
      (λ _. by_first v.tcb (with_tcb (unoffered v) started) (record { none = refl; goes = same v.tcb started refl; listens = refl })))))))

abbrev Sound_with : TcpValue → Offered TcpValue → Type 0
Sound_with v o =
    (Goes v.tcb (settled true o.socket).tcb × Goes v.tcb o.socket.tcb)
    × ((x : OpenOffer) → o.socket.offered ≡ Some x → is_bare x.kind ≡ true → x.segment.seq_number ≡ snd_max o.socket.tcb)

sound_with : (cx : ContextValue) (v : TcpValue) (names : Option FourTuple) → Sound_with v (offer_with names cx (unoffered v))
sound_with cx v None = ((same v.tcb v.tcb refl, same v.tcb v.tcb refl), λ x e. absurd (cc))
sound_with cx v (Some pair) = by_between cx pair v

pub offers_past_all :
    (cx : ContextValue) (v : TcpValue) (o : OpenOffer) → (offer_of cx v).socket.offered ≡ Some o → is_bare o.kind ≡ true
    → o.segment.seq_number ≡ snd_max (offer_of cx v).socket.tcb
offers_past_all cx v = (sound_with cx v v.tcb.names.pair).1

-- it is settled as sent
pub offer_sent_goes : (cx : ContextValue) (v : TcpValue) → Goes v.tcb (settled true (offer_of cx v).socket).tcb
offer_sent_goes cx v = (sound_with cx v v.tcb.names.pair).0.0

-- or as not sent
pub offer_goes : (cx : ContextValue) (v : TcpValue) → Goes v.tcb (offer_of cx v).socket.tcb
offer_goes cx v = (sound_with cx v v.tcb.names.pair).0.1
