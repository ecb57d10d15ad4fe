-- The rules of an offer, case by case: what holds of what each rule gives holds of the offer.
use Rattle.std.proofs.Common.{◌≡◌, ℕ, ◌==◌, true, false, if◌then◌else◌, Option, Some, None, refl}
use Rattle.std.proofs.lemmas.Bool.{cond_both}
use Rattle.tcp_block.specs.Context.{ContextValue}
use Rattle.tcp_block.specs.BaseOffers.{Offered}
use Rattle.tcp_state.specs.Moments.{is_due}
use Rattle.tcp_state.specs.States.{is_closed}
use Rattle.tcp_state.specs.declared.endpoints.FourTuple.{FourTuple}
use Rattle.tcp_state.specs.declared.offer.OfferKind.TheVariants as Kind
use Rattle.tcp_block.specs.Calls.{listening}
use Rattle.tcp_block.specs.Checks.{falls_back}
use Rattle.tcp_block.specs.Offers.{offer_choice, offer_ack, offer_syn, offer_reset, offer_keep_alive, offer_window_limited, silent, last_rules, first_rules}
use Rattle.tcp_block.specs.Offers.{backed_off, offer_between, offer_with, offer_of}
use Rattle.tcp_block.specs.LossRecovery.{retransmit_offset, loss_probe_deadline, loss_probed, loss_probed_by}
use Rattle.tcp_block.specs.Probing.{probe_started, probe_deadline}
use Rattle.tcp_block.specs.Retries.{gives_up, given_up}
use Rattle.tcp_block.specs.Rules.{time_wait_end, owes_syn, resends, ack_deadline, has_payload, payload_choice, resend_choice, probe_choice, updates_window}
use Rattle.tcp_block.specs.Rules.{keep_alive_deadline, backed_off_now}
use Rattle.tcp_block.specs.Timeout.{timeout_end, timeout_started, timed_out}
use Rattle.tcp_block.specs.Value.{TcpValue, with_tcb, unoffered, ended, queued_in, free_in, room_of}
use Rattle.tcp_block.specs.declared.tcb.Tcb.{Tcb}
use Rattle.tcp_block.proofs.Holes.{again_first}
use Rattle.tcp_invariants.specs.Ends.{Proceeds}

-- the instant of a probe is set where one is to be
abbrev pub probing : ContextValue → TcpValue → TcpValue
probing cx w = with_tcb w (probe_started cx.instant (queued_in w) w.tcb)

-- the user timeout is started where it is to run
abbrev pub begun : ContextValue → TcpValue → Tcb
begun cx v = timeout_started cx.instant (queued_in v) v.tcb

module _ (cx : ContextValue) (pair : FourTuple) (Q : Offered TcpValue → Type 0) where
  pub record LastRules (x : TcpValue) : Type 0 where
    pub probe :
        is_due cx.instant (probe_deadline x.tcb (queued_in x)) ≡ true → (x.tcb.peer.window == 0) ≡ true
        → Q (offer_choice Kind.Probe cx x pair probe_choice)
    pub window_limited :
        is_due cx.instant (probe_deadline x.tcb (queued_in x)) ≡ true → (x.tcb.peer.window == 0) ≡ false
        → Q (offer_choice Kind.Payload cx x pair (payload_choice x.tcb pair.addresses cx.ip_mtu x.queued))
    pub ack : is_due cx.instant (ack_deadline x.tcb) ≡ true → Q (offer_ack Kind.Ack cx x pair)
    pub update :
        is_due cx.instant (ack_deadline x.tcb) ≡ false → updates_window x.tcb (room_of x.received) (free_in x) ≡ true
        → Q (offer_ack Kind.WindowUpdate cx x pair)
    pub keep_alive : is_due cx.instant (ack_deadline x.tcb) ≡ false → is_due cx.instant (keep_alive_deadline x.tcb) ≡ true → Q (offer_keep_alive cx x pair)
    pub quiet : is_due cx.instant (ack_deadline x.tcb) ≡ false → Q (silent false x)

  pub record FirstRules (w : TcpValue) : Type 0 where
    pub syn : owes_syn w.tcb ≡ true → Q (offer_syn cx w pair)
    pub again : owes_syn w.tcb ≡ false → resends w.tcb pair.addresses cx.ip_mtu w.queued ≡ true →
        Q (offer_choice Kind.FastRetransmission cx w pair (resend_choice w.tcb pair.addresses cx.ip_mtu w.queued))
    pub payload :
        owes_syn w.tcb ≡ false → has_payload w.tcb pair.addresses cx.ip_mtu w.queued ≡ true
        → Q (offer_choice Kind.Payload cx w pair (payload_choice w.tcb pair.addresses cx.ip_mtu w.queued))
    pub last : owes_syn w.tcb ≡ false → LastRules (probing cx w)

  by_last : (x : TcpValue) → LastRules x → Q (last_rules cx x pair)
  by_last x r =
      cond_both (is_due cx.instant (probe_deadline x.tcb (queued_in x))) (offer_window_limited cx x pair)
      (if is_due cx.instant (ack_deadline x.tcb) then offer_ack Kind.Ack cx x pair
      else if updates_window x.tcb (room_of x.received) (free_in x) then offer_ack Kind.WindowUpdate cx x pair
      else if is_due cx.instant (keep_alive_deadline x.tcb) then offer_keep_alive cx x pair
      else silent false x)
      Q
      (λ due.
      cond_both (x.tcb.peer.window == 0) (offer_choice Kind.Probe cx x pair probe_choice)
      (offer_choice Kind.Payload cx x pair (payload_choice x.tcb pair.addresses cx.ip_mtu x.queued)) Q
      (λ shut. r.probe due shut)
      (λ not. r.window_limited due not))
      (λ _.
      cond_both (is_due cx.instant (ack_deadline x.tcb)) (offer_ack Kind.Ack cx x pair)
      (if updates_window x.tcb (room_of x.received) (free_in x) then offer_ack Kind.WindowUpdate cx x pair
      else if is_due cx.instant (keep_alive_deadline x.tcb) then offer_keep_alive cx x pair
      else silent false x)
      Q
      (λ due. r.ack due)
      (λ none.
      cond_both (updates_window x.tcb (room_of x.received) (free_in x)) (offer_ack Kind.WindowUpdate cx x pair)
      (if is_due cx.instant (keep_alive_deadline x.tcb) then offer_keep_alive cx x pair else silent false x) Q
      (λ worth. r.update none worth)
      (λ _.
      cond_both (is_due cx.instant (keep_alive_deadline x.tcb)) (offer_keep_alive cx x pair) (silent false x) Q
      (λ due. r.keep_alive none due)
      (λ _. r.quiet none))))

  pub by_first : (w : TcpValue) → FirstRules w → Q (first_rules cx w pair)
  by_first w r =
      cond_both (owes_syn w.tcb) (offer_syn cx w pair)
      (if resends w.tcb pair.addresses cx.ip_mtu w.queued
      then offer_choice Kind.FastRetransmission cx w pair (resend_choice w.tcb pair.addresses cx.ip_mtu w.queued)
      else if has_payload w.tcb pair.addresses cx.ip_mtu w.queued then offer_choice Kind.Payload cx w pair (payload_choice w.tcb pair.addresses cx.ip_mtu w.queued)
      else last_rules cx (probing cx w) pair)
      Q
      (λ syn. r.syn syn)
      (λ no_syn.
      cond_both (resends w.tcb pair.addresses cx.ip_mtu w.queued)
      (offer_choice Kind.FastRetransmission cx w pair (resend_choice w.tcb pair.addresses cx.ip_mtu w.queued))
      (if has_payload w.tcb pair.addresses cx.ip_mtu w.queued then offer_choice Kind.Payload cx w pair (payload_choice w.tcb pair.addresses cx.ip_mtu w.queued)
      else last_rules cx (probing cx w) pair)
      Q
      (λ third. r.again no_syn third)
      (λ _.
      cond_both (has_payload w.tcb pair.addresses cx.ip_mtu w.queued) (offer_choice Kind.Payload cx w pair (payload_choice w.tcb pair.addresses cx.ip_mtu w.queued))
      (last_rules cx (probing cx w) pair) Q
      (λ payload. r.payload no_syn payload)
      (λ _. by_last (probing cx w) (r.last no_syn))))

-- with nothing in flight what is retransmitted goes from SND.UNA
pub resends_first : (b : Tcb) (limit sent queued : ℕ) → b.sender.flight_size ≡ 0 → retransmit_offset b limit sent queued ≡ 0
resends_first b limit sent queued none = again_first b limit sent queued none

pub record Rules (cx : ContextValue) (v : TcpValue) (Q : Offered TcpValue → Type 0) : Type 0 where
  pub nobody : v.tcb.names.pair ≡ None → Q (silent false (unoffered v))
  pub time_wait : is_due cx.instant (time_wait_end v.tcb) ≡ true → Q (silent true (ended (unoffered v)))
  pub timeout : is_due cx.instant (timeout_end v.tcb (queued_in v)) ≡ true → Q (silent true (with_tcb (unoffered v) (timed_out v.tcb)))
  pub closed : is_closed v.tcb.state ≡ true → Q (silent false (unoffered v))
  pub reset : (pair : FourTuple) → is_closed v.tcb.state ≡ true → v.tcb.sender.reset_due ≡ true → Q (offer_reset cx (unoffered v) pair)
  pub falls :
      is_closed v.tcb.state ≡ false → gives_up cx.instant v.tcb (queued_in v) ≡ true → falls_back v.tcb ≡ true
      → Q (silent true (listening (unoffered v) v.tcb.names.listen))
  pub over :
      is_closed v.tcb.state ≡ false → gives_up cx.instant v.tcb (queued_in v) ≡ true → falls_back v.tcb ≡ false
      → Q (silent true (with_tcb (unoffered v) (timed_out v.tcb)))
  pub backs :
      (pair : FourTuple) → v.tcb.names.pair ≡ Some pair → Proceeds cx v → is_due cx.instant v.tcb.timers.retransmit_at ≡ true
      → FirstRules cx pair Q (with_tcb (unoffered v) (backed_off_now (begun cx v)))
  pub probes :
      (pair : FourTuple) → v.tcb.names.pair ≡ Some pair → Proceeds cx v → is_due cx.instant v.tcb.timers.retransmit_at ≡ false
      → is_due cx.instant (loss_probe_deadline v.tcb) ≡ true → FirstRules cx pair Q (with_tcb (unoffered v) (loss_probed (begun cx v)))
  pub goes :
      (pair : FourTuple) → v.tcb.names.pair ≡ Some pair → Proceeds cx v → is_due cx.instant v.tcb.timers.retransmit_at ≡ false
      → FirstRules cx pair Q (with_tcb (unoffered v) (begun cx v))

module _ (cx : ContextValue) (v : TcpValue) (Q : Offered TcpValue → Type 0) (r : Rules cx v Q) where
  by_over : is_closed v.tcb.state ≡ false → gives_up cx.instant v.tcb (queued_in v) ≡ true → Q (silent true (given_up (unoffered v)))
  by_over alive over =
      cond_both (falls_back v.tcb) (listening (unoffered v) v.tcb.names.listen) (with_tcb (unoffered v) (timed_out v.tcb))
      (λ (w : TcpValue). Q (silent true w))
      (λ falls. r.falls alive over falls)
      (λ not. r.over alive over not)

  by_between : (pair : FourTuple) → v.tcb.names.pair ≡ Some pair → Q (offer_between cx (unoffered v) pair)
  by_between pair named =
      let reset : Offered TcpValue = if v.tcb.sender.reset_due then offer_reset cx (unoffered v) pair else silent false (unoffered v) in
      let going : Offered TcpValue = first_rules cx (with_tcb (unoffered v) (backed_off cx.instant (begun cx v))) pair in
      let gone : Offered TcpValue = silent true (given_up (unoffered v)) in
      cond_both (is_due cx.instant (time_wait_end v.tcb)) (silent true (ended (unoffered v)))
      (if is_due cx.instant (timeout_end v.tcb (queued_in v)) then silent true (with_tcb (unoffered v) (timed_out v.tcb))
      else if is_closed v.tcb.state then reset else if gives_up cx.instant v.tcb (queued_in v) then gone else going)
      Q
      (λ due. r.time_wait due)
      (λ lasts.
      cond_both (is_due cx.instant (timeout_end v.tcb (queued_in v))) (silent true (with_tcb (unoffered v) (timed_out v.tcb)))
      (if is_closed v.tcb.state then reset else if gives_up cx.instant v.tcb (queued_in v) then gone else going)
      Q
      (λ due. r.timeout due)
      (λ in_time.
      cond_both (is_closed v.tcb.state) reset (if gives_up cx.instant v.tcb (queued_in v) then gone else going) Q
      (λ closed.
      cond_both v.tcb.sender.reset_due (offer_reset cx (unoffered v) pair) (silent false (unoffered v)) Q
      (λ due. r.reset pair closed due)
      (λ _. r.closed closed))
      (λ alive.
      cond_both (gives_up cx.instant v.tcb (queued_in v)) gone going Q
      (λ over. by_over alive over)
      (λ tries.
      let on : Proceeds cx v = record { lasts = lasts; in_time = in_time; alive = alive; tries = tries } in
      cond_both (is_due cx.instant v.tcb.timers.retransmit_at) (backed_off_now (begun cx v)) (loss_probed_by cx.instant (begun cx v))
      (λ (b : Tcb). Q (first_rules cx (with_tcb (unoffered v) b) pair))
      (λ due. by_first cx pair Q (with_tcb (unoffered v) (backed_off_now (begun cx v))) (r.backs pair named on due))
      (λ not.
      cond_both (is_due cx.instant (loss_probe_deadline v.tcb)) (loss_probed (begun cx v)) (begun cx v)
      (λ (b : Tcb). Q (first_rules cx (with_tcb (unoffered v) b) pair))
      (λ due. by_first cx pair Q (with_tcb (unoffered v) (loss_probed (begun cx v))) (r.probes pair named on not due))
      (λ _. by_first cx pair Q (with_tcb (unoffered v) (begun cx v)) (r.goes pair named on not)))))))

  by_names : (names : Option FourTuple) → v.tcb.names.pair ≡ names → Q (offer_with names cx (unoffered v))
  by_names None none = r.nobody none
  by_names (Some pair) named = by_between pair named

  pub by_rules : Q (offer_of cx v)
  by_rules = by_names v.tcb.names.pair refl
