-- What an offer of a connection answers and leaves.
use Rattle.std.proofs.Common.{◌≡◌, ℕ, ◌==◌, Bool, true, false, if◌then◌else◌, Option, Some, None, refl, sym, ap, ◌∙◌}
use Rattle.ip_wire.specs.TcpHeader.{TcpHeader}
use Rattle.socket_context.specs.Context.{ContextValue}
use Rattle.socket_context.specs.Offers.{Offered, IsBefore}
use Rattle.socket_context.specs.declared.offer.Offer.{Offer}
use Rattle.socket_context.specs.declared.offer.Offer.TheVariants as Answer
use Rattle.socket_datagram.specs.Offers.{HasPacket, changed_by}
use Rattle.tcp_block.specs.declared.tcb.Tcb.{Tcb}
use Rattle.tcp_block.specs.FourTuple.{FourTuple}
use Rattle.tcp_block.specs.OfferKind.{OfferKind}
use Rattle.tcp_block.specs.OfferKind.TheVariants as Kind
use Rattle.tcp_block.specs.TcbRules.{forgotten}
use Rattle.tcp_block.specs.Calls.{listening}
use Rattle.tcp_block.specs.Checks.{falls_back}
use Rattle.tcp_block.specs.Due.{poll_of}
use Rattle.tcp_block.specs.Moments.{is_due}
use Rattle.tcp_block.specs.Offers.{offered_packet, offer_segment, number_at, offer_choice, offer_ack, offer_syn, offer_reset, offer_keep_alive, offer_window_limited}
use Rattle.tcp_block.specs.Offers.{silent, last_rules, first_rules, backed_off, offer_between, offer_with, offer_of}
use Rattle.tcp_block.specs.LossRecovery.{loss_probe_deadline, loss_probed}
use Rattle.tcp_block.specs.Probing.{probe_started, probe_deadline}
use Rattle.tcp_block.specs.Retries.{gives_up, given_up}
use Rattle.tcp_block.specs.Rules.{Choice, time_wait_end, owes_syn, resends, ack_deadline, has_payload, payload_choice, resend_choice, probe_choice, control_for}
use Rattle.tcp_block.specs.Rules.{updates_window, keep_alive_deadline, backed_off_now}
use Rattle.tcp_block.specs.Segments.{segment, ack_segment, syn_segment, reset_segment, keep_alive_segment}
use Rattle.tcp_block.specs.Settled.{settled}
use Rattle.tcp_block.specs.States.{is_closed}
use Rattle.tcp_block.specs.Timeout.{timeout_started, timeout_end, timed_out}
use Rattle.tcp_block.proofs.Waits.{silence}
use Rattle.tcp_block.specs.Value.{TcpValue, with_tcb, unoffered, ended, queued_in, free_in, room_of, window_of}
use Rattle.sockets.specs.Socket.{IsSameConnection}

-- a packet is offered exactly where the answer says so, and where nothing changed the connection is the same
pub record IsSaid (v : TcpValue) (o : Offered TcpValue) : Type 0 where
  pub packet : HasPacket o.answer (offered_packet o.socket)
  pub same : changed_by o.answer ≡ false → IsSameConnection v (settled false o.socket)

-- a block with the same state, names and settings
record IsSame (b b' : Tcb) : Type 0 where
  state : b'.state ≡ b.state
  names : b'.names ≡ b.names
  settings : b'.settings ≡ b.settings

-- the socket with this block, and nothing offered
abbrev plain : TcpValue → Tcb → TcpValue
plain v b = record v { tcb = b; offered = None }

either : (v : TcpValue) (test : Bool) (x y : Offered TcpValue) → IsSaid v x → IsSaid v y → IsSaid v (if test then x else y)
either v true x y p q = p
either v false x y p q = q

backed : (b : Tcb) (test probes : Bool) (b' : Tcb) → IsSame b b' → IsSame b (if test then backed_off_now b' else if probes then loss_probed b' else b')
backed b true probes b' is = record { state = is.state; names = is.names; settings = is.settings }
backed b false true b' is = record { state = is.state; names = is.names; settings = is.settings }
backed b false false b' is = is

module _ (cx : ContextValue) (v : TcpValue) (pair : FourTuple) where
  said : (b : Tcb) → IsSame v.tcb b → (kind : OfferKind) (header : TcpHeader) (slot len : ℕ) →
      IsSaid v (offer_segment kind cx (plain v b) pair header slot len)
  said b is kind header slot len =
      record { packet = tt; same = λ _. record { state = is.state; names = is.names; settings = is.settings; received = refl; queued = refl } }

  said_choice : (b : Tcb) → IsSame v.tcb b → (kind : OfferKind) (c : Choice) → IsSaid v (offer_choice kind cx (plain v b) pair c)
  said_choice b is kind c =
      said b is kind (segment b pair cx.instant (window_of (plain v b)) (control_for c (queued_in v)) (number_at b c.offset)) c.offset c.len

  said_ack : (b : Tcb) → IsSame v.tcb b → (kind : OfferKind) → IsSaid v (offer_ack kind cx (plain v b) pair)
  said_ack b is kind = said b is kind (ack_segment b pair cx.instant (window_of (plain v b))) 0 0

  unsaid : (b : Tcb) → IsSame v.tcb b → IsSaid v (silent false (plain v b))
  unsaid b is =
      record { packet = tt; same = λ _. record { state = is.state; names = is.names; settings = is.settings; received = refl; queued = refl } }

  -- it gives up
  gives : (back : Bool) → IsSaid v (silent true (if back then listening (unoffered v) v.tcb.names.listen else with_tcb (unoffered v) (timed_out v.tcb)))
  gives true = record { packet = tt; same = λ e. absurd (cc) }
  gives false = record { packet = tt; same = λ e. absurd (cc) }

  ends : (b : Tcb) → IsSaid v (silent true (plain v b))
  ends b = record { packet = tt; same = λ e. absurd (cc) }

  said_held_back : (b : Tcb) → IsSame v.tcb b → IsSaid v (offer_window_limited cx (plain v b) pair)
  said_held_back b is =
      let w = plain v b in
      let payload = payload_choice b pair.addresses cx.ip_mtu v.queued in
      either v (b.peer.window == 0) (offer_choice Kind.Probe cx w pair probe_choice) (offer_choice Kind.Payload cx w pair payload)
      (said_choice b is Kind.Probe probe_choice) (said_choice b is Kind.Payload payload)

  said_last : (b : Tcb) → IsSame v.tcb b → IsSaid v (last_rules cx (plain v b) pair)
  said_last b is =
      let w = plain v b in
      let fourth : Offered TcpValue = if is_due cx.instant (keep_alive_deadline b) then offer_keep_alive cx w pair else silent false w in
      let third : Offered TcpValue = if updates_window b (room_of v.received) (free_in v) then offer_ack Kind.WindowUpdate cx w pair else fourth in
      let second : Offered TcpValue = if is_due cx.instant (ack_deadline b) then offer_ack Kind.Ack cx w pair else third in
      either v (is_due cx.instant (probe_deadline b (queued_in v))) (offer_window_limited cx w pair) second (said_held_back b is)
      (either v (is_due cx.instant (ack_deadline b)) (offer_ack Kind.Ack cx w pair) third (said_ack b is Kind.Ack)
      (either v (updates_window b (room_of v.received) (free_in v)) (offer_ack Kind.WindowUpdate cx w pair) fourth (said_ack b is Kind.WindowUpdate)
      (either v (is_due cx.instant (keep_alive_deadline b)) (offer_keep_alive cx w pair) (silent false w)
      (said b is Kind.KeepAlive (keep_alive_segment b pair cx.instant (window_of w)) 0 1) (unsaid b is))))

  said_first : (b : Tcb) → IsSame v.tcb b → IsSaid v (first_rules cx (plain v b) pair)
  said_first b is =
      let w = plain v b in
      let probing = probe_started cx.instant (queued_in v) b in
      let last = last_rules cx (plain v probing) pair in
      let payload = payload_choice b pair.addresses cx.ip_mtu v.queued in
      let resent = resend_choice b pair.addresses cx.ip_mtu v.queued in
      let third : Offered TcpValue = if has_payload b pair.addresses cx.ip_mtu v.queued then offer_choice Kind.Payload cx w pair payload else last in
      let second : Offered TcpValue = if resends b pair.addresses cx.ip_mtu v.queued then offer_choice Kind.FastRetransmission cx w pair resent else third in
      either v (owes_syn b) (offer_syn cx w pair) second
      (said b is Kind.Syn (syn_segment b pair cx.instant cx.ip_mtu (room_of v.received) (free_in v)) 0 0)
      (either v (resends b pair.addresses cx.ip_mtu v.queued) (offer_choice Kind.FastRetransmission cx w pair resent) third
      (said_choice b is Kind.FastRetransmission resent)
      (either v (has_payload b pair.addresses cx.ip_mtu v.queued) (offer_choice Kind.Payload cx w pair payload) last (said_choice b is Kind.Payload payload)
      (said_last probing (record { state = is.state; names = is.names; settings = is.settings }))))

  said_between : IsSaid v (offer_between cx (unoffered v) pair)
  said_between =
      let w = unoffered v in
      let b = v.tcb in
      let same : IsSame b b = record { state = refl; names = refl; settings = refl } in
      let started = timeout_started cx.instant (queued_in v) b in
      let going = backed_off cx.instant started in
      let first = first_rules cx (plain v going) pair in
      let reset : Offered TcpValue = if b.sender.reset_due then offer_reset cx w pair else silent false w in
      let over : Offered TcpValue = silent true (given_up w) in
      let open_yet : Offered TcpValue = if gives_up cx.instant b (queued_in v) then over else first in
      let third : Offered TcpValue = if is_closed b.state then reset else open_yet in
      let late = silent true (with_tcb w (timed_out b)) in
      let second : Offered TcpValue = if is_due cx.instant (timeout_end b (queued_in v)) then late else third in
      either v (is_due cx.instant (time_wait_end b)) (silent true (ended w)) second (ends (forgotten b))
      (either v (is_due cx.instant (timeout_end b (queued_in v))) late third (ends (timed_out b))
      (either v (is_closed b.state) reset open_yet
      (either v b.sender.reset_due (offer_reset cx w pair) (silent false w)
      (said b same Kind.Reset (reset_segment b pair cx.instant (window_of w)) 0 0) (unsaid b same))
      (either v (gives_up cx.instant b (queued_in v)) over first (gives (falls_back b))
      (said_first going (backed b (is_due cx.instant started.timers.retransmit_at) (is_due cx.instant (loss_probe_deadline started)) started
      (record { state = refl; names = refl; settings = refl }))))))

said_with : (pair : Option FourTuple) (cx : ContextValue) (v : TcpValue) → IsSaid v (offer_with pair cx (unoffered v))
said_with None cx v =
    record { packet = tt; same = λ _. record { state = refl; names = refl; settings = refl; received = refl; queued = refl } }
said_with (Some pair) cx v = said_between cx v pair

pub is_said : (cx : ContextValue) (v : TcpValue) → IsSaid v (offer_of cx v)
is_said cx v = said_with v.tcb.names.pair cx v

-- AS LAWS OF A SOCKET OF ANY KIND

pub said_packet : (cx : ContextValue) (v v' : TcpValue) (answer : Offer) → answer ≡ (offer_of cx v).answer → v' ≡ (offer_of cx v).socket →
    HasPacket answer (offered_packet v')
said_packet cx v v' answer is socket = rw (is, socket) (is_said cx v).packet

pub said_same : (cx : ContextValue) (v v' : TcpValue) (answer : Offer) → answer ≡ (offer_of cx v).answer → v' ≡ (offer_of cx v).socket →
    changed_by answer ≡ false → IsSameConnection v (settled false v')
said_same cx v v' answer is socket same =
    rw socket ((is_said cx v).same (ap changed_by (sym is) ∙ same))

pub silent_before : (cx : ContextValue) (v v' : TcpValue) (answer : Offer) → IsBefore cx.instant (poll_of cx.ip_mtu v) → answer ≡ (offer_of cx v).answer →
    v' ≡ (offer_of cx v).socket → (answer ≡ Answer.Silent false) × (v' ≡ settled false v)
silent_before cx v v' answer before is socket =
    let quiet = silence cx v before in
    (is ∙ ap (λ (o : Offered TcpValue). o.answer) quiet, socket ∙ ap (λ (o : Offered TcpValue). o.socket) quiet)
