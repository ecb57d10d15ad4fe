-- Space that came free, and is worth telling, is told with whatever goes next.
use Rattle.std.proofs.Common.{◌≡◌, ◌==◌, ◌&&◌, ◌||◌, ℕ, min, not, Bool, true, false, if◌then◌else◌, List, length, Option, Some, refl, sym, ap, ◌∙◌, subst}
use Rattle.std.proofs.lemmas.Bool.{cond_both}
use Rattle.tcp_refinement.specs.Context.{ContextValue}
use Rattle.tcp_refinement.specs.Offers.{Offered}
use Rattle.tcp_refinement.specs.PollAt.TheVariants as At
use Rattle.tcp_refinement.proofs.Tied.{if_not, if_so}
use Rattle.tcp_invariants.specs.FourTuple.{FourTuple}
use Rattle.tcp_invariants.specs.Ends.{Proceeds}
use Rattle.tcp_invariants.specs.Moments.{is_due}
use Rattle.tcp_invariants.specs.OfferKind.TheVariants as Kind
use Rattle.tcp_invariants.specs.States.{is_answering, is_closed, sends_syn, accepts_data}
use Rattle.tcp_invariants.proofs.OfferCases.{begun, probing}
use Rattle.tcp_invariants.proofs.OrderSteps.{clash}
use Rattle.tcp_block.specs.declared.tcb.Peer.{Peer}
use Rattle.tcp_block.specs.declared.tcb.Receiver.{Receiver}
use Rattle.tcp_block.specs.declared.tcb.Tcb.{Tcb}
use Rattle.tcp_block.specs.TcbRules.{is_worth_telling, window_field}
use Rattle.tcp_block.specs.Due.{any, poll_of, poll_with, wishes}
use Rattle.tcp_block.specs.LossRecovery.{loss_probe_deadline, loss_probed, loss_probed_by}
use Rattle.tcp_block.specs.Offers.{first_rules, last_rules, offer_ack, offer_choice, offer_window_limited, offer_keep_alive, offer_of, offer_syn, offer_with}
use Rattle.tcp_block.specs.Offers.{silent}
use Rattle.tcp_block.specs.Probing.{probe_deadline}
use Rattle.tcp_block.specs.Rules.{ack_deadline, backed_off_now, has_payload, keep_alive_deadline, owes_syn, probe_choice, resend_choice, resends, payload_choice}
use Rattle.tcp_block.specs.Rules.{time_wait_end, updates_window}
use Rattle.tcp_block.specs.Retries.{given_up, gives_up}
use Rattle.tcp_block.specs.Timeout.{timed_out, timeout_end}
use Rattle.tcp_block.specs.Value.{TcpValue, ended, free_in, queued_in, room_of, unoffered, window_of, with_tcb}
use Rattle.tcp_liveness.specs.Windows.{OwesUpdate, TellsSpace}

-- WHEN IT WANTS TO BE ASKED

pub asks_now : (ip_mtu : ℕ) (v : TcpValue) (pair : FourTuple) → v.tcb.names.pair ≡ Some pair → is_closed v.tcb.state ≡ false → OwesUpdate v →
    poll_of ip_mtu v ≡ At.Now
asks_now ip_mtu v pair named alive o =
    ap (λ (names : Option FourTuple). poll_with names ip_mtu v) named
    ∙ (if_not (is_closed v.tcb.state) (if v.tcb.sender.reset_due then At.Now else At.Ingress) _ alive ∙ if_so (any wanted) At.Now _ some)
  where
    wanted : List Bool
    wanted = wishes v.tcb pair.addresses ip_mtu v.queued (queued_in v) (room_of v.received) (free_in v)

    fourth : (a b c d e : Bool) → d ≡ true → (a || (b || (c || (d || e)))) ≡ true
    fourth true b c d e f = refl
    fourth false true c d e f = refl
    fourth false false true d e f = refl
    fourth false false false d e f = ap (λ (t : Bool). t || e) f

    some : any wanted ≡ true
    some =
        fourth (owes_syn v.tcb) (resends v.tcb pair.addresses ip_mtu v.queued) (has_payload v.tcb pair.addresses ip_mtu v.queued)
        (updates_window v.tcb (room_of v.received) (free_in v)) _
        (ap (λ (t : Bool). t && is_worth_telling v.tcb (room_of v.received) (free_in v)) o.takes ∙ o.worth)

-- WHAT GOES

module _ (cx : ContextValue) (v : TcpValue) (owes : OwesUpdate v) where
  abbrev Tells : Offered TcpValue → Type 0
  Tells off = TellsSpace v off.socket

  -- what the window field of a segment reads stays
  record Keeps (b : Tcb) : Type 0 where
    state : b.state ≡ v.tcb.state
    syn : b.sender.syn_unacked ≡ v.tcb.sender.syn_unacked
    receiver : b.receiver ≡ v.tcb.receiver
    peer : b.peer ≡ v.tcb.peer

  told : (b : Tcb) → Keeps b → window_of (with_tcb (unoffered v) b) ≡ window_field v.tcb (room_of v.received) (free_in v)
  told b k =
      ap (λ (r : Receiver). window_of (with_tcb (unoffered v) (record b { receiver = r }))) k.receiver
      ∙ (ap (λ (p : Peer). window_of (with_tcb (unoffered v) (record b { receiver = v.tcb.receiver; peer = p }))) k.peer
      ∙ ap (window_field v.tcb (room_of v.received)) (free (length v.received.waiting == 0)))
    where
      free :
          (none : Bool)
          → (if none || is_worth_telling v.tcb (room_of v.received) (free_in v) then free_in v else min v.tcb.receiver.rcv_adv (free_in v)) ≡ free_in v
      free true = refl
      free false = if_so (is_worth_telling v.tcb (room_of v.received) (free_in v)) (free_in v) (min v.tcb.receiver.rcv_adv (free_in v)) owes.worth

  worth : (b : Tcb) → Keeps b → updates_window b (room_of v.received) (free_in v) ≡ true
  worth b k =
      ap (λ (t : Bool). t && is_worth_telling b (room_of v.received) (free_in v)) (ap accepts_data k.state ∙ owes.takes)
      ∙ (ap (λ (r : Receiver). is_worth_telling (record b { receiver = r }) (room_of v.received) (free_in v)) k.receiver
      ∙ (ap (λ (p : Peer). is_worth_telling (record b { receiver = v.tcb.receiver; peer = p }) (room_of v.received) (free_in v)) k.peer ∙ owes.worth))

  -- nothing of the SYN or the send queue is to go
  last : (pair : FourTuple) (b : Tcb) → Keeps b → Tells (last_rules cx (with_tcb (unoffered v) b) pair)
  last pair b k =
      cond_both (is_due cx.instant (probe_deadline b (queued_in v))) (offer_window_limited cx x pair) acks Tells
      (λ _.
      cond_both (b.peer.window == 0) (offer_choice Kind.Probe cx x pair probe_choice)
      (offer_choice Kind.Payload cx x pair (payload_choice b pair.addresses cx.ip_mtu v.queued)) Tells
      (λ _. record { offer = _; offered = refl; tells = told b k })
      (λ _. record { offer = _; offered = refl; tells = told b k }))
      (λ _.
      cond_both (is_due cx.instant (ack_deadline b)) (offer_ack Kind.Ack cx x pair) updates Tells (λ _. record { offer = _; offered = refl; tells = told b k })
      (λ _.
      subst Tells (sym (if_so (updates_window b (room_of v.received) (free_in v)) (offer_ack Kind.WindowUpdate cx x pair) rest (worth b k)))
      (record { offer = _; offered = refl; tells = told b k })))
    where
      x : TcpValue
      x = with_tcb (unoffered v) b

      rest : Offered TcpValue
      rest = if is_due cx.instant (keep_alive_deadline b) then offer_keep_alive cx x pair else silent false x

      updates : Offered TcpValue
      updates = if updates_window b (room_of v.received) (free_in v) then offer_ack Kind.WindowUpdate cx x pair else rest

      acks : Offered TcpValue
      acks = if is_due cx.instant (ack_deadline b) then offer_ack Kind.Ack cx x pair else updates

  first : (pair : FourTuple) (b : Tcb) → Keeps b → Tells (first_rules cx (with_tcb (unoffered v) b) pair)
  first pair b k =
      cond_both (owes_syn b) (offer_syn cx x pair) again Tells (λ due. clash (sym due ∙ no_syn))
      (λ _.
      cond_both (resends b pair.addresses cx.ip_mtu v.queued)
      (offer_choice Kind.FastRetransmission cx x pair (resend_choice b pair.addresses cx.ip_mtu v.queued)) payload Tells
      (λ _. record { offer = _; offered = refl; tells = told b k })
      (λ _.
      cond_both (has_payload b pair.addresses cx.ip_mtu v.queued)
      (offer_choice Kind.Payload cx x pair (payload_choice b pair.addresses cx.ip_mtu v.queued)) (last_rules cx (probing cx x) pair) Tells
      (λ _. record { offer = _; offered = refl; tells = told b k })
      (λ _.
      last pair (probing cx x).tcb
      (record { state = k.state; syn = k.syn; receiver = k.receiver; peer = k.peer }))))
    where
      x : TcpValue
      x = with_tcb (unoffered v) b

      payload : Offered TcpValue
      payload =
          if has_payload b pair.addresses cx.ip_mtu v.queued then offer_choice Kind.Payload cx x pair (payload_choice b pair.addresses cx.ip_mtu v.queued)
          else last_rules cx (probing cx x) pair

      again : Offered TcpValue
      again =
          if resends b pair.addresses cx.ip_mtu v.queued
          then offer_choice Kind.FastRetransmission cx x pair (resend_choice b pair.addresses cx.ip_mtu v.queued) else payload

      no_syn : owes_syn b ≡ false
      no_syn =
          second (sends_syn b.state && not (is_answering b.state && b.settings.synack_paused)) b.sender.syn_unacked (b.sender.flight_size == 0)
          (k.syn ∙ owes.acknowledged)
        where
          second : (a b c : Bool) → b ≡ false → (a && (b && c)) ≡ false
          second true b c e = ap (λ (t : Bool). t && c) e
          second false b c e = refl

  pub tells_on : (pair : FourTuple) → v.tcb.names.pair ≡ Some pair → Proceeds cx v → Tells (offer_of cx v)
  tells_on pair named on =
      subst Tells
      (sym
      (ap (λ (names : Option FourTuple). offer_with names cx (unoffered v)) named
      ∙ (if_not (is_due cx.instant (time_wait_end v.tcb)) (silent true (ended (unoffered v))) _ on.lasts
      ∙ (if_not (is_due cx.instant (timeout_end v.tcb (queued_in v))) (silent true (with_tcb (unoffered v) (timed_out v.tcb))) _ on.in_time
      ∙ (if_not (is_closed v.tcb.state) _ _ on.alive
      ∙ if_not (gives_up cx.instant v.tcb (queued_in v)) (silent true (given_up (unoffered v))) _ on.tries)))))
      (cond_both (is_due cx.instant v.tcb.timers.retransmit_at) (backed_off_now (begun cx v)) (loss_probed_by cx.instant (begun cx v))
      (λ (b : Tcb). Tells (first_rules cx (with_tcb (unoffered v) b) pair))
      (λ _. first pair (backed_off_now (begun cx v)) (record { state = refl; syn = refl; receiver = refl; peer = refl }))
      (λ _.
      cond_both (is_due cx.instant (loss_probe_deadline (begun cx v))) (loss_probed (begun cx v)) (begun cx v)
      (λ (b : Tcb). Tells (first_rules cx (with_tcb (unoffered v) b) pair))
      (λ _. first pair (loss_probed (begun cx v)) (record { state = refl; syn = refl; receiver = refl; peer = refl }))
      (λ _. first pair (begun cx v) (record { state = refl; syn = refl; receiver = refl; peer = refl }))))

pub tells_space : (cx : ContextValue) (v : TcpValue) (pair : FourTuple) → v.tcb.names.pair ≡ Some pair → Proceeds cx v → OwesUpdate v →
    TellsSpace v (offer_of cx v).socket
tells_space cx v pair named on owes = tells_on cx v owes pair named on
