-- Sockets that differ in their send queue's storage alone offer the same, and how long the payload is that goes.
use Rattle.std.proofs.Common.{◌≡◌, ℕ, ◌-◌, ◌≤◌, min, Bool, true, false, ◌==◌, List, length, Option, Some, None, if◌then◌else◌, refl, sym, ◌∙◌, ap, ap₂, subst, arith}
use Rattle.net_base.specs.Ring.{ring}
use Rattle.tcp_state.specs.declared.endpoints.AddressPair.{AddressPair}
use Rattle.tcp_state.specs.declared.endpoints.FourTuple.{FourTuple}
use Rattle.tcp_state.specs.declared.offer.OfferKind.{OfferKind}
use Rattle.tcp_state.specs.declared.offer.OfferKind.TheVariants as Kind
use Rattle.tcp_state.specs.declared.offer.OpenOffer.{OpenOffer}
use Rattle.tcp_state.specs.Moments.{is_due}
use Rattle.tcp_state.specs.States.{is_closed}
use Rattle.tcp_block.specs.BaseOffers.{Offered}
use Rattle.tcp_block.specs.Context.{ContextValue}
use Rattle.tcp_block.specs.declared.tcb.Tcb.{Tcb}
use Rattle.tcp_block.specs.declared.tcb.CongestionControl.{CongestionControl}
use Rattle.tcp_block.specs.declared.tcb.CongestionControl.TheVariants as Congestion
use Rattle.tcp_block.specs.LossRecovery.{loss_probed}
use Rattle.tcp_block.specs.Offers.{offer_of, offer_with, offer_between, first_rules, last_rules, offered_packet, packet_with, backed_off, silent, offer_choice}
use Rattle.tcp_block.specs.Probing.{probe_deadline, probe_started}
use Rattle.tcp_block.specs.Retries.{gives_up, given_up}
use Rattle.tcp_block.specs.Checks.{falls_back}
use Rattle.tcp_block.specs.Rules.{time_wait_end, owes_syn, resends, ack_deadline, has_payload, updates_window, keep_alive_deadline, backed_off_now}
use Rattle.tcp_block.specs.Rules.{congestion_limit, congestion_room, next_offset, size_limit, payload_choice}
use Rattle.tcp_block.specs.Timeout.{timeout_end, timeout_started}
use Rattle.tcp_block.specs.Value.{TcpValue, Received, with_tcb, unoffered, queued_in, room_of, free_in}
use Rattle.tcp_invariants.proofs.OfferCases.{Rules, FirstRules, LastRules, by_rules, begun, probing}
use Rattle.tcp_invariants.proofs.OrderSteps.{clash}
use Rattle.tcp_invariants.specs.Storage.{AreAlike, most_from}

-- the answers are the same, and the sockets differ in storage alone
record Same (one other : Offered TcpValue) : Type 0 where
  answer : one.answer ≡ other.answer
  socket : AreAlike one.socket other.socket

alike : (v w : TcpValue) → v.tcb ≡ w.tcb → v.received ≡ w.received → v.queued.queue ≡ w.queued.queue → v.offered ≡ w.offered → AreAlike v w
alike v w a b c d = record { tcb = a; received = b; queue = c; offered = d }

alike_if : (t : Bool) (a b c d : TcpValue) → AreAlike a c → AreAlike b d → AreAlike (if t then a else b) (if t then c else d)
alike_if true a b c d one other = one
alike_if false a b c d one other = other

same_if : (t : Bool) (a b c d : Offered TcpValue) → Same a c → Same b d → Same (if t then a else b) (if t then c else d)
same_if true a b c d one other = one
same_if false a b c d one other = other

both :
    (one other : Offered TcpValue) → one.answer ≡ other.answer → one.socket.tcb ≡ other.socket.tcb → one.socket.received ≡ other.socket.received
    → one.socket.queued.queue ≡ other.socket.queued.queue → one.socket.offered ≡ other.socket.offered → Same one other
both one other a b c d e = record { answer = a; socket = alike one.socket other.socket b c d e }

-- both sockets, by their parts
module _ (cx : ContextValue) (received : Received) (queue free elsewhere : List ℕ) (start there : ℕ) where
  abbrev first : Tcb → Option OpenOffer → TcpValue
  first tcb offered = record { tcb = tcb; received = received; queued = ring queue free start; offered = offered }

  abbrev second : Tcb → Option OpenOffer → TcpValue
  second tcb offered = record { tcb = tcb; received = received; queued = ring queue elsewhere there; offered = offered }

  same_last : (b : Tcb) (offered : Option OpenOffer) (pair : FourTuple) → Same (last_rules cx (first b offered) pair) (last_rules cx (second b offered) pair)
  same_last b offered pair =
      same_if (is_due cx.instant (probe_deadline b (length queue))) _ _ _ _
      (same_if (b.peer.window == 0) _ _ _ _ (both _ _ refl refl refl refl refl) (both _ _ refl refl refl refl refl))
      (same_if (is_due cx.instant (ack_deadline b)) _ _ _ _ (both _ _ refl refl refl refl refl)
      (same_if (updates_window b (room_of received) (free_in (first b offered))) _ _ _ _ (both _ _ refl refl refl refl refl)
      (same_if (is_due cx.instant (keep_alive_deadline b)) _ _ _ _ (both _ _ refl refl refl refl refl) (both _ _ refl refl refl refl refl))))

  same_first : (b : Tcb) (offered : Option OpenOffer) (pair : FourTuple) → Same (first_rules cx (first b offered) pair) (first_rules cx (second b offered) pair)
  same_first b offered pair =
      same_if (owes_syn b) _ _ _ _ (both _ _ refl refl refl refl refl)
      (same_if (resends b pair.addresses cx.ip_mtu (ring queue free start)) _ _ _ _ (both _ _ refl refl refl refl refl)
      (same_if (has_payload b pair.addresses cx.ip_mtu (ring queue free start)) _ _ _ _ (both _ _ refl refl refl refl refl)
      (same_last (probe_started cx.instant (length queue) b) offered pair)))

  given : (b : Tcb) (offered : Option OpenOffer) → Same (silent true (given_up (first b offered))) (silent true (given_up (second b offered)))
  given b offered = record {
    answer = refl;
    socket = alike_if (falls_back b) _ _ _ _ (alike _ _ refl refl refl refl) (alike _ _ refl refl refl refl);
  }

  same_between : (b : Tcb) (offered : Option OpenOffer) (pair : FourTuple) →
      Same (offer_between cx (first b offered) pair) (offer_between cx (second b offered) pair)
  same_between b offered pair =
      same_if (is_due cx.instant (time_wait_end b)) _ _ _ _ (both _ _ refl refl refl refl refl)
      (same_if (is_due cx.instant (timeout_end b (length queue))) _ _ _ _ (both _ _ refl refl refl refl refl)
      (same_if (is_closed b.state) _ _ _ _
      (same_if b.sender.reset_due _ _ _ _ (both _ _ refl refl refl refl refl) (both _ _ refl refl refl refl refl))
      (same_if (gives_up cx.instant b (length queue)) _ _ _ _ (given b offered)
      (same_first (backed_off cx.instant (timeout_started cx.instant (length queue) b)) offered pair))))

  same_with : (pair : Option FourTuple) (b : Tcb) (offered : Option OpenOffer) → Same (offer_with pair cx (first b offered)) (offer_with pair cx (second b offered))
  same_with None b offered = both _ _ refl refl refl refl refl
  same_with (Some pair) b offered = same_between b offered pair

same : (cx : ContextValue) (v w : TcpValue) → AreAlike v w → Same (offer_of cx v) (offer_of cx w)
same cx v w e = subst (λ (x : TcpValue). Same (offer_of cx v) (offer_of cx x)) is (same_with cx v.received v.queued.queue v.queued.free w.queued.free
    v.queued.start w.queued.start v.tcb.names.pair v.tcb None)
  where
    is : record { tcb = v.tcb; received = v.received; queued = ring v.queued.queue w.queued.free w.queued.start; offered = v.offered } ≡ w
    is = rw (e.tcb, e.received, e.queue, e.offered) refl

pub same_answer : (cx : ContextValue) (v w : TcpValue) → AreAlike v w → (offer_of cx v).answer ≡ (offer_of cx w).answer
same_answer cx v w e = (same cx v w e).answer

pub still_alike : (cx : ContextValue) (v w : TcpValue) → AreAlike v w → AreAlike (offer_of cx v).socket (offer_of cx w).socket
still_alike cx v w e = (same cx v w e).socket

packets : (v w : TcpValue) → AreAlike v w → offered_packet v ≡ offered_packet w
packets v w e = ap₂ packet_with e.offered e.queue

pub same_packet : (cx : ContextValue) (v w : TcpValue) → AreAlike v w → offered_packet (offer_of cx v).socket ≡ offered_packet (offer_of cx w).socket
same_packet cx v w e = packets (offer_of cx v).socket (offer_of cx w).socket (still_alike cx v w e)

-- HOW LONG TEXT IS

abbrev is_payload : OfferKind → Bool
is_payload Kind.Payload = true
is_payload other = false

least : (control : CongestionControl) (room window limit rest : ℕ) →
    min (min limit rest) (min window room) ≤ congestion_limit control room (min window (min limit rest))
least Congestion.None room window limit rest = omega arith
least other room window limit rest = omega arith

enough : (x : TcpValue) (addresses : AddressPair) (mtu : ℕ) →
    most_from x addresses mtu (next_offset x.tcb) ≤ (payload_choice x.tcb addresses mtu x.queued).len
enough x addresses mtu =
    least x.tcb.settings.congestion_control (congestion_room x.tcb) (x.tcb.peer.window - x.tcb.sender.flight_size)
    (size_limit x.tcb addresses mtu) (queued_in x - next_offset x.tcb)

one_offer : (a b : OpenOffer) → Some a ≡ Some b → a ≡ b
one_offer a b e = cc

one_pair : (a b : FourTuple) (names : Option FourTuple) → names ≡ Some a → names ≡ Some b → a ≡ b
one_pair a b names e f = cc

module _ (cx : ContextValue) (v : TcpValue) where
  abbrev IsFull : Offered TcpValue → Type 0
  IsFull o =
      (pair : FourTuple) (k : OpenOffer) → v.tcb.names.pair ≡ Some pair → o.socket.offered ≡ Some k → is_payload k.kind ≡ true
      → most_from o.socket pair.addresses cx.ip_mtu k.offset ≤ k.len

  another : {A : Type 0} (a k : OpenOffer) → Some a ≡ Some k → is_payload a.kind ≡ false → is_payload k.kind ≡ true → A
  another a k e not is = clash (sym is ∙ sym (ap (λ (o : OpenOffer). is_payload o.kind) (one_offer a k e)) ∙ not)

  nothing : {A : Type 0} (k : OpenOffer) → None ≡ Some k → A
  nothing k e = absurd (cc)

  full_payload : (x : TcpValue) (pair : FourTuple) → v.tcb.names.pair ≡ Some pair →
      IsFull (offer_choice Kind.Payload cx x pair (payload_choice x.tcb pair.addresses cx.ip_mtu x.queued))
  full_payload x pair named other k same e is =
      subst (λ (o : OpenOffer). most_from x other.addresses cx.ip_mtu o.offset ≤ o.len) (one_offer _ k e)
      (subst (λ (p : FourTuple). most_from x p.addresses cx.ip_mtu (next_offset x.tcb) ≤ (payload_choice x.tcb pair.addresses cx.ip_mtu x.queued).len)
      (one_pair pair other v.tcb.names.pair named same) (enough x pair.addresses cx.ip_mtu))

  full_last : (pair : FourTuple) (x : TcpValue) → v.tcb.names.pair ≡ Some pair → x.offered ≡ None → LastRules cx pair IsFull x
  full_last pair x named none = record {
    probe = λ _ _ other k same e is. another _ k e refl is;
    window_limited = λ _ _. full_payload x pair named;
    ack = λ _ other k same e is. another _ k e refl is;
    update = λ _ _ other k same e is. another _ k e refl is;
    keep_alive = λ _ _ other k same e is. another _ k e refl is;
    quiet = λ _ other k same e is. nothing k (sym none ∙ e);
  }

  full_first : (pair : FourTuple) (w : TcpValue) → v.tcb.names.pair ≡ Some pair → w.offered ≡ None → FirstRules cx pair IsFull w
  full_first pair w named none = record {
    syn = λ _ other k same e is. another _ k e refl is;
    again = λ _ _ other k same e is. another _ k e refl is;
    payload = λ _ _. full_payload w pair named;
    last = λ _. full_last pair (probing cx w) named none;
  }

  full_rules : Rules cx v IsFull
  full_rules = record {
    nobody = λ _ other k same e is. nothing k e;
    time_wait = λ _ other k same e is. nothing k e;
    timeout = λ _ other k same e is. nothing k e;
    closed = λ _ other k same e is. nothing k e;
    reset = λ _ _ _ other k same e is. another _ k e refl is;
    falls = λ _ _ _ other k same e is. nothing k e;
    over = λ _ _ _ other k same e is. nothing k e;
    backs = λ pair named _ _. full_first pair (with_tcb (unoffered v) (backed_off_now (begun cx v))) named refl;
    probes = λ pair named _ _ _. full_first pair (with_tcb (unoffered v) (loss_probed (begun cx v))) named refl;
    goes = λ pair named _ _. full_first pair (with_tcb (unoffered v) (begun cx v)) named refl;
  }

pub full : (cx : ContextValue) (v : TcpValue) (pair : FourTuple) (o : OpenOffer) → v.tcb.names.pair ≡ Some pair
    → (offer_of cx v).socket.offered ≡ Some o → o.kind ≡ Kind.Payload → most_from (offer_of cx v).socket pair.addresses cx.ip_mtu o.offset ≤ o.len
full cx v pair o named offered kind = by_rules cx v (IsFull cx v) (full_rules cx v) pair o named offered (ap is_payload kind)
