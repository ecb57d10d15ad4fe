-- An idle socket stays as it is.
use Rattle.std.proofs.Common.{◌≡◌, ℕ, ◌-◌, ◌==◌, min, ◌&&◌, Bool, true, false, if◌then◌else◌, List, [], ◌∷◌, Option, Some, None, is_some, is_none}
use Rattle.std.proofs.Common.{refl, sym, ap, ◌∙◌, arith}
use Rattle.base_buffer.specs.Packets.{first}
use Rattle.socket_context.specs.Context.{ContextValue}
use Rattle.socket_context.specs.Offers.{Offered}
use Rattle.socket_context.specs.Packet.{PacketValue}
use Rattle.socket_context.specs.declared.offer.Offer.TheVariants as Answer
use Rattle.socket_context.specs.declared.poll_at.PollAt.{PollAt}
use Rattle.socket_context.specs.declared.poll_at.PollAt.TheVariants as At
use Rattle.tcp_block.specs.FourTuple.{FourTuple}
use Rattle.tcp_block.specs.OpenOffer.{OpenOffer}
use Rattle.tcp_block.specs.declared.tcb.Tcb.{Tcb}
use Rattle.tcp_block.specs.declared.tcb.CongestionControl.{CongestionControl}
use Rattle.tcp_block.specs.declared.tcb.CongestionControl.TheVariants as Congestion
use Rattle.tcp_block.specs.Due.{any, instants, earliest, at_instant, poll_between, poll_with, poll_of}
use Rattle.tcp_block.specs.Offers.{offer_of}
use Rattle.tcp_block.specs.Rules.{congestion_limit, congestion_room, ready, next_offset, payload_of_size, sends_choice, size_limit, resends_beside}
use Rattle.tcp_block.specs.Rules.{owes_syn, updates_window}
use Rattle.tcp_block.specs.Probing.{is_probe_unset}
use Rattle.tcp_block.specs.States.{is_closed}
use Rattle.tcp_block.specs.Timeout.{is_timeout_unset}
use Rattle.tcp_block.specs.Value.{TcpValue, queued_in, free_in, room_of}
use Rattle.tcp_block.proofs.Waits.{silence}
use Rattle.sockets.specs.Idle.{waits_for_arrival, some_ip_mtu, is_idle_connection, is_idle, IsOfPorts}
use Rattle.socket_datagram.specs.Offers.{OffersFirst}
use Rattle.socket_datagram.specs.SocketValue as Datagrams
use Rattle.socket_datagram.specs.SocketValue.{SocketValue}
use Rattle.socket_datagram.specs.Udp as Udps
use Rattle.sockets.specs.Socket as Sockets
use Rattle.sockets.specs.declared.socket.Socket.{Socket}
use Rattle.sockets.specs.declared.socket.Socket.TheVariants as Kind

both : (a b : Bool) → (a && b) ≡ true → (a ≡ true) × (b ≡ true)
both true true so = (refl, refl)
both true false so = absurd cc
both false b so = absurd cc

none_in : {A : Type 0} (o : Option A) → is_none o ≡ true → o ≡ None
none_in None so = refl
none_in (Some x) so = absurd cc

at_arrival : (at : PollAt) → waits_for_arrival at ≡ true → at ≡ At.Ingress
at_arrival At.Ingress so = refl
at_arrival At.Now so = absurd cc
at_arrival (At.Time instant) so = absurd cc

zero_in : (n : ℕ) → (n == 0) ≡ true → n ≡ 0
zero_in n so = grind (arith)

-- WITH NOTHING QUEUED THE IP MTU DOESN'T MATTER

none_of_limit : (control : CongestionControl) (cwnd size : ℕ) → size ≡ 0 → congestion_limit control cwnd size ≡ 0
none_of_limit Congestion.None cwnd size none = none
none_of_limit other cwnd size none = grind (arith)

none_is_ready : (b : Tcb) (limit : ℕ) → ready b limit 0 ≡ 0
none_is_ready b limit =
    none_of_limit b.settings.congestion_control (congestion_room b) (min (b.peer.window - b.sender.flight_size) (min limit (0 - next_offset b))) (grind (arith))

abbrev text_by : Tcb → ℕ → ℕ → Bool
text_by b limit queued = sends_choice b queued limit (payload_of_size b queued (ready b limit queued))

same_text : (b : Tcb) (limit other queued : ℕ) → queued ≡ 0 → text_by b limit queued ≡ text_by b other queued
same_text b limit other queued none =
    rw none (ap (λ (len : ℕ). sends_choice b 0 limit (payload_of_size b 0 len)) (none_is_ready b limit)
    ∙ sym (ap (λ (len : ℕ). sends_choice b 0 other (payload_of_size b 0 len)) (none_is_ready b other)))

-- when it wants to be polled, where it has text to send or hasn't
abbrev poll_by : TcpValue → Bool → PollAt
poll_by v payload =
    let b = v.tcb in
    if any (owes_syn b ∷ resends_beside b payload ∷ payload ∷ updates_window b (room_of v.received) (free_in v) ∷ is_timeout_unset b (queued_in v)
    ∷ is_probe_unset b (queued_in v) ∷ [])
    then At.Now
    else at_instant (earliest (instants b (queued_in v)))

same_between : (m n : ℕ) (v : TcpValue) (pair : FourTuple) → queued_in v ≡ 0 → poll_between m v pair ≡ poll_between n v pair
same_between m n v pair none =
    ap (λ (payload : Bool). if is_closed v.tcb.state then (if v.tcb.sender.reset_due then At.Now else At.Ingress) else poll_by v payload)
    (same_text v.tcb (size_limit v.tcb pair.addresses m) (size_limit v.tcb pair.addresses n) (queued_in v) none)

same_with : (pair : Option FourTuple) (m n : ℕ) (v : TcpValue) → queued_in v ≡ 0 → poll_with pair m v ≡ poll_with pair n v
same_with None m n v none = refl
same_with (Some pair) m n v none = same_between m n v pair none

pub same_poll : (m n : ℕ) (v : TcpValue) → queued_in v ≡ 0 → poll_of m v ≡ poll_of n v
same_poll m n v none = same_with v.tcb.names.pair m n v none

-- A CONNECTION

waits : (cx : ContextValue) (v : TcpValue) → is_idle_connection v ≡ true → poll_of cx.ip_mtu v ≡ At.Ingress
waits cx v idle =
    let first = both _ _ idle in
    let more = both _ _ first.1 in
    same_poll cx.ip_mtu some_ip_mtu v (zero_in (queued_in v) first.0) ∙ at_arrival (poll_of some_ip_mtu v) more.1

nothing_open : (v : TcpValue) → v.offered ≡ None → (record v { offered = None }) ≡ v
nothing_open v none = ap (λ (o : Option OpenOffer). record v { offered = o }) (sym none)

connection_stays : (cx : ContextValue) (v : TcpValue) → is_idle_connection v ≡ true → (Answer.Silent false ≡ (offer_of cx v).answer) ×
    (v ≡ (offer_of cx v).socket)
connection_stays cx v idle =
    let quiet = silence cx v (rw (waits cx v idle) tt) in
    let closed = none_in v.offered (both _ _ (both _ _ idle).1).0 in
    (sym (ap (λ (o : Offered TcpValue). o.answer) quiet), sym (ap (λ (o : Offered TcpValue). o.socket) quiet ∙ nothing_open v closed))

-- A SOCKET OF DATAGRAMS

module _ {H S : Type 0} where
  nothing_offered : (v : SocketValue H S) → v.offered ≡ None → v ≡ Datagrams.settled false v
  nothing_offered v none = ap (λ (o : Option PacketValue). record v { offered = o }) none

  empty_stays : (Takes : S → H × List ℕ → PacketValue → Type 0) (v : SocketValue H S) (f : Option (H × List ℕ)) → v.offered ≡ None →
      waits_for_arrival (if is_some f then At.Now else At.Ingress) ≡ true → OffersFirst Takes v f (Answer.Silent false) v
  empty_stays Takes v None none so = (refl, nothing_offered v none)
  empty_stays Takes v (Some q) none so = absurd cc

-- A SOCKET OF ANY KIND

pub stays : (cx : ContextValue) (s : Socket) → is_idle s ≡ true → Sockets.Offers cx s (Answer.Silent false) s
stays cx (Kind.Udp v) idle =
    let so = both _ _ idle in
    empty_stays (Udps.TakesDatagram cx) v (first v.queued) (none_in v.offered so.1) so.0
stays cx (Kind.Tcp v) idle = connection_stays cx v idle
stays cx s idle = absurd cc

pub waits_at : (cx : ContextValue) (s : Socket) → is_idle s ≡ true → Sockets.poll_of cx s ≡ At.Ingress
waits_at cx (Kind.Udp v) idle = at_arrival (Datagrams.poll_of v) (both _ _ idle).0
waits_at cx (Kind.Tcp v) idle = waits cx v idle
waits_at cx s idle = absurd cc

pub of_ports : (s : Socket) → is_idle s ≡ true → IsOfPorts s
of_ports (Kind.Udp v) idle = tt
of_ports (Kind.Tcp v) idle = tt
of_ports s idle = absurd cc
