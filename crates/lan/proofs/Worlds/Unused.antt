-- What the tests of a new host find.
use Rattle.std.proofs.Common.{◌≡◌, ℕ, zero, suc, Bool, true, false, not, ◌||◌, if◌then◌else◌, List, [], ◌∷◌, length, Option, None, Some, refl, sym, subst}
use Rattle.std.proofs.Common.{arith}
use Rattle.std.specs.Prelude.{◌==◌}
use Rattle.std.specs.List.{list_all}
use Rattle.std.proofs.lemmas.Bool.{false≢true, and_parts, not-true, eqb-true}
use Rattle.net_base.specs.Capabilities.{all_checksums}
use Rattle.net_base.specs.Checksum.{Checksum}
use Rattle.net_base.specs.Checksum.TheVariants as On
use Rattle.net_base.specs.ChecksumCapabilities.{ChecksumCapabilities}
use Rattle.net_base.specs.Packets.{QueuedPacket, Packets, packets_in, contents}
use Rattle.socket_datagram.specs.SocketValue.{has_packets, due}
use Rattle.iface_egress.specs.Set.{socket_at, socket_of}
use Rattle.iface_egress.specs.declared.socket_set.SocketStorage.{SocketStorage}
use Rattle.iface_egress.specs.declared.socket_set.Item.{Item}
use Rattle.sockets.specs.declared.socket.Socket.{Socket}
use Rattle.sockets.specs.declared.socket.Socket.TheVariants as Is
use Rattle.tcp_refinement.specs.Endpoints.{IsNameless}
use Rattle.lan.specs.Worlds.AtLink.Promises.{IsInitial}
use Rattle.sockets.specs.TcpStates.{is_closed, accepts_data}
use Rattle.lan.specs.Worlds.AtLink.State.{State}
use Rattle.lan.specs.Worlds.AtLink.State.TheVariants as In
use Rattle.tcp_block.specs.FourTuple.{FourTuple}
use Rattle.tcp_block.specs.Calls.{nothing_left}
use Rattle.tcp_block.specs.Value.{TcpValue}
use Rattle.lan.specs.Worlds.AtLink.Socket.{local_in}
use Rattle.std.specs.Prelude.{is_some}
use Rattle.lan.specs.Worlds.AtLink.Initial.{IsUnused}
use Rattle.lan.specs.Worlds.New.{is_both, are_on, is_no_socket, is_unopened, is_ingress, is_unused, of_item, of_slot}

-- LISTS

pub empty : {X : Type 0} (xs : List X) → (length xs == 0) ≡ true → xs ≡ []
empty [] h = refl
empty (x ∷ xs) h = absurd (omega (arith, eqb-true (length (x ∷ xs)) 0 h))

-- CHECKSUMS

both_is : (c : Checksum) → is_both c ≡ true → c ≡ On.Both
both_is On.Both h = refl
both_is On.Rx h = absurd (false≢true h)
both_is On.Tx h = absurd (false≢true h)
both_is On.None h = absurd (false≢true h)

pub on_is : (c : ChecksumCapabilities) → are_on c ≡ true → c ≡ all_checksums On.Both
on_is c h =
    let p = and_parts _ _ h in
    let q = and_parts _ _ p.0 in
    let r = and_parts _ _ q.0 in
    let s = and_parts _ _ r.0 in
    rw (both_is c.ipv4 s.0, both_is c.udp s.1, both_is c.tcp r.1, both_is c.icmpv4 q.1, both_is c.icmpv6 p.1) refl

-- QUEUES

module _ {H : Type 0} where
  none_in : (packets : List (QueuedPacket H)) (start slots room : ℕ) → has_packets (packets_in packets start slots room) ≡ false
      → contents (packets_in packets start slots room) ≡ []
  none_in [] start slots room h = refl
  none_in (p ∷ ps) start slots room h = absurd (false≢true (sym h))

  nothing_received : (q : Packets H) → not (has_packets q) ≡ true → contents q ≡ []
  nothing_received q h = none_in q.packets q.start q.positions q.room (not-true (has_packets q) h)

  nothing_queued_in : (packets : List (QueuedPacket H)) (start slots room : ℕ) → is_ingress (due (packets_in packets start slots room)) ≡ true
      → contents (packets_in packets start slots room) ≡ []
  nothing_queued_in [] start slots room h = refl
  nothing_queued_in (p ∷ ps) start slots room h = absurd (false≢true h)

  nothing_queued : (q : Packets H) → is_ingress (due q) ≡ true → contents q ≡ []
  nothing_queued q h = nothing_queued_in q.packets q.start q.positions q.room h

-- TCP

closed_is : (s : State) → is_closed s ≡ true → s ≡ In.Closed
closed_is In.Closed h = refl
closed_is In.Listen h = absurd (false≢true h)
closed_is In.SynSent h = absurd (false≢true h)
closed_is In.SynReceived h = absurd (false≢true h)
closed_is In.Established h = absurd (false≢true h)
closed_is In.FinWait1 h = absurd (false≢true h)
closed_is In.FinWait2 h = absurd (false≢true h)
closed_is In.CloseWait h = absurd (false≢true h)
closed_is In.Closing h = absurd (false≢true h)
closed_is In.LastAck h = absurd (false≢true h)
closed_is In.TimeWait h = absurd (false≢true h)

no_pair : (p : Option FourTuple) → not (is_some (local_in p)) ≡ true → p ≡ None
no_pair None h = refl
no_pair (Some p) h = absurd (false≢true h)

nothing_waits : (text none fin : Bool) → is_no_socket (if text || not none then None else Some (nothing_left fin)) ≡ true
    → (none ≡ true) × (fin ≡ false)
nothing_waits true none fin h = absurd (false≢true h)
nothing_waits false true true h = absurd (false≢true h)
nothing_waits false true false h = (refl, refl)
nothing_waits false false fin h = absurd (false≢true h)

unopened_is : (v : TcpValue) → is_unopened v ≡ true → IsInitial v × IsNameless v.tcb
unopened_is v h =
    let p = and_parts _ _ h in
    let q = and_parts _ _ p.0 in
    let r = and_parts _ _ q.0 in
    let s = and_parts _ _ r.0 in
    let w = nothing_waits (accepts_data v.tcb.state) (length v.received.waiting == 0) v.tcb.receiver.took_fin p.1 in
    let initial : IsInitial v = record {
      state = closed_is v.tcb.state s.0;
      waiting = empty v.received.waiting w.0;
      queue = empty v.queued.queue q.1;
      unfinished = w.1;
    } in
    let nameless : IsNameless v.tcb = record { state = s.0; pair = no_pair v.tcb.names.pair r.1 } in
    (initial, nameless)

-- SOCKETS

unused_is : (s : Socket) → is_unused s ≡ true → IsUnused s
unused_is (Is.Raw v) h = let p = and_parts _ _ h in (nothing_received v.received p.0, nothing_queued v.queued p.1)
unused_is (Is.Icmp v) h = let p = and_parts _ _ h in (nothing_received v.received p.0, nothing_queued v.queued p.1)
unused_is (Is.Udp v) h = let p = and_parts _ _ h in (nothing_received v.received p.0, nothing_queued v.queued p.1)
unused_is (Is.Tcp v) h = unopened_is v h
unused_is (Is.Dhcpv4 v) h = absurd (false≢true h)
unused_is (Is.Dns v) h = absurd (false≢true h)

unused_item : (item : Option (Item Socket)) (socket : Socket) → of_item is_unused item ≡ true → socket_of item ≡ Some socket → IsUnused socket
unused_item None socket h is = cc
unused_item (Some item) socket h is = let same : item.socket ≡ socket = cc in subst IsUnused same (unused_is item.socket h)

pub unused_at : (slots : List (SocketStorage Socket)) (i : ℕ) (socket : Socket) → list_all (of_slot is_unused) slots ≡ true →
    socket_at slots i ≡ Some socket → IsUnused socket
unused_at [] i socket h is = cc
unused_at (p ∷ ps) zero socket h is = unused_item p.inner socket (and_parts _ _ h).0 is
unused_at (p ∷ ps) (suc i) socket h is = unused_at ps i socket (and_parts _ _ h).1 is
