-- Two datagrams in a row on numerals: the second arrives after the first.
use Rattle.std.proofs.Common.{◌≢◌, ℕ, ◌≤◌, inl, inr, true, false, [], ◌∷◌, length, replicate, Some, None, refl, sym, subst}
use Rattle.std.proofs.lemmas.Bool.{leb-true, ltb-true}
use Rattle.std.proofs.lemmas.List.{length-replicate}
use Rattle.std.specs.List.{AllByRecursion}
use Rattle.wire_address.specs.Address.{v4_number}
use Rattle.wire_ip.specs.Ip.{source_of}
use Rattle.ip_wire.specs.HardwareAddress.TheVariants as Hardware
use Rattle.sim_link.specs.Port.{PortValue, PortMove}
use Rattle.lan.specs.declared.at_link.history.event.Side.TheVariants.{A, B}
use Rattle.socket_context.specs.WellFormed.{IsWellFormed}
use Rattle.socket_datagram.specs.SocketValue.{settled}
use Rattle.socket_datagram.specs.Udp.{UdpValue}
use Rattle.socket_datagram.proofs.UdpPackets.{found}
use Rattle.iface_ingress.specs.Arrives.{arrived}
use Rattle.iface_ingress.specs.Datagrams.{IsDelivered}
use Rattle.iface_ingress.specs.Incoming.{IsContent}
use Rattle.iface_ingress.specs.Offer.TheVariants as Offer
use Rattle.iface_ingress.specs.Packet.{PacketValue, Datagram}
use Rattle.iface_ingress.specs.Socket.TheVariants as Kind
use Rattle.iface_ingress.specs.Sockets.{Offers}
use Rattle.iface_tables.specs.Inner.{at_instant, context_of}
use Rattle.iface_tables.specs.PathMtu.{mtu_towards}
use Rattle.iface_egress.specs.Departure.{Whole}
use Rattle.iface_egress.specs.IsTransmitted.{numbered}
use Rattle.iface_egress.specs.Set.{unmarked}
use Rattle.iface_egress.specs.declared.egress_path.Sent.TheVariants as Outcome
use Rattle.interface.specs.Delivered.{read_of}
use Rattle.interface.specs.Egress.{EgressStep, sending}
use Rattle.interface.specs.Host as Host
use Rattle.interface.specs.Ingress.{IngressStep}
use Rattle.interface.specs.Pass.{passed}
use Rattle.interface.specs.Polls.{Polls, begun}
use Rattle.interface.specs.Remote.{context_for}
use Rattle.interface.specs.State.{State}
use Rattle.interface.specs.TransmittedFrame.{CanRead, HasWidths}
use Rattle.interface.specs.Serve.{ServesSlot}
use Rattle.interface.specs.declared.serve.Served.TheVariants as Turn
use Rattle.proof_stack.specs.Progress.Delivered.{as_received, reader_of}
use Rattle.proof_stack.specs.Progress.Inbox.{WaitsAmongThem}
use Rattle.proof_stack.specs.Progress.InARow.{both_gone, both_reached, both_wait_there, expecting_both, next_datagram, next_frame, next_packet, one_gone, one_reached}
use Rattle.proof_stack.specs.Progress.InARow.{one_waits, queued_both, queued_then, queuing_both, roomy}
use Rattle.proof_stack.specs.Progress.Leave.{BringsWhatWent, LiesAmong}
use Rattle.proof_stack.specs.Progress.Numerals.{datagram, frame, now, packet, sender}
use Rattle.proof_stack.specs.Progress.Queued.{CanGo, FindsDatagram, HasTurn, HasWay, ports_of, with_ident}
use Rattle.proof_stack.specs.Progress.Ready.{HasRoomFollowing, IsExpectedThroughout}
use Rattle.proof_stack.specs.Worlds.Hosts.{text}
use Rattle.proof_stack.proofs.Polls.BetweenPorts.{arrives_between}
use Rattle.proof_stack.proofs.Polls.Readers.{finds, is_read}
use Rattle.proof_stack.proofs.Polls.SomeHosts.{formed, goes, is_address, nobody, reads, some_port, widths}

-- WHAT IS SENT

next_formed : IsWellFormed next_packet
next_formed = record {
  sendable = record { header = ltb-true _ _ refl; payload = record { len = ltb-true _ _ refl; family = refl }; len = refl };
  header =
      record {
        source = is_address A;
        destination = is_address B;
        identification = ltb-true _ _ refl;
        protocol = ltb-true _ _ refl;
        hop_limit = ltb-true _ _ refl;
      };
  payload = record { source_port = ltb-true _ _ refl; destination_port = ltb-true _ _ refl };
}

pub both_turn : HasTurn sender queuing_both.slots 0 queued_both
both_turn = record { meta = nobody; stands = refl; ready = refl }

pub next_goes : CanGo sender queued_both.settings next_datagram Hardware.Ip next_packet
unfolding v4_number mtu_towards
next_goes = record { takes = (refl, refl); may = refl; known = refl; short = leb-true _ _ refl }

pub first_has_way : AllByRecursion (HasWay sender queued_both.settings) (datagram ∷ [])
first_has_way = ((Hardware.Ip, packet, goes), tt)

pub next_port : next_datagram.0.endpoint.port ≢ 0
next_port is = absurd (cc)

-- THE POLL OF A

abbrev begun_a : State PortValue
begun_a = begun now (begun now queuing_both)

abbrev following : State PortValue → Host.Sender PortValue
following s = Host.sender s.device s.host.inner None

abbrev offered_first : UdpValue
offered_first = record queued_both { offered = Some packet }

abbrev offered_then : UdpValue
offered_then = record queued_then { offered = Some next_packet }

offers_first : Offers (context_for sender (Kind.Udp queued_both)) (Kind.Udp queued_both) (Offer.Packet false) (Kind.Udp offered_first)
unfolding v4_number
offers_first = (found (context_for sender (Kind.Udp queued_both)) queued_both.settings datagram.0 text (Some packet.header) refl, refl, refl)

offers_then : Offers (context_for one_gone.host.inner (Kind.Udp queued_then)) (Kind.Udp queued_then) (Offer.Packet false) (Kind.Udp offered_then)
unfolding v4_number
offers_then =
    (found (context_for one_gone.host.inner (Kind.Udp queued_then)) queued_then.settings next_datagram.0 next_datagram.1 (Some next_packet.header) refl, refl, refl)

first_turn : ServesSlot PortMove None (sending now begun_a) (unmarked (Kind.Udp queued_both)) (Turn.Next true) (following one_gone) (unmarked (Kind.Udp queued_then))
unfolding v4_number mtu_towards
first_turn = (
  Offer.Packet false,
  Kind.Udp offered_first,
  offers_first,
  (packet, refl, formed, (Outcome.Gone, inr (queuing_both.device, (refl, refl), (((refl, refl), refl), refl), refl), refl, refl, formed)),
)

then_turn : ServesSlot PortMove None (following one_gone) (unmarked (Kind.Udp queued_then)) (Turn.Next true) (following both_gone)
    (unmarked (Kind.Udp (settled true offered_then)))
unfolding v4_number mtu_towards
then_turn = (
  Offer.Packet false,
  Kind.Udp offered_then,
  offers_then,
  (
    next_packet,
    refl,
    next_formed,
    (Outcome.Gone, inr (one_gone.device, (refl, refl), (((refl, refl), refl), refl), refl), refl, refl, next_formed),
  ),
)

first_step : EgressStep PortMove now begun_a (Some true) one_gone
first_step = (
  passed (following one_gone) one_gone.slots true,
  inr (sending now begun_a, (refl, refl), inl (true, following one_gone, unmarked (Kind.Udp queued_then), first_turn, refl)),
  refl,
  refl,
)

then_step : EgressStep PortMove now one_gone (Some true) both_gone
then_step = (
  passed (following both_gone) both_gone.slots true,
  inr (following one_gone, (refl, refl), inl (true, following both_gone, unmarked (Kind.Udp (settled true offered_then)), then_turn, refl)),
  refl,
  refl,
)

pub both_go : Polls PortMove now 2 queuing_both true both_gone
both_go = (
  begun_a,
  false,
  inl (((refl, λ _. refl), refl), refl),
  inr (true, one_gone, first_step, inr (true, both_gone, then_step, (refl, refl))),
)

-- THE LINK

pub both_brought : BringsWhatWent queuing_both.device both_gone.device expecting_both.device 2
both_brought gone is = subst (AllByRecursion (LiesAmong (frame ∷ next_frame ∷ []) 2)) is (one, (other, tt)) where
  one : LiesAmong (frame ∷ next_frame ∷ []) 2 frame
  one = record { padding = []; before = []; following = next_frame ∷ []; frames = refl; few = ltb-true _ _ refl; short = refl }

  other : LiesAmong (frame ∷ next_frame ∷ []) 2 next_frame
  other = record { padding = []; before = frame ∷ []; following = []; frames = refl; few = ltb-true _ _ refl; short = refl }

-- THE POLL OF B

pub next_expected : IsExpectedThroughout (at_instant now expecting_both.host.inner) expecting_both.slots Hardware.Ip next_packet.header
    (ports_of queued_both.settings next_datagram) 0 nobody roomy
unfolding v4_number
next_expected = record {
  expected = record { heard = refl; framed = refl; sender = refl; here = refl; ours = refl; slot = refl; stands = refl };
  no_answer = refl;
}

-- a slot has 4,096 bytes, more than these frames
a_assembler : length (replicate {A = ℕ} 4096 0) ≤ 4096
a_assembler = subst (λ (n : ℕ). n ≤ 4096) (sym (length-replicate {A = ℕ} 4096 0)) (leb-true 4096 4096 refl)

pub both_have_room : HasRoomFollowing expecting_both.device.link.waiting expecting_both.host.assemblers roomy.received 2 (length next_datagram.1)
both_have_room = inr (record {
  most = 4096;
  own = leb-true _ _ refl;
  brings = ((leb-true _ _ refl, (a_assembler, (a_assembler, tt))), ((leb-true _ _ refl, (a_assembler, (a_assembler, tt))), tt));
  room = record { entries = leb-true _ _ refl; bytes = leb-true _ _ refl };
})

abbrev numbered_first : PacketValue
numbered_first = numbered sender packet

abbrev numbered_then : PacketValue
numbered_then = numbered one_gone.host.inner next_packet

next_widths : HasWidths (with_ident sender one_gone.host.inner.ident)
next_widths = record { mtu = leb-true _ _ refl; ident = ltb-true _ _ refl }

pub can_read : CanRead sender Hardware.Ip (reader_of expecting_both.host.inner)
can_read = reads

first_content : IsContent expecting_both.host.inner.hardware expecting_both.host.inner.checksums frame (Some (read_of sender (Whole Hardware.Ip numbered_first)))
first_content = is_read sender sender.ident queued_both.settings datagram Hardware.Ip packet (reader_of expecting_both.host.inner) widths goes formed can_read []

first_datagram : FindsDatagram sender queued_both.settings datagram numbered_first (reader_of expecting_both.host.inner)
first_datagram =
    finds sender sender.ident queued_both.settings datagram Hardware.Ip packet (reader_of expecting_both.host.inner) widths goes formed can_read some_port

next_content : IsContent expecting_both.host.inner.hardware expecting_both.host.inner.checksums next_frame
    (Some (read_of one_gone.host.inner (Whole Hardware.Ip numbered_then)))
next_content =
    is_read sender one_gone.host.inner.ident queued_both.settings next_datagram Hardware.Ip next_packet (reader_of expecting_both.host.inner) next_widths next_goes
    next_formed can_read []

next_found : FindsDatagram one_gone.host.inner queued_both.settings next_datagram numbered_then (reader_of expecting_both.host.inner)
next_found =
    finds sender one_gone.host.inner.ident queued_both.settings next_datagram Hardware.Ip next_packet (reader_of expecting_both.host.inner) next_widths next_goes
    next_formed can_read next_port

first_given : IsDelivered (context_of one_reached.host.inner) numbered_first.header (ports_of queued_both.settings datagram) text expecting_both.slots
    one_reached.slots
unfolding v4_number
first_given = (unmarked (Kind.Udp one_waits), (Kind.Udp one_waits, refl, refl), refl)

next_given : IsDelivered (context_of one_reached.host.inner) numbered_then.header (ports_of queued_both.settings next_datagram) next_datagram.1
    one_reached.slots both_reached.slots
unfolding v4_number
next_given = (unmarked (Kind.Udp both_wait_there), (Kind.Udp both_wait_there, refl, refl), refl)

first_read : IngressStep PortMove now (begun now expecting_both) (Some true) one_reached
unfolding v4_number
first_read = (
  frame,
  one_reached.device,
  (refl, refl),
  refl,
  (
    Some (read_of sender (Whole Hardware.Ip numbered_first)),
    first_content,
    (
      arrived one_reached.host.inner one_reached.slots None,
      (
        refl,
        (
          Some (Datagram (ports_of queued_both.settings datagram) text),
          first_datagram,
          record { inner = refl; slots_are = first_given; reply = refl },
        ),
      ),
      refl,
      refl,
      refl,
    ),
    refl,
  ),
)

next_read : IngressStep PortMove now one_reached (Some true) both_reached
unfolding v4_number
next_read = (
  next_frame,
  both_reached.device,
  (refl, refl),
  refl,
  (
    Some (read_of one_gone.host.inner (Whole Hardware.Ip numbered_then)),
    next_content,
    (
      arrived both_reached.host.inner both_reached.slots None,
      (
        refl,
        (
          Some (Datagram (ports_of queued_both.settings next_datagram) next_datagram.1),
          next_found,
          record { inner = refl; slots_are = next_given; reply = refl },
        ),
      ),
      refl,
      refl,
      refl,
    ),
    refl,
  ),
)

rests : EgressStep PortMove now both_reached None both_reached
rests = (
  passed (following both_reached) both_reached.slots false,
  inr (
    following both_reached,
    (refl, refl),
    inl (
      false,
      following both_reached,
      unmarked (Kind.Udp both_wait_there),
      (Offer.Silent false, Kind.Udp both_wait_there, (refl, refl), (refl, refl, refl)),
      refl,
    ),
  ),
  refl,
  refl,
)

pub both_read : Polls PortMove now 2 expecting_both true both_reached
both_read = (
  both_reached,
  true,
  inr (true, one_reached, first_read, inr (true, both_reached, next_read, (refl, refl))),
  inl (rests, refl),
)

-- WHAT THE LAW SAYS OF THEM

pub next_arrives : WaitsAmongThem both_reached.slots 0 roomy (as_received (source_of next_packet.header) queued_both.settings next_datagram)
next_arrives =
    arrives_between now now 2 2 2 queuing_both both_gone expecting_both both_reached true true 0 0 nobody queued_both roomy (datagram ∷ []) next_datagram []
    Hardware.Ip next_packet widths both_turn refl (ltb-true _ _ refl) first_has_way next_port next_goes refl both_go refl refl both_brought (leb-true _ _ refl)
    can_read next_expected both_have_room both_read refl
