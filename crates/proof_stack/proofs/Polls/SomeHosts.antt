-- Two hosts on numerals, and the polls in which a datagram goes from the one to the other.
use Rattle.std.proofs.Common.{◌≢◌, inl, inr, true, false, [], ◌∷◌, length, Some, None, refl, subst}
use Rattle.std.proofs.lemmas.Bool.{leb-true, ltb-true}
use Rattle.std.specs.List.{AllByRecursion}
use Rattle.net_base.specs.Medium.TheVariants as Medium
use Rattle.wire_ip.specs.Ip.{source_of}
use Rattle.wire_address.specs.Address.{v4_number}
use Rattle.ip_wire.specs.Address.{IsIpv4Address}
use Rattle.ip_wire.specs.HardwareAddress.TheVariants as Hardware
use Rattle.sim_link.specs.Port.{PortValue, PortMove}
use Rattle.lan.specs.declared.at_link.history.event.Side.{Side}
use Rattle.lan.specs.declared.at_link.history.event.Side.TheVariants.{A, B}
use Rattle.socket_context.specs.WellFormed.{IsWellFormed}
use Rattle.socket_datagram.specs.SocketValue.{settled}
use Rattle.socket_datagram.specs.Udp.{UdpValue, metadata_to}
use Rattle.socket_datagram.proofs.UdpPackets.{found}
use Rattle.iface_ingress.specs.Arrives.{arrived}
use Rattle.iface_ingress.specs.Incoming.{IsContent}
use Rattle.iface_ingress.specs.Offer.TheVariants as Offer
use Rattle.iface_ingress.specs.Sent.{AreSealed}
use Rattle.iface_ingress.specs.Datagrams.{IsDelivered}
use Rattle.iface_ingress.specs.Packet.{PacketValue, Datagram}
use Rattle.iface_ingress.specs.Socket.{Socket}
use Rattle.iface_ingress.specs.Socket.TheVariants as Kind
use Rattle.iface_ingress.specs.Sockets.{Offers}
use Rattle.iface_tables.specs.Inner.{at_instant, context_of, with_next_ident}
use Rattle.iface_tables.specs.PathMtu.{mtu_towards}
use Rattle.iface_egress.specs.Departure.{Whole}
use Rattle.iface_egress.specs.IsTransmitted.{numbered}
use Rattle.iface_egress.specs.Set.{unmarked}
use Rattle.iface_egress.specs.declared.socket_meta.Meta.{Meta}
use Rattle.iface_egress.specs.declared.socket_set.Item.{Item}
use Rattle.iface_egress.specs.declared.egress_path.Sent.TheVariants as Outcome
use Rattle.interface.specs.Delivered.{read_of}
use Rattle.interface.specs.Egress.{EgressStep, sending}
use Rattle.interface.specs.Host as Host
use Rattle.interface.specs.Ingress.{IngressStep}
use Rattle.interface.specs.Remote.{context_for}
use Rattle.interface.specs.Serve.{Leaves, ServesSlot, SendsBy}
use Rattle.interface.specs.declared.serve.Served.TheVariants as Turn
use Rattle.interface.specs.Pass.{passed}
use Rattle.interface.specs.Polls.{Polls, begun}
use Rattle.interface.specs.State.{State, state}
use Rattle.interface.specs.TransmittedFrame.{CanRead, HasWidths}
use Rattle.interface.proofs.Arrives.{all-bytes}
use Rattle.proof_stack.specs.Progress.Delivered.{as_received, reader_of}
use Rattle.proof_stack.specs.Progress.Inbox.{WaitsAmongThem}
use Rattle.proof_stack.specs.Progress.Leave.{BringsWhatWent, LiesAmong}
use Rattle.proof_stack.specs.Progress.Numerals.{datagram, expecting, frame, now, packet, port_with, queuing, reached, relieved, sender}
use Rattle.proof_stack.specs.Progress.Queued.{CanGo, FindsDatagram, HasTurn, ports_of}
use Rattle.proof_stack.specs.Progress.Ready.{HasRoomFollowing, IsExpectedThroughout}
use Rattle.proof_stack.specs.Worlds.Datagrams.{bound_b, header, offered_a, queued_a, waiting_b}
use Rattle.proof_stack.specs.Worlds.Hosts.{address, endpoint, text}
use Rattle.proof_stack.proofs.Polls.BetweenPorts.{arrives_between}
use Rattle.proof_stack.proofs.Polls.Readers.{finds, is_read}

abbrev pub nobody : Meta
nobody = record { waiting = None }

abbrev item : UdpValue → Item Socket
item v = record { meta = nobody; socket = Kind.Udp v }

-- WHAT IS SENT

pub is_address : (side : Side) → IsIpv4Address (address side)
is_address A = (refl, all-bytes (address A).0 (ltb-true _ _ refl, (ltb-true _ _ refl, (ltb-true _ _ refl, (ltb-true _ _ refl, tt)))))
is_address B = (refl, all-bytes (address B).0 (ltb-true _ _ refl, (ltb-true _ _ refl, (ltb-true _ _ refl, (ltb-true _ _ refl, tt)))))

pub formed : IsWellFormed packet
formed = record {
  sendable = record { header = ltb-true _ _ refl; payload = record { len = ltb-true _ _ refl; family = refl }; len = refl };
  header =
      record {
        source = is_address A;
        destination = is_address B;
        identification = ltb-true _ _ refl;
        protocol = ltb-true _ _ refl;
        hop_limit = ltb-true _ _ refl;
      };
  payload = record { source_port = ltb-true _ _ refl; destination_port = ltb-true _ _ refl };
}

pub widths : HasWidths sender
widths = record { mtu = leb-true _ _ refl; ident = ltb-true _ _ refl }

pub turn : HasTurn sender queuing.slots 0 queued_a
turn = record { meta = nobody; stands = refl; ready = refl }

pub some_port : datagram.0.endpoint.port ≢ 0
some_port is = absurd (cc)

pub goes : CanGo sender queued_a.settings datagram Hardware.Ip packet
unfolding v4_number mtu_towards
goes = record { takes = (refl, refl); may = refl; known = refl; short = leb-true _ _ refl }

-- THE POLL OF A

abbrev begun_a : State PortValue
begun_a = begun now (begun now queuing)

looks : IngressStep PortMove now (begun now queuing) None begun_a
looks = ((refl, λ _. refl), refl)

abbrev from : Host.Sender PortValue
from = sending now begun_a

abbrev to : Host.Sender PortValue
to = Host.sender relieved.device (with_next_ident sender) None

offers : Offers (context_for sender (Kind.Udp queued_a)) (Kind.Udp queued_a) (Offer.Packet false) (Kind.Udp offered_a)
unfolding v4_number
offers = (found (context_for sender (Kind.Udp queued_a)) queued_a.settings (metadata_to (endpoint B 53)) text header refl, refl, refl)

leaves : Leaves PortMove None from nobody packet Outcome.Gone to
unfolding v4_number mtu_towards
leaves = inr (queuing.device, (refl, refl), (((refl, refl), refl), refl), refl)

sends : SendsBy PortMove None (Some packet) from (item offered_a) false (Turn.Next true) to (item (settled true offered_a))
unfolding v4_number mtu_towards
sends = (packet, refl, formed, (Outcome.Gone, leaves, refl, refl, formed))

its_turn : ServesSlot PortMove None from (unmarked (Kind.Udp queued_a)) (Turn.Next true) to (unmarked (Kind.Udp (settled true offered_a)))
its_turn = (Offer.Packet false, Kind.Udp offered_a, offers, sends)

step_out : EgressStep PortMove now begun_a (Some true) relieved
step_out = (
  passed to relieved.slots true,
  inr (from, (refl, refl), inl (true, to, unmarked (Kind.Udp (settled true offered_a)), its_turn, refl)),
  refl,
  refl,
)

pub polls : Polls PortMove now 1 queuing true relieved
polls = (begun_a, false, inl (looks, refl), inr (true, relieved, step_out, (refl, refl)))

-- THE LINK

pub brings : BringsWhatWent queuing.device relieved.device expecting.device 1
brings gone is = subst (AllByRecursion (LiesAmong (frame ∷ []) 1)) is (lies, tt) where
  lies : LiesAmong (frame ∷ []) 1 frame
  lies = record { padding = []; before = []; following = []; frames = refl; few = ltb-true _ _ refl; short = refl }

pub reads : CanRead sender Hardware.Ip (reader_of expecting.host.inner)
reads = record { medium = record { from = tt; receiver = tt }; sealed = sealed } where
  sealed : AreSealed sender.checksums expecting.host.inner.checksums
  sealed = record { ipv4 = λ is. is; icmpv4 = λ is. is; icmpv6 = λ is. is; udp = λ is. is; tcp = λ is. is }

-- THE POLL OF B

pub expects :
    IsExpectedThroughout (at_instant now expecting.host.inner) expecting.slots Hardware.Ip packet.header (ports_of queued_a.settings datagram) 0 nobody bound_b
unfolding v4_number
expects = record {
  expected = record { heard = refl; framed = refl; sender = refl; here = refl; ours = refl; slot = refl; stands = refl };
  no_answer = refl;
}

pub has_room : HasRoomFollowing expecting.device.link.waiting expecting.host.assemblers bound_b.received 1 (length datagram.1)
has_room = inl (refl, refl)

abbrev begun_b : State PortValue
begun_b = begun now (begun now expecting)

abbrev following_b : State PortValue
following_b = state (port_with Medium.Ip []) begun_b.host reached.slots

abbrev numbered_packet : PacketValue
numbered_packet = numbered sender packet

is_content : IsContent expecting.host.inner.hardware expecting.host.inner.checksums frame (Some (read_of sender (Whole Hardware.Ip numbered_packet)))
is_content = is_read sender sender.ident queued_a.settings datagram Hardware.Ip packet (reader_of expecting.host.inner) widths goes formed reads []

is_datagram : FindsDatagram sender queued_a.settings datagram numbered_packet (reader_of expecting.host.inner)
is_datagram = finds sender sender.ident queued_a.settings datagram Hardware.Ip packet (reader_of expecting.host.inner) widths goes formed reads some_port

delivered : IsDelivered (context_of begun_b.host.inner) numbered_packet.header (ports_of queued_a.settings datagram) text expecting.slots reached.slots
unfolding v4_number
delivered = (unmarked (Kind.Udp waiting_b), (Kind.Udp waiting_b, refl, refl), refl)

step_in : IngressStep PortMove now (begun now expecting) (Some true) following_b
unfolding v4_number
step_in = (
  frame,
  following_b.device,
  (refl, refl),
  refl,
  (
    Some (read_of sender (Whole Hardware.Ip numbered_packet)),
    is_content,
    (
      arrived begun_b.host.inner reached.slots None,
      (
        refl,
        (Some (Datagram (ports_of queued_a.settings datagram) text), is_datagram, record { inner = refl; slots_are = delivered; reply = refl }),
      ),
      refl,
      refl,
      refl,
    ),
    refl,
  ),
)

rests : EgressStep PortMove now following_b None reached
rests = (
  passed (sending now following_b) reached.slots false,
  inr (
    sending now following_b,
    (refl, refl),
    inl (
      false,
      sending now following_b,
      unmarked (Kind.Udp waiting_b),
      (Offer.Silent false, Kind.Udp waiting_b, (refl, refl), (refl, refl, refl)),
      refl,
    ),
  ),
  refl,
  refl,
)

pub hears : Polls PortMove now 1 expecting true reached
hears = (following_b, true, inr (true, following_b, step_in, (refl, refl)), inl (rests, refl))

-- WHAT THE LAW SAYS OF THEM

pub arrives : WaitsAmongThem reached.slots 0 bound_b (as_received (source_of packet.header) queued_a.settings datagram)
arrives =
    arrives_between now now 1 1 1 queuing relieved expecting reached true true 0 0 nobody queued_a bound_b [] datagram [] Hardware.Ip packet widths turn refl
    (ltb-true _ _ refl) tt some_port goes refl polls refl refl brings (leb-true _ _ refl) reads expects has_room hears refl
