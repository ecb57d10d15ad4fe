-- Two hosts on numerals, and the polls in which a segment goes from the one to the other.
use Rattle.std.proofs.Common.{◌≤◌, inl, inr, zero, suc, true, false, [], ◌∷◌, Some, None, refl, sym, subst, arith}
use Rattle.std.proofs.lemmas.Bool.{leb-true, ltb-true}
use Rattle.std.specs.List.{AllByRecursion}
use Rattle.net_base.specs.Medium.TheVariants as Medium
use Rattle.wire_address.specs.Address.{v4_number}
use Rattle.wire_ip.specs.Ip.{destination_of}
use Rattle.ip_wire.specs.HardwareAddress.TheVariants as Hardware
use Rattle.sim_link.specs.Port.{PortValue, PortMove}
use Rattle.lan.specs.declared.at_link.history.event.Side.TheVariants.{A, B}
use Rattle.socket_context.specs.WellFormed.{IsWellFormed}
use Rattle.tcp_block.specs.Settled.{settled}
use Rattle.tcp_block.specs.Value.{TcpValue}
use Rattle.iface_ingress.specs.Arrives.{arrived}
use Rattle.iface_ingress.specs.Incoming.{IsContent}
use Rattle.iface_ingress.specs.Offer.TheVariants as Offer
use Rattle.iface_ingress.specs.Sent.{AreSealed}
use Rattle.iface_ingress.specs.Packet.{PacketValue, Segment, payload_written}
use Rattle.iface_ingress.specs.Socket.TheVariants as Kind
use Rattle.iface_ingress.specs.Sockets.{Offers}
use Rattle.iface_ingress.specs.Upper.{IsBrought}
use Rattle.iface_tables.specs.Inner.{mtu_to, with_next_ident}
use Rattle.iface_tables.specs.PathMtu.{mtu_towards}
use Rattle.iface_egress.specs.Departure.{Whole}
use Rattle.iface_egress.specs.IsTransmitted.{numbered}
use Rattle.iface_egress.specs.Set.{unmarked}
use Rattle.iface_egress.specs.declared.socket_set.Item.{Item}
use Rattle.iface_egress.specs.declared.egress_path.Sent.TheVariants as Outcome
use Rattle.iface_ingress.specs.Socket.{Socket}
use Rattle.interface.specs.Delivered.{read_of}
use Rattle.interface.specs.Egress.{EgressStep, sending}
use Rattle.interface.specs.Host as Host
use Rattle.interface.specs.Ingress.{IngressStep}
use Rattle.interface.specs.Remote.{context_for}
use Rattle.interface.specs.Serve.{Leaves, ServesSlot, SendsBy}
use Rattle.interface.specs.declared.serve.Served.TheVariants as Turn
use Rattle.interface.specs.Pass.{passed}
use Rattle.interface.specs.Polls.{Polls, begun}
use Rattle.interface.specs.State.{State, state}
use Rattle.interface.specs.TransmittedFrame.{CanRead, HasWidths}
use Rattle.proof_stack.specs.Progress.Delivered.{reader_of}
use Rattle.proof_stack.specs.Progress.Leave.{BringsWhatWent, LiesAmong}
use Rattle.proof_stack.specs.Progress.Numerals.{now, port_with}
use Rattle.proof_stack.specs.Progress.SegmentNumerals.{awaiting, frame, header, offering, packet, push, reached, reader, sender, sent, taken, writing}
use Rattle.proof_stack.specs.Progress.Segments.{CanTransmit, ComesAmong, HasConnection, IsAwaitedAt, IsAwaitedThroughout, IsAwaitedWhenNext, IsItsTurn}
use Rattle.proof_stack.specs.Progress.Segments.{OffersSegment, asked_by}
use Rattle.proof_stack.specs.Worlds.Hosts.{text}
use Rattle.proof_stack.specs.Worlds.Open.{idle}
use Rattle.proof_stack.proofs.Polls.BetweenPorts.{segment_between}
use Rattle.proof_stack.proofs.Polls.Inboxes.{waiting}
use Rattle.proof_stack.proofs.Polls.Readers.{packet_read}
use Rattle.proof_stack.proofs.Polls.Segments.{carries}
use Rattle.proof_stack.proofs.Polls.SomeHosts.{is_address, nobody}

abbrev item : TcpValue → Item Socket
item v = record { meta = nobody; socket = Kind.Tcp v }

-- WHAT IS SENT

pub formed : IsWellFormed packet
formed = record {
  sendable = record { header = ltb-true _ _ refl; payload = record { header = leb-true _ _ refl; all = ltb-true _ _ refl; family = refl }; len = refl };
  header =
      record {
        source = is_address A;
        destination = is_address B;
        identification = ltb-true _ _ refl;
        protocol = ltb-true _ _ refl;
        hop_limit = ltb-true _ _ refl;
      };
  payload = record {
    source_port = ltb-true _ _ refl;
    destination_port = ltb-true _ _ refl;
    sequence = ltb-true _ _ refl;
    acknowledgement = ltb-true _ _ refl;
    window = ltb-true _ _ refl;
    options = record { size = tt; scale = tt; ranges = (tt, tt, tt); stamp = tt };
  };
}

pub widths : HasWidths sender
widths = record { mtu = leb-true _ _ refl; ident = ltb-true _ _ refl }

pub turn : IsItsTurn sender offering.slots 0 (Kind.Tcp writing)
turn = record { meta = nobody; stands = refl; ready = refl }

pub offers : OffersSegment sender writing header push text
unfolding v4_number mtu_towards
offers = record { offers = refl; source_port = λ is. absurd (cc); destination_port = λ is. absurd (cc) }

pub goes : CanTransmit sender Hardware.Ip packet
unfolding v4_number mtu_towards
goes = record { may = refl; known = refl; short = leb-true _ _ refl }

pub path : 80 ≤ mtu_to sender (destination_of header)
unfolding mtu_towards
path = leb-true _ _ refl

-- THE POLL OF A

abbrev begun_a : State PortValue
begun_a = begun now (begun now offering)

looks : IngressStep PortMove now (begun now offering) None begun_a
looks = ((refl, λ _. refl), refl)

abbrev from : Host.Sender PortValue
from = sending now begun_a

abbrev to : Host.Sender PortValue
to = Host.sender sent.device (with_next_ident sender) None

its_offer : Offers (context_for sender (Kind.Tcp writing)) (Kind.Tcp writing) (Offer.Packet false) (Kind.Tcp (asked_by sender writing))
unfolding v4_number mtu_towards
its_offer = (refl, refl)

leaves : Leaves PortMove None from nobody packet Outcome.Gone to
unfolding v4_number mtu_towards
leaves = inr (offering.device, (refl, refl), (((refl, refl), refl), refl), refl)

sends : SendsBy PortMove None (Some packet) from (item (asked_by sender writing)) false (Turn.Next true) to (item (settled true (asked_by sender writing)))
unfolding v4_number mtu_towards
sends = (packet, refl, formed, (Outcome.Gone, leaves, refl, refl, formed))

its_turn : ServesSlot PortMove None from (unmarked (Kind.Tcp writing)) (Turn.Next true) to (unmarked (Kind.Tcp (settled true (asked_by sender writing))))
unfolding v4_number mtu_towards
its_turn = (Offer.Packet false, Kind.Tcp (asked_by sender writing), its_offer, sends)

step_out : EgressStep PortMove now begun_a (Some true) sent
step_out = (
  passed to sent.slots true,
  inr (from, (refl, refl), inl (true, to, unmarked (Kind.Tcp (settled true (asked_by sender writing))), its_turn, refl)),
  refl,
  refl,
)

pub polls : Polls PortMove now 1 offering true sent
polls = (begun_a, false, inl (looks, refl), inr (true, sent, step_out, (refl, refl)))

-- THE LINK

pub lies : LiesAmong (frame ∷ []) 1 frame
lies = record { padding = []; before = []; following = []; frames = refl; few = ltb-true _ _ refl; short = refl }

pub brings : BringsWhatWent offering.device sent.device awaiting.device 1
brings gone is = subst (AllByRecursion (LiesAmong (frame ∷ []) 1)) is (lies, tt)

pub reads : CanRead sender Hardware.Ip (reader_of awaiting.host.inner)
reads = record { medium = record { from = tt; receiver = tt }; sealed = sealed } where
  sealed : AreSealed sender.checksums awaiting.host.inner.checksums
  sealed = record { ipv4 = λ is. is; icmpv4 = λ is. is; icmpv6 = λ is. is; udp = λ is. is; tcp = λ is. is }

-- THE POLL OF B

pub awaits : IsAwaitedThroughout reader awaiting.slots Hardware.Ip header push 0 nobody (idle B)
unfolding v4_number
awaits = record {
  awaited = record { heard = refl; framed = refl; sender = refl; here = refl; ours = refl; named = refl; slot = refl; stands = refl };
  connection = refl;
}

-- no frame comes before
awaits_first : IsAwaitedAt now (begun now awaiting) sender Hardware.Ip header push 0
awaits_first = record { meta = nobody; value = idle B; awaited = awaits.awaited; reads = reads }

pub awaits_next : IsAwaitedWhenNext PortMove waiting now awaiting 1 sender Hardware.Ip header push text 0
awaits_next zero x ident padding more less so next = subst (λ (y : State PortValue). IsAwaitedAt now y sender Hardware.Ip header push 0) (sym so) awaits_first
awaits_next (suc n) x ident padding more less so next = absurd (omega (arith, less))

abbrev begun_b : State PortValue
begun_b = begun now (begun now awaiting)

abbrev following_b : State PortValue
following_b = state (port_with Medium.Ip []) begun_b.host (unmarked (Kind.Tcp taken) ∷ [])

abbrev numbered_packet : PacketValue
numbered_packet = numbered sender packet

is_content : IsContent awaiting.host.inner.hardware awaiting.host.inner.checksums frame (Some (read_of sender (Whole Hardware.Ip numbered_packet)))
is_content = packet_read sender sender.ident Hardware.Ip packet (reader_of awaiting.host.inner) widths goes formed reads []

is_segment : IsBrought begun_b.host.inner.checksums numbered_packet.header (payload_written sender.checksums numbered_packet.header numbered_packet.payload)
    (Some (Segment push text))
is_segment = carries PortMove sender now awaiting awaiting 0 (idle B) nobody writing header push text offers Hardware.Ip goes formed reads sender.ident widths []

step_in : IngressStep PortMove now (begun now awaiting) (Some true) following_b
unfolding v4_number
step_in = (
  frame,
  following_b.device,
  (refl, refl),
  refl,
  (
    Some (read_of sender (Whole Hardware.Ip numbered_packet)),
    is_content,
    (
      arrived begun_b.host.inner following_b.slots None,
      (refl, (Some (Segment push text), is_segment, record { inner = refl; slots_are = refl; reply = refl })),
      refl,
      refl,
      refl,
    ),
    refl,
  ),
)

is_silent : Offers (context_for reader (Kind.Tcp taken)) (Kind.Tcp taken) (Offer.Silent false) (Kind.Tcp (asked_by reader taken))
unfolding v4_number mtu_towards
is_silent = (refl, refl)

rests : EgressStep PortMove now following_b None reached
rests = (
  passed (sending now following_b) reached.slots false,
  inr (
    sending now following_b,
    (refl, refl),
    inl (
      false,
      sending now following_b,
      unmarked (Kind.Tcp (asked_by reader taken)),
      (Offer.Silent false, Kind.Tcp (asked_by reader taken), is_silent, (refl, refl, refl)),
      refl,
    ),
  ),
  refl,
  refl,
)

pub hears : Polls PortMove now 1 awaiting true reached
hears = (following_b, true, inr (true, following_b, step_in, (refl, refl)), inl (rests, refl))

pub ends : HasConnection reached.slots 0
unfolding v4_number mtu_towards
ends = record { value = asked_by reader taken; stands = refl; state = refl }

-- WHAT THE LAW SAYS OF THEM

pub arrives : ComesAmong PortMove now awaiting reached header push text 0 (idle B)
arrives =
    segment_between now now 0 1 1 offering sent awaiting reached true true 0 0 nobody writing (idle B) header push text Hardware.Ip widths turn offers goes refl polls
    refl refl brings (leb-true _ _ refl) reads awaits hears refl ends
