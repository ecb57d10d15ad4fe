-- What is sent as a connection opens, on numerals.
use Rattle.std.proofs.Common.{[], refl}
use Rattle.std.specs.Prelude.{ℤ, pos}
use Rattle.std.proofs.lemmas.Bool.{leb-true, ltb-true}
use Rattle.wire_address.specs.Address.{v4_number}
use Rattle.ip_wire.specs.HardwareAddress.TheVariants as Hardware
use Rattle.sim_link.specs.Port.{PortValue}
use Rattle.lan.specs.Worlds.AtLink.Node.{NodeValue, at_port}
use Rattle.lan.specs.declared.at_link.history.event.Side.TheVariants.{A, B}
use Rattle.socket_context.specs.WellFormed.{IsWellFormed}
use Rattle.tcp_block.specs.Value.{TcpValue}
use Rattle.iface_ingress.specs.Packet.{PacketValue, Segment, packet_of}
use Rattle.iface_ingress.specs.Sent.{AreSealed}
use Rattle.iface_ingress.specs.Socket.{Socket}
use Rattle.iface_ingress.specs.Socket.TheVariants as Kind
use Rattle.iface_tables.specs.Inner.{with_next_ident}
use Rattle.iface_tables.specs.PathMtu.{mtu_towards}
use Rattle.iface_egress.specs.declared.socket_set.Item.{Item}
use Rattle.interface.specs.State.{State}
use Rattle.interface.specs.TransmittedFrame.{CanRead, HasWidths}
use Rattle.proof_stack.specs.Progress.Delivered.{reader_of}
use Rattle.proof_stack.specs.Progress.Segments.{CanTransmit, OffersSegment}
use Rattle.proof_stack.specs.Progress.SettledNumerals.{ack, ack_to_b, first_host, found, syn, syn_ack, syn_to}
use Rattle.proof_stack.proofs.Polls.SomeNodes.{answering, called, called_back}
use Rattle.proof_stack.proofs.Polls.SomeHosts.{is_address, nobody}

abbrev pub now : ℤ
now = pos 0

abbrev pub item : TcpValue → Item Socket
item v = record { meta = nobody; socket = Kind.Tcp v }

-- a host at its port, in which no buffer lies ready
abbrev pub port_of : NodeValue → PortValue
port_of s = record { link = s.link; ready = 0; size = 0 }

abbrev pub state_of : NodeValue → State PortValue
state_of s = at_port (port_of s) s

-- THE SYN OF A

abbrev pub syn_packet : PacketValue
syn_packet = packet_of (syn_to B) (Segment syn [])

pub syn_formed : IsWellFormed syn_packet
syn_formed = record {
  sendable = record { header = ltb-true _ _ refl; payload = record { header = leb-true _ _ refl; all = ltb-true _ _ refl; family = refl }; len = refl };
  header =
      record {
        source = is_address A;
        destination = is_address B;
        identification = ltb-true _ _ refl;
        protocol = ltb-true _ _ refl;
        hop_limit = ltb-true _ _ refl;
      };
  payload = record {
    source_port = ltb-true _ _ refl;
    destination_port = ltb-true _ _ refl;
    sequence = ltb-true _ _ refl;
    acknowledgement = tt;
    window = ltb-true _ _ refl;
    options = record { size = ltb-true _ _ refl; scale = ltb-true _ _ refl; ranges = (tt, tt, tt); stamp = tt };
  };
}

pub a_widths : HasWidths (found A)
a_widths = record { mtu = leb-true _ _ refl; ident = ltb-true _ _ refl }

pub syn_offered : OffersSegment (found A) called (syn_to B) syn []
unfolding v4_number mtu_towards
syn_offered = record { offers = refl; source_port = λ is. absurd (cc); destination_port = λ is. absurd (cc) }

pub syn_goes : CanTransmit (found A) Hardware.Ip syn_packet
unfolding v4_number mtu_towards
syn_goes = record { may = refl; known = refl; short = leb-true _ _ refl }

-- THAT OF B

abbrev pub syn_ack_packet : PacketValue
syn_ack_packet = packet_of (syn_to A) (Segment syn_ack [])

pub syn_ack_formed : IsWellFormed syn_ack_packet
syn_ack_formed = record {
  sendable = record { header = ltb-true _ _ refl; payload = record { header = leb-true _ _ refl; all = ltb-true _ _ refl; family = refl }; len = refl };
  header =
      record {
        source = is_address B;
        destination = is_address A;
        identification = ltb-true _ _ refl;
        protocol = ltb-true _ _ refl;
        hop_limit = ltb-true _ _ refl;
      };
  payload = record {
    source_port = ltb-true _ _ refl;
    destination_port = ltb-true _ _ refl;
    sequence = ltb-true _ _ refl;
    acknowledgement = ltb-true _ _ refl;
    window = ltb-true _ _ refl;
    options = record { size = ltb-true _ _ refl; scale = ltb-true _ _ refl; ranges = (tt, tt, tt); stamp = tt };
  };
}

pub b_widths : HasWidths (found B)
b_widths = record { mtu = leb-true _ _ refl; ident = ltb-true _ _ refl }

pub syn_ack_offered : OffersSegment (found B) answering (syn_to A) syn_ack []
unfolding v4_number mtu_towards
syn_ack_offered = record { offers = refl; source_port = λ is. absurd (cc); destination_port = λ is. absurd (cc) }

pub syn_ack_goes : CanTransmit (found B) Hardware.Ip syn_ack_packet
unfolding v4_number mtu_towards
syn_ack_goes = record { may = refl; known = refl; short = leb-true _ _ refl }

-- THE ACKNOWLEDGEMENT OF A

abbrev pub ack_packet : PacketValue
ack_packet = packet_of ack_to_b (Segment ack [])

pub ack_formed : IsWellFormed ack_packet
ack_formed = record {
  sendable = record { header = ltb-true _ _ refl; payload = record { header = leb-true _ _ refl; all = ltb-true _ _ refl; family = refl }; len = refl };
  header =
      record {
        source = is_address A;
        destination = is_address B;
        identification = ltb-true _ _ refl;
        protocol = ltb-true _ _ refl;
        hop_limit = ltb-true _ _ refl;
      };
  payload = record {
    source_port = ltb-true _ _ refl;
    destination_port = ltb-true _ _ refl;
    sequence = ltb-true _ _ refl;
    acknowledgement = ltb-true _ _ refl;
    window = ltb-true _ _ refl;
    options = record { size = tt; scale = tt; ranges = (tt, tt, tt); stamp = tt };
  };
}

pub then_widths : HasWidths (with_next_ident (found A))
then_widths = record { mtu = leb-true _ _ refl; ident = ltb-true _ _ refl }

pub ack_offered : OffersSegment (with_next_ident (found A)) called_back ack_to_b ack []
unfolding v4_number mtu_towards
ack_offered = record { offers = refl; source_port = λ is. absurd (cc); destination_port = λ is. absurd (cc) }

pub ack_goes : CanTransmit (with_next_ident (found A)) Hardware.Ip ack_packet
unfolding v4_number mtu_towards
ack_goes = record { may = refl; known = refl; short = leb-true _ _ refl }

-- THEY ARE READ

pub syn_read : CanRead (found A) Hardware.Ip (reader_of (first_host B).inner)
syn_read = record { medium = record { from = tt; receiver = tt }; sealed = sealed } where
  sealed : AreSealed (found A).checksums (first_host B).inner.checksums
  sealed = record { ipv4 = λ is. is; icmpv4 = λ is. is; icmpv6 = λ is. is; udp = λ is. is; tcp = λ is. is }

pub syn_ack_read : CanRead (found B) Hardware.Ip (reader_of (with_next_ident (found A)))
syn_ack_read = record { medium = record { from = tt; receiver = tt }; sealed = sealed } where
  sealed : AreSealed (found B).checksums (with_next_ident (found A)).checksums
  sealed = record { ipv4 = λ is. is; icmpv4 = λ is. is; icmpv6 = λ is. is; udp = λ is. is; tcp = λ is. is }

pub ack_read : CanRead (with_next_ident (found A)) Hardware.Ip (reader_of (with_next_ident (found B)))
ack_read = record { medium = record { from = tt; receiver = tt }; sealed = sealed } where
  sealed : AreSealed (with_next_ident (found A)).checksums (with_next_ident (found B)).checksums
  sealed = record { ipv4 = λ is. is; icmpv4 = λ is. is; icmpv6 = λ is. is; udp = λ is. is; tcp = λ is. is }
