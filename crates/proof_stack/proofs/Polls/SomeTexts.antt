-- The text that goes over a connection, and its acknowledgement, on numerals.
use Rattle.std.proofs.Common.{[], refl}
use Rattle.std.proofs.lemmas.Bool.{leb-true, ltb-true}
use Rattle.wire_address.specs.Address.{v4_number}
use Rattle.ip_wire.specs.HardwareAddress.TheVariants as Hardware
use Rattle.lan.specs.declared.at_link.history.event.Side.TheVariants.{A, B}
use Rattle.socket_context.specs.WellFormed.{IsWellFormed}
use Rattle.iface_ingress.specs.Packet.{PacketValue, Segment, packet_of}
use Rattle.iface_ingress.specs.Sent.{AreSealed}
use Rattle.iface_tables.specs.PathMtu.{mtu_towards}
use Rattle.interface.specs.TransmittedFrame.{CanRead, HasWidths}
use Rattle.proof_stack.specs.Progress.Delivered.{reader_of}
use Rattle.proof_stack.specs.Progress.Segments.{CanTransmit, OffersSegment}
use Rattle.proof_stack.specs.Progress.SettledNumerals.{a_second, a_third, ack_to_a, b_first, b_later, heard, last_ack, push, push_to_b, writing}
use Rattle.proof_stack.specs.Worlds.Hosts.{text}
use Rattle.proof_stack.proofs.Polls.SomeHosts.{is_address}

-- ABC

abbrev pub push_packet : PacketValue
push_packet = packet_of push_to_b (Segment push text)

pub push_formed : IsWellFormed push_packet
push_formed = record {
  sendable = record { header = ltb-true _ _ refl; payload = record { header = leb-true _ _ refl; all = ltb-true _ _ refl; family = refl }; len = refl };
  header =
      record {
        source = is_address A;
        destination = is_address B;
        identification = ltb-true _ _ refl;
        protocol = ltb-true _ _ refl;
        hop_limit = ltb-true _ _ refl;
      };
  payload = record {
    source_port = ltb-true _ _ refl;
    destination_port = ltb-true _ _ refl;
    sequence = ltb-true _ _ refl;
    acknowledgement = ltb-true _ _ refl;
    window = ltb-true _ _ refl;
    options = record { size = tt; scale = tt; ranges = (tt, tt, tt); stamp = tt };
  };
}

pub push_widths : HasWidths a_second
push_widths = record { mtu = leb-true _ _ refl; ident = ltb-true _ _ refl }

pub push_offered : OffersSegment a_second writing push_to_b push text
unfolding v4_number mtu_towards
push_offered = record { offers = refl; source_port = λ is. absurd (cc); destination_port = λ is. absurd (cc) }

pub push_goes : CanTransmit a_second Hardware.Ip push_packet
unfolding v4_number mtu_towards
push_goes = record { may = refl; known = refl; short = leb-true _ _ refl }

pub push_read : CanRead a_second Hardware.Ip (reader_of b_first)
push_read = record { medium = record { from = tt; receiver = tt }; sealed = sealed } where
  sealed : AreSealed a_second.checksums b_first.checksums
  sealed = record { ipv4 = λ is. is; icmpv4 = λ is. is; icmpv6 = λ is. is; udp = λ is. is; tcp = λ is. is }

-- WHAT ACKNOWLEDGES IT

abbrev pub last_packet : PacketValue
last_packet = packet_of ack_to_a (Segment last_ack [])

pub last_formed : IsWellFormed last_packet
last_formed = record {
  sendable = record { header = ltb-true _ _ refl; payload = record { header = leb-true _ _ refl; all = ltb-true _ _ refl; family = refl }; len = refl };
  header =
      record {
        source = is_address B;
        destination = is_address A;
        identification = ltb-true _ _ refl;
        protocol = ltb-true _ _ refl;
        hop_limit = ltb-true _ _ refl;
      };
  payload = record {
    source_port = ltb-true _ _ refl;
    destination_port = ltb-true _ _ refl;
    sequence = ltb-true _ _ refl;
    acknowledgement = ltb-true _ _ refl;
    window = ltb-true _ _ refl;
    options = record { size = tt; scale = tt; ranges = (tt, tt, tt); stamp = tt };
  };
}

pub last_widths : HasWidths b_later
last_widths = record { mtu = leb-true _ _ refl; ident = ltb-true _ _ refl }

pub last_offered : OffersSegment b_later heard ack_to_a last_ack []
unfolding v4_number mtu_towards
last_offered = record { offers = refl; source_port = λ is. absurd (cc); destination_port = λ is. absurd (cc) }

pub last_goes : CanTransmit b_later Hardware.Ip last_packet
unfolding v4_number mtu_towards
last_goes = record { may = refl; known = refl; short = leb-true _ _ refl }

pub last_read : CanRead b_later Hardware.Ip (reader_of a_third)
last_read = record { medium = record { from = tt; receiver = tt }; sealed = sealed } where
  sealed : AreSealed b_later.checksums a_third.checksums
  sealed = record { ipv4 = λ is. is; icmpv4 = λ is. is; icmpv6 = λ is. is; udp = λ is. is; tcp = λ is. is }
