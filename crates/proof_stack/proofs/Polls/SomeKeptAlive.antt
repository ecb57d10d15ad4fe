-- A keep-alive of A, as it is made and read, on numerals.
use Rattle.std.proofs.Common.{◌∷◌, [], refl}
use Rattle.std.proofs.lemmas.Bool.{leb-true, ltb-true}
use Rattle.wire_address.specs.Address.{v4_number}
use Rattle.ip_wire.specs.HardwareAddress.TheVariants as Hardware
use Rattle.lan.specs.declared.at_link.history.event.Side.TheVariants.{A, B}
use Rattle.socket_context.specs.WellFormed.{IsWellFormed}
use Rattle.iface_ingress.specs.Packet.{PacketValue, Segment, packet_of}
use Rattle.iface_ingress.specs.Sent.{AreSealed}
use Rattle.iface_tables.specs.PathMtu.{mtu_towards}
use Rattle.interface.specs.TransmittedFrame.{CanRead, HasWidths}
use Rattle.proof_stack.specs.Progress.Delivered.{reader_of}
use Rattle.proof_stack.specs.Progress.KeepAliveNumerals.{a_late, b_late, keep_alive, keep_alive_to_b, kept_through}
use Rattle.proof_stack.specs.Progress.Segments.{CanTransmit, OffersSegment}
use Rattle.proof_stack.proofs.Polls.SomeHosts.{is_address}

abbrev pub alive_packet : PacketValue
alive_packet = packet_of keep_alive_to_b (Segment keep_alive (0 ∷ []))

pub alive_formed : IsWellFormed alive_packet
alive_formed = record {
  sendable = record { header = ltb-true _ _ refl; payload = record { header = leb-true _ _ refl; all = ltb-true _ _ refl; family = refl }; len = refl };
  header =
      record {
        source = is_address A;
        destination = is_address B;
        identification = ltb-true _ _ refl;
        protocol = ltb-true _ _ refl;
        hop_limit = ltb-true _ _ refl;
      };
  payload = record {
    source_port = ltb-true _ _ refl;
    destination_port = ltb-true _ _ refl;
    sequence = ltb-true _ _ refl;
    acknowledgement = ltb-true _ _ refl;
    window = ltb-true _ _ refl;
    options = record { size = tt; scale = tt; ranges = (tt, tt, tt); stamp = tt };
  };
}

pub alive_widths : HasWidths a_late
alive_widths = record { mtu = leb-true _ _ refl; ident = ltb-true _ _ refl }

pub alive_offered : OffersSegment a_late kept_through keep_alive_to_b keep_alive (0 ∷ [])
unfolding v4_number mtu_towards
alive_offered = record { offers = refl; source_port = λ is. absurd (cc); destination_port = λ is. absurd (cc) }

pub alive_goes : CanTransmit a_late Hardware.Ip alive_packet
unfolding v4_number mtu_towards
alive_goes = record { may = refl; known = refl; short = leb-true _ _ refl }

pub alive_read : CanRead a_late Hardware.Ip (reader_of b_late)
alive_read = record { medium = record { from = tt; receiver = tt }; sealed = sealed } where
  sealed : AreSealed a_late.checksums b_late.checksums
  sealed = record { ipv4 = λ is. is; icmpv4 = λ is. is; icmpv6 = λ is. is; udp = λ is. is; tcp = λ is. is }
