-- A UDP socket whose first datagram needs a next hop needs it whenever it is asked for a packet.
use Rattle.std.proofs.Common.{◌≡◌, ℕ, false, List, ◌∷◌, Option, Some, None, sym, ap, ◌∙◌, subst}
use Rattle.std.specs.Prelude.{slice_get}
use Rattle.net_base.specs.Packets.{contents}
use Rattle.base_buffer.proofs.PacketLaws.{first-contents}
use Rattle.ip_wire.specs.IpAddress.{IpAddress}
use Rattle.socket_datagram.specs.Offers.{IsFound, OffersFirst}
use Rattle.socket_datagram.specs.Udp.{UdpValue, TakesDatagram}
use Rattle.socket_datagram.specs.declared.udp.UdpMetadata.{UdpMetadata}
use Rattle.iface_ingress.specs.Offer as Answer
use Rattle.iface_ingress.specs.Packet.{PacketValue}
use Rattle.iface_ingress.specs.Socket.{Socket}
use Rattle.iface_ingress.specs.Socket.TheVariants as Kind
use Rattle.iface_ingress.specs.Sockets.{Offers, offered_by}
use Rattle.iface_tables.specs.Inner.{InnerValue}
use Rattle.iface_egress.specs.Plan.{never_leaves}
use Rattle.iface_egress.specs.declared.socket_meta.Meta.{Meta}
use Rattle.interface.specs.Remote.{context_for}
use Rattle.interface.specs.Serve.{is_waiting}
use Rattle.proof_stack.specs.Progress.NeighborResolution.{HasToAsk}
use Rattle.proof_stack.specs.Progress.EgressSteps.{IsNeedy, NeedsHop, StillNeeds}
use Rattle.proof_stack.proofs.Polls.AnyLeave.{source_stays}

module _ (i : InnerValue) (v : UdpValue) (d : UdpMetadata × List ℕ) (more : List (UdpMetadata × List ℕ)) (hop : IpAddress) (p : PacketValue)
    (queued : contents v.queued ≡ d ∷ more) (has : HasToAsk i v.settings d hop p) where
  needs_it : NeedsHop i hop p
  needs_it = record {
    may = subst (λ (q : PacketValue). never_leaves i q.header ≡ false) (sym (source_stays i p has.may)) has.may;
    unknown = has.unknown;
    asks = has.asks;
  }

  by_packet : (o : Option PacketValue) → IsFound (TakesDatagram (context_for i (Kind.Udp v)) v.settings d) o → IsNeedy i hop o
  by_packet None found = found p has.takes
  by_packet (Some q) found = subst (λ (r : PacketValue). NeedsHop i hop r) (found.only p has.takes) needs_it

  by_kind : (s : Socket) (answer : Answer.Offer) → Offers (context_for i (Kind.Udp v)) (Kind.Udp v) answer s → IsNeedy i hop (offered_by s)
  by_kind (Kind.Udp v') answer offers =
      let offered : OffersFirst (TakesDatagram (context_for i (Kind.Udp v))) v (Some d) answer v' =
      subst (λ (o : Option (UdpMetadata × List ℕ)). OffersFirst (TakesDatagram (context_for i (Kind.Udp v))) v o answer v')
      (first-contents v.queued ∙ ap (λ (all : List (UdpMetadata × List ℕ)). slice_get all 0) queued) offers in
      by_packet v'.offered offered.0
  by_kind (Kind.Raw w) answer offers = absurd offers
  by_kind (Kind.Icmp w) answer offers = absurd offers
  by_kind (Kind.Tcp w) answer offers = absurd offers
  by_kind (Kind.Dhcpv4 w) answer offers = absurd offers
  by_kind (Kind.Dns w) answer offers = absurd offers

  pub still_needed : (meta : Meta) → is_waiting i meta ≡ false → StillNeeds i hop (Some (record { meta = meta; socket = Kind.Udp v }))
  still_needed meta ready = (ready, λ answer s offers. by_kind s answer offers)
