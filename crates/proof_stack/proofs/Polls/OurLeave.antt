-- The turn of a UDP socket whose first datagram may leave: its packet is what is offered.
use Rattle.std.proofs.Common.{◌≡◌, ℕ, false, List, ◌∷◌, Option, Some, refl, sym}
use Rattle.std.proofs.Common.{None, ap, ◌∙◌, subst}
use Rattle.std.specs.Prelude.{slice_get}
use Rattle.net_base.specs.Device.{Move}
use Rattle.net_base.specs.Packets.{contents, first}
use Rattle.base_buffer.proofs.PacketLaws.{first-contents}
use Rattle.ip_wire.specs.IpAddress.{IpAddress}
use Rattle.socket_datagram.specs.Offers.{IsFound, OffersFirst, answer_with, left_with}
use Rattle.socket_datagram.specs.Udp.{UdpValue, TakesDatagram}
use Rattle.socket_datagram.specs.declared.udp.UdpMetadata.{UdpMetadata}
use Rattle.iface_ingress.specs.Offer as Answer
use Rattle.iface_ingress.specs.Offer.TheVariants as Offer
use Rattle.iface_ingress.specs.Packet.{PacketValue}
use Rattle.iface_ingress.specs.Socket.{Socket}
use Rattle.iface_ingress.specs.Socket.TheVariants as Kind
use Rattle.iface_ingress.specs.Sockets as Sockets
use Rattle.iface_tables.specs.Inner.{InnerValue, context_of}
use Rattle.iface_egress.specs.Plan.{never_leaves}
use Rattle.iface_egress.specs.declared.socket_meta.Meta.{Meta}
use Rattle.iface_egress.specs.declared.socket_set.Item.{Item}
use Rattle.iface_egress.specs.declared.socket_set.SocketStorage.{SocketStorage}
use Rattle.interface.specs.Host.{Sender}
use Rattle.interface.specs.Remote.{context_for}
use Rattle.interface.specs.Serve.{is_waiting}
use Rattle.interface.specs.declared.serve.Served.{Served}
use Rattle.proof_stack.proofs.Polls.AnyLeave.{OffersLeaves, OffersOnly, any_leave}
use Rattle.proof_stack.proofs.Parkless.{ServesSlot}

-- the socket that offers it
abbrev pub offering_with : PacketValue → UdpValue → Socket
offering_with p v = Kind.Udp (left_with (Some p) v)

module _ (i : InnerValue) (v : UdpValue) (d : UdpMetadata × List ℕ) (p : PacketValue) (takes : TakesDatagram (context_of i) v.settings d p)
    (more : List (UdpMetadata × List ℕ)) (queued : contents v.queued ≡ d ∷ more) where
  is_first : first v.queued ≡ Some d
  is_first = first-contents v.queued ∙ ap (λ (all : List (UdpMetadata × List ℕ)). slice_get all 0) queued

  abbrev OffersIt : Answer.Offer → Socket → Type 0
  OffersIt answer s = (answer ≡ Offer.Packet false) × (s ≡ offering_with p v)

  -- no other packet takes the datagram
  found_it : (answer : Answer.Offer) (v' : UdpValue) (o : Option PacketValue) → IsFound (TakesDatagram (context_for i (Kind.Udp v)) v.settings d) o
      → answer ≡ answer_with o → v' ≡ left_with o v → OffersIt answer (Kind.Udp v')
  found_it answer v' None found says left = absurd (found p takes)
  found_it answer v' (Some q) found says left = (
    says,
    ap (λ (w : UdpValue). Kind.Udp w) (left ∙ ap (λ (r : PacketValue). left_with (Some r) v) (sym (found.only p takes))),
  )

  asked : (answer : Answer.Offer) (s : Socket) → Sockets.Offers (context_for i (Kind.Udp v)) (Kind.Udp v) answer s → OffersIt answer s
  asked answer (Kind.Udp v') given =
      let first_offer : OffersFirst (TakesDatagram (context_for i (Kind.Udp v))) v (Some d) answer v' =
      subst (λ (o : Option (UdpMetadata × List ℕ)). OffersFirst (TakesDatagram (context_for i (Kind.Udp v))) v o answer v') is_first given in
      found_it answer v' v'.offered first_offer.0 first_offer.1 first_offer.2
  asked answer (Kind.Raw w) given = absurd given
  asked answer (Kind.Icmp w) given = absurd given
  asked answer (Kind.Tcp w) given = absurd given
  asked answer (Kind.Dhcpv4 w) given = absurd given
  asked answer (Kind.Dns w) given = absurd given

  pub offers_it : OffersOnly i (Kind.Udp v) false (offering_with p v) p
  offers_it = record { asked = asked; packet = refl }

module _ {D : Type 0} (moves : D → Move → D → Type 0) (turn : Option IpAddress) (x x' : Sender D) (v : UdpValue) (d : UdpMetadata × List ℕ)
    (p : PacketValue) (takes : TakesDatagram (context_of x.inner) v.settings d p) (may : never_leaves x.inner p.header ≡ false) where
  -- the packet is offered, and leaves or stays
  abbrev pub OursLeaves : Meta → Served → Option (Item Socket) → Type 0
  OursLeaves was turned o = OffersLeaves moves turn x x' false (offering_with p v) p was turned o

  pub our_leave : (more : List (UdpMetadata × List ℕ)) → contents v.queued ≡ d ∷ more → (meta : Meta) (slot : SocketStorage Socket) (turned : Served)
      → is_waiting x.inner meta ≡ false
      → ServesSlot moves turn x (record { inner = Some (record { meta = meta; socket = Kind.Udp v }) }) turned x' slot → OursLeaves meta turned slot.inner
  our_leave more queued meta slot turned ready goes =
      any_leave moves turn x x' false (offering_with p v) p (Kind.Udp v) (offers_it x.inner v d p takes more queued) may meta slot turned ready goes
