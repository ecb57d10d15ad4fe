-- What a turn does to the socket at a slot.
use Rattle.std.proofs.Common.{◌≡◌, ℕ, Bool, true, false, List, Option, Some, None, refl, sym, subst}
use Rattle.net_base.specs.Device.{Move}
use Rattle.net_base.specs.ChecksumCapabilities.{ChecksumCapabilities}
use Rattle.ip_wire.specs.IpAddress.{IpAddress}
use Rattle.ip_wire.specs.IpRepr.{IpRepr}
use Rattle.sockets.specs.Context.{ContextValue}
use Rattle.sockets.specs.Packet.{PacketValue}
use Rattle.sockets.specs.Offer as Answer
use Rattle.sockets.specs.Offer.TheVariants as Offer
use Rattle.socket_datagram.specs.Offers.{HasPacket}
use Rattle.sockets.specs.Socket.{Offers, offered_by, settled}
use Rattle.sockets.specs.declared.socket.Socket.{Socket}
use Rattle.sockets.specs.DhcpValue as Dhcps
use Rattle.sockets.specs.DnsValue as Dnss
use Rattle.sockets.specs.declared.socket.Socket.TheVariants as Is
use Rattle.sockets.proofs.AnyKind.{has_packet}
use Rattle.tcp_block.specs.OpenOffer.{OpenOffer}
use Rattle.tcp_block.specs.Offers.{packet_with}
use Rattle.interface.specs.Remote.{context_for}
use Rattle.iface_egress.specs.declared.socket_set.Item.{Item}
use Rattle.iface_egress.specs.declared.socket_set.SocketStorage.{SocketStorage}
use Rattle.interface.specs.Host.{Sender}
use Rattle.interface.specs.Serve.{ServesSlot, ItemTurns, TurnsIf, Answers, SendsBy, is_waiting, let_through, is_done}
use Rattle.interface.specs.declared.serve.Served.{Served}
use Rattle.proof_stack.proofs.Peers.Place.{ItemOr}
use Rattle.proof_stack.proofs.Peers.Arrivals.{IsOfPolls}

-- an offer that is silent leaves none open
none_open : (o : Option OpenOffer) (queue : List ℕ) → packet_with o queue ≡ None → o ≡ None
none_open None queue is = refl
none_open (Some o) queue is = absurd (cc)

none_offered : (o : Option PacketValue) (changed : Bool) → HasPacket (Offer.Silent changed) o → o ≡ None
none_offered None changed has = refl
none_offered (Some p) changed has = absurd has

none_kept : (o : Option Dhcps.Open) → Dhcps.packet_in o ≡ None → o ≡ None
none_kept None is = refl
none_kept (Some o) is = absurd (cc)

none_asked : (o : Option Dnss.Open) → Dnss.packet_in o ≡ None → o ≡ None
none_asked None is = refl
none_asked (Some o) is = absurd (cc)

unsettled : (s : Socket) → offered_by s ≡ None → settled false s ≡ s
unsettled (Is.Raw v) none = λ k. Is.Raw (record v { offered = sym none k })
unsettled (Is.Icmp v) none = λ k. Is.Icmp (record v { offered = sym none k })
unsettled (Is.Udp v) none = λ k. Is.Udp (record v { offered = sym none k })
unsettled (Is.Tcp v) none = let no_offer : v.offered ≡ None = none_open v.offered v.queued.queue none in λ k. Is.Tcp (record v { offered = sym no_offer k })
unsettled (Is.Dhcpv4 v) none = let no_offer : v.offered ≡ None = none_kept v.offered none in λ k. Is.Dhcpv4 (record v { offered = sym no_offer k })
unsettled (Is.Dns v) none = let no_offer : v.offered ≡ None = none_asked v.offered none in λ k. Is.Dns (record v { offered = sym no_offer k })

module _ {D : Type 0} (moves : D → Move → D → Type 0) (asked : Option IpAddress) (Came : ChecksumCapabilities → IpRepr → List ℕ → Type 0)
    (F : Type 0) (W : Socket → Type 0) (law : IsOfPolls Came W) where
  silent : (cx : ContextValue) (s offered : Socket) (changed : Bool) → Offers cx s (Offer.Silent changed) offered → W s → W offered
  silent cx s offered changed offers holds =
      subst W (unsettled offered (none_offered (offered_by offered) changed (has_packet s offered cx (Offer.Silent changed) offers)))
      (law.offers cx s offered (Offer.Silent changed) false offers holds)

  sends : (x x' : Sender D) (s : Socket) (item item' : Item Socket) (cx : ContextValue) (changed : Bool) (turned : Served) (packet : Option PacketValue)
      → Offers cx s (Offer.Packet changed) item.socket → W s → SendsBy moves asked packet x item changed turned x' item' → W item'.socket
  sends x x' s item item' cx changed turned None offers holds is = absurd is
  sends x x' s item item' cx changed turned (Some packet) offers holds is =
      subst (λ (i : Item Socket). W i.socket) (sym is.3.3) (law.offers cx s item.socket (Offer.Packet changed) (is_done is.3.0) offers holds)

  answers : (x x' : Sender D) (s : Socket) (item item' : Item Socket) (cx : ContextValue) (answer : Answer.Offer) (turned : Served)
      → Offers cx s answer item.socket → W s → Answers moves asked answer x item turned x' item' → W item'.socket
  answers x x' s item item' cx (Offer.Silent changed) turned offers holds is =
      subst (λ (i : Item Socket). W i.socket) (sym is.2) (silent cx s item.socket changed offers holds)
  answers x x' s item item' cx (Offer.Packet changed) turned offers holds is =
      sends x x' s item item' cx changed turned (offered_by item.socket) offers holds is

  turns : (waits : Bool) (x x' : Sender D) (item item' : Item Socket) (turned : Served) → W item.socket →
      TurnsIf moves asked waits x (let_through x.inner item) turned x' item' → W item'.socket
  turns true x x' item item' turned holds is = subst (λ (i : Item Socket). W i.socket) (sym is.2) holds
  turns false x x' item item' turned holds (answer, offered, offers, is) =
      answers x x' item.socket (record (let_through x.inner item) { socket = offered }) item' (context_for x.inner item.socket) answer turned offers holds is

  items : (x x' : Sender D) (o o' : Option (Item Socket)) (turned : Served) → ItemTurns moves asked o x turned x' o' → ItemOr F W o → ItemOr F W o'
  items x x' None None turned is holds = holds
  items x x' (Some item) (Some item') turned is holds = turns (is_waiting x.inner item.meta) x x' item item' turned holds is
  items x x' None (Some item') turned is holds = absurd is
  items x x' (Some item) None turned is holds = absurd is

  pub turn_holds : (p p' : SocketStorage Socket) (x x' : Sender D) (turned : Served) → ServesSlot moves asked x p turned x' p' → ItemOr F W p.inner →
      ItemOr F W p'.inner
  turn_holds p p' x x' turned is holds = items x x' p.inner p'.inner turned is holds
