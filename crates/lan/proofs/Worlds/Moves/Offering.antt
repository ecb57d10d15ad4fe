-- What a socket offers is made.
use Rattle.std.proofs.Common.{◌≡◌, ℕ, List, Option, Some, None, IfSome, refl, sym, ap, ◌∙◌, subst}
use Rattle.std.specs.Prelude.{[], ◌∷◌, ◌++◌, slice_get}
use Rattle.interface.specs.Ip.{destination_of}
use Rattle.interface.specs.UdpRepr.{UdpRepr}
use Rattle.sockets.specs.Context.{ContextValue}
use Rattle.iface_ingress.specs.IpAddress.{IpAddress}
use Rattle.iface_ingress.specs.IpAddress.TheVariants as Address
use Rattle.sockets.specs.Packet.{PacketValue, PayloadValue, ControlV4, ControlV6, Bytes, Datagram, Segment, packet_of}
use Rattle.sockets.specs.Offer as Answer
use Rattle.socket_datagram.specs.Icmp.{IsMessage, IsPacketFrom}
use Rattle.socket_datagram.specs.Offers.{IsFound, IsOnly, OffersFirst}
use Rattle.socket_datagram.specs.SocketValue.{SocketValue}
use Rattle.socket_datagram.specs.Udp as Udps
use Rattle.socket_datagram.specs.declared.udp.UdpMetadata.{UdpMetadata}
use Rattle.tcp_refinement.specs.Host.{Made, made_of, and_offer}
use Rattle.tcp_block.specs.OpenOffer.{OpenOffer}
use Rattle.tcp_block.specs.Offers.{offer_of, payload_of, packet_with, offered_packet}
use Rattle.tcp_block.specs.Value.{TcpValue}
use Rattle.lan.specs.Worlds.AtLink.Parties as Parties
use Rattle.lan.specs.Worlds.AtLink.Parties.{Party, datagrams_in}
use Rattle.iface_ingress.specs.Sent.{normal_payload}
use Rattle.lan.specs.Worlds.Moves.Made.{MadeBy, datagram_of}
use Rattle.lan.proofs.Worlds.Moves.Slots.{get_last}

pub if_some : {X : Type 0} (o : Option X) (Q : X → Type 0) → ((x : X) → o ≡ Some x → Q x) → IfSome o Q
if_some None Q f = tt
if_some (Some x) Q f = f x refl

pub some_so : {X : Type 0} (o : Option X) (Q : X → Type 0) (x : X) → o ≡ Some x → IfSome o Q → Q x
some_so {X} o Q x is holds = let P : Option X → Type 0 = λ y. IfSome y Q in subst P is holds

-- an offered packet takes a datagram of the queue
pub takes_one : {H S : Type 0} (Takes : S → H × List ℕ → PacketValue →
    Type 0) (v : SocketValue H S) (o : Option (H × List ℕ)) (answer : Answer.Offer) (v' : SocketValue H S) (p : PacketValue)
    → OffersFirst Takes v o answer v' → v'.offered ≡ Some p → (q : H × List ℕ) × Takes v.settings q p
takes_one {H} {S} Takes v None answer v' p offers is =
    let none : v'.offered ≡ None = ap (λ (w : SocketValue H S). w.offered) offers.1 in
    absurd (let clash : None ≡ Some p = sym none ∙ is in cc)
takes_one Takes v (Some q) answer v' p offers is =
    let only : IsOnly (Takes v.settings q) p = subst (IsFound (Takes v.settings q)) is offers.0 in
    (q, only.takes)

-- what a reader has of a packet that leaves from this address was made
abbrev pub IsMadeFrom : Party → IpAddress → PacketValue → Type 0
IsMadeFrom party from p = MadeBy party from (destination_of p.header) (normal_payload p.payload)

-- a control message is nobody's
control_made : (party : Party) (from to source remote : IpAddress) (bytes : List ℕ) (x : PayloadValue) → IsMessage source remote bytes x →
    MadeBy party from to (normal_payload x)
control_made party from to source remote bytes (ControlV4 message more) is = tt
control_made party from to source remote bytes (ControlV6 message more) is = tt
control_made party from to source remote bytes (Bytes more) is = tt
control_made party from to (Address.Ipv4 source) (Address.Ipv4 remote) bytes (Datagram udp more) is = absurd is
control_made party from to (Address.Ipv4 source) (Address.Ipv6 remote) bytes (Datagram udp more) is = absurd is
control_made party from to (Address.Ipv6 source) (Address.Ipv4 remote) bytes (Datagram udp more) is = absurd is
control_made party from to (Address.Ipv6 source) (Address.Ipv6 remote) bytes (Datagram udp more) is = absurd is
control_made party from to (Address.Ipv4 source) (Address.Ipv4 remote) bytes (Segment header more) is = absurd is
control_made party from to (Address.Ipv4 source) (Address.Ipv6 remote) bytes (Segment header more) is = absurd is
control_made party from to (Address.Ipv6 source) (Address.Ipv4 remote) bytes (Segment header more) is = absurd is
control_made party from to (Address.Ipv6 source) (Address.Ipv6 remote) bytes (Segment header more) is = absurd is

pub message_made : (party : Party) (from : IpAddress) (source : Option IpAddress) (remote : IpAddress) (bytes : List ℕ) (limit : ℕ) (p : PacketValue) →
    IsPacketFrom source remote bytes limit p → IsMadeFrom party from p
message_made party from None remote bytes limit p is = absurd is
message_made party from (Some source) remote bytes limit p is =
    control_made party from (destination_of p.header) source remote bytes p.payload is.0

-- a datagram is among those that were made
pub udp_made : (party : Party) (from : IpAddress) (before : List Parties.Datagram) (cx : ContextValue) (s : Udps.UdpSettings) (q : UdpMetadata × List ℕ)
    (p : PacketValue) → party.datagrams ≡ before ++ datagrams_in p.payload → Udps.TakesDatagram cx s q p → IsMadeFrom party from p
udp_made party from before cx s q p made takes =
    let udp : UdpRepr = record { src_port = s.endpoint.port; dst_port = q.0.endpoint.port } in
    let is : p.payload ≡ Datagram udp q.1 = ap (λ (x : PacketValue). x.payload) takes.1 in
    let all : party.datagrams ≡ before ++ datagram_of udp q.1 ∷ [] = made ∙ ap (λ x. before ++ datagrams_in x) is in
    let last = get_last before (datagram_of udp q.1) [] in
    subst (λ (x : PayloadValue). MadeBy party from (destination_of p.header) (normal_payload x)) (sym is)
    (last.0, ap (λ (xs : List Parties.Datagram). slice_get xs last.0) all ∙ last.1)

-- a segment is among those that were made
segment_made : (party : Party) (from : IpAddress) (before : List Made) (o : Option OpenOffer) (queue : List ℕ) (p : PacketValue)
    → party.segments ≡ and_offer before from o queue → packet_with o queue ≡ Some p → IsMadeFrom party from p
segment_made party from before None queue p made is = absurd (cc)
segment_made party from before (Some o) queue p made is =
    let x = made_of from (destination_of o.header) o.segment (payload_of o o.kind queue) in
    let same : packet_of o.header (Segment o.segment (payload_of o o.kind queue)) ≡ p = cc in
    let last = get_last before x [] in
    subst (IsMadeFrom party from) same
    (record { written = o.segment; among = (last.0, ap (λ (xs : List Made). slice_get xs last.0) made ∙ last.1); read = refl })

pub tcp_made : (party : Party) (from : IpAddress) (before : List Made) (cx : ContextValue) (v : TcpValue) (p : PacketValue)
    → party.segments ≡ and_offer before from (offer_of cx v).socket.offered (offer_of cx v).socket.queued.queue →
    offered_packet (offer_of cx v).socket ≡ Some p → IsMadeFrom party from p
tcp_made party from before cx v p made is =
    segment_made party from before (offer_of cx v).socket.offered (offer_of cx v).socket.queued.queue p made is
