-- A socket of any kind, the clients of DHCP and DNS among them: what it offers, how an offer is settled, when it wants to be polled,
-- and what is for it.
use Rattle.std.specs.Prelude.{◌≡◌, ℕ, Bool, false, List, Option, IfSome}
use Rattle.ip_wire.specs.IpAddress.{IpAddress}
use Rattle.ip_wire.specs.IpRepr.{IpRepr}
use Rattle.ip_wire.specs.UdpRepr.{UdpRepr}
use Rattle.wire_icmpv4.specs.declared.header.Icmpv4Header.{Icmpv4Header}
use Rattle.wire_icmpv6.specs.Icmpv6.{MessageValue}
use Rattle.socket_context.specs.Context.{ContextValue}
use Rattle.socket_context.specs.Packet.{PacketValue, IsSendable}
use Rattle.socket_context.specs.declared.offer.Offer.{Offer}
use Rattle.tcp_socket.specs.PollAt.{PollAt}
use Rattle.socket_datagram.specs.SocketValue as Datagrams
use Rattle.socket_datagram.specs.Offers as Slots
use Rattle.socket_datagram.specs.Udp as Udps
use Rattle.socket_datagram.specs.Icmp as Icmps
use Rattle.socket_datagram.specs.Raw as Raws
use Rattle.ip_wire.specs.TcpHeader.{TcpHeader}
use Rattle.tcp_block.specs.Due as Tcps
use Rattle.tcp_block.specs.Names as TcpNames
use Rattle.tcp_block.specs.Offers as TcpOffers
use Rattle.tcp_block.specs.Settled as TcpSettled
use Rattle.tcp_block.specs.Value.{TcpValue}
use Rattle.socket_datagram.specs.DhcpClient.Offers as DhcpOffers
use Rattle.socket_datagram.specs.DhcpClient.States as DhcpStates
use Rattle.socket_datagram.specs.DhcpClient.Value as Dhcps
use Rattle.socket_datagram.specs.DnsClient.Offers as DnsOffers
use Rattle.socket_datagram.specs.DnsClient.Processed as DnsProcessed
use Rattle.socket_datagram.specs.DnsClient.Turns as DnsTurns
use Rattle.socket_datagram.specs.DnsClient.Value as Dnss
use Rattle.sockets.specs.declared.socket.Socket.{Socket}
use Rattle.sockets.specs.declared.socket.Socket.TheVariants as Kind

-- a socket offers as its kind does, and stays of its kind
abbrev pub Offers : ContextValue → Socket → Offer → Socket → Type 0
Offers cx (Kind.Raw v) answer (Kind.Raw v') = Raws.Offers cx v answer v'
Offers cx (Kind.Icmp v) answer (Kind.Icmp v') = Icmps.Offers cx v answer v'
Offers cx (Kind.Udp v) answer (Kind.Udp v') = Udps.Offers cx v answer v'
Offers cx (Kind.Tcp v) answer (Kind.Tcp v') = (answer ≡ (TcpOffers.offer_of cx v).answer) × (v' ≡ (TcpOffers.offer_of cx v).socket)
Offers cx (Kind.Dhcpv4 v) answer (Kind.Dhcpv4 v') = DhcpOffers.Offers cx v answer v'
Offers cx (Kind.Dns v) answer (Kind.Dns v') = DnsOffers.Offers cx v answer v'
Offers cx s answer s' = ⊥

-- the packet of the open offer
abbrev pub offered_by : Socket → Option PacketValue
offered_by (Kind.Raw v) = v.offered
offered_by (Kind.Icmp v) = v.offered
offered_by (Kind.Udp v) = v.offered
offered_by (Kind.Tcp v) = TcpOffers.offered_packet v
offered_by (Kind.Dhcpv4 v) = Dhcps.offered_packet v
offered_by (Kind.Dns v) = Dnss.offered_packet v

-- the packet, if there is one, can be sent
abbrev pub IfSendable : Option PacketValue → Type 0
IfSendable o = IfSome o IsSendable

-- what an offer is told: a datagram that was sent leaves its queue, a segment is recorded, and a client waits for its answer
abbrev pub settled : Bool → Socket → Socket
settled sent (Kind.Raw v) = Kind.Raw (Datagrams.settled sent v)
settled sent (Kind.Icmp v) = Kind.Icmp (Datagrams.settled sent v)
settled sent (Kind.Udp v) = Kind.Udp (Datagrams.settled sent v)
settled sent (Kind.Tcp v) = Kind.Tcp (TcpSettled.settled sent v)
settled sent (Kind.Dhcpv4 v) = Kind.Dhcpv4 (Dhcps.settled sent v)
settled sent (Kind.Dns v) = Kind.Dns (Dnss.settled sent v)

-- when the socket wants to be polled
abbrev pub poll_of : ContextValue → Socket → PollAt
poll_of cx (Kind.Raw v) = Datagrams.poll_of v
poll_of cx (Kind.Icmp v) = Datagrams.poll_of v
poll_of cx (Kind.Udp v) = Datagrams.poll_of v
poll_of cx (Kind.Tcp v) = Tcps.poll_of cx.ip_mtu v
poll_of cx (Kind.Dhcpv4 v) = DhcpStates.poll_of v.state
poll_of cx (Kind.Dns v) = DnsTurns.poll_of v.state

-- the same connection in the same state, with the same bytes in its queues; its instants may have been set
pub record IsSameConnection (v v' : TcpValue) : Type 0 where
  pub state : v'.tcb.state ≡ v.tcb.state
  pub names : v'.tcb.names ≡ v.tcb.names
  pub settings : v'.tcb.settings ≡ v.tcb.settings
  pub received : v'.received ≡ v.received
  pub queued : v'.queued ≡ v.queued

-- the same socket, with the same datagrams in its queues, of which those to be sent may lie elsewhere, the same connection, or the same
-- client but for an open offer
abbrev pub IsSameButForSlots : Socket → Socket → Type 0
IsSameButForSlots (Kind.Raw v) (Kind.Raw v') = Slots.IsSameButForSlots v v'
IsSameButForSlots (Kind.Icmp v) (Kind.Icmp v') = Slots.IsSameButForSlots v v'
IsSameButForSlots (Kind.Udp v) (Kind.Udp v') = Slots.IsSameButForSlots v v'
IsSameButForSlots (Kind.Tcp v) (Kind.Tcp v') = IsSameConnection v v'
IsSameButForSlots (Kind.Dhcpv4 v) (Kind.Dhcpv4 v') = Dhcps.unoffered v' ≡ Dhcps.unoffered v
IsSameButForSlots (Kind.Dns v) (Kind.Dns v') = Dnss.unoffered v' ≡ Dnss.unoffered v
IsSameButForSlots s s' = ⊥

-- a socket of datagrams, or a client
abbrev pub IsOfDatagrams : Socket → Type 0
IsOfDatagrams (Kind.Tcp v) = ⊥
IsOfDatagrams s = Unit {0}

-- ARRIVAL. What is for a socket of one kind is for none of another; a datagram is for a UDP socket or for a client.

abbrev pub accepts_packet : Socket → IpRepr → Bool
accepts_packet (Kind.Raw v) ip = Raws.passes v.settings.version v.settings.protocol ip
accepts_packet s ip = false

abbrev pub accepts_icmpv4 : Socket → IpAddress → Icmpv4Header → List ℕ → Bool
accepts_icmpv4 (Kind.Icmp v) destination message bytes = Icmps.accepts_v4 v.settings.endpoint destination message bytes
accepts_icmpv4 s destination message bytes = false

abbrev pub accepts_icmpv6 : Socket → IpAddress → MessageValue → List ℕ → Bool
accepts_icmpv6 (Kind.Icmp v) destination message bytes = Icmps.accepts_v6 v.settings.endpoint destination message bytes
accepts_icmpv6 s destination message bytes = false

abbrev pub accepts_datagram : ContextValue → Socket → IpRepr → UdpRepr → Bool
accepts_datagram cx (Kind.Udp v) ip udp = Udps.accepts cx v ip udp
accepts_datagram cx (Kind.Dhcpv4 v) ip udp = Dhcps.accepts v ip udp
accepts_datagram cx (Kind.Dns v) ip udp = DnsProcessed.accepts v.state ip udp
accepts_datagram cx s ip udp = false

abbrev pub accepts_segment : Socket → IpRepr → TcpHeader → Bool
accepts_segment (Kind.Tcp v) ip header = TcpNames.accepts v.tcb ip header
accepts_segment s ip header = false
