-- Of sockets of any kind, and what contracts of the members cite, for the crates above: `Rattle.socket_datagram.specs.Udp`,
-- `Rattle.socket_datagram.specs.declared.udp.UdpMetadata.{UdpMetadata}`.
pub mod AnySocket
pub mod Socket
pub mod Idle
pub mod Keys
pub use Rattle.socket_datagram.specs.Udp
pub use Rattle.socket_datagram.specs.Icmp
pub use Rattle.socket_datagram.specs.Raw
pub use Rattle.socket_datagram.specs.DhcpClient
pub use Rattle.socket_datagram.specs.DnsClient
pub use Rattle.socket_datagram.specs.SocketValue
pub use Rattle.socket_datagram.specs.Offers
pub use Rattle.socket_datagram.specs.OpenOffer
pub use Rattle.socket_datagram.specs.BorrowEnds
pub use Rattle.socket_datagram.specs.LentDatagram
pub use Rattle.socket_datagram.specs.Header
pub use Rattle.socket_datagram.specs.IcmpKept
pub use Rattle.socket_datagram.specs.Same
pub use Rattle.socket_datagram.specs.Dispatch
pub use Rattle.tcp_socket.specs.Addresses
pub use Rattle.socket_context.specs.Context
pub use Rattle.socket_context.specs.Offers as Polling
pub use Rattle.socket_context.specs.Packet
pub use Rattle.socket_context.specs.declared.offer.Offer
pub use Rattle.base_buffer.specs.Packets
pub use Rattle.wire_icmpv4.specs.declared.message.Icmpv4DstUnreachable
pub use Rattle.wire_icmpv6.specs.declared.reason.Icmpv6DstUnreachable
pub use Rattle.wire_icmpv6.specs.declared.reason.Icmpv6ParamProblem
pub use Rattle.wire_icmpv6.specs.Ndisc
pub use Rattle.tcp_socket.specs.PollAt
pub use Rattle.tcp_socket.specs.IpPayload
pub use Rattle.tcp_socket.specs.Packet as LentPacket
pub use Rattle.tcp_socket.specs.SegmentPayload
pub use Rattle.tcp_block.specs.Calls as TcpCalls
pub use Rattle.tcp_block.specs.Settings as TcpSettings
pub use Rattle.tcp_block.specs.Arrival as TcpArrival
pub use Rattle.tcp_block.specs.Names as TcpNames
pub use Rattle.tcp_socket.specs.Receive as TcpReceive
pub use Rattle.tcp_socket.specs.Offered as TcpOffered
pub use Rattle.tcp_socket.specs.Socket as TcpSocket
pub use Rattle.tcp_block.specs.Offers as TcpOffers
pub use Rattle.tcp_block.specs.Settled as TcpSettled
pub use Rattle.tcp_block.specs.Due as TcpDue
pub use Rattle.tcp_block.specs.Segments as TcpSegments
pub use Rattle.tcp_block.specs.States as TcpStates
pub use Rattle.tcp_block.specs.Value as TcpValue
pub use Rattle.tcp_block.specs.State
pub use Rattle.tcp_socket.specs.WellFormed
pub use Rattle.tcp_socket.specs.Replies
pub use Rattle.tcp_socket.specs.Answering as TcpAnswering
pub use Rattle.tcp_socket.specs.FastPath as TcpFastPath
pub use Rattle.tcp_block.specs.declared.tcb.CongestionControl
pub use Rattle.socket_datagram.specs.DhcpClient.Answers as DhcpAnswers
pub use Rattle.socket_datagram.specs.DhcpClient.Events as DhcpEvents
pub use Rattle.socket_datagram.specs.DhcpClient.Offers as DhcpOffers
pub use Rattle.socket_datagram.specs.DhcpClient.States as DhcpStates
pub use Rattle.socket_datagram.specs.DhcpClient.Value as DhcpValue
pub use Rattle.socket_datagram.specs.DnsClient.Offers as DnsOffers
pub use Rattle.socket_datagram.specs.DnsClient.Processed as DnsProcessed
pub use Rattle.socket_datagram.specs.DnsClient.Starts as DnsStarts
pub use Rattle.socket_datagram.specs.DnsClient.Turns as DnsTurns
pub use Rattle.socket_datagram.specs.DnsClient.Value as DnsValue
pub use Rattle.tcp_block.specs.Controls as TcpControls
pub use Rattle.tcp_block.specs.Reply as TcpReply
