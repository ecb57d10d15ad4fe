-- Of datagram sockets and both clients.
pub mod SocketValue
pub mod Offers
pub mod Dispatch
pub mod OpenOffer
pub mod BorrowEnds
pub mod LentDatagram
pub mod Header
pub mod Udp
pub mod Icmp
pub mod IcmpKept
pub mod Same
pub mod Raw
pub mod DhcpClient
pub mod DnsClient
