pub mod Connections
pub mod AnyKind
pub mod AtRest
pub mod Found
pub use Rattle.socket_datagram.proofs.DhcpClient.Datagrams as DhcpDatagrams
pub use Rattle.socket_datagram.proofs.DhcpClient.OneMessage as DhcpOneMessage
pub use Rattle.socket_datagram.proofs.DnsClient.Datagrams as DnsDatagrams
pub use Rattle.socket_datagram.proofs.DnsClient.OneVerdict as DnsOneVerdict
