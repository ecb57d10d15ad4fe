-- One host, whatever is at the other end, and a TCP socket alongside a conforming peer.
pub mod SocketRun
pub mod TakenRun
pub mod ReachedSocket
pub mod ReceivedPackets
pub mod Streams
pub mod Datagrams
pub mod Runs
pub mod Moved
