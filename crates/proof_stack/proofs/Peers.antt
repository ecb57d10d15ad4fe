-- One host, whatever is at the other end, and a TCP socket alongside a conforming peer.
pub mod Socket
pub mod Going
pub mod Place
pub mod Arrivals
pub mod Turns
pub mod Taken
pub mod Tcp
pub mod Udp
pub mod HostRuns
pub mod Devices
