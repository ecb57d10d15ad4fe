-- What contracts of the members cite, for the crates above: `Rattle.control_wire.specs.Icmpv4`,
-- `Rattle.control_wire.specs.Icmpv4Header.{Icmpv4Header}`.
pub use Rattle.wire_icmpv4.specs.Icmpv4Codes
pub use Rattle.wire_icmpv4.specs.Icmpv4
pub use Rattle.wire_icmpv4.specs.declared.header.Icmpv4Header
pub use Rattle.wire_icmpv4.specs.declared.message.Icmpv4DstUnreachable
pub use Rattle.wire_icmpv4.specs.declared.message.Icmpv4Message
pub use Rattle.wire_icmpv4.specs.declared.message.Icmpv4TimeExceeded
pub use Rattle.wire_icmpv4.specs.declared.packet.Icmpv4Packet
pub use Rattle.wire_icmpv4.specs.declared.packet_mut.Icmpv4PacketMut
pub use Rattle.wire_icmpv4.specs.declared.repr.Icmpv4Repr
pub use Rattle.wire_icmpv6.specs.Message
pub use Rattle.wire_icmpv6.specs.Reason
pub use Rattle.wire_icmpv6.specs.Packet
pub use Rattle.wire_icmpv6.specs.NdiscOption
pub use Rattle.wire_icmpv6.specs.Ndisc
pub use Rattle.wire_icmpv6.specs.Icmpv6
pub use Rattle.wire_icmpv6.specs.declared.header.Icmpv6Header
pub use Rattle.wire_icmpv6.specs.declared.message.Icmpv6Message
pub use Rattle.wire_icmpv6.specs.declared.ndisc_flags.NdiscNeighborFlags
pub use Rattle.wire_icmpv6.specs.declared.ndisc.NdiscRepr
pub use Rattle.wire_icmpv6.specs.declared.packet.Icmpv6Packet
pub use Rattle.wire_icmpv6.specs.declared.packet_mut.Icmpv6PacketMut
pub use Rattle.wire_icmpv6.specs.declared.reason.Icmpv6DstUnreachable
pub use Rattle.wire_icmpv6.specs.declared.reason.Icmpv6ParamProblem
pub use Rattle.wire_icmpv6.specs.declared.reason.Icmpv6TimeExceeded
pub use Rattle.wire_icmpv6.specs.declared.repr.Icmpv6Repr
