-- What contracts of the members cite, for the crates above: `Rattle.net_base.specs.Time`,
-- `Rattle.net_base.specs.Instant.{Instant}`, `Rattle.net_base.specs.Medium.TheVariants.{Ip}`.
pub use Rattle.base_time.specs.Rand as RandomWords
pub use Rattle.base_time.specs.Text as TimeText
pub use Rattle.base_time.specs.Time
pub use Rattle.base_time.specs.declared.instant.Instant
pub use Rattle.base_time.specs.declared.duration.Duration
pub use Rattle.base_time.specs.declared.rand.Rand
pub use Rattle.base_buffer.specs.Assembler
pub use Rattle.base_buffer.specs.Contigs
pub use Rattle.base_buffer.specs.Entries
pub use Rattle.base_buffer.specs.ManagedSlice
pub use Rattle.base_buffer.specs.PacketCalls
pub use Rattle.base_buffer.specs.PacketLends
pub use Rattle.base_buffer.specs.Packets
pub use Rattle.base_buffer.specs.Ring
pub use Rattle.base_buffer.specs.RingLends
pub use Rattle.base_device.specs.Capabilities
pub use Rattle.base_device.specs.Device
pub use Rattle.base_device.specs.Loopback
pub use Rattle.base_device.specs.declared.capabilities.Checksum
pub use Rattle.base_device.specs.declared.capabilities.ChecksumCapabilities
pub use Rattle.base_device.specs.declared.capabilities.DeviceCapabilities
pub use Rattle.base_device.specs.declared.capabilities.Medium
pub use Rattle.base_device.specs.declared.device.PacketMeta
pub use Rattle.base_device.specs.declared.device.SendRefused
pub use Rattle.base_device.specs.declared.loopback.Loopback as LoopbackDevice
pub use Rattle.base_device.specs.declared.owned.OwnedRxToken
