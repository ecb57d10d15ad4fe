-- What a device says of itself.
use Rattle.std.specs.Prelude.{ℕ, ◌-◌, ◌*◌, ◌/◌, Bool, true, false, List, codes}
use Rattle.base_device.specs.declared.capabilities.Checksum.{Checksum}
use Rattle.base_device.specs.declared.capabilities.Checksum.TheVariants as checksum
use Rattle.base_device.specs.declared.capabilities.Medium.{Medium}
use Rattle.base_device.specs.declared.capabilities.Medium.TheVariants.{Ethernet, Ip}
use Rattle.base_device.specs.declared.capabilities.ChecksumCapabilities.{ChecksumCapabilities}
use Rattle.base_device.specs.declared.capabilities.DeviceCapabilities.{DeviceCapabilities}

-- whether the stack verifies the checksum of what it receives
abbrev pub verifies : Checksum → Bool
verifies checksum.Both = true
verifies checksum.Rx = true
verifies checksum.Tx = false
verifies checksum.None = false

-- whether the stack computes the checksum of what it sends
abbrev pub computes : Checksum → Bool
computes checksum.Both = true
computes checksum.Rx = false
computes checksum.Tx = true
computes checksum.None = false

-- every protocol's checksum is handled so
abbrev pub all_checksums : Checksum → ChecksumCapabilities
all_checksums c = record { ipv4 = c; udp = c; tcp = c; icmpv4 = c; icmpv6 = c }

-- what is printed of a medium
abbrev pub medium_text : Medium → List ℕ
medium_text Ethernet = codes "Ethernet"
medium_text Ip = codes "IP"

-- the length of the header that a frame of the medium puts before its packet
abbrev pub frame_header : Medium → ℕ
frame_header Ethernet = 14
frame_header Ip = 0

-- the longest IP packet that a frame of the device holds, 0 where it can't hold its own header
abbrev pub ip_mtu : DeviceCapabilities → ℕ
ip_mtu c = c.max_transmission_unit - frame_header c.medium

-- the most payload that a piece of an IPv4 packet holds after such a header: offsets of pieces
-- count in units of 8 bytes (RFC 791, section 3.2)
abbrev pub fragment_size : DeviceCapabilities → ℕ → ℕ
fragment_size c header = (ip_mtu c - header) / 8 * 8

-- what a device says of itself by default
abbrev pub default_capabilities : DeviceCapabilities
default_capabilities =
    record { medium = Ethernet; max_transmission_unit = 0; checksum = all_checksums checksum.Both }
