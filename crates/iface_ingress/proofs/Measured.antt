-- The payload in a frame is as long as its header says.
use Rattle.std.proofs.Common.{ℕ, ◌+◌, List}
use Rattle.std.specs.Prelude.{Some, None}
use Rattle.std.proofs.lemmas.List.{get_or-drop}
use Rattle.net_base.specs.Capabilities.{verifies}
use Rattle.net_base.specs.ChecksumCapabilities.{ChecksumCapabilities}
use Rattle.ip_wire.specs.Ethernet as Ethernet
use Rattle.ip_wire.specs.Fields.{IsBytes}
use Rattle.ip_wire.specs.HardwareAddress.{HardwareAddress}
use Rattle.ip_wire.specs.HardwareAddress.TheVariants as Hardware
use Rattle.iface_ingress.specs.Incoming.{IncomingValue, Arp, Ip4, Ip6, IsIncoming, IsMeasured}
use Rattle.iface_ingress.proofs.Readers.{measured-v4, measured-v6}

IsBytes-following : (frame : List ℕ) → IsBytes frame → IsBytes (Ethernet.payload_of frame)
IsBytes-following frame small i = rw (get_or-drop 14 frame i 0) (small (14 + i))

pub measured : (hardware : HardwareAddress) (caps : ChecksumCapabilities) (frame : List ℕ) (v : IncomingValue) → IsBytes frame →
    IsIncoming hardware caps frame v → IsMeasured v
measured hardware caps frame (Arp link packet) small is = tt
measured (Hardware.Ethernet local) caps frame (Ip4 (Some link) h p x) small is =
    measured-v4 (verifies caps.ipv4) (Ethernet.payload_of frame) x h (IsBytes-following frame small) is.1.format is.1.payload_is
measured (Hardware.Ethernet local) caps frame (Ip4 None h p x) small is = absurd is
measured (Hardware.Ethernet local) caps frame (Ip6 (Some link) h x) small is =
    measured-v6 (Ethernet.payload_of frame) x h (IsBytes-following frame small) is.1.format is.1.payload_is
measured (Hardware.Ethernet local) caps frame (Ip6 None h x) small is = absurd is
measured Hardware.Ip caps frame (Ip4 (Some link) h p x) small is = absurd is
measured Hardware.Ip caps frame (Ip4 None h p x) small is = measured-v4 (verifies caps.ipv4) frame x h small is.format is.payload_is
measured Hardware.Ip caps frame (Ip6 (Some link) h x) small is = absurd is
measured Hardware.Ip caps frame (Ip6 None h x) small is = measured-v6 frame x h small is.format is.payload_is
