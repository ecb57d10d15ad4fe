-- What the refusals of a host say.
use Rattle.std.specs.Prelude.{ℕ, List, codes}
use Rattle.iface_tables.specs.declared.config.NewError.{NewError}
use Rattle.iface_tables.specs.declared.config.NewError.TheVariants as New
use Rattle.iface_tables.specs.declared.config.HardwareAddrError.{HardwareAddrError}
use Rattle.iface_tables.specs.declared.config.HardwareAddrError.TheVariants as Hardware

abbrev pub new_error_text : NewError → List ℕ
new_error_text New.Medium = codes "the device's medium has other hardware addresses"
new_error_text New.NotUnicast = codes "the hardware address isn't that of one station"
new_error_text New.Mtu = codes "the IP MTU is out of 576 to 65535 bytes"
new_error_text New.Moment = codes "the moment is out of range"
new_error_text New.Memory = codes "out of memory"

abbrev pub hardware_addr_error_text : HardwareAddrError → List ℕ
hardware_addr_error_text Hardware.Medium = codes "the medium has no such hardware addresses"
hardware_addr_error_text Hardware.NotUnicast = codes "the hardware address isn't that of one station"
