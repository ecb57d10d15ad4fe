-- What contracts see of a hardware address of any kind: its bytes.
use Rattle.std.specs.Prelude.{ℕ, List, take}
use Rattle.wire_address.specs.declared.hardware.RawHardwareAddress.{RawHardwareAddress}

-- the bytes of the address
abbrev pub raw_bytes : RawHardwareAddress → List ℕ
raw_bytes a = take a.len a.bytes
