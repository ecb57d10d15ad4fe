-- Numbers that name operations of ARP.
use Rattle.std.proofs.Common.{◌≡◌, ℕ, refl}
use Rattle.wire_address.proofs.Numbers.{step}
use Rattle.ip_wire.specs.Arp.{operation_number, operation_of}
use Rattle.ip_wire.specs.declared.arp.kinds.ArpOperation.TheVariants as Operation

-- the operation of a number has that number
pub operation_number-operation_of : (n : ℕ) → operation_number (operation_of n) ≡ n
operation_number-operation_of n =
    step operation_number n 1 Operation.Request _ refl (step operation_number n 2 Operation.Reply (Operation.Unknown n) refl refl)
