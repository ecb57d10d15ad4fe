-- Hosts made, and CIDR blocks.
use Rattle.std.specs.Prelude.{◌≡◌, ℕ, ℤ, ◌<◌, ◌≤◌, ◌⊎◌, Option, None, Some, Result, Ok, Err, Box}
use Rattle.ip_wire.specs.Cidr.{cidr_address, cidr_prefix_len, width_of}
use Rattle.ip_wire.specs.IpAddress.{IpAddress}
use Rattle.ip_wire.specs.IpCidr.{IpCidr}
use Rattle.std.specs.declared.alloc.Global.{Global}
use Rattle.c_calls.specs.Calls.{NewHost}
use Rattle.c_calls.specs.Host.{StackValue}
use Rattle.c_calls.specs.declared.host.Settings as Host
use Rattle.c_calls.specs.Codes.{number_of}
use Rattle.c_calls.specs.declared.code.Code.{Code}
use Rattle.c_calls.specs.declared.code.Code.TheVariants as Is
use Rattle.zemplovir_c.specs.Answers.{number_by}

abbrev pub held_by : Result StackValue Code → Option StackValue
held_by (Ok host) = Some host
held_by (Err code) = None

abbrev pub unboxed : Result (Box StackValue Global) Code → Result StackValue Code
unboxed (Ok host) = Ok host.value
unboxed (Err code) = Err code

-- a host is made, or refused, or there is no memory for its slot on the heap
abbrev pub NewBoxed : Host.Settings → ℤ → Result StackValue Code → Type 0
NewBoxed settings now result =
    (made : Result StackValue Code) × NewHost settings now made × ((result ≡ made) ⊎ (result ≡ Err Is.Memory))

abbrev pub NewHandleBy : Result Host.Settings Code → ℤ → ℕ → Option StackValue → Type 0
NewHandleBy (Err code) now result after = (result ≡ number_of code) × (after ≡ None)
NewHandleBy (Ok settings) now result after =
    (made : Result StackValue Code) × NewBoxed settings now made × (result ≡ number_by made) × (after ≡ held_by made)

-- after a handle that has none
abbrev pub NewHandle : Option StackValue → Result Host.Settings Code → ℤ → ℕ → Option StackValue → Type 0
NewHandle (Some host) settings now result after = (result ≡ number_of Is.HasHost) × (after ≡ Some host)
NewHandle None settings now result after = NewHandleBy settings now result after

-- the block of an address with a prefix that isn't longer
abbrev pub IsCidrOf : IpAddress → ℕ → Result IpCidr Code → Type 0
IsCidrOf address prefix (Ok cidr) = (cidr_address cidr ≡ address) × (cidr_prefix_len cidr ≡ prefix)
IsCidrOf address prefix (Err code) = (width_of address < prefix) × (code ≡ Is.BadArgument)

abbrev pub IsCidrBy : Result IpAddress Code → ℕ → Result IpCidr Code → Type 0
IsCidrBy (Err refused) prefix cidr = cidr ≡ Err refused
IsCidrBy (Ok address) prefix cidr = IsCidrOf address prefix cidr
