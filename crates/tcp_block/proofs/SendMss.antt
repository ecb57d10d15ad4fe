-- The largest payload that a remote takes which names none.
use Rattle.std.proofs.Common.{ℕ, ◌≤◌, Option, Some, None, arith}
use Rattle.tcp_state.specs.declared.endpoints.AddressPair.{AddressPair}
use Rattle.tcp_state.specs.declared.endpoints.AddressPair.TheVariants as Pair
use Rattle.tcp_state.specs.declared.endpoints.FourTuple.{FourTuple}
use Rattle.tcp_block.specs.Opening.{default_mss, mss_over}

some_over : (addresses : AddressPair) → 1 ≤ mss_over addresses
some_over (Pair.Ipv4 local remote) = omega arith
some_over (Pair.Ipv6 local remote) = omega arith

pub some_default : (pair : Option FourTuple) → 1 ≤ default_mss pair
some_default None = omega arith
some_default (Some pair) = some_over pair.addresses
