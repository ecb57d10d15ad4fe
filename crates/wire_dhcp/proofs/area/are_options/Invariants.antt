use Rattle.std.proofs.Common.{◌≡◌, length}
use Rattle.wire_dhcp.specs.Options.{are_options}
use Rattle.wire_dhcp.proofs.area.are_options.Given as goal

abbrev pub invariant-options : goal.invariant-options
invariant-options l = are_options 0 l.rest ≡ are_options 0 l.fn.bytes

abbrev pub decreases-options : goal.decreases-options
decreases-options l = length l.rest
