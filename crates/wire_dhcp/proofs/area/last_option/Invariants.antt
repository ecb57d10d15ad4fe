use Rattle.std.proofs.Common.{◌≡◌, length}
use Rattle.wire_dhcp.specs.Options.{last_of, options_in, is_area, seen}
use Rattle.wire_dhcp.proofs.area.last_option.Given as goal

abbrev pub invariant-options : goal.invariant-options
invariant-options l = record {
  found : last_of l.kind (seen l.found) (options_in 0 l.rest) ≡ last_of l.kind (seen l.fn.elsewhere) (options_in 0 l.fn.area);
  whole : is_area 0 l.rest ≡ is_area 0 l.fn.area;
}

abbrev pub decreases-options : goal.decreases-options
decreases-options l = length l.rest
