use Rattle.std.proofs.Common.{◌↔◌, ℕ, List, length}
use Rattle.std.specs.Prelude.{Option, None}
use Rattle.wire_icmpv6.specs.NdiscOption.{HasLink, link_bytes}
use Rattle.wire_icmpv6.proofs.ndisc_option.parse_link_layer_addr.Given as goal

abbrev pub invariant-loop-rest : goal.invariant-loop-rest
invariant-loop-rest l = (link : Option (List ℕ)) → HasLink l.option_type (link_bytes l.address) l.rest link ↔ HasLink l.option_type None l.fn.options link

abbrev pub decreases-loop-rest : goal.decreases-loop-rest
decreases-loop-rest l = length l.rest
