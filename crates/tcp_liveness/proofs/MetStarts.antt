-- Where what the laws ask for begins: default sockets with room for 64 bytes each way, on the two hosts of the pair that runs.
use Rattle.std.proofs.Common.{◌<◌, refl}
use Rattle.std.proofs.lemmas.Bool.{ltb-true}
use Rattle.std.specs.Prelude.{[], replicate}
use Rattle.net_base.specs.Ring.{ring}
use Rattle.tcp_refinement.specs.Pair.Values.{host_of}
use Rattle.tcp_refinement.specs.declared.pair.event.Side.TheVariants.{A, B}
use Rattle.tcp_liveness.specs.Reached.{Start}

pub held : 60 < 1500
held = ltb-true _ _ refl

abbrev pub start_a : Start
start_a = record { host = host_of A; holds = held; random = 1; room = 64; ring = ring [] (replicate 64 0) 0 }

abbrev pub start_b : Start
start_b = record { host = host_of B; holds = held; random = 2; room = 64; ring = ring [] (replicate 64 0) 0 }
