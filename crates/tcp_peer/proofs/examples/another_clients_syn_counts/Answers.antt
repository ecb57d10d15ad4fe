use Rattle.std.proofs.Common.{[], refl, arith}
use Rattle.tcp_theory.specs.Move.{listening}
use Rattle.tcp_theory.specs.Examples.{syn}
use Rattle.tcp_peer.specs.Peer.{as_end}
use Rattle.tcp_peer.proofs.Liars.{bare_syn}
use Rattle.tcp_peer.specs.Examples.{other_client}
use Rattle.tcp_peer.proofs.examples.another_clients_syn_counts.Goals as goal

pub returns : goal.returns
returns c = record { counts = λ is. let number = bare_syn other_client (as_end (listening 8)) [] (syn 100) refl refl is.1.1.0.1.0 in absurd (omega arith) }
