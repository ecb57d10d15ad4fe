use Rattle.std.proofs.Common.{inl, inr, [], refl, arith}
use Rattle.tcp_theory.specs.Side.{initial}
use Rattle.tcp_theory.specs.Move.{after}
use Rattle.tcp_theory.specs.Move.Move.{Connects}
use Rattle.tcp_theory.specs.Examples.{at, syn}
use Rattle.tcp_peer.specs.Peer.{as_end}
use Rattle.tcp_peer.proofs.Liars.{bare_syn}
use Rattle.tcp_peer.specs.Examples.{server}
use Rattle.tcp_net.proofs.examples.honesty_alone_does_not_grow.Goals as goal

pub returns-clause-now : goal.returns-clause-now
returns-clause-now c = inr (inr (inr (inr (record { syn = refl; number = omega arith; bare = λ _. refl }))), inl refl)

pub returns-clause-later : goal.returns-clause-later
returns-clause-later c =
    λ says. let number = bare_syn (as_end (after (initial 8) (Connects (at 100)))) server [] (syn 0) refl refl says in absurd (omega arith)
