-- Each run of tcp_theory's two sides as a joint history: what a move takes comes just before.
use Rattle.std.specs.Prelude.{List, [], ◌∷◌}
use Rattle.tcp_theory.specs.Move.{Move}
use Rattle.tcp_theory.specs.Move.Move.{TakesSyn, TakesCrossedSyn, TakesSynAck, TakesAck, TakesBytes, TakesFin}
use Rattle.tcp_theory.specs.Run as two
use Rattle.tcp_peer.specs.Run.Event.{Comes, Does}
use Rattle.tcp_net.specs.Joint.{Step}
use Rattle.tcp_net.specs.Joint.Step.{A, B}

abbrev pub taking_a : Move → List Step → List Step
taking_a (TakesSyn x iss) rest = A (Comes x) ∷ A (Does (TakesSyn x iss)) ∷ rest
taking_a (TakesCrossedSyn x) rest = A (Comes x) ∷ A (Does (TakesCrossedSyn x)) ∷ rest
taking_a (TakesSynAck x) rest = A (Comes x) ∷ A (Does (TakesSynAck x)) ∷ rest
taking_a (TakesAck x at) rest = A (Comes x) ∷ A (Does (TakesAck x at)) ∷ rest
taking_a (TakesBytes x at) rest = A (Comes x) ∷ A (Does (TakesBytes x at)) ∷ rest
taking_a (TakesFin x) rest = A (Comes x) ∷ A (Does (TakesFin x)) ∷ rest
taking_a move rest = A (Does move) ∷ rest

abbrev pub taking_b : Move → List Step → List Step
taking_b (TakesSyn x iss) rest = B (Comes x) ∷ B (Does (TakesSyn x iss)) ∷ rest
taking_b (TakesCrossedSyn x) rest = B (Comes x) ∷ B (Does (TakesCrossedSyn x)) ∷ rest
taking_b (TakesSynAck x) rest = B (Comes x) ∷ B (Does (TakesSynAck x)) ∷ rest
taking_b (TakesAck x at) rest = B (Comes x) ∷ B (Does (TakesAck x at)) ∷ rest
taking_b (TakesBytes x at) rest = B (Comes x) ∷ B (Does (TakesBytes x at)) ∷ rest
taking_b (TakesFin x) rest = B (Comes x) ∷ B (Does (TakesFin x)) ∷ rest
taking_b move rest = B (Does move) ∷ rest

abbrev pub history_of : List two.Event → List Step
history_of [] = []
history_of (two.Event.A move ∷ events) = taking_a move (history_of events)
history_of (two.Event.B move ∷ events) = taking_b move (history_of events)
