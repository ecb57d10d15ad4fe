-- The history in which that alone comes which is taken, and just before.
use Rattle.std.specs.Prelude.{ℕ, List, [], ◌∷◌}
use Rattle.tcp_theory.specs.Move.{Move}
use Rattle.tcp_theory.specs.Move.Move.{TakesSyn, TakesCrossedSyn, TakesSynAck, TakesAck, TakesBytes, TakesFin}
use Rattle.tcp_peer.specs.Run.{Event}
use Rattle.tcp_peer.specs.Run.Event.{Comes, Does}
use Rattle.tcp_net.specs.Net.{NetEvent}

abbrev pub event_at : ℕ → ℕ → Event → NetEvent
event_at l r event = record { local = l; remote = r; event = event }

abbrev pub strict_move : ℕ → ℕ → Move → List NetEvent → List NetEvent
strict_move l r (TakesSyn x iss) rest = event_at l r (Comes x) ∷ event_at l r (Does (TakesSyn x iss)) ∷ rest
strict_move l r (TakesCrossedSyn x) rest = event_at l r (Comes x) ∷ event_at l r (Does (TakesCrossedSyn x)) ∷ rest
strict_move l r (TakesSynAck x) rest = event_at l r (Comes x) ∷ event_at l r (Does (TakesSynAck x)) ∷ rest
strict_move l r (TakesAck x at) rest = event_at l r (Comes x) ∷ event_at l r (Does (TakesAck x at)) ∷ rest
strict_move l r (TakesBytes x at) rest = event_at l r (Comes x) ∷ event_at l r (Does (TakesBytes x at)) ∷ rest
strict_move l r (TakesFin x) rest = event_at l r (Comes x) ∷ event_at l r (Does (TakesFin x)) ∷ rest
strict_move l r move rest = event_at l r (Does move) ∷ rest

abbrev pub strict_event : ℕ → ℕ → Event → List NetEvent → List NetEvent
strict_event l r (Comes x) rest = rest
strict_event l r (Does move) rest = strict_move l r move rest

abbrev pub strict : List NetEvent → List NetEvent
strict [] = []
strict (h ∷ rest) = strict_event h.local h.remote h.event (strict rest)
