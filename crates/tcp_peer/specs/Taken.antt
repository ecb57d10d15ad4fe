-- A peer that has to be honest only where the side takes something: anything may come, also of an old connection, and be thrown away.
use Rattle.std.specs.Prelude.{List, [], ◌∷◌}
use Rattle.std.specs.List.{AllByRecursion}
use Rattle.tcp_theory.specs.Segment.{Segment}
use Rattle.tcp_theory.specs.Move.{Move, May}
use Rattle.tcp_theory.specs.Move.Move.{TakesSyn, TakesCrossedSyn, TakesSynAck, TakesAck, TakesBytes, TakesFin}
use Rattle.tcp_theory.specs.Alone.{unopened}
use Rattle.tcp_peer.specs.Peer.{End, IsHonest, as_end}
use Rattle.tcp_peer.specs.Run.{Scene, Event, happens}
use Rattle.tcp_peer.specs.Run.Event.{Comes, Does}

-- what a move takes
abbrev pub taken : Move → List Segment
taken (TakesSyn x iss) = x ∷ []
taken (TakesCrossedSyn x) = x ∷ []
taken (TakesSynAck x) = x ∷ []
taken (TakesAck x at) = x ∷ []
taken (TakesBytes x at) = x ∷ []
taken (TakesFin x) = x ∷ []
taken other = []

abbrev pub MayTake : End → Scene → Event → Type 0
MayTake peer w (Comes x) = Unit {0}
MayTake peer w (Does move) = May w.side (unopened 0 w.came) move × AllByRecursion (IsHonest peer (as_end w.side) w.side.sent) (taken move)

-- what is taken is this peer's, which is honest there
abbrev pub IsTakenRun : End → Scene → List Event → Type 0
IsTakenRun peer w [] = Unit {0}
IsTakenRun peer w (event ∷ events) = MayTake peer w event × IsTakenRun peer (happens w event) events
