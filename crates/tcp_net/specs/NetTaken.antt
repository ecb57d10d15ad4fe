-- Many connections where only what is taken has to be the peer's: anything may come, also of an older connection of the same ends.
use Rattle.std.specs.Prelude.{List, [], ◌∷◌}
use Rattle.std.specs.List.{AllByRecursion}
use Rattle.tcp_theory.specs.Move.{May}
use Rattle.tcp_theory.specs.Alone.{unopened}
use Rattle.tcp_theory.specs.Side.{Side}
use Rattle.tcp_peer.specs.Run.{Scene, Event}
use Rattle.tcp_peer.specs.Run.Event.{Comes, Does}
use Rattle.tcp_net.specs.Joint.{WasSent}
use Rattle.tcp_net.specs.Net.{Net, NetEvent, goes_on}
use Rattle.tcp_peer.specs.Taken.{taken}

abbrev pub MayTakeHere : Scene → Side → Event → Type 0
MayTakeHere w t (Comes x) = Unit {0}
MayTakeHere w t (Does move) = May w.side (unopened 0 w.came) move × AllByRecursion (WasSent t) (taken move)

abbrev pub IsTakenNet : Net → List NetEvent → Type 0
IsTakenNet net [] = Unit {0}
IsTakenNet net (h ∷ rest) = MayTakeHere (net h.local h.remote) (net h.remote h.local).side h.event × IsTakenNet (goes_on net h) rest
