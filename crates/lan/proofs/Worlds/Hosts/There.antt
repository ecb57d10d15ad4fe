-- The frames that a history names were sent.
use Rattle.std.specs.Prelude.{◌<◌, List, [], ◌∷◌, length}
use Rattle.std.specs.List.{AllByRecursion}
use Rattle.lan.specs.Worlds.AtLink.History.{Entry}
use Rattle.lan.specs.Worlds.AtLink.Kinds.{Origin, Delivered, Damaged, Noisy, kind_of}
use Rattle.lan.specs.Worlds.AtLink.Side.{Side}
use Rattle.lan.specs.Worlds.AtLink.Origins.{origins_of}
use Rattle.lan.specs.Worlds.AtLink.Node.{Nodes, node}

-- the frame that an origin names is among those that its host sent
abbrev pub IsThere : Nodes → Origin → Type 0
IsThere hosts (Delivered from k padding) = k < length (node hosts from).link.sent
IsThere hosts (Damaged from k slot word padding) = k < length (node hosts from).link.sent
IsThere hosts (Noisy to bytes) = Unit {0}

-- and so are all that were handed to a host
abbrev pub AreThere : Nodes → Side → List Entry → Type 0
AreThere hosts side [] = Unit {0}
AreThere hosts side (e ∷ past) = AllByRecursion (IsThere hosts) (origins_of side (kind_of e.event)) × AreThere hosts side past
