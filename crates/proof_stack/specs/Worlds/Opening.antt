-- B listens, and A connects: three segments open the connection.
use Rattle.std.specs.Prelude.{List, [], ◌∷◌}
use Rattle.lan.specs.declared.at_link.history.event.Side.TheVariants.{A, B}
use Rattle.lan.specs.Worlds.AtLink.Call.SocketCall.{Listen, Connect}
use Rattle.proof_stack.specs.Worlds.Hosts.{endpoint}
use Rattle.proof_stack.specs.Worlds.Played.{Doing, Play, start, played}
use Rattle.proof_stack.specs.Worlds.Played.Doing.{Calls, Asks, Comes}

-- the SYN, the SYN with its acknowledgement, the acknowledgement
abbrev pub opening : List Doing
opening =
    Calls B (Listen 80)
    ∷ Calls A (Connect (endpoint B 80) 49_500)
    ∷ Asks A
    ∷ Comes B 0
    ∷ Asks B
    ∷ Comes A 0
    ∷ Asks A
    ∷ Comes B 1
    ∷ []

abbrev pub opened : Play
opened = played start opening
