-- A whole connection: after its opening A writes abc, which comes twice and is read once; then A closes, and B after it.
use Rattle.std.specs.Prelude.{List, [], ◌∷◌, ◌++◌}
use Rattle.lan.specs.declared.at_link.history.event.Side.TheVariants.{A, B}
use Rattle.lan.specs.Worlds.AtLink.Call.SocketCall.{Send, Recv, Close}
use Rattle.proof_stack.specs.Worlds.Hosts.{text}
use Rattle.proof_stack.specs.Worlds.Opening.{opening, opened}
use Rattle.proof_stack.specs.Worlds.Played.{Doing, Play, played}
use Rattle.proof_stack.specs.Worlds.Played.Doing.{Calls, Asks, Comes}

-- abc is sent, comes twice, and is read
abbrev pub telling : List Doing
telling = Calls A (Send text) ∷ Asks A ∷ Comes B 2 ∷ Comes B 2 ∷ Calls B (Recv 8) ∷ []

-- A's FIN comes, and B reads again
abbrev pub ending : List Doing
ending = Calls A Close ∷ Asks A ∷ Comes B 3 ∷ Calls B (Recv 8) ∷ []

-- B's FIN with its acknowledgement, and the last acknowledgement
abbrev pub closing : List Doing
closing = Calls B Close ∷ Asks B ∷ Comes A 1 ∷ Asks A ∷ Comes B 4 ∷ []

abbrev pub told : Play
told = played opened telling

abbrev pub half_closed : Play
half_closed = played told ending

abbrev pub closed : Play
closed = played half_closed closing

abbrev pub whole : List Doing
whole = opening ++ (telling ++ (ending ++ closing))
