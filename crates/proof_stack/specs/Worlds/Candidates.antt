-- A host listens at two ports, and the other one connects to the second of them.
use Rattle.std.specs.Prelude.{List, [], ◌∷◌, Some}
use Rattle.tcp_block.specs.Value.{TcpValue}
use Rattle.lan.specs.declared.at_link.history.event.Side.TheVariants.{A, B}
use Rattle.lan.specs.Worlds.AtLink.Call as Call
use Rattle.lan.specs.Worlds.AtLink.Call.{SocketCall}
use Rattle.lan.specs.Worlds.AtLink.Parties.{Net}
use Rattle.lan.specs.Worlds.AtLink.Parties.Socket.{Tcp}
use Rattle.lan.specs.Worlds.AtLink.Moves.{Step}
use Rattle.proof_stack.specs.Worlds.Hosts.{endpoint, host}
use Rattle.proof_stack.specs.Worlds.Streams.{initial, invokes, called, asks, TcpSegment, sent_by, comes}

abbrev pub hosts : Net
hosts = record { a = host (Some (Tcp initial) ∷ []); b = host (Some (Tcp initial) ∷ Some (Tcp initial) ∷ []); history = [] }

abbrev pub call : SocketCall
call = Call.Connect (endpoint B 81) 49_500

abbrev pub caller : TcpValue
caller = called A initial call

abbrev pub syn : TcpSegment
syn = sent_by A caller

abbrev pub listener : TcpValue
listener = called B initial (Call.Listen 81)

abbrev pub steps : List Step
steps =
    invokes B 0 initial (Call.Listen 80)
    ∷ invokes B 1 initial (Call.Listen 81)
    ∷ invokes A 0 initial call
    ∷ asks A 0 caller
    ∷ comes B 1 listener syn
    ∷ []
