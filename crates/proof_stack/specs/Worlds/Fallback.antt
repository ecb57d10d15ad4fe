-- A listener takes a SYN, falls back at a reset, and takes the old SYN again.
use Rattle.std.specs.Prelude.{List, [], ◌∷◌, ◌++◌, Some, None}
use Rattle.tcp_block.specs.Value.{TcpValue}
use Rattle.lan.specs.declared.at_link.history.event.Side.TheVariants.{A, B}
use Rattle.lan.specs.Worlds.AtLink.Call as Call
use Rattle.lan.specs.Worlds.AtLink.Call.{SocketCall}
use Rattle.lan.specs.Worlds.AtLink.Parties.{Net}
use Rattle.lan.specs.Worlds.AtLink.Parties.Socket.{Tcp}
use Rattle.lan.specs.Worlds.AtLink.Moves.{Step}
use Rattle.proof_stack.specs.Worlds.Hosts.{endpoint, host}
use Rattle.proof_stack.specs.Worlds.Streams.{initial, invokes, called, asks, TcpSegment, sent_by, reset, number_after, comes, reached, resets}

abbrev pub hosts : Net
hosts = record { a = host (Some (Tcp initial) ∷ []); b = host (Some (Tcp initial) ∷ []); history = [] }

abbrev pub call : SocketCall
call = Call.Connect (endpoint B 80) 49_500

abbrev pub caller : TcpValue
caller = called A initial call

abbrev pub listener : TcpValue
listener = called B initial (Call.Listen 80)

abbrev pub syn : TcpSegment
syn = sent_by A caller

abbrev pub half_open : TcpValue
half_open = reached B listener syn

-- it is at RCV.NXT (RFC 9293, 3.10.7.4)
abbrev pub upset : TcpSegment
upset = reset 49_500 80 (number_after syn).0 None

-- the SYN comes to the listener
abbrev pub calls : List Step
calls = invokes B 0 initial (Call.Listen 80) ∷ invokes A 0 initial call ∷ asks A 0 caller ∷ comes B 0 listener syn ∷ []

abbrev pub falls : List Step
falls = resets A upset ∷ comes B 0 half_open upset ∷ []

abbrev pub fallen : TcpValue
fallen = reached B half_open upset

abbrev pub again : List Step
again = comes B 0 fallen syn ∷ []

abbrev pub fell : List Step
fell = calls ++ falls

abbrev pub steps : List Step
steps = fell ++ again
