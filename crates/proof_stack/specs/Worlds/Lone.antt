-- A socket that connects where nobody listens, and is refused.
use Rattle.std.specs.Prelude.{List, [], ◌∷◌, Some}
use Rattle.tcp_block.specs.Value.{TcpValue}
use Rattle.lan.specs.declared.at_link.history.event.Side.TheVariants.{A, B}
use Rattle.lan.specs.Worlds.AtLink.Call as Call
use Rattle.lan.specs.Worlds.AtLink.Call.{SocketCall}
use Rattle.lan.specs.Worlds.AtLink.Parties.{Net}
use Rattle.lan.specs.Worlds.AtLink.Parties.Socket.{Tcp}
use Rattle.lan.specs.Worlds.AtLink.Moves.{Step}
use Rattle.proof_stack.specs.Worlds.Hosts.{endpoint, host}
use Rattle.proof_stack.specs.Worlds.Streams.{initial, invokes, called, asks, asked, TcpSegment, sent_by, reset, number_after, comes, reached, resets}

abbrev pub hosts : Net
hosts = record { a = host (Some (Tcp initial) ∷ []); b = host (Some (Tcp initial) ∷ []); history = [] }

abbrev pub call : SocketCall
call = Call.Connect (endpoint B 81) 49_500

abbrev pub caller : TcpValue
caller = called A initial call

-- it acknowledges the SYN (RFC 9293, 3.10.7.1)
abbrev pub refusal : TcpSegment
refusal = reset 81 49_500 0 (Some (number_after (sent_by A caller)))

abbrev pub waits : TcpValue
waits = asked A caller

abbrev pub steps : List Step
steps =
    invokes A 0 initial call
    ∷ asks A 0 caller
    ∷ resets B refusal
    ∷ comes A 0 waits refusal
    ∷ invokes A 0 (reached A waits refusal) (Call.Recv 8)
    ∷ []
