-- What a socket tells of the end of its connection.
use Rattle.std.specs.Prelude.{◌≡◌, IfSome, true, Option, Result, Ok, Err}
use Rattle.sockets.specs.TcpValue.{TcpValue}
use Rattle.tcp_state.specs.States.{is_closed}
use Rattle.tcp_state.specs.declared.end_reason.EndReason.{EndReason}
use Rattle.c_calls.specs.declared.code.Code.{Code}

-- a reason is told of a closed socket alone; that of no socket is a refusal
abbrev pub TellsEnd : Result TcpValue Code → Result (Option EndReason) Code → Type 0
TellsEnd (Ok v) (Ok reason) = IfSome reason (λ _. is_closed v.tcb.state ≡ true)
TellsEnd (Ok v) (Err code) = ⊥
TellsEnd (Err refusal) answer = answer ≡ Err refusal
