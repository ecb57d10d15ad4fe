-- Why a call is refused: the numbers that C knows, and what the errors of the calls, of a link and of an interface become.
use Rattle.std.specs.Prelude.{ℕ, Result, Ok, Err}
use Rattle.socket_datagram.specs.declared.error.BindError.{BindError}
use Rattle.socket_datagram.specs.declared.error.BindError.TheVariants as Bind
use Rattle.socket_datagram.specs.declared.error.SendError.{SendError}
use Rattle.socket_datagram.specs.declared.error.SendError.TheVariants as Send
use Rattle.socket_datagram.specs.declared.raw.SendError as Raws
use Rattle.socket_datagram.specs.declared.raw.SendError.TheVariants as RawSend
use Rattle.socket_datagram.specs.declared.error.RecvError.{RecvError}
use Rattle.socket_datagram.specs.declared.error.RecvError.TheVariants as Recv
use Rattle.tcp_state.specs.declared.error.ConnectError.{ConnectError}
use Rattle.tcp_state.specs.declared.error.ConnectError.TheVariants as Connect
use Rattle.tcp_state.specs.declared.error.ListenError.{ListenError}
use Rattle.tcp_state.specs.declared.error.ListenError.TheVariants as Listen
use Rattle.tcp_state.specs.declared.error.RecvError as StreamErrors
use Rattle.tcp_state.specs.declared.error.RecvError.TheVariants as StreamRecv
use Rattle.tcp_state.specs.declared.error.SendError as StreamSendErrors
use Rattle.tcp_state.specs.declared.error.SendError.TheVariants as StreamSend
use Rattle.c_calls.specs.declared.code.Code.{Code}
use Rattle.c_calls.specs.declared.code.Code.TheVariants as Is
use Rattle.c_calls.specs.declared.link.error.FetchError.{FetchError}
use Rattle.c_calls.specs.declared.link.error.FetchError.TheVariants as Fetch
use Rattle.c_calls.specs.declared.link.error.PushError.{PushError}
use Rattle.c_calls.specs.declared.link.error.PushError.TheVariants as Push
use Rattle.interface.specs.NewError.{NewError}
use Rattle.interface.specs.NewError.TheVariants as New

-- the number of a code; 0 stands for done
abbrev pub number_of : Code → ℕ
number_of Is.NoHost = 1
number_of Is.HasHost = 2
number_of Is.Memory = 3
number_of Is.BadArgument = 4
number_of Is.NoSocket = 5
number_of Is.WrongKind = 6
number_of Is.InvalidState = 7
number_of Is.Unaddressable = 8
number_of Is.Full = 9
number_of Is.Empty = 10
number_of Is.Truncated = 11
number_of Is.Finished = 12
number_of Is.TooShort = 13
number_of Is.TooLong = 14
number_of Is.TableFull = 15
number_of Is.NotFound = 16
number_of Is.Medium = 17
number_of Is.NotUnicast = 18
number_of Is.Mtu = 19
number_of Is.Moment = 20
number_of Is.NoListener = 21
number_of Is.InBacklog = 22
number_of Is.NoClient = 23
number_of Is.QueryPending = 24
number_of Is.NameTooLong = 25
number_of Is.InvalidName = 26
number_of Is.QueryFailed = 27
number_of Is.QueryUnanswered = 28
number_of Is.AddressInUse = 29
number_of Is.NoRoute = 30

-- an answer whose error is named by its code
abbrev pub coded : {A E : Type 0} → (E → Code) → Result A E → Result A Code
coded name (Ok answer) = Ok answer
coded name (Err error) = Err (name error)

abbrev pub of_bind : BindError → Code
of_bind Bind.InvalidState = Is.InvalidState
of_bind Bind.Unaddressable = Is.Unaddressable

abbrev pub of_send : SendError → Code
of_send Send.Unaddressable = Is.Unaddressable
of_send Send.BufferFull = Is.Full

abbrev pub of_raw_send : Raws.SendError → Code
of_raw_send RawSend.BufferFull = Is.Full

abbrev pub of_recv : RecvError → Code
of_recv Recv.Exhausted = Is.Empty
of_recv Recv.Truncated = Is.Truncated

abbrev pub of_listen : ListenError → Code
of_listen Listen.InvalidState = Is.InvalidState
of_listen Listen.Unaddressable = Is.Unaddressable

abbrev pub of_connect : ConnectError → Code
of_connect Connect.InvalidState = Is.InvalidState
of_connect Connect.Unaddressable = Is.Unaddressable

abbrev pub of_stream_send : StreamSendErrors.SendError → Code
of_stream_send StreamSend.InvalidState = Is.InvalidState

abbrev pub of_stream_recv : StreamErrors.RecvError → Code
of_stream_recv StreamRecv.InvalidState = Is.InvalidState
of_stream_recv StreamRecv.Finished = Is.Finished

abbrev pub of_new : NewError → Code
of_new New.Medium = Is.Medium
of_new New.NotUnicast = Is.NotUnicast
of_new New.Mtu = Is.Mtu
of_new New.Moment = Is.Moment
of_new New.Memory = Is.Memory

abbrev pub of_push : PushError → Code
of_push Push.TooLong = Is.TooLong
of_push Push.Full = Is.Full
of_push Push.Memory = Is.Memory

abbrev pub of_fetch : FetchError → Code
of_fetch Fetch.Empty = Is.Empty
of_fetch Fetch.TooShort = Is.TooShort
