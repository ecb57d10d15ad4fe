use Rattle.sockets.specs.AnySocket.{as_tcp}
use Rattle.sockets.specs.declared.socket.Socket.TheVariants as Kind
use Rattle.c_calls.proofs.Numbers.{same_tags}
use Rattle.c_calls.proofs.laws.calls_leave_numbers.Goals as goal

pub returns : goal.returns
returns c = record {
  streams = λ after s number. same_tags as_tcp (λ x. Kind.Tcp x) after s number;
  polls = λ now budget s s' changed polled. polled.1.3;
}
