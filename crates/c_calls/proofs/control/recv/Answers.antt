use Rattle.std.proofs.Common.{length, ◌∙◌}
use Rattle.sockets.specs.AnySocket.{as_icmp}
use Rattle.sockets.specs.declared.socket.Socket.TheVariants as Kind
use Rattle.socket_datagram.specs.SocketValue.{recv_answer, recv_after, recv_written}
use Rattle.c_calls.specs.Codes.{coded, of_recv}
use Rattle.c_calls.proofs.Placed.{found_of, answered, left, written, missed_of, refused, unchanged, unwritten}
use Rattle.c_calls.proofs.control.recv.Goals as goal

pub returns-in-Ok : goal.returns-in-Ok
returns-in-Ok c =
    let set = c.args.sockets.now in let n = c.args.number in let socket = c.in-Ok.socket in
    let found = found_of as_icmp set n c.lent.result socket c.in-Ok.is c.lent.ensures.value in
    let kept = left as_icmp (λ x. Kind.Icmp x) (λ v. recv_after v) set (c.lent.follows.lender c.read.new.socket) n
    c.lent.result socket c.read.new.socket found c.in-Ok.is c.read.ensures.after (c.lent.follows.holds c.read.new.socket) in record {
      answer = c.read.ensures.answer ∙ answered as_icmp set n socket.now (λ v. coded of_recv (recv_answer v (length c.args.out.now))) found;
      after = kept;
      read = c.read.ensures.read ∙ written as_icmp set n socket.now (λ v out. recv_written v out) c.args.out.now found;
    }

pub returns-in-Err : goal.returns-in-Err
returns-in-Err c =
    let set = c.args.sockets.now in let n = c.args.number in let code = c.in-Err.code in
    let found = missed_of as_icmp set n c.lent.result code c.in-Err.is c.lent.ensures.value in
    let kept = unchanged as_icmp (λ x. Kind.Icmp x) (λ v. recv_after v) set c.lent.follows.lender-at-none n
    c.lent.result code found c.in-Err.is c.lent.follows.holds-at-none in record {
      answer = refused as_icmp set n code (λ v. coded of_recv (recv_answer v (length c.args.out.now))) found;
      after = kept;
      read = unwritten as_icmp set n code (λ v out. recv_written v out) c.args.out.now found;
    }
