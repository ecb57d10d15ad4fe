use Rattle.std.proofs.Common.{◌∙◌}
use Rattle.sockets.specs.AnySocket.{as_udp}
use Rattle.sockets.specs.declared.socket.Socket.TheVariants as Kind
use Rattle.c_calls.specs.Datagrams.{act_answer, act_after}
use Rattle.c_calls.proofs.Placed.{found_of, answered, left, missed_of, refused, unchanged}
use Rattle.c_calls.proofs.datagrams.perform.Goals as goal

pub returns-in-Ok : goal.returns-in-Ok
returns-in-Ok c =
    let set = c.args.sockets.now in let n = c.args.number in let socket = c.in-Ok.socket in
    let found = found_of as_udp set n c.lent.result socket c.in-Ok.is c.lent.ensures.value in
    let kept = left as_udp (λ x. Kind.Udp x) (act_after c.args.act) set (c.lent.follows.lender c.act_on.new.socket) n
    c.lent.result socket c.act_on.new.socket found c.in-Ok.is c.act_on.ensures.after (c.lent.follows.holds c.act_on.new.socket) in record {
      answer = c.act_on.ensures.answer ∙ answered as_udp set n socket.now (act_answer c.args.act) found;
      after = kept;
    }

pub returns-in-Err : goal.returns-in-Err
returns-in-Err c =
    let set = c.args.sockets.now in let n = c.args.number in let code = c.in-Err.code in
    let found = missed_of as_udp set n c.lent.result code c.in-Err.is c.lent.ensures.value in
    let kept = unchanged as_udp (λ x. Kind.Udp x) (act_after c.args.act) set c.lent.follows.lender-at-none n
    c.lent.result code found c.in-Err.is c.lent.follows.holds-at-none in record {
      answer = refused as_udp set n code (act_answer c.args.act) found;
      after = kept;
    }
