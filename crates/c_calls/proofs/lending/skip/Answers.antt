use Rattle.std.proofs.Common.{◌∙◌}
use Rattle.sockets.specs.AnySocket.{as_tcp}
use Rattle.sockets.specs.declared.socket.Socket.TheVariants as Kind
use Rattle.c_calls.specs.Lending.{skip_answer, skip_after}
use Rattle.c_calls.proofs.Placed.{found_of, answered, left, missed_of, refused, unchanged}
use Rattle.c_calls.proofs.lending.skip.Goals as goal

pub returns-in-Ok : goal.returns-in-Ok
returns-in-Ok c =
    let set = c.args.sockets.now in let n = c.args.number in let socket = c.in-Ok.socket in
    let found = found_of as_tcp set n c.lent.result socket c.in-Ok.is c.lent.ensures.value in
    let kept = left as_tcp (λ x. Kind.Tcp x) (skip_after c.args.count) set (c.lent.follows.lender c.skip_waiting.new.socket) n
    c.lent.result socket c.skip_waiting.new.socket found c.in-Ok.is c.skip_waiting.ensures.after (c.lent.follows.holds c.skip_waiting.new.socket) in record {
      answer = c.skip_waiting.ensures.answer ∙ answered as_tcp set n socket.now (skip_answer c.args.count) found;
      after = kept;
    }

pub returns-in-Err : goal.returns-in-Err
returns-in-Err c =
    let set = c.args.sockets.now in let n = c.args.number in let code = c.in-Err.code in
    let found = missed_of as_tcp set n c.lent.result code c.in-Err.is c.lent.ensures.value in
    let kept = unchanged as_tcp (λ x. Kind.Tcp x) (skip_after c.args.count) set c.lent.follows.lender-at-none n
    c.lent.result code found c.in-Err.is c.lent.follows.holds-at-none in record {
      answer = refused as_tcp set n code (skip_answer c.args.count) found;
      after = kept;
    }
