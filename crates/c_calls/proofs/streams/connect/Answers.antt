use Rattle.std.proofs.Common.{ap, ◌∙◌}
use Rattle.std.specs.Prelude.{if◌then◌else◌}
use Rattle.sockets.specs.AnySocket.{as_tcp}
use Rattle.sockets.specs.declared.socket.Socket.TheVariants as Kind
use Rattle.sockets.specs.TcpCalls.{connect_answer, connect_after, connect_draws}
use Rattle.c_calls.specs.Codes.{coded, of_connect}
use Rattle.c_calls.proofs.Placed.{found_of, answered, left, drew, missed_of, refused, unchanged, undrawn}
use Rattle.c_calls.proofs.streams.connect.Goals as goal

pub returns-in-Ok : goal.returns-in-Ok
returns-in-Ok g c =
    let cx = g.C.Context.context c.args.cx.now in let to = c.args.remote in let from = c.args.local in
    let set = c.args.sockets.now in let n = c.args.number in let socket = c.in-Ok.socket in
    let found = found_of as_tcp set n c.lent.result socket c.in-Ok.is c.lent.ensures.value in
    let kept = left as_tcp (λ x. Kind.Tcp x) (λ v. connect_after cx v to from) set (c.lent.follows.lender c.open.new.socket) n
    c.lent.result socket c.open.new.socket found c.in-Ok.is c.open.ensures.after (c.lent.follows.holds c.open.new.socket) in record {
      answer = c.open.ensures.answer ∙ answered as_tcp set n socket.now (λ v. coded of_connect (connect_answer cx v to from)) found;
      after = kept;
      drawn = c.open.ensures.drawn
          ∙ ap (λ b. if b then g.C.Context.drawn c.args.cx.now else c.args.cx.now) (drew as_tcp set n socket.now (λ v. connect_draws cx v to from) found);
    }

pub returns-in-Err : goal.returns-in-Err
returns-in-Err g c =
    let cx = g.C.Context.context c.args.cx.now in let to = c.args.remote in let from = c.args.local in
    let set = c.args.sockets.now in let n = c.args.number in let code = c.in-Err.code in
    let found = missed_of as_tcp set n c.lent.result code c.in-Err.is c.lent.ensures.value in
    let kept = unchanged as_tcp (λ x. Kind.Tcp x) (λ v. connect_after cx v to from) set c.lent.follows.lender-at-none n
    c.lent.result code found c.in-Err.is c.lent.follows.holds-at-none in record {
      answer = refused as_tcp set n code (λ v. coded of_connect (connect_answer cx v to from)) found;
      after = kept;
      drawn = ap (λ b. if b then g.C.Context.drawn c.args.cx.now else c.args.cx.now) (undrawn as_tcp set n code (λ v. connect_draws cx v to from) found);
    }
