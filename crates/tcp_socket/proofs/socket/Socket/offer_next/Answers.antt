use Rattle.std.proofs.Common.{◌≡◌, Option, Some, sym, ap, ◌∙◌}
use Rattle.tcp_block.specs.FourTuple.{FourTuple}
use Rattle.tcp_block.specs.Offers.{offer_between}
use Rattle.tcp_block.specs.Value.{TcpValue, unoffered}
use Rattle.tcp_socket.proofs.Going.{Gives, goes_between}
use Rattle.tcp_socket.proofs.socket.Socket.offer_next.Goals as goal

pub returns-in-Some : goal.returns-in-Some
returns-in-Some g c =
    let cx = g.C.Context.context c.args.cx.now in
    let v = c.args.self.now in
    let some : v.tcb.names.pair ≡ Some c.in-Some.pair =
    sym (ap (λ (w : TcpValue). w.tcb.names.pair) (c.self.view_is ∙ c.unoffer.ensures)) ∙ c.in-Some.is
    in
    let gives : Gives (offer_between cx c.unoffer.new.self c.in-Some.pair) c.offer_between.result c.offer_between.new.self =
    record { answer_is = c.offer_between.ensures.answer; socket_is = c.offer_between.ensures.socket }
    in
    let all =
    goes_between cx (unoffered v) c.unoffer.new.self v.tcb.names.pair c.in-Some.pair c.offer_between.result c.offer_between.new.self some
    c.unoffer.ensures gives
    in
    record { answer = all.answer_is; socket = all.socket_is }
