use Rattle.std.proofs.Common.{ap}
use Rattle.tcp_block.specs.Value.{TcpValue}
use Rattle.tcp_socket.proofs.Steps.{payload_leads}
use Rattle.tcp_socket.proofs.socket.Socket.store_payload.Goals as goal

pub returns-clause-payload : goal.returns-clause-payload
returns-clause-payload c =
    payload_leads c.args.self.now c.self.inside.tcb.receiver.next c.distance_after-offset.result c.distance_before-before.result c.min.result c.args.header.now
    c.args.bytes.now _ (ap (λ (v : TcpValue). v.tcb.receiver.next) c.self.view_is) c.distance_after-offset.ensures c.distance_before-before.ensures c.min.ensures
    c.take_payload_at.ensures.payload
