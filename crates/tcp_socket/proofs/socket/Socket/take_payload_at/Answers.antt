use Rattle.std.proofs.Common.{◌≡◌, ◌-◌, ◌==◌, ◌<◌, min, true, false, length, ap, ◌∙◌, arith}
use Rattle.tcp_block.specs.States.{accepts_data}
use Rattle.tcp_block.specs.Payload.{data_stored}
use Rattle.tcp_block.specs.Value.{TcpValue}
use Rattle.tcp_socket.proofs.Steps.{payload_at}
use Rattle.tcp_socket.proofs.socket.Socket.take_payload_at.Goals as goal

pub returns-clause-payload : goal.returns-clause-payload
returns-clause-payload c =
    let v = c.args.self.now in
    let t = data_stored c.take_bytes.new.self c.take_bytes.result.advance c.take_bytes.result.fills c.take_bytes.result.early in
    let room : length c.self.inside.received.map ≡ length v.received.map = ap (λ (w : TcpValue). length w.received.map) c.self.view_is in
    let state : accepts_data c.self.inside.tcb.state ≡ accepts_data v.tcb.state = ap (λ (w : TcpValue). accepts_data w.tcb.state) c.self.view_is in
    let takes : accepts_data v.tcb.state ≡ true = grind (arith, state, c.accepts_data.ensures, c.if-not-accepts_data.false) in
    let some : (length c.args.bytes.now == 0) ≡ false = grind (arith, c.is_empty.ensures, c.if-is_empty.false) in
    let free : c.window-free.result ≡ length v.received.map = c.window-free.ensures.value ∙ room in
    let fits : c.args.offset < length v.received.map = omega (arith, c.if-free-offset.false, free) in
    let n_is : c.min.result ≡ min (length c.args.bytes.now) (length v.received.map - c.args.offset) = rw (← free) (c.min.ensures) in
    payload_at v c.args.offset c.min.result c.args.bytes.now t takes some fits n_is c.take_bytes.ensures.payload
