use Rattle.std.proofs.Common.{◌≡◌, ℕ, ℤ, ap}
use Rattle.tcp_block.specs.OfferKind.TheVariants as Kind
use Rattle.tcp_block.specs.Segments.{keep_alive_segment}
use Rattle.tcp_block.specs.Value.{TcpValue, window_of}
use Rattle.tcp_block.specs.declared.tcb.Tcb.{Tcb}
use Rattle.tcp_socket.proofs.Going.{made_of, gives_segment}
use Rattle.tcp_socket.proofs.socket.Socket.offer_keep_alive.Goals as goal

pub returns : goal.returns
returns g c =
    let cx = g.C.Context.context c.args.cx.now in
    let v = c.args.self.now in
    let pair = c.args.pair.now in
    let header = c.keep_alive_segment-header in
    let is = made_of (λ (b : Tcb) (now : ℤ) (window : ℕ). keep_alive_segment b pair now window) v c.self.inside.tcb c.now.result cx.instant c.window-window.result
    header.result header.ensures (ap (λ (w : TcpValue). w.tcb) c.self.view_is) c.now.ensures.value c.window-window.ensures in
    let gives =
    gives_segment Kind.KeepAlive cx v c.offer_segment.new.self pair header.result (keep_alive_segment v.tcb pair cx.instant (window_of v)) 0 1 c.offer_segment.result
    c.offer_segment.ensures.answer c.offer_segment.ensures.socket is
    in
    record { answer = gives.answer_is; socket = gives.socket_is }
