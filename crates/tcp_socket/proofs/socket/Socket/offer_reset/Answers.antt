use Rattle.std.proofs.Common.{◌≡◌, ℕ, ℤ, false, sym, ap, ◌∙◌}
use Rattle.tcp_block.specs.OfferKind.TheVariants as Kind
use Rattle.tcp_block.specs.Offers.{offer_reset, silent}
use Rattle.tcp_block.specs.Segments.{reset_segment}
use Rattle.tcp_block.specs.Value.{TcpValue, window_of}
use Rattle.tcp_block.specs.declared.tcb.Tcb.{Tcb}
use Rattle.tcp_socket.proofs.Going.{at_first, made_of, gives_segment}
use Rattle.tcp_socket.proofs.socket.Socket.offer_reset.Goals as goal

pub returns : goal.returns
returns g c =
    let cx = g.C.Context.context c.args.cx.now in
    let v = c.args.self.now in
    let pair = c.args.pair.now in
    let header = c.reset_segment-header in
    let is = made_of (λ (b : Tcb) (now : ℤ) (window : ℕ). reset_segment b pair now window) v c.self.inside.tcb c.now.result cx.instant c.window-window.result
    header.result header.ensures (ap (λ (w : TcpValue). w.tcb) c.self.view_is) c.now.ensures.value c.window-window.ensures in
    let gives =
    gives_segment Kind.Reset cx v c.offer_segment.new.self pair header.result (reset_segment v.tcb pair cx.instant (window_of v)) 0 0 c.offer_segment.result
    c.offer_segment.ensures.answer c.offer_segment.ensures.socket is
    in
    let all =
    at_first v.tcb.sender.reset_due (offer_reset cx v pair) (silent false v) c.offer_segment.result c.offer_segment.new.self
    (ap (λ (w : TcpValue). w.tcb.sender.reset_due) (sym c.self.view_is) ∙ c.if-not-self.false) gives
    in
    record { answer = all.answer_is; socket = all.socket_is }
