use Rattle.std.proofs.Common.{◌^◌, ◌<◌, sym, ap, subst, ◌∙◌, arith}
use Rattle.ip_wire.specs.TcpHeader.{TcpHeader}
use Rattle.tcp_block.specs.Choices.{choice_of}
use Rattle.tcp_block.specs.Offers.{number_at}
use Rattle.tcp_block.specs.Rules.{control_for}
use Rattle.tcp_block.specs.Segments.{segment}
use Rattle.tcp_block.specs.Value.{TcpValue, queued_in, window_of}
use Rattle.tcp_socket.specs.Opening.{MayOpen, open_offer}
use Rattle.tcp_socket.specs.Receive.{FitsBuffer}
use Rattle.tcp_socket.proofs.Going.{part_made, gives_segment}
use Rattle.tcp_socket.proofs.Offering.{may_part}
use Rattle.tcp_socket.proofs.socket.Socket.offer_part.Goals as goal

pub offer_segment-requires : goal.offer_segment-requires
offer_segment-requires g c =
    let cx = g.C.Context.context c.args.cx.now in
    let v = c.args.self.now in
    let pair = c.args.pair.now in
    let choice = choice_of c.args.part.now in
    let header = c.segment-header in
    let is = part_made v c.self.inside.tcb pair c.now.result cx.instant c.window-window.result c.len.result c.control-control.result
    c.number_at-number.result choice header.result header.ensures (ap (λ (w : TcpValue). w.tcb) c.self.view_is) c.now.ensures.value
    c.window-window.ensures c.control-control.ensures (c.len.ensures ∙ ap queued_in c.self.view_is) c.number_at-number.ensures in
    let room : FitsBuffer v.queued = subst (λ (w : TcpValue). FitsBuffer w.queued) c.self.view_is c.self.invariant.room in
    let una : v.tcb.sender.una.0 < 2 ^ 32 = subst (λ (w : TcpValue). w.tcb.sender.una.0 < 2 ^ 32) c.self.view_is (omega (arith, c.self.ranges)) in
    record {
      «open» = subst (λ (h : TcpHeader). MayOpen v (open_offer c.args.kind cx v pair h choice.offset choice.len)) (sym is)
          (may_part c.args.kind cx v pair choice room una c.requires.part);
      small = omega (arith, c.requires.part.within, room);
    }

pub returns : goal.returns
returns g c =
    let cx = g.C.Context.context c.args.cx.now in
    let v = c.args.self.now in
    let pair = c.args.pair.now in
    let choice = choice_of c.args.part.now in
    let header = c.segment-header in
    let is = part_made v c.self.inside.tcb pair c.now.result cx.instant c.window-window.result c.len.result c.control-control.result
    c.number_at-number.result choice header.result header.ensures (ap (λ (w : TcpValue). w.tcb) c.self.view_is) c.now.ensures.value
    c.window-window.ensures c.control-control.ensures (c.len.ensures ∙ ap queued_in c.self.view_is) c.number_at-number.ensures in
    let gives =
    gives_segment c.args.kind cx v c.offer_segment.new.self pair header.result
    (segment v.tcb pair cx.instant (window_of v) (control_for choice (queued_in v)) (number_at v.tcb choice.offset)) choice.offset choice.len
    c.offer_segment.result c.offer_segment.ensures.answer c.offer_segment.ensures.socket is
    in
    record { answer = gives.answer_is; socket = gives.socket_is }
