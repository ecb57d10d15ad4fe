use Rattle.std.proofs.Common.{◌≡◌, ℕ, ℤ, ap, ◌∙◌}
use Rattle.tcp_block.specs.OfferKind.TheVariants as Kind
use Rattle.tcp_block.specs.Segments.{syn_segment}
use Rattle.tcp_block.specs.Value.{TcpValue, free_in, room_of}
use Rattle.tcp_block.specs.declared.tcb.Tcb.{Tcb}
use Rattle.tcp_socket.proofs.Going.{gives_segment}
use Rattle.tcp_socket.proofs.socket.Socket.offer_syn.Goals as goal

pub returns : goal.returns
returns g c =
    let cx = g.C.Context.context c.args.cx.now in
    let v = c.args.self.now in
    let pair = c.args.pair.now in
    let header = c.syn_segment-header in
    let room : c.capacity-capacity.result ≡ room_of v.received = c.capacity-capacity.ensures.value ∙ ap (λ (w : TcpValue). room_of w.received) c.self.view_is in
    let free : c.window-free.result ≡ free_in v = c.window-free.ensures.value ∙ ap free_in c.self.view_is in
    let is : header.result ≡ syn_segment v.tcb pair cx.instant cx.ip_mtu (room_of v.received) (free_in v) =
    header.ensures
    ∙ ap (λ (b : Tcb). syn_segment b pair c.now.result c.ip_mtu.result c.capacity-capacity.result c.window-free.result)
    (ap (λ (w : TcpValue). w.tcb) c.self.view_is)
    ∙ ap (λ (now : ℤ). syn_segment v.tcb pair now c.ip_mtu.result c.capacity-capacity.result c.window-free.result) c.now.ensures.value
    ∙ ap (λ (mtu : ℕ). syn_segment v.tcb pair cx.instant mtu c.capacity-capacity.result c.window-free.result) c.ip_mtu.ensures
    ∙ ap (λ (n : ℕ). syn_segment v.tcb pair cx.instant cx.ip_mtu n c.window-free.result) room
    ∙ ap (λ (n : ℕ). syn_segment v.tcb pair cx.instant cx.ip_mtu (room_of v.received) n) free
    in
    let gives =
    gives_segment Kind.Syn cx v c.offer_segment.new.self pair header.result (syn_segment v.tcb pair cx.instant cx.ip_mtu (room_of v.received) (free_in v)) 0 0
    c.offer_segment.result c.offer_segment.ensures.answer c.offer_segment.ensures.socket is
    in
    record { answer = gives.answer_is; socket = gives.socket_is }
