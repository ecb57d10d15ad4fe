-- What a small window holds back is a part of the send queue.
use Rattle.std.proofs.Common.{◌≡◌, ◌==◌, ℕ, true, false, sym, ap, ◌∙◌, arith}
use Rattle.tcp_block.specs.Choices.{choice_of}
use Rattle.tcp_block.specs.OfferKind.TheVariants as Kind
use Rattle.tcp_block.specs.Offers.{offer_choice}
use Rattle.tcp_block.specs.Rules.{payload_choice, probe_choice}
use Rattle.tcp_block.specs.Value.{TcpValue}
use Rattle.tcp_socket.proofs.Going.{Gives, at_first, otherwise, gives_choice}
use Rattle.tcp_socket.proofs.Offering.{part_of_probe, part_of_held, not_zero}
use Rattle.tcp_socket.proofs.socket.Socket.offer_window_limited.Goals as goal

pub offer_part-requires : goal.offer_part-requires
offer_part-requires g c = record { part = part_of_probe c.args.self.now (g.C.Context.context c.args.cx.now).instant c.requires.due }

pub offer_part-requires-else-self-eq0 : goal.offer_part-requires-else-self-eq0
offer_part-requires-else-self-eq0 g c =
    record {
      part = rw c.ready_part-part.ensures
          (part_of_held c.args.self.now c.args.pair.now.addresses c.ip_mtu.result (g.C.Context.context c.args.cx.now).instant c.requires.due);
    }

pub returns-then-self-eq0 : goal.returns-then-self-eq0
returns-then-self-eq0 g c =
    let cx = g.C.Context.context c.args.cx.now in
    let v = c.args.self.now in
    let pair = c.args.pair.now in
    let closed : (v.tcb.peer.window == 0) ≡ true =
    ap (λ (w : TcpValue). w.tcb.peer.window == 0) (sym c.self.view_is) ∙ ap (λ (n : ℕ). n == 0) c.if-self-eq0.true in
    let gives : Gives (offer_choice Kind.Probe cx v pair probe_choice) c.offer_part.result c.offer_part.new.self =
    record { answer_is = c.offer_part.ensures.answer; socket_is = c.offer_part.ensures.socket }
    in
    let all =
    at_first (v.tcb.peer.window == 0) (offer_choice Kind.Probe cx v pair probe_choice)
    (offer_choice Kind.Payload cx v pair (payload_choice v.tcb pair.addresses cx.ip_mtu v.queued)) c.offer_part.result c.offer_part.new.self closed gives
    in
    record { answer = all.answer_is; socket = all.socket_is }

pub returns-else-self-eq0 : goal.returns-else-self-eq0
returns-else-self-eq0 g c =
    let cx = g.C.Context.context c.args.cx.now in
    let v = c.args.self.now in
    let pair = c.args.pair.now in
    let window : c.self.inside.tcb.peer.window ≡ v.tcb.peer.window = ap (λ (w : TcpValue). w.tcb.peer.window) c.self.view_is in
    let opened : (v.tcb.peer.window == 0) ≡ false =
    rw (← window) (not_zero c.self.inside.tcb.peer.window (λ none. omega (arith, none, c.if-self-eq0.false))) in
    let part : choice_of c.ready_part-part.result ≡ payload_choice v.tcb pair.addresses cx.ip_mtu v.queued =
    c.ready_part-part.ensures ∙ ap (λ (mtu : ℕ). payload_choice v.tcb pair.addresses mtu v.queued) c.ip_mtu.ensures in
    let gives = gives_choice Kind.Payload cx v c.offer_part-else-self-eq0.new.self pair (choice_of c.ready_part-part.result)
    (payload_choice v.tcb pair.addresses cx.ip_mtu v.queued) c.offer_part-else-self-eq0.result c.offer_part-else-self-eq0.ensures.answer
    c.offer_part-else-self-eq0.ensures.socket part in
    let all =
    otherwise (v.tcb.peer.window == 0) (offer_choice Kind.Probe cx v pair probe_choice)
    (offer_choice Kind.Payload cx v pair (payload_choice v.tcb pair.addresses cx.ip_mtu v.queued)) c.offer_part-else-self-eq0.result
    c.offer_part-else-self-eq0.new.self opened gives
    in
    record { answer = all.answer_is; socket = all.socket_is }
