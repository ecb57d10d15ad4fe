use Rattle.std.proofs.Common.{◌≡◌, true, false, refl, sym, ap, ◌∙◌}
use Rattle.tcp_block.specs.declared.tcb.Tcb.{Tcb}
use Rattle.tcp_block.specs.Offers.{silent}
use Rattle.tcp_block.specs.Probing.{probe_deadline}
use Rattle.tcp_block.specs.Rules.{ack_deadline, keep_alive_deadline}
use Rattle.tcp_block.specs.Value.{TcpValue, queued_in}
use Rattle.tcp_socket.proofs.Going.{due_as, goes_window_limited, goes_ack, goes_update, goes_alive, goes_nothing}
use Rattle.tcp_socket.proofs.socket.Socket.offer_last.Goals as goal

pub returns-then-is_due : goal.returns-then-is_due
returns-then-is_due g c =
    let cx = g.C.Context.context c.args.cx.now in
    let v = c.args.self.now in
    let pair = c.args.pair.now in
    let at = c.now-now.ensures.value in
    let tcb : c.self.inside.tcb ≡ v.tcb = ap (λ (w : TcpValue). w.tcb) c.self.view_is in
    let probe : c.probe_deadline.result ≡ probe_deadline v.tcb (queued_in v) =
    c.probe_deadline.ensures ∙ ap (λ (b : Tcb). probe_deadline b c.len.result) tcb ∙ ap (probe_deadline v.tcb) (c.len.ensures ∙ ap queued_in c.self.view_is)
    in
    let due =
    due_as true cx.instant c.now-now.result (probe_deadline v.tcb (queued_in v)) c.probe_deadline.result c.is_due.result at probe c.is_due.ensures
    c.if-is_due.true
    in
    let all =
    goes_window_limited cx v pair c.offer_window_limited.result c.offer_window_limited.new.self due (record { answer_is = c.offer_window_limited.ensures.answer; socket_is = c.offer_window_limited.ensures.socket })
    in
    record { answer = all.answer_is; socket = all.socket_is }

pub returns-then-is_due-2 : goal.returns-then-is_due-2
returns-then-is_due-2 g c =
    let cx = g.C.Context.context c.args.cx.now in
    let v = c.args.self.now in
    let pair = c.args.pair.now in
    let at = c.now-now.ensures.value in
    let tcb : c.self.inside.tcb ≡ v.tcb = ap (λ (w : TcpValue). w.tcb) c.self.view_is in
    let probe : c.probe_deadline.result ≡ probe_deadline v.tcb (queued_in v) =
    c.probe_deadline.ensures ∙ ap (λ (b : Tcb). probe_deadline b c.len.result) tcb ∙ ap (probe_deadline v.tcb) (c.len.ensures ∙ ap queued_in c.self.view_is)
    in
    let no_probe =
    due_as false cx.instant c.now-now.result (probe_deadline v.tcb (queued_in v)) c.probe_deadline.result c.is_due.result at probe c.is_due.ensures
    c.if-is_due.false
    in
    let due =
    due_as true cx.instant c.now-now.result (ack_deadline v.tcb) c.ack_deadline.result c.is_due-else-is_due.result at (c.ack_deadline.ensures ∙ ap ack_deadline tcb)
    c.is_due-else-is_due.ensures c.if-is_due-2.true
    in
    let all =
    goes_ack cx v pair c.offer_ack.result c.offer_ack.new.self no_probe due (record { answer_is = c.offer_ack.ensures.answer; socket_is = c.offer_ack.ensures.socket })
    in
    record { answer = all.answer_is; socket = all.socket_is }

pub returns-then-updates_window : goal.returns-then-updates_window
returns-then-updates_window g c =
    let cx = g.C.Context.context c.args.cx.now in
    let v = c.args.self.now in
    let pair = c.args.pair.now in
    let at = c.now-now.ensures.value in
    let tcb : c.self.inside.tcb ≡ v.tcb = ap (λ (w : TcpValue). w.tcb) c.self.view_is in
    let probe : c.probe_deadline.result ≡ probe_deadline v.tcb (queued_in v) =
    c.probe_deadline.ensures ∙ ap (λ (b : Tcb). probe_deadline b c.len.result) tcb ∙ ap (probe_deadline v.tcb) (c.len.ensures ∙ ap queued_in c.self.view_is)
    in
    let no_probe =
    due_as false cx.instant c.now-now.result (probe_deadline v.tcb (queued_in v)) c.probe_deadline.result c.is_due.result at probe c.is_due.ensures
    c.if-is_due.false
    in
    let no_ack =
    due_as false cx.instant c.now-now.result (ack_deadline v.tcb) c.ack_deadline.result c.is_due-else-is_due.result at (c.ack_deadline.ensures ∙ ap ack_deadline tcb)
    c.is_due-else-is_due.ensures c.if-is_due-2.false
    in
    let updates = sym c.updates_window.ensures ∙ c.if-updates_window.true in
    let all =
    goes_update cx v pair c.offer_ack-then-updates_window.result c.offer_ack-then-updates_window.new.self no_probe no_ack updates (record { answer_is = c.offer_ack-then-updates_window.ensures.answer; socket_is = c.offer_ack-then-updates_window.ensures.socket })
    in
    record { answer = all.answer_is; socket = all.socket_is }

pub returns-then-is_due-3 : goal.returns-then-is_due-3
returns-then-is_due-3 g c =
    let cx = g.C.Context.context c.args.cx.now in
    let v = c.args.self.now in
    let pair = c.args.pair.now in
    let at = c.now-now.ensures.value in
    let tcb : c.self.inside.tcb ≡ v.tcb = ap (λ (w : TcpValue). w.tcb) c.self.view_is in
    let probe : c.probe_deadline.result ≡ probe_deadline v.tcb (queued_in v) =
    c.probe_deadline.ensures ∙ ap (λ (b : Tcb). probe_deadline b c.len.result) tcb ∙ ap (probe_deadline v.tcb) (c.len.ensures ∙ ap queued_in c.self.view_is)
    in
    let no_probe =
    due_as false cx.instant c.now-now.result (probe_deadline v.tcb (queued_in v)) c.probe_deadline.result c.is_due.result at probe c.is_due.ensures
    c.if-is_due.false
    in
    let no_ack =
    due_as false cx.instant c.now-now.result (ack_deadline v.tcb) c.ack_deadline.result c.is_due-else-is_due.result at (c.ack_deadline.ensures ∙ ap ack_deadline tcb)
    c.is_due-else-is_due.ensures c.if-is_due-2.false
    in
    let no_update = sym c.updates_window.ensures ∙ c.if-updates_window.false in
    let due =
    due_as true cx.instant c.now-now.result (keep_alive_deadline v.tcb) c.keep_alive_deadline.result c.is_due-else-updates_window.result at
    (c.keep_alive_deadline.ensures ∙ ap keep_alive_deadline tcb) c.is_due-else-updates_window.ensures c.if-is_due-3.true
    in
    let all =
    goes_alive cx v pair c.offer_keep_alive.result c.offer_keep_alive.new.self no_probe no_ack no_update due (record { answer_is = c.offer_keep_alive.ensures.answer; socket_is = c.offer_keep_alive.ensures.socket })
    in
    record { answer = all.answer_is; socket = all.socket_is }

pub returns-else-is_due-3 : goal.returns-else-is_due-3
returns-else-is_due-3 g c =
    let cx = g.C.Context.context c.args.cx.now in
    let v = c.args.self.now in
    let pair = c.args.pair.now in
    let at = c.now-now.ensures.value in
    let tcb : c.self.inside.tcb ≡ v.tcb = ap (λ (w : TcpValue). w.tcb) c.self.view_is in
    let probe : c.probe_deadline.result ≡ probe_deadline v.tcb (queued_in v) =
    c.probe_deadline.ensures ∙ ap (λ (b : Tcb). probe_deadline b c.len.result) tcb ∙ ap (probe_deadline v.tcb) (c.len.ensures ∙ ap queued_in c.self.view_is)
    in
    let no_probe =
    due_as false cx.instant c.now-now.result (probe_deadline v.tcb (queued_in v)) c.probe_deadline.result c.is_due.result at probe c.is_due.ensures
    c.if-is_due.false
    in
    let no_ack =
    due_as false cx.instant c.now-now.result (ack_deadline v.tcb) c.ack_deadline.result c.is_due-else-is_due.result at (c.ack_deadline.ensures ∙ ap ack_deadline tcb)
    c.is_due-else-is_due.ensures c.if-is_due-2.false
    in
    let no_update = sym c.updates_window.ensures ∙ c.if-updates_window.false in
    let none =
    due_as false cx.instant c.now-now.result (keep_alive_deadline v.tcb) c.keep_alive_deadline.result c.is_due-else-updates_window.result at
    (c.keep_alive_deadline.ensures ∙ ap keep_alive_deadline tcb) c.is_due-else-updates_window.ensures c.if-is_due-3.false
    in
    let all = goes_nothing cx v pair (silent false v).answer v no_probe no_ack no_update none (record { answer_is = refl; socket_is = refl }) in
    record { answer = all.answer_is; socket = all.socket_is }
