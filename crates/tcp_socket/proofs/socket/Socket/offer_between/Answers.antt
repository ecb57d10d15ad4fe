use Rattle.std.proofs.Common.{◌≡◌, ℕ, ℤ, Option, true, false, refl, sym, ap, ◌∙◌}
use Rattle.tcp_block.specs.declared.tcb.Tcb.{Tcb}
use Rattle.tcp_block.specs.Moments.{is_due}
use Rattle.tcp_block.specs.Offers.{silent, backed_off, first_rules}
use Rattle.tcp_block.specs.Retries.{gives_up}
use Rattle.tcp_block.specs.Rules.{time_wait_end}
use Rattle.tcp_block.specs.States.{is_closed}
use Rattle.tcp_block.specs.Timeout.{timeout_end, timeout_started, timed_out}
use Rattle.tcp_block.specs.Value.{TcpValue, with_tcb, ended, queued_in}
use Rattle.tcp_socket.proofs.Going.{Gives, due_as, wait_ends, timeout_ends, is_over, is_given_up, goes_first}
use Rattle.tcp_socket.proofs.Kept.{none_open}
use Rattle.tcp_socket.proofs.Sockets.{kept_going}
use Rattle.tcp_socket.proofs.socket.Socket.offer_between.Goals as goal

pub invariant_of-self-2 : goal.invariant_of-self-2
invariant_of-self-2 g c =
    record {
      room = c.self.invariant.room;
      tcb = rw (
        c.back_off.ensures,
        c.start_timeout.ensures,
      ) (kept_going c.self.inside.tcb c.now-now.result c.len-queued.result c.now-now.ensures.instant c.self.invariant.tcb);
      unsettled = none_open c.self.inside.offered c.back_off.new.self (ap (λ (v : TcpValue). v.offered) c.self.view_is ∙
          c.requires.unoffered);
    }

pub returns-then-is_due : goal.returns-then-is_due
returns-then-is_due g c =
    let cx = g.C.Context.context c.args.cx.now in
    let v = c.args.self.now in
    let pair = c.args.pair.now in
    let at = c.now-now.ensures.value in
    let tcb : c.self.inside.tcb ≡ v.tcb = ap (λ (w : TcpValue). w.tcb) c.self.view_is in
    let waits : c.time_wait_end.result ≡ time_wait_end v.tcb = c.time_wait_end.ensures ∙ ap time_wait_end tcb in
    let over =
    due_as true cx.instant c.now-now.result (time_wait_end v.tcb) c.time_wait_end.result c.is_due.result at waits c.is_due.ensures c.if-is_due.true in
    let on : TcpValue =
    record { tcb = c.forget.new.self; received = c.self.inside.received; queued = c.self.inside.queued; offered = c.self.inside.offered }
    in
    let is : on ≡ ended v = ap (λ (b : Tcb). with_tcb on b) c.forget.ensures ∙ ap ended c.self.view_is in
    let all = wait_ends cx v pair (silent true v).answer on over (record { answer_is = refl; socket_is = is }) in
    record { answer = all.answer_is; socket = all.socket_is }

pub returns-then-is_due-2 : goal.returns-then-is_due-2
returns-then-is_due-2 g c =
    let cx = g.C.Context.context c.args.cx.now in
    let v = c.args.self.now in
    let pair = c.args.pair.now in
    let at = c.now-now.ensures.value in
    let tcb : c.self.inside.tcb ≡ v.tcb = ap (λ (w : TcpValue). w.tcb) c.self.view_is in
    let waits : c.time_wait_end.result ≡ time_wait_end v.tcb = c.time_wait_end.ensures ∙ ap time_wait_end tcb in
    let queued : c.len-queued.result ≡ queued_in v = c.len-queued.ensures ∙ ap queued_in c.self.view_is in
    let ends : c.timeout_end.result ≡ timeout_end v.tcb (queued_in v) =
    c.timeout_end.ensures ∙ ap (λ (b : Tcb). timeout_end b c.len-queued.result) tcb ∙ ap (timeout_end v.tcb) queued
    in
    let waiting =
    due_as false cx.instant c.now-now.result (time_wait_end v.tcb) c.time_wait_end.result c.is_due.result at waits c.is_due.ensures c.if-is_due.false in
    let over =
    due_as true cx.instant c.now-now.result (timeout_end v.tcb (queued_in v)) c.timeout_end.result c.is_due-2.result at ends c.is_due-2.ensures
    c.if-is_due-2.true
    in
    let on : TcpValue =
    record { tcb = c.time_out.new.self; received = c.self.inside.received; queued = c.self.inside.queued; offered = c.self.inside.offered }
    in
    let is : on ≡ with_tcb v (timed_out v.tcb) =
    ap (λ (b : Tcb). with_tcb on b) c.time_out.ensures ∙ ap (λ (w : TcpValue). with_tcb w (timed_out w.tcb)) c.self.view_is
    in
    let all = timeout_ends cx v pair (silent true v).answer on waiting over (record { answer_is = refl; socket_is = is }) in
    record { answer = all.answer_is; socket = all.socket_is }

pub returns-then-is_closed : goal.returns-then-is_closed
returns-then-is_closed g c =
    let cx = g.C.Context.context c.args.cx.now in
    let v = c.args.self.now in
    let pair = c.args.pair.now in
    let at = c.now-now.ensures.value in
    let tcb : c.self.inside.tcb ≡ v.tcb = ap (λ (w : TcpValue). w.tcb) c.self.view_is in
    let waits : c.time_wait_end.result ≡ time_wait_end v.tcb = c.time_wait_end.ensures ∙ ap time_wait_end tcb in
    let queued : c.len-queued.result ≡ queued_in v = c.len-queued.ensures ∙ ap queued_in c.self.view_is in
    let ends : c.timeout_end.result ≡ timeout_end v.tcb (queued_in v) =
    c.timeout_end.ensures ∙ ap (λ (b : Tcb). timeout_end b c.len-queued.result) tcb ∙ ap (timeout_end v.tcb) queued
    in
    let waiting =
    due_as false cx.instant c.now-now.result (time_wait_end v.tcb) c.time_wait_end.result c.is_due.result at waits c.is_due.ensures c.if-is_due.false in
    let timed =
    due_as false cx.instant c.now-now.result (timeout_end v.tcb (queued_in v)) c.timeout_end.result c.is_due-2.result at ends c.is_due-2.ensures
    c.if-is_due-2.false
    in
    let closed : is_closed v.tcb.state ≡ true = sym (ap (λ (b : Tcb). is_closed b.state) tcb) ∙ sym c.is_closed.ensures ∙ c.if-is_closed.true in
    let all =
    is_over cx v pair c.offer_reset.result c.offer_reset.new.self waiting timed closed
    (record { answer_is = c.offer_reset.ensures.answer; socket_is = c.offer_reset.ensures.socket })
    in
    record { answer = all.answer_is; socket = all.socket_is }

pub returns-then-gives_up : goal.returns-then-gives_up
returns-then-gives_up g c =
    let cx = g.C.Context.context c.args.cx.now in
    let v = c.args.self.now in
    let pair = c.args.pair.now in
    let at = c.now-now.ensures.value in
    let tcb : c.self.inside.tcb ≡ v.tcb = ap (λ (w : TcpValue). w.tcb) c.self.view_is in
    let waits : c.time_wait_end.result ≡ time_wait_end v.tcb = c.time_wait_end.ensures ∙ ap time_wait_end tcb in
    let queued : c.len-queued.result ≡ queued_in v = c.len-queued.ensures ∙ ap queued_in c.self.view_is in
    let ends : c.timeout_end.result ≡ timeout_end v.tcb (queued_in v) =
    c.timeout_end.ensures ∙ ap (λ (b : Tcb). timeout_end b c.len-queued.result) tcb ∙ ap (timeout_end v.tcb) queued
    in
    let waiting =
    due_as false cx.instant c.now-now.result (time_wait_end v.tcb) c.time_wait_end.result c.is_due.result at waits c.is_due.ensures c.if-is_due.false in
    let timed =
    due_as false cx.instant c.now-now.result (timeout_end v.tcb (queued_in v)) c.timeout_end.result c.is_due-2.result at ends c.is_due-2.ensures
    c.if-is_due-2.false
    in
    let opened : is_closed v.tcb.state ≡ false = sym (ap (λ (b : Tcb). is_closed b.state) tcb) ∙ sym c.is_closed.ensures ∙ c.if-is_closed.false in
    let giving : gives_up cx.instant v.tcb (queued_in v) ≡ true =
    rw (← at, ← tcb, ← queued, ← c.gives_up.ensures) c.if-gives_up.true
    in
    let all = is_given_up cx v pair (silent true v).answer c.give_up.new.self waiting timed opened giving (record { answer_is = refl; socket_is = c.give_up.ensures }) in
    record { answer = all.answer_is; socket = all.socket_is }

pub returns : goal.returns
returns g c =
    let cx = g.C.Context.context c.args.cx.now in
    let v = c.args.self.now in
    let pair = c.args.pair.now in
    let at = c.now-now.ensures.value in
    let tcb : c.self.inside.tcb ≡ v.tcb = ap (λ (w : TcpValue). w.tcb) c.self.view_is in
    let waits : c.time_wait_end.result ≡ time_wait_end v.tcb = c.time_wait_end.ensures ∙ ap time_wait_end tcb in
    let queued : c.len-queued.result ≡ queued_in v = c.len-queued.ensures ∙ ap queued_in c.self.view_is in
    let ends : c.timeout_end.result ≡ timeout_end v.tcb (queued_in v) =
    c.timeout_end.ensures ∙ ap (λ (b : Tcb). timeout_end b c.len-queued.result) tcb ∙ ap (timeout_end v.tcb) queued
    in
    let waiting =
    due_as false cx.instant c.now-now.result (time_wait_end v.tcb) c.time_wait_end.result c.is_due.result at waits c.is_due.ensures c.if-is_due.false in
    let timed =
    due_as false cx.instant c.now-now.result (timeout_end v.tcb (queued_in v)) c.timeout_end.result c.is_due-2.result at ends c.is_due-2.ensures
    c.if-is_due-2.false
    in
    let opened : is_closed v.tcb.state ≡ false = sym (ap (λ (b : Tcb). is_closed b.state) tcb) ∙ sym c.is_closed.ensures ∙ c.if-is_closed.false in
    let giving : gives_up cx.instant v.tcb (queued_in v) ≡ false =
    rw (← at, ← tcb, ← queued, ← c.gives_up.ensures) c.if-gives_up.false
    in
    let started : c.start_timeout.new.self ≡ timeout_started cx.instant (queued_in v) v.tcb =
    c.start_timeout.ensures ∙ ap (λ (m : ℤ). timeout_started m c.len-queued.result c.self.inside.tcb) at
    ∙ ap (λ (n : ℕ). timeout_started cx.instant n c.self.inside.tcb) queued ∙ ap (timeout_started cx.instant (queued_in v)) tcb
    in
    let was_sent : c.back_off.new.self ≡ backed_off cx.instant (timeout_started cx.instant (queued_in v) v.tcb) =
    c.back_off.ensures ∙ ap (λ (m : ℤ). backed_off m c.start_timeout.new.self) at ∙ ap (backed_off cx.instant) started
    in
    let on : TcpValue =
    record { tcb = c.back_off.new.self; received = c.self.inside.received; queued = c.self.inside.queued; offered = c.self.inside.offered }
    in
    let is : on ≡ with_tcb v (backed_off cx.instant (timeout_started cx.instant (queued_in v) v.tcb)) =
    ap (λ (b : Tcb). with_tcb on b) was_sent
    ∙ ap (λ (w : TcpValue). with_tcb w (backed_off cx.instant (timeout_started cx.instant (queued_in v) v.tcb))) c.self.view_is
    in
    let gives : Gives (first_rules cx on pair) c.offer_first.result c.offer_first.new.self =
    record { answer_is = c.offer_first.ensures.answer; socket_is = c.offer_first.ensures.socket }
    in
    let all = goes_first cx v pair c.offer_first.result c.offer_first.new.self waiting timed opened on giving is gives in
    record { answer = all.answer_is; socket = all.socket_is }
