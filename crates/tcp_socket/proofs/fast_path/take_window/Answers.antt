use Rattle.std.proofs.Common.{sym, ◌∙◌, arith}
use Rattle.tcp_socket.proofs.Calm.{calm_window}
use Rattle.tcp_socket.proofs.fast_path.take_window.Goals as goal

pub returns-then-is_calm : goal.returns-then-is_calm
returns-then-is_calm c =
    calm_window c.args.tcb.now c.set_window.new.self c.args.header.now c.args.duplicates c.args.queued c.args.now c.set_window.ensures
    (sym c.is_calm.ensures ∙ c.if-is_calm.true) (omega (arith, c.if-duplicates-eq0.true))
