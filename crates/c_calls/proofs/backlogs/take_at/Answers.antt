use Rattle.std.proofs.Common.{arith, ◌<◌, length, refl}
use Rattle.c_calls.specs.Backlogs.{Grown, Has}
use Rattle.c_calls.proofs.Placing.{on_listener}
use Rattle.c_calls.proofs.backlogs.take_at.Goals as goal

pub returns : goal.returns
returns c =
    let within : c.args.listener < length c.args.listeners.now.items = omega (arith, c.if-listener-len.false) in
    on_listener (Grown (Has c.args.role c.args.socket) c.args.taken) c.args.listeners.now.items _ c.args.listener c.add_to.result c.add_to.new.listener c.index_mut.result.now within
    c.index_mut.ensures.value c.add_to.ensures refl
