use Rattle.std.proofs.Common.{arith, ◌<◌, length, refl}
use Rattle.c_calls.specs.Backlogs.{Accepted}
use Rattle.c_calls.proofs.Placing.{on_listener}
use Rattle.c_calls.proofs.backlogs.accept_at.Goals as goal

pub returns : goal.returns
returns c =
    let within : c.args.listener < length c.args.listeners.now.items = omega (arith, c.if-listener-len.false) in
    on_listener (Accepted) c.args.listeners.now.items _ c.args.listener c.accept_of.result c.accept_of.new.listener c.index_mut.result.now within
    c.index_mut.ensures.value c.accept_of.ensures refl
