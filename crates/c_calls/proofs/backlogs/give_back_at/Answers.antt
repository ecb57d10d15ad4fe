use Rattle.std.proofs.Common.{arith, ◌<◌, length, refl}
use Rattle.c_calls.specs.Backlogs.{GivenBack}
use Rattle.c_calls.proofs.Placing.{on_listener}
use Rattle.c_calls.proofs.backlogs.give_back_at.Goals as goal

pub returns : goal.returns
returns c =
    let within : c.args.listener < length c.args.listeners.now.items = omega (arith, c.if-listener-len.false) in
    on_listener (GivenBack c.args.there c.args.socket) c.args.listeners.now.items _ c.args.listener c.give_back_to.result c.give_back_to.new.listener c.index_mut.result.now within
    c.index_mut.ensures.value c.give_back_to.ensures refl
