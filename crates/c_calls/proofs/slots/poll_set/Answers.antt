use Rattle.std.proofs.Common.{subst}
use Rattle.interface.specs.Polls.{HostPolls, is_change}
use Rattle.interface.specs.declared.poll.PollResult.{PollResult}
use Rattle.interface.specs.Set.{slots}
use Rattle.interface.specs.State.{state}
use Rattle.c_calls.specs.Link.{LinkMove}
use Rattle.c_calls.proofs.slots.poll_set.Goals as goal

pub returns-in-None-clause-polls : goal.returns-in-None-clause-polls
returns-in-None-clause-polls c =
    let s = state c.args.link.now c.args.interface.now (slots c.args.set.now) in
    let s' = state c.poll.new.device c.poll.new.self (slots c.poll.new.sockets) in
    record { polls = subst (λ (r : PollResult). HostPolls LinkMove c.args.now c.args.budget s (is_change r) s') c.in-None.is c.poll.ensures.steps }

pub returns-in-SocketStateChanged-clause-polls : goal.returns-in-SocketStateChanged-clause-polls
returns-in-SocketStateChanged-clause-polls c =
    let s = state c.args.link.now c.args.interface.now (slots c.args.set.now) in
    let s' = state c.poll.new.device c.poll.new.self (slots c.poll.new.sockets) in
    record { polls = subst (λ (r : PollResult). HostPolls LinkMove c.args.now c.args.budget s (is_change r) s') c.in-SocketStateChanged.is c.poll.ensures.steps }
