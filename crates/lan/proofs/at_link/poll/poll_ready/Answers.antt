use Rattle.std.proofs.Common.{◌∙◌, subst}
use Rattle.interface.specs.Polls.{Polls, is_change}
use Rattle.interface.specs.declared.poll.PollResult.{PollResult}
use Rattle.interface.specs.State.{state}
use Rattle.iface_egress.specs.Set.{slots}
use Rattle.interface.proofs.Silent.{polls_silently}
use Rattle.sim_link.specs.Port.{PortMove}
use Rattle.lan.proofs.Worlds.AtLink.Ready.{none_refused}
use Rattle.lan.proofs.at_link.poll.poll_ready.Goals as goal

pub returns-in-None-clause-polls : goal.returns-in-None-clause-polls
returns-in-None-clause-polls c =
    let s = state c.args.port.now c.args.interface.now (slots c.args.sockets.now) in
    let s' = state c.poll.new.device c.poll.new.self (slots c.poll.new.sockets) in
    subst (λ (r : PollResult). Polls PortMove c.args.instant c.args.budget s (is_change r) s') c.in-None.is
    (polls_silently PortMove c.args.instant c.args.budget s s' (is_change c.poll.result) c.requires.silent c.requires.alone c.poll.ensures.steps)

pub returns-in-SocketStateChanged-clause-polls : goal.returns-in-SocketStateChanged-clause-polls
returns-in-SocketStateChanged-clause-polls c =
    let s = state c.args.port.now c.args.interface.now (slots c.args.sockets.now) in
    let s' = state c.poll.new.device c.poll.new.self (slots c.poll.new.sockets) in
    subst (λ (r : PollResult). Polls PortMove c.args.instant c.args.budget s (is_change r) s') c.in-SocketStateChanged.is
    (polls_silently PortMove c.args.instant c.args.budget s s' (is_change c.poll.result) c.requires.silent c.requires.alone c.poll.ensures.steps)

pub returns-in-None-clause-none_denied : goal.returns-in-None-clause-none_denied
returns-in-None-clause-none_denied c = λ alone.
    none_refused c.args.instant c.args.budget
    (state c.args.port.now c.args.interface.now (slots c.args.sockets.now)) (state c.poll.new.device c.poll.new.self (slots c.poll.new.sockets))
    (is_change c.poll.result)
    alone c.requires.least c.requires.size c.requires.count
    (polls_silently PortMove c.args.instant c.args.budget
    (state c.args.port.now c.args.interface.now (slots c.args.sockets.now)) (state c.poll.new.device c.poll.new.self (slots c.poll.new.sockets))
    (is_change c.poll.result) c.requires.silent c.requires.alone c.poll.ensures.steps)

pub returns-in-SocketStateChanged-clause-none_denied : goal.returns-in-SocketStateChanged-clause-none_denied
returns-in-SocketStateChanged-clause-none_denied c = λ alone.
    none_refused c.args.instant c.args.budget
    (state c.args.port.now c.args.interface.now (slots c.args.sockets.now)) (state c.poll.new.device c.poll.new.self (slots c.poll.new.sockets))
    (is_change c.poll.result)
    alone c.requires.least c.requires.size c.requires.count
    (polls_silently PortMove c.args.instant c.args.budget
    (state c.args.port.now c.args.interface.now (slots c.args.sockets.now)) (state c.poll.new.device c.poll.new.self (slots c.poll.new.sockets))
    (is_change c.poll.result) c.requires.silent c.requires.alone c.poll.ensures.steps)

pub returns-in-None-clause-alone : goal.returns-in-None-clause-alone
returns-in-None-clause-alone c = c.poll.ensures.settings.host_requirements ∙ c.requires.alone

pub returns-in-SocketStateChanged-clause-alone : goal.returns-in-SocketStateChanged-clause-alone
returns-in-SocketStateChanged-clause-alone c = c.poll.ensures.settings.host_requirements ∙ c.requires.alone
