use Rattle.std.proofs.Common.{refl}
use Rattle.iface_egress.specs.Set.{slots}
use Rattle.interface.specs.State.{state}
use Rattle.interface.proofs.Quieted.{quiet_host}
use Rattle.interface.proofs.Settings.{settings_then}
use Rattle.interface.proofs.Silent.{stays_silent}
use Rattle.interface.proofs.Unchanged.{poll_same}
use Rattle.interface.proofs.host.Interface.poll.Goals as goal

pub returns-then-poll_all-clause-quiet : goal.returns-then-poll_all-clause-quiet
returns-then-poll_all-clause-quiet g c = λ asked is early reports none.
    let begun = c.begin.ensures.quiet asked is early reports in
    quiet_host c.due_as_before.ensures g.D.Device.moves c.args.timestamp asked c.args.self.now.inner.instant c.args.budget
    (state c.args.device.now c.args.self.now (slots c.args.sockets.now)) c.begin.new.device c.begin.new.self
    (state c.poll_all.new.device c.poll_all.new.self (slots c.poll_all.new.sockets)) _ begun.0 begun.1 is early none c.if-poll_all.ensures.steps

pub returns-else-poll_all-clause-quiet : goal.returns-else-poll_all-clause-quiet
returns-else-poll_all-clause-quiet g c = λ asked is early reports none.
    let begun = c.begin.ensures.quiet asked is early reports in
    quiet_host c.due_as_before.ensures g.D.Device.moves c.args.timestamp asked c.args.self.now.inner.instant c.args.budget
    (state c.args.device.now c.args.self.now (slots c.args.sockets.now)) c.begin.new.device c.begin.new.self
    (state c.poll_all.new.device c.poll_all.new.self (slots c.poll_all.new.sockets)) _ begun.0 begun.1 is early none c.if-poll_all.ensures.steps

pub returns-else-poll_all-clause-unchanged : goal.returns-else-poll_all-clause-unchanged
returns-else-poll_all-clause-unchanged g c = λ is.
    poll_same g.D.Device.moves c.args.timestamp c.args.budget (state c.begin.new.device c.begin.new.self (slots c.args.sockets.now))
    (state c.poll_all.new.device c.poll_all.new.self (slots c.poll_all.new.sockets)) _ c.if-poll_all.ensures.steps refl

pub returns-then-poll_all-clause-settings : goal.returns-then-poll_all-clause-settings
returns-then-poll_all-clause-settings g c =
    settings_then c.args.self.now.inner c.begin.new.self.inner c.poll_all.new.self.inner c.begin.ensures.settings c.if-poll_all.ensures.settings

pub returns-else-poll_all-clause-settings : goal.returns-else-poll_all-clause-settings
returns-else-poll_all-clause-settings g c =
    settings_then c.args.self.now.inner c.begin.new.self.inner c.poll_all.new.self.inner c.begin.ensures.settings c.if-poll_all.ensures.settings

pub returns-then-poll_all-clause-silent : goal.returns-then-poll_all-clause-silent
returns-then-poll_all-clause-silent g c = λ none.
    stays_silent g.D.Device.moves c.args.timestamp c.args.budget (state c.begin.new.device c.begin.new.self (slots c.args.sockets.now))
    (state c.poll_all.new.device c.poll_all.new.self (slots c.poll_all.new.sockets)) _ (c.begin.ensures.silent none) c.if-poll_all.ensures.steps

pub returns-else-poll_all-clause-silent : goal.returns-else-poll_all-clause-silent
returns-else-poll_all-clause-silent g c = λ none.
    stays_silent g.D.Device.moves c.args.timestamp c.args.budget (state c.begin.new.device c.begin.new.self (slots c.args.sockets.now))
    (state c.poll_all.new.device c.poll_all.new.self (slots c.poll_all.new.sockets)) _ (c.begin.ensures.silent none) c.if-poll_all.ensures.steps
