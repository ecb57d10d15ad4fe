use Rattle.std.proofs.Common.{◌≡◌, List, ap, subst}
use Rattle.interface.specs.Set.{slots}
use Rattle.interface.specs.SocketStorage.{SocketStorage}
use Rattle.interface.specs.State.{state}
use Rattle.sockets.specs.declared.socket.Socket.{Socket}
use Rattle.c_calls.specs.Polling.{LinkPolls}
use Rattle.c_calls.specs.SlotsValue.{SlotsValue}
use Rattle.c_calls.proofs.slots.Slots.poll.Goals as goal

pub returns-clause-polls : goal.returns-clause-polls
returns-clause-polls c =
    let same : slots c.self.inside.set ≡ c.args.self.now.sockets = ap (λ (s : SlotsValue). s.sockets) c.self.view_is in
    subst (λ (ps : List (SocketStorage Socket)). LinkPolls c.args.now c.args.budget (state c.args.link.now c.args.interface.now ps) c.poll_set.result
    (state c.poll_set.new.link c.poll_set.new.interface (slots c.poll_set.new.set))) same c.poll_set.ensures.polls
