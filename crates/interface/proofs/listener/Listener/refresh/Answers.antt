use Rattle.std.proofs.Common.{ℕ, List, subst}
use Rattle.iface_egress.specs.declared.socket_set.SocketHandle.{SocketHandle}
use Rattle.iface_egress.specs.Set.{slots}
use Rattle.interface.specs.Backlog.Calls.{Refreshes}
use Rattle.interface.proofs.listener.Listener.refresh.Goals as goal

pub returns-clause-refreshed : goal.returns-clause-refreshed
returns-clause-refreshed c =
    subst
    (λ (now : ℕ). Refreshes c.args.self.now.endpoint now c.args.self.now.keepers.items (slots c.args.set.now) c.args.self.now.entries.items
    c.refresh_slots.new.slots c.refresh_slots.new.entries.items) c.micros_of-now.ensures
    (subst
    (λ (keepers : List SocketHandle). Refreshes c.args.self.now.endpoint c.micros_of-now.result keepers (slots c.args.set.now)
    c.args.self.now.entries.items c.refresh_slots.new.slots c.refresh_slots.new.entries.items) c.as_slice-keepers.ensures.value
    c.refresh_slots.ensures)
