use Rattle.std.proofs.Common.{◌≡◌, []}
use Rattle.app_tun_services.specs.Backlogs.{on_port}
use Rattle.app_tun_services.specs.Services.{port_of}
use Rattle.app_tun_services.proofs.Connections.{InitialTo}
use Rattle.app_tun_services.proofs.backlog.listener.Given as goal

-- so many sockets were taken
abbrev pub invariant-loop-i : goal.invariant-loop-i
invariant-loop-i l = (l.made.endpoint ≡ on_port (port_of l.service)) × (l.made.keepers.items ≡ []) × InitialTo l.i l.first l.made.entries.items
