use Rattle.std.proofs.Common.{refl}
use Rattle.lan.specs.Worlds.AtLink.Runs.{counts_of}
use Rattle.lan.proofs.Worlds.Hosts.QuietRuns.{polls_quiet}
use Rattle.lan.proofs.host_laws.polls_are_quiet.Goals as goal

pub returns : goal.returns
returns c = λ starts history hosts run. polls_quiet c.due_as_before.ensures starts history hosts (counts_of hosts) refl run
