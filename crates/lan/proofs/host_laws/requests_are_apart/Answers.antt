use Rattle.lan.proofs.Worlds.Hosts.Asking.{run_apart}
use Rattle.lan.proofs.host_laws.requests_are_apart.Goals as goal

pub returns : goal.returns
returns c = run_apart
