use Rattle.lan.proofs.Worlds.Hosts.Running.{host_runs}
use Rattle.lan.proofs.host_laws.hosts_run.Goals as goal

pub returns : goal.returns
returns c = host_runs
