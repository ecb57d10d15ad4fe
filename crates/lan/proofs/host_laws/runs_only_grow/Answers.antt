use Rattle.lan.proofs.Worlds.Hosts.Going.{proceeds_along}
use Rattle.lan.proofs.host_laws.runs_only_grow.Goals as goal

pub returns : goal.returns
returns c = λ history from to side run. proceeds_along history from to run side
