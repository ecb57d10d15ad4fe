-- Hosts that moves of both lead to.
use Rattle.std.specs.Prelude.{◌≡◌, List}
use Rattle.sim_link.specs.Medium.TheVariants as Medium
use Rattle.sim_link.specs.PacketInFrame.{names_tcp_or_udp}
use Rattle.lan.specs.Worlds.AtLink.History.{Entry}
use Rattle.lan.specs.Worlds.AtLink.Moves.{Step, IsRun, run}
use Rattle.lan.specs.Worlds.AtLink.Parties.{Net}
use Rattle.lan.specs.Worlds.AtLink.Runs.{Starts}
use Rattle.lan.specs.Worlds.AtLink.Node.{Nodes}
use Rattle.lan.specs.Worlds.Moves.Follows.{IsNetOf}
use Rattle.lan.specs.Worlds.Moves.Joined.{first_net}

-- moves of both hosts lead to these, with this history
pub record HasCome (starts : Starts) (J : Nodes → Net → Type 0) (history : List Entry) (hosts : Nodes) : Type 0 where
  pub net : Net
  pub steps : List Step
  pub may : IsRun (names_tcp_or_udp Medium.Ip) (first_net starts) steps
  pub ends : run (first_net starts) steps ≡ net
  pub of : IsNetOf net hosts history
  pub joined : J hosts net
