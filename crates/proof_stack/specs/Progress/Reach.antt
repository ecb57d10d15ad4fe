-- Two hosts that reach each other over links which bring what is sent in time, and a connection that is at home at its host.
use Rattle.std.specs.Prelude.{◌≡◌, ℕ, ℤ, true, false, List, [], ◌∷◌, ◌++◌}
use Rattle.tcp_state.specs.Endpoints.{local_of, remote_of}
use Rattle.tcp_state.specs.declared.endpoints.FourTuple.{FourTuple}
use Rattle.iface_ingress.specs.Processed.{is_for_many}
use Rattle.iface_tables.specs.Inner.{InnerValue, is_local}
use Rattle.lan.specs.declared.at_link.history.event.Side.{Side}
use Rattle.lan.specs.Worlds.AtLink.History.{Entry}
use Rattle.lan.specs.Worlds.AtLink.Runs.{Starts}
use Rattle.lan.specs.Worlds.AtLink.Node.{Nodes}
use Rattle.lan.specs.Worlds.Still.{StillRun}
use Rattle.sim_link.specs.Medium.TheVariants as Medium
use Rattle.proof_stack.specs.Progress.FramesInTransit.{AreCarried}
use Rattle.proof_stack.specs.Progress.Serving.{GiveTxToken}

-- the hosts after the earlier events
abbrev pub hosts_before : (starts : Starts) (past more : List Entry) (hosts : Nodes) → StillRun starts (more ++ past) hosts → Nodes
hosts_before starts past [] hosts still = hosts
hosts_before starts past (e ∷ more) hosts still = hosts_before starts past more still.0 still.1

-- the local address of a connection is one of the host's own, and the remote one is that of one host: no broadcast address of its networks, and no group
pub record IsAtHome (i : InnerValue) (pair : FourTuple) : Type 0 where
  pub own : is_local i (local_of pair.addresses) ≡ true
  pub one_host : is_for_many i (remote_of pair.addresses) ≡ false

-- The hosts are on a medium that has no hardware addresses. After each of the later polls a link gives its host leave to send, and each frame that a host
-- sends in one is taken by a poll of the other no more than so many microseconds later.
pub record AreInReach (starts : Starts) (delay : ℕ) (past more : List Entry) (hosts : Nodes) (still : StillRun starts (more ++ past) hosts) : Type 0 where
  pub medium : starts.a.capabilities.medium ≡ Medium.Ip
  pub leave : GiveTxToken starts past more hosts still
  pub on_way : Side → List (ℤ × List ℕ)
  pub carried : AreCarried starts delay past more hosts still on_way
