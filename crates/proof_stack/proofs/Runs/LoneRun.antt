-- The run of a socket that is refused is a run.
use Rattle.std.proofs.Common.{ℕ, refl}
use Rattle.std.proofs.lemmas.Option.{none-some}
use Rattle.lan.specs.declared.at_link.history.event.Side.TheVariants.{A}
use Rattle.lan.specs.Worlds.AtLink.PeerSides.{ArePartners}
use Rattle.lan.specs.Worlds.AtLink.Moves.{IsRun, run}
use Rattle.lan.specs.Worlds.AtLink.Parties.Socket.{Tcp}
use Rattle.lan.specs.Worlds.AtLink.PacketsSafe.{IsInitialNet}
use Rattle.proof_stack.specs.Worlds.Hosts.{no_names, unbound}
use Rattle.proof_stack.specs.Worlds.Lone.{caller, hosts, steps}
use Rattle.proof_stack.specs.Worlds.Streams.{initial}
use Rattle.proof_stack.proofs.Runs.Initial.{initial_one, initial_tcp}
use Rattle.proof_stack.proofs.Runs.Playing.{comes_whole, leaves_from}

pub are_initial : IsInitialNet unbound hosts
are_initial = record { a = initial_one (Tcp initial) initial_tcp; b = initial_one (Tcp initial) initial_tcp; history = refl }

pub is_run : IsRun no_names hosts steps
is_run = (
  (refl, refl, refl, (refl, refl, refl)),
  ((refl, leaves_from A caller), (refl, ((refl, refl, comes_whole 0 refl), ((refl, refl, refl, (refl, refl, refl)), tt)))),
)

pub alone : (j : ℕ) → ¬ (ArePartners (run hosts steps).history A 0 j)
alone j p = none-some p.another p.peer_side_opened
