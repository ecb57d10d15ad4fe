-- The run of a listener that falls back is a run.
use Rattle.std.proofs.Common.{refl}
use Rattle.lan.specs.declared.at_link.history.event.Side.TheVariants.{A}
use Rattle.lan.specs.Worlds.AtLink.Moves.{IsRun, run}
use Rattle.lan.specs.Worlds.AtLink.Parties.Socket.{Tcp}
use Rattle.lan.specs.Worlds.AtLink.PacketsSafe.{IsInitialNet}
use Rattle.lan.proofs.Worlds.AtLink.Extended.{IsRun-append}
use Rattle.proof_stack.specs.Worlds.Fallback.{again, caller, calls, falls, fell, hosts, steps}
use Rattle.proof_stack.specs.Worlds.Hosts.{no_names, unbound}
use Rattle.proof_stack.specs.Worlds.Streams.{initial}
use Rattle.proof_stack.proofs.Runs.Initial.{initial_one, initial_tcp}
use Rattle.proof_stack.proofs.Runs.Playing.{comes_whole, leaves_from}

pub are_initial : IsInitialNet unbound hosts
are_initial = record { a = initial_one (Tcp initial) initial_tcp; b = initial_one (Tcp initial) initial_tcp; history = refl }

pub calls_run : IsRun no_names hosts calls
calls_run = (
  (refl, refl, refl, (refl, refl, refl)),
  ((refl, refl, refl, (refl, refl, refl)), ((refl, leaves_from A caller), ((refl, refl, comes_whole 0 refl), tt))),
)

falls_run : IsRun no_names (run hosts calls) falls
falls_run = (refl, ((refl, refl, comes_whole 1 refl), tt))

pub fell_run : IsRun no_names hosts fell
fell_run = IsRun-append no_names hosts calls falls calls_run falls_run

again_run : IsRun no_names (run hosts fell) again
again_run = ((refl, refl, comes_whole 0 refl), tt)

pub is_run : IsRun no_names hosts steps
is_run = IsRun-append no_names hosts fell again fell_run again_run
