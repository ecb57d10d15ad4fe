-- The run of a datagram between bound ports is a run.
use Rattle.std.proofs.Common.{refl}
use Rattle.lan.specs.declared.at_link.history.event.Side.TheVariants.{A, B}
use Rattle.socket_datagram.specs.Udp.{metadata_to}
use Rattle.socket_datagram.proofs.UdpPackets.{found}
use Rattle.lan.specs.Worlds.AtLink.Moves.{IsRun}
use Rattle.lan.specs.Worlds.AtLink.Parties.Socket.{Udp}
use Rattle.lan.specs.Worlds.AtLink.PacketsSafe.{IsInitialNet}
use Rattle.proof_stack.specs.Worlds.Hosts.{no_names, unbound, context, endpoint, text}
use Rattle.proof_stack.specs.Worlds.Datagrams.{hosts, steps, initial, queued_a, header}
use Rattle.proof_stack.proofs.Runs.Initial.{initial_one}

pub are_initial : IsInitialNet unbound hosts
are_initial = record { a = initial_one (Udp initial) (refl, refl, refl); b = initial_one (Udp initial) (refl, refl, refl); history = refl }

pub is_run : IsRun no_names hosts steps
is_run = (
  (refl, refl, refl, (refl, refl, refl)),
  (
    (refl, refl, refl, (refl, refl, refl)),
    (
      (refl, refl, refl, (refl, refl, refl)),
      (
        (refl, (found (context A) queued_a.settings (metadata_to (endpoint B 53)) text header refl, refl, refl)),
        ((refl, refl, (0, refl)), ((refl, refl, refl, (refl, refl, refl)), tt)),
      ),
    ),
  ),
)
