-- The run of a host that connects to one of two listeners is a run.
use Rattle.std.proofs.Common.{◌≡◌, true, false, Some, None, refl, ap, ◌∙◌}
use Rattle.lan.specs.declared.at_link.history.event.Side.TheVariants.{A}
use Rattle.lan.specs.declared.at_link.history.record.Opening.{Opening}
use Rattle.lan.specs.Worlds.AtLink.PeerSides.{ArePartners, are_paired}
use Rattle.lan.specs.Worlds.AtLink.Moves.{IsRun, run}
use Rattle.lan.specs.Worlds.AtLink.Parties.Socket.{Tcp}
use Rattle.lan.specs.Worlds.AtLink.PacketsSafe.{IsInitialNet}
use Rattle.proof_stack.specs.Worlds.Candidates.{caller, hosts, steps}
use Rattle.proof_stack.specs.Worlds.Hosts.{no_names, unbound}
use Rattle.proof_stack.specs.Worlds.Streams.{initial}
use Rattle.proof_stack.proofs.Runs.Initial.{initial_one, initial_two, initial_tcp, some_same}
use Rattle.proof_stack.proofs.Runs.Playing.{comes_whole, leaves_from}

pub are_initial : IsInitialNet unbound hosts
are_initial = record { a = initial_one (Tcp initial) initial_tcp; b = initial_two (Tcp initial) initial_tcp; history = refl }

pub is_run : IsRun no_names hosts steps
is_run = (
  (refl, refl, refl, (refl, refl, refl)),
  (
    (refl, refl, refl, (refl, refl, refl)),
    ((refl, refl, refl, (refl, refl, refl)), ((refl, leaves_from A caller), ((refl, refl, comes_whole 0 refl), tt))),
  ),
)

abbrev to_second : Opening
to_second = record { local = 49_500; remote = Some 81 }

pub second : ArePartners (run hosts steps).history A 0 1
second = record { one = to_second; another = record { local = 81; remote = None }; opened = refl; peer_side_opened = refl; paired = refl }

abbrev at_first : Opening
at_first = record { local = 80; remote = None }

pub not_first : ¬ (ArePartners (run hosts steps).history A 0 0)
not_first p =
    let one : to_second ≡ p.one = some_same to_second p.one p.opened in
    let another : at_first ≡ p.another = some_same at_first p.another p.peer_side_opened in
    let clash : false ≡ true = ap (λ o. are_paired o at_first) one ∙ ap (λ o. are_paired p.one o) another ∙ p.paired in
    cc

pub ruleset candidates = (is_run, are_initial, second, not_first)
