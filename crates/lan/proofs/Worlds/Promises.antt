-- The laws of worlds, of a world that came from new hosts.
use Rattle.std.proofs.Common.{ℕ, List}
use Rattle.lan.specs.Worlds.AtLink.History.{Entry}
use Rattle.lan.specs.declared.at_link.history.event.Side.{Side}
use Rattle.lan.specs.declared.at_link.history.event.Side.TheVariants.{A, B}
use Rattle.lan.specs.Worlds.AtLink.PacketsSafe.{IsSafe}
use Rattle.lan.specs.Worlds.AtLink.Initial.{IsInitialWorld}
use Rattle.lan.specs.Worlds.AtLink.Refusals.{Table}
use Rattle.lan.specs.Worlds.AtLink.Origins.{medium_of}
use Rattle.lan.specs.Worlds.AtLink.Runs.{Starts, WorldValue, WorldRun, start, unused_both, counts_of}
use Rattle.lan.specs.Worlds.AtLink.Safe.{first_port, net_of}
use Rattle.lan.specs.Worlds.AtLink.Node.{NodeValue, Nodes, node}
use Rattle.lan.specs.Worlds.Events.{AreTyped}
use Rattle.lan.specs.Worlds.ReassembledDatagram.{ReassembledWasMade}
use Rattle.lan.specs.Worlds.FragmentFacts.{ReassembledWasSent, by_side}
use Rattle.lan.specs.Worlds.Hosts.RequestSilence.{requests, AreApart}
use Rattle.lan.specs.Worlds.Hosts.Damage.{DamageIsHarmless}
use Rattle.lan.specs.Worlds.Hosts.HostRuns.{IsHostRun}
use Rattle.lan.specs.Worlds.Hosts.Machine.{Turn, Machine, HostRun}
use Rattle.lan.specs.Worlds.Hosts.Quiet.{PollsWereQuiet}
use Rattle.lan.specs.Worlds.Hosts.Wire.{FramesAreApart}
use Rattle.lan.specs.Worlds.Provenance.{starts_of, both, world, HasCome}
use Rattle.lan.specs.Worlds.Promises.{IsSafeWorld}

abbrev pub HostsRun : Type 0
HostsRun =
    (starts : Starts) (history : List Entry) (hosts : Nodes) (side : Side)
    → WorldRun history (unused_both starts) hosts
    → IsHostRun (record { hosts = hosts; starts = starts; history = history }) side

abbrev pub RequestsAreApart : Type 0
RequestsAreApart = (start : Machine) (room : ℕ) (turns : List Turn) (now : Machine) → HostRun start room turns now → AreApart (requests turns)

abbrev pub PollsAreQuiet : Type 0
PollsAreQuiet =
    (starts : Starts) (history : List Entry) (hosts : Nodes)
    → WorldRun history (unused_both starts) hosts
    → PollsWereQuiet starts history (counts_of hosts)

abbrev pub WorldsAreSafe : Type 0
WorldsAreSafe =
    (starts : Starts) (history : List Entry) (hosts : Nodes)
    → IsInitialWorld starts
    → AreTyped history
    → WorldRun history (unused_both starts) hosts
    → IsSafe (first_port starts) (net_of (record { hosts = hosts; starts = starts; history = history }))

abbrev pub ReassembledWereMade : Type 0
ReassembledWereMade =
    (starts : Starts) (history : List Entry) (hosts : Nodes)
    → IsInitialWorld starts
    → AreTyped history
    → WorldRun history (unused_both starts) hosts
    → ReassembledWasMade (record { hosts = hosts; starts = starts; history = history })

abbrev pub ReassembledWereSent : Type 0
ReassembledWereSent =
    (starts : Starts) (history : List Entry) (hosts : Nodes)
    → IsInitialWorld starts
    → AreTyped history
    → WorldRun history (unused_both starts) hosts
    → (a : IsHostRun (record { hosts = hosts; starts = starts; history = history }) A)
    (b : IsHostRun (record { hosts = hosts; starts = starts; history = history }) B)
    → ReassembledWasSent (record { hosts = hosts; starts = starts; history = history }) (by_side a.turns b.turns)

abbrev pub FramesApart : Type 0
FramesApart =
    (starts : Starts) (history : List Entry) (hosts : Nodes) (side : Side)
    → IsInitialWorld starts
    → AreTyped history
    → WorldRun history (unused_both starts) hosts
    → (r : IsHostRun (record { hosts = hosts; starts = starts; history = history }) side)
    → FramesAreApart (medium_of (node hosts side)) (start starts side).slots r.turns

abbrev pub DamageWasHarmless : Type 0
DamageWasHarmless =
    (starts : Starts) (history : List Entry) (hosts : Nodes)
    → IsInitialWorld starts
    → AreTyped history
    → WorldRun history (unused_both starts) hosts
    → DamageIsHarmless hosts history

apart : RequestsAreApart → (w : WorldValue) (side : Side) (r : IsHostRun w side) → AreApart (requests r.turns)
apart law w side r = law _ _ r.turns _ r.run

pub well_run : (start_a start_b a b : NodeValue) (of_a of_b : Table) (history : List Entry)
    → HostsRun → RequestsAreApart → PollsAreQuiet → WorldsAreSafe → ReassembledWereMade → ReassembledWereSent → DamageWasHarmless → FramesApart →
    HasCome start_a start_b a b of_a of_b history
    → IsSafeWorld (world start_a start_b a b history)
well_run start_a start_b a b of_a of_b history hosts_run are_apart are_quiet are_safe were_made were_sent was_harmless frames_apart come =
    let starts = starts_of start_a start_b in
    let w = world start_a start_b a b history in
    let of_host_a = hosts_run starts history (both a b) A come.run in
    let of_host_b = hosts_run starts history (both a b) B come.run in
    record {
      sockets = are_safe starts history (both a b) come.initial come.typed come.run;
      run = come.run;
      run_a = of_host_a;
      run_b = of_host_b;
      quiet = are_quiet starts history (both a b) come.run;
      asks_a = apart are_apart w A of_host_a;
      asks_b = apart are_apart w B of_host_b;
      frames_a = frames_apart starts history (both a b) A come.initial come.typed come.run of_host_a;
      frames_b = frames_apart starts history (both a b) B come.initial come.typed come.run of_host_b;
      reassembled = were_sent starts history (both a b) come.initial come.typed come.run of_host_a of_host_b;
      made = were_made starts history (both a b) come.initial come.typed come.run;
      damage = was_harmless starts history (both a b) come.initial come.typed come.run;
    }
