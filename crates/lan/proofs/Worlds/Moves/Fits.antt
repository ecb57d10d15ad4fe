-- Wherever two hosts came from a new start, their sockets are fit.
use Rattle.std.proofs.Common.{List, Option, Some, None}
use Rattle.sockets.specs.declared.socket.Socket.{Socket}
use Rattle.lan.specs.Worlds.AtLink.History.{Entry}
use Rattle.lan.specs.Worlds.AtLink.Calls.{Did}
use Rattle.lan.specs.Worlds.AtLink.Does.{does}
use Rattle.lan.specs.Worlds.AtLink.Initial.{IsInitialWorld}
use Rattle.lan.specs.Worlds.AtLink.Runs.{Starts, unused_both, WorldRun}
use Rattle.lan.specs.Worlds.AtLink.Node.{Nodes}
use Rattle.lan.specs.Worlds.Moves.Fit.{IsFit, NamesPorts, AreFit}
use Rattle.lan.specs.Worlds.Moves.Raws.{QueuesForeign}
use Rattle.lan.proofs.Worlds.Moves.EachRun.{IsOfRuns, Keeps, runs_of_each}
use Rattle.lan.proofs.Worlds.Moves.EachSocket.{IsOfSockets}
use Rattle.lan.proofs.Worlds.Moves.Ports.{named_runs}
use Rattle.lan.proofs.Worlds.Moves.RawQueues.{foreign_runs}

module _ (V W : Socket → Type 0) where
  abbrev Both : Socket → Type 0
  Both s = V s × W s

  both_sockets : IsOfSockets V → IsOfSockets W → IsOfSockets Both
  both_sockets v w = record {
    offers = λ cx s s' answer offers both. (v.offers cx s s' answer offers both.0, w.offers cx s s' answer offers both.1);
    settles = λ sent s both. (v.settles sent s both.0, w.settles sent s both.1);
    packet = λ ip payload s both. (v.packet ip payload s both.0, w.packet ip payload s both.1);
    icmpv4 = λ ip message bytes s both. (v.icmpv4 ip message bytes s both.0, w.icmpv4 ip message bytes s both.1);
    icmpv6 = λ ip message bytes s both. (v.icmpv6 ip message bytes s both.0, w.icmpv6 ip message bytes s both.1);
    datagram = λ cx ip udp bytes s s' takes both. (v.datagram cx ip udp bytes s s' takes both.0, w.datagram cx ip udp bytes s s' takes both.1);
    segment = λ cx ip header bytes s named both. (v.segment cx ip header bytes s named both.0, w.segment cx ip header bytes s named both.1);
  }

  both_kept : (o : Option (Did Socket)) → Keeps V o → Keeps W o → Keeps Both o
  both_kept None first second = tt
  both_kept (Some d) first second = (first, second)

  both_runs : IsOfRuns V → IsOfRuns W → IsOfRuns Both
  both_runs v w = record {
    polls = both_sockets v.polls w.polls;
    calls = λ cx s call foreign both. both_kept (does cx s call) (v.calls cx s call foreign both.0) (w.calls cx s call foreign both.1);
    unused = λ s unused. (v.unused s unused, w.unused s unused);
  }

pub fit_runs : IsOfRuns IsFit
fit_runs = both_runs QueuesForeign NamesPorts foreign_runs named_runs

pub worlds_fit : (starts : Starts) → IsInitialWorld starts → (history : List Entry) (hosts : Nodes) → WorldRun history (unused_both starts) hosts →
    AreFit hosts
worlds_fit starts initial history hosts ran = runs_of_each IsFit fit_runs starts initial history hosts ran
