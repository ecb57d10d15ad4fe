-- What is promised of two sides whose segments come from one another.
use Rattle.tcp_theory.specs.Run.{World}
use Rattle.tcp_theory.specs.Safe.{AreSafe}
use Rattle.tcp_peer.specs.Peer.{as_end}
use Rattle.tcp_peer.specs.Safe.{IsSafeBeside}
use Rattle.tcp_net.specs.Joint.{Joint}

abbrev pub world_of : Joint → World
world_of w = record { a = w.a.side; b = w.b.side }

pub record ArePeers (w : Joint) : Type 0 where
  -- each is safe beside the end that the other is, and is honest to it
  pub a : IsSafeBeside (as_end w.b.side) w.a
  pub b : IsSafeBeside (as_end w.a.side) w.b
  -- the two-sided promise: prefix, freed, end of stream
  pub streams : AreSafe (world_of w)
