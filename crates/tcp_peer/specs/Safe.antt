-- What is promised of one side alongside a conforming peer.
use Rattle.std.specs.Prelude.{◌≡◌, ◌⊎◌, suc, ◌+◌, true}
use Rattle.std.specs.List.{AllByRecursion}
use Rattle.tcp_theory.specs.Safe.{IsPrefixOf}
use Rattle.tcp_theory.specs.Side.{taken_in, freed}
use Rattle.tcp_peer.specs.Peer.{End, HasAckedTo, IsHonest, as_end}
use Rattle.tcp_peer.specs.Run.{Scene}

pub record IsSafeBeside (peer : End) (w : Scene) : Type 0 where
  -- what was read and waits begins what the peer writes
  pub prefix : IsPrefixOf (taken_in w.side) peer.stream
  -- end of stream means that the peer's stream ends, and that all of it was taken in
  pub finished : w.side.took_fin ≡ true → (peer.ends ≡ true) × (taken_in w.side ≡ peer.stream)
  -- only bytes that the peer acknowledged are freed
  pub freed : (freed w.side ≡ 0) ⊎ ((peer.heard ≡ w.side.iss) × HasAckedTo peer w.came (suc w.side.iss + freed w.side))
  -- this side is a conforming peer, too: of the stream that its user wrote
  pub honest : AllByRecursion (IsHonest (as_end w.side) peer w.came) w.side.sent
