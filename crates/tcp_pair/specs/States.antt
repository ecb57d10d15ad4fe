-- A pair as a program shows it. What a side knows of its host has functions, which no value of a program has: so it stands alongside.
use Rattle.std.specs.Prelude.{ℕ, ℤ, List}
use Rattle.tcp_block.specs.Value.{TcpValue}
use Rattle.tcp_refinement.specs.declared.pair.event.SentSegment.{SentSegment}
use Rattle.tcp_refinement.specs.declared.pair.event.Side.{Side}
use Rattle.tcp_refinement.specs.declared.pair.event.Side.TheVariants.{A, B}
use Rattle.tcp_refinement.specs.Pair.History.{Entry}
use Rattle.tcp_refinement.specs.Pair.Sides.{Both}
use Rattle.tcp_refinement.specs.Pair.Values.{PairSide, PairValue, host_of}

-- a socket, the segments that it sent, oldest first, its last instant, and the state of its random words
pub record SideState : Type 0 where
  pub socket : TcpValue
  pub sent : List SentSegment
  pub instant : ℤ
  pub random : ℕ

pub record PairState : Type 0 where
  pub sides : Both SideState
  pub history : List Entry

-- on the host of this side, and without it
abbrev pub side_on : Side → SideState → PairSide
side_on side s = record { socket = s.socket; host = host_of side; sent = s.sent; instant = s.instant; random = s.random }

abbrev pub bare : PairSide → SideState
bare s = record { socket = s.socket; sent = s.sent; instant = s.instant; random = s.random }

-- both on their hosts: what the laws speak of
abbrev pub hosted : PairState → PairValue
hosted p = record { sides = record { a = side_on A p.sides.a; b = side_on B p.sides.b }; history = p.history }
