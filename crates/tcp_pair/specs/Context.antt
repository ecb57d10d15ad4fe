-- What a side of a pair knows, as a value.
use Rattle.std.specs.Prelude.{ℕ, ℤ}
use Rattle.net_base.specs.RandomWords.{next_state}
use Rattle.socket_context.specs.Context.{ContextValue}
use Rattle.tcp_refinement.specs.declared.pair.event.Side.{Side}
use Rattle.tcp_refinement.specs.declared.pair.event.Side.TheVariants.{A, B}
use Rattle.tcp_refinement.specs.Pair.Values.{context_on, host_of}

-- which side it is, its last instant, and the state of its random words
pub record PairContextValue : Type 0 where
  pub side : Side
  pub instant : ℤ
  pub random : ℕ

-- the seed of its random words
abbrev pub seed_of : Side → ℕ
seed_of A = 1
seed_of B = 2

-- to a socket: as `context_at` has it
abbrev pub context_of : PairContextValue → ContextValue
context_of c = context_on (host_of c.side) c.instant c.random

abbrev pub drawn : PairContextValue → PairContextValue
drawn c = record c { random = next_state c.random }
