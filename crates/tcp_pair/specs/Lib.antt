pub mod Context
pub mod States
pub mod Ends
pub mod Invariant
pub mod Settling
-- what makes a pair, and what it promises
pub use Rattle.tcp_refinement.specs.Promises
pub use Rattle.tcp_refinement.specs.Pair.Safe
