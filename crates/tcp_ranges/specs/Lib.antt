pub mod OutOfOrder
pub use Rattle.tcp_theory.specs.Numbers
pub use Rattle.tcp_theory.specs.ReceiveMap
