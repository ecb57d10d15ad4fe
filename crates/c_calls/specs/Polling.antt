-- A poll of an interface at its link.
use Rattle.std.specs.Prelude.{ℕ, ℤ, Bool}
use Rattle.interface.specs.Polls.{HostPolls}
use Rattle.interface.specs.State.{State}
use Rattle.c_calls.specs.Link.{LinkValue, LinkMove}

-- over its sockets, with what the host does of its own before
pub record LinkPolls (now : ℤ) (budget : ℕ) (s : State LinkValue) (changed : Bool) (s' : State LinkValue) : Type 0 where
  pub polls : HostPolls LinkMove now budget s changed s'
