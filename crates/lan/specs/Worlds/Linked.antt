-- What holds of a host at its port while it polls: its own frames are of packets that it made, and what waits is of those that the other
-- host made.
use Rattle.std.specs.Prelude.{◌≤◌, ℕ, List}
use Rattle.interface.specs.State.{State}
use Rattle.lan.specs.Worlds.AtLink.Port.{PortValue}
use Rattle.lan.specs.Worlds.AtLink.Parties.{Party}
use Rattle.lan.specs.Worlds.Moves.Made.{MadeBy}
use Rattle.lan.specs.Worlds.Link.Frames.{Outgoing, medium_on}
use Rattle.lan.specs.Worlds.Link.Numbers.{count_numbered, AreFew, IsTied}
use Rattle.lan.specs.Worlds.Link.Sides.{Grows, AreSent, IsSender, IsReceiver}

-- what the other host `q` sent stays as it is
pub record IsOther (q : Party) (first next : ℕ) (out : List Outgoing) : Type 0 where
  pub sent : AreSent (MadeBy q) first next out
  pub few : AreFew out

-- the host itself, of which the party made so much, and which sent `n` packets that have a number at most; `first` is its first number, `base` and
-- `before` are its packets and frames when the poll began, and `others` the packets of the other host
pub record IsLinked (q : Party) (others base : List Outgoing) (first : ℕ) (before : List (List ℕ)) (n : ℕ) (s : State PortValue) (p : Party) : Type 0 where
  pub out : List Outgoing
  pub more : Grows base out
  pub sender : IsSender (MadeBy p) first s.host.inner s.host.left s.device.link.sent out
  pub receiver : IsReceiver (MadeBy q) others s.host.inner s.host.assemblers s.device.link.waiting
  pub count : count_numbered out ≤ n
  pub tied : IsTied (medium_on s.host.inner.hardware) base before out s.device.link.sent
