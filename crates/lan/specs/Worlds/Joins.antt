-- What holds of both hosts and their link between two events.
use Rattle.std.specs.Prelude.{◌≡◌, ◌≤◌, ℕ, List}
use Rattle.lan.specs.Worlds.AtLink.Kinds.{other, Kind}
use Rattle.lan.specs.Worlds.AtLink.Kinds.Kind.{OfHost, OfLink}
use Rattle.lan.specs.Worlds.AtLink.Kinds.Act.{Calls, Sets, Opens, Asks, Polls}
use Rattle.lan.specs.Worlds.AtLink.Side.{Side}
use Rattle.lan.specs.Worlds.AtLink.Parties.{Party, Net, party}
use Rattle.lan.specs.Worlds.AtLink.Node.{NodeValue, Nodes, node}
use Rattle.lan.specs.Worlds.Moves.Made.{MadeBy}
use Rattle.lan.specs.Worlds.Link.Frames.{Outgoing, medium_on}
use Rattle.lan.specs.Worlds.Link.Numbers.{count_numbered}
use Rattle.lan.specs.Worlds.Link.Sides.{IsSender, IsReceiver}

-- a host that sends: its own packets, and the frames of them
abbrev pub Sends : Party → ℕ → NodeValue → List Outgoing → Type 0
Sends p first s out = IsSender (MadeBy p) first s.host.inner s.host.left s.link.sent out

-- what waits for a host and what it holds of fragments is of the other host's packets
abbrev pub Receives : Party → List Outgoing → NodeValue → Type 0
Receives q others s = IsReceiver (MadeBy q) others s.host.inner s.host.assemblers s.link.waiting

-- `firsts` are the numbers that the hosts began with, and `most` says how many packets that have one each sent at most
pub record AreJoined (firsts most : Side → ℕ) (hosts : Nodes) (net : Net) : Type 0 where
  pub out : Side → List Outgoing
  pub medium : medium_on hosts.a.host.inner.hardware ≡ medium_on hosts.b.host.inner.hardware
  pub device : (side : Side) → (node hosts side).link.capabilities.medium ≡ medium_on (node hosts side).host.inner.hardware
  pub sends : (side : Side) → Sends (party net side) (firsts side) (node hosts side) (out side)
  pub receives : (side : Side) → Receives (party net (other side)) (out (other side)) (node hosts side)
  pub counted : (side : Side) → count_numbered (out side) ≤ most side

-- an event that is neither a poll nor a setting
abbrev pub IsPlain : Kind → Type 0
IsPlain (OfHost side (Calls i call)) = Unit {0}
IsPlain (OfHost side (Sets setting)) = ⊥
IsPlain (OfHost side (Opens n)) = Unit {0}
IsPlain (OfHost side (Asks t)) = Unit {0}
IsPlain (OfHost side (Polls t budget)) = ⊥
IsPlain (OfLink act) = Unit {0}
