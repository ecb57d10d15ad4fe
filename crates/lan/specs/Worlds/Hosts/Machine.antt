-- A host as a machine: what it takes, answers and sends at a turn, and what it becomes.
use Rattle.std.specs.Prelude.{◌≡◌, ℕ, ◌-◌, ℤ, pos, false, List, [], ◌∷◌, ◌++◌, length, Option}
use Rattle.sim_link.specs.DeviceCapabilities.{DeviceCapabilities}
use Rattle.interface.specs.Host.{HostValue}
use Rattle.iface_egress.specs.Departure.{Departure}
use Rattle.iface_egress.specs.IsTransmitted.{frame_of}
use Rattle.iface_egress.specs.declared.socket_set.SocketStorage.{SocketStorage}
use Rattle.interface.specs.Touches.{Silences}
use Rattle.iface_tables.specs.Inner.{InnerValue}
use Rattle.lan.specs.Worlds.AtLink.Kinds.{Act}
use Rattle.lan.specs.Worlds.AtLink.Kinds.Act.{Opens, Polls}
use Rattle.lan.specs.Worlds.AtLink.Answer.{Answer}
use Rattle.lan.specs.Worlds.AtLink.Port.{LinkEnd}
use Rattle.lan.specs.Worlds.AtLink.Node.{NodeValue}
use Rattle.lan.specs.Worlds.AtLink.Steps.{Acts}
use Rattle.sockets.specs.declared.socket.Socket.{Socket}
use Rattle.tcp_block.specs.State.{State}

-- a host with its sockets, and what its device says of itself, whatever link it is at
pub record Machine : Type 0 where
  pub host : HostValue
  pub slots : List (SocketStorage Socket)
  pub capabilities : DeviceCapabilities

abbrev pub machine_of : NodeValue → Machine
machine_of s = record { host = s.host; slots = s.slots; capabilities = s.link.capabilities }

abbrev pub at_link : Machine → LinkEnd → NodeValue
at_link m link = record { host = m.host; slots = m.slots; link = link }

-- One turn of a host: what it does; for how many frames its device has room then; the frames that it takes, the oldest first; what it
-- answers, and of a close of a TCP socket the state that it found; what leaves, the newest first; and this as frames, the oldest first.
pub record Turn : Type 0 where
  pub act : Act
  pub room : ℕ
  pub taken : List (List ℕ)
  pub answer : Answer
  pub found : Option State
  pub departures : List Departure
  pub sent : List (List ℕ)

-- the frames of departures from a host
abbrev pub frames_of : InnerValue → List Departure → List (List ℕ)
frames_of i [] = []
frames_of i (d ∷ ds) = frames_of i ds ++ frame_of i d ∷ []

-- the instant of a poll, at which frames leave
abbrev pub instant_of : Act → ℤ
instant_of (Polls instant budget) = instant
instant_of act = pos 0

-- The machine makes this turn and becomes the next one, at some end of the link, of its device. What it takes are the first of the frames that wait
-- there, and what it sends joins those that were sent. Its own requests leave when its silence is over, and begin another.
pub record HostStep (m : Machine) (turn : Turn) (m' : Machine) : Type 0 where
  pub link : LinkEnd
  pub link_after : LinkEnd
  pub alone : m.host.inner.host_requirements ≡ false
  pub device : link.capabilities ≡ m.capabilities
  pub device_after : link_after.capabilities ≡ m.capabilities
  pub stays : m'.capabilities ≡ m.capabilities
  pub acts : Acts (at_link m link) turn.act turn.answer turn.found (at_link m' link_after)
  pub room : link.room ≡ turn.room
  pub takes : link.waiting ≡ turn.taken ++ link_after.waiting
  pub joins : link_after.sent ≡ link.sent ++ turn.sent
  pub sends : turn.sent ≡ frames_of m.host.inner turn.departures
  pub asks : Silences (instant_of turn.act) turn.departures m.host.inner.neighbors.silent m'.host.inner.neighbors.silent

-- ROOM

-- how much room an act leaves after so many frames
abbrev pub room_following : Act → ℕ → ℕ → ℕ
room_following (Opens n) room frames = n
room_following act room frames = room - frames

-- how much room a device has that began with so much, after these turns, the newest first
abbrev pub room_after : ℕ → List Turn → ℕ
room_after first [] = first
room_after first (turn ∷ past) = room_following turn.act (room_after first past) (length turn.departures)

-- RUNS

-- these turns, the newest first, lead from one machine to the other, each with the room that those before it left
abbrev pub HostRun : Machine → ℕ → List Turn → Machine → Type 0
HostRun start room [] now = now ≡ start
HostRun start room (turn ∷ past) now =
    (before : Machine) × HostRun start room past before × (turn.room ≡ room_after room past) × HostStep before turn now
