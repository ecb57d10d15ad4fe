-- Hosts that know throughout their polls where their frames go: they know each other's hardware address, or their medium has none.
use Rattle.std.specs.Prelude.{◌≡◌, ℕ, ℤ, true, IsTrue, List, [], ◌∷◌, ◌++◌, Some, IfSome, slice_get}
use Rattle.std.specs.List.{AllByRecursion}
use Rattle.wire_ip.specs.Ip.{destination_of}
use Rattle.ip_wire.specs.HardwareAddress.{HardwareAddress}
use Rattle.ip_wire.specs.IpAddress.{IpAddress}
use Rattle.tcp_state.specs.Endpoints.{remote_of}
use Rattle.tcp_state.specs.declared.endpoints.FourTuple.{FourTuple}
use Rattle.tcp_block.specs.Offers.{offer_of}
use Rattle.iface_egress.specs.Meta.{neighbor_of, unmarked}
use Rattle.iface_egress.specs.declared.socket_set.Item.{Item}
use Rattle.iface_egress.specs.declared.socket_set.SocketStorage.{SocketStorage}
use Rattle.iface_ingress.specs.Socket.{Socket}
use Rattle.iface_tables.specs.Inner.{has_neighbor}
use Rattle.lan.specs.declared.at_link.history.event.Side.{Side}
use Rattle.lan.specs.Worlds.AtLink.History.{Entry}
use Rattle.lan.specs.Worlds.AtLink.Kinds.{Kind, kind_of, other}
use Rattle.lan.specs.Worlds.AtLink.Kinds.Act.{Polls}
use Rattle.lan.specs.Worlds.AtLink.Kinds.Kind.{OfHost}
use Rattle.lan.specs.Worlds.AtLink.Moves.{Move, Step}
use Rattle.lan.specs.Worlds.AtLink.Moves.Move.{Offers}
use Rattle.lan.specs.Worlds.AtLink.Runs.{Starts}
use Rattle.lan.specs.Worlds.AtLink.Node.{NodeValue, Nodes, node}
use Rattle.lan.specs.Worlds.Moves.HopLimit.{KnowsHop}
use Rattle.lan.specs.Worlds.Still.{StillRun}
use Rattle.sim_link.specs.Port.{has_tx_token}

-- In a poll at this instant, whichever frames it took, the host knew throughout to which hardware address the frames for a destination go.
abbrev pub KnowsThroughout : ℤ → NodeValue → NodeValue → IpAddress → HardwareAddress → Type 0
KnowsThroughout instant old new remote to =
    (frames : List (List ℕ)) → old.link.waiting ≡ frames ++ new.link.waiting → KnowsHop old.host.inner instant frames new.host.inner remote to

-- what a TCP socket offers for a destination of which this is known goes
abbrev pub IsSentTo : (IpAddress → HardwareAddress → Type 0) → Move → Type 0
IsSentTo knows (Offers at cx v from sent) =
    IfSome (offer_of cx v).socket.offered (λ o. (to : HardwareAddress) → knows (destination_of o.header) to → sent ≡ true)
IsSentTo knows move = Unit {0}

-- so it is in a poll after which the link of its host gives leave to send
abbrev pub AreSentTo : Kind → Nodes → Nodes → List Step → Type 0
AreSentTo (OfHost side (Polls instant budget)) old new steps =
    IsTrue (has_tx_token (node new side).link)
    → AllByRecursion (λ step. IsSentTo (KnowsThroughout instant (node old side) (node new side)) step.move) steps
AreSentTo kind old new steps = Unit {0}

-- BOTH HOSTS

-- In a poll a host has its hardware address, and its frames for the remote address of its connection go to the other host's throughout.
abbrev pub KnowsOther : (Side → HardwareAddress) → (Side → FourTuple) → Kind → Nodes → Nodes → Type 0
KnowsOther own pairs (OfHost side (Polls instant budget)) old new =
    ((node old side).host.inner.hardware ≡ own side)
    × KnowsThroughout instant (node old side) (node new side) (remote_of (pairs side).addresses) (own (other side))
KnowsOther own pairs kind old new = Unit {0}

-- so it is in each of the later polls
abbrev pub KnowEachOther : (Side → HardwareAddress) → (Side → FourTuple) → (starts : Starts) (past more : List Entry) (hosts : Nodes)
    → StillRun starts (more ++ past) hosts → Type 0
KnowEachOther own pairs starts past [] hosts still = Unit {0}
KnowEachOther own pairs starts past (e ∷ more) hosts still =
    KnowEachOther own pairs starts past more still.0 still.1 × KnowsOther own pairs (kind_of e.event) still.0 hosts

-- WHO WAITS

-- if the socket at this place of a host is marked as one that waits, its host knows the neighbor that it waits for
abbrev pub IsMarkedForKnown : ℕ → NodeValue → Type 0
IsMarkedForKnown slot s =
    (at : SocketStorage Socket) (item : Item Socket) → slice_get s.slots slot ≡ Some at → at.inner ≡ Some item
    → IfSome (neighbor_of item.meta) (λ neighbor. has_neighbor s.host.inner neighbor ≡ true)

-- the socket at this place of a host isn't marked
abbrev pub IsUnmarkedAt : ℕ → NodeValue → Type 0
IsUnmarkedAt slot s =
    (at : SocketStorage Socket) (item : Item Socket) → slice_get s.slots slot ≡ Some at → at.inner ≡ Some item → item.meta ≡ unmarked
