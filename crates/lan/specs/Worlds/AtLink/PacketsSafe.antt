-- What holds of two hosts in every run, from hosts to which nothing has happened.
use Rattle.std.specs.Prelude.{◌≡◌, ℕ, List, [], ◌++◌, Some}
use Rattle.net_base.specs.Packets.{contents}
use Rattle.tcp_refinement.specs.Safe.{IsPrefixOf}
use Rattle.tcp_refinement.specs.Endpoints.{IsNameless}
use Rattle.tcp_refinement.specs.Promises.{IsInitial}
use Rattle.tcp_block.specs.Value.{TcpValue}
use Rattle.lan.specs.declared.at_link.history.event.Side.{Side}
use Rattle.lan.specs.declared.at_link.history.event.Side.TheVariants.{A, B}
use Rattle.lan.specs.Worlds.AtLink.Kinds.{other}
use Rattle.lan.specs.Worlds.AtLink.History.{written, read}
use Rattle.lan.specs.Worlds.AtLink.PeerSides.{ArePartners}
use Rattle.lan.specs.Worlds.AtLink.Reads.{ReadsWereAccepted, EndsWereTrue}
use Rattle.lan.specs.Worlds.AtLink.Parties.{Socket, Party, socket_at, Net, party}
use Rattle.lan.specs.Worlds.AtLink.Parties.Socket.{Tcp, Udp, Icmp, Raw}

-- FRESH

-- A TCP socket that is CLOSED, without endpoints, with nothing queued either way; a UDP socket with empty queues, which may be bound to
-- a port. Either may have a past: numbers, timers, held bytes.
abbrev pub IsInitialSocket : ℕ → Socket → Type 0
IsInitialSocket port (Tcp v) = IsInitial v × IsNameless v.tcb
IsInitialSocket port (Udp v) = (v.settings.endpoint.port ≡ port) × (contents v.received ≡ []) × (contents v.queued ≡ [])
IsInitialSocket port Icmp = Unit {0}
IsInitialSocket port Raw = Unit {0}

-- `starts` says which port each UDP socket is bound to
pub record IsInitialParty (starts : ℕ → ℕ) (p : Party) : Type 0 where
  pub sockets : (i : ℕ) (s : Socket) → socket_at p i ≡ Some s → IsInitialSocket (starts i) s
  pub segments : p.segments ≡ []
  pub datagrams : p.datagrams ≡ []

pub record IsInitialNet (starts : Side → ℕ → ℕ) (net : Net) : Type 0 where
  pub a : IsInitialParty (starts A) net.a
  pub b : IsInitialParty (starts B) net.b
  pub history : net.history ≡ []

-- SAFE

abbrev pub IsTcpAt : Net → Side → ℕ → TcpValue → Type 0
IsTcpAt net side i v = socket_at (party net side) i ≡ Some (Tcp v)

-- what its application read and what waits to be read
abbrev pub taken_in : Net → Side → ℕ → TcpValue → List ℕ
taken_in net side i v = read net.history side i ++ v.received.waiting

-- nothing was read or waits, and the send queue holds all that was written
pub record HasNothing (net : Net) (side : Side) (i : ℕ) (v : TcpValue) : Type 0 where
  pub taken : taken_in net side i v ≡ []
  pub queued : v.queued.queue ≡ written net.history side i

-- the send queue holds what was written but for its beginning, all of which was taken in
pub record HoldsRest (written queue taken : List ℕ) : Type 0 where
  pub gone : List ℕ
  pub rest : gone ++ queue ≡ written
  pub was_taken : IsPrefixOf gone taken

pub record IsSafe (starts : Side → ℕ → ℕ) (net : Net) : Type 0 where
  -- what a socket took in begins what its peer wrote
  pub prefix :
      (side : Side) (i j : ℕ) (v : TcpValue) → ArePartners net.history side i j → IsTcpAt net side i v
      → IsPrefixOf (taken_in net side i v) (written net.history (other side) j)
  -- only bytes that the peer took in have left the send queue, which holds the rest
  pub freed :
      (side : Side) (i j : ℕ) (v w : TcpValue) → ArePartners net.history side i j → IsTcpAt net side i v → IsTcpAt net (other side) j w
      → HoldsRest (written net.history side i) v.queued.queue (taken_in net (other side) j w)
  -- a socket without a peer has taken nothing in, and holds all that was written
  pub alone :
      (side : Side) (i : ℕ) (v : TcpValue) → ((j : ℕ) → ¬ (ArePartners net.history side i j)) → IsTcpAt net side i v
      → HasNothing net side i v
  -- where a read told the end of the stream, the peer was closed, and all that it wrote was read
  pub ends : EndsWereTrue net.history
  -- each datagram read had been accepted by the other host, with these bytes and ports
  pub reads : ReadsWereAccepted starts net.history
