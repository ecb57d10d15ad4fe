-- What is kept of TCP sockets and of the segments that were made.
use Rattle.std.proofs.Common.{◌≡◌, ◌⊎◌, ℕ, List, [], Some, None}
use Rattle.tcp_refinement.specs.Segment.Control.{Rst}
use Rattle.tcp_refinement.specs.Endpoints.{Ports, HasPorts, IsNameless}
use Rattle.tcp_refinement.specs.Host.{Made, source_port, destination_port, seen_of, past_at}
use Rattle.tcp_refinement.specs.Promises.{IsInitial, KeepsAlone}
use Rattle.tcp_refinement.specs.Tie.{Keeps, no_past}
use Rattle.tcp_block.specs.FourTuple.{FourTuple}
use Rattle.tcp_block.specs.Value.{TcpValue}
use Rattle.lan.specs.declared.at_link.history.event.Side.{Side}
use Rattle.lan.specs.declared.at_link.history.record.Opening.{Opening}
use Rattle.lan.specs.Worlds.AtLink.Kinds.{other}
use Rattle.lan.specs.Worlds.AtLink.History.{Entry, opening}
use Rattle.lan.specs.Worlds.AtLink.Paired.{told}
use Rattle.lan.specs.Worlds.AtLink.PeerSides.{ArePartners}
use Rattle.lan.specs.Worlds.AtLink.Parties.{Party, socket_at}
use Rattle.lan.specs.Worlds.AtLink.Parties.Socket.{Tcp}
use Rattle.lan.proofs.Worlds.AtLink.Lists.{Each}

abbrev pub ports_of : Opening → Ports
ports_of o = record { local = o.local; remote = o.remote }

-- ONE SOCKET

-- never opened: nothing was seen of it
pub record IsUntouched (h : List Entry) (side : Side) (i : ℕ) (v : TcpValue) : Type 0 where
  pub initial : IsInitial v
  pub nameless : IsNameless v.tcb
  pub nothing : told h side i ≡ no_past []

-- a socket of this host connects from a port to another
pub record ConnectsTo (h : List Entry) (side : Side) (port target : ℕ) : Type 0 where
  pub slot : ℕ
  pub by : Opening
  pub opened : opening h side slot ≡ Some by
  pub from : by.local ≡ port
  pub to : by.remote ≡ Some target

-- a socket that was opened so speaks with a port of the other host: the one that it names, or one that calls it
abbrev pub SpeaksWith : List Entry → Side → Opening → ℕ → Type 0
SpeaksWith h side o port = (o.remote ≡ Some port) ⊎ ((o.remote ≡ None) × ConnectsTo h (other side) port o.local)

pub record TcpOk (h : List Entry) (side : Side) (made : List Made) (i : ℕ) (v : TcpValue) : Type 0 where
  pub untouched : opening h side i ≡ None → IsUntouched h side i v
  pub ports : (o : Opening) → opening h side i ≡ Some o → HasPorts (ports_of o) v.tcb
  pub heard : (o : Opening) → opening h side i ≡ Some o → (pair : FourTuple) → v.tcb.names.pair ≡ Some pair → SpeaksWith h side o pair.remote_port
  pub alone :
      (o : Opening) → opening h side i ≡ Some o → ((j : ℕ) → ¬ (ArePartners h side i j))
      → KeepsAlone v (past_at o.local made (told h side i))

-- SEGMENTS

-- it went from an opened socket's port to one that the socket speaks with
pub record WasSent (h : List Entry) (side : Side) (x : Made) : Type 0 where
  pub slot : ℕ
  pub by : Opening
  pub opened : opening h side slot ≡ Some by
  pub from : by.local ≡ source_port x
  pub to : SpeaksWith h side by (destination_port x)

-- each is a reset, or was sent by a socket
abbrev pub SegmentOk : List Entry → Side → Made → Type 0
SegmentOk h side x = ((seen_of x).control ≡ Rst) ⊎ WasSent h side x

-- A HOST, AND BOTH

pub record StreamsOk (h : List Entry) (side : Side) (p : Party) : Type 0 where
  pub sockets : (i : ℕ) (v : TcpValue) → socket_at p i ≡ Some (Tcp v) → TcpOk h side p.segments i v
  pub made : Each (SegmentOk h side) p.segments

-- peers keep the invariant between two sockets
abbrev pub PairsOk : List Entry → Side → Party → Party → Type 0
PairsOk h side p q =
    (i j : ℕ) (v w : TcpValue) (a : ArePartners h side i j) → socket_at p i ≡ Some (Tcp v) → socket_at q j ≡ Some (Tcp w)
    → Keeps v (past_at a.one.local p.segments (told h side i)) w (past_at a.another.local q.segments (told h (other side) j))
