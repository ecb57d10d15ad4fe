-- What a history has to say of what was read: the datagrams (RFC 768) and the ends of streams (RFC 9293).
use Rattle.std.specs.Prelude.{◌≡◌, ◌⊎◌, ℕ, true, List, [], ◌∷◌}
use Rattle.ip_wire.specs.IpEndpoint.{IpEndpoint}
use Rattle.lan.specs.declared.at_link.history.answer.Answer.{Answer}
use Rattle.lan.specs.declared.at_link.history.answer.Answer.TheVariants as To
use Rattle.lan.specs.declared.at_link.history.answer.Fault.TheVariants as Fault
use Rattle.lan.specs.declared.at_link.history.event.Side.{Side}
use Rattle.lan.specs.Worlds.AtLink.Kinds.{other, Kind, kind_of, calls}
use Rattle.lan.specs.Worlds.AtLink.Kinds.Act.{Calls}
use Rattle.lan.specs.Worlds.AtLink.Kinds.Kind.{OfHost}
use Rattle.lan.specs.Worlds.AtLink.Call as Call
use Rattle.lan.specs.Worlds.AtLink.History.{Entry, written, read, is_closed_by, bound_port}
use Rattle.lan.specs.Worlds.AtLink.PeerSides.{ArePartners}

-- DATAGRAMS. `starts` says which ports the sockets were bound to at first.

-- a host accepted a datagram of these bytes to a destination port, from a socket that was bound to the source port then
pub record Accepts (starts : Side → ℕ → ℕ) (past : List Entry) (e : Entry) (sender : Side) (source destination : ℕ) (bytes : List ℕ) : Type 0 where
  pub socket : ℕ
  pub remote : IpEndpoint
  pub was_sent : kind_of e.event ≡ calls sender socket (Call.SendTo remote bytes)
  pub was_done : e.answer ≡ To.Done
  pub to_port : remote.port ≡ destination
  pub from_port : bound_port starts past sender socket ≡ source

-- it did so at some time
abbrev pub Accepted : (Side → ℕ → ℕ) → List Entry → Side → ℕ → ℕ → List ℕ → Type 0
Accepted starts [] sender source destination bytes = ⊥
Accepted starts (e ∷ past) sender source destination bytes =
    Accepts starts past e sender source destination bytes ⊎ Accepted starts past sender source destination bytes

-- a datagram that a host's socket read had been accepted by the other host, with these bytes, from the port that the reader sees, to the
-- port that the reader's socket is bound to
abbrev pub ReadWasAccepted : (Side → ℕ → ℕ) → List Entry → Kind → Answer → Type 0
ReadWasAccepted starts past (OfHost side (Calls i (Call.RecvFrom limit))) (To.FromEndpoint source bytes) =
    Accepted starts past (other side) source.port (bound_port starts past side i) bytes
ReadWasAccepted starts past kind answer = Unit {0}

-- and so had each that was read
abbrev pub ReadsWereAccepted : (Side → ℕ → ℕ) → List Entry → Type 0
ReadsWereAccepted starts [] = Unit {0}
ReadsWereAccepted starts (e ∷ past) = ReadWasAccepted starts past (kind_of e.event) e.answer × ReadsWereAccepted starts past

-- THE END OF A STREAM

-- the peer was closed, and all that it wrote was read
pub record HasEnded (past : List Entry) (side : Side) (i : ℕ) : Type 0 where
  pub peer_side : ℕ
  pub peer_sides : ArePartners past side i peer_side
  pub closed : is_closed_by past (other side) peer_side ≡ true
  pub complete : read past side i ≡ written past (other side) peer_side

-- a read that is answered by the end of the stream
abbrev pub EndWasTrue : List Entry → Kind → Answer → Type 0
EndWasTrue past (OfHost side (Calls i (Call.Recv limit))) (To.Error Fault.Finished) = HasEnded past side i
EndWasTrue past kind answer = Unit {0}

-- each answer over the history before it
abbrev pub EndsWereTrue : List Entry → Type 0
EndsWereTrue [] = Unit {0}
EndsWereTrue (e ∷ past) = EndWasTrue past (kind_of e.event) e.answer × EndsWereTrue past
