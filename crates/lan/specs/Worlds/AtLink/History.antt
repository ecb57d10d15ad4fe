-- What a history of events and answers says of a socket.
use Rattle.std.specs.Prelude.{ℕ, ◌==◌, ◌&&◌, ◌||◌, Bool, true, false, if◌then◌else◌, List, [], ◌∷◌, ◌++◌, take, Option, Some, None}
use Rattle.tcp_refinement.specs.History.{closes_in}
use Rattle.tcp_block.specs.State as States
use Rattle.lan.specs.declared.at_link.history.answer.Answer.{Answer}
use Rattle.lan.specs.declared.at_link.history.answer.Answer.TheVariants as To
use Rattle.lan.specs.declared.at_link.history.event.Event.{Event}
use Rattle.lan.specs.declared.at_link.history.event.Side.{Side}
use Rattle.lan.specs.declared.at_link.history.record.Opening.{Opening}
use Rattle.lan.specs.Worlds.AtLink.Kinds.{same_side, Kind, kind_of}
use Rattle.lan.specs.Worlds.AtLink.Call.{SocketCall}
use Rattle.lan.specs.Worlds.AtLink.Kinds.Act.{Calls}
use Rattle.lan.specs.Worlds.AtLink.Kinds.Kind.{OfHost}
use Rattle.lan.specs.Worlds.AtLink.Call as Call

-- how many frames the hosts had sent, and how many waited for them, as an event came
pub record Counts : Type 0 where
  pub sent_a : ℕ
  pub sent_b : ℕ
  pub waiting_a : ℕ
  pub waiting_b : ℕ

-- an event that was taken, its answer, and of a close of a TCP socket the state that it found; a history is a list of them, the newest
-- first
pub record Entry : Type 0 where
  pub event : Event
  pub answer : Answer
  pub before : Counts
  pub found : Option States.State

-- THE CALLS OF A SOCKET

abbrev pub call_in : Kind → Side → ℕ → Option SocketCall
call_in (OfHost s (Calls j call)) side i = if same_side s side && (j == i) then Some call else None
call_in other side i = None

-- the call that it was, of the socket at this place of this host
abbrev pub call_of : Entry → Side → ℕ → Option SocketCall
call_of e side i = call_in (kind_of e.event) side i

-- THE STREAM OF A TCP SOCKET

abbrev pub bytes_written : Option SocketCall → Answer → List ℕ
bytes_written None answer = []
bytes_written (Some (Call.Send bytes)) (To.Count n) = take n bytes
bytes_written (Some call) answer = []

abbrev pub bytes_read : Option SocketCall → Answer → List ℕ
bytes_read None answer = []
bytes_read (Some (Call.Recv limit)) (To.Bytes bytes) = bytes
bytes_read (Some call) answer = []

abbrev pub closes : Option SocketCall → Option States.State → Bool
closes None found = false
closes (Some Call.Close) (Some state) = closes_in state
closes (Some call) found = false

abbrev pub opening_by : Option SocketCall → Answer → Option Opening
opening_by None answer = None
opening_by (Some (Call.Listen port)) To.Done = Some (record { local = port; remote = None })
opening_by (Some (Call.Connect remote port)) To.Done = Some (record { local = port; remote = Some remote.port })
opening_by (Some call) answer = None

-- the bytes that its sends accepted
abbrev pub written : List Entry → Side → ℕ → List ℕ
written [] side i = []
written (e ∷ past) side i = written past side i ++ bytes_written (call_of e side i) e.answer

-- the bytes that its reads gave
abbrev pub read : List Entry → Side → ℕ → List ℕ
read [] side i = []
read (e ∷ past) side i = read past side i ++ bytes_read (call_of e side i) e.answer

-- a close came in SYN-RECEIVED, ESTABLISHED or CLOSE-WAIT
abbrev pub is_closed_by : List Entry → Side → ℕ → Bool
is_closed_by [] side i = false
is_closed_by (e ∷ past) side i = is_closed_by past side i || closes (call_of e side i) e.found

abbrev pub first_of : Option Opening → Option Opening → Option Opening
first_of None later = later
first_of (Some opening) later = Some opening

-- how it was opened, by the first listen or connect that was accepted
abbrev pub opening : List Entry → Side → ℕ → Option Opening
opening [] side i = None
opening (e ∷ past) side i = first_of (opening past side i) (opening_by (call_of e side i) e.answer)

-- THE PORT OF A UDP SOCKET

abbrev pub port_by : Option SocketCall → Answer → ℕ → ℕ
port_by None answer before = before
port_by (Some (Call.Bind port)) To.Done before = port
port_by (Some Call.Close) To.Done before = 0
port_by (Some call) answer before = before

-- the port that it is bound to, 0 while it is unbound; it may have been bound at first
abbrev pub bound_port : (Side → ℕ → ℕ) → List Entry → Side → ℕ → ℕ
bound_port starts [] side i = starts side i
bound_port starts (e ∷ past) side i = port_by (call_of e side i) e.answer (bound_port starts past side i)
