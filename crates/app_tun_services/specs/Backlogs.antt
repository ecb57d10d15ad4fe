-- A host's listeners, and what its services make of the connections that they accepted.
use Rattle.std.specs.Prelude.{◌≡◌, ℕ, ◌+◌, ◌<◌, ◌≤◌, Bool, true, false, List, [], ◌∷◌, length, map, slice_index_or, slice_set, None}
use Rattle.interface.specs.State.{State}
use Rattle.interface.specs.SocketHandle.{SocketHandle}
use Rattle.interface.specs.SocketStorage.{SocketStorage}
use Rattle.ip_wire.specs.IpListenEndpoint.{IpListenEndpoint}
use Rattle.app_tun_services.specs.Site.{initial_session}
use Rattle.app_tun_services.specs.declared.idle.Moment.{Moment}
use Rattle.app_tun_services.specs.declared.site.Session.{Session}
use Rattle.sockets.specs.declared.socket.Socket.{Socket}
use Rattle.interface.specs.Backlog.Calls.{initial_entry, given_back}
use Rattle.interface.specs.Backlog.Entries.{entry_at}
use Rattle.interface.specs.Backlog.Noted.{slot_at}
use Rattle.interface.specs.Backlog.Stages.{is_accepted}
use Rattle.interface.specs.declared.listener.entry.Entry.{Entry}
use Rattle.interface.specs.declared.listener.Listener.{Listener}
use Rattle.interface.specs.declared.listener.stage.Stage.TheVariants as Stage
use Rattle.app_tun_services.specs.Services.{first_slot, socket_count, keeper_slot, port_of, SlotServes, is_over}
use Rattle.app_tun_services.specs.declared.slot.Service.{Service}
use Rattle.app_tun_services.specs.declared.tally.Tally.{Tally}
use Rattle.app_tun_services.specs.Link.Drain.{DrainValue}

abbrev pub on_port : ℕ → IpListenEndpoint
on_port port = record { addr = None; port = port }

abbrev pub handle : ℕ → SocketHandle
handle slot = record { 0 = slot }

-- so many sockets stand at the slots from the first one on
pub record StandsFrom (first count : ℕ) (es : List Entry) : Type 0 where
  pub long : length es ≡ count
  pub handles : (i : ℕ) → i < count → (entry_at es i).handle.0 ≡ first + i

-- a service's sockets stand at its slots
abbrev pub StandAt : Service → List Entry → Type 0
StandAt service es = StandsFrom (first_slot service) (socket_count service) es

abbrev pub keepers_of : Service → List SocketHandle
keepers_of service = handle (keeper_slot service) ∷ []

-- a listener on a service's port, with its sockets and its keeper
pub record IsListener (service : Service) (l : Listener) : Type 0 where
  pub endpoint : l.endpoint ≡ on_port (port_of service)
  pub keepers : l.keepers.items ≡ keepers_of service
  pub stands : StandAt service l.entries.items

-- none of a service's sockets took a SYN
pub record AreInitialEntries (service : Service) (es : List Entry) : Type 0 where
  pub count : length es ≡ socket_count service
  pub each : (i : ℕ) → i < socket_count service → entry_at es i ≡ initial_entry (handle (first_slot service + i))

pub record IsInitialListener (service : Service) (l : Listener) : Type 0 where
  pub is : IsListener service l
  pub initial : AreInitialEntries service l.entries.items

-- A HOST

-- at its device, and how far the sockets of its listeners came
pub record HostState : Type 0 where
  pub net : State DrainValue
  pub echoes : List Entry
  pub pages : List Entry
  pub echo_sessions : List Session
  pub sessions : List Session
  pub tally : Tally

-- AN ACCEPTED CONNECTION

-- it is given back once it is over
abbrev pub ended_if : Bool → Entry → Entry
ended_if true e = record e { stage = Stage.Ending }
ended_if false e = e

abbrev pub session_at : List Session → ℕ → Session
session_at ss i = slice_index_or ss i initial_session

-- a session of a connection that is over is new, but for what it counted
abbrev pub session_after : Bool → Session → Session
session_after true s = record s { left = 0; closes = false; was_asked = false; seen = None }
session_after false s = s

abbrev pub EntryServesBy : Bool → Moment → Service → Entry → SocketStorage Socket → Session → Entry → SocketStorage Socket → Session → Type 0
EntryServesBy true m service e p s e' p' s' =
    (t : Session) × SlotServes m service p s p' t × (s' ≡ session_after (is_over p') t) × (e' ≡ ended_if (is_over p') e)
EntryServesBy false m service e p s e' p' s' = (p' ≡ p) × (s' ≡ s) × (e' ≡ e)

-- one that was accepted is served
abbrev pub EntryServes : Moment → Service → Entry → SocketStorage Socket → Session → Entry → SocketStorage Socket → Session → Type 0
EntryServes m service e p s e' p' s' = EntryServesBy (is_accepted e.stage) m service e p s e' p' s'

-- each connection that was accepted is served, and nothing else changes
pub record BacklogServes (m : Moment) (first : ℕ) (service : Service) (ps : List (SocketStorage Socket)) (ss : List Session) (es : List Entry)
    (ps' : List (SocketStorage Socket)) (ss' : List Session) (es' : List Entry) : Type 0 where
  pub slots : length ps' ≡ length ps
  pub sessions : length ss' ≡ length ss
  pub entries : length es' ≡ length es
  pub each : (i : ℕ) → i < length es
      → EntryServes m service (entry_at es i) (slot_at ps (first + i)) (session_at ss i) (entry_at es' i) (slot_at ps' (first + i)) (session_at ss' i)
  pub before : (n : ℕ) → n < first → slot_at ps' n ≡ slot_at ps n
  pub following : (n : ℕ) → first + length es ≤ n → slot_at ps' n ≡ slot_at ps n
  pub others : (n : ℕ) → length es ≤ n → session_at ss' n ≡ session_at ss n

-- the accepted socket of this handle is given back, if it is over
abbrev pub back_if : Bool → SocketHandle → List Entry → List Entry
back_if true handle es = map (given_back handle) es
back_if false handle es = es

-- a slot is served, and whether its connection is over
abbrev pub ServesAt : Moment → Service → ℕ → List (SocketStorage Socket) → Session → List (SocketStorage Socket) → Session → Bool → Type 0
ServesAt m service at ps s ps' t over =
    (p' : SocketStorage Socket) × SlotServes m service (slot_at ps at) s p' t × (ps' ≡ slice_set ps at p') × (over ≡ is_over p')

abbrev pub OneServesBy : Bool → Moment → Service → ℕ → Entry → List (SocketStorage Socket) → List Session → List Entry → List (SocketStorage Socket) →
    List Session → List Entry → Type 0
OneServesBy true m service at e ps ss es ps' ss' es' =
    (over : Bool) × (t : Session) × ServesAt m service e.handle.0 ps (session_at ss at) ps' t over
    × (ss' ≡ slice_set ss at (session_after over t)) × (es' ≡ back_if over e.handle es)
OneServesBy false m service at e ps ss es ps' ss' es' = (ps' ≡ ps) × (ss' ≡ ss) × (es' ≡ es)

-- one entry's connection is served, where its handle says
abbrev pub OneServes : Moment → Service → ℕ → List (SocketStorage Socket) → List Session → List Entry → List (SocketStorage Socket) → List Session →
    List Entry → Type 0
OneServes m service at ps ss es ps' ss' es' = OneServesBy (is_accepted (entry_at es at).stage) m service at (entry_at es at) ps ss es ps' ss' es'
