-- How far each socket of a backlog came, and which of them listen again.
use Rattle.std.specs.Prelude.{◌≡◌, ◌≢◌, ℕ, ◌<◌, Bool, true, false, if◌then◌else◌, List, length, slice_index_or, slice_set, Option, Some, None}
use Rattle.iface_egress.specs.Meta.{unmarked}
use Rattle.iface_egress.specs.Set.{free}
use Rattle.iface_egress.specs.declared.socket_meta.Meta.{Meta}
use Rattle.iface_egress.specs.declared.socket_set.Item.{Item}
use Rattle.iface_egress.specs.declared.socket_set.SocketStorage.{SocketStorage}
use Rattle.ip_wire.specs.IpListenEndpoint.{IpListenEndpoint}
use Rattle.iface_ingress.specs.Socket.{Socket}
use Rattle.iface_ingress.specs.Socket.TheVariants as Kind
use Rattle.iface_ingress.specs.State.{State}
use Rattle.iface_ingress.specs.TcpStates.{is_closed}
use Rattle.iface_ingress.specs.TcpCalls.{listen_after}
use Rattle.iface_ingress.specs.TcpValue.{TcpValue}
use Rattle.interface.specs.declared.listener.entry.Entry.{Entry}
use Rattle.interface.specs.declared.listener.stage.Stage.{Stage}
use Rattle.interface.specs.Backlog.Entries.{entry_at}
use Rattle.interface.specs.Backlog.Stages.{is_accepted, stage_after}

-- the place of this number, a free one past the last
abbrev pub slot_at : List (SocketStorage Socket) → ℕ → SocketStorage Socket
slot_at ps n = slice_index_or ps n free

-- the state of a TCP socket
abbrev pub socket_state : Socket → Option State
socket_state (Kind.Tcp v) = Some v.tcb.state
socket_state s = None

abbrev pub item_state : Option (Item Socket) → Option State
item_state None = None
item_state (Some item) = socket_state item.socket

abbrev pub state_at : SocketStorage Socket → Option State
state_at slot = item_state slot.inner

-- a closed socket listens on this endpoint
abbrev pub relisted : IpListenEndpoint → TcpValue → TcpValue
relisted endpoint v = if is_closed v.tcb.state then listen_after v endpoint else v

abbrev pub relisted_socket : IpListenEndpoint → Socket → Socket
relisted_socket endpoint (Kind.Tcp v) = Kind.Tcp (relisted endpoint v)
relisted_socket endpoint s = s

-- it waits for no neighbour any more: that was on the way to the remote
abbrev pub unmarked_if : Bool → Meta → Meta
unmarked_if true m = unmarked
unmarked_if false m = m

abbrev pub relisted_mark : Socket → Meta → Meta
relisted_mark (Kind.Tcp v) m = unmarked_if (is_closed v.tcb.state) m
relisted_mark s m = m

abbrev pub relisted_item : IpListenEndpoint → Option (Item Socket) → Option (Item Socket)
relisted_item endpoint None = None
relisted_item endpoint (Some item) =
    Some (record { meta = relisted_mark item.socket item.meta; socket = relisted_socket endpoint item.socket })

abbrev pub relisted_slot : IpListenEndpoint → SocketStorage Socket → SocketStorage Socket
relisted_slot endpoint slot = record { inner = relisted_item endpoint slot.inner }

-- an entry comes to a stage at this time, or was there before
abbrev pub ComesTo : ℕ → Stage → Entry → Entry → Type 0
ComesTo now stage e e' =
    (e'.handle ≡ e.handle) × (e'.stage ≡ stage) × (stage ≡ e.stage → e'.since ≡ e.since) × (stage ≢ e.stage → e'.since ≡ now)

-- the entry of a socket in this state; without a socket it is as it was
abbrev pub IsNoted : ℕ → Option State → Entry → Entry → Type 0
IsNoted now None e e' = e' ≡ e
IsNoted now (Some state) e e' = ComesTo now (stage_after e.stage state) e e'

-- a socket that isn't its user's is seen, and listens again if it was closed
abbrev pub IsSeen : IpListenEndpoint → ℕ → List (SocketStorage Socket) → Entry → List (SocketStorage Socket) → Entry → Type 0
IsSeen endpoint now ps e ps' e' =
    IsNoted now (state_at (slot_at ps e.handle.0)) e e'
    × (ps' ≡ slice_set ps e.handle.0 (relisted_slot endpoint (slot_at ps e.handle.0)))

-- one that is its user's isn't touched
abbrev pub NotesBy : Bool → IpListenEndpoint → ℕ → List (SocketStorage Socket) → Entry → List (SocketStorage Socket) → Entry → Type 0
NotesBy true endpoint now ps e ps' e' = (e' ≡ e) × (ps' ≡ ps)
NotesBy false endpoint now ps e ps' e' = IsSeen endpoint now ps e ps' e'

abbrev pub NotesOne : IpListenEndpoint → ℕ → List (SocketStorage Socket) → Entry → List (SocketStorage Socket) → Entry → Type 0
NotesOne endpoint now ps e ps' e' = NotesBy (is_accepted e.stage) endpoint now ps e ps' e'

-- the entry's socket isn't its user's, and this is its slot
abbrev pub IsWaitingAt : List Entry → ℕ → ℕ → Type 0
IsWaitingAt es i n = (i < length es) × (is_accepted (entry_at es i).stage ≡ false) × ((entry_at es i).handle.0 ≡ n)

-- each closed socket that isn't its user's listens again; the others stay as they are. Each entry says how far its socket came.
pub record AreNoted (endpoint : IpListenEndpoint) (now : ℕ) (ps : List (SocketStorage Socket)) (es : List Entry) (ps' : List (SocketStorage Socket))
    (es' : List Entry) : Type 0 where
  pub slots : length ps' ≡ length ps
  pub entries : length es' ≡ length es
  pub listens : (i n : ℕ) → IsWaitingAt es i n → slot_at ps' n ≡ relisted_slot endpoint (slot_at ps n)
  pub others : (n : ℕ) → ((i : ℕ) → IsWaitingAt es i n → ⊥) → slot_at ps' n ≡ slot_at ps n
  pub handles : (i : ℕ) → (entry_at es' i).handle ≡ (entry_at es i).handle
  pub accepted : (i : ℕ) → is_accepted (entry_at es i).stage ≡ true → entry_at es' i ≡ entry_at es i
  pub noted : (i n : ℕ) → IsWaitingAt es i n → IsNoted now (state_at (slot_at ps n)) (entry_at es i) (entry_at es' i)
