-- The services at the slots of a host's sockets, and what a turn makes of them.
use Rattle.std.specs.Prelude.{◌≡◌, ℕ, zero, suc, ◌==◌, nat_le, Bool, false, not, if◌then◌else◌, List, slice_set, Option, None, Some}
use Rattle.interface.specs.Item.{Item}
use Rattle.interface.specs.SocketStorage.{SocketStorage}
use Rattle.app_tun_services.specs.Echo.{datagram_echoed, stream_echoed}
use Rattle.app_tun_services.specs.Idle.{watched}
use Rattle.app_tun_services.specs.Site.{Serves, Talk, talk, initial_session}
use Rattle.app_tun_services.specs.declared.idle.Moment.{Moment}
use Rattle.app_tun_services.specs.declared.site.Session.{Session}
use Rattle.sockets.specs.declared.socket.Socket.{Socket}
use Rattle.sockets.specs.declared.socket.Socket.TheVariants as Is
use Rattle.sockets.specs.TcpStates.{takes_writes}
use Rattle.interface.specs.Backlog.Noted.{slot_at}
use Rattle.app_tun_services.specs.declared.slot.Service.{Service}
use Rattle.app_tun_services.specs.declared.slot.Service.TheVariants.{Datagrams, Streams, Page, Keeper}
use Rattle.app_tun_services.specs.declared.slot.TheConstants.{ECHO_PORT, PAGE_PORT}

-- a socket for datagrams, four that echo streams, 64 that serve the page, and a keeper for either port
abbrev pub service_at : ℕ → Service
service_at slot = if slot == 0 then Datagrams else if nat_le slot 4 then Streams else if nat_le slot 68 then Page else Keeper

abbrev pub first_slot : Service → ℕ
first_slot Datagrams = 0
first_slot Streams = 1
first_slot Page = 5
first_slot Keeper = 69

abbrev pub socket_count : Service → ℕ
socket_count Datagrams = 1
socket_count Streams = 4
socket_count Page = 64
socket_count Keeper = 2

-- the keeper of a service's port
abbrev pub keeper_slot : Service → ℕ
keeper_slot Page = 70
keeper_slot other = 69

abbrev pub port_of : Service → ℕ
port_of Page = PAGE_PORT
port_of other = ECHO_PORT

-- how many bytes of datagrams a socket keeps each way, and how many of a stream are echoed in a turn at most
abbrev pub echo_room : ℕ
echo_room = 65_536

-- how many bytes of a request are looked at
abbrev pub most_request : ℕ
most_request = 4096

-- how many datagrams are echoed in a turn, at most
unfoldable pub datagram_count : ℕ
datagram_count = 64

abbrev pub times : {X : Type 0} → ℕ → (X → X) → X → X
times zero f x = x
times (suc n) f x = f (times n f x)

-- A SOCKET

abbrev pub datagrams_served : ℕ → Socket → Socket
datagrams_served room (Is.Udp v) = Is.Udp (times datagram_count (datagram_echoed room) v)
datagrams_served room s = s

abbrev pub stream_served : ℕ → Socket → Socket
stream_served room (Is.Tcp v) = Is.Tcp (stream_echoed room v)
stream_served room s = s

-- requests are answered, and it is reset if nothing happened for too long
abbrev pub PageServed : Moment → ℕ → Socket → Session → Socket → Session → Type 0
PageServed m most (Is.Tcp v) session (Is.Tcp w) session' =
    (mid : Talk) × Serves m.counts most (talk v session) mid × (talk w session' ≡ watched m mid)
PageServed m most (Is.Tcp v) session s session' = ⊥
PageServed m most s session s' session' = (s' ≡ s) × (session' ≡ session)

abbrev pub ServesAs : Moment → Service → Socket → Session → Socket → Session → Type 0
ServesAs m Datagrams s session s' session' = (s' ≡ datagrams_served echo_room s) × (session' ≡ session)
ServesAs m Streams s session s' session' = (s' ≡ stream_served echo_room s) × (session' ≡ session)
ServesAs m Page s session s' session' = PageServed m most_request s session s' session'
ServesAs m Keeper s session s' session' = (s' ≡ s) × (session' ≡ session)

-- A PLACE

-- what the interface keeps alongside the socket stays
abbrev pub ItemServes : Moment → Service → Option (Item Socket) → Session → Option (Item Socket) → Session → Type 0
ItemServes m service None session item session' = (item ≡ None) × (session' ≡ session)
ItemServes m service (Some old) session None session' = ⊥
ItemServes m service (Some old) session (Some new) session' = ServesAs m service old.socket session new.socket session' × (new.meta ≡ old.meta)

abbrev pub SlotServes : Moment → Service → SocketStorage Socket → Session → SocketStorage Socket → Session → Type 0
SlotServes m service old session new session' = ItemServes m service old.inner session new.inner session'

-- the first place is served
abbrev pub FirstServes : Moment → List (SocketStorage Socket) → List (SocketStorage Socket) → Type 0
FirstServes m old new =
    (slot : SocketStorage Socket) × (session : Session) × SlotServes m Datagrams (slot_at old 0) initial_session slot session × (new ≡ slice_set old 0 slot)

-- THE END OF A CONNECTION

-- no more can be written to a stream's socket
abbrev pub socket_is_over : Socket → Bool
socket_is_over (Is.Tcp v) = not (takes_writes v.tcb.state)
socket_is_over s = false

abbrev pub item_is_over : Option (Item Socket) → Bool
item_is_over None = false
item_is_over (Some item) = socket_is_over item.socket

abbrev pub is_over : SocketStorage Socket → Bool
is_over slot = item_is_over slot.inner
