-- Which socket of a backlog gives way, where none is free.
use Rattle.std.specs.Prelude.{◌≡◌, ℕ, ◌-◌, ◌<◌, ◌==◌, nat_le, ◌⊎◌, Bool, true, false, not, ◌&&◌, ◌||◌, List, length, slice_set, Option, Some, None}
use Rattle.std.specs.List.{list_any}
use Rattle.iface_egress.specs.Meta.{unmarked}
use Rattle.iface_egress.specs.declared.socket_meta.Meta.{Meta}
use Rattle.iface_egress.specs.declared.socket_set.Item.{Item}
use Rattle.iface_egress.specs.declared.socket_set.SocketHandle.{SocketHandle}
use Rattle.iface_egress.specs.declared.socket_set.SocketStorage.{SocketStorage}
use Rattle.ip_wire.specs.IpListenEndpoint.{IpListenEndpoint}
use Rattle.iface_ingress.specs.Socket.{Socket}
use Rattle.iface_ingress.specs.Socket.TheVariants as Kind
use Rattle.iface_ingress.specs.TcpCalls.{listen_after, abort_after}
use Rattle.iface_ingress.specs.TcpValue.{TcpValue}
use Rattle.interface.specs.declared.listener.entry.Entry.{Entry}
use Rattle.interface.specs.declared.listener.stage.Stage.{Stage}
use Rattle.interface.specs.declared.listener.stage.Stage.TheVariants as Is
use Rattle.interface.specs.declared.listener.way.TheConstants.{PATIENCE}
use Rattle.interface.specs.Backlog.Entries.{entry_at}
use Rattle.interface.specs.Backlog.Noted.{slot_at}
use Rattle.interface.specs.Backlog.Oldest.{IsOldest}
use Rattle.interface.specs.Backlog.Stages.{is_half_open}

-- what it had is dropped, without a word, and it listens: an abort whose reset never goes
abbrev pub restarted : IpListenEndpoint → TcpValue → TcpValue
restarted endpoint v = listen_after (abort_after v) endpoint

abbrev pub restarted_socket : IpListenEndpoint → Socket → Socket
restarted_socket endpoint (Kind.Tcp v) = Kind.Tcp (restarted endpoint v)
restarted_socket endpoint s = s

-- it waits for no neighbour any more: that was on the way to the remote
abbrev pub restarted_mark : Socket → Meta → Meta
restarted_mark (Kind.Tcp v) m = unmarked
restarted_mark s m = m

abbrev pub restarted_item : IpListenEndpoint → Option (Item Socket) → Option (Item Socket)
restarted_item endpoint None = None
restarted_item endpoint (Some item) =
    Some (record { meta = restarted_mark item.socket item.meta; socket = restarted_socket endpoint item.socket })

abbrev pub restarted_slot : IpListenEndpoint → SocketStorage Socket → SocketStorage Socket
restarted_slot endpoint slot = record { inner = restarted_item endpoint slot.inner }

abbrev pub restarted_at : IpListenEndpoint → ℕ → List (SocketStorage Socket) → List (SocketStorage Socket)
restarted_at endpoint n ps = slice_set ps n (restarted_slot endpoint (slot_at ps n))

abbrev pub is_at : Stage → List Entry → ℕ → Type 0
is_at stage es i = (i < length es) × ((entry_at es i).stage ≡ stage)

abbrev pub HasNone : Stage → List Entry → Type 0
HasNone stage es = (i : ℕ) → is_at stage es i → ⊥

abbrev pub is_other_half_open : ℕ → Entry → Bool
is_other_half_open slot e = is_half_open e.stage && not (e.handle.0 == slot)

-- Another socket is half open, or this one is so for long. The only one that is half open has half a second to come further: else no
-- handshake would end where one socket is left.
abbrev pub may_give_way : ℕ → List Entry → ℕ → Bool
may_give_way now es i =
    list_any (is_other_half_open (entry_at es i).handle.0) es || nat_le PATIENCE (now - (entry_at es i).since)

-- none is half open but one that may not give way, or this one may, and has been half open for longest
abbrev pub IsHalfOpenNext : ℕ → List Entry → Option ℕ → Type 0
IsHalfOpenNext now es None = HasNone Is.HalfOpen es ⊎ ((i : ℕ) × IsOldest Is.HalfOpen es (Some i) × (may_give_way now es i ≡ false))
IsHalfOpenNext now es (Some i) = IsOldest Is.HalfOpen es (Some i) × (may_give_way now es i ≡ true)

-- The entry that has been in TIME-WAIT for longest, else the one that has been half open for longest, whatever its age where several
-- are: of s SYNs a second and n sockets each client has n/s seconds to answer. An open connection never gives way.
abbrev pub IsNext : ℕ → List Entry → Option ℕ → Type 0
IsNext now es None = HasNone Is.TimeWait es × IsHalfOpenNext now es None
IsNext now es (Some i) = IsOldest Is.TimeWait es (Some i) ⊎ (HasNone Is.TimeWait es × IsHalfOpenNext now es (Some i))

abbrev pub freed : ℕ → SocketHandle → Entry
freed now handle = record { handle = handle; stage = Is.Free; since = now }

-- what gives way listens again, and is free
abbrev pub Freed : IpListenEndpoint → ℕ → Option ℕ → List (SocketStorage Socket) → List Entry → List (SocketStorage Socket) → List Entry → Type 0
Freed endpoint now None ps es ps' es' = (ps' ≡ ps) × (es' ≡ es)
Freed endpoint now (Some i) ps es ps' es' =
    (ps' ≡ restarted_at endpoint (entry_at es i).handle.0 ps) × (es' ≡ slice_set es i (freed now (entry_at es i).handle))

-- nothing gives way where one is free
abbrev pub GivesWay : IpListenEndpoint → ℕ → List (SocketStorage Socket) → List Entry → List (SocketStorage Socket) → List Entry → Type 0
GivesWay endpoint now ps es ps' es' =
    (((i : ℕ) × is_at Is.Free es i) × (ps' ≡ ps) × (es' ≡ es))
    ⊎ (HasNone Is.Free es × ((next : Option ℕ) × IsNext now es next × Freed endpoint now next ps es ps' es'))
