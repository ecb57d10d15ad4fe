-- The calls of a listener.
use Rattle.std.specs.Prelude.{◌≡◌, ℕ, ◌==◌, ◌&&◌, ℤ, pos, negsuc, if◌then◌else◌, List, slice_set, Option, Some, None}
use Rattle.iface_egress.specs.declared.socket_set.SocketHandle.{SocketHandle}
use Rattle.iface_egress.specs.declared.socket_set.SocketStorage.{SocketStorage}
use Rattle.ip_wire.specs.IpListenEndpoint.{IpListenEndpoint}
use Rattle.iface_ingress.specs.Socket.{Socket}
use Rattle.interface.specs.declared.listener.entry.Entry.{Entry}
use Rattle.interface.specs.declared.listener.stage.Stage.TheVariants as Is
use Rattle.interface.specs.Backlog.Entries.{entry_at}
use Rattle.interface.specs.Backlog.GivesWay.{HasNone, GivesWay}
use Rattle.interface.specs.Backlog.Keepers.{kept_all}
use Rattle.interface.specs.Backlog.Noted.{AreNoted}
use Rattle.interface.specs.Backlog.Oldest.{IsOldest}
use Rattle.interface.specs.Backlog.Stages.{is_accepted, is_open}

-- a socket that was taken into the backlog
abbrev pub initial_entry : SocketHandle → Entry
initial_entry handle = record { handle = handle; stage = Is.Free; since = 0 }

-- an instant in microseconds, 0 for one before the start
abbrev pub micros_of : ℤ → ℕ
micros_of (pos micros) = micros
micros_of (negsuc _) = 0

-- Each socket that isn't its user's is seen, and listens again if it was closed; where none is free, one gives way; and the keepers
-- listen.
abbrev pub Refreshes : IpListenEndpoint → ℕ → List SocketHandle → List (SocketStorage Socket) → List Entry → List (SocketStorage Socket) → List Entry → Type 0
Refreshes endpoint now keepers ps es ps' es' =
    (seen : List (SocketStorage Socket)) × ((noted : List Entry) × ((freed : List (SocketStorage Socket))
    × AreNoted endpoint now ps es seen noted × GivesWay endpoint now seen noted freed es' × (ps' ≡ kept_all endpoint keepers freed)))

-- the connection that has waited for longest is its user's from now on
abbrev pub Accepts : List Entry → Option SocketHandle → List Entry → Type 0
Accepts es None es' = HasNone Is.Open es × (es' ≡ es)
Accepts es (Some handle) es' =
    (i : ℕ) × IsOldest Is.Open es (Some i) × (handle ≡ (entry_at es i).handle) × (es' ≡ slice_set es i (record (entry_at es i) { stage = Is.Accepted }))

-- a connection that waits is its user's from now on
abbrev pub accepted : Entry → Entry
accepted e = if is_open e.stage then record e { stage = Is.Accepted } else e

-- an accepted socket of this handle ends from now on
abbrev pub given_back : SocketHandle → Entry → Entry
given_back handle e = if is_accepted e.stage && (e.handle.0 == handle.0) then record e { stage = Is.Ending } else e
