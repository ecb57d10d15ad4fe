-- A device, the host at it, and its sockets.
use Rattle.std.specs.Prelude.{◌≡◌, ℕ, List, Option, None}
use Rattle.iface_tables.specs.declared.key.FragKey.{FragKey}
use Rattle.iface_tables.specs.Inner.{InnerValue}
use Rattle.iface_tables.specs.Reassembly.{AssemblerValue}
use Rattle.iface_egress.specs.declared.socket_set.SocketStorage.{SocketStorage}
use Rattle.iface_ingress.specs.Socket.{Socket}
use Rattle.iface_egress.specs.Fragments.{LeftValue}
use Rattle.iface_reports.specs.Reports.{ReportsValue}
use Rattle.interface.specs.Host.{HostValue, Sender}
use Rattle.interface.specs.SameHost.{parking_from}

pub record State (D : Type 0) : Type 0 where
  pub device : D
  pub host : HostValue
  pub slots : List (SocketStorage Socket)

abbrev pub state : {D : Type 0} → D → HostValue → List (SocketStorage Socket) → State D
state device host slots = record { device = device; host = host; slots = slots }

-- one that tells nothing of multicast groups
abbrev pub host : InnerValue → Option LeftValue → List (AssemblerValue FragKey) → ℕ → HostValue
host inner left assemblers timeout = record { inner = inner; left = left; assemblers = assemblers; timeout = timeout; reports = None }

-- one with these things to tell of them
abbrev pub telling : HostValue → Option ReportsValue → HostValue
telling h reports = record h { reports = reports }

-- the same host and sockets after a move of the device
abbrev pub at_device : {D : Type 0} → State D → D → State D
at_device s device = state device s.host s.slots

-- this host as it sends, with these sockets
abbrev pub sending_as : {D : Type 0} → HostValue → Sender D → List (SocketStorage Socket) → State D
sending_as h x ps = state x.device (record h { inner = x.inner; left = x.left }) ps

-- what a poll leaves of a host: nothing changed but random words, neighbours, the next identification, the errors that are counted, what
-- was told of paths, and what is parked
abbrev pub KeepsSettings : InnerValue → InnerValue → Type 0
KeepsSettings old new = new ≡ record old {
  random = new.random;
  neighbors = new.neighbors;
  ident = new.ident;
  errors_until = new.errors_until;
  paths = new.paths;
  parking = parking_from old new;
}
