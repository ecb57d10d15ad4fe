-- The keepers of a listener.
use Rattle.std.specs.Prelude.{ℕ, true, if◌then◌else◌, List, [], ◌∷◌, slice_set, Option, Some, None}
use Rattle.iface_egress.specs.declared.socket_set.Item.{Item}
use Rattle.iface_egress.specs.declared.socket_set.SocketHandle.{SocketHandle}
use Rattle.iface_egress.specs.declared.socket_set.SocketStorage.{SocketStorage}
use Rattle.ip_wire.specs.IpListenEndpoint.{IpListenEndpoint}
use Rattle.iface_ingress.specs.Socket.{Socket}
use Rattle.iface_ingress.specs.Socket.TheVariants as Kind
use Rattle.iface_ingress.specs.TcpStates.{is_listening}
use Rattle.iface_ingress.specs.TcpSettings.{pause_synack}
use Rattle.iface_ingress.specs.TcpValue.{TcpValue}
use Rattle.interface.specs.Backlog.GivesWay.{restarted}
use Rattle.interface.specs.Backlog.Noted.{slot_at}

-- a socket that doesn't listen drops what it has, and listens
abbrev pub unless_listening : IpListenEndpoint → TcpValue → TcpValue
unless_listening endpoint v = if is_listening v.tcb.state then v else restarted endpoint v

-- it answers no SYN, and listens: a SYN that it took is dropped
abbrev pub kept : IpListenEndpoint → TcpValue → TcpValue
kept endpoint v = unless_listening endpoint (pause_synack v true)

abbrev pub kept_socket : IpListenEndpoint → Socket → Socket
kept_socket endpoint (Kind.Tcp v) = Kind.Tcp (kept endpoint v)
kept_socket endpoint s = s

abbrev pub kept_item : IpListenEndpoint → Option (Item Socket) → Option (Item Socket)
kept_item endpoint None = None
kept_item endpoint (Some item) = Some (record item { socket = kept_socket endpoint item.socket })

abbrev pub kept_slot : IpListenEndpoint → SocketStorage Socket → SocketStorage Socket
kept_slot endpoint slot = record { inner = kept_item endpoint slot.inner }

abbrev pub kept_at : IpListenEndpoint → ℕ → List (SocketStorage Socket) → List (SocketStorage Socket)
kept_at endpoint n ps = slice_set ps n (kept_slot endpoint (slot_at ps n))

-- each keeper is kept
abbrev pub kept_all : IpListenEndpoint → List SocketHandle → List (SocketStorage Socket) → List (SocketStorage Socket)
kept_all endpoint [] ps = ps
kept_all endpoint (keeper ∷ keepers) ps = kept_all endpoint keepers (kept_at endpoint keeper.0 ps)
