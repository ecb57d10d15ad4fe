-- What a call of an application makes of the socket at a slot, whatever kind it is of.
use Rattle.std.specs.Prelude.{◌≡◌, ℕ, nat_lt, if◌then◌else◌, Bool, false, List, length, slice_get, slice_set, Option, None, Some}
use Rattle.ip_wire.specs.IpAddress.{IpAddress}
use Rattle.net_base.specs.Packets.{first}
use Rattle.sockets.specs.Context.{ContextValue}
use Rattle.socket_datagram.specs.SocketValue as Datagrams
use Rattle.socket_datagram.specs.Icmp as Icmps
use Rattle.socket_datagram.specs.Icmp.{IcmpValue}
use Rattle.socket_datagram.specs.Raw as Raws
use Rattle.socket_datagram.specs.Raw.{RawValue}
use Rattle.socket_datagram.specs.declared.icmp.Endpoint.TheVariants as Bound
use Rattle.socket_datagram.specs.declared.raw.SendError as RawErrors
use Rattle.socket_datagram.specs.declared.raw.SendError.TheVariants as RawSend
use Rattle.tcp_block.specs.Calls.{connect_draws}
use Rattle.tcp_block.specs.State as States
use Rattle.interface.specs.Host.{HostValue}
use Rattle.iface_egress.specs.Inner.{context_of, drawn}
use Rattle.iface_egress.specs.Set.{with_socket}
use Rattle.iface_egress.specs.declared.socket_set.Item.{Item}
use Rattle.iface_egress.specs.declared.socket_set.SocketStorage.{SocketStorage}
use Rattle.sockets.specs.declared.socket.Socket.{Socket}
use Rattle.sockets.specs.declared.socket.Socket.TheVariants as Is
use Rattle.lan.specs.Worlds.AtLink.Call as Call
use Rattle.lan.specs.Worlds.AtLink.Call.{SocketCall}
use Rattle.lan.specs.declared.at_link.history.answer.Answer.{Answer}
use Rattle.lan.specs.declared.at_link.history.answer.Answer.TheVariants as To
use Rattle.lan.specs.declared.at_link.history.answer.Fault.{Fault}
use Rattle.lan.specs.declared.at_link.history.answer.Fault.TheVariants as For
use Rattle.lan.specs.Worlds.AtLink.Calls.{Did, did, done_or, bind_fault, send_fault, at_port, tcp_does, udp_does}
use Rattle.lan.specs.Worlds.AtLink.Node.{NodeValue}

-- AN ICMP SOCKET

-- the first message that waits, where it isn't longer
abbrev pub message_or : Option (IpAddress × List ℕ) → ℕ → Answer
message_or None limit = To.Error For.Exhausted
message_or (Some m) limit = if nat_lt limit (length m.1) then To.Error For.Truncated else To.FromAddr m.0 m.1

-- none where an ICMP socket hasn't the call
abbrev pub icmp_does : IcmpValue → SocketCall → Option (Did IcmpValue)
icmp_does v (Call.Ident ident) =
    Some (did (done_or bind_fault (Icmps.bind_answer v (Bound.Ident ident))) (Icmps.bind_after v (Bound.Ident ident)))
icmp_does v (Call.SendIcmp remote bytes) =
    Some (did (done_or send_fault (Icmps.send_answer v remote (length bytes))) (Icmps.send_after v remote bytes))
icmp_does v (Call.RecvFrom limit) = Some (did (message_or (first v.received) limit) (Datagrams.recv_after v))
icmp_does v call = None

-- A RAW SOCKET

abbrev pub raw_fault : RawErrors.SendError → Fault
raw_fault RawSend.BufferFull = For.BufferFull

-- the first packet that waits, where it isn't longer
abbrev pub packet_or : Option (Unit {0} × List ℕ) → ℕ → Answer
packet_or None limit = To.Error For.Exhausted
packet_or (Some p) limit = if nat_lt limit (length p.1) then To.Error For.Truncated else To.Bytes p.1

-- none where a raw socket hasn't the call
abbrev pub raw_does : RawValue → SocketCall → Option (Did RawValue)
raw_does v (Call.SendRaw bytes) = Some (did (done_or raw_fault (Raws.send_answer v (length bytes))) (Raws.send_after v bytes))
raw_does v (Call.RecvFrom limit) = Some (did (packet_or (first v.received) limit) (Datagrams.recv_after v))
raw_does v call = None

-- ANY SOCKET

abbrev pub did_as : {V W : Type 0} → (V → W) → Option (Did V) → Option (Did W)
did_as make None = None
did_as make (Some d) = Some (record { answer = d.answer; found = d.found; socket = make d.socket })

-- none where a socket of its kind hasn't the call
abbrev pub does : ContextValue → Socket → SocketCall → Option (Did Socket)
does cx (Is.Raw v) call = did_as Is.Raw (raw_does v call)
does cx (Is.Icmp v) call = did_as Is.Icmp (icmp_does v call)
does cx (Is.Udp v) call = did_as Is.Udp (udp_does v call)
does cx (Is.Tcp v) call = did_as Is.Tcp (tcp_does cx v call)
does cx (Is.Dhcpv4 v) call = None
does cx (Is.Dns v) call = None

-- an accepted connect draws a random word from its host
abbrev pub draws : ContextValue → Socket → SocketCall → Bool
draws cx (Is.Tcp v) (Call.Connect remote port) = connect_draws cx v remote (at_port port)
draws cx socket call = false

abbrev pub host_after : HostValue → Socket → SocketCall → HostValue
host_after h socket call = if draws (context_of h.inner) socket call then record h { inner = drawn h.inner } else h

-- THE CALL OF A PLACE

-- what a call did to its host, which answered so and found so
abbrev pub DidAt : NodeValue → ℕ → Item Socket → SocketCall → Option (Did Socket) → Answer → Option States.State → NodeValue → Type 0
DidAt s i item call None answer found s' = ⊥
DidAt s i item call (Some d) answer found s' =
    (answer ≡ d.answer) × (found ≡ d.found)
    × (s' ≡ record s { host = host_after s.host item.socket call; slots = slice_set s.slots i (with_socket item d.socket) })

abbrev pub ItemDoes : NodeValue → ℕ → Option (Item Socket) → SocketCall → Answer → Option States.State → NodeValue → Type 0
ItemDoes s i None call answer found s' = ⊥
ItemDoes s i (Some item) call answer found s' =
    DidAt s i item call (does (context_of s.host.inner) item.socket call) answer found s'

abbrev pub SlotDoes : NodeValue → ℕ → Option (SocketStorage Socket) → SocketCall → Answer → Option States.State → NodeValue → Type 0
SlotDoes s i None call answer found s' = ⊥
SlotDoes s i (Some slot) call answer found s' = ItemDoes s i slot.inner call answer found s'

-- the socket at a slot does what the call says, and nothing else of its host changes
abbrev pub Does : NodeValue → ℕ → SocketCall → Answer → Option States.State → NodeValue → Type 0
Does s i call answer found s' = SlotDoes s i (slice_get s.slots i) call answer found s'
