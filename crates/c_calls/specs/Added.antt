-- A socket that is added to a host.
use Rattle.std.specs.Prelude.{◌≡◌, ℕ, ◌^◌, ◌<◌, nat_lt, ◌||◌, if◌then◌else◌, List, [], ◌∷◌, ◌++◌, length, slice_set, replicate, Option, None, Some, Result, Ok, Err}
use Rattle.std.specs.Prelude.{MatchResult}
use Rattle.net_base.specs.Packets.{packets_in}
use Rattle.net_base.specs.Ring.{ring}
use Rattle.ip_wire.specs.IpProtocol.{IpProtocol}
use Rattle.ip_wire.specs.IpVersion.{IpVersion}
use Rattle.interface.specs.Set.{free_slot, unmarked}
use Rattle.interface.specs.SocketStorage.{SocketStorage}
use Rattle.socket_datagram.specs.Udp as Udp
use Rattle.socket_datagram.specs.Icmp as Icmp
use Rattle.socket_datagram.specs.Raw as Raw
use Rattle.socket_datagram.specs.SocketValue.{initial}
use Rattle.sockets.specs.TcpValue.{new_socket}
use Rattle.sockets.specs.declared.socket.Socket.{Socket}
use Rattle.sockets.specs.declared.socket.Socket.TheVariants as Kind
use Rattle.c_calls.specs.declared.code.Code.{Code}
use Rattle.c_calls.specs.declared.code.Code.TheVariants as Is
use Rattle.c_calls.specs.Host.{StackValue}
use Rattle.c_calls.specs.Numbers.{most_slots, number_of, tags_for}
use Rattle.c_calls.specs.SlotsValue.{SlotsValue}

abbrev pub slot_by : Option ℕ → List (SocketStorage Socket) → ℕ
slot_by None slots = length slots
slot_by (Some slot) slots = slot

-- the first free slot, or one after the others
abbrev pub slot_in : List (SocketStorage Socket) → ℕ
slot_in slots = slot_by (free_slot slots) slots

abbrev pub added_by : Option ℕ → List (SocketStorage Socket) → Socket → List (SocketStorage Socket)
added_by None slots socket = slots ++ unmarked socket ∷ []
added_by (Some slot) slots socket = slice_set slots slot (unmarked socket)

abbrev pub added : List (SocketStorage Socket) → Socket → List (SocketStorage Socket)
added slots socket = added_by (free_slot slots) slots socket

abbrev pub slots_with : SlotsValue → Socket → SlotsValue
slots_with s socket = record { sockets = added s.sockets socket; tags = tags_for (length s.sockets) s.tags }

-- the number of the next socket, of slots that there may be one more of
abbrev pub IsNext : SlotsValue → ℕ → Type 0
IsNext s number =
    (length s.sockets < most_slots) × (number ≡ number_of (tags_for (length s.sockets) s.tags) (slot_in s.sockets))

-- a socket comes to the first free slot, or there is no memory for it and the slots stay as they are
abbrev pub AddsSocket : Socket → SlotsValue → Result ℕ Code → SlotsValue → Type 0
AddsSocket socket s result s' =
    MatchResult result (λ number. IsNext s number × (s' ≡ slots_with s socket)) (λ code. (code ≡ Is.Memory) × (s' ≡ s))

abbrev pub with_socket : StackValue → Socket → StackValue
with_socket s socket = record s { slots = slots_with s.slots socket }

-- so does one of a host, of which nothing else changes
abbrev pub MakesSocket : Socket → StackValue → Result ℕ Code → StackValue → Type 0
MakesSocket socket s result s' =
    MatchResult result (λ number. IsNext s.slots number × (s' ≡ with_socket s socket)) (λ code. (code ≡ Is.Memory) × (s' ≡ s))

-- sockets as they are made

abbrev pub new_udp : ℕ → ℕ → Socket
new_udp packets bytes = Kind.Udp (Udp.made (packets_in [] 0 packets bytes) (packets_in [] 0 packets bytes))

abbrev pub new_icmp : ℕ → ℕ → Socket
new_icmp packets bytes = Kind.Icmp (Icmp.made (packets_in [] 0 packets bytes) (packets_in [] 0 packets bytes))

abbrev pub new_raw : Option IpVersion → Option IpProtocol → ℕ → ℕ → Socket
new_raw version protocol packets bytes =
    Kind.Raw (initial (Raw.filters version protocol) (packets_in [] 0 packets bytes) (packets_in [] 0 packets bytes))

abbrev pub new_tcp : ℕ → ℕ → Socket
new_tcp received queued = Kind.Tcp (new_socket received (ring [] (replicate queued 0) 0))

-- a stream's buffer has 2^30 bytes at most
abbrev pub most_bytes : ℕ
most_bytes = 2 ^ 30

-- a stream's buffers may be too long
abbrev pub stream_refusal : ℕ → ℕ → Option Code
stream_refusal received queued = if nat_lt most_bytes received || nat_lt most_bytes queued then Some Is.TooLong else None

abbrev pub MakesStreamUnless : Option Code → Socket → StackValue → Result ℕ Code → StackValue → Type 0
MakesStreamUnless (Some code) socket s result s' = (result ≡ Err code) × (s' ≡ s)
MakesStreamUnless None socket s result s' = MakesSocket socket s result s'

-- the same of a stream's socket
abbrev pub MakesStream : ℕ → ℕ → StackValue → Result ℕ Code → StackValue → Type 0
MakesStream received queued s result s' = MakesStreamUnless (stream_refusal received queued) (new_tcp received queued) s result s'
