-- What is in use at a host, and what isn't: the port of a UDP socket, the four numbers of a connection, the own ports of TCP.
use Rattle.std.specs.Prelude.{ℕ, zero, suc, ◌+◌, ◌/◌, ◌%◌, ◌==◌, ◌&&◌, ◌||◌, not, nat_lt, if◌then◌else◌, ℤ, Bool, true, false, List, [], ◌∷◌, ◌++◌, length, take, drop, Option, None, Some, Result, Ok, Err}
use Rattle.std.specs.List.{list_any}
use Rattle.ip_wire.specs.AddressTests.{is_same_address, is_unspecified}
use Rattle.ip_wire.specs.IpAddress.{IpAddress}
use Rattle.ip_wire.specs.IpAddress.TheVariants as Ip
use Rattle.ip_wire.specs.IpEndpoint.{IpEndpoint}
use Rattle.ip_wire.specs.IpListenEndpoint.{IpListenEndpoint}
use Rattle.interface.specs.Inner.{InnerValue, context_of, drawn, link_address}
use Rattle.interface.specs.Item.{Item}
use Rattle.interface.specs.Made.{with_inner}
use Rattle.interface.specs.SocketStorage.{SocketStorage}
use Rattle.iface_tables.specs.declared.link.LinkAddress.{LinkAddress}
use Rattle.iface_tables.specs.declared.link.LinkAddress.TheVariants as Link
use Rattle.sockets.specs.AnySocket.{as_tcp, as_udp}
use Rattle.sockets.specs.Context.{ContextValue}
use Rattle.sockets.specs.TcpCalls.{connect_answer, connect_after, connect_draws}
use Rattle.sockets.specs.TcpSocket.{local_in, remote_in}
use Rattle.sockets.specs.TcpStates.{is_closed}
use Rattle.sockets.specs.TcpValue.{TcpValue}
use Rattle.sockets.specs.declared.socket.Socket.{Socket}
use Rattle.sockets.specs.declared.socket.Socket.TheVariants as Kind
use Rattle.tcp_state.specs.Isn.{ticks_of}
use Rattle.tcp_state.specs.SipHash.{hash_of_words}
use Rattle.c_calls.specs.Codes.{coded, of_connect}
use Rattle.c_calls.specs.Datagrams as Udps
use Rattle.c_calls.specs.Host.{StackValue}
use Rattle.c_calls.specs.Numbers.{slot_of}
use Rattle.c_calls.specs.Slots.{answer_at, after_at, draws_at}
use Rattle.c_calls.specs.SlotsValue.{SlotsValue}
use Rattle.c_calls.specs.declared.code.Code.{Code}
use Rattle.c_calls.specs.declared.code.Code.TheVariants as Is
use Rattle.c_calls.specs.declared.datagrams.Act.TheVariants as UdpTo

-- OTHER SOCKETS

abbrev pub in_item : (Socket → Bool) → Option (Item Socket) → Bool
in_item test None = false
in_item test (Some item) = test item.socket

abbrev pub in_slot : (Socket → Bool) → SocketStorage Socket → Bool
in_slot test slot = in_item test slot.inner

-- a socket at another slot than this one passes the test
abbrev pub some_other : (Socket → Bool) → ℕ → List (SocketStorage Socket) → Bool
some_other test at ps =
    if nat_lt at (length ps) then list_any (in_slot test) (take at ps) || list_any (in_slot test) (drop (at + 1) ps)
    else list_any (in_slot test) ps

-- UDP

-- a datagram could be for both: one takes what comes to any own address, or both have the same
abbrev pub overlaps : Option IpAddress → Option IpAddress → Bool
overlaps None other = true
overlaps (Some one) None = true
overlaps (Some one) (Some other) = is_same_address one other

abbrev pub has_port : IpListenEndpoint → Socket → Bool
has_port e (Kind.Udp v) = (v.settings.endpoint.port == e.port) && overlaps v.settings.endpoint.addr e.addr
has_port e s = false

-- another socket is bound to this port, so that a datagram could be for both
abbrev pub is_bound_elsewhere : SlotsValue → ℕ → IpListenEndpoint → Bool
is_bound_elsewhere s n e = not (e.port == 0) && some_other (has_port e) (slot_of n) s.sockets

abbrev pub bind_answer_if : Bool → StackValue → ℕ → IpListenEndpoint → Result (Unit {0}) Code
bind_answer_if true s n e = answer_at as_udp (λ v. Err Is.AddressInUse) s.slots n
bind_answer_if false s n e = answer_at as_udp (Udps.act_answer (UdpTo.Bind e)) s.slots n

abbrev pub bind_after_if : Bool → StackValue → ℕ → IpListenEndpoint → StackValue
bind_after_if true s n e = s
bind_after_if false s n e = record s { slots = after_at as_udp (λ x. Kind.Udp x) (Udps.act_after (UdpTo.Bind e)) s.slots n }

-- a port that is in use is refused, and nothing changes
abbrev pub bind_answer : StackValue → ℕ → IpListenEndpoint → Result (Unit {0}) Code
bind_answer s n e = bind_answer_if (is_bound_elsewhere s.slots n e) s n e

abbrev pub bind_after : StackValue → ℕ → IpListenEndpoint → StackValue
bind_after s n e = bind_after_if (is_bound_elsewhere s.slots n e) s n e

-- TCP: FOUR NUMBERS

abbrev pub is_end : Option IpEndpoint → IpEndpoint → Bool
is_end None e = false
is_end (Some x) e = (x.port == e.port) && is_same_address x.addr e.addr

-- it has a connection, or one that is opened or waits to be over, between these endpoints
abbrev pub has_ends : IpEndpoint → IpEndpoint → Socket → Bool
has_ends own remote (Kind.Tcp v) = not (is_closed v.tcb.state) && (is_end (local_in v.tcb.names.pair) own && is_end (remote_in v.tcb.names.pair) remote)
has_ends own remote s = false

-- TCP: A FREE PORT (RFC 6056, 3.3.3): the first from 49152 to 65535 that no socket uses, where the search begins by the host's key, the remote and
-- the clock

abbrev pub port_in : Option IpEndpoint → ℕ → Bool
port_in None port = false
port_in (Some x) port = x.port == port

abbrev pub uses_port : ℕ → Socket → Bool
uses_port port (Kind.Tcp v) = (v.tcb.names.listen.port == port) || port_in (local_in v.tcb.names.pair) port
uses_port port s = false

abbrev pub is_port_used : SlotsValue → ℕ → ℕ → Bool
is_port_used s n port = some_other (uses_port port) (slot_of n) s.sockets

abbrev pub next_port : ℕ → ℕ
next_port port = if port == 65_535 then 49_152 else port + 1

abbrev pub free_port : SlotsValue → ℕ → ℕ → ℕ → Option ℕ
free_port s n port zero = None
free_port s n port (suc tries) = if is_port_used s n port then free_port s n (next_port port) tries else Some port

-- its bytes and its port, each a word
abbrev pub words_of : IpAddress → ℕ → List ℕ
words_of (Ip.Ipv4 a) port = a.0 ++ port ∷ []
words_of (Ip.Ipv6 a) port = a.0 ++ port ∷ []

abbrev pub hash_by : Option (List ℕ) → IpEndpoint → ℕ
hash_by None remote = 0
hash_by (Some key) remote = hash_of_words key (words_of remote.addr remote.port)

abbrev pub first_port : Option (List ℕ) → ℤ → IpEndpoint → ℕ
first_port key now remote = 49_152 + (ticks_of now + hash_by key remote % 16_384) % 16_384

-- how many they are
unfoldable pub port_count : ℕ
port_count = 16_384

abbrev pub port_from : InnerValue → SlotsValue → ℕ → IpEndpoint → Option ℕ
port_from i s n remote = free_port s n (first_port (context_of i).isn_key (context_of i).instant remote) port_count

-- the named port, or one that is free where none is named
abbrev pub port_by : Bool → InnerValue → SlotsValue → ℕ → IpEndpoint → ℕ → Option ℕ
port_by true i s n remote port = port_from i s n remote
port_by false i s n remote port = Some port

abbrev pub port_for : InnerValue → SlotsValue → ℕ → IpEndpoint → ℕ → Option ℕ
port_for i s n remote port = port_by (port == 0) i s n remote port

-- TCP: WHETHER A CONNECTION MAY BE OPENED

abbrev pub is_no_route : LinkAddress → Bool
is_no_route Link.NoRoute = true
is_no_route link = false

abbrev pub own_address : Option IpAddress → ContextValue → IpAddress → Option IpAddress
own_address None cx remote = cx.source_for remote
own_address (Some address) cx remote = Some address

-- no route leads there, or the four numbers are in use
abbrev pub refusal_from : Option IpAddress → InnerValue → SlotsValue → ℕ → IpEndpoint → ℕ → Option Code
refusal_from None i s n remote port = None
refusal_from (Some own) i s n remote port =
    if is_no_route (link_address i remote.addr) then Some Is.NoRoute
    else if some_other (has_ends (record { addr = own; port = port }) remote) (slot_of n) s.sockets then Some Is.AddressInUse else None

-- what names no remote is refused by the socket
abbrev pub refusal_of : InnerValue → SlotsValue → ℕ → IpEndpoint → IpListenEndpoint → Option Code
refusal_of i s n remote local =
    if (remote.port == 0) || is_unspecified remote.addr then None
    else refusal_from (own_address local.addr (context_of i) remote.addr) i s n remote local.port

abbrev pub opens_answer_by : Option Code → StackValue → ℕ → IpEndpoint → IpListenEndpoint → Result (Unit {0}) Code
opens_answer_by (Some code) s n remote local = answer_at as_tcp (λ v. Err code) s.slots n
opens_answer_by None s n remote local =
    answer_at as_tcp (λ v. coded of_connect (connect_answer (context_of s.host.inner) v remote local)) s.slots n

abbrev pub opened_by : Option Code → StackValue → ℕ → IpEndpoint → IpListenEndpoint → StackValue
opened_by (Some code) s n remote local = s
opened_by None s n remote local = record s {
  host = if draws_at as_tcp (λ v. connect_draws (context_of s.host.inner) v remote local) s.slots n
      then with_inner s.host (drawn s.host.inner) else s.host;
  slots = after_at as_tcp (λ x. Kind.Tcp x) (λ v. connect_after (context_of s.host.inner) v remote local) s.slots n;
}

abbrev pub at_port : IpListenEndpoint → ℕ → IpListenEndpoint
at_port local port = record { addr = local.addr; port = port }

abbrev pub opens_answer_at : Option ℕ → StackValue → ℕ → IpEndpoint → IpListenEndpoint → Result (Unit {0}) Code
opens_answer_at None s n remote local = answer_at as_tcp (λ v. Err Is.AddressInUse) s.slots n
opens_answer_at (Some port) s n remote local =
    opens_answer_by (refusal_of s.host.inner s.slots n remote (at_port local port)) s n remote (at_port local port)

abbrev pub opened_at : Option ℕ → StackValue → ℕ → IpEndpoint → IpListenEndpoint → StackValue
opened_at None s n remote local = s
opened_at (Some port) s n remote local =
    opened_by (refusal_of s.host.inner s.slots n remote (at_port local port)) s n remote (at_port local port)

-- A connection is opened from the named port, or from a free one. What can't be opened is refused, and nothing changes.
abbrev pub opens_answer : StackValue → ℕ → IpEndpoint → IpListenEndpoint → Result (Unit {0}) Code
opens_answer s n remote local = opens_answer_at (port_for s.host.inner s.slots n remote local.port) s n remote local

abbrev pub opened : StackValue → ℕ → IpEndpoint → IpListenEndpoint → StackValue
opened s n remote local = opened_at (port_for s.host.inner s.slots n remote local.port) s n remote local
