-- The calls of UDP sockets that answer nothing but whether they were done.
use Rattle.std.specs.Prelude.{ℕ, ◌-◌, max, nat_lt, if◌then◌else◌, List, length, Result, Ok, Err}
use Rattle.ip_wire.specs.IpAddress.{IpAddress}
use Rattle.ip_wire.specs.IpAddress.TheVariants as Ip
use Rattle.sockets.specs.AnySocket.{as_udp}
use Rattle.sockets.specs.declared.socket.Socket.TheVariants as Kind
use Rattle.iface_egress.specs.Plan.{longest_cut}
use Rattle.socket_datagram.specs.Udp.{UdpValue, bind_answer, bind_after, send_answer, send_after, with_hop_limit, closed}
use Rattle.socket_datagram.specs.declared.udp.UdpMetadata.{UdpMetadata}
use Rattle.c_calls.specs.Codes.{coded, of_bind, of_send}
use Rattle.c_calls.specs.Host.{StackValue}
use Rattle.c_calls.specs.Slots.{answer_at, after_at}
use Rattle.c_calls.specs.Streams.{limit_of}
use Rattle.c_calls.specs.declared.code.Code.{Code}
use Rattle.c_calls.specs.declared.code.Code.TheVariants as Is
use Rattle.c_calls.specs.declared.datagrams.Act.{Act}
use Rattle.c_calls.specs.declared.datagrams.Act.TheVariants as To

abbrev pub act_answer : Act → UdpValue → Result (Unit {0}) Code
act_answer (To.Bind endpoint) v = coded of_bind (bind_answer v endpoint)
act_answer act v = Ok tt

abbrev pub act_after : Act → UdpValue → UdpValue
act_after (To.Bind endpoint) v = bind_after v endpoint
act_after (To.HopLimit limit) v = with_hop_limit v (limit_of limit)
act_after To.Close v = closed v

-- A DATAGRAM THAT IS TO GO

-- what stands before it: an IP header and one of UDP
abbrev pub headers_len : IpAddress → ℕ
headers_len (Ip.Ipv4 address) = 28
headers_len (Ip.Ipv6 address) = 48

-- a packet is no longer than a frame carries, or goes in fragments if it isn't too long to be cut
abbrev pub room_in : ℕ → IpAddress → ℕ
room_in mtu remote = max mtu longest_cut - headers_len remote

abbrev pub datagram_room : StackValue → IpAddress → ℕ
datagram_room s remote = room_in s.host.inner.mtu remote

abbrev pub queued_answer : StackValue → ℕ → UdpMetadata → List ℕ → Result (Unit {0}) Code
queued_answer s socket metadata bytes = answer_at as_udp (λ v. coded of_send (send_answer v metadata (length bytes))) s.slots socket

abbrev pub queued_after : StackValue → ℕ → UdpMetadata → List ℕ → StackValue
queued_after s socket metadata bytes = record s { slots = after_at as_udp (λ x. Kind.Udp x) (λ v. send_after v metadata bytes) s.slots socket }

-- one that is longer is refused, and nothing changes
abbrev pub sent_answer : StackValue → ℕ → UdpMetadata → List ℕ → Result (Unit {0}) Code
sent_answer s socket metadata bytes =
    if nat_lt (datagram_room s metadata.endpoint.addr) (length bytes) then Err Is.TooLong else queued_answer s socket metadata bytes

abbrev pub sent_after : StackValue → ℕ → UdpMetadata → List ℕ → StackValue
sent_after s socket metadata bytes =
    if nat_lt (datagram_room s metadata.endpoint.addr) (length bytes) then s else queued_after s socket metadata bytes
