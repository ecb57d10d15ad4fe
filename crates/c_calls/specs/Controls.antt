-- The calls of ICMP sockets: those that answer nothing but whether they were done, and messages that are to go.
use Rattle.std.specs.Prelude.{ℕ, ◌-◌, max, nat_lt, if◌then◌else◌, List, length, Result, Ok, Err}
use Rattle.ip_wire.specs.IpAddress.{IpAddress}
use Rattle.ip_wire.specs.IpAddress.TheVariants as Ip
use Rattle.sockets.specs.AnySocket.{as_icmp}
use Rattle.sockets.specs.declared.socket.Socket.TheVariants as Kind
use Rattle.iface_egress.specs.Plan.{longest_cut}
use Rattle.socket_datagram.specs.Icmp.{IcmpValue, bind_answer, bind_after, send_answer, send_after, with_hop_limit}
use Rattle.c_calls.specs.Codes.{coded, of_bind, of_send}
use Rattle.c_calls.specs.Host.{StackValue}
use Rattle.c_calls.specs.Slots.{answer_at, after_at}
use Rattle.c_calls.specs.Streams.{limit_of}
use Rattle.c_calls.specs.declared.code.Code.{Code}
use Rattle.c_calls.specs.declared.code.Code.TheVariants as Is
use Rattle.c_calls.specs.declared.control.Act.{Act}
use Rattle.c_calls.specs.declared.control.Act.TheVariants as To

abbrev pub act_answer : Act → IcmpValue → Result (Unit {0}) Code
act_answer (To.Bind endpoint) v = coded of_bind (bind_answer v endpoint)
act_answer act v = Ok tt

abbrev pub act_after : Act → IcmpValue → IcmpValue
act_after (To.Bind endpoint) v = bind_after v endpoint
act_after (To.HopLimit limit) v = with_hop_limit v (limit_of limit)

-- A MESSAGE THAT IS TO GO

-- the IP header before it
abbrev pub header_len : IpAddress → ℕ
header_len (Ip.Ipv4 address) = 20
header_len (Ip.Ipv6 address) = 40

-- a packet is no longer than a frame carries, or goes in fragments if it isn't too long to be cut
abbrev pub message_room : StackValue → IpAddress → ℕ
message_room s remote = max s.host.inner.mtu longest_cut - header_len remote

abbrev pub queued_answer : StackValue → ℕ → IpAddress → List ℕ → Result (Unit {0}) Code
queued_answer s socket remote bytes = answer_at as_icmp (λ v. coded of_send (send_answer v remote (length bytes))) s.slots socket

abbrev pub queued_after : StackValue → ℕ → IpAddress → List ℕ → StackValue
queued_after s socket remote bytes = record s { slots = after_at as_icmp (λ x. Kind.Icmp x) (λ v. send_after v remote bytes) s.slots socket }

-- one that is longer is refused, and nothing changes
abbrev pub sent_answer : StackValue → ℕ → IpAddress → List ℕ → Result (Unit {0}) Code
sent_answer s socket remote bytes = if nat_lt (message_room s remote) (length bytes) then Err Is.TooLong else queued_answer s socket remote bytes

abbrev pub sent_after : StackValue → ℕ → IpAddress → List ℕ → StackValue
sent_after s socket remote bytes = if nat_lt (message_room s remote) (length bytes) then s else queued_after s socket remote bytes
