-- Packets that raw sockets are given.
use Rattle.std.specs.Prelude.{ℕ, ◌+◌, ◌-◌, ◌*◌, ◌/◌, ◌%◌, ◌==◌, max, nat_lt, if◌then◌else◌, List, length, slice_index, Result, Ok, Err}
use Rattle.sockets.specs.AnySocket.{as_raw}
use Rattle.sockets.specs.declared.socket.Socket.TheVariants as Kind
use Rattle.iface_egress.specs.Plan.{longest_cut}
use Rattle.socket_datagram.specs.Raw.{send_answer, send_after}
use Rattle.c_calls.specs.Codes.{coded, of_raw_send}
use Rattle.c_calls.specs.Host.{StackValue}
use Rattle.c_calls.specs.Slots.{answer_at, after_at}
use Rattle.c_calls.specs.declared.code.Code.{Code}
use Rattle.c_calls.specs.declared.code.Code.TheVariants as Is

-- a number of two bytes, the higher one first
abbrev pub word_at : List ℕ → ℕ → ℕ
word_at bytes n = slice_index bytes n * 256 + slice_index bytes (n + 1)

-- how many bytes a packet has when its header was written anew: those behind its header, and the header without options; 0 where it is none
abbrev pub packet_len : List ℕ → ℕ
packet_len bytes =
    if nat_lt (length bytes) 20 then 0
    else if slice_index bytes 0 / 16 == 4 then word_at bytes 2 - slice_index bytes 0 % 16 * 4 + 20
    else if slice_index bytes 0 / 16 == 6 then word_at bytes 4 + 40
    else 0

-- a packet is no longer than a frame carries, or goes in fragments if it isn't too long to be cut
abbrev pub packet_room : StackValue → ℕ
packet_room s = max s.host.inner.mtu longest_cut

abbrev pub queued_answer : StackValue → ℕ → List ℕ → Result (Unit {0}) Code
queued_answer s socket bytes = answer_at as_raw (λ v. coded of_raw_send (send_answer v (length bytes))) s.slots socket

abbrev pub queued_after : StackValue → ℕ → List ℕ → StackValue
queued_after s socket bytes = record s { slots = after_at as_raw (λ x. Kind.Raw x) (λ v. send_after v bytes) s.slots socket }

-- one that is longer is refused, and nothing changes
abbrev pub sent_answer : StackValue → ℕ → List ℕ → Result (Unit {0}) Code
sent_answer s socket bytes = if nat_lt (packet_room s) (packet_len bytes) then Err Is.TooLong else queued_answer s socket bytes

abbrev pub sent_after : StackValue → ℕ → List ℕ → StackValue
sent_after s socket bytes = if nat_lt (packet_room s) (packet_len bytes) then s else queued_after s socket bytes
