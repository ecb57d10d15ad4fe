-- How long a segment of payload is, and where in its storage a send queue lies.
use Rattle.std.specs.Prelude.{◌≡◌, ℕ, ◌-◌, min}
use Rattle.tcp_state.specs.declared.endpoints.AddressPair.{AddressPair}
use Rattle.tcp_block.specs.Rules.{size_limit, congestion_room}
use Rattle.tcp_block.specs.Value.{TcpValue, queued_in}

-- sockets that differ in their send queue's storage alone: in where it begins there, and in what lies in its free offsets
pub record AreAlike (v w : TcpValue) : Type 0 where
  pub tcb : v.tcb ≡ w.tcb
  pub received : v.received ≡ w.received
  pub queue : v.queued.queue ≡ w.queued.queue
  pub offered : v.offered ≡ w.offered

-- the most that may go from this place of the send queue: a segment's size, what is queued there, and what both windows leave
abbrev pub most_from : TcpValue → AddressPair → ℕ → ℕ → ℕ
most_from v addresses ip_mtu offset =
    min (min (size_limit v.tcb addresses ip_mtu) (queued_in v - offset)) (min (v.tcb.peer.window - v.tcb.sender.flight_size) (congestion_room v.tcb))
