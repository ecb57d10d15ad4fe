-- RCV.NXT of a peer, in numbers and in positions.
use Rattle.std.specs.Prelude.{◌≡◌, ◌+◌, ◌^◌, ◌<◌, ◌≤◌}
use Rattle.ip_wire.specs.Seq.{distance_of}
use Rattle.tcp_theory.specs.Side.{Side, rcv_next}
use Rattle.tcp_block.specs.TcbRules.{unacked}
use Rattle.tcp_block.specs.Value.{TcpValue, queued_in}

-- of a socket that is the side `s`, and its peer, which is the side `t`
pub record LiesWithin (v w : TcpValue) (s t : Side) : Type 0 where
  -- the peer's RCV.NXT lies as far past SND.UNA as their numbers say
  pub position : s.una + distance_of v.tcb.sender.una w.tcb.receiver.next ≡ rcv_next t
  -- and within what may be acknowledged
  pub within : distance_of v.tcb.sender.una w.tcb.receiver.next ≤ unacked v.tcb (queued_in v)
  -- which is less than a quarter of the circle of numbers
  pub few : unacked v.tcb (queued_in v) < 2 ^ 30
