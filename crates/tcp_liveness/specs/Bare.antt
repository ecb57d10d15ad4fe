-- A bare acknowledgement that is old: such come where both sides sent again, and neither knows what the other took.
use Rattle.std.specs.Prelude.{◌≡◌, ◌+◌, ◌^◌, ◌<◌, ◌≤◌}
use Rattle.ip_wire.specs.Seq.{distance_of}
use Rattle.ip_wire.specs.TcpHeader.{TcpHeader}
use Rattle.tcp_block.specs.Segments.{segment_len}
use Rattle.tcp_block.specs.Value.{TcpValue, room_of}

-- The segment takes no position, and begins before RCV.NXT: no further than a receive buffer, a SYN and a FIN reach (RFC 9293, 3.10.7.4,
-- first).
pub record IsBareBefore (v : TcpValue) (header : TcpHeader) : Type 0 where
  pub bare : segment_len header 0 ≡ 0
  pub some : 1 ≤ distance_of header.seq_number v.tcb.receiver.next
  pub begins : distance_of header.seq_number v.tcb.receiver.next < 2 ^ 31
  pub near : distance_of header.seq_number v.tcb.receiver.next ≤ room_of v.received + 2
  -- numbers of 32 bits
  pub seq_small : header.seq_number.0 < 2 ^ 32
  pub next_small : v.tcb.receiver.next.0 < 2 ^ 32
