-- The answer that is due to a segment, which is made of the socket as the segment left it; and what is kept of the socket as it
-- was before.
use Rattle.std.specs.Prelude.{ℕ, ℤ, List, Option, Some, None}
use Rattle.ip_wire.specs.IpRepr.{IpRepr}
use Rattle.ip_wire.specs.SeqNumber.{SeqNumber}
use Rattle.ip_wire.specs.TcpHeader.{TcpHeader}
use Rattle.tcp_block.specs.declared.tcb.Tcb.{Tcb}
use Rattle.tcp_block.specs.Answers.{sack_blocks}
use Rattle.tcp_block.specs.Endpoints.{pair_in}
use Rattle.tcp_block.specs.Reply.{Reply}
use Rattle.tcp_block.specs.Segments.{no_ranges, sack_segment, reply_to, rst_reply, hop_limit_of}
use Rattle.tcp_block.specs.Value.{TcpValue}
use Rattle.tcp_socket.specs.declared.on_segment.Due.{Due}
use Rattle.tcp_socket.specs.declared.on_segment.Due.TheVariants as Is

-- of all that came, with this window field and these ranges that are held out of order
abbrev pub acknowledgement : ℤ → TcpValue → IpRepr → TcpHeader → ℕ → List (Option (ℕ × ℕ)) → Reply
acknowledgement now v ip header window ranges =
    reply_to ip (hop_limit_of v.tcb.settings.hop_limit) (sack_segment v.tcb (pair_in ip header) now window ranges)

abbrev pub reply_of : Due → ℤ → TcpValue → IpRepr → TcpHeader → ℕ → Reply
reply_of Is.Reset now v ip header size = rst_reply ip header size
reply_of (Is.Ack window) now v ip header size = acknowledgement now v ip header window no_ranges
reply_of (Is.AckWithSack window offset) now v ip header size = acknowledgement now v ip header window (sack_blocks v offset)

abbrev pub answer_of : Option Due → ℤ → TcpValue → IpRepr → TcpHeader → ℕ → Option Reply
answer_of None now v ip header size = None
answer_of (Some due) now v ip header size = Some (reply_of due now v ip header size)

-- the block with another RCV.NXT
abbrev pub next_at : Tcb → SeqNumber → Tcb
next_at b next = record b { receiver = record b.receiver { next = next } }
