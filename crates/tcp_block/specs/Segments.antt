-- The segments that a socket makes (RFC 9293, 3.1, with options of RFC 7323 and RFC 2018).
use Rattle.std.specs.Prelude.{ℕ, ◌+◌, ◌-◌, ◌^◌, ◌==◌, ◌||◌, not, min, ℤ, Bool, if◌then◌else◌, List, [], ◌∷◌, Option, Some, None, is_some}
use Rattle.ip_wire.specs.IpRepr.{IpRepr}
use Rattle.ip_wire.specs.SeqNumber.{SeqNumber}
use Rattle.ip_wire.specs.Control.{control_len}
use Rattle.ip_wire.specs.Options.{no_options}
use Rattle.ip_wire.specs.Tcp.{header_len}
use Rattle.ip_wire.specs.TcpControl.{TcpControl}
use Rattle.ip_wire.specs.TcpControl.TheVariants as Control
use Rattle.ip_wire.specs.TcpHeader.{TcpHeader}
use Rattle.ip_wire.specs.TcpOptions.{TcpOptions}
use Rattle.ip_wire.specs.TcpTimestampGenerator.{TcpTimestampGenerator}
use Rattle.ip_wire.specs.TcpTimestampRepr.{TcpTimestampRepr}
use Rattle.ip_wire.specs.Timestamp.{value_at}
use Rattle.tcp_block.specs.declared.tcb.Tcb.{Tcb}
use Rattle.tcp_state.specs.declared.endpoints.FourTuple.{FourTuple}
use Rattle.tcp_state.specs.declared.offer.Reply.{Reply}
use Rattle.tcp_block.specs.TcbRules.{snd_max, local_scale, field_of}
use Rattle.tcp_state.specs.Endpoints.{addresses_in, header_for, ip_header_len}
use Rattle.tcp_state.specs.Offsets.{advanced_by}
use Rattle.tcp_block.specs.Timestamps.{generator_of}

-- the hop limit that is set, or 64
abbrev pub hop_limit_of : Option ℕ → ℕ
hop_limit_of None = 64
hop_limit_of (Some n) = n

-- the generator's value at an instant, with the last value that came
abbrev pub tsval_by : Option TcpTimestampGenerator → ℤ → ℕ → Option TcpTimestampRepr
tsval_by None now recent = None
tsval_by (Some generator) now recent = Some (record { tsval = value_at generator now; tsecr = recent })

-- the timestamps of a segment, which hold if both SYNs have them (RFC 7323, 3.2)
abbrev pub tsval_of : Tcb → ℤ → Option TcpTimestampRepr
tsval_of b now = if b.peer.timestamps then tsval_by b.stamps.generator now b.peer.recent else None

abbrev pub no_ranges : List (Option (ℕ × ℕ))
no_ranges = None ∷ None ∷ None ∷ []

-- a segment between these endpoints that acknowledges all that came: each but a first SYN and a reset
abbrev pub segment : Tcb → FourTuple → ℤ → ℕ → TcpControl → SeqNumber → TcpHeader
segment b pair now window control seq = record {
  src_port = pair.local_port;
  dst_port = pair.remote_port;
  control = control;
  seq_number = seq;
  ack_number = Some b.receiver.next;
  window_len = window;
  options = record no_options { timestamp = tsval_of b now };
}

-- a bare acknowledgement, past all that was ever sent: at a lower number it could be old to the remote, which then takes nothing of it
abbrev pub ack_segment : Tcb → FourTuple → ℤ → ℕ → TcpHeader
ack_segment b pair now window = segment b pair now window Control.None (snd_max b)

-- the same with ranges that are held out of order (RFC 2018)
abbrev pub sack_segment : Tcb → FourTuple → ℤ → ℕ → List (Option (ℕ × ℕ)) → TcpHeader
sack_segment b pair now window ranges =
    record (ack_segment b pair now window) { options = record no_options { timestamp = tsval_of b now; sack_ranges = ranges } }

-- the largest payload that an IP packet holds after a header without options; the field has 16 bits (3.7.1)
abbrev pub mss_for : ℕ → ℕ → ℕ
mss_for ip_mtu ip_header = min (ip_mtu - ip_header - 20) 65_535

-- The options of a SYN. A first one asks for all, and an answer only for what the other SYN had. One that is retransmitted has the timestamps
-- of the first.
abbrev pub syn_options : Tcb → ℕ → ℤ → ℕ → TcpOptions
syn_options b mss now scale = record {
  max_seg_size = Some mss;
  window_scale = if not b.receiver.took_syn || is_some b.peer.scale then Some scale else None;
  sack_permitted = not b.receiver.took_syn || b.peer.sack;
  sack_ranges = no_ranges;
  timestamp = if not b.receiver.took_syn || b.peer.timestamps then tsval_by (generator_of b) now b.peer.recent else None;
}

-- where a SYN was taken
abbrev pub next_if_heard : Tcb → Option SeqNumber
next_if_heard b = if b.receiver.took_syn then Some b.receiver.next else None

-- the own SYN, at SND.UNA, which acknowledges the other if it came; its window field isn't shifted
abbrev pub syn_segment : Tcb → FourTuple → ℤ → ℕ → ℕ → ℕ → TcpHeader
syn_segment b pair now ip_mtu capacity free = record {
  src_port = pair.local_port;
  dst_port = pair.remote_port;
  control = Control.Syn;
  seq_number = b.sender.una;
  ack_number = next_if_heard b;
  window_len = field_of free;
  options = syn_options b (mss_for ip_mtu (ip_header_len pair.addresses)) now (local_scale capacity);
}

-- the reset after an abort or a user timeout, past all that was ever sent (3.10.5)
abbrev pub reset_segment : Tcb → FourTuple → ℤ → ℕ → TcpHeader
reset_segment b pair now window = record (segment b pair now window Control.Rst (snd_max b)) { ack_number = next_if_heard b }

-- one byte 0 below SND.UNA (3.8.4)
abbrev pub keep_alive_segment : Tcb → FourTuple → ℤ → ℕ → TcpHeader
keep_alive_segment b pair now window = segment b pair now window Control.None (advanced_by b.sender.una (2 ^ 32 - 1))

-- how many positions a segment takes (3.4)
abbrev pub segment_len : TcpHeader → ℕ → ℕ
segment_len header size = size + control_len header.control

-- it has payload or a FIN (a SYN is challenged before)
abbrev pub has_length : TcpHeader → ℕ → Bool
has_length header size = not (segment_len header size == 0)

-- the packet that answers one that came, after its header and between its endpoints, exchanged
abbrev pub reply_to : IpRepr → ℕ → TcpHeader → Reply
reply_to ip hop_limit segment = record { header = header_for (addresses_in ip) hop_limit (header_len segment); segment = segment }

-- a reset's sequence number: the acknowledgement that it answers, or 0
abbrev pub reset_seq : Option SeqNumber → SeqNumber
reset_seq None = record { 0 = 0 }
reset_seq (Some n) = n

-- a reset acknowledges the end of a segment that came without ACK
abbrev pub reset_ack : Option SeqNumber → TcpControl → SeqNumber → ℕ → Option SeqNumber
reset_ack None control seq size = Some (advanced_by seq (size + control_len control))
reset_ack (Some n) control seq size = None

-- the reset that answers a segment which no socket takes, or whose acknowledgement can't be (3.10.7.1; 3.5.2)
abbrev pub reset_for : TcpHeader → ℕ → TcpHeader
reset_for header size = record {
  src_port = header.dst_port;
  dst_port = header.src_port;
  control = Control.Rst;
  seq_number = reset_seq header.ack_number;
  ack_number = reset_ack header.ack_number header.control header.seq_number size;
  window_len = 0;
  options = no_options;
}

abbrev pub rst_reply : IpRepr → TcpHeader → ℕ → Reply
rst_reply ip header size = reply_to ip 64 (reset_for header size)
