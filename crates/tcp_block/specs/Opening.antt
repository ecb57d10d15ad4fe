-- A segment comes in LISTEN or SYN-SENT (RFC 9293, 3.10.7.2 and 3.10.7.3). A payload on a SYN is ignored.
use Rattle.std.specs.Prelude.{ℕ, ◌==◌, not, ◌&&◌, ℤ, Bool, true, false, if◌then◌else◌, List, length, Option, Some, None, is_some}
use Rattle.ip_wire.specs.IpRepr.{IpRepr}
use Rattle.ip_wire.specs.Seq.{distance_of}
use Rattle.ip_wire.specs.SeqNumber.{SeqNumber}
use Rattle.ip_wire.specs.TcpHeader.{TcpHeader}
use Rattle.tcp_state.specs.Context.{ContextValue}
use Rattle.tcp_block.specs.declared.tcb.Tcb.{Tcb}
use Rattle.tcp_block.specs.declared.tcb.Peer.{Peer}
use Rattle.tcp_state.specs.declared.endpoints.AddressPair.{AddressPair}
use Rattle.tcp_state.specs.declared.endpoints.AddressPair.TheVariants as Pair
use Rattle.tcp_state.specs.declared.endpoints.FourTuple.{FourTuple}
use Rattle.tcp_state.specs.declared.state.State.TheVariants as In
use Rattle.tcp_block.specs.Acknowledged.{una_moved, or_number}
use Rattle.tcp_block.specs.TcbRules.{initial_sender, no_number}
use Rattle.tcp_state.specs.Controls.{is_syn, is_rst, or_recent}
use Rattle.tcp_state.specs.Endpoints.{pair_in}
use Rattle.tcp_state.specs.Isn.{isn, draws_number}
use Rattle.tcp_state.specs.Offsets.{advanced_by}
use Rattle.tcp_state.specs.Reno.{with_mss}
use Rattle.tcp_block.specs.Segments.{rst_reply}
use Rattle.tcp_block.specs.Retries.{heard}
use Rattle.tcp_block.specs.Timeout.{timeout_restarted}
use Rattle.tcp_block.specs.Timestamps.{believed, tsecr_taken}
use Rattle.tcp_block.specs.Value.{TcpValue, Arrived, with_tcb, dropped, answered_with, ended, queued_in}

-- the largest payload that a remote takes which names none: what a packet that each host takes leaves (RFC 9293, 3.7.1, MUST-15)
abbrev pub mss_over : AddressPair → ℕ
mss_over (Pair.Ipv4 local remote) = 536
mss_over (Pair.Ipv6 local remote) = 1220

abbrev pub default_mss : Option FourTuple → ℕ
default_mss None = 536
default_mss (Some pair) = mss_over pair.addresses

-- the largest payload that goes to a remote
abbrev pub send_mss : Option FourTuple → Option ℕ → ℕ
send_mss pair None = default_mss pair
send_mss pair (Some mss) = mss

-- what the remote's SYN says of it; its window field isn't shifted (RFC 7323, 2.2)
abbrev pub peer_of : Option FourTuple → TcpHeader → Peer
peer_of pair header = record {
  window = header.window_len;
  largest_window = header.window_len;
  snd_wl1 = header.seq_number;
  snd_wl2 = or_number no_number header.ack_number;
  mss = send_mss pair header.options.max_seg_size;
  scale = header.options.window_scale;
  sack = header.options.sack_permitted;
  timestamps = is_some header.options.timestamp;
  recent = or_recent header.options.timestamp 0;
}

-- the remote's SYN is taken: IRS and what it says of the remote
abbrev pub took_syn : Tcb → TcpHeader → Tcb
took_syn b header = record b {
  receiver = record b.receiver { next = advanced_by header.seq_number 1; took_syn = true; last_ack = advanced_by header.seq_number 1 };
  peer = peer_of b.names.pair header;
  reno = with_mss b.reno (send_mss b.names.pair header.options.max_seg_size);
}

-- a SYN without ACK
abbrev pub is_first_syn : TcpHeader → Bool
is_first_syn header = is_syn header.control && not (is_some header.ack_number)

-- the connection has names
abbrev pub paired : Tcb → IpRepr → TcpHeader → Tcb
paired b ip header = record b { names = record b.names { pair = Some (pair_in ip header) } }

-- LISTEN takes a SYN: its own initial sequence number is this
abbrev pub answering : Tcb → IpRepr → TcpHeader → ℕ → Tcb
answering b ip header number =
    record (took_syn (paired b ip header) header) {
      state = In.SynReceived;
      sender = initial_sender (record { 0 = number }) true;
    }

abbrev pub opens : ContextValue → TcpValue → IpRepr → TcpHeader → Arrived
opens cx v ip header =
    if is_first_syn header
    then record {
      socket =
          with_tcb v
          (timeout_restarted (believed (answering v.tcb ip header (isn cx (pair_in ip header))) cx.instant) cx.instant 0);
      answer = None;
      draws = draws_number cx;
    }
    else dropped v

-- whether this acknowledges the own SYN and nothing else
abbrev pub acks_syn : SeqNumber → Option SeqNumber → Bool
acks_syn una None = false
acks_syn una (Some n) = distance_of una n == 1

-- SYN-SENT takes a SYN that acknowledges its own: an acknowledgement of it is due at once
abbrev pub connected : Tcb → TcpHeader → ℤ → Tcb
connected b header now =
    let opened : Tcb = una_moved (tsecr_taken (took_syn b header) header 1 now) 1 0 now in
    record opened { state = In.Established; timers = record opened.timers { ack_at = Some now } }

-- SYN-SENT takes a SYN without ACK: both sides open at once (3.5)
abbrev pub crossed : Tcb → TcpHeader → Tcb
crossed b header = record (heard (took_syn b header)) { state = In.SynReceived }

abbrev pub syn_answered : Tcb → TcpHeader → ℤ → Tcb
syn_answered b header now = believed (if is_some header.ack_number then connected b header now else crossed b header) now

-- a reset counts if it acknowledges the SYN; then an acknowledgement of anything else is answered by a reset; then a SYN is taken
abbrev pub takes_answer : ContextValue → TcpValue → IpRepr → TcpHeader → List ℕ → Arrived
takes_answer cx v ip header bytes =
    if is_rst header.control then (if acks_syn v.tcb.sender.una header.ack_number then dropped (ended v) else dropped v)
    else if is_some header.ack_number && not (acks_syn v.tcb.sender.una header.ack_number)
    then answered_with v (rst_reply ip header (length bytes))
    else if is_syn header.control
    then dropped (with_tcb v (timeout_restarted (syn_answered v.tcb header cx.instant) cx.instant (queued_in v)))
    else dropped v
