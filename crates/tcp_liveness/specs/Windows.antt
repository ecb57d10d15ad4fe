-- The windows of two sides: what each segment says of the own one, and that the other keeps to it (RFC 9293, 3.8.6; RFC 7323, 2).
use Rattle.std.specs.Prelude.{◌≡◌, ℕ, ◌+◌, ◌*◌, ◌^◌, ◌≤◌, max, true, false, Some}
use Rattle.std.specs.List.{AllByRecursion}
use Rattle.ip_wire.specs.TcpHeader.{TcpHeader}
use Rattle.tcp_invariants.specs.Controls.{is_syn, is_rst}
use Rattle.tcp_invariants.specs.OpenOffer.{OpenOffer}
use Rattle.tcp_invariants.specs.States.{accepts_data}
use Rattle.tcp_block.specs.TcbRules.{is_worth_telling, local_scale, window_field}
use Rattle.tcp_block.specs.Value.{TcpValue, free_in, room_of}
use Rattle.tcp_refinement.specs.Pair.Values.{PairSide}
use Rattle.tcp_refinement.specs.declared.pair.event.SentSegment.{SentSegment}

-- A segment announces no more than a receive buffer of this capacity holds. A SYN, whose field isn't shifted, names the shift of all others;
-- of a reset no window is read.
pub record Announces (capacity : ℕ) (header : TcpHeader) : Type 0 where
  pub syn : is_syn header.control ≡ true → (header.window_len ≤ capacity) × (header.options.window_scale ≡ Some (local_scale capacity))
  pub later : is_syn header.control ≡ false → is_rst header.control ≡ false → header.window_len * 2 ^ local_scale capacity ≤ capacity

abbrev pub IsTold : ℕ → SentSegment → Type 0
IsTold capacity x = Announces capacity x.segment

-- so does each segment that a side ever sent, of its own buffer
abbrev pub HasTold : PairSide → Type 0
HasTold s = AllByRecursion (IsTold (room_of s.socket.received)) s.sent

-- What a side knows of its peer's window, and what it ever sent past SND.UNA, fit the peer's buffer: but for the byte that probes a
-- closed window, the SYN and the FIN.
pub record KeepsToWindow (v peer_side : TcpValue) : Type 0 where
  pub window : v.tcb.peer.window ≤ room_of peer_side.received
  pub sent : v.tcb.sender.snd_max ≤ max 1 (room_of peer_side.received) + 2

-- So much space came free, in a state in which payload may come, that it is worth a segment (3.8.6.2.2); and the own SYN is acknowledged.
pub record OwesUpdate (v : TcpValue) : Type 0 where
  pub takes : accepts_data v.tcb.state ≡ true
  pub worth : is_worth_telling v.tcb (room_of v.received) (free_in v) ≡ true
  pub acknowledged : v.tcb.sender.syn_unacked ≡ false

-- the segment that a socket offers tells the free space of `v`, as far as its field can
pub record TellsSpace (v x : TcpValue) : Type 0 where
  pub offer : OpenOffer
  pub offered : x.offered ≡ Some offer
  pub tells : offer.segment.window_len ≡ window_field v.tcb (room_of v.received) (free_in v)
