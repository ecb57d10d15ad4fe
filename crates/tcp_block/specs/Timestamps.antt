-- The timestamps of a connection (RFC 7323): which one counts as the last that came, which segment is too old, and what round trip an
-- echo tells of.
use Rattle.std.specs.Prelude.{ℕ, ◌/◌, ◌==◌, nat_le, ◌&&◌, not, ℤ, unsigned_abs, Bool, false, if◌then◌else◌, Option, Some, None, is_some}
use Rattle.ip_wire.specs.Seq.{distance_of}
use Rattle.ip_wire.specs.SeqNumber.{SeqNumber}
use Rattle.ip_wire.specs.TcpHeader.{TcpHeader}
use Rattle.ip_wire.specs.TcpTimestampGenerator.{TcpTimestampGenerator}
use Rattle.ip_wire.specs.TcpTimestampRepr.{TcpTimestampRepr}
use Rattle.ip_wire.specs.Timestamp.{value_at}
use Rattle.tcp_state.specs.Controls.{or_recent}
use Rattle.tcp_state.specs.Moments.{is_over, tsval_end_from}
use Rattle.tcp_state.specs.Offsets.{distance_after}
use Rattle.tcp_state.specs.RoundTrip as round_trip
use Rattle.tcp_state.specs.RoundTrip.{RoundTripValue}
use Rattle.tcp_block.specs.declared.tcb.Tcb.{Tcb}
use Rattle.tcp_block.specs.declared.tcb.Stamps.{Stamps}

-- timestamps are compared as sequence numbers are (5.2)
abbrev pub tsval_number : ℕ → SeqNumber
tsval_number n = record { 0 = n }

-- the clock of the own timestamps is that of the first SYN; before it went, the one that is set
abbrev pub generator_of : Tcb → Option TcpTimestampGenerator
generator_of b = if b.sender.snd_max == 0 then b.settings.timestamps else b.stamps.generator

abbrev pub value_by : Option TcpTimestampGenerator → ℤ → ℕ
value_by None now = 0
value_by (Some generator) now = value_at generator now

-- a SYN goes: the first one begins the own timestamps
abbrev pub stamps_begun : Tcb → ℤ → Stamps
stamps_begun b now =
    if b.sender.snd_max == 0
    then record b.stamps { generator = b.settings.timestamps; first = value_by b.settings.timestamps now }
    else b.stamps

-- both SYNs have timestamps (3.2)
abbrev pub uses_stamps : Tcb → Bool
uses_stamps b = b.peer.timestamps && is_some b.stamps.generator

-- TS.RECENT (4.3)

-- a timestamp is older than another, by less than 2^31 (5.2)
abbrev pub is_older : ℕ → ℕ → Bool
is_older tsval than = not (distance_after (tsval_number tsval) (tsval_number than) == 0)

-- TS.Recent was set less than 24 days ago (5.5)
abbrev pub is_recent_valid : Tcb → ℤ → Bool
is_recent_valid b now = not (is_over now b.stamps.recent_valid_until)

abbrev pub arrives_older : Option TcpTimestampRepr → ℕ → Bool
arrives_older None recent = false
arrives_older (Some tsval) recent = is_older tsval.tsval recent

-- the segment has a timestamp that is older than TS.Recent
abbrev pub is_outdated : Tcb → TcpHeader → ℤ → Bool
is_outdated b header now = is_recent_valid b now && arrives_older header.options.timestamp b.peer.recent

-- it begins at the last acknowledgement that was sent or before it, and isn't older than TS.Recent (R3)
abbrev pub names_recent : Tcb → TcpHeader → ℤ → Bool
names_recent b header now =
    is_some header.options.timestamp
    && ((distance_after b.receiver.last_ack header.seq_number == 0) && not (is_outdated b header now))

-- TS.Recent counts from now
abbrev pub believed : Tcb → ℤ → Tcb
believed b now = record b { stamps = record b.stamps { recent_valid_until = Some (tsval_end_from now) } }

abbrev pub tsval_taken : Tcb → TcpHeader → ℤ → Tcb
tsval_taken b header now = record b {
  peer = record b.peer { recent = if names_recent b header now then or_recent header.options.timestamp b.peer.recent else b.peer.recent };
  stamps = record b.stamps { recent_valid_until = if names_recent b header now then Some (tsval_end_from now) else b.stamps.recent_valid_until };
}

-- PROTECTION AGAINST WRAPPED SEQUENCE NUMBERS (5.3, R1): such a segment, unless it is a reset, isn't acceptable
abbrev pub is_stale : Tcb → TcpHeader → ℤ → Bool
is_stale b header now = uses_stamps b && is_outdated b header now

-- ROUND TRIPS (4.1)

-- how far a timestamp lies past another
abbrev pub gap : ℕ → ℕ → ℕ
gap from to = distance_of (tsval_number from) (tsval_number to)

-- the milliseconds since the own timestamp that is echoed, if it lies between the first one and the present
abbrev pub elapsed : ℕ → ℕ → ℕ → Option ℕ
elapsed first present tsecr = if nat_le (gap first tsecr) (gap first present) then Some (gap tsecr present) else None

abbrev pub elapsed_by : Option TcpTimestampGenerator → ℕ → Option TcpTimestampRepr → ℤ → Option ℕ
elapsed_by None first tsval now = None
elapsed_by (Some generator) first None now = None
elapsed_by (Some generator) first (Some tsval) now = elapsed first (value_at generator now) tsval.tsecr

-- the whole milliseconds of an instant, which an own timestamp counts
abbrev pub millis_of : ℤ → ℕ
millis_of instant = unsigned_abs instant / 1000

-- what the echo of a segment says
abbrev pub rtt_of_tsecr : Tcb → TcpHeader → ℤ → Option ℕ
rtt_of_tsecr b header now = if b.peer.timestamps then elapsed_by b.stamps.generator b.stamps.first header.options.timestamp now else None

abbrev pub timed_with : Bool → RoundTripValue → ℕ → Option ℕ → RoundTripValue
timed_with fine r by None = r
timed_with fine r by (Some millis) = round_trip.echoed fine r by millis

abbrev pub timed_by : Bool → RoundTripValue → ℕ → Option ℕ → RoundTripValue
timed_by fine r by tsecr = if by == 0 then r else timed_with fine r by tsecr

-- a segment that makes SND.UNA rise by so much tells of a round trip by its echo
abbrev pub tsecr_taken : Tcb → TcpHeader → ℕ → ℤ → Tcb
tsecr_taken b header by now = record b { round_trip = timed_by b.settings.fine_timer b.round_trip by (rtt_of_tsecr b header now) }
