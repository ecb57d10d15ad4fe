-- How the tables follow an event.
use Rattle.std.specs.Prelude.{◌≡◌, ◌+◌, ◌<◌, ◌^◌, ℕ, true, if◌then◌else◌, List, length, drop, Option, None, Some}
use Rattle.std.specs.List.{count_by}
use Rattle.net_base.specs.Medium.{Medium}
use Rattle.lan.specs.Worlds.AtLink.Call as Call
use Rattle.lan.specs.Worlds.AtLink.History.{first_of, opening_by, bytes_written}
use Rattle.lan.specs.Worlds.AtLink.Kinds.{same_side, Kind}
use Rattle.lan.specs.Worlds.AtLink.Kinds.Act.{Calls}
use Rattle.lan.specs.Worlds.AtLink.Kinds.Kind.{OfHost}
use Rattle.lan.specs.Worlds.AtLink.Tables.{record_at, table_after}
use Rattle.lan.specs.declared.at_link.history.answer.Answer.{Answer}
use Rattle.lan.specs.declared.at_link.history.event.Side.{Side}
use Rattle.lan.specs.declared.at_link.history.record.Opening.{Opening}
use Rattle.lan.specs.declared.at_link.history.record.SocketRecord.{SocketRecord}
use Rattle.lan.specs.Worlds.AtLink.Origins.{medium_of, is_cut_of, begins_datagram}
use Rattle.lan.specs.Worlds.AtLink.Refusals.{Table}
use Rattle.lan.specs.Worlds.AtLink.Node.{NodeValue}

-- how many datagrams a host began in an event, before which it had sent so many frames
abbrev pub datagrams_added : Side → Kind → Medium → ℕ → List (List ℕ) → ℕ
datagrams_added side kind medium before sent =
    if is_cut_of side kind then 0 else count_by (begins_datagram medium) (drop before sent)

-- a host's table after an event that was answered so and left the host so
abbrev pub table_next : Side → Kind → Answer → ℕ → NodeValue → Table → Table
table_next side kind answer before s t = record {
  records = table_after kind answer side t.records;
  numbered = t.numbered + datagrams_added side kind (medium_of s) before s.link.sent;
}

-- BY EVENT

-- the place of the socket that is called, where it is this host's
abbrev pub slot_of : Side → Kind → Option ℕ
slot_of side (OfHost s (Calls i call)) = if same_side s side then Some i else None
slot_of side kind = None

abbrev pub opening_in : Kind → Answer → Option Opening
opening_in (OfHost s (Calls i call)) answer = opening_by (Some call) answer
opening_in kind answer = None

abbrev pub written_in : Kind → Answer → ℕ
written_in (OfHost s (Calls i call)) answer = length (bytes_written (Some call) answer)
written_in kind answer = 0

-- a record after an event of its socket
abbrev pub record_by : SocketRecord → Kind → Answer → SocketRecord
record_by r kind answer = record {
  opened = first_of r.opened (opening_in kind answer);
  accepted = r.accepted + written_in kind answer;
}

-- what a send of this host adds to the bytes that its socket accepted leaves them few
abbrev pub HasByteRoom : Side → List SocketRecord → Kind → Type 0
HasByteRoom side table (OfHost s (Calls i (Call.Send bytes))) = same_side s side ≡ true → (record_at table i).accepted + length bytes < 2 ^ 29
HasByteRoom side table kind = Unit {0}

-- the count of accepted bytes stays in range
abbrev pub CanRise : SocketRecord → ℕ → Type 0
CanRise r more = 0 < more → r.accepted + more < 2 ^ 32
