-- The tables that refusals read, and when a call is refused.
use Rattle.std.specs.Prelude.{◌≡◌, ℕ, ◌+◌, ◌^◌, ◌==◌, nat_le, not, ◌&&◌, ◌||◌, Bool, true, false, if◌then◌else◌, List, [], ◌∷◌, length, replicate, slice_set}
use Rattle.std.specs.Prelude.{slice_index_or, Option, Some, None, is_some}
use Rattle.std.specs.List.{list_any}
use Rattle.lan.specs.declared.at_link.history.answer.Answer.{Answer}
use Rattle.lan.specs.declared.at_link.history.answer.Refused.{Refused}
use Rattle.lan.specs.declared.at_link.history.answer.Refused.TheVariants as For
use Rattle.lan.specs.declared.at_link.history.event.Side.{Side}
use Rattle.lan.specs.declared.at_link.history.event.Side.TheVariants.{A, B}
use Rattle.lan.specs.declared.at_link.history.record.Opening.{Opening}
use Rattle.lan.specs.declared.at_link.history.record.SocketKind.{SocketKind}
use Rattle.lan.specs.declared.at_link.history.record.SocketKind.TheVariants as Of
use Rattle.lan.specs.declared.at_link.history.record.SocketRecord.{SocketRecord}
use Rattle.lan.specs.Worlds.AtLink.Kinds.{same_side, Kind, kind_of}
use Rattle.lan.specs.Worlds.AtLink.Call.{SocketCall}
use Rattle.lan.specs.Worlds.AtLink.Kinds.Act.{Calls}
use Rattle.lan.specs.Worlds.AtLink.Kinds.Kind.{OfHost}
use Rattle.lan.specs.Worlds.AtLink.Call as Call
use Rattle.lan.specs.Worlds.AtLink.History.{Entry, first_of, opening_by, bytes_written, opening, written}

-- THE TABLE of a host: a record for each place of its socket set

abbrev pub no_record : SocketRecord
no_record = record { opened = None; accepted = 0 }

-- the record after a call with its answer
abbrev pub record_after : SocketRecord → SocketCall → Answer → SocketRecord
record_after r call answer = record {
  opened = first_of r.opened (opening_by (Some call) answer);
  accepted = r.accepted + length (bytes_written (Some call) answer);
}

abbrev pub record_at : List SocketRecord → ℕ → SocketRecord
record_at table i = slice_index_or table i no_record

abbrev pub table_after : Kind → Answer → Side → List SocketRecord → List SocketRecord
table_after (OfHost s (Calls i call)) answer side table =
    if same_side s side then slice_set table i (record_after (record_at table i) call answer) else table
table_after other answer side table = table

-- the table that a history leads to, of so many slots
abbrev pub table_of : List Entry → Side → ℕ → List SocketRecord
table_of [] side slots = replicate slots no_record
table_of (e ∷ past) side slots = table_after (kind_of e.event) e.answer side (table_of past side slots)

-- REFUSALS. The first test that holds says why.

abbrev pub first_refusal : List (Bool × Refused) → Option Refused
first_refusal [] = None
first_refusal (test ∷ tests) = if test.0 then Some test.1 else first_refusal tests

-- the same remote port is named
abbrev pub names_same : Option ℕ → Option ℕ → Bool
names_same (Some one) (Some another) = one == another
names_same one another = false

-- a socket was opened at the local port, or to the remote one
abbrev pub takes_ports : Opening → Option Opening → Bool
takes_ports o None = false
takes_ports o (Some p) = (p.local == o.local) || names_same p.remote o.remote

abbrev pub is_port_taken : List SocketRecord → Opening → Bool
is_port_taken table o = list_any (λ r. takes_ports o r.opened) table

-- the calls that each kind of socket has
abbrev pub has_call : SocketKind → SocketCall → Bool
has_call Of.Tcp (Call.Listen port) = true
has_call Of.Tcp (Call.Connect remote port) = true
has_call Of.Tcp (Call.Send bytes) = true
has_call Of.Tcp (Call.Recv limit) = true
has_call Of.Tcp Call.Close = true
has_call Of.Tcp Call.Abort = true
has_call Of.Tcp Call.State = true
has_call Of.Tcp (Call.Set setting) = true
has_call Of.Udp (Call.Bind port) = true
has_call Of.Udp (Call.SendTo remote bytes) = true
has_call Of.Udp (Call.RecvFrom limit) = true
has_call Of.Udp Call.Close = true
has_call Of.Icmp (Call.Ident ident) = true
has_call Of.Icmp (Call.SendIcmp remote bytes) = true
has_call Of.Icmp (Call.RecvFrom limit) = true
has_call Of.Raw (Call.SendRaw bytes) = true
has_call Of.Raw (Call.RecvFrom limit) = true
has_call kind call = false

-- there is a socket, but the call isn't one of its kind
abbrev pub is_wrong_kind : Option SocketKind → SocketCall → Bool
is_wrong_kind None call = false
is_wrong_kind (Some kind) call = not (has_call kind call)

-- so many bytes more are too many
abbrev pub is_too_many : SocketRecord → ℕ → Bool
is_too_many r more = nat_le (2 ^ 29) (r.accepted + more)

-- the tests of an opening
abbrev pub opening_tests : List SocketRecord → ℕ → Opening → List (Bool × Refused)
opening_tests table i o = (is_some (record_at table i).opened, For.OpenedTwice) ∷ (is_port_taken table o, For.PortTaken) ∷ []

-- the tests of a call of its own; `names` says whether an IP packet carries TCP or UDP
abbrev pub own_tests : (List ℕ → Bool) → List SocketRecord → ℕ → SocketCall → List (Bool × Refused)
own_tests names table i (Call.Listen port) = opening_tests table i (record { local = port; remote = None })
own_tests names table i (Call.Connect remote port) = opening_tests table i (record { local = port; remote = Some remote.port })
own_tests names table i (Call.Send bytes) = (is_too_many (record_at table i) (length bytes), For.TooManyBytes) ∷ []
own_tests names table i (Call.SendRaw bytes) = (names bytes, For.RawProtocol) ∷ []
own_tests names table i call = []

-- the tests of a call of the socket at a slot, in their order
abbrev pub call_tests : (List ℕ → Bool) → Option SocketKind → List SocketRecord → ℕ → SocketCall → List (Bool × Refused)
call_tests names kind table i call =
    (not (is_some kind), For.NoSocket) ∷ (is_wrong_kind kind call, For.WrongKind) ∷ own_tests names table i call

-- why a call isn't taken, but for lack of memory; none where it is
abbrev pub call_refusal : (List ℕ → Bool) → Option SocketKind → List SocketRecord → ℕ → SocketCall → Option Refused
call_refusal names kind table i call = first_refusal (call_tests names kind table i call)

-- ALLOWED HISTORIES: no call was taken that had to be refused. The sockets stay where they are, each of its kind.

-- which kind of socket is at each place of both hosts, and whether an IP packet carries TCP or UDP
pub record Slots : Type 0 where
  pub a : List (Option SocketKind)
  pub b : List (Option SocketKind)
  pub names : List ℕ → Bool

abbrev pub kinds : Slots → Side → List (Option SocketKind)
kinds slots A = slots.a
kinds slots B = slots.b

abbrev pub kind_at : Slots → Side → ℕ → Option SocketKind
kind_at slots side i = slice_index_or (kinds slots side) i None

abbrev pub IsAllowed : Slots → List Entry → Kind → Type 0
IsAllowed slots past (OfHost side (Calls i call)) =
    call_refusal slots.names (kind_at slots side i) (table_of past side (length (kinds slots side))) i call ≡ None
IsAllowed slots past other = Unit {0}

abbrev pub AreAllowed : Slots → List Entry → Type 0
AreAllowed slots [] = Unit {0}
AreAllowed slots (e ∷ past) = IsAllowed slots past (kind_of e.event) × AreAllowed slots past

-- what the history says of the socket at a slot
abbrev pub record_of : List Entry → Side → ℕ → SocketRecord
record_of history side i = record { opened = opening history side i; accepted = length (written history side i) }
