-- What a reader of options answers, as a value, and what it makes of bytes step by step. That this is what the
-- bytes spell is proved of each reader.
use Rattle.std.specs.Prelude.{◌==◌, ℕ, ◌%◌, Bool, true, false, nat_le, if◌then◌else◌, Option, Some, None, Result, Ok, Err, List, [], ◌∷◌, length, drop}
use Rattle.std.specs.Prelude.{slice_index, slice_range}
use denote.Ref.{Bor}
use Rattle.wire_address.specs.Fields.{be16, be32}
use Rattle.wire_address.specs.declared.Error.{Error}
use Rattle.wire_tcp.specs.declared.option.TcpOption.{TcpOption}
use Rattle.wire_tcp.specs.Options.{OptionValue, EndOfList, MaxSegmentSize, WindowScale, SackPermitted, SackRange, TimeStamp, Unknown, value_of, ranges_of}

-- what is inside an option of a kind that isn't 0 or 1, read; none where it doesn't fit the kind
abbrev pub inside : ℕ → List ℕ → Option OptionValue
inside kind inner =
    if kind == 2 then (if length inner == 2 then Some (MaxSegmentSize (be16 inner 0)) else None)
    else if kind == 3 then (if length inner == 1 then Some (WindowScale (slice_index inner 0)) else None)
    else if kind == 4 then (if length inner == 0 then Some SackPermitted else None)
    else if kind == 5 then (if length inner % 8 == 0 then Some (SackRange (ranges_of inner)) else None)
    else if kind == 8 then (if length inner == 8 then Some (TimeStamp (be32 inner 0) (be32 inner 4)) else None)
    else Some (Unknown kind inner)

-- an option, and the bytes after it
pub record First : Type 0 where
  pub option : OptionValue
  pub rest : List ℕ

-- an option, if there is one, before these bytes
abbrev pub before : Option OptionValue → List ℕ → Option First
before None rest = None
before (Some o) rest = Some (record { option = o; rest = rest })

-- the option of more than one byte at the front, whose length field is n
abbrev pub first_long : List ℕ → ℕ → Option First
first_long bytes n =
    if nat_le 2 n then (if nat_le n (length bytes) then before (inside (slice_index bytes 0) (slice_range bytes 2 n)) (drop n bytes) else None)
    else None

-- whether no option follows this one
abbrev pub is_end : OptionValue → Bool
is_end EndOfList = true
is_end _ = false

-- the option that was read, or none
abbrev pub seen : Result TcpOption Error → Option OptionValue
seen (Ok o) = Some (value_of o)
seen (Err e) = None

-- the option that was read and the bytes after it, or none
abbrev pub seen_first : Result (Bor (List ℕ) × TcpOption) Error → Option First
seen_first (Ok p) = Some (record { option = value_of p.1; rest = p.0.now })
seen_first (Err e) = None
