-- TCP options (RFC 9293, section 3.2; RFC 7323, sections 2.2 and 3.2; RFC 2018, sections 2 and 3). The end of
-- the options and a no-operation are one byte. All others are their kind, their length with these two bytes,
-- and what is inside.
use Rattle.std.specs.Prelude.{◌≡◌, ◌≢◌, ◌==◌, ℕ, ◌+◌, ◌%◌, ◌<◌, ◌^◌, Bool, true, false, nat_le, if◌then◌else◌, Option, Some, None, List, [], ◌∷◌, ◌++◌, length}
use Rattle.std.specs.Prelude.{take, slice_index, min, replicate, ◌-◌, ◌*◌, ◌/◌}
use Rattle.std.specs.Int.{w16, w32, to_be_bytes}
use Rattle.wire_address.specs.Fields.{be16, be32, IsNumber}
use Rattle.wire_tcp.specs.declared.option.TcpOption.{TcpOption}
use Rattle.wire_tcp.specs.declared.option.TcpOption.TheVariants as Tcp
use Rattle.wire_tcp.specs.declared.option.TcpOptions.{TcpOptions}
use Rattle.wire_tcp.specs.declared.timestamp.TcpTimestampRepr.{TcpTimestampRepr}

-- an option as a value, whose bytes are a list
pub data OptionValue : Type 0 where
  EndOfList : OptionValue
  NoOperation : OptionValue
  MaxSegmentSize : ℕ → OptionValue
  WindowScale : ℕ → OptionValue
  SackPermitted : OptionValue
  SackRange : List (Option (ℕ × ℕ)) → OptionValue
  TimeStamp : ℕ → ℕ → OptionValue
  Unknown : ℕ → List ℕ → OptionValue

-- the value of an option
abbrev pub value_of : TcpOption → OptionValue
value_of Tcp.EndOfList = EndOfList
value_of Tcp.NoOperation = NoOperation
value_of (Tcp.MaxSegmentSize n) = MaxSegmentSize n
value_of (Tcp.WindowScale n) = WindowScale n
value_of Tcp.SackPermitted = SackPermitted
value_of (Tcp.SackRange ranges) = SackRange ranges
value_of (Tcp.TimeStamp tsval tsecr) = TimeStamp tsval tsecr
value_of (Tcp.Unknown kind bytes) = Unknown kind bytes.now

-- the range of sequence numbers at an offset, if it is there (RFC 2018, section 3)
abbrev pub range_at : List ℕ → ℕ → Option (ℕ × ℕ)
range_at inner i = if nat_le (i + 8) (length inner) then Some (be32 inner i, be32 inner (i + 4)) else None

-- the first three ranges
abbrev pub ranges_of : List ℕ → List (Option (ℕ × ℕ))
ranges_of inner = range_at inner 0 ∷ range_at inner 8 ∷ range_at inner 16 ∷ []

-- an option of more than one byte: its kind, its length with these two bytes, and what is inside
abbrev pub long_option : ℕ → List ℕ → List ℕ
long_option kind inner = kind ∷ (2 + length inner) ∷ inner

-- a kind of option that is skipped
pub record IsOtherKind (kind : ℕ) : Type 0 where
  pub end : kind ≢ 0
  pub no_operation : kind ≢ 1
  pub size : kind ≢ 2
  pub scale : kind ≢ 3
  pub permitted : kind ≢ 4
  pub ranges : kind ≢ 5
  pub stamp : kind ≢ 8

-- the bytes spell the option
abbrev pub IsOption : OptionValue → List ℕ → Type 0
IsOption EndOfList bytes = bytes ≡ 0 ∷ []
IsOption NoOperation bytes = bytes ≡ 1 ∷ []
IsOption (MaxSegmentSize n) bytes = (inner : List ℕ) × (bytes ≡ long_option 2 inner) × (length inner ≡ 2) × (n ≡ be16 inner 0)
IsOption (WindowScale n) bytes = (inner : List ℕ) × (bytes ≡ long_option 3 inner) × (length inner ≡ 1) × (n ≡ slice_index inner 0)
IsOption SackPermitted bytes = bytes ≡ long_option 4 []
IsOption (SackRange ranges) bytes = (inner : List ℕ) × (bytes ≡ long_option 5 inner) × (length inner % 8 ≡ 0) × (ranges ≡ ranges_of inner)
IsOption (TimeStamp tsval tsecr) bytes = (inner : List ℕ) × (bytes ≡ long_option 8 inner) × (length inner ≡ 8) × (tsval ≡ be32 inner 0) × (tsecr ≡ be32 inner 4)
IsOption (Unknown kind inner) bytes = (bytes ≡ long_option kind inner) × IsOtherKind kind

-- the option stands at the front of the bytes, before the rest
abbrev pub Begins : List ℕ → OptionValue → List ℕ → Type 0
Begins bytes o rest = (front : List ℕ) × IsOption o front × (bytes ≡ front ++ rest)

-- the bytes are these options, one after another; what is after the end of the options is not looked at
abbrev pub Spells : List OptionValue → List ℕ → Type 0
Spells [] bytes = bytes ≡ []
Spells (EndOfList ∷ os) bytes = (rest : List ℕ) × Begins bytes EndOfList rest × (os ≡ [])
Spells (o ∷ os) bytes = (rest : List ℕ) × Begins bytes o rest × Spells os rest

-- no options
abbrev pub no_options : TcpOptions
no_options = record { max_seg_size = None; window_scale = None; sack_permitted = false; sack_ranges = None ∷ None ∷ None ∷ []; timestamp = None }

-- the largest shift that is used (RFC 7323, section 2.3)
abbrev pub capped : ℕ → ℕ
capped scale = min scale 14

-- the options with one more, which replaces an earlier one of its kind
abbrev pub taken : TcpOptions → OptionValue → TcpOptions
taken v EndOfList = v
taken v NoOperation = v
taken v (MaxSegmentSize n) = record v { max_seg_size = Some n }
taken v (WindowScale n) = record v { window_scale = Some (capped n) }
taken v SackPermitted = record v { sack_permitted = true }
taken v (SackRange ranges) = record v { sack_ranges = ranges }
taken v (TimeStamp tsval tsecr) = record v { timestamp = Some (record { tsval = tsval; tsecr = tsecr }) }
taken v (Unknown kind bytes) = v

-- the options with these more, in order
abbrev pub all_taken : TcpOptions → List OptionValue → TcpOptions
all_taken v [] = v
all_taken v (o ∷ os) = all_taken (taken v o) os

-- alongside the options so far the bytes hold options that make these
abbrev pub Says : TcpOptions → List ℕ → TcpOptions → Type 0
Says so_far bytes v = (os : List OptionValue) × Spells os bytes × (v ≡ all_taken so_far os)

-- the bytes of ranges, closed up
abbrev pub ranges_bytes : List (Option (ℕ × ℕ)) → List ℕ
ranges_bytes [] = []
ranges_bytes (None ∷ ranges) = ranges_bytes ranges
ranges_bytes (Some range ∷ ranges) = to_be_bytes w32 range.0 ++ (to_be_bytes w32 range.1 ++ ranges_bytes ranges)

-- the bytes of an option
abbrev pub option_bytes : OptionValue → List ℕ
option_bytes EndOfList = 0 ∷ []
option_bytes NoOperation = 1 ∷ []
option_bytes (MaxSegmentSize n) = 2 ∷ 4 ∷ to_be_bytes w16 n
option_bytes (WindowScale n) = 3 ∷ 3 ∷ n ∷ []
option_bytes SackPermitted = 4 ∷ 2 ∷ []
option_bytes (SackRange ranges) = 5 ∷ (2 + length (ranges_bytes ranges)) ∷ ranges_bytes ranges
option_bytes (TimeStamp tsval tsecr) = 8 ∷ 10 ∷ (to_be_bytes w32 tsval ++ to_be_bytes w32 tsecr)
option_bytes (Unknown kind bytes) = kind ∷ (2 + length bytes) ∷ bytes

-- what can be written: an option's length fits its field
abbrev pub FitsOption : OptionValue → Type 0
FitsOption (Unknown kind bytes) = 2 + length bytes < 256
FitsOption _ = Unit {0}

-- the bytes of several options
abbrev pub options_bytes : List OptionValue → List ℕ
options_bytes [] = []
options_bytes (o ∷ os) = option_bytes o ++ options_bytes os

-- the maximum segment size, if there is one
abbrev pub size_options : Option ℕ → List OptionValue
size_options None = []
size_options (Some n) = MaxSegmentSize n ∷ []

-- the shift of the window, if there is one
abbrev pub scale_options : Option ℕ → List OptionValue
scale_options None = []
scale_options (Some n) = WindowScale n ∷ []

-- whether selective acknowledgement is permitted
abbrev pub permitted_options : Bool → List OptionValue
permitted_options true = SackPermitted ∷ []
permitted_options false = []

-- the ranges, if there are any
abbrev pub range_options : List (Option (ℕ × ℕ)) → List OptionValue
range_options ranges = if length (ranges_bytes ranges) == 0 then [] else SackRange ranges ∷ []

-- the timestamps, if there are any
abbrev pub timestamps_options : Option TcpTimestampRepr → List OptionValue
timestamps_options None = []
timestamps_options (Some stamp) = TimeStamp stamp.tsval stamp.tsecr ∷ []

-- SACK permitted, else the ranges, where the segment acknowledges
abbrev pub sack_options : Bool → Bool → List (Option (ℕ × ℕ)) → List OptionValue
sack_options true acknowledges ranges = SackPermitted ∷ []
sack_options false true ranges = range_options ranges
sack_options false false ranges = []

-- the bytes of the options that are sent, in their order
abbrev pub sent_bytes : Bool → TcpOptions → List ℕ
sent_bytes acknowledges v =
    options_bytes (size_options v.max_seg_size) ++ options_bytes (scale_options v.window_scale)
    ++ options_bytes (sack_options v.sack_permitted acknowledges v.sack_ranges) ++ options_bytes (timestamps_options v.timestamp)

-- the same for SACK permitted and the ranges, each of which counts
abbrev pub sack_room : TcpOptions → ℕ
sack_room v =
    length (options_bytes (permitted_options v.sack_permitted)) + length (options_bytes (range_options v.sack_ranges))

-- how many bytes room is made for: ranges count also where they aren't sent
abbrev pub options_room : TcpOptions → ℕ
options_room v =
    length (options_bytes (size_options v.max_seg_size)) + length (options_bytes (scale_options v.window_scale))
    + length (options_bytes (permitted_options v.sack_permitted)) + length (options_bytes (range_options v.sack_ranges))
    + length (options_bytes (timestamps_options v.timestamp))

-- a multiple of four
abbrev pub padded : ℕ → ℕ
padded n = (n + 3) / 4 * 4

-- the option bytes of a header: the options, and zeros, which end them, up to the room
abbrev pub options_area : Bool → TcpOptions → List ℕ
options_area acknowledges v =
    sent_bytes acknowledges v ++ replicate (padded (options_room v) - length (sent_bytes acknowledges v)) 0

-- the ranges that are there
abbrev pub present : List (Option (ℕ × ℕ)) → List (Option (ℕ × ℕ))
present [] = []
present (None ∷ ranges) = present ranges
present (Some range ∷ ranges) = Some range ∷ present ranges

-- no ranges
abbrev pub no_ranges : List (Option (ℕ × ℕ))
no_ranges = None ∷ None ∷ None ∷ []

-- the ranges closed up
abbrev pub closed_up : List (Option (ℕ × ℕ)) → List (Option (ℕ × ℕ))
closed_up ranges = take 3 (present ranges ++ no_ranges)

-- the ranges as they are sent: only alongside an acknowledgement, and not where SACK is permitted
abbrev pub sent_ranges : Bool → Bool → List (Option (ℕ × ℕ)) → List (Option (ℕ × ℕ))
sent_ranges true acknowledges ranges = no_ranges
sent_ranges false true ranges = closed_up ranges
sent_ranges false false ranges = no_ranges

-- the scale as it is read
abbrev pub read_scale : Option ℕ → Option ℕ
read_scale None = None
read_scale (Some n) = Some (capped n)

-- what a reader makes of options that were sent
abbrev pub normal_options : Bool → TcpOptions → TcpOptions
normal_options acknowledges v =
    record v { window_scale = read_scale v.window_scale; sack_ranges = sent_ranges v.sack_permitted acknowledges v.sack_ranges }

-- options as a reader gives them: the scale ends at 14, and the ranges are closed up
pub record AreRead (v : TcpOptions) : Type 0 where
  pub scale : read_scale v.window_scale ≡ v.window_scale
  pub ranges : closed_up v.sack_ranges ≡ v.sack_ranges

-- each field is a number of its width
abbrev pub IsRange : Option (ℕ × ℕ) → Type 0
IsRange None = Unit {0}
IsRange (Some range) = (range.0 < 2 ^ 32) × (range.1 < 2 ^ 32)

abbrev pub IsStamp : Option TcpTimestampRepr → Type 0
IsStamp None = Unit {0}
IsStamp (Some stamp) = (stamp.tsval < 2 ^ 32) × (stamp.tsecr < 2 ^ 32)

abbrev pub AreRanges : List (Option (ℕ × ℕ)) → Type 0
AreRanges (a ∷ b ∷ c ∷ []) = IsRange a × IsRange b × IsRange c
AreRanges _ = ⊥

pub record AreOptions (v : TcpOptions) : Type 0 where
  pub size : IsNumber (2 ^ 16) v.max_seg_size
  pub scale : IsNumber 256 v.window_scale
  pub ranges : AreRanges v.sack_ranges
  pub stamp : IsStamp v.timestamp

-- an option whose numbers have the widths of their fields, and that isn't a known one under the name of an unknown
abbrev pub IsOptionValue : OptionValue → Type 0
IsOptionValue (MaxSegmentSize n) = n < 2 ^ 16
IsOptionValue (WindowScale n) = n < 256
IsOptionValue (SackRange ranges) = AreRanges ranges
IsOptionValue (TimeStamp tsval tsecr) = (tsval < 2 ^ 32) × (tsecr < 2 ^ 32)
IsOptionValue (Unknown kind inner) = IsOtherKind kind
IsOptionValue _ = Unit {0}

-- what a reader makes of an option that was sent
abbrev pub normal_option : OptionValue → OptionValue
normal_option (SackRange ranges) = SackRange (closed_up ranges)
normal_option o = o
