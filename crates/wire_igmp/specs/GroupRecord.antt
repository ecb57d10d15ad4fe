-- Group records of IGMPv3 (RFC 3376, section 4.2.4), and of MLDv2 (RFC 3810, section 5.2.4), which differ in the width of
-- their addresses: type, length of the auxiliary data in words of four bytes, number of sources, the group, the sources,
-- the auxiliary data.
use Rattle.std.specs.Prelude.{◌≡◌, ℕ, zero, suc, ◌+◌, ◌*◌, ◌≤◌, ◌==◌, if◌then◌else◌, List, ◌∷◌, length, take, drop, slice_index, codes, decimal}
use Rattle.wire_address.specs.Fields.{be16}
use Rattle.wire_igmp.specs.declared.group_record.GroupRecord.{GroupRecord}
use Rattle.wire_igmp.specs.declared.group_record.RecordType.{RecordType}
use Rattle.wire_igmp.specs.declared.group_record.RecordType.TheVariants as Kind

-- the number of a type of record (RFC 3376, section 4.2.12)
abbrev pub type_number : RecordType → ℕ
type_number Kind.ModeIsInclude = 1
type_number Kind.ModeIsExclude = 2
type_number Kind.ChangeToInclude = 3
type_number Kind.ChangeToExclude = 4
type_number Kind.AllowNewSources = 5
type_number Kind.BlockOldSources = 6
type_number (Kind.Unknown n) = n

-- the type of this number
abbrev pub type_of : ℕ → RecordType
type_of n =
    if n == 1 then Kind.ModeIsInclude
    else (if n == 2 then Kind.ModeIsExclude
    else (if n == 3 then Kind.ChangeToInclude
    else (if n == 4 then Kind.ChangeToExclude
    else (if n == 5 then Kind.AllowNewSources
    else (if n == 6 then Kind.BlockOldSources
    else Kind.Unknown n)))))

-- what is printed of a type
abbrev pub type_text : RecordType → List ℕ
type_text Kind.ModeIsInclude = codes "is include"
type_text Kind.ModeIsExclude = codes "is exclude"
type_text Kind.ChangeToInclude = codes "to include"
type_text Kind.ChangeToExclude = codes "to exclude"
type_text Kind.AllowNewSources = codes "allow"
type_text Kind.BlockOldSources = codes "block"
type_text (Kind.Unknown n) = decimal n

-- a record as a value: its type, the bytes of the group's address, and those of the sources'
pub record RecordValue : Type 0 where
  pub kind : RecordType
  pub group : List ℕ
  pub sources : List ℕ

-- the value that is kept
abbrev pub value_of : GroupRecord → RecordValue
value_of r = record { kind = r.record_type; group = r.group.now; sources = r.sources.now }

-- the length of the record that begins here, of addresses of this width
abbrev pub record_len : ℕ → List ℕ → ℕ
record_len width bytes = 4 + width + width * be16 bytes 2 + 4 * slice_index bytes 1

-- what stands after its group
abbrev pub after_group : ℕ → List ℕ → List ℕ
after_group width bytes = drop width (drop 4 bytes)

-- what stands after its sources
abbrev pub after_sources : ℕ → List ℕ → List ℕ
after_sources width bytes = drop (width * be16 bytes 2) (after_group width bytes)

-- what stands after it
abbrev pub after_record : ℕ → List ℕ → List ℕ
after_record width bytes = drop (4 * slice_index bytes 1) (after_sources width bytes)

-- a record begins here, and the rest follows it; auxiliary data isn't looked at (RFC 3376, section 4.2.10)
pub record Begins (width : ℕ) (bytes : List ℕ) (v : RecordValue) (rest : List ℕ) : Type 0 where
  pub whole : record_len width bytes ≤ length bytes
  pub kind : v.kind ≡ type_of (slice_index bytes 0)
  pub group : v.group ≡ take width (drop 4 bytes)
  pub sources : v.sources ≡ take (width * be16 bytes 2) (after_group width bytes)
  pub rest_is : rest ≡ after_record width bytes

-- this many records stand here
abbrev pub AreRecords : ℕ → ℕ → List ℕ → Type 0
AreRecords width zero bytes = Unit {0}
AreRecords width (suc n) bytes = (record_len width bytes ≤ length bytes) × AreRecords width n (after_record width bytes)

-- a record that is sent: it names no source
abbrev pub record_spelling : RecordType → List ℕ → List ℕ
record_spelling kind group = type_number kind ∷ 0 ∷ 0 ∷ 0 ∷ group
