-- Messages of IGMP (RFC 1112, appendix I; RFC 2236, section 2; RFC 3376, section 4): type, a code that says in a query how
-- long an answer may take, checksum of two bytes, and what depends on the type. There is no length field.
use Rattle.std.specs.Prelude.{◌≡◌, ℕ, ◌+◌, ◌*◌, ◌/◌, ◌%◌, ◌<◌, ◌≤◌, ◌^◌, ◌==◌, Bool, if◌then◌else◌, List, [], ◌∷◌, ◌++◌, length, drop, slice_index, slice_range}
use Rattle.std.specs.Int.{w16, to_be_bytes}
use Rattle.std.specs.Borrow.{GName}
use Rattle.wire_address.specs.Address.{IsIpv4Address}
use Rattle.wire_address.specs.Fields.{be16, put16}
use Rattle.wire_address.specs.Sum.{word_sum, ChecksumHolds, complement}
use Rattle.wire_address.specs.declared.ipv4.Ipv4Address.{Ipv4Address}
use Rattle.wire_igmp.specs.GroupRecord.{AreRecords}
use Rattle.wire_igmp.specs.IgmpMessage.{report_number}
use Rattle.wire_igmp.specs.declared.packet.IgmpPacket.{IgmpPacket}
use Rattle.wire_igmp.specs.declared.packet_mut.IgmpPacketMut.{IgmpPacketMut}
use Rattle.wire_igmp.specs.declared.repr.IgmpRepr.{IgmpRepr}
use Rattle.wire_igmp.specs.declared.repr.IgmpRepr.TheVariants as Repr

-- the bytes that a view reads
abbrev pub bytes_of : IgmpPacket → List ℕ
bytes_of view = view.buffer.now

-- the bytes that a writing view holds
abbrev pub bytes_in : IgmpPacketMut → List ℕ
bytes_in view = view.buffer.now

-- which buffer it is that a writing view holds
abbrev pub name_of : IgmpPacketMut → GName
name_of view = view.buffer.ghost_name

-- the header that all messages share is there
abbrev pub IsWhole : List ℕ → Type 0
IsWhole bytes = 8 ≤ length bytes

-- the checksum holds, which covers the whole message and no pseudo header (RFC 3376, section 4.1.2)
abbrev pub IsChecked : List ℕ → Type 0
IsChecked bytes = ChecksumHolds (word_sum bytes)

-- the bytes with the message's checksum in its field
abbrev pub with_checksum : List ℕ → List ℕ
with_checksum bytes = put16 bytes 2 (complement (word_sum (put16 bytes 2 0)))

-- a query of version 1 or 2 has exactly eight bytes (RFC 3376, section 7.1)
pub record IsQuery (bytes : List ℕ) (code : ℕ) (group : Ipv4Address) : Type 0 where
  pub kind : slice_index bytes 0 ≡ 17
  pub exact : length bytes ≡ 8
  pub code_is : code ≡ slice_index bytes 1
  pub group_is : group.0 ≡ slice_range bytes 4 8

-- a query of version 3 has twelve bytes or more, and all the sources that it counts; four bits are reserved, and what
-- follows the sources isn't looked at (RFC 3376, sections 4.1 and 4.1.10)
pub record IsQueryV3 (bytes : List ℕ) (code : ℕ) (group : Ipv4Address) (suppress : Bool) (qrv qqic sources : ℕ) : Type 0 where
  pub kind : slice_index bytes 0 ≡ 17
  pub header : 12 ≤ length bytes
  pub code_is : code ≡ slice_index bytes 1
  pub group_is : group.0 ≡ slice_range bytes 4 8
  pub suppress_is : suppress ≡ (slice_index bytes 8 / 8 % 2 == 1)
  pub robustness : qrv ≡ slice_index bytes 8 % 8
  pub interval : qqic ≡ slice_index bytes 9
  pub number : sources ≡ be16 bytes 10
  pub sources_there : 12 + 4 * sources ≤ length bytes

-- a message of this type that names a group; what follows its eight bytes isn't looked at (RFC 2236, section 2.5)
pub record IsOfGroup (kind : ℕ) (bytes : List ℕ) (group : Ipv4Address) : Type 0 where
  pub kind_is : slice_index bytes 0 ≡ kind
  pub group_is : group.0 ≡ slice_range bytes 4 8

-- a report of version 3 (RFC 3376, section 4.2): all the records that it counts are there
pub record IsReportV3 (bytes : List ℕ) (records : ℕ) : Type 0 where
  pub kind : slice_index bytes 0 ≡ 34
  pub number : records ≡ be16 bytes 6
  pub records_there : AreRecords 4 records (drop 8 bytes)

-- the bytes say this
abbrev pub Says : List ℕ → IgmpRepr → Type 0
Says bytes (Repr.MembershipQuery code group) = IsQuery bytes code group
Says bytes (Repr.MembershipQueryV3 code group suppress qrv qqic sources) = IsQueryV3 bytes code group suppress qrv qqic sources
Says bytes (Repr.MembershipReport group version) = IsOfGroup (report_number version) bytes group
Says bytes (Repr.LeaveGroup group) = IsOfGroup 23 bytes group
Says bytes (Repr.MembershipReportV3 records) = IsReportV3 bytes records

-- the bytes are a message that says this
pub record IsIgmp (bytes : List ℕ) (v : IgmpRepr) : Type 0 where
  pub whole : IsWhole bytes
  pub checked : IsChecked bytes
  pub says : Says bytes v

-- the length of what is sent before what a message carries
abbrev pub header_len : IgmpRepr → ℕ
header_len (Repr.MembershipQueryV3 code group suppress qrv qqic sources) = 12
header_len _ = 8

-- what a message carries: sources, records
abbrev pub carried_in : List ℕ → IgmpRepr → List ℕ
carried_in bytes v = drop (header_len v) bytes

-- what a message can carry: a query of version 3 its sources, a report of version 3 its records, any other nothing
abbrev pub CanCarry : IgmpRepr → List ℕ → Type 0
CanCarry (Repr.MembershipQueryV3 code group suppress qrv qqic sources) carried = 4 * sources ≤ length carried
CanCarry (Repr.MembershipReportV3 records) carried = AreRecords 4 records carried
CanCarry _ carried = carried ≡ []

-- what a message has alongside its value: its code, where it says nothing, its checksum, two bytes that are reserved in a
-- report of version 3, and four bits that are in a query
pub record Free : Type 0 where
  pub code : ℕ
  pub checksum : ℕ
  pub reserved : ℕ
  pub high : ℕ

-- the first eight bytes of a message that names a group
abbrev pub front : ℕ → ℕ → ℕ → Ipv4Address → List ℕ → List ℕ
front kind code check group carried = kind ∷ code ∷ (to_be_bytes w16 check ++ (group.0 ++ carried))

-- a message that says this and carries this
abbrev pub spelling : IgmpRepr → Free → List ℕ → List ℕ
spelling (Repr.MembershipQuery code group) free carried = front 17 code free.checksum group carried
spelling (Repr.MembershipQueryV3 code group suppress qrv qqic sources) free carried =
    front 17 code free.checksum group ((16 * free.high + (if suppress then 8 else 0) + qrv) ∷ qqic ∷ (to_be_bytes w16 sources ++ carried))
spelling (Repr.MembershipReport group version) free carried = front (report_number version) free.code free.checksum group carried
spelling (Repr.LeaveGroup group) free carried = front 23 free.code free.checksum group carried
spelling (Repr.MembershipReportV3 records) free carried =
    34 ∷ free.code ∷ (to_be_bytes w16 free.checksum ++ (to_be_bytes w16 free.reserved ++ (to_be_bytes w16 records ++ carried)))

-- what a message that is read has alongside its value
abbrev pub free_fields : List ℕ → Free
free_fields bytes = record { code = slice_index bytes 1; checksum = be16 bytes 2; reserved = be16 bytes 4; high = slice_index bytes 8 / 16 }

-- what is sent alongside a value: zeros where nothing is said
abbrev pub sent_fields : ℕ → Free
sent_fields check = record { code = 0; checksum = check; reserved = 0; high = 0 }

-- what is sent: with a checksum that holds
abbrev pub written : IgmpRepr → List ℕ → List ℕ
written v carried = spelling v (sent_fields (complement (word_sum (spelling v (sent_fields 0) carried)))) carried

-- what can be sent: the robustness variable has three bits
abbrev pub Fits : IgmpRepr → Type 0
Fits (Repr.MembershipQueryV3 code group suppress qrv qqic sources) = qrv < 8
Fits _ = Unit {0}

-- each field is a number of its width
abbrev pub IsValue : IgmpRepr → Type 0
IsValue (Repr.MembershipQuery code group) = (code < 256) × IsIpv4Address group
IsValue (Repr.MembershipQueryV3 code group suppress qrv qqic sources) =
    (code < 256) × IsIpv4Address group × (qrv < 8) × (qqic < 256) × (sources < 2 ^ 16)
IsValue (Repr.MembershipReport group version) = IsIpv4Address group
IsValue (Repr.LeaveGroup group) = IsIpv4Address group
IsValue (Repr.MembershipReportV3 records) = records < 2 ^ 16
