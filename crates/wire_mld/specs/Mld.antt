-- Messages of MLD (RFC 2710, section 3; RFC 3810, section 5): type and code, of which a reader takes no notice, the checksum
-- of ICMPv6, in a query how long an answer may take, and what depends on the type. There is no length field.
use Rattle.std.specs.Prelude.{◌≡◌, ℕ, ◌+◌, ◌*◌, ◌/◌, ◌%◌, ◌<◌, ◌≤◌, ◌^◌, ◌==◌, Bool, IsTrue, if◌then◌else◌, List, [], ◌∷◌, ◌++◌, length, drop, slice_index, slice_range}
use Rattle.std.specs.Int.{w16, to_be_bytes}
use Rattle.std.specs.Borrow.{GName}
use Rattle.wire_address.specs.Address.{IsIpv6Address}
use Rattle.wire_address.specs.Fields.{be16, put16}
use Rattle.wire_address.specs.Pseudo.{pseudo_v6}
use Rattle.wire_address.specs.Sum.{word_sum, ChecksumHolds, complement}
use Rattle.wire_address.specs.declared.ipv6.Ipv6Address.{Ipv6Address}
use Rattle.wire_igmp.specs.GroupRecord.{AreRecords}
use Rattle.wire_mld.specs.declared.packet.MldPacket.{MldPacket}
use Rattle.wire_mld.specs.declared.packet_mut.MldPacketMut.{MldPacketMut}
use Rattle.wire_mld.specs.declared.repr.MldRepr.{MldRepr}
use Rattle.wire_mld.specs.declared.repr.MldRepr.TheVariants as Repr

-- the bytes that a view reads
abbrev pub bytes_of : MldPacket → List ℕ
bytes_of view = view.buffer.now

-- the bytes that a writing view holds
abbrev pub bytes_in : MldPacketMut → List ℕ
bytes_in view = view.buffer.now

-- which buffer it is that a writing view holds
abbrev pub name_of : MldPacketMut → GName
name_of view = view.buffer.ghost_name

-- the header that all messages share is there
abbrev pub IsWhole : List ℕ → Type 0
IsWhole bytes = 8 ≤ length bytes

-- the word sum of the pseudo header, of protocol 58, and the message (RFC 4443, section 2.3)
abbrev pub covered : Ipv6Address → Ipv6Address → List ℕ → ℕ
covered source destination bytes = word_sum (pseudo_v6 source.0 destination.0 58 (length bytes)) + word_sum bytes

-- the checksum holds
abbrev pub IsChecked : Ipv6Address → Ipv6Address → List ℕ → Type 0
IsChecked source destination bytes = ChecksumHolds (covered source destination bytes)

-- the complement of the sum of a message whose checksum field holds 0
abbrev pub checksum_of : Ipv6Address → Ipv6Address → List ℕ → ℕ
checksum_of source destination bytes = complement (covered source destination bytes)

-- the bytes with the message's checksum in its field
abbrev pub with_checksum : Ipv6Address → Ipv6Address → List ℕ → List ℕ
with_checksum source destination bytes = put16 bytes 2 (checksum_of source destination (put16 bytes 2 0))

-- a query of version 1 has exactly 24 bytes (RFC 3810, section 8.1)
pub record IsQueryV1 (bytes : List ℕ) (code : ℕ) (group : Ipv6Address) : Type 0 where
  pub kind : slice_index bytes 0 ≡ 130
  pub exact : length bytes ≡ 24
  pub code_is : code ≡ be16 bytes 4
  pub group_is : group.0 ≡ slice_range bytes 8 24

-- a query of version 2 has 28 bytes or more, and all the sources that it counts; four bits are reserved, and what follows
-- the sources isn't looked at (RFC 3810, sections 5.1 and 5.1.12)
pub record IsQuery (bytes : List ℕ) (code : ℕ) (group : Ipv6Address) (suppress : Bool) (qrv qqic sources : ℕ) : Type 0 where
  pub kind : slice_index bytes 0 ≡ 130
  pub header : 28 ≤ length bytes
  pub code_is : code ≡ be16 bytes 4
  pub group_is : group.0 ≡ slice_range bytes 8 24
  pub suppress_is : suppress ≡ (slice_index bytes 24 / 8 % 2 == 1)
  pub robustness : qrv ≡ slice_index bytes 24 % 8
  pub interval : qqic ≡ slice_index bytes 25
  pub number : sources ≡ be16 bytes 26
  pub sources_there : 28 + 16 * sources ≤ length bytes

-- a report of version 1 or a done message; what follows its 24 bytes isn't looked at (RFC 2710, section 3.7)
pub record IsOfGroup (kind : ℕ) (bytes : List ℕ) (group : Ipv6Address) : Type 0 where
  pub kind_is : slice_index bytes 0 ≡ kind
  pub header : 24 ≤ length bytes
  pub group_is : group.0 ≡ slice_range bytes 8 24

-- a report of version 2 (RFC 3810, section 5.2): all the records that it counts are there
pub record IsReport (bytes : List ℕ) (records : ℕ) : Type 0 where
  pub kind : slice_index bytes 0 ≡ 143
  pub number : records ≡ be16 bytes 6
  pub records_there : AreRecords 16 records (drop 8 bytes)

-- the bytes say this
abbrev pub Says : List ℕ → MldRepr → Type 0
Says bytes (Repr.QueryV1 code group) = IsQueryV1 bytes code group
Says bytes (Repr.Query code group suppress qrv qqic sources) = IsQuery bytes code group suppress qrv qqic sources
Says bytes (Repr.ReportV1 group) = IsOfGroup 131 bytes group
Says bytes (Repr.Done group) = IsOfGroup 132 bytes group
Says bytes (Repr.Report records) = IsReport bytes records

-- the bytes are a message that says this
pub record IsMld (source destination : Ipv6Address) (tested : Bool) (bytes : List ℕ) (v : MldRepr) : Type 0 where
  pub whole : IsWhole bytes
  pub checked : IsTrue tested → IsChecked source destination bytes
  pub says : Says bytes v

-- the length of what is sent before what a message carries
abbrev pub header_len : MldRepr → ℕ
header_len (Repr.Query code group suppress qrv qqic sources) = 28
header_len (Repr.Report records) = 8
header_len _ = 24

-- what a message carries: sources, records
abbrev pub carried_in : List ℕ → MldRepr → List ℕ
carried_in bytes v = drop (header_len v) bytes

-- what a message can carry: a query of version 2 its sources, a report of version 2 its records, any other nothing
abbrev pub CanCarry : MldRepr → List ℕ → Type 0
CanCarry (Repr.Query code group suppress qrv qqic sources) carried = 16 * sources ≤ length carried
CanCarry (Repr.Report records) carried = AreRecords 16 records carried
CanCarry _ carried = carried ≡ []

-- what a message has alongside its value: its code, its checksum, the number after it, where it says nothing, two reserved
-- bytes, and four reserved bits of a query
pub record Free : Type 0 where
  pub code : ℕ
  pub checksum : ℕ
  pub delay : ℕ
  pub reserved : ℕ
  pub high : ℕ

-- the first 24 bytes of a message that names a group, of this type and delay
abbrev pub front : ℕ → ℕ → Free → Ipv6Address → List ℕ → List ℕ
front kind delay free group carried =
    kind ∷ free.code ∷ (to_be_bytes w16 free.checksum ++ (to_be_bytes w16 delay ++ (to_be_bytes w16 free.reserved ++ (group.0 ++ carried))))

-- a message that says this and carries this
abbrev pub spelling : MldRepr → Free → List ℕ → List ℕ
spelling (Repr.QueryV1 code group) free carried = front 130 code free group carried
spelling (Repr.Query code group suppress qrv qqic sources) free carried =
    front 130 code free group ((16 * free.high + (if suppress then 8 else 0) + qrv) ∷ qqic ∷ (to_be_bytes w16 sources ++ carried))
spelling (Repr.ReportV1 group) free carried = front 131 free.delay free group carried
spelling (Repr.Done group) free carried = front 132 free.delay free group carried
spelling (Repr.Report records) free carried =
    143 ∷ free.code ∷ (to_be_bytes w16 free.checksum ++ (to_be_bytes w16 free.delay ++ (to_be_bytes w16 records ++ carried)))

-- what a message that is read has alongside its value
abbrev pub free_fields : List ℕ → Free
free_fields bytes = record {
  code = slice_index bytes 1;
  checksum = be16 bytes 2;
  delay = be16 bytes 4;
  reserved = be16 bytes 6;
  high = slice_index bytes 24 / 16;
}

-- what is sent alongside a value: zeros where nothing is said
abbrev pub sent_fields : ℕ → Free
sent_fields check = record { code = 0; checksum = check; delay = 0; reserved = 0; high = 0 }

-- what is sent: with a checksum that holds, or with 0
abbrev pub written : Ipv6Address → Ipv6Address → Bool → MldRepr → List ℕ → List ℕ
written source destination sealed v carried =
    spelling v (sent_fields (if sealed then checksum_of source destination (spelling v (sent_fields 0) carried) else 0)) carried

-- what can be sent: the robustness variable has three bits
abbrev pub Fits : MldRepr → Type 0
Fits (Repr.Query code group suppress qrv qqic sources) = qrv < 8
Fits _ = Unit {0}

-- each field is a number of its width
abbrev pub IsValue : MldRepr → Type 0
IsValue (Repr.QueryV1 code group) = (code < 2 ^ 16) × IsIpv6Address group
IsValue (Repr.Query code group suppress qrv qqic sources) =
    (code < 2 ^ 16) × IsIpv6Address group × (qrv < 8) × (qqic < 256) × (sources < 2 ^ 16)
IsValue (Repr.ReportV1 group) = IsIpv6Address group
IsValue (Repr.Done group) = IsIpv6Address group
IsValue (Repr.Report records) = records < 2 ^ 16
