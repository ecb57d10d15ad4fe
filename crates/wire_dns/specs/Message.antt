-- Messages (RFC 1035, section 4.1): a header of twelve bytes, and then questions and records, one after the other.
use Rattle.std.specs.Prelude.{◌≡◌, ◌≢◌, ℕ, ◌+◌, ◌≤◌, ◌<◌, ◌^◌, List, [], ◌∷◌, ◌++◌, length, slice_index, slice_range}
use Rattle.std.specs.Int.{w16, to_be_bytes}
use Rattle.std.specs.Borrow.{GName}
use Rattle.wire_address.specs.Fields.{be16, be32}
use Rattle.wire_address.specs.declared.ipv4.Ipv4Address.{Ipv4Address}
use Rattle.wire_address.specs.declared.ipv6.Ipv6Address.{Ipv6Address}
use Rattle.wire_dns.specs.Codes.{type_of, type_number, opcode_number, flags_of, high_byte, low_byte}
use Rattle.wire_dns.specs.Name.{IsName, bytes_of_name}
use Rattle.wire_dns.specs.declared.packet.DnsPacket.{DnsPacket}
use Rattle.wire_dns.specs.declared.question.DnsQuestion.{DnsQuestion}
use Rattle.wire_dns.specs.declared.record_at.DnsRecord.{DnsRecord}
use Rattle.wire_dns.specs.declared.record_at.DnsRecordData.{DnsRecordData}
use Rattle.wire_dns.specs.declared.record_at.DnsRecordData.TheVariants.{A, Aaaa, Cname, Other}
use Rattle.wire_dns.specs.declared.repr.DnsRepr.{DnsRepr}

-- the bytes that a view reads
abbrev pub bytes_of : DnsPacket → List ℕ
bytes_of view = view.buffer.now

-- a question stands from an offset to an end: a name, a type, and the class of the Internet
pub record IsQuestion (message : List ℕ) (at : ℕ) (question : DnsQuestion) (end : ℕ) : Type 0 where
  pub name_end : ℕ
  pub name : IsName message at (bytes_of_name question.name) name_end
  pub within : name_end + 4 ≤ length message
  pub kind : question.type_ ≡ type_of (be16 message name_end)
  pub class : be16 message (name_end + 2) ≡ 1
  pub end_is : end ≡ name_end + 4

-- a record of no known kind: of another class than the Internet's, or of a type that isn't read
abbrev pub IsOtherKind : ℕ → ℕ → Type 0
IsOtherKind class kind = class ≡ 1 → (kind ≢ 1) × (kind ≢ 5) × (kind ≢ 28)

-- what a record of a type and a class holds in the bytes from start, so many
abbrev pub IsData : List ℕ → ℕ → ℕ → ℕ → ℕ → DnsRecordData → Type 0
IsData message class kind start len (A address) =
    (class ≡ 1) × (kind ≡ 1) × (len ≡ 4) × (address.0 ≡ slice_range message start (start + 4))
IsData message class kind start len (Aaaa address) =
    (class ≡ 1) × (kind ≡ 28) × (len ≡ 16) × (address.0 ≡ slice_range message start (start + 16))
IsData message class kind start len (Cname name) =
    (class ≡ 1) × (kind ≡ 5) × IsName message start (bytes_of_name name) (start + len)
IsData message class kind start len (Other held_type first count) =
    IsOtherKind class kind × (held_type ≡ type_of kind) × (first ≡ start) × (count ≡ len)

-- a record stands from an offset to an end: a name, a type, a class, for how long it counts, and the length of what it
-- holds, which comes last
pub record IsRecord (message : List ℕ) (at : ℕ) (answer : DnsRecord) (end : ℕ) : Type 0 where
  pub name_end : ℕ
  pub name : IsName message at (bytes_of_name answer.name) name_end
  pub within : name_end + 10 + be16 message (name_end + 8) ≤ length message
  pub holds : IsData message (be16 message (name_end + 2)) (be16 message name_end) (name_end + 10) (be16 message (name_end + 8)) answer.data
  pub ttl : answer.ttl ≡ be32 message (name_end + 4)
  pub end_is : end ≡ name_end + 10 + be16 message (name_end + 8)

-- a query: its header with one question, and the question
abbrev pub written : DnsRepr → List ℕ
written v =
    to_be_bytes w16 v.transaction_id ++ (high_byte v.flags v.opcode ∷ low_byte v.flags ∷ 0 ∷ 1 ∷ 0 ∷ 0 ∷ 0 ∷ 0 ∷ 0 ∷ 0
    ∷ (bytes_of_name v.question.name ++ (to_be_bytes w16 (type_number v.question.type_) ++ (0 ∷ 1 ∷ []))))

-- a name without pointers: labels of 1 to 63 bytes, each after its length, and a zero; at most 255 bytes
abbrev pub AreLabels : List (List ℕ) → Type 0
AreLabels [] = Unit {0}
AreLabels (label ∷ labels) = (0 < length label) × (length label < 64) × AreLabels labels

abbrev pub labels_name : List (List ℕ) → List ℕ
labels_name [] = 0 ∷ []
labels_name (label ∷ labels) = length label ∷ (label ++ labels_name labels)

pub record IsPlain (name : List ℕ) : Type 0 where
  pub labels : List (List ℕ)
  pub are : AreLabels labels
  pub is : name ≡ labels_name labels
  pub short : length name ≤ 255

-- what a reader makes of a question that was sent: a type by the name of its number
abbrev pub normal : DnsQuestion → DnsQuestion
normal question = record question { type_ = type_of (type_number question.type_) }

-- what a reader finds in a query that was sent
pub record IsQuery (message : List ℕ) (v : DnsRepr) : Type 0 where
  pub transaction_id : v.transaction_id ≡ be16 message 0
  pub flags : v.flags ≡ flags_of (slice_index message 2) (slice_index message 3)
  pub questions : be16 message 4 ≡ 1
  pub answers : be16 message 6 ≡ 0
  pub question : IsQuestion message 12 (normal v.question) (16 + length (bytes_of_name v.question.name))
