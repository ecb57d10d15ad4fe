-- What a datagram says to a query (RFC 1035, sections 4.1.1 and 7.3).
use Rattle.std.specs.Prelude.{◌≡◌, ◌≢◌, ◌⊎◌, ℕ, ◌/◌, ◌%◌, ◌≤◌, ◌==◌, ◌&&◌, Bool, true, false, Option, None, List, [], ◌∷◌, length, slice_index}
use Rattle.ip_wire.specs.IpAddress.{IpAddress}
use Rattle.ip_wire.specs.Fields.{be16}
use Rattle.wire_dns.specs.Codes.{flags_of, opcode_of, opcode_number, rcode_of, type_number}
use Rattle.wire_dns.specs.Message.{IsQuestion}
use Rattle.wire_dns.specs.declared.codes.DnsRcode.{DnsRcode}
use Rattle.wire_dns.specs.declared.codes.DnsRcode.TheVariants as Code
use Rattle.wire_dns.specs.declared.question.DnsQuestion.{DnsQuestion}
use Rattle.wire_dns.specs.declared.record_at.DnsRecord.{DnsRecord}
use Rattle.socket_datagram.specs.DnsClient.Records.{AreRecords, IsCut, Finds, is_same_name}
use Rattle.socket_datagram.specs.declared.dns.answer.Verdict.{Verdict}
use Rattle.socket_datagram.specs.declared.dns.answer.Verdict.TheVariants.{Unrelated, Found, Missing, Refused}
use Rattle.socket_datagram.specs.declared.dns.query.Query.{Query}
use Rattle.socket_datagram.specs.declared.dns.state.State.{State}
use Rattle.socket_datagram.specs.declared.dns.state.State.TheVariants.{Idle, Pending, Completed, Failed, Unanswered}

-- the header of a response to a standard query, with the query's number and one question
abbrev pub names_query : Query → List ℕ → Bool
names_query q message =
    (be16 message 0 == q.transaction_id)
    && (flags_of (slice_index message 2) (slice_index message 3)).response
    && (opcode_number (opcode_of (slice_index message 2 / 8 % 16)) == 0)
    && (be16 message 4 == 1)

-- two questions are the same, whatever the case of their names' letters
abbrev pub repeats : DnsQuestion → DnsQuestion → Bool
repeats a b = (type_number a.type_ == type_number b.type_) && is_same_name a.name b.name

-- the bytes are a reply to a query, whose records begin at this slot: they name the query, and repeat its question
pub record IsReply (q : Query) (message : List ℕ) (at : ℕ) : Type 0 where
  pub header : 12 ≤ length message
  pub named : names_query q message ≡ true
  pub question : DnsQuestion
  pub stands : IsQuestion message 12 question at
  pub repeated : repeats question q.question ≡ true

-- so many records stand from a slot on, and these are the addresses that they give the name that was asked for
pub record IsAnswer (q : Query) (message : List ℕ) (at count : ℕ) (found : List (Option IpAddress)) : Type 0 where
  pub records : List DnsRecord
  pub end : ℕ
  pub stand : AreRecords message at records end
  pub all : length records ≡ count
  pub finds : Finds records q.question.name q.question.type_ found

abbrev pub first_of : List (Option IpAddress) → Option IpAddress
first_of [] = None
first_of (address ∷ more) = address

-- what so many records from a slot on say
abbrev pub IsFound : Query → List ℕ → ℕ → ℕ → Verdict → Type 0
IsFound q message at count Unrelated = IsCut message at count
IsFound q message at count (Found found) = IsAnswer q message at count found × (first_of found ≢ None)
IsFound q message at count Missing = (found : List (Option IpAddress)) × IsAnswer q message at count found × (first_of found ≡ None)
IsFound q message at count Refused = ⊥

-- A reply that was cut short says nothing (RFC 2181, section 9), nor does one of a server that can't or won't answer. There is
-- no such name where it says so.
abbrev pub IsJudgedBy : Bool → DnsRcode → Query → List ℕ → ℕ → Verdict → Type 0
IsJudgedBy true code q message at verdict = verdict ≡ Refused
IsJudgedBy false Code.NoError q message at verdict = IsFound q message at (be16 message 6) verdict
IsJudgedBy false Code.NXDomain q message at verdict = verdict ≡ Missing
IsJudgedBy false Code.FormErr q message at verdict = verdict ≡ Refused
IsJudgedBy false Code.ServFail q message at verdict = verdict ≡ Refused
IsJudgedBy false Code.NotImp q message at verdict = verdict ≡ Refused
IsJudgedBy false Code.Refused q message at verdict = verdict ≡ Refused
IsJudgedBy false (Code.Unknown n) q message at verdict = verdict ≡ Refused

abbrev pub IsJudged : Query → List ℕ → ℕ → Verdict → Type 0
IsJudged q message at verdict =
    IsJudgedBy (flags_of (slice_index message 2) (slice_index message 3)).truncated (rcode_of (slice_index message 3 % 16)) q message at verdict

-- what a reply says whose records begin at this slot
pub record IsReplied (q : Query) (message : List ℕ) (verdict : Verdict) : Type 0 where
  pub at : ℕ
  pub reply : IsReply q message at
  pub judged : IsJudged q message at verdict

abbrev pub IsVerdict : Query → List ℕ → Verdict → Type 0
IsVerdict q message verdict = IsReplied q message verdict ⊎ (((at : ℕ) → IsReply q message at → ⊥) × (verdict ≡ Unrelated))

-- a socket whose query has no answer yet reads it; to any other a datagram says nothing
abbrev pub IsVerdictIn : State → List ℕ → Verdict → Type 0
IsVerdictIn Idle message verdict = verdict ≡ Unrelated
IsVerdictIn (Pending q) message verdict = IsVerdict q message verdict
IsVerdictIn (Completed found) message verdict = verdict ≡ Unrelated
IsVerdictIn Failed message verdict = verdict ≡ Unrelated
IsVerdictIn Unanswered message verdict = verdict ≡ Unrelated
