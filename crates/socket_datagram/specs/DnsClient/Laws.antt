-- What is promised of the client.
use Rattle.std.specs.Prelude.{◌≡◌, ◌⊎◌, ℕ, ◌%◌, ◌≤◌, zero, suc, true, false, Option, Some, List, length, slice_index}
use Rattle.std.specs.List.{Contains}
use Rattle.ip_wire.specs.Fields.{be16}
use Rattle.ip_wire.specs.AddressTests.{is_same_address}
use Rattle.ip_wire.specs.Ip.{source_of}
use Rattle.ip_wire.specs.IpAddress.{IpAddress}
use Rattle.ip_wire.specs.IpAddress.TheVariants as Address
use Rattle.ip_wire.specs.IpRepr.{IpRepr}
use Rattle.ip_wire.specs.UdpRepr.{UdpRepr}
use Rattle.wire_dns.specs.Codes.{flags_of, rcode_of}
use Rattle.wire_dns.specs.declared.codes.DnsRcode.TheVariants as Code
use Rattle.wire_dns.specs.declared.name.DnsName.{DnsName}
use Rattle.wire_dns.specs.declared.record_at.DnsRecord.{DnsRecord}
use Rattle.wire_dns.specs.declared.record_at.DnsRecordData.{DnsRecordData}
use Rattle.wire_dns.specs.declared.record_at.DnsRecordData.TheVariants.{A, Aaaa, Cname, Other}
use Rattle.socket_datagram.specs.DnsClient.Records.{AreRecords, is_same_name}
use Rattle.socket_datagram.specs.DnsClient.Replies.{IsReply, IsFound}
use Rattle.socket_datagram.specs.DnsClient.Value.{DnsValue}
use Rattle.socket_datagram.specs.declared.dns.answer.Verdict.TheVariants.{Missing}
use Rattle.socket_datagram.specs.declared.dns.query.Query.{Query}
use Rattle.socket_datagram.specs.declared.dns.state.State.TheVariants.{Pending, Completed, Failed}

-- one of these records says that the true name of a name is another
pub record IsAlias (rs : List DnsRecord) (name target : DnsName) : Type 0 where
  pub by : DnsRecord
  pub among : Contains rs by
  pub named : is_same_name by.name name ≡ true
  pub holds : by.«data» ≡ Cname target

-- so many of them lead from a name to another
abbrev pub IsChain : ℕ → List DnsRecord → DnsName → DnsName → Type 0
IsChain zero rs name last = name ≡ last
IsChain (suc n) rs name last = (target : DnsName) × IsAlias rs name target × IsChain n rs target last

-- what a record holds is this address
abbrev pub HoldsAddress : DnsRecordData → IpAddress → Type 0
HoldsAddress (A address) a = a ≡ Address.Ipv4 address
HoldsAddress (Aaaa address) a = a ≡ Address.Ipv6 address
HoldsAddress (Cname name) a = ⊥
HoldsAddress (Other kind start len) a = ⊥

-- An address belongs to a name: one of the records gives it to the name itself, or to the one at the end of a chain of at most
-- eight aliases of the same records.
pub record Belongs (rs : List DnsRecord) (name : DnsName) (a : IpAddress) : Type 0 where
  pub aliases : ℕ
  pub most : aliases ≤ 8
  pub last : DnsName
  pub chain : IsChain aliases rs name last
  pub by : DnsRecord
  pub among : Contains rs by
  pub named : is_same_name by.name last ≡ true
  pub holds : HoldsAddress by.«data» a

-- Why a client has these addresses: a datagram came from the port of servers and from the address of the one that its query was
-- sent to, to the port that it was sent from; its bytes are a response that names the query's number and repeats its question; and
-- each address belongs to the name that was asked for, by the records of this answer.
pub record IsAnswered (v : DnsValue) (ip : IpRepr) (repr : UdpRepr) (payload : List ℕ) (found : List (Option IpAddress)) : Type 0 where
  pub query : Query
  pub pending : v.state ≡ Pending query
  pub server : IpAddress
  pub asked : query.asked ≡ Some server
  pub source : is_same_address server (source_of ip) ≡ true
  pub source_port : repr.src_port ≡ 53
  pub port : repr.dst_port ≡ query.port
  pub at : ℕ
  pub reply : IsReply query payload at
  pub records : List DnsRecord
  pub end : ℕ
  pub stand : AreRecords payload at records end
  pub all : length records ≡ be16 payload 6
  pub belong : (a : IpAddress) → Contains found (Some a) → Belongs records query.question.name a

-- Why a query failed: the reply of the server that was asked is whole, and says that there is no such name, or gives it no address.
pub record IsDenied (v : DnsValue) (ip : IpRepr) (repr : UdpRepr) (payload : List ℕ) : Type 0 where
  pub query : Query
  pub pending : v.state ≡ Pending query
  pub server : IpAddress
  pub asked : query.asked ≡ Some server
  pub source : is_same_address server (source_of ip) ≡ true
  pub at : ℕ
  pub reply : IsReply query payload at
  pub whole : (flags_of (slice_index payload 2) (slice_index payload 3)).truncated ≡ false
  pub says : (rcode_of (slice_index payload 3 % 16) ≡ Code.NXDomain)
      ⊎ ((rcode_of (slice_index payload 3 % 16) ≡ Code.NoError) × IsFound query payload at (be16 payload 6) Missing)

-- under the host requirements a client's query that failed, after a datagram arrived, failed before, or was denied
abbrev pub AreDenied : DnsValue → IpRepr → UdpRepr → List ℕ → DnsValue → Type 0
AreDenied v ip repr payload v' =
    v.host_requirements ≡ true → v'.state ≡ Failed → (v.state ≡ Failed) ⊎ IsDenied v ip repr payload

-- the addresses of a client, after a datagram arrived, are those that it had, or were answered
abbrev pub AreGiven : DnsValue → IpRepr → UdpRepr → List ℕ → DnsValue → Type 0
AreGiven v ip repr payload v' =
    (found : List (Option IpAddress)) → v'.state ≡ Completed found → (v.state ≡ Completed found) ⊎ IsAnswered v ip repr payload found
