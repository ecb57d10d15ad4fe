-- What the records of an answer say of a name (RFC 1034, section 3.6.2; RFC 1035, sections 2.3.3 and 4.1.3).
use Rattle.std.specs.Prelude.{◌≡◌, ◌⊎◌, ℕ, ◌+◌, ◌<◌, ◌≤◌, nat_lt, zero, suc, Bool, ◌&&◌, is_some, slice_set, if◌then◌else◌, Option, Some, None, List, [], ◌∷◌}
use Rattle.std.specs.Prelude.{length}
use Rattle.std.specs.Str.{str_eq_ignore_ascii_case}
use Rattle.ip_wire.specs.IpAddress.{IpAddress}
use Rattle.ip_wire.specs.IpAddress.TheVariants as Ip
use Rattle.wire_dns.specs.Message.{IsRecord}
use Rattle.wire_dns.specs.Name.{bytes_of_name}
use Rattle.wire_dns.specs.declared.codes.DnsQueryType.{DnsQueryType}
use Rattle.wire_dns.specs.declared.codes.DnsQueryType.TheVariants as Kind
use Rattle.wire_dns.specs.declared.name.DnsName.{DnsName}
use Rattle.wire_dns.specs.declared.record_at.DnsRecord.{DnsRecord}
use Rattle.wire_dns.specs.declared.record_at.DnsRecordData.{DnsRecordData}
use Rattle.wire_dns.specs.declared.record_at.DnsRecordData.TheVariants.{A, Aaaa, Cname, Other}

-- these records stand one after the other from a place of a message to an end
abbrev pub AreRecords : List ℕ → ℕ → List DnsRecord → ℕ → Type 0
AreRecords message at [] end = at ≡ end
AreRecords message at (r ∷ rs) end = (next : ℕ) × IsRecord message at r next × AreRecords message next rs end

-- so many records stand from a slot on
pub record HasRecords (message : List ℕ) (at count : ℕ) : Type 0 where
  pub records : List DnsRecord
  pub end : ℕ
  pub stand : AreRecords message at records end
  pub all : length records ≡ count

-- fewer stand there, and none after them
pub record IsCut (message : List ℕ) (at count : ℕ) : Type 0 where
  pub records : List DnsRecord
  pub end : ℕ
  pub stand : AreRecords message at records end
  pub fewer : length records < count
  pub none : (r : DnsRecord) (next : ℕ) → IsRecord message end r next → ⊥

-- two names are the same, whatever the case of their letters
abbrev pub is_same_name : DnsName → DnsName → Bool
is_same_name a b = str_eq_ignore_ascii_case (bytes_of_name a) (bytes_of_name b)

-- the name that a record of an alias holds
abbrev pub alias_of : DnsRecordData → Option DnsName
alias_of (A address) = None
alias_of (Aaaa address) = None
alias_of (Cname target) = Some target
alias_of (Other kind start len) = None

-- the name of which a record says that it is the true one of a name
abbrev pub alias_by : DnsName → DnsRecord → Option DnsName
alias_by name r = if is_same_name r.name name then alias_of r.«data» else None

abbrev pub or_else : Option DnsName → Option DnsName → Option DnsName
or_else (Some target) other = Some target
or_else None other = other

-- the first such name of some records
abbrev pub alias_in : DnsName → List DnsRecord → Option DnsName
alias_in name [] = None
alias_in name (r ∷ rs) = or_else (alias_by name r) (alias_in name rs)

-- so many aliases, each of the name that the one before leads to, lead from a name to another
abbrev pub LeadsTo : ℕ → List DnsRecord → DnsName → DnsName → Type 0
LeadsTo zero rs name last = name ≡ last
LeadsTo (suc n) rs name last = (target : DnsName) × (alias_in name rs ≡ Some target) × LeadsTo n rs target last

-- the name at the end of the chain of aliases of a name: it has none, or is the eighth
pub record IsTrueName (rs : List DnsRecord) (name last : DnsName) : Type 0 where
  pub aliases : ℕ
  pub most : aliases ≤ 8
  pub leads : LeadsTo aliases rs name last
  pub ends : (alias_in last rs ≡ None) ⊎ (aliases ≡ 8)

-- a name, if there is one, or else this one
abbrev pub or_name : Option DnsName → DnsName → DnsName
or_name (Some last) name = last
or_name None name = name

-- the address of a type that a record holds
abbrev pub address_of : DnsQueryType → DnsRecordData → Option IpAddress
address_of Kind.A (A address) = Some (Ip.Ipv4 address)
address_of Kind.Aaaa (Aaaa address) = Some (Ip.Ipv6 address)
address_of kind held = None

-- the address of a type that a record gives a name
abbrev pub address_by : DnsQueryType → DnsName → DnsRecord → Option IpAddress
address_by kind name r = if is_same_name r.name name then address_of kind r.«data» else None

abbrev pub put_address : Option IpAddress → List IpAddress → List IpAddress
put_address (Some address) more = address ∷ more
put_address None more = more

-- the addresses of a type that some records give a name
abbrev pub addresses_of : DnsQueryType → DnsName → List DnsRecord → List IpAddress
addresses_of kind name [] = []
addresses_of kind name (r ∷ rs) = put_address (address_by kind name r) (addresses_of kind name rs)

-- the first of some addresses in so many positions, without gaps
abbrev pub padded : ℕ → List IpAddress → List (Option IpAddress)
padded zero addresses = []
padded (suc n) [] = None ∷ padded n []
padded (suc n) (address ∷ more) = Some address ∷ padded n more

-- so many addresses and another, if there is one and room for it
abbrev pub with_address : List (Option IpAddress) → ℕ → Option IpAddress → (List (Option IpAddress)) × ℕ
with_address found count address = if is_some address && nat_lt count 4 then (slice_set found count address, count + 1) else (found, count)

-- the addresses that a client finds of a name: the first four of the name at the end of its chain
pub record Finds (rs : List DnsRecord) (name : DnsName) (kind : DnsQueryType) (found : List (Option IpAddress)) : Type 0 where
  pub last : DnsName
  pub true_name : IsTrueName rs name last
  pub are : found ≡ padded 4 (addresses_of kind last rs)
