-- Questions and records that were read are the ones that stand there.
use Rattle.std.proofs.Common.{◌≡◌, ◌≢◌, ℕ, ◌+◌, ◌≤◌, List, length, refl, sym, ◌∙◌, ap, subst, arith}
use Rattle.std.specs.Prelude.{slice_range, Result, Ok}
use Rattle.wire_address.specs.declared.Error.{Error}
use Rattle.wire_address.specs.Fields.{be16, be32}
use Rattle.wire_address.specs.declared.ipv4.Ipv4Address.{Ipv4Address}
use Rattle.wire_address.specs.declared.ipv6.Ipv6Address.{Ipv6Address}
use Rattle.wire_dns.specs.Codes.{type_of}
use Rattle.wire_dns.specs.Message.{IsQuestion, IsRecord, IsData}
use Rattle.wire_dns.specs.Name.{IsName, bytes_of_name}
use Rattle.wire_dns.specs.declared.codes.DnsQueryType.{DnsQueryType}
use Rattle.wire_dns.specs.declared.name.DnsName.{DnsName}
use Rattle.wire_dns.specs.declared.question.DnsQuestion.{DnsQuestion}
use Rattle.wire_dns.specs.declared.record_at.DnsRecord.{DnsRecord}
use Rattle.wire_dns.specs.declared.record_at.DnsRecordData.{DnsRecordData}
use Rattle.wire_dns.specs.declared.record_at.DnsRecordData.TheVariants.{A, Aaaa, Cname, Other}

-- addresses are their bytes
abbrev v4 : List ℕ → Ipv4Address
v4 xs = record { 0 = xs }

abbrev v6 : List ℕ → Ipv6Address
v6 xs = record { 0 = xs }

-- a name is its bytes
abbrev named : List ℕ → DnsName
named xs = record { bytes = record { items = xs } }

pub name-is : (a b : DnsName) → bytes_of_name a ≡ bytes_of_name b → a ≡ b
name-is a b same = ap named same

-- a question and where it ends
abbrev asked : DnsName → DnsQueryType → ℕ → DnsQuestion × ℕ
asked name kind stop = (record { name = name; type_ = kind }, stop + 4)

pub question-is : (message : List ℕ) (at : ℕ) (q : DnsQuestion) (end : ℕ) (name : DnsName) (kind : DnsQueryType) (stop : ℕ) (is : IsQuestion message at q end) →
    bytes_of_name name ≡ bytes_of_name q.name → stop ≡ is.name_end
    → kind ≡ type_of (be16 message stop) → asked name kind stop ≡ (q, end)
question-is message at q end name kind stop is same ends kind_is =
    let kinds : kind ≡ q.type_ = kind_is ∙ ap (λ k. type_of (be16 message k)) ends ∙ sym is.kind in
    ap (λ n. asked n kind stop) (name-is name q.name same)
    ∙ ap (λ k. asked q.name k stop) kinds
    ∙ ap (λ k. asked q.name q.type_ k) ends
    ∙ ap (λ k. (q, k)) (sym is.end_is)

-- a record and where it ends
abbrev answered : List ℕ → DnsName → ℕ → DnsRecordData → ℕ → DnsRecord × ℕ
answered message name ttl held stop = (record { name = name; ttl = ttl; «data» = held }, stop + 10 + be16 message (stop + 8))

pub record-is : (message : List ℕ) (at : ℕ) (r : DnsRecord) (end : ℕ) (name : DnsName) (ttl : ℕ) (held : DnsRecordData) (stop : ℕ)
    (is : IsRecord message at r end) → bytes_of_name name ≡ bytes_of_name r.name → stop ≡ is.name_end
    → ttl ≡ be32 message (stop + 4) → held ≡ r.data → answered message name ttl held stop ≡ (r, end)
record-is message at r end name ttl held stop is same ends ttl_is held_is =
    let counts : ttl ≡ r.ttl = ttl_is ∙ ap (λ k. be32 message (k + 4)) ends ∙ sym is.ttl in
    ap (λ n. answered message n ttl held stop) (name-is name r.name same)
    ∙ ap (λ t. answered message r.name t held stop) counts
    ∙ ap (λ d. answered message r.name r.ttl d stop) held_is
    ∙ ap (λ k. answered message r.name r.ttl r.data k) ends
    ∙ ap (λ k. (r, k)) (sym is.end_is)

-- what stands in a record, told of the place where its name was found to end
pub holds-at : (message : List ℕ) (at : ℕ) (r : DnsRecord) (end stop : ℕ) (is : IsRecord message at r end) → stop ≡ is.name_end
    → IsData message (be16 message (stop + 2)) (be16 message stop) (stop + 10) (be16 message (stop + 8)) r.data
holds-at message at r end stop is ends =
    let P : ℕ → Type 0 = λ k. IsData message (be16 message (k + 2)) (be16 message k) (k + 10) (be16 message (k + 8)) r.data in
    subst P (sym ends) is.holds

-- an A record holds one address
pub address-is : (message : List ℕ) (start len : ℕ) (address : Ipv4Address) (held : DnsRecordData) → address.0 ≡ slice_range message start (start + 4) →
    IsData message 1 1 start len held → A address ≡ held
address-is message start len address (A other) is holds = let same : address ≡ other = ap (λ xs. v4 xs) (is ∙ sym holds.3) in ap A same
address-is message start len address (Aaaa other) is holds = absurd (omega (arith, holds.1))
address-is message start len address (Cname name) is holds = absurd (omega (arith, holds.1))
address-is message start len address (Other kind first count) is holds = absurd ((holds.0 refl).0 refl)

pub address-len : (message : List ℕ) (start len : ℕ) (held : DnsRecordData) → IsData message 1 1 start len held → len ≡ 4
address-len message start len (A other) holds = holds.2
address-len message start len (Aaaa other) holds = absurd (omega (arith, holds.1))
address-len message start len (Cname name) holds = absurd (omega (arith, holds.1))
address-len message start len (Other kind first count) holds = absurd ((holds.0 refl).0 refl)

-- an AAAA record holds one address of IPv6
pub address_v6-is : (message : List ℕ) (start len : ℕ) (address : Ipv6Address) (held : DnsRecordData) → address.0 ≡ slice_range message start (start + 16) →
    IsData message 1 28 start len held → Aaaa address ≡ held
address_v6-is message start len address (A other) is holds = absurd (omega (arith, holds.1))
address_v6-is message start len address (Aaaa other) is holds = let same : address ≡ other = ap (λ xs. v6 xs) (is ∙ sym holds.3) in ap Aaaa same
address_v6-is message start len address (Cname name) is holds = absurd (omega (arith, holds.1))
address_v6-is message start len address (Other kind first count) is holds = absurd ((holds.0 refl).2 refl)

pub address_v6-len : (message : List ℕ) (start len : ℕ) (held : DnsRecordData) → IsData message 1 28 start len held → len ≡ 16
address_v6-len message start len (A other) holds = absurd (omega (arith, holds.1))
address_v6-len message start len (Aaaa other) holds = holds.2
address_v6-len message start len (Cname name) holds = absurd (omega (arith, holds.1))
address_v6-len message start len (Other kind first count) holds = absurd ((holds.0 refl).2 refl)

-- a CNAME record holds a name that fills it
pub record IsCname (message : List ℕ) (start len : ℕ) (held : DnsRecordData) : Type 0 where
  pub name : DnsName
  pub is : Cname name ≡ held
  pub stands : IsName message start (bytes_of_name name) (start + len)

pub cname-is : (message : List ℕ) (start len : ℕ) (held : DnsRecordData) → IsData message 1 5 start len held → IsCname message start len held
cname-is message start len (A other) holds = absurd (omega (arith, holds.1))
cname-is message start len (Aaaa other) holds = absurd (omega (arith, holds.1))
cname-is message start len (Cname name) holds = record { name = name; is = refl; stands = holds.2 }
cname-is message start len (Other kind first count) holds = absurd ((holds.0 refl).1 refl)

-- the same, of numbers that are equal to these
pub holds-as : (message : List ℕ) (at : ℕ) (r : DnsRecord) (end stop class kind len : ℕ) (is : IsRecord message at r end) → stop ≡ is.name_end
    → class ≡ be16 message (stop + 2) → kind ≡ be16 message stop → len ≡ be16 message (stop + 8) → IsData message class kind (stop + 10) len r.«data»
holds-as message at r end stop class kind len is ends class_is kind_is len_is =
    subst (λ (k : ℕ). IsData message k kind (stop + 10) len r.«data») (sym class_is)
    (subst (λ (k : ℕ). IsData message (be16 message (stop + 2)) k (stop + 10) len r.«data») (sym kind_is)
    (subst (λ (k : ℕ). IsData message (be16 message (stop + 2)) (be16 message stop) (stop + 10) k r.«data») (sym len_is)
    (holds-at message at r end stop is ends)))

-- a record and where it ends
abbrev pub pair : DnsName → ℕ → DnsRecordData → ℕ → DnsRecord × ℕ
pair name ttl held stop = (record { name = name; ttl = ttl; «data» = held }, stop)

abbrev pub told : DnsRecord × ℕ → Result (DnsRecord × ℕ) Error
told p = Ok p

abbrev pub held_as : DnsRecordData → Result DnsRecordData Error
held_as d = Ok d

held-same : (a b : DnsRecordData) → held_as a ≡ held_as b → a ≡ b
held-same a b same = cc

-- a record that was read, with a length that was read before
pub one-record : (message : List ℕ) (at : ℕ) (r : DnsRecord) (end : ℕ) (name : DnsName) (ttl : ℕ) (held : DnsRecordData) (stop len : ℕ)
    (is : IsRecord message at r end) → bytes_of_name name ≡ bytes_of_name r.name → stop ≡ is.name_end
    → ttl ≡ be32 message (stop + 4) → held_as held ≡ held_as r.«data» → len ≡ be16 message (stop + 8) →
    told (pair name ttl held (stop + 10 + len)) ≡ told (r, end)
one-record message at r end name ttl held stop len is same ends ttl_is held_is len_is =
    ap (λ (k : ℕ). told (pair name ttl held (stop + 10 + k))) len_is
    ∙ ap told (record-is message at r end name ttl held stop is same ends ttl_is (held-same held r.«data» held_is))
