-- Addresses come from the answer alone.
use Rattle.std.proofs.Common.{◌≡◌, ◌⊎◌, inl, inr, ℕ, zero, suc, Bool, true, false, if◌then◌else◌, ℤ, List, [], ◌∷◌, Option, Some, None, refl, sym, ap, ◌∙◌}
use Rattle.std.proofs.Common.{subst}
use Rattle.std.specs.List.{Contains}
use Rattle.std.specs.Prelude.{slice_index, ◌%◌, ◌==◌, ◌&&◌}
use Rattle.std.proofs.lemmas.Bool.{and_parts, eqb-true}
use Rattle.ip_wire.specs.Fields.{be16}
use Rattle.ip_wire.specs.AddressTests.{is_same_address}
use Rattle.ip_wire.specs.Ip.{source_of}
use Rattle.ip_wire.specs.IpAddress.{IpAddress}
use Rattle.ip_wire.specs.IpRepr.{IpRepr}
use Rattle.ip_wire.specs.UdpRepr.{UdpRepr}
use Rattle.wire_dns.specs.Codes.{flags_of, rcode_of}
use Rattle.wire_dns.specs.declared.codes.DnsQueryType.{DnsQueryType}
use Rattle.wire_dns.specs.declared.codes.DnsQueryType.TheVariants as Kind
use Rattle.wire_dns.specs.declared.codes.DnsRcode.{DnsRcode}
use Rattle.wire_dns.specs.declared.codes.DnsRcode.TheVariants as Code
use Rattle.wire_dns.specs.declared.name.DnsName.{DnsName}
use Rattle.wire_dns.specs.declared.record_at.DnsRecord.{DnsRecord}
use Rattle.wire_dns.specs.declared.record_at.DnsRecordData.{DnsRecordData}
use Rattle.wire_dns.specs.declared.record_at.DnsRecordData.TheVariants as Data
use Rattle.socket_datagram.specs.DnsClient.Laws.{IsAlias, IsChain, HoldsAddress, Belongs, IsAnswered, AreGiven}
use Rattle.socket_datagram.specs.DnsClient.Processed.{is_from, is_for, accepts, judged, ProcessedIf, Processed}
use Rattle.socket_datagram.specs.DnsClient.Records.{is_same_name, alias_of, alias_by, alias_in, or_else, LeadsTo, address_of, address_by, addresses_of, put_address, padded}
use Rattle.socket_datagram.specs.DnsClient.Replies.{IsAnswer, IsJudgedBy, IsVerdict, IsVerdictIn}
use Rattle.socket_datagram.specs.DnsClient.Value.{DnsValue, unoffered, has_next, ask_next, unanswered, next_state}
use Rattle.socket_datagram.specs.declared.dns.answer.Verdict.{Verdict}
use Rattle.socket_datagram.specs.declared.dns.answer.Verdict.TheVariants as V
use Rattle.socket_datagram.specs.declared.dns.query.Query.{Query}
use Rattle.socket_datagram.specs.declared.dns.state.State.{State}
use Rattle.socket_datagram.specs.declared.dns.state.State.TheVariants as S
use Rattle.socket_datagram.proofs.DnsClient.Turned.{none-left}
use Rattle.socket_datagram.proofs.DnsClient.Among.{here, there, nothing, first_or_rest}

-- CHAINS.

holds-alias : (held : DnsRecordData) (target : DnsName) → alias_of held ≡ Some target → held ≡ Data.Cname target
holds-alias (Data.A address) target e = absurd (cc)
holds-alias (Data.Aaaa address) target e = absurd (cc)
holds-alias (Data.Cname name) target e = let same : name ≡ target = (cc) in ap Data.Cname same
holds-alias (Data.Other kind start len) target e = absurd (cc)

alias_by-alias : (rs : List DnsRecord) (name target : DnsName) (r : DnsRecord) → Contains rs r → alias_by name r ≡ Some target → IsAlias rs name target
alias_by-alias rs name target r among e = by (is_same_name r.name name) refl e where
  by : (t : Bool) → is_same_name r.name name ≡ t → (if t then alias_of r.«data» else None) ≡ Some target → IsAlias rs name target
  by true same e = record { by = r; among = among; named = same; holds = holds-alias r.«data» target e }
  by false same e = absurd (cc)

-- an alias of some records is one of more
alias-more : (r : DnsRecord) (rs : List DnsRecord) (name target : DnsName) → IsAlias rs name target → IsAlias (r ∷ rs) name target
alias-more r rs name target is = record { by = is.by; among = there r is.by rs is.among; named = is.named; holds = is.holds }

alias_in-alias : (rs : List DnsRecord) (name target : DnsName) → alias_in name rs ≡ Some target → IsAlias rs name target
alias_in-alias [] name target e = absurd (cc)
alias_in-alias (r ∷ rs) name target e = by (alias_by name r) refl e (λ more. alias-more r rs name target (alias_in-alias rs name target more)) where
  by : (o : Option DnsName) → alias_by name r ≡ o → or_else o (alias_in name rs) ≡ Some target →
      (alias_in name rs ≡ Some target → IsAlias (r ∷ rs) name target) → IsAlias (r ∷ rs) name target
  by (Some found) is e more = alias_by-alias (r ∷ rs) name target r (here r rs) (is ∙ e)
  by None is e more = more e

leads-chain : (n : ℕ) (rs : List DnsRecord) (name last : DnsName) → LeadsTo n rs name last → IsChain n rs name last
leads-chain zero rs name last leads = leads
leads-chain (suc n) rs name last leads = (leads.0, alias_in-alias rs name leads.0 leads.1, leads-chain n rs leads.0 last leads.2)

-- ADDRESSES.

holds-address : (kind : DnsQueryType) (held : DnsRecordData) (a : IpAddress) → address_of kind held ≡ Some a → HoldsAddress held a
holds-address Kind.A (Data.A address) a e = (cc)
holds-address Kind.A (Data.Aaaa address) a e = absurd (cc)
holds-address Kind.A (Data.Cname name) a e = absurd (cc)
holds-address Kind.A (Data.Other kind start len) a e = absurd (cc)
holds-address Kind.Aaaa (Data.A address) a e = absurd (cc)
holds-address Kind.Aaaa (Data.Aaaa address) a e = (cc)
holds-address Kind.Aaaa (Data.Cname name) a e = absurd (cc)
holds-address Kind.Aaaa (Data.Other kind start len) a e = absurd (cc)
holds-address Kind.Ns held a e = absurd (cc)
holds-address Kind.Cname held a e = absurd (cc)
holds-address Kind.Soa held a e = absurd (cc)
holds-address (Kind.Unknown n) held a e = absurd (cc)

-- one of these records gives a name this address
record Gives (rs : List DnsRecord) (name : DnsName) (a : IpAddress) : Type 0 where
  by : DnsRecord
  among : Contains rs by
  named : is_same_name by.name name ≡ true
  holds : HoldsAddress by.«data» a

gives-first : (r : DnsRecord) (rs : List DnsRecord) (kind : DnsQueryType) (name : DnsName) (a : IpAddress) → address_by kind name r ≡ Some a →
    Gives (r ∷ rs) name a
gives-first r rs kind name a e = by (is_same_name r.name name) refl e where
  by : (t : Bool) → is_same_name r.name name ≡ t → (if t then address_of kind r.«data» else None) ≡ Some a → Gives (r ∷ rs) name a
  by true same e = record { by = r; among = here r rs; named = same; holds = holds-address kind r.«data» a e }
  by false same e = absurd (cc)

gives-more : (r : DnsRecord) (rs : List DnsRecord) (name : DnsName) (a : IpAddress) → Gives rs name a → Gives (r ∷ rs) name a
gives-more r rs name a is = record { by = is.by; among = there r is.by rs is.among; named = is.named; holds = is.holds }

gives-either : (r : DnsRecord) (rs : List DnsRecord) (kind : DnsQueryType) (name : DnsName) (a b : IpAddress) → address_by kind name r ≡ Some b →
    (b ≡ a) ⊎ Contains (addresses_of kind name rs) a
    → (Contains (addresses_of kind name rs) a → Gives (r ∷ rs) name a) → Gives (r ∷ rs) name a
gives-either r rs kind name a b is (inl same) more = gives-first r rs kind name a (is ∙ ap Some same)
gives-either r rs kind name a b is (inr rest) more = more rest

gives : (rs : List DnsRecord) (kind : DnsQueryType) (name : DnsName) (a : IpAddress) → Contains (addresses_of kind name rs) a → Gives rs name a
gives [] kind name a has = absurd (nothing a has)
gives (r ∷ rs) kind name a has = by (address_by kind name r) refl has (λ more. gives-more r rs name a (gives rs kind name a more)) where
  by : (o : Option IpAddress) → address_by kind name r ≡ o → Contains (put_address o (addresses_of kind name rs)) a →
      (Contains (addresses_of kind name rs) a → Gives (r ∷ rs) name a) → Gives (r ∷ rs) name a
  by (Some b) is has more = gives-either r rs kind name a b is (first_or_rest b a (addresses_of kind name rs) has) more
  by None is has more = more has

padded-has : (n : ℕ) (xs : List IpAddress) (a : IpAddress) → Contains (padded n xs) (Some a) → Contains xs a
padded-has zero xs a has = absurd (nothing (Some a) has)
padded-has (suc n) [] a has = by (first_or_rest None (Some a) (padded n []) has) (padded-has n [] a) where
  by : (None ≡ Some a) ⊎ Contains (padded n []) (Some a) → (Contains (padded n []) (Some a) → Contains [] a) → Contains [] a
  by (inl same) more = absurd (cc)
  by (inr rest) more = more rest
padded-has (suc n) (x ∷ xs) a has = by (first_or_rest (Some x) (Some a) (padded n xs) has) (padded-has n xs a) where
  by : (Some x ≡ Some a) ⊎ Contains (padded n xs) (Some a) → (Contains (padded n xs) (Some a) → Contains xs a) → Contains (x ∷ xs) a
  by (inl same) more = let is : x ≡ a = (cc) in subst (λ (y : IpAddress). Contains (x ∷ xs) y) is (here x xs)
  by (inr rest) more = there x a xs (more rest)

belongs : (q : Query) (message : List ℕ) (at count : ℕ) (found : List (Option IpAddress)) (is : IsAnswer q message at count found) (a : IpAddress) →
    Contains found (Some a) → Belongs is.records q.question.name a
belongs q message at count found is a has =
    let placed : Contains (padded 4 (addresses_of q.question.type_ is.finds.last is.records)) (Some a) =
    subst (λ (l : List (Option IpAddress)). Contains l (Some a)) is.finds.are has in
    let by = gives is.records q.question.type_ is.finds.last a (padded-has 4 (addresses_of q.question.type_ is.finds.last is.records) a placed) in
    record {
      aliases = is.finds.true_name.aliases;
      most = is.finds.true_name.most;
      last = is.finds.last;
      chain = leads-chain is.finds.true_name.aliases is.records q.question.name is.finds.last is.finds.true_name.leads;
      by = by.by;
      among = by.among;
      named = by.named;
      holds = by.holds;
    }

-- DATAGRAMS.

judged-answer : (truncated : Bool) (code : DnsRcode) (q : Query) (message : List ℕ) (at : ℕ) (found : List (Option IpAddress)) →
    IsJudgedBy truncated code q message at (V.Found found) → IsAnswer q message at (be16 message 6) found
judged-answer true code q message at found is = absurd (cc)
judged-answer false Code.NoError q message at found is = is.0
judged-answer false Code.NXDomain q message at found is = absurd (cc)
judged-answer false Code.FormErr q message at found is = absurd (cc)
judged-answer false Code.ServFail q message at found is = absurd (cc)
judged-answer false Code.NotImp q message at found is = absurd (cc)
judged-answer false Code.Refused q message at found is = absurd (cc)
judged-answer false (Code.Unknown n) q message at found is = absurd (cc)

-- what is known of a datagram that is for a query
record From (q : Query) (ip : IpRepr) (repr : UdpRepr) : Type 0 where
  server : IpAddress
  asked : q.asked ≡ Some server
  source : is_same_address server (source_of ip) ≡ true
  source_port : repr.src_port ≡ 53
  port : repr.dst_port ≡ q.port

from : (q : Query) (ip : IpRepr) (repr : UdpRepr) → is_for q ip repr ≡ true → From q ip repr
from q ip repr is = by q.asked refl is where
  by : (o : Option IpAddress) → q.asked ≡ o → is_from o q ip repr ≡ true → From q ip repr
  by None asked is = absurd (cc)
  by (Some server) asked is =
      let parts = and_parts ((repr.src_port == 53) && (repr.dst_port == q.port)) (is_same_address server (source_of ip)) is in
      let ports = and_parts (repr.src_port == 53) (repr.dst_port == q.port) parts.0 in
      record {
        server = server;
        asked = asked;
        source = parts.1;
        source_port = eqb-true repr.src_port 53 ports.0;
        port = eqb-true repr.dst_port q.port ports.1;
      }

abbrev IsEither : DnsValue → IpRepr → UdpRepr → List ℕ → List (Option IpAddress) → Type 0
IsEither v ip repr payload found = (v.state ≡ S.Completed found) ⊎ IsAnswered v ip repr payload found

answered : (v : DnsValue) (ip : IpRepr) (repr : UdpRepr) (payload : List ℕ) (q : Query) (found : List (Option IpAddress)) → v.state ≡ S.Pending q →
    From q ip repr → IsVerdict q payload (V.Found found) → IsEither v ip repr payload found
answered v ip repr payload q found pending f (inl replied) =
    let is = judged-answer (flags_of (slice_index payload 2) (slice_index payload 3)).truncated (rcode_of (slice_index payload 3 % 16)) q payload replied.at
    found replied.judged in
    inr (record {
      query = q;
      pending = pending;
      server = f.server;
      asked = f.asked;
      source = f.source;
      source_port = f.source_port;
      port = f.port;
      at = replied.at;
      reply = replied.reply;
      records = is.records;
      end = is.end;
      stand = is.stand;
      all = is.all;
      belong = belongs q payload replied.at (be16 payload 6) found is;
    })
answered v ip repr payload q found pending f (inr none) = absurd (cc none.1)

-- a query that turns to the next server has no addresses
asked-none : (now : ℤ) (state : State) (q : Query) (found : List (Option IpAddress)) → state ≡ S.Pending q → ask_next now state ≡ S.Completed found → ⊥
asked-none now S.Idle q found pending e = absurd (cc)
asked-none now (S.Pending p) q found pending e = absurd (cc)
asked-none now (S.Completed f) q found pending e = absurd (cc)
asked-none now S.Failed q found pending e = absurd (cc)
asked-none now S.Unanswered q found pending e = absurd (cc)

turned-none : (now : ℤ) (servers : List (Option IpAddress)) (told : Bool) (state : State) (q : Query) (found : List (Option IpAddress)) → state ≡ S.Pending q →
    next_state now servers told state ≡ S.Completed found → ⊥
turned-none now servers told state q found pending e = by (has_next servers state) e where
  by : (t : Bool) → (if t then ask_next now state else unanswered told) ≡ S.Completed found → ⊥
  by true e = asked-none now state q found pending e
  by false e = none-left told found e

verdict-given : (now : ℤ) (v : DnsValue) (ip : IpRepr) (repr : UdpRepr) (payload : List ℕ) (q : Query) (verdict : Verdict) (found : List (Option IpAddress)) →
    v.state ≡ S.Pending q → From q ip repr → IsVerdict q payload verdict
    → (judged now v verdict).state ≡ S.Completed found → IsEither v ip repr payload found
verdict-given now v ip repr payload q V.Unrelated found pending f is e = inl e
verdict-given now v ip repr payload q (V.Found these) found pending f is e =
    let same : these ≡ found = (cc) in
    answered v ip repr payload q found pending f (subst (λ (l : List (Option IpAddress)). IsVerdict q payload (V.Found l)) same is)
verdict-given now v ip repr payload q V.Missing found pending f is e = absurd (cc)
verdict-given now v ip repr payload q V.Refused found pending f is e = absurd (turned-none now v.servers v.host_requirements v.state q found pending e)

kept-given : (v v' : DnsValue) (ip : IpRepr) (repr : UdpRepr) (payload : List ℕ) → v' ≡ unoffered v → AreGiven v ip repr payload v'
kept-given v v' ip repr payload same = λ found is. inl (sym (ap (λ (w : DnsValue). w.state) same) ∙ is)

-- by the state in which a datagram is taken
in-given : (now : ℤ) (v : DnsValue) (ip : IpRepr) (repr : UdpRepr) (payload : List ℕ) (verdict : Verdict) (found : List (Option IpAddress)) (s : State) →
    v.state ≡ s → accepts s ip repr ≡ true → IsVerdictIn s payload verdict
    → (judged now v verdict).state ≡ S.Completed found → IsEither v ip repr payload found
in-given now v ip repr payload verdict found S.Idle is accepted read e = absurd (cc)
in-given now v ip repr payload verdict found (S.Pending q) is accepted read e =
    verdict-given now v ip repr payload q verdict found is (from q ip repr accepted) read e
in-given now v ip repr payload verdict found (S.Completed f) is accepted read e = absurd (cc)
in-given now v ip repr payload verdict found S.Failed is accepted read e = absurd (cc)
in-given now v ip repr payload verdict found S.Unanswered is accepted read e = absurd (cc)

if-given : (now : ℤ) (v v' : DnsValue) (ip : IpRepr) (repr : UdpRepr) (payload : List ℕ) (t : Bool) → accepts v.state ip repr ≡ t →
    ProcessedIf t now v payload v' → AreGiven v ip repr payload v'
if-given now v v' ip repr payload true accepted takes = λ found e.
    in-given now v ip repr payload takes.verdict found v.state refl accepted takes.is (sym (ap (λ (w : DnsValue). w.state) takes.taken) ∙ e)
if-given now v v' ip repr payload false accepted same = kept-given v v' ip repr payload same

pub given : (now : ℤ) (v v' : DnsValue) (ip : IpRepr) (repr : UdpRepr) (payload : List ℕ) → Processed now v ip repr payload v' → AreGiven v ip repr payload v'
given now v v' ip repr payload done = if-given now v v' ip repr payload (accepts v.state ip repr) refl done
