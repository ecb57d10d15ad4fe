-- What a datagram says to a query is determined, and so is what it leaves.
use Rattle.std.proofs.Common.{◌≡◌, ◌≢◌, ◌⊎◌, inl, inr, ℕ, zero, suc, ◌+◌, ◌<◌, ◌≤◌, Bool, true, false, ℤ, List, [], ◌∷◌, length, Option, Some, None}
use Rattle.std.proofs.Common.{refl, sym, ap}
use Rattle.std.proofs.Common.{◌∙◌, subst, arith}
use Rattle.std.specs.Prelude.{slice_index, ◌%◌}
use Rattle.ip_wire.specs.Fields.{be16}
use Rattle.ip_wire.specs.IpAddress.{IpAddress}
use Rattle.ip_wire.specs.IpRepr.{IpRepr}
use Rattle.ip_wire.specs.UdpRepr.{UdpRepr}
use Rattle.wire_dns.specs.Codes.{flags_of, rcode_of}
use Rattle.wire_dns.specs.Message.{IsQuestion, IsRecord, IsData}
use Rattle.wire_dns.specs.Name.{Step, Label, Jump, Leads, IsName, bytes_of_name, name_of, end_of}
use Rattle.wire_dns.specs.declared.codes.DnsQueryType.{DnsQueryType}
use Rattle.wire_dns.specs.declared.codes.DnsRcode.{DnsRcode}
use Rattle.wire_dns.specs.declared.codes.DnsRcode.TheVariants as Code
use Rattle.wire_dns.specs.declared.name.DnsName.{DnsName}
use Rattle.wire_dns.specs.declared.question.DnsQuestion.{DnsQuestion}
use Rattle.wire_dns.specs.declared.record_at.DnsRecord.{DnsRecord}
use Rattle.wire_dns.specs.declared.record_at.DnsRecordData.{DnsRecordData}
use Rattle.wire_dns.specs.declared.record_at.DnsRecordData.TheVariants.{A, Aaaa, Cname, Other}
use Rattle.wire_dns.proofs.Found.{name-is, question-is, record-is, holds-at, address-is, address_v6-is}
use Rattle.wire_dns.proofs.Names.{Leads-root, Leads-label, Leads-pointer}
use Rattle.socket_datagram.specs.DnsClient.Processed.{accepts, judged, Processed, ProcessedIf}
use Rattle.socket_datagram.specs.DnsClient.Records.{AreRecords, IsCut, LeadsTo, IsTrueName, Finds, alias_in, addresses_of, padded}
use Rattle.socket_datagram.specs.DnsClient.Replies.{IsReply, IsAnswer, IsFound, IsJudgedBy, IsReplied, IsVerdict, IsVerdictIn, first_of}
use Rattle.socket_datagram.specs.DnsClient.Value.{DnsValue}
use Rattle.socket_datagram.specs.declared.dns.answer.Verdict.{Verdict}
use Rattle.socket_datagram.specs.declared.dns.answer.Verdict.TheVariants.{Unrelated, Found, Missing, Refused}
use Rattle.socket_datagram.specs.declared.dns.query.Query.{Query}
use Rattle.socket_datagram.specs.declared.dns.state.State.{State}
use Rattle.socket_datagram.specs.declared.dns.state.State.TheVariants as S

-- NAMES

one_leads : (message : List ℕ) (limit at : ℕ) (a b : List Step) → Leads message limit at a → Leads message limit at b → a ≡ b
one_leads message limit at [] b one other = sym (Leads-root message limit at b one other)
one_leads message limit at (Label label ∷ steps) b one other =
    let p = Leads-label message limit at label b one.0 other in
    ap (λ (rest : List Step). Label label ∷ rest) (one_leads message limit (at + 1 + length label) steps p.rest one.1 p.leads) ∙ sym p.is
one_leads message limit at (Jump slot ∷ steps) b one other =
    let p = Leads-pointer message limit at slot b one.0 other in
    ap (λ (rest : List Step). Jump slot ∷ rest) (one_leads message slot slot steps p.rest one.1 p.leads) ∙ sym p.is

one_name : (message : List ℕ) (at : ℕ) (a b : List ℕ) (end stop : ℕ) → IsName message at a end → IsName message at b stop → (a ≡ b) × (end ≡ stop)
one_name message at a b end stop one other =
    let same : one.steps ≡ other.steps = one_leads message at at one.steps other.steps one.leads other.leads in (
      one.name_is ∙ ap (λ (steps : List Step). name_of steps) same ∙ sym other.name_is,
      one.end_is ∙ ap (λ (steps : List Step). end_of at steps) same ∙ sym other.end_is,
    )

-- QUESTIONS AND RECORDS

pair_left : {A : Type 0} (a b : A) (m n : ℕ) → (a, m) ≡ (let p : A × ℕ = (b, n) in p) → (a ≡ b) × (m ≡ n)
pair_left {A} a b m n same = (ap (λ (p : A × ℕ). p.0) same, ap (λ (p : A × ℕ). p.1) same)

one_question : (message : List ℕ) (at : ℕ) (q r : DnsQuestion) (end stop : ℕ) → IsQuestion message at q end → IsQuestion message at r stop →
    (q ≡ r) × (end ≡ stop)
one_question message at q r end stop one other =
    let names = one_name message at (bytes_of_name q.name) (bytes_of_name r.name) one.name_end other.name_end one.name other.name in
    let same = question-is message at r stop q.name q.type_ one.name_end other names.0 names.1 one.kind in
    let both = pair_left _ _ _ _ same in
    (both.0, one.end_is ∙ both.1)

one_data : (message : List ℕ) (class kind start len : ℕ) (a b : DnsRecordData) → IsData message class kind start len a →
    IsData message class kind start len b → a ≡ b
one_data message class kind start len (A x) (A y) one other = ap A (let same : x.0 ≡ y.0 = one.3 ∙ sym other.3 in λ k. record { 0 = same k })
one_data message class kind start len (A x) (Aaaa y) one other = absurd (omega (arith, one.1, other.1))
one_data message class kind start len (A x) (Cname y) one other = absurd (omega (arith, one.1, other.1))
one_data message class kind start len (A x) (Other k n m) one other = absurd ((other.0 one.0).0 one.1)
one_data message class kind start len (Aaaa x) (A y) one other = absurd (omega (arith, one.1, other.1))
one_data message class kind start len (Aaaa x) (Aaaa y) one other = ap Aaaa (let same : x.0 ≡ y.0 = one.3 ∙ sym other.3 in λ k. record { 0 = same k })
one_data message class kind start len (Aaaa x) (Cname y) one other = absurd (omega (arith, one.1, other.1))
one_data message class kind start len (Aaaa x) (Other k n m) one other = absurd ((other.0 one.0).2 one.1)
one_data message class kind start len (Cname x) (A y) one other = absurd (omega (arith, one.1, other.1))
one_data message class kind start len (Cname x) (Aaaa y) one other = absurd (omega (arith, one.1, other.1))
one_data message class kind start len (Cname x) (Cname y) one other =
    ap Cname (name-is x y (one_name message start (bytes_of_name x) (bytes_of_name y) (start + len) (start + len) one.2 other.2).0)
one_data message class kind start len (Cname x) (Other k n m) one other = absurd ((other.0 one.0).1 one.1)
one_data message class kind start len (Other k n m) (A y) one other = absurd ((one.0 other.0).0 other.1)
one_data message class kind start len (Other k n m) (Aaaa y) one other = absurd ((one.0 other.0).2 other.1)
one_data message class kind start len (Other k n m) (Cname y) one other = absurd ((one.0 other.0).1 other.1)
one_data message class kind start len (Other k n m) (Other k' n' m') one other =
    let kinds : k ≡ k' = one.1 ∙ sym other.1 in
    let starts : n ≡ n' = one.2 ∙ sym other.2 in
    let counts : m ≡ m' = one.3 ∙ sym other.3 in
    λ i. Other (kinds i) (starts i) (counts i)

one_record : (message : List ℕ) (at : ℕ) (r s : DnsRecord) (end stop : ℕ) → IsRecord message at r end → IsRecord message at s stop → (r ≡ s) × (end ≡ stop)
one_record message at r s end stop one other =
    let names = one_name message at (bytes_of_name r.name) (bytes_of_name s.name) one.name_end other.name_end one.name other.name in
    let held = one_data message (be16 message (one.name_end + 2)) (be16 message one.name_end) (one.name_end + 10)
    (be16 message (one.name_end + 8)) r.«data» s.«data»
    one.holds (holds-at message at s stop one.name_end other names.1) in
    let same = record-is message at s stop r.name r.ttl r.«data» one.name_end other names.0 names.1 one.ttl held in
    let both = pair_left _ _ _ _ same in
    (both.0, one.end_is ∙ both.1)

-- so many records from a slot on are determined
one_records : (message : List ℕ) (at : ℕ) (a b : List DnsRecord) (end stop : ℕ) → AreRecords message at a end → AreRecords message at b stop →
    length a ≡ length b → a ≡ b
one_records message at [] [] end stop one other len = refl
one_records message at [] (s ∷ b) end stop one other len = absurd (omega (arith, len))
one_records message at (r ∷ a) [] end stop one other len = absurd (omega (arith, len))
one_records message at (r ∷ a) (s ∷ b) end stop one other len =
    let first = one_record message at r s one.0 other.0 one.1 other.1 in
    let rest : a ≡ b =
    one_records message one.0 a b end stop one.2 (subst (λ (n : ℕ). AreRecords message n b stop) (sym first.1) other.2) (omega (arith, len)) in
    λ k. first.0 k ∷ rest k

-- where no record stands after some, there are no more
no_more : (message : List ℕ) (at : ℕ) (a b : List DnsRecord) (end stop : ℕ) → AreRecords message at a end →
    ((r : DnsRecord) (next : ℕ) → IsRecord message end r next → ⊥) → AreRecords message at b stop → length a < length b → ⊥
no_more message at [] [] end stop one none other fewer = omega (arith, fewer)
no_more message at [] (s ∷ b) end stop one none other fewer =
    none s other.0 (subst (λ (n : ℕ). IsRecord message n s other.0) one other.1)
no_more message at (r ∷ a) [] end stop one none other fewer = omega (arith, fewer)
no_more message at (r ∷ a) (s ∷ b) end stop one none other fewer =
    let first = one_record message at r s one.0 other.0 one.1 other.1 in
    no_more message one.0 a b end stop one.2 none (subst (λ (n : ℕ). AreRecords message n b stop) (sym first.1) other.2) (omega (arith, fewer))

-- CHAINS

one_target : (a b : DnsName) (o : Option DnsName) → o ≡ Some a → o ≡ Some b → a ≡ b
one_target a b o one other = let same : Some a ≡ Some b = sym one ∙ other in cc

-- a chain is at its end where its name has no alias, or where it is as long as can be
one_end : (rs : List DnsRecord) (n m most : ℕ) (name a b : DnsName) → LeadsTo n rs name a → LeadsTo m rs name b → n ≤ most → m ≤ most →
    (alias_in a rs ≡ None) ⊎ (n ≡ most) → (alias_in b rs ≡ None) ⊎ (m ≡ most) → a ≡ b
one_end rs zero zero most name a b one other low less ends stops = sym one ∙ other
one_end rs zero (suc m) most name a b one other low less (inl none) stops =
    absurd (let clash : None ≡ Some other.0 = sym none ∙ ap (λ (x : DnsName). alias_in x rs) (sym one) ∙ other.1 in cc)
one_end rs zero (suc m) most name a b one other low less (inr all) stops = absurd (omega (arith, all, less))
one_end rs (suc n) zero most name a b one other low less ends (inl none) =
    absurd (let clash : None ≡ Some one.0 = sym none ∙ ap (λ (x : DnsName). alias_in x rs) (sym other) ∙ one.1 in cc)
one_end rs (suc n) zero most name a b one other low less ends (inr all) = absurd (omega (arith, all, low))
one_end rs (suc n) (suc m) zero name a b one other low less ends stops = absurd (omega (arith, low))
one_end rs (suc n) (suc m) (suc most) name a b one other low less ends stops =
    let same : one.0 ≡ other.0 = one_target one.0 other.0 (alias_in name rs) one.1 other.1 in
    one_end rs n m most one.0 a b one.2 (subst (λ (x : DnsName). LeadsTo m rs x b) (sym same) other.2) (omega (arith, low)) (omega (arith, less))
    (shorter n a ends) (shorter m b stops)
  where
    shorter : (k : ℕ) (last : DnsName) → (alias_in last rs ≡ None) ⊎ (suc k ≡ suc most) → (alias_in last rs ≡ None) ⊎ (k ≡ most)
    shorter k last (inl none) = inl none
    shorter k last (inr all) = inr (omega (arith, all))

one_true_name : (rs : List DnsRecord) (name a b : DnsName) → IsTrueName rs name a → IsTrueName rs name b → a ≡ b
one_true_name rs name a b one other =
    one_end rs one.aliases other.aliases 8 name a b one.leads other.leads one.most other.most one.ends other.ends

-- ANSWERS

one_answer : (q : Query) (message : List ℕ) (at count : ℕ) (found other_found : List (Option IpAddress)) → IsAnswer q message at count found →
    IsAnswer q message at count other_found → found ≡ other_found
one_answer q message at count found other_found one other =
    let records : one.records ≡ other.records =
    one_records message at one.records other.records one.end other.end one.stand other.stand (one.all ∙ sym other.all) in
    let again : Finds one.records q.question.name q.question.type_ other_found =
    subst (λ (rs : List DnsRecord). Finds rs q.question.name q.question.type_ other_found) (sym records) other.finds in
    let last = one_true_name one.records q.question.name one.finds.last again.last one.finds.true_name again.true_name in
    one.finds.are ∙ ap (λ (name : DnsName). padded 4 (addresses_of q.question.type_ name one.records)) last ∙ sym again.are

not_cut : (q : Query) (message : List ℕ) (at count : ℕ) (found : List (Option IpAddress)) → IsCut message at count → IsAnswer q message at count found → ⊥
not_cut q message at count found cut is =
    no_more message at cut.records is.records cut.end is.end cut.stand cut.none is.stand (omega (arith, cut.fewer, is.all))

one_found : (q : Query) (message : List ℕ) (at count : ℕ) (v w : Verdict) → IsFound q message at count v → IsFound q message at count w → v ≡ w
one_found q message at count Unrelated Unrelated one other = refl
one_found q message at count Unrelated (Found found) one other = absurd (not_cut q message at count found one other.0)
one_found q message at count Unrelated Missing one other = absurd (not_cut q message at count other.0 one other.1)
one_found q message at count (Found found) Unrelated one other = absurd (not_cut q message at count found other one.0)
one_found q message at count (Found found) (Found others) one other = ap Found (one_answer q message at count found others one.0 other.0)
one_found q message at count (Found found) Missing one other =
    absurd (one.1 (ap (λ (xs : List (Option IpAddress)). first_of xs) (one_answer q message at count found other.0 one.0 other.1) ∙ other.2))
one_found q message at count Missing Unrelated one other = absurd (not_cut q message at count one.0 other one.1)
one_found q message at count Missing (Found others) one other =
    absurd (other.1 (ap (λ (xs : List (Option IpAddress)). first_of xs) (one_answer q message at count others one.0 other.0 one.1) ∙ one.2))
one_found q message at count Missing Missing one other = refl
one_found q message at count Refused w one other = absurd one
one_found q message at count v Refused one other = absurd other

one_judged : (cut : Bool) (code : DnsRcode) (q : Query) (message : List ℕ) (at : ℕ) (v w : Verdict) → IsJudgedBy cut code q message at v →
    IsJudgedBy cut code q message at w → v ≡ w
one_judged true code q message at v w one other = one ∙ sym other
one_judged false Code.NoError q message at v w one other = one_found q message at (be16 message 6) v w one other
one_judged false Code.NXDomain q message at v w one other = one ∙ sym other
one_judged false Code.FormErr q message at v w one other = one ∙ sym other
one_judged false Code.ServFail q message at v w one other = one ∙ sym other
one_judged false Code.NotImp q message at v w one other = one ∙ sym other
one_judged false Code.Refused q message at v w one other = one ∙ sym other
one_judged false (Code.Unknown n) q message at v w one other = one ∙ sym other

one_verdict : (q : Query) (message : List ℕ) (v w : Verdict) → IsVerdict q message v → IsVerdict q message w → v ≡ w
one_verdict q message v w (inl one) (inl other) =
    let at : one.at ≡ other.at =
    (one_question message 12 one.reply.question other.reply.question one.at other.at one.reply.stands other.reply.stands).1 in
    one_judged (flags_of (slice_index message 2) (slice_index message 3)).truncated (rcode_of (slice_index message 3 % 16)) q message one.at v w one.judged
    (subst
    (λ (n : ℕ). IsJudgedBy (flags_of (slice_index message 2) (slice_index message 3)).truncated (rcode_of (slice_index message 3 % 16)) q message n w)
    (sym at) other.judged)
one_verdict q message v w (inl one) (inr other) = absurd (other.0 one.at one.reply)
one_verdict q message v w (inr one) (inl other) = absurd (one.0 other.at other.reply)
one_verdict q message v w (inr one) (inr other) = one.1 ∙ sym other.1

one_verdict_in : (state : State) (message : List ℕ) (v w : Verdict) → IsVerdictIn state message v → IsVerdictIn state message w → v ≡ w
one_verdict_in S.Idle message v w one other = one ∙ sym other
one_verdict_in (S.Pending q) message v w one other = one_verdict q message v w one other
one_verdict_in (S.Completed found) message v w one other = one ∙ sym other
one_verdict_in S.Failed message v w one other = one ∙ sym other
one_verdict_in S.Unanswered message v w one other = one ∙ sym other

-- DATAGRAMS

one_if : (test : Bool) (now : ℤ) (v left right : DnsValue) (payload : List ℕ) → ProcessedIf test now v payload left → ProcessedIf test now v payload right →
    left ≡ right
one_if true now v left right payload one other =
    one.taken ∙ ap (λ (w : Verdict). judged now v w) (one_verdict_in v.state payload one.verdict other.verdict one.is other.is) ∙ sym other.taken
one_if false now v left right payload one other = one ∙ sym other

pub one_processed : (now : ℤ) (v left right : DnsValue) (ip : IpRepr) (repr : UdpRepr) (payload : List ℕ) → Processed now v ip repr payload left →
    Processed now v ip repr payload right → left ≡ right
one_processed now v left right ip repr payload one other = one_if (accepts v.state ip repr) now v left right payload one other
