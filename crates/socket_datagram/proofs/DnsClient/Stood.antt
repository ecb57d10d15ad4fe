-- Records, one after the other.
use Rattle.std.proofs.Common.{◌≡◌, ℕ, ◌+◌, ◌<◌, Result, Ok, Err, List, [], ◌∷◌, ◌++◌, length, refl, sym, ap, ◌∙◌, subst, arith, length-append}
use Rattle.wire_dns.specs.Message.{IsRecord}
use Rattle.wire_dns.specs.declared.record_at.DnsRecord.{DnsRecord}
use Rattle.socket_datagram.specs.DnsClient.Records.{AreRecords, HasRecords, IsCut}

-- one more record after others
AreRecords-more : (message : List ℕ) (at : ℕ) (rs : List DnsRecord) (end : ℕ) (r : DnsRecord) (next : ℕ) → AreRecords message at rs end →
    IsRecord message end r next → AreRecords message at (rs ++ (r ∷ [])) next
AreRecords-more message at [] end r next stand is = (next, subst (λ (n : ℕ). IsRecord message n r next) (sym stand) is, refl)
AreRecords-more message at (first ∷ rs) end r next stand is = (stand.0, stand.1, AreRecords-more message stand.0 rs end r next stand.2 is)

-- records stand from a slot up to another, and so many are left
pub record Stood (message : List ℕ) (at count slot left : ℕ) : Type 0 where
  pub records : List DnsRecord
  pub stand : AreRecords message at records slot
  pub len : length records + left ≡ count

pub Stood-begin : (message : List ℕ) (at count : ℕ) → Stood message at count at count
Stood-begin message at count = record { records = []; stand = refl; len = omega arith }

pub Stood-more : (message : List ℕ) (at count slot left left' : ℕ) (r : DnsRecord) (next : ℕ) → Stood message at count slot left →
    IsRecord message slot r next → left' + 1 ≡ left → Stood message at count next left'
Stood-more message at count slot left left' r next stood is fewer = record {
  records = stood.records ++ (r ∷ []);
  stand = AreRecords-more message at stood.records slot r next stood.stand is;
  len = omega (arith, stood.len, fewer, length-append stood.records (r ∷ []));
}

pub Stood-all : (message : List ℕ) (at count slot left : ℕ) → Stood message at count slot left → left ≡ 0 → HasRecords message at count
Stood-all message at count slot left stood none = record { records = stood.records; end = slot; stand = stood.stand; all = omega (arith, stood.len, none) }

pub Stood-cut : (message : List ℕ) (at count slot left : ℕ) → Stood message at count slot left → 0 < left →
    ((r : DnsRecord) (next : ℕ) → IsRecord message slot r next → ⊥) → IsCut message at count
Stood-cut message at count slot left stood some none =
    record { records = stood.records; end = slot; stand = stood.stand; fewer = omega (arith, stood.len, some); none = none }

-- the first of the records that are left
pub record First (message : List ℕ) (slot : ℕ) (todo : List DnsRecord) (end : ℕ) : Type 0 where
  pub first : DnsRecord
  pub next : ℕ
  pub rest : List DnsRecord
  pub is : IsRecord message slot first next
  pub same : todo ≡ first ∷ rest
  pub stand : AreRecords message next rest end

pub first_left : (message : List ℕ) (slot : ℕ) (todo : List DnsRecord) (end : ℕ) → AreRecords message slot todo end → 0 < length todo →
    First message slot todo end
first_left message slot [] end stand some = absurd (omega arith)
first_left message slot (r ∷ rs) end stand some = record { first = r; next = stand.0; rest = rs; is = stand.1; same = refl; stand = stand.2 }

abbrev record_in : {E : Type 0} → DnsRecord → Result (DnsRecord × ℕ) E → DnsRecord
record_in r (Ok p) = p.0
record_in r (Err e) = r

abbrev end_in : {E : Type 0} → ℕ → Result (DnsRecord × ℕ) E → ℕ
end_in n (Ok p) = p.1
end_in n (Err e) = n

-- a record that was read is the first of those that are left
pub read_first : {E : Type 0} (message : List ℕ) (slot : ℕ) (todo : List DnsRecord) (end : ℕ) (read : Result (DnsRecord × ℕ) E) (r : DnsRecord) (next : ℕ)
    (f : First message slot todo end) → read ≡ Ok (r, next) → ((s : DnsRecord) (n : ℕ) → IsRecord message slot s n → read ≡ Ok (s, n)) →
    (r ≡ f.first) × (next ≡ f.next)
read_first {E} message slot todo end read r next f is only =
    let other = only f.first f.next f.is in
    (sym (ap (record_in {E = E} r) is) ∙ ap (record_in {E = E} r) other, sym (ap (end_in {E = E} next) is) ∙ ap (end_in {E = E} next) other)
