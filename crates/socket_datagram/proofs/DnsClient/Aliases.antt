-- The chain of aliases of a name.
use Rattle.std.proofs.Common.{◌≡◌, inl, inr, ℕ, zero, suc, ◌+◌, ◌<◌, true, false, is_some, Option, Some, None, Result, Ok, List, [], ◌∷◌, length, refl, sym}
use Rattle.std.proofs.Common.{◌∙◌, ap, subst, arith}
use Rattle.wire_dns.specs.declared.name.DnsName.{DnsName}
use Rattle.wire_dns.specs.declared.record_at.DnsRecord.{DnsRecord}
use Rattle.wire_dns.specs.Message.{IsRecord}
use Rattle.socket_datagram.specs.DnsClient.Records.{AreRecords, alias_by, alias_in, or_else, LeadsTo, IsTrueName}
use Rattle.socket_datagram.proofs.DnsClient.Stood.{First, first_left, read_first}

some-first : (found other answer : Option DnsName) → is_some found ≡ true → or_else found other ≡ answer → found ≡ answer
some-first (Some target) other answer some is = is
some-first None other answer some is = absurd (cc)

none-first : (found other answer : Option DnsName) → is_some found ≡ false → or_else found other ≡ answer → other ≡ answer
none-first (Some target) other answer none is = absurd (cc)
none-first None other answer none is = is

-- so many records are left, and give a name this alias
pub record AliasLeft (message : List ℕ) (slot left end : ℕ) (name : DnsName) (answer : Option DnsName) : Type 0 where
  pub todo : List DnsRecord
  pub stand : AreRecords message slot todo end
  pub len : length todo ≡ left
  pub same : alias_in name todo ≡ answer

pub AliasLeft-first : (message : List ℕ) (slot left end : ℕ) (name : DnsName) (answer : Option DnsName) (l : AliasLeft message slot left end name answer) →
    0 < left → First message slot l.todo end
AliasLeft-first message slot left end name answer l some = first_left message slot l.todo end l.stand (omega (arith, l.len, some))

pub AliasLeft-none : (message : List ℕ) (slot left end : ℕ) (name : DnsName) (answer : Option DnsName) → AliasLeft message slot left end name answer →
    left ≡ 0 → None ≡ answer
AliasLeft-none message slot left end name answer l none = by l.todo (l.len ∙ none) l.same where
  by : (todo : List DnsRecord) → length todo ≡ 0 → alias_in name todo ≡ answer → None ≡ answer
  by [] none same = same
  by (r ∷ rs) none same = absurd (omega (arith, none))

pub AliasLeft-found : {E : Type 0} (message : List ℕ) (slot left end : ℕ) (name : DnsName) (answer : Option DnsName) (read : Result (DnsRecord × ℕ) E)
    (r : DnsRecord) (next : ℕ) (found : Option DnsName)
    → AliasLeft message slot left end name answer → 0 < left → read ≡ Ok (r, next) → ((s : DnsRecord) (n : ℕ) → IsRecord message slot s n → read ≡ Ok (s, n))
    → found ≡ alias_by name r → is_some found ≡ true → found ≡ answer
AliasLeft-found message slot left end name answer read r next found l more is only by some =
    let f = AliasLeft-first message slot left end name answer l more in
    let first = (read_first message slot l.todo end read r next f is only).0 in
    let here : found ≡ alias_by name f.first = by ∙ ap (alias_by name) first in
    let head : or_else found (alias_in name f.rest) ≡ answer = ap (λ (o : Option DnsName). or_else o (alias_in name f.rest)) here ∙
    sym (ap (alias_in name) f.same) ∙ l.same in
    some-first found (alias_in name f.rest) answer some head

pub AliasLeft-next : {E : Type 0} (message : List ℕ) (slot left left' end : ℕ) (name : DnsName) (answer : Option DnsName) (read : Result (DnsRecord × ℕ) E)
    (r : DnsRecord) (next : ℕ) (found : Option DnsName)
    → AliasLeft message slot left end name answer → left' + 1 ≡ left → read ≡ Ok (r, next) →
    ((s : DnsRecord) (n : ℕ) → IsRecord message slot s n → read ≡ Ok (s, n))
    → found ≡ alias_by name r → is_some found ≡ false → AliasLeft message next left' end name answer
AliasLeft-next message slot left left' end name answer read r next found l fewer is only by none =
    let f = AliasLeft-first message slot left end name answer l (omega (arith, fewer)) in
    let same = read_first message slot l.todo end read r next f is only in
    let here : found ≡ alias_by name f.first = by ∙ ap (alias_by name) same.0 in
    let head : or_else found (alias_in name f.rest) ≡ answer = ap (λ (o : Option DnsName). or_else o (alias_in name f.rest)) here ∙
    sym (ap (alias_in name) f.same) ∙ l.same in
    record {
      todo = f.rest;
      stand = subst (λ (n : ℕ). AreRecords message n f.rest end) (sym same.1) f.stand;
      len = omega (arith, l.len, fewer, ap length f.same);
      same = none-first found (alias_in name f.rest) answer none head;
    }

-- where a reader finds none there are none left
pub AliasLeft-cut : {E : Type 0} (message : List ℕ) (slot left end : ℕ) (name : DnsName) (answer : Option DnsName) (read : Result (DnsRecord × ℕ) E)
    → AliasLeft message slot left end name answer → 0 < left → ((p : DnsRecord × ℕ) → read ≡ Ok p → ⊥) →
    ((s : DnsRecord) (n : ℕ) → IsRecord message slot s n → read ≡ Ok (s, n)) → ⊥
AliasLeft-cut message slot left end name answer read l more other only =
    let f = AliasLeft-first message slot left end name answer l more in
    other (f.first, f.next) (only f.first f.next f.is)

-- one more alias at the end of a chain
LeadsTo-more : (n : ℕ) (rs : List DnsRecord) (name last target : DnsName) → LeadsTo n rs name last → alias_in last rs ≡ Some target →
    LeadsTo (suc n) rs name target
LeadsTo-more zero rs name last target leads is = (target, ap (λ (x : DnsName). alias_in x rs) leads ∙ is, refl)
LeadsTo-more (suc n) rs name last target leads is = (leads.0, leads.1, LeadsTo-more n rs leads.0 last target leads.2 is)

-- a chain, with so many aliases to go
pub record Led (rs : List DnsRecord) (name last : DnsName) (left : ℕ) : Type 0 where
  pub aliases : ℕ
  pub rest : aliases + left ≡ 8
  pub leads : LeadsTo aliases rs name last

pub Led-begin : (rs : List DnsRecord) (name : DnsName) → Led rs name name 8
Led-begin rs name = record { aliases = zero; rest = omega arith; leads = refl }

pub Led-more : (rs : List DnsRecord) (name last target : DnsName) (left left' : ℕ) → Led rs name last left → left' + 1 ≡ left → alias_in last rs ≡ Some target →
    Led rs name target left'
Led-more rs name last target left left' led fewer is = record {
  aliases = suc led.aliases;
  rest = omega (arith, led.rest, fewer);
  leads = LeadsTo-more led.aliases rs name last target led.leads is;
}

pub Led-end : (rs : List DnsRecord) (name last : DnsName) (left : ℕ) → Led rs name last left → alias_in last rs ≡ None → IsTrueName rs name last
Led-end rs name last left led none = record { aliases = led.aliases; most = omega (arith, led.rest); leads = led.leads; ends = inl none }

pub Led-eighth : (rs : List DnsRecord) (name last : DnsName) (left : ℕ) → Led rs name last left → left ≡ 0 → IsTrueName rs name last
Led-eighth rs name last left led none =
    record { aliases = led.aliases; most = omega (arith, led.rest); leads = led.leads; ends = inr (omega (arith, led.rest, none)) }

pub not-some : (o : Option DnsName) → ((target : DnsName) → o ≡ Some target → ⊥) → o ≡ None
not-some None other = refl
not-some (Some target) other = absurd (other target refl)
