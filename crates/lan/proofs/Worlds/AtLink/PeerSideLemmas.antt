-- A socket has at most one peer.
use Rattle.std.proofs.Common.{◌≡◌, ◌≢◌, ◌⊎◌, inl, inr, ℕ, ◌<◌, ◌≤◌, ◌==◌, ◌&&◌, ◌||◌, not, Bool, true, false, if◌then◌else◌, List, [], ◌∷◌, length, Option}
use Rattle.std.proofs.Common.{Some, None, is_some, refl, sym, ap, ◌∙◌, subst, eq-eqb, arith}
use Rattle.std.proofs.lemmas.Bool.{eqb-true, and_parts, or_parts, cases_lt}
use Rattle.std.proofs.lemmas.List.{get_or_past}
use Rattle.std.specs.Prelude.{slice_index_or}
use Rattle.std.specs.List.{list_any}
use Rattle.std.proofs.lemmas.List.Folds.{list_any_at}
use Rattle.lan.specs.declared.at_link.history.answer.Answer.{Answer}
use Rattle.lan.specs.declared.at_link.history.answer.Answer.TheVariants as To
use Rattle.lan.specs.declared.at_link.history.answer.Refused.{Refused}
use Rattle.lan.specs.declared.at_link.history.answer.Refused.TheVariants as For
use Rattle.lan.specs.declared.at_link.history.event.Side.{Side}
use Rattle.lan.specs.declared.at_link.history.record.Opening.{Opening}
use Rattle.lan.specs.declared.at_link.history.record.SocketKind.{SocketKind}
use Rattle.lan.specs.declared.at_link.history.record.SocketKind.TheVariants as Of
use Rattle.lan.specs.declared.at_link.history.record.SocketRecord.{SocketRecord}
use Rattle.lan.specs.Worlds.AtLink.Kinds.{other, Kind, kind_of, calls}
use Rattle.lan.specs.Worlds.AtLink.Call.{SocketCall}
use Rattle.lan.specs.Worlds.AtLink.Call as Call
use Rattle.lan.specs.Worlds.AtLink.History.{Entry, call_of, first_of, opening_by, opening}
use Rattle.lan.specs.Worlds.AtLink.PeerSides.{names_port, are_paired, ArePartners}
use Rattle.lan.specs.Worlds.AtLink.Tables.{no_record, record_at, table_of, record_of, names_same, takes_ports, is_port_taken, is_wrong_kind, first_refusal}
use Rattle.lan.specs.Worlds.AtLink.Tables.{call_refusal, own_tests, opening_tests, Slots, kinds, kind_at, IsAllowed, AreAllowed}
use Rattle.lan.proofs.Worlds.AtLink.CallLemmas.{other_twice, call_found, call_in_here, call_or_none}
use Rattle.lan.proofs.Worlds.AtLink.TableLemmas.{first_of-none, length_table, table_says}

-- TESTS

pub test_passed : (test : Bool) (why : Refused) (tests : List (Bool × Refused)) → first_refusal ((test, why) ∷ tests) ≡ None → (test ≡ false) ×
    (first_refusal tests ≡ None)
test_passed true why tests e = absurd (cc)
test_passed false why tests e = (refl, e)

pub is_there : (kind : Option SocketKind) → not (is_some kind) ≡ false → (k : SocketKind) × (kind ≡ Some k)
is_there None e = absurd (cc)
is_there (Some kind) e = (kind, refl)

pub has_slot : (all : List (Option SocketKind)) (i : ℕ) (kind : SocketKind) → slice_index_or all i None ≡ Some kind → i < length all
has_slot all i kind e = by (cases_lt i (length all)) where
  by : (i < length all) ⊎ (length all ≤ i) → i < length all
  by (inl below) = below
  by (inr past) = absurd (let none : None ≡ Some kind = sym (get_or_past all i None past) ∙ e in cc)

-- what a call that was taken tells
pub record WasTaken (slots : Slots) (past : List Entry) (side : Side) (i : ℕ) (call : SocketCall) : Type 0 where
  pub kind : SocketKind
  pub there : kind_at slots side i ≡ Some kind
  pub slot : i < length (kinds slots side)
  pub right : is_wrong_kind (Some kind) call ≡ false
  pub own : first_refusal (own_tests slots.names (table_of past side (length (kinds slots side))) i call) ≡ None

pub was_taken :
    (slots : Slots) (past : List Entry) (side : Side) (i : ℕ) (call : SocketCall)
    → call_refusal slots.names (kind_at slots side i) (table_of past side (length (kinds slots side))) i call ≡ None
    → WasTaken slots past side i call
was_taken slots past side i call e =
    let own = own_tests slots.names (table_of past side (length (kinds slots side))) i call in
    let absent = test_passed (not (is_some (kind_at slots side i))) For.NoSocket ((is_wrong_kind (kind_at slots side i) call, For.WrongKind) ∷ own) e in
    let wrong = test_passed (is_wrong_kind (kind_at slots side i) call) For.WrongKind own absent.1 in
    let there = is_there (kind_at slots side i) absent.0 in
    record {
      kind = there.0;
      there = there.1;
      slot = has_slot (kinds slots side) i there.0 there.1;
      right = ap (λ (kind : Option SocketKind). is_wrong_kind kind call) (sym there.1) ∙ wrong.0;
      own = wrong.1;
    }

-- what an opening that was taken tells: the socket wasn't opened, and its ports are free
pub record MayOpen (slots : Slots) (past : List Entry) (side : Side) (i : ℕ) (o : Opening) : Type 0 where
  pub slot : i < length (kinds slots side)
  pub first : opening past side i ≡ None
  pub free : is_port_taken (table_of past side (length (kinds slots side))) o ≡ false

not_some : (o : Option Opening) → is_some o ≡ false → o ≡ None
not_some None e = refl
not_some (Some o) e = absurd (cc)

pub may_open :
    (slots : Slots) (past : List Entry) (side : Side) (i : ℕ) (o : Opening) → i < length (kinds slots side)
    → first_refusal (opening_tests (table_of past side (length (kinds slots side))) i o) ≡ None → MayOpen slots past side i o
may_open slots past side i o slot e =
    let table = table_of past side (length (kinds slots side)) in
    let twice = test_passed (is_some (record_at table i).opened) For.OpenedTwice ((is_port_taken table o, For.PortTaken) ∷ []) e in
    let taken = test_passed (is_port_taken table o) For.PortTaken [] twice.1 in
    let says = table_says past side (length (kinds slots side)) i slot in
    record { slot = slot; first = ap (λ (r : SocketRecord). r.opened) (sym says) ∙ not_some (record_at table i).opened twice.0; free = taken.0 }

-- an entry that opens a socket
pub opens :
    (slots : Slots) (past : List Entry) (side : Side) (i : ℕ) (call : SocketCall) (answer : Answer) (o : Opening)
    → WasTaken slots past side i call → opening_by (Some call) answer ≡ Some o → MayOpen slots past side i o
opens slots past side i (Call.Listen port) To.Done o w e =
    let same : record { local = port; remote = None } ≡ o = cc in
    subst (λ (o : Opening). MayOpen slots past side i o) same (may_open slots past side i (record { local = port; remote = None }) w.slot w.own)
opens slots past side i (Call.Connect remote port) To.Done o w e =
    let same : record { local = port; remote = Some remote.port } ≡ o = cc in
    subst (λ (o : Opening). MayOpen slots past side i o) same (may_open slots past side i (record { local = port; remote = Some remote.port }) w.slot w.own)
opens slots past side i call answer o w e = absurd (cc)

-- OPENINGS

-- an opening of a history with one entry more: it was there, or the entry is a call that opens the socket
pub record OpensNow (past : List Entry) (e : Entry) (side : Side) (i : ℕ) (o : Opening) : Type 0 where
  pub call : SocketCall
  pub kind : kind_of e.event ≡ calls side i call
  pub first : opening past side i ≡ None
  pub opened : opening_by (Some call) e.answer ≡ Some o

pub opening_cases : (past : List Entry) (e : Entry) (side : Side) (i : ℕ) (o : Opening) → opening (e ∷ past) side i ≡ Some o → (opening past side i ≡ Some o) ⊎
    OpensNow past e side i o
opening_cases past e side i o h = by (opening past side i) (call_of e side i) refl refl h where
  by :
      (before : Option Opening) (call : Option SocketCall) → opening past side i ≡ before → call_of e side i ≡ call
      → first_of before (opening_by call e.answer) ≡ Some o → (before ≡ Some o) ⊎ OpensNow past e side i o
  by (Some p) call was is h = inl h
  by None None was is h = absurd (cc)
  by None (Some call) was is h = inr (record { call = call; kind = call_found (kind_of e.event) side i call is; first = was; opened = h })

-- an opening stays
pub opening_stays : (past : List Entry) (e : Entry) (side : Side) (i : ℕ) (o : Opening) → opening past side i ≡ Some o → opening (e ∷ past) side i ≡ Some o
opening_stays past e side i o h = ap (λ (before : Option Opening). first_of before (opening_by (call_of e side i) e.answer)) h

-- an opened socket has a slot
pub opened_slot : (slots : Slots) (history : List Entry) (side : Side) (i : ℕ) (o : Opening) → AreAllowed slots history → opening history side i ≡ Some o →
    i < length (kinds slots side)
opened_slot slots [] side i o allowed h = absurd (cc)
opened_slot slots (e ∷ past) side i o allowed h = by (opening_cases past e side i o h) (opened_slot slots past side i o allowed.1) where
  by : (opening past side i ≡ Some o) ⊎ OpensNow past e side i o → (opening past side i ≡ Some o → i < length (kinds slots side)) →
      i < length (kinds slots side)
  by (inl was) before = before was
  by (inr now) before = (was_taken slots past side i now.call (subst (λ (kind : Kind). IsAllowed slots past kind) now.kind allowed.0)).slot

-- PORTS

-- two openings have neither a local port nor a named remote port in common
pub record AreApart (o p : Opening) : Type 0 where
  pub local : o.local ≢ p.local
  pub remote : names_same o.remote p.remote ≡ false

names_same_turned : (a b : Option ℕ) → names_same a b ≡ false → names_same b a ≡ false
names_same_turned None None e = refl
names_same_turned None (Some n) e = refl
names_same_turned (Some m) None e = refl
names_same_turned (Some m) (Some n) e = grind (arith, eqb-true, eq-eqb)

apart_turned : (o p : Opening) → AreApart o p → AreApart p o
apart_turned o p a = record { local = λ same. a.local (sym same); remote = names_same_turned o.remote p.remote a.remote }

-- a port that isn't taken is no other opened socket's
not_taken : (table : List SocketRecord) (o p : Opening) (j : ℕ) → is_port_taken table o ≡ false → j < length table → (record_at table j).opened ≡ Some p →
    AreApart o p
not_taken table o p j free below h = by (takes_ports o (record_at table j).opened) refl where
  by : (t : Bool) → takes_ports o (record_at table j).opened ≡ t → AreApart o p
  by true e = absurd (let taken = list_any_at (λ (r : SocketRecord). takes_ports o r.opened) table j no_record below e in let clash : false ≡ true =
      sym free ∙ taken in cc)
  by false e =
      let parts = or_parts (p.local == o.local) (names_same p.remote o.remote) (ap (takes_ports o) (sym h) ∙ e) in
      record {
        local = λ same. absurd (let clash : false ≡ true = sym parts.0 ∙ eq-eqb p.local o.local (sym same) in cc);
        remote =
            names_same_turned p.remote o.remote parts.1;
      }

pub apart_from_opened :
    (slots : Slots) (past : List Entry) (side : Side) (i j : ℕ) (o p : Opening) → AreAllowed slots past → MayOpen slots past side i o
    → opening past side j ≡ Some p → AreApart o p
apart_from_opened slots past side i j o p allowed may h =
    let count = length (kinds slots side) in
    let below = opened_slot slots past side j p allowed h in
    let size = length_table past side count in
    not_taken (table_of past side count) o p j may.free (omega arith) (ap (λ (r : SocketRecord). r.opened) (table_says past side count j below) ∙ h)

may_open_now : (slots : Slots) (past : List Entry) (e : Entry) (side : Side) (i : ℕ) (o : Opening) → IsAllowed slots past (kind_of e.event) →
    OpensNow past e side i o → MayOpen slots past side i o
may_open_now slots past e side i o allowed now =
    opens slots past side i now.call e.answer o
    (was_taken slots past side i now.call (subst (λ (kind : Kind). IsAllowed slots past kind) now.kind allowed)) now.opened

-- two opened sockets of a host are one, or have no port in common
pub opened_apart :
    (slots : Slots) (history : List Entry) (side : Side) (i j : ℕ) (o p : Opening) → AreAllowed slots history
    → opening history side i ≡ Some o → opening history side j ≡ Some p → (i ≡ j) ⊎ AreApart o p
opened_apart slots [] side i j o p allowed h k = absurd (cc)
opened_apart slots (e ∷ past) side i j o p allowed h k =
    by (opening_cases past e side i o h) (opening_cases past e side j p k) (opened_apart slots past side i j o p allowed.1)
  where
    by :
        (opening past side i ≡ Some o) ⊎ OpensNow past e side i o → (opening past side j ≡ Some p) ⊎ OpensNow past e side j p
        → (opening past side i ≡ Some o → opening past side j ≡ Some p → (i ≡ j) ⊎ AreApart o p) → (i ≡ j) ⊎ AreApart o p
    by (inl h) (inl k) before = before h k
    by (inl h) (inr now) before =
        inr (apart_turned p o (apart_from_opened slots past side j i p o allowed.1 (may_open_now slots past e side j p allowed.0 now) h))
    by (inr now) (inl k) before = inr (apart_from_opened slots past side i j o p allowed.1 (may_open_now slots past e side i o allowed.0 now) k)
    by (inr now) (inr also) before = inl (let same : calls side i now.call ≡ calls side j also.call = sym now.kind ∙ also.kind in cc)

-- PARTNERS

-- two peers of one opening have a port in common
peer_sides_meet : (o p q : Opening) → are_paired o p ≡ true → are_paired o q ≡ true → ¬ (AreApart p q)
peer_sides_meet o p q a b apart = by o.remote p.remote q.remote (names_port p.remote o.local) (names_port q.remote o.local) refl refl refl refl refl a b where
  by :
      (r s t : Option ℕ) (u v : Bool) → o.remote ≡ r → p.remote ≡ s → q.remote ≡ t → names_port p.remote o.local ≡ u → names_port q.remote o.local ≡ v
      → ((is_some r || is_some s) && (names_port r p.local && u)) ≡ true → ((is_some r || is_some t) && (names_port r q.local && v)) ≡ true → ⊥
  by (Some r) s t u v hr hs ht hu hv a b =
      let one = eqb-true r p.local (and_parts (r == p.local) u a).0 in
      let two = eqb-true r q.local (and_parts (r == q.local) v b).0 in
      apart.local (sym one ∙ two)
  by None None t u v hr hs ht hu hv a b = absurd (cc)
  by None (Some s) None u v hr hs ht hu hv a b = absurd (cc)
  by None (Some s) (Some t) u v hr hs ht hu hv a b =
      let one : s ≡ o.local = eqb-true s o.local (ap (λ (r : Option ℕ). names_port r o.local) (sym hs) ∙ hu ∙ a) in
      let two : t ≡ o.local = eqb-true t o.local (ap (λ (r : Option ℕ). names_port r o.local) (sym ht) ∙ hv ∙ b) in
      let differ : (s == t) ≡ false = ap (λ (r : Option ℕ). names_same r (Some t)) (sym hs) ∙ ap (λ (r : Option ℕ). names_same p.remote r) (sym ht) ∙
      apart.remote in
      absurd (let clash : false ≡ true = sym differ ∙ eq-eqb s t (one ∙ sym two) in cc)

pub one_peer_side : (slots : Slots) (history : List Entry) (side : Side) (i j k : ℕ) → AreAllowed slots history → ArePartners history side i j →
    ArePartners history side i k → j ≡ k
one_peer_side slots history side i j k allowed a b =
    by (opened_apart slots history (other side) j k a.another b.another allowed a.peer_side_opened b.peer_side_opened) where
      same : a.one ≡ b.one
      same = let both : Some a.one ≡ Some b.one = sym a.opened ∙ b.opened in cc

      by : (j ≡ k) ⊎ AreApart a.another b.another → j ≡ k
      by (inl e) = e
      by (inr apart) = absurd (peer_sides_meet a.one a.another b.another a.paired (ap (λ (o : Opening). are_paired o b.another) same ∙ b.paired) apart)

-- each is the other's
pub paired_turned : (o p : Opening) → are_paired o p ≡ true → are_paired p o ≡ true
paired_turned o p e = by (is_some o.remote) (is_some p.remote) (names_port o.remote p.local) (names_port p.remote o.local) e where
  by : (a b c d : Bool) → ((a || b) && (c && d)) ≡ true → ((b || a) && (d && c)) ≡ true
  by true true true true e = refl
  by true false true true e = refl
  by false true true true e = refl
  by a b c d e = grind arith

pub peer_sides_turned : (history : List Entry) (side : Side) (i j : ℕ) → ArePartners history side i j → ArePartners history (other side) j i
peer_sides_turned history side i j a = record {
  one = a.another;
  another = a.one;
  opened = a.peer_side_opened;
  peer_side_opened = ap (λ (s : Side). opening history s i) (other_twice side) ∙ a.opened;
  paired = paired_turned a.one a.another a.paired;
}

-- peers stay so
pub peer_sides_stay : (past : List Entry) (e : Entry) (side : Side) (i j : ℕ) → ArePartners past side i j → ArePartners (e ∷ past) side i j
peer_sides_stay past e side i j a = record {
  one = a.one;
  another = a.another;
  opened = opening_stays past e side i a.one a.opened;
  peer_side_opened = opening_stays past e (other side) j a.another a.peer_side_opened;
  paired = a.paired;
}

pub ruleset peer_side_laws = (one_peer_side, peer_sides_turned, peer_sides_stay, opening_stays)
