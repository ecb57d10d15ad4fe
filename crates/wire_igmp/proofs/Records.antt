-- Records in turn.
use Rattle.std.proofs.Common.{◌≡◌, ◌↔◌, ℕ, zero, suc, ◌-◌, ◌*◌, ◌<◌, ◌≤◌, List, [], ◌++◌, length, take, drop, slice_index, refl, sym, ◌∙◌, ap, subst, arith, length-append}
use Rattle.std.proofs.lemmas.List.{take_at, drop_at}
use Rattle.wire_address.specs.Fields.{be16}
use Rattle.wire_igmp.specs.GroupRecord.{AreRecords, Begins, record_len, after_group, after_record, record_spelling, type_number, type_of}
use Rattle.wire_igmp.specs.declared.group_record.RecordType.{RecordType}

-- of some records one is taken
pub AreRecords-one : (width n : ℕ) (bytes : List ℕ) → 0 < n → record_len width bytes ≤ length bytes
    → AreRecords width n bytes ↔ AreRecords width (n - 1) (after_record width bytes)
AreRecords-one width zero bytes some whole = absurd (omega arith)
AreRecords-one width (suc n) bytes some whole =
    let less : suc n - 1 ≡ n = omega arith in (
      λ all. subst (λ k. AreRecords width k (after_record width bytes)) (sym less) all.1,
      λ rest. (whole, subst (λ k. AreRecords width k (after_record width bytes)) less rest),
    )

-- some records are one and others
pub AreRecords-first : (width n : ℕ) (bytes : List ℕ) → 0 < n → AreRecords width n bytes → record_len width bytes ≤ length bytes
AreRecords-first width zero bytes some all = absurd (omega arith)
AreRecords-first width (suc n) bytes some all = all.0

pub AreRecords-none : (width n : ℕ) (bytes : List ℕ) → n ≤ 0 → AreRecords width n bytes
AreRecords-none width zero bytes none = tt
AreRecords-none width (suc n) bytes none = absurd (omega arith)

-- a record begins where its length is there
pub Begins-whole : (width : ℕ) (bytes : List ℕ) → record_len width bytes ≤ length bytes → Begins width bytes (record {
  kind = type_of (slice_index bytes 0);
  group = take width (drop 4 bytes);
  sources = take (width * be16 bytes 2) (after_group width bytes);
}) (after_record width bytes)
Begins-whole width bytes whole = record { whole = whole; kind = refl; group = refl; sources = refl; rest_is = refl }

-- a record that was sent is read back
pub Begins-spelling : (width : ℕ) (kind : RecordType) (group rest : List ℕ) → length group ≡ width
    → Begins width (record_spelling kind group ++ rest) (record { kind = type_of (type_number kind); group = group; sources = [] }) rest
Begins-spelling width kind group rest is =
    let none : width * 0 ≡ 0 = omega arith in
    record {
      whole = omega (arith, length-append group rest);
      kind = refl;
      group = sym (take_at group rest width is);
      sources = sym (ap (λ k. take k (drop width (group ++ rest))) none);
      rest_is = sym (ap (λ k. drop k (drop width (group ++ rest))) none ∙ drop_at group rest width is);
    }

-- it is one more before others
pub AreRecords-more : (width n : ℕ) (kind : RecordType) (group rest : List ℕ) → length group ≡ width → AreRecords width n rest
    → AreRecords width (suc n) (record_spelling kind group ++ rest)
AreRecords-more width n kind group rest is all =
    let begins = Begins-spelling width kind group rest is in
    (begins.whole, subst (AreRecords width n) begins.rest_is all)
