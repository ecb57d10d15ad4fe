-- A slot holds of a datagram what the fragments that came said of it, and nothing else.
use Rattle.std.proofs.Common.{◌≡◌, ◌⊎◌, inl, inr, ℕ, zero, suc, ◌+◌, ◌-◌, ◌<◌, ◌≤◌, Bool, true, false, cond, List, [], ◌∷◌, length, take, drop}
use Rattle.std.proofs.Common.{Option, Some, None, refl, sym, ◌∙◌, ap, subst, append_assoc, arith}
use Rattle.std.specs.Prelude.{ℤ, slice_get, nat_le, is_some, position}
use Rattle.std.specs.List.{AllByRecursion}
use Rattle.std.proofs.lemmas.List.{length-take-le}
use Rattle.std.proofs.lemmas.Bool.Decides.{nat_tests}
use Rattle.base_buffer.specs.Assembler.{AreRuns, added, front}
use Rattle.base_buffer.proofs.Runs.{added-IsUnion}
use Rattle.tcp_theory.specs.ReceiveMap as receive
use Rattle.tcp_ranges.specs.OutOfOrder.{map_from, overlay, EndsBy}
use Rattle.tcp_ranges.proofs.Storing.{held-added, overlay-spliced, length-overlay, EndsBy-union}
use Rattle.tcp_ranges.proofs.Fronts.{front-held, front-EndsBy}
use Rattle.tcp_ranges.proofs.Refused.{map_from-refused}
use Rattle.iface_tables.specs.Best.{at_index}
use Rattle.iface_tables.specs.Inner.{InnerValue}
use Rattle.iface_tables.specs.declared.key.FragKey.{FragKey}
use Rattle.iface_tables.specs.Reassembly.{AssemblerValue, freed, taken, placed, overwritten, marked, completed, with_fragment, with_total, takes_total, is_complete}
use Rattle.iface_tables.specs.Reassembly.{ends_at, is_free, is_of, assembler_index_for}
use Rattle.iface_tables.specs.Assemblers.{changed_at, completed_in, opened, is_expired, unless_expired, without_expired}
use Rattle.iface_tables.specs.Assemblers.{without_datagram}
use Rattle.iface_tables.proofs.Apart.{placed-key, opened-key}
use Rattle.iface_ingress.specs.Arrives.{assemblers_after}
use Rattle.iface_ingress.specs.Incoming.{IncomingValue}
use Rattle.iface_ingress.specs.Reassembled.{Assemblers, FragmentValue, part_of, is_unfit, is_same_datagram, runs_kept, given_up_at, slot_of}
use Rattle.iface_ingress.specs.Reassembled.{slot_in, with_part, with_fragment as with_part_in, kept, with_room, bytes_at, released}
use Rattle.iface_ingress.proofs.Roomed.{roomed}
use Rattle.lan.specs.Worlds.Link.StoredFragments.{IsForeignKey}
use Rattle.lan.specs.Worlds.FragmentFacts.{Fact, ByteAt, EndsAt, IsOf, Says}
use Rattle.iface_tables.proofs.Keys.{key_test}
use Rattle.lan.proofs.Worlds.Link.Assemblers.{all_at, all_map, changed_keeps, changed_there}

-- A RECEIVE MAP

none_held : (slot : ℕ) (bytes : List ℕ) (k b : ℕ) → slice_get (map_from [] slot bytes) k ≡ Some (Some b) → ⊥
none_held slot [] k b is = cc
none_held slot (x ∷ bytes) zero b is = let e : None ≡ Some b = cc in cc
none_held slot (x ∷ bytes) (suc k) b is = none_held (suc slot) bytes k b is

-- the byte is one of those that were laid there, or was there before
stored : (map : List (Option ℕ)) (at : ℕ) (fragment : List ℕ) (k b : ℕ) → slice_get (receive.store map at fragment) k ≡ Some (Some b)
    → (slice_get map k ≡ Some (Some b)) ⊎ ((j : ℕ) × (at + j ≡ k) × (slice_get fragment j ≡ Some b))
stored [] at fragment k b is = inl is
stored (e ∷ map) (suc at) fragment zero b is = inl is
stored (e ∷ map) (suc at) fragment (suc k) b is =
    elim (stored map at fragment k b is) [ inl old ↦ inl old | inr new ↦ inr (new.0, (let n = new.1 in omega (arith, n)), new.2) ]
stored (e ∷ map) zero [] k b is = inl is
stored (e ∷ map) zero (x ∷ fragment) zero b is = inr (zero, omega arith, (let same : x ≡ b = cc in ap Some same))
stored (e ∷ map) zero (x ∷ fragment) (suc k) b is =
    elim (stored map zero fragment k b is) [ inl old ↦ inl old | inr new ↦ inr (suc new.0, (let n = new.1 in omega (arith, n)), new.2) ]

front_byte : (map : List (Option ℕ)) (k b : ℕ) → slice_get (receive.front map) k ≡ Some b → slice_get map k ≡ Some (Some b)
front_byte [] k b is = absurd cc
front_byte (None ∷ map) k b is = absurd cc
front_byte (Some x ∷ map) zero b is = let same : x ≡ b = cc in ap (λ (y : ℕ). Some (Some y)) same
front_byte (Some x ∷ map) (suc k) b is = front_byte map k b is

overwritten_overlay : (bytes : List ℕ) (offset : ℕ) (fragment : List ℕ) → offset + length fragment ≤ length bytes →
    overwritten bytes offset fragment ≡ overlay bytes offset fragment
overwritten_overlay bytes offset fragment fits = append_assoc (take offset bytes) fragment (drop (offset + length fragment) bytes) ∙
    sym (overlay-spliced bytes offset fragment fits)

-- ONE SLOT

-- all that a slot holds of a payload is so
pub record HoldsOnly {K : Type 0} (Q : Fact → Type 0) (s : AssemblerValue K) : Type 0 where
  pub runs : AreRuns s.runs
  pub few : length s.runs ≤ runs_kept
  pub ends : EndsBy s.runs (length s.bytes)
  pub bytes : (k b : ℕ) → slice_get (map_from s.runs 0 s.bytes) k ≡ Some (Some b) → Q (ByteAt k b)
  pub total : (n : ℕ) → s.total ≡ Some n → Q (EndsAt n)

module _ {K : Type 0} (Q : Fact → Type 0) where
  pub taken_only : (key : K) (expires : ℤ) (s : AssemblerValue K) → HoldsOnly Q (taken key expires s)
  taken_only key expires s = record {
    runs = tt;
    few = omega arith;
    ends = λ slot held. absurd held;
    bytes = λ k b is. absurd (none_held 0 s.bytes k b is);
    total = λ n none. absurd cc;
  }

  with_total_only : (s : AssemblerValue K) (size : ℕ) → HoldsOnly Q s → Q (EndsAt size) → HoldsOnly Q (with_total s size)
  with_total_only s size h so = elim (takes_total s size) as (λ b. HoldsOnly Q (cond b (record s { total = Some size }) s)) [
    | true ↦ record {
      runs = h.runs;
      few = h.few;
      ends = h.ends;
      bytes = h.bytes;
      total = λ n is. let same : size ≡ n =
          cc in subst (λ (m : ℕ). Q (EndsAt m)) same so;
    }
    | false ↦ h
  ]

  module _ (s : AssemblerValue K) (fragment : List ℕ) (offset : ℕ) (h : HoldsOnly Q s) (so : (k b j : ℕ) → offset + j ≡ k → slice_get fragment j ≡ Some b →
      Q (ByteAt k b)) where
    by_store : (k b : ℕ) → (slice_get (map_from s.runs 0 s.bytes) k ≡ Some (Some b)) ⊎ ((j : ℕ) × (offset + j ≡ k) × (slice_get fragment j ≡ Some b)) →
        Q (ByteAt k b)
    by_store k b (inl old) = h.bytes k b old
    by_store k b (inr new) = so k b new.0 new.1 new.2

    marked_by : (few : Bool) → nat_le (length (added s.runs offset (length fragment))) runs_kept ≡ few → offset + length fragment ≤ length s.bytes
        → HoldsOnly Q (record s { bytes = overwritten s.bytes offset fragment; runs = cond few (added s.runs offset (length fragment)) s.runs })
    marked_by true e fits =
        let over = overwritten_overlay s.bytes offset fragment fits in
        let union = added-IsUnion s.runs offset (length fragment) h.runs in
        let same : length (overwritten s.bytes offset fragment) ≡ length s.bytes = ap length over ∙ length-overlay s.bytes offset fragment in
        let laid : receive.store (map_from s.runs 0 s.bytes) offset fragment ≡ map_from (added s.runs offset (length fragment)) 0 (overwritten s.bytes offset fragment) =
        held-added s.runs offset s.bytes fragment h.runs ∙ ap (map_from (added s.runs offset (length fragment)) 0) (sym over) in
        record {
          runs = union.runs;
          few = grind (arith, nat_tests, e);
          ends = EndsBy-union s.runs offset (length fragment) (length (overwritten s.bytes offset fragment)) (added s.runs offset (length fragment)) union
              (subst (EndsBy s.runs) (sym same) h.ends) (omega (arith, same, fits));
          bytes = λ k b is. by_store k b
              (stored (map_from s.runs 0 s.bytes) offset fragment k b (subst (λ (m : List (Option ℕ)). slice_get m k ≡ Some (Some b)) (sym laid) is));
          total = h.total;
        }
    marked_by false e fits =
        let over = overwritten_overlay s.bytes offset fragment fits in
        let same : length (overwritten s.bytes offset fragment) ≡ length s.bytes = ap length over ∙ length-overlay s.bytes offset fragment in
        let many : length s.runs < length (added s.runs offset (length fragment)) = let f = h.few in grind (arith, nat_tests, e, f) in
        let left : map_from s.runs 0 (overwritten s.bytes offset fragment) ≡ map_from s.runs 0 s.bytes =
        ap (map_from s.runs 0) over ∙ map_from-refused s.runs s.bytes offset fragment h.runs many in
        record {
          runs = h.runs;
          few = h.few;
          ends = subst (EndsBy s.runs) (sym same) h.ends;
          bytes = λ k b is. h.bytes k b (subst (λ (m : List (Option ℕ)). slice_get m k ≡ Some (Some b)) left is);
          total = h.total;
        }

    placed_by_fit : (fits : Bool) → nat_le (offset + length fragment) (length s.bytes) ≡ fits →
        HoldsOnly Q (cond fits (record s { bytes = overwritten s.bytes offset fragment; runs = marked runs_kept s.runs offset (length fragment) }) s)
    placed_by_fit true e = marked_by (nat_le (length (added s.runs offset (length fragment))) runs_kept) refl (grind (arith, nat_tests, e))
    placed_by_fit false e = h

    with_fragment_only : HoldsOnly Q (with_fragment runs_kept s fragment offset)
    with_fragment_only = placed_by_fit (nat_le (offset + length fragment) (length s.bytes)) refl

  placed_by : (s : AssemblerValue K) (fragment : List ℕ) (offset : ℕ) (more : Bool) → HoldsOnly Q s →
      ((k b j : ℕ) → offset + j ≡ k → slice_get fragment j ≡ Some b → Q (ByteAt k b)) → (more ≡ false → Q (EndsAt (offset + length fragment)))
      → HoldsOnly Q (placed runs_kept s fragment offset more)
  placed_by s fragment offset true h so last = with_fragment_only s fragment offset h so
  placed_by s fragment offset false h so last =
      let ended = with_total_only s (offset + length fragment) h (last refl) in
      elim (takes_total s (offset + length fragment)) as (λ t. HoldsOnly Q (cond t (with_fragment runs_kept (with_total s (offset + length fragment)) fragment offset) s)) [
        | true ↦ with_fragment_only (with_total s (offset + length fragment)) fragment offset ended so
        | false ↦ h
      ]

  -- a fragment that says what is so
  pub placed_only : (s : AssemblerValue K) (p : FragmentValue) → HoldsOnly Q s → ((fact : Fact) → Says p fact → Q fact) →
      HoldsOnly Q (placed runs_kept s p.bytes p.offset p.more)
  placed_only s p h so =
      placed_by s p.bytes p.offset p.more h (λ k b j at is. so (ByteAt k b) (j, at, is)) (λ none. so (EndsAt (p.offset + length p.bytes)) (none, refl))

  -- WHAT IS COMPLETE

  ended_by : (s : AssemblerValue K) (total : Option ℕ) → s.total ≡ total → ends_at total (front s.runs) ≡ true → s.total ≡ Some (front s.runs)
  ended_by s None is done = absurd cc
  ended_by s (Some n) is done = let same : n ≡ front s.runs = grind (arith, nat_tests, done) in is ∙ ap Some same

  completed_by : (s : AssemblerValue K) (bytes : List ℕ) (whole : Bool) → HoldsOnly Q s → is_complete s ≡ whole →
      cond whole (Some (take (front s.runs) s.bytes)) None ≡ Some bytes → (fact : Fact) → IsOf bytes fact → Q fact
  completed_by s bytes false h is done fact of = absurd cc
  completed_by s bytes true h is done (ByteAt k b) of =
      let given : take (front s.runs) s.bytes ≡ bytes = cc in
      let held : receive.front (map_from s.runs 0 s.bytes) ≡ bytes = front-held s.runs s.bytes h.runs ∙ given in
      h.bytes k b (front_byte (map_from s.runs 0 s.bytes) k b (subst (λ (xs : List ℕ). slice_get xs k ≡ Some b) (sym held) of))
  completed_by s bytes true h is done (EndsAt n) of =
      let given : take (front s.runs) s.bytes ≡ bytes = cc in
      let size : length (take (front s.runs) s.bytes) ≡ front s.runs =
      length-take-le (front s.runs) s.bytes (front-EndsBy s.runs (length s.bytes) h.runs h.ends) in
      let end : front s.runs ≡ n = sym size ∙ ap length given ∙ sym of in
      subst (λ (m : ℕ). Q (EndsAt m)) end (h.total (front s.runs) (ended_by s s.total refl is))

  -- whatever a complete datagram says is so
  pub completed_only : (s : AssemblerValue K) (bytes : List ℕ) → HoldsOnly Q s → completed s ≡ Some bytes → (fact : Fact) → IsOf bytes fact → Q fact
  completed_only s bytes h done = completed_by s bytes (is_complete s) h refl done

-- ALL SLOTS: S says what is so of the datagram with a key

abbrev pub OfKeySo : (FragKey → Fact → Type 0) → FragKey → AssemblerValue FragKey → Type 0
OfKeySo S key s = IsForeignKey key ⊎ HoldsOnly (S key) s

abbrev pub AssemblerSo : (FragKey → Fact → Type 0) → AssemblerValue FragKey → Type 0
AssemblerSo S s = (key : FragKey) → s.key ≡ Some key → OfKeySo S key s

abbrev pub AssemblersSo : (FragKey → Fact → Type 0) → Assemblers → Type 0
AssemblersSo S assemblers = AllByRecursion (AssemblerSo S) assemblers

-- a fragment is of neither TCP nor UDP, or says what is so
abbrev pub FragmentSo : (FragKey → Fact → Type 0) → FragmentValue → Type 0
FragmentSo S p = IsForeignKey p.key ⊎ ((fact : Fact) → Says p fact → S p.key fact)

abbrev pub ContentSo : (FragKey → Fact → Type 0) → Option IncomingValue → Type 0
ContentSo S content = (p : FragmentValue) → part_of content ≡ Some p → FragmentSo S p

abbrev pub Assembler : Type 0
Assembler = AssemblerValue FragKey

module _ (S : FragKey → Fact → Type 0) where
  freed_so : (s : Assembler) → AssemblerSo S (freed s)
  freed_so s key is = absurd cc

  pub expired_so : (assemblers : Assemblers) (instant : ℤ) → AssemblersSo S assemblers → AssemblersSo S (without_expired assemblers instant)
  expired_so assemblers instant all =
      all_map (AssemblerSo S) (unless_expired instant) assemblers
      (λ s is. elim (is_expired instant s) as (λ b. AssemblerSo S (cond b (freed s) s)) [ true ↦ freed_so s | false ↦ is ]) all

  -- A PIECE

  module _ (p : FragmentValue) (expires : ℤ) (from : FragmentSo S p) where
    abbrev Holding : Assembler → Type 0
    Holding s = IsForeignKey p.key ⊎ HoldsOnly (S p.key) s

    opened_so : (s : Assembler) → AssemblerSo S s → Holding (opened is_same_datagram p.key expires s)
    opened_so s is =
        elim (is_of is_same_datagram p.key s) as (λ b. (cond b s (taken p.key expires s)).key ≡ Some p.key →
        Holding (cond b s (taken p.key expires s))) [
          | true ↦ λ key. is p.key key
          | false ↦ λ key. inr (taken_only (S p.key) p.key expires s)
        ] (opened-key is_same_datagram key_test p.key expires s)

    abbrev put : Assembler → Assembler
    put s = placed runs_kept (opened is_same_datagram p.key expires s) p.bytes p.offset p.more

    put_key : (s : Assembler) → (put s).key ≡ Some p.key
    put_key s = placed-key runs_kept (opened is_same_datagram p.key expires s) p.bytes p.offset p.more ∙
        opened-key is_same_datagram key_test p.key expires s

    put_by : (s : Assembler) → FragmentSo S p → Holding (opened is_same_datagram p.key expires s) → Holding (put s)
    put_by s (inl none) holds = inl none
    put_by s (inr so) (inl none) = inl none
    put_by s (inr so) (inr holds) = inr (placed_only (S p.key) (opened is_same_datagram p.key expires s) p holds so)

    put_so : (s : Assembler) → AssemblerSo S s → AssemblerSo S (put s)
    put_so s is key key_is =
        let e : Some p.key ≡ Some key = sym (put_key s) ∙ key_is in
        let same : p.key ≡ key = cc in
        subst (λ (k : FragKey). OfKeySo S k (put s)) same (put_by s from (opened_so s is))

    fragment_keeps : (assemblers : Assemblers) → AssemblersSo S assemblers → AssemblersSo S (changed_at put (assembler_index_for is_same_datagram assemblers p.key) assemblers)
    fragment_keeps assemblers are = changed_keeps (AssemblerSo S) put (assembler_index_for is_same_datagram assemblers p.key) assemblers put_so are

    -- what is complete at the place of the fragment
    abbrev Complete : List ℕ → Type 0
    Complete bytes = IsForeignKey p.key ⊎ ((fact : Fact) → IsOf bytes fact → S p.key fact)

    complete_by : (s : Assembler) (bytes : List ℕ) → Holding s → completed s ≡ Some bytes → Complete bytes
    complete_by s bytes (inl none) done = inl none
    complete_by s bytes (inr holds) done = inr (completed_only (S p.key) s bytes holds done)

    complete_at : (assemblers : Assemblers) (at : ℕ) (o : Option Assembler) (bytes : List ℕ) → AssemblersSo S assemblers → at_index (Some at) (changed_at put (Some at) assemblers) ≡ o →
        completed_in o ≡ Some bytes → Complete bytes
    complete_at assemblers at None bytes are is done = absurd cc
    complete_at assemblers at (Some s) bytes are is done =
        let there = changed_there put at (at_index (Some at) assemblers) assemblers s refl is in
        let key : s.key ≡ Some p.key = ap (λ (t : Assembler). t.key) there.1 ∙ put_key there.0 in
        let now : AssemblersSo S (changed_at put (Some at) assemblers) = changed_keeps (AssemblerSo S) put (Some at) assemblers put_so are in
        complete_by s bytes (all_at (AssemblerSo S) (changed_at put (Some at) assemblers) at s now is p.key key) done

    complete : (assemblers : Assemblers) (slot : Option ℕ) (bytes : List ℕ) → AssemblersSo S assemblers → bytes_at slot (changed_at put slot assemblers) ≡ Some bytes → Complete bytes
    complete assemblers None bytes are done = absurd cc
    complete assemblers (Some at) bytes are done = complete_at assemblers at (at_index (Some at) (changed_at put (Some at) assemblers)) bytes are refl done

  -- A CONTENT

  module _ (i : InnerValue) (timeout : ℕ) (assemblers : Assemblers) (are : AssemblersSo S assemblers) where
    kept_fit : (p : FragmentValue) → FragmentSo S p → (unfit : Bool) →
        AssemblersSo S (cond unfit (without_datagram is_same_datagram assemblers p.key) (with_part i timeout assemblers p))
    kept_fit p from true = changed_keeps (AssemblerSo S) freed (position (is_of is_same_datagram p.key) assemblers) assemblers (λ s so. freed_so s) are
    kept_fit p from false = fragment_keeps p (given_up_at i timeout) from assemblers are

    kept_by : (o : Option FragmentValue) → ((p : FragmentValue) → o ≡ Some p → FragmentSo S p) → AssemblersSo S (with_part_in i timeout assemblers o)
    kept_by None from = are
    kept_by (Some p) from = kept_fit p (from p refl) (is_unfit assemblers p)

    rebuilds_fit : (p : FragmentValue) → FragmentSo S p → (bytes : List ℕ) (unfit : Bool) →
        bytes_at (cond unfit None (assembler_index_for is_same_datagram assemblers p.key))
        (cond unfit (without_datagram is_same_datagram assemblers p.key) (with_part i timeout assemblers p)) ≡ Some bytes → IsForeignKey p.key ⊎
        ((fact : Fact) → IsOf bytes fact → S p.key fact)
    rebuilds_fit p from bytes true done = absurd cc
    rebuilds_fit p from bytes false done = complete p (given_up_at i timeout) from assemblers (assembler_index_for is_same_datagram assemblers p.key) bytes are done

  released_so : (slot : Option ℕ) (assemblers : Assemblers) → AssemblersSo S assemblers → AssemblersSo S (released slot assemblers)
  released_so slot assemblers are =
      elim (is_some (bytes_at slot assemblers)) as (λ b. AssemblersSo S (cond b (changed_at freed slot assemblers) assemblers)) [
        | true ↦ changed_keeps (AssemblerSo S) freed slot assemblers (λ s so. freed_so s) are
        | false ↦ are
      ]

  -- the slots after a content that says what is so
  pub assemblers_so : (i : InnerValue) (timeout : ℕ) (assemblers : Assemblers) (content : Option IncomingValue) → ContentSo S content → AssemblersSo S assemblers →
      AssemblersSo S (assemblers_after i timeout assemblers content)
  assemblers_so i timeout assemblers content from are =
      released_so (slot_in assemblers content) (kept i timeout assemblers content) (kept_by i timeout assemblers are (part_of content) from)

  -- and with room for it before
  pub room_so : (i : InnerValue) (assemblers : Assemblers) (content : Option IncomingValue) → AssemblersSo S assemblers → AssemblersSo S (with_room i assemblers content)
  room_so i assemblers content are =
      roomed (AssemblersSo S) i assemblers (λ at. changed_keeps (AssemblerSo S) freed at assemblers (λ s so. freed_so s) are) are content

  -- whatever is whole once a fragment was taken in says what is so
  pub rebuilds_so : (i : InnerValue) (timeout : ℕ) (assemblers : Assemblers) (content : Option IncomingValue) (p : FragmentValue) (bytes : List ℕ) →
      AssemblersSo S assemblers → ContentSo S content → part_of content ≡ Some p
      → bytes_at (slot_in assemblers content) (kept i timeout assemblers content) ≡ Some bytes → IsForeignKey p.key ⊎
      ((fact : Fact) → IsOf bytes fact → S p.key fact)
  rebuilds_so i timeout assemblers content p bytes are from is done =
      rebuilds_fit i timeout assemblers are p (from p is) bytes (is_unfit assemblers p)
      (subst (λ (o : Option FragmentValue). bytes_at (slot_of assemblers o) (with_part_in i timeout assemblers o) ≡ Some bytes) is done)

-- LESS AND MORE

only_up : (Q R : Fact → Type 0) → ((fact : Fact) → Q fact → R fact) → (s : Assembler) → HoldsOnly Q s → HoldsOnly R s
only_up Q R up s h = record {
  runs = h.runs;
  few = h.few;
  ends = h.ends;
  bytes = λ k b is. up (ByteAt k b) (h.bytes k b is);
  total =
      λ n is. up (EndsAt n) (h.total n is);
}

module _ (S T : FragKey → Fact → Type 0) (up : (key : FragKey) (fact : Fact) → S key fact → T key fact) where
  key_up : (key : FragKey) (s : Assembler) → OfKeySo S key s → OfKeySo T key s
  key_up key s (inl none) = inl none
  key_up key s (inr holds) = inr (only_up (S key) (T key) (up key) s holds)

  pub assemblers_up : (assemblers : Assemblers) → AssemblersSo S assemblers → AssemblersSo T assemblers
  assemblers_up [] all = tt
  assemblers_up (s ∷ assemblers) all = (λ key is. key_up key s (all.0 key is), assemblers_up assemblers all.1)

-- a slot that is free
free_so : (S : FragKey → Fact → Type 0) (s : Assembler) (key : Option FragKey) → s.key ≡ key → is_free s ≡ true → AssemblerSo S s
free_so S s None is free = λ k some. absurd (let e : None ≡ Some k = sym is ∙ some in cc)
free_so S s (Some own) is free = absurd cc

pub free_assemblers_so : (S : FragKey → Fact → Type 0) (assemblers : Assemblers) → AllByRecursion (λ (s : Assembler). is_free s ≡ true) assemblers → AssemblersSo S assemblers
free_assemblers_so S [] free = tt
free_assemblers_so S (s ∷ assemblers) free = (free_so S s s.key refl free.0, free_assemblers_so S assemblers free.1)
