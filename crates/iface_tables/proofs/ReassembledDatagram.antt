-- A slot that took in fragments of one payload alone holds bytes of it alone.
use Rattle.std.proofs.Common.{◌≡◌, ℕ, ℤ, suc, zero, ◌+◌, ◌<◌, ◌≤◌, Bool, true, false, cond, List, [], ◌∷◌, ◌++◌, length, take, drop, Option, Some, None, refl}
use Rattle.std.proofs.Common.{sym, ap, subst, ◌∙◌, append_assoc, arith}
use Rattle.std.specs.Prelude.{nat_le}
use Rattle.std.proofs.lemmas.List.{length-take, length-drop, drop-drop, take-append-drop, length-take-le}
use Rattle.std.proofs.lemmas.Bool.Decides.{nat_tests}
use Rattle.base_buffer.specs.Assembler.{AreRuns, added, front}
use Rattle.base_buffer.proofs.Runs.{added-IsUnion}
use Rattle.tcp_theory.specs.ReceiveMap.{AgreesWith, Begins}
use Rattle.tcp_theory.proofs.Lists.{AgreesWith-store, Begins-front, Begins-whole}
use Rattle.tcp_ranges.specs.OutOfOrder.{map_from, overlay, EndsBy}
use Rattle.tcp_ranges.proofs.Storing.{held-added, overlay-spliced, length-overlay, EndsBy-union}
use Rattle.tcp_ranges.proofs.Fronts.{front-held, front-EndsBy}
use Rattle.tcp_ranges.proofs.Refused.{map_from-refused}
use Rattle.iface_tables.specs.Reassembly.{AssemblerValue, taken, placed, overwritten, marked, completed, with_fragment, with_total, takes_total, is_complete}
use Rattle.iface_tables.specs.Reassembly.{ends_at}
use Rattle.iface_tables.specs.FragmentList.{FragmentPart, fragment_at, IsSliceOf, HoldsSlicesOf}

-- PIECES OF A PAYLOAD

pub Begins-take : (n : ℕ) (ys : List ℕ) → Begins (take n ys) ys
Begins-take zero ys = tt
Begins-take (suc n) [] = tt
Begins-take (suc n) (y ∷ ys) = (refl, Begins-take n ys)

pub IsSliceOf-fragment_at : (room : ℕ) (payload : List ℕ) (at : ℕ) → at ≤ length payload → IsSliceOf payload (fragment_at room payload at)
IsSliceOf-fragment_at room payload at within = record {
  slice = Begins-take room (drop at payload);
  last = λ none. rw (length-take, length-drop) (grind (arith, nat_tests));
}

pub fragment_at-then : (room : ℕ) (payload : List ℕ) (at : ℕ) → (fragment_at room payload at).bytes ++ drop (at + room) payload ≡ drop at payload
fragment_at-then room payload at = ap (λ rest. take room (drop at payload) ++ rest) (sym (drop-drop room at payload)) ∙ take-append-drop room (drop at payload)

-- A SLOT

overwritten-overlay : (bytes : List ℕ) (offset : ℕ) (fragment : List ℕ) → offset + length fragment ≤ length bytes →
    overwritten bytes offset fragment ≡ overlay bytes offset fragment
overwritten-overlay bytes offset fragment fits = append_assoc (take offset bytes) fragment (drop (offset + length fragment) bytes) ∙
    sym (overlay-spliced bytes offset fragment fits)

AgreesWith-nothing : (index : ℕ) (bytes ys : List ℕ) → AgreesWith (map_from [] index bytes) ys
AgreesWith-nothing index [] ys = tt
AgreesWith-nothing index (b ∷ bytes) [] = AgreesWith-nothing (suc index) bytes []
AgreesWith-nothing index (b ∷ bytes) (y ∷ ys) = AgreesWith-nothing (suc index) bytes ys

pub unmarked : (holes : ℕ) (runs : List (ℕ × ℕ)) (bytes : List ℕ) (offset : ℕ) (fragment : List ℕ) → AreRuns runs → length runs ≤ holes →
    offset + length fragment ≤ length bytes → holes < length (added runs offset (length fragment)) →
    map_from (marked holes runs offset (length fragment)) 0 (overwritten bytes offset fragment) ≡ map_from runs 0 bytes
unmarked holes runs bytes offset fragment are few fits many =
    let not_marked : marked holes runs offset (length fragment) ≡ runs = grind (arith, nat_tests) in
    rw (not_marked, overwritten-overlay bytes offset fragment fits) (map_from-refused runs bytes offset fragment are (omega arith))

module _ {K : Type 0} (holes : ℕ) (payload : List ℕ) where
  pub HoldsSlicesOf-taken : (key : K) (expires : ℤ) (s : AssemblerValue K) → HoldsSlicesOf holes payload (taken key expires s)
  HoldsSlicesOf-taken key expires s = record {
    runs = tt;
    few = omega arith;
    ends = λ index held. absurd held;
    agrees = AgreesWith-nothing 0 s.bytes payload;
    whole = λ total none. absurd cc;
  }

  with_total-holds : (s : AssemblerValue K) (size : ℕ) → HoldsSlicesOf holes payload s → size ≡ length payload → HoldsSlicesOf holes payload (with_total s size)
  with_total-holds s size h whole = elim (takes_total s size) as (λ b. HoldsSlicesOf holes payload (cond b (record s { total = Some size }) s)) [
    | true ↦ record { runs = h.runs; few = h.few; ends = h.ends; agrees = h.agrees; whole = λ total is. let same : size ≡ total = cc in sym same ∙ whole }
    | false ↦ h
  ]

  module _ (s : AssemblerValue K) (fragment : List ℕ) (offset : ℕ) (h : HoldsSlicesOf holes payload s) (slice : Begins fragment (drop offset payload)) where
    marked-by : (few : Bool) → nat_le (length (added s.runs offset (length fragment))) holes ≡ few → offset + length fragment ≤ length s.bytes →
        HoldsSlicesOf holes payload (record s { bytes = overwritten s.bytes offset fragment; runs = cond few (added s.runs offset (length fragment)) s.runs })
    marked-by true e fits =
        let over = overwritten-overlay s.bytes offset fragment fits in
        let union = added-IsUnion s.runs offset (length fragment) h.runs in
        let same : length (overwritten s.bytes offset fragment) ≡ length s.bytes = ap length over ∙ length-overlay s.bytes offset fragment in
        record {
          runs = union.runs;
          few = grind (arith, nat_tests, e);
          ends = EndsBy-union s.runs offset (length fragment) (length (overwritten s.bytes offset fragment)) (added s.runs offset (length fragment)) union
              (subst (EndsBy s.runs) (sym same) h.ends) (omega (arith, same, fits));
          agrees = subst (λ map. AgreesWith map payload) (held-added s.runs offset s.bytes fragment h.runs ∙
              ap (map_from (added s.runs offset (length fragment)) 0) (sym over))
              (AgreesWith-store (map_from s.runs 0 s.bytes) offset fragment payload h.agrees slice);
          whole = h.whole;
        }
    marked-by false e fits =
        let over = overwritten-overlay s.bytes offset fragment fits in
        let same : length (overwritten s.bytes offset fragment) ≡ length s.bytes = ap length over ∙ length-overlay s.bytes offset fragment in
        let many : length s.runs < length (added s.runs offset (length fragment)) = let f = h.few in grind (arith, nat_tests, e, f) in
        record {
          runs = h.runs;
          few = h.few;
          ends = subst (EndsBy s.runs) (sym same) h.ends;
          agrees = subst (λ map. AgreesWith map payload)
              (sym (ap (map_from s.runs 0) over ∙ map_from-refused s.runs s.bytes offset fragment h.runs many)) h.agrees;
          whole = h.whole;
        }

    placed_by-fit : (fits : Bool) → nat_le (offset + length fragment) (length s.bytes) ≡ fits →
        HoldsSlicesOf holes payload (cond fits (record s { bytes = overwritten s.bytes offset fragment; runs = marked holes s.runs offset (length fragment) }) s)
    placed_by-fit true e = marked-by (nat_le (length (added s.runs offset (length fragment))) holes) refl (grind (arith, nat_tests, e))
    placed_by-fit false e = h

    with_fragment-holds : HoldsSlicesOf holes payload (with_fragment holes s fragment offset)
    with_fragment-holds = placed_by-fit (nat_le (offset + length fragment) (length s.bytes)) refl

  placed-by : (s : AssemblerValue K) (fragment : List ℕ) (offset : ℕ) (more : Bool) → HoldsSlicesOf holes payload s → Begins fragment (drop offset payload) →
      (more ≡ false → offset + length fragment ≡ length payload) → HoldsSlicesOf holes payload (placed holes s fragment offset more)
  placed-by s fragment offset true h slice last = with_fragment-holds s fragment offset h slice
  placed-by s fragment offset false h slice last =
      let ended = with_total-holds s (offset + length fragment) h (last refl) in
      elim (takes_total s (offset + length fragment)) as
      (λ t. HoldsSlicesOf holes payload (cond t (with_fragment holes (with_total s (offset + length fragment)) fragment offset) s)) [
        | true ↦ with_fragment-holds (with_total s (offset + length fragment)) fragment offset ended slice
        | false ↦ h
      ]

  pub HoldsSlicesOf-placed : (s : AssemblerValue K) (p : FragmentPart) → HoldsSlicesOf holes payload s → IsSliceOf payload p →
      HoldsSlicesOf holes payload (placed holes s p.bytes p.offset p.more)
  HoldsSlicesOf-placed s p h slice = placed-by s p.bytes p.offset p.more h slice.slice slice.last

  -- a complete slot's run from 0 is as long as the payload
  front-by : (s : AssemblerValue K) (total : Option ℕ) → HoldsSlicesOf holes payload s → s.total ≡ total → ends_at total (front s.runs) ≡ true →
      front s.runs ≡ length payload
  front-by s None h is done = absurd cc
  front-by s (Some n) h is done =
      let whole = h.whole n is in
      let same : n ≡ front s.runs = grind (arith, nat_tests, done) in
      sym same ∙ whole

  completed-by : (s : AssemblerValue K) (bytes : List ℕ) (whole : Bool) → HoldsSlicesOf holes payload s → is_complete s ≡ whole →
      cond whole (Some (take (front s.runs) s.bytes)) None ≡ Some bytes → bytes ≡ payload
  completed-by s bytes false h is done = absurd cc
  completed-by s bytes true h is done =
      let xs = take (front s.runs) s.bytes in
      let given : xs ≡ bytes = cc in
      let long = front-by s s.total h refl is in
      let size : length xs ≡ front s.runs = length-take-le (front s.runs) s.bytes (front-EndsBy s.runs (length s.bytes) h.runs h.ends) in
      let begins : Begins xs payload =
      subst (λ ys. Begins ys payload) (front-held s.runs s.bytes h.runs) (Begins-front (map_from s.runs 0 s.bytes) payload h.agrees) in
      sym given ∙ Begins-whole xs payload begins (omega (arith, size, long))

  pub completed-payload : (s : AssemblerValue K) (bytes : List ℕ) → HoldsSlicesOf holes payload s → completed s ≡ Some bytes → bytes ≡ payload
  completed-payload s bytes h done = completed-by s bytes (is_complete s) h refl done
