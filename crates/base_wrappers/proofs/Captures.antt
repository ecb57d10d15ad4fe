-- What runs of a device in a wrapper leave.
use Rattle.std.proofs.Common.{◌≡◌, ℕ, zero, suc, ◌+◌, ◌-◌, ◌<◌, ◌≤◌, ◌^◌, Bool, true, false, List, [], ◌∷◌, ◌++◌, inl, inr, refl, sym, ap, ◌∙◌, subst, append_assoc, arith, ℤ}
use Rattle.std.proofs.lemmas.List.{append-nil}
use Rattle.std.specs.List.{FoldsTo}
use Rattle.base_device.specs.Device.{Move, Took, Empty, Allowed, Emitted, Denied}
use Rattle.base_wrappers.specs.declared.writer.Direction.{Direction}
use Rattle.base_wrappers.specs.declared.writer.Direction.TheVariants.{Rx, Tx}
use Rattle.base_wrappers.specs.declared.pcap.PcapMode.{PcapMode}
use Rattle.base_wrappers.specs.Trace.{Seen, seen, captured, if_so, Shown, Noted, Kept, Written, Lines, none, kept, lost, more, one_more, instant_after}
use Rattle.base_wrappers.specs.Pcap.{IsRecord, record_of, records_of}

-- what each step keeps, a run keeps
pub folds_on : {W D A : Type 0} (R : W → A → W → Type 0) (M : D → A → D → Type 0) (inner : W → D)
    → ((a : W) (m : A) (b : W) → R a m b → M (inner a) m (inner b))
    → (moves : List A) (old new : W) → FoldsTo R old moves new → FoldsTo M (inner old) moves (inner new)
folds_on R M inner step [] old new same = ap inner same
folds_on R M inner step (m ∷ moves) old new (next, met, rest) =
    (inner next, step old m next met, folds_on R M inner step moves next new rest)

module _ (form : ℤ → Direction → List ℕ → List ℕ → Type 0) where
  -- a run after a call that shows nothing
  silent_first : (all : List Seen) (taken : List ℕ) (count : ℕ) (taken' : List ℕ) (count' : ℕ) (taken'' : List ℕ) (count'' : ℕ)
      → taken' ≡ taken → count' ≡ count → Written form all taken' count' taken'' count'' → Written form all taken count taken'' count''
  silent_first all taken count taken' count' taken'' count'' same unlost (bytes, n, among, is, counted) =
      (bytes, n, among, is ∙ ap (λ xs. xs ++ bytes) same, counted ∙ ap (more n) unlost)

  -- a run after a frame was shown
  kept_first : (s : Seen) (all : List Seen) (taken : List ℕ) (count : ℕ) (taken' : List ℕ) (count' : ℕ) (taken'' : List ℕ) (count'' : ℕ)
      → Kept (form s.instant s.direction s.frame) taken count taken' count' → Written form all taken' count' taken'' count''
      → Written form (s ∷ all) taken count taken'' count''
  kept_first s all taken count taken' count' taken'' count'' (inl ((line, formed, put), same)) (bytes, n, among, is, counted) = (
    line ++ bytes,
    n,
    kept formed among,
    is ∙ ap (λ xs. xs ++ bytes) put ∙ append_assoc taken line bytes,
    counted ∙ ap (more n) same,
  )
  kept_first s all taken count taken' count' taken'' count'' (inr it) (bytes, n, among, is, counted) =
      (bytes, suc n, lost among, is ∙ ap (λ xs. xs ++ bytes) it.0, counted ∙ ap (more n) it.1)

  shown_first : (takes : Bool) (s : Seen) (all : List Seen) (taken : List ℕ) (count : ℕ) (taken' : List ℕ) (count' : ℕ) (taken'' : List ℕ) (count'' : ℕ)
      → Noted takes (form s.instant s.direction s.frame) taken count taken' count' → Written form all taken' count' taken'' count''
      → Written form (if_so takes s all) taken count taken'' count''
  shown_first true s all taken count taken' count' taken'' count'' it rest = kept_first s all taken count taken' count' taken'' count'' it rest
  shown_first false s all taken count taken' count' taken'' count'' it rest = silent_first all taken count taken' count' taken'' count'' it.0 it.1 rest

module _ {V W : Type 0} (R : V → Move → V → Type 0) (taken : V → List ℕ) (count : V → ℕ) (instant : V → ℤ) (writer : V → W)
    (takes : W → Direction → Bool) (form : W → ℤ → Direction → List ℕ → List ℕ → Type 0) where
  -- what a step shows, by a writer that stays
  abbrev pub Step : V → Move → V → Type 0
  Step a m b =
      Shown (takes (writer a)) (form (writer a)) (taken a) (count a) (instant a) m (taken b) (count b)
      × (instant b ≡ instant_after (instant a) m) × (writer b ≡ writer a)

  -- what a run leaves behind it
  abbrev pub Left : V → List Move → V → ℤ → W → Type 0
  Left old moves new t w = Written (form w) (captured (takes w) t moves) (taken old) (count old) (taken new) (count new)

  moved : (old : V) (moves : List Move) (new : V) (t : ℤ) (w : W) → instant old ≡ t → writer old ≡ w
      → Left old moves new (instant old) (writer old) → Left old moves new t w
  moved old moves new t w at wrote it =
      subst (λ (u : ℤ). Left old moves new u w) at (subst (λ (x : W). Left old moves new (instant old) x) wrote it)

  module _ (step : (a : V) (m : Move) (b : V) → R a m b → Step a m b) where
    pub written : (moves : List Move) (old new : V) → FoldsTo R old moves new → Left old moves new (instant old) (writer old)
    written [] old new same = ([], 0, none, ap taken (sym same) ∙ sym (append-nil (taken old)), ap count (sym same))
    written (Took t frame ∷ moves) old new (next, met, rest) =
        let it = step old (Took t frame) next met in
        shown_first (form (writer old)) (takes (writer old) Rx) (seen t Rx frame) (captured (takes (writer old)) t moves) _ _ _ _ _ _ it.0
        (moved next moves new t (writer old) it.1 it.2 (written moves next new rest))
    written (Empty t ∷ moves) old new (next, met, rest) =
        let it = step old (Empty t) next met in
        silent_first (form (writer old)) (captured (takes (writer old)) t moves) _ _ _ _ _ _ it.0.0 it.0.1
        (moved next moves new t (writer old) it.1 it.2 (written moves next new rest))
    written (Allowed t leave ∷ moves) old new (next, met, rest) =
        let it = step old (Allowed t leave) next met in
        silent_first (form (writer old)) (captured (takes (writer old)) t moves) _ _ _ _ _ _ it.0.0 it.0.1
        (moved next moves new t (writer old) it.1 it.2 (written moves next new rest))
    written (Emitted frame ∷ moves) old new (next, met, rest) =
        let it = step old (Emitted frame) next met in
        shown_first (form (writer old)) (takes (writer old) Tx) (seen (instant old) Tx frame) (captured (takes (writer old)) (instant old) moves) _ _ _ _ _ _ it.0
        (moved next moves new (instant old) (writer old) it.1 it.2 (written moves next new rest))
    written (Denied len ∷ moves) old new (next, met, rest) =
        let it = step old (Denied len) next met in
        silent_first (form (writer old)) (captured (takes (writer old)) (instant old) moves) _ _ _ _ _ _ it.0.0 it.0.1
        (moved next moves new (instant old) (writer old) it.1 it.2 (written moves next new rest))

-- nothing is lost where no more is counted
count_grows : (n count : ℕ) → count ≤ 2 ^ 64 - 1 → count ≤ more n count
count_grows zero count fits = omega arith
count_grows (suc n) count fits =
    let one : one_more count ≤ 2 ^ 64 - 1 = grind arith in
    let up : count ≤ one_more count = grind arith in
    let rest = count_grows n (one_more count) one in
    omega arith

none_counted : (n count : ℕ) → count + 1 < 2 ^ 64 → more n count ≡ count → n ≡ 0
none_counted zero count fits same = refl
none_counted (suc n) count fits same =
    let one : one_more count ≡ count + 1 = grind arith in
    let rest = count_grows n (one_more count) (grind arith) in
    absurd (let clash : count + 1 ≤ count = omega arith in omega arith)

all_of : (mode : PcapMode) {all : List Seen} {bytes : List ℕ} {n : ℕ} → Lines (IsRecord mode) all bytes n → n ≡ 0 → bytes ≡ records_of all
all_of mode none is = refl
all_of mode (kept {s} {all} {bytes} {rest} formed among) is =
    ap (λ xs. xs ++ rest) formed ∙ ap (λ xs. record_of s.instant s.frame ++ xs) (all_of mode among is)
all_of mode (lost among) is = absurd (omega arith)

pub all_written : (mode : PcapMode) (all : List Seen) (taken : List ℕ) (count : ℕ) (taken' : List ℕ) (count' : ℕ)
    → count' ≡ count → count + 1 < 2 ^ 64 → Written (IsRecord mode) all taken count taken' count' → taken' ≡ taken ++ records_of all
all_written mode all taken count taken' count' same fits (bytes, n, among, is, counted) =
    is ∙ ap (λ xs. taken ++ xs) (all_of mode among (none_counted n count fits (sym counted ∙ same)))
