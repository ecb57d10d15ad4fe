-- What runs of a device that harms frames leave of them.
use Rattle.std.proofs.Common.{◌≡◌, ℕ, zero, suc, Bool, true, false, List, [], ◌∷◌, ◌++◌, inl, inr, refl, sym, ap, ◌∙◌, subst, ◌⊎◌, Option, None, Some, IsTrue, length, ℤ}
use Rattle.std.specs.List.{FoldsTo}
use Rattle.base_device.specs.Device.{Move, Took, Empty, Allowed, Emitted, Denied}
use Rattle.base_wrappers.specs.Course.{CourseValue, hits}
use Rattle.base_wrappers.specs.Drop.{DropRules, DropState, DropperValue, Drops, NoneComes, OneComes, enough, empty, lost as past, here, behind, is_lost_out}
use Rattle.base_wrappers.specs.Drop.{Goes as Dropped}
use Rattle.base_wrappers.specs.Corrupt.{CorrupterValue, Corrupts, Comes, Goes, changed, flipped}
use Rattle.base_wrappers.specs.Fault.{FaultValue}
use Rattle.base_wrappers.specs.Duplicate.{DuplicatorValue, Duplicates, Gives, Waits, without}
use Rattle.base_wrappers.specs.Harm.{frames_in, frames_out, IsNear, Among, no_frame, kept, lost, EachNear, no_frames, next, Repeated, nothing, again, once, twice, Harmed, HarmedOut}

module _ {D : Type 0} (M : D → Move → D → Type 0) where
  -- The device within gave these frames but for some that are lost, and took those of these that aren't lost.
  pub record Loses (d : D) (ins outs : List (List ℕ)) (e : D) : Type 0 where
    pub below : List Move
    pub ran : FoldsTo M d below e
    pub came : Among (frames_in below) ins
    pub went : Among outs (frames_out below)

  none_first : {rules : DropRules} {t : ℤ} {n : ℕ} {d e f : D} {c c' : CourseValue} {ins outs : List (List ℕ)}
      → NoneComes M rules t n d c e c' → Loses e ins outs f → Loses d ins outs f
  none_first enough run = run
  none_first {t = t} (empty met) run = record { below = Empty t ∷ run.below; ran = (_, met, run.ran); came = run.came; went = run.went }
  none_first {t = t} (past {frame = frame} met hit rest) run =
      let it = none_first rest run in
      record { below = Took t frame ∷ it.below; ran = (_, met, it.ran); came = lost it.came; went = it.went }

  one_first : {rules : DropRules} {t : ℤ} {whole : List ℕ} {n : ℕ} {d e f : D} {c c' : CourseValue} {ins outs : List (List ℕ)}
      → OneComes M rules t whole n d c e c' → Loses e ins outs f → Loses d (whole ∷ ins) outs f
  one_first {t = t} {whole = whole} (here met stays) run =
      record { below = Took t whole ∷ run.below; ran = (_, met, run.ran); came = kept run.came; went = run.went }
  one_first {t = t} (behind {frame = frame} met hit rest) run =
      let it = one_first rest run in
      record { below = Took t frame ∷ it.below; ran = (_, met, it.ran); came = lost it.came; went = it.went }

  same_first : {d e f : D} {ins outs : List (List ℕ)} → e ≡ d → Loses e ins outs f → Loses d ins outs f
  same_first {f = f} {ins = ins} {outs = outs} same run = subst (λ (x : D). Loses x ins outs f) same run

  gone_first : (frame : List ℕ) {d f : D} {ins outs : List (List ℕ)} → Loses d ins outs f → Loses d ins (frame ∷ outs) f
  gone_first frame run = record { below = run.below; ran = run.ran; came = run.came; went = lost run.went }

  goes_first : (gone : Bool) (d : D) (frame : List ℕ) {e f : D} {ins outs : List (List ℕ)}
      → Dropped M gone d frame e → Loses e ins outs f → Loses d ins (frame ∷ outs) f
  goes_first true d frame same run = gone_first frame (same_first same run)
  goes_first false d frame met run =
      record { below = Emitted frame ∷ run.below; ran = (_, met, run.ran); came = run.came; went = kept run.went }

  empties_first : {X Y Z : Type 0} {rules : DropRules} {t : ℤ} {d e f : D} {c : CourseValue} {W : CourseValue → Type 0} {ins outs : List (List ℕ)}
      → ((X × (e ≡ d) × Y) ⊎ (Z × ((c' : CourseValue) × NoneComes M rules t 8 d c e c' × W c'))) → Loses e ins outs f → Loses d ins outs f
  empties_first (inl it) run = same_first it.1 run
  empties_first (inr it) run = none_first it.1.1 run

  pub loses : (moves : List Move) (old new : DropperValue D) → FoldsTo (Drops M) old moves new
      → Loses old.inner (frames_in moves) (frames_out moves) new.inner
  loses [] old new same = record { below = []; ran = ap (λ (w : DropperValue D). w.inner) same; came = no_frame; went = no_frame }
  loses (Took t frame ∷ moves) old new (between, met, rest) =
      let comes : OneComes M old.state.rules t frame 8 old.inner old.state.course between.inner met.1.0 = met.1.1 in
      one_first comes (loses moves between new rest)
  loses (Empty t ∷ moves) old new (between, met, rest) = empties_first met.0 (loses moves between new rest)
  loses (Allowed t leave ∷ moves) old new (between, met, rest) =
      let it = loses moves between new rest in
      record { below = Allowed t leave ∷ it.below; ran = (_, met.0, it.ran); came = it.came; went = it.went }
  loses (Emitted frame ∷ moves) old new (between, met, rest) =
      goes_first (is_lost_out old.room (length frame) old.state) old.inner frame met.0 (loses moves between new rest)
  loses (Denied len ∷ moves) old new (between, met, rest) =
      let it = loses moves between new rest in
      record { below = Denied len ∷ it.below; ran = (_, met.0, it.ran); came = it.came; went = it.went }

  -- The device within gave these frames and took those, each but for one bit.
  pub record ChangesTo (d : D) (ins outs : List (List ℕ)) (e : D) : Type 0 where
    pub below : List Move
    pub ran : FoldsTo M d below e
    pub came : EachNear (frames_in below) ins
    pub went : EachNear outs (frames_out below)

  near_of : (drawn : Bool) (c c' : CourseValue) (given frame : List ℕ) → Comes drawn c given frame c' → IsNear given frame
  unfolding Comes
  near_of true c c' given frame (inl it) = inr (_, _, it.0)
  near_of true c c' given frame (inr it) = inl it.0
  near_of false c c' given frame it = inl it.0

  out_first : (drawn : Bool) (c c' : CourseValue) (d : D) (frame : List ℕ) {e f : D} {ins outs : List (List ℕ)}
      → Goes M drawn c d frame e c' → ChangesTo e ins outs f → ChangesTo d ins (frame ∷ outs) f
  out_first true c c' d frame met run =
      record { below = Emitted (changed c frame) ∷ run.below; ran = (_, met.0, run.ran); came = run.came; went = next (inr (_, _, refl)) run.went }
  out_first false c c' d frame met run =
      record { below = Emitted frame ∷ run.below; ran = (_, met.0, run.ran); came = run.came; went = next (inl refl) run.went }

  pub changes : (moves : List Move) (old new : CorrupterValue D) → FoldsTo (Corrupts M) old moves new
      → ChangesTo old.inner (frames_in moves) (frames_out moves) new.inner
  changes [] old new same = record { below = []; ran = ap (λ (w : CorrupterValue D). w.inner) same; came = no_frames; went = no_frames }
  changes (Took t frame ∷ moves) old new (between, met, rest) =
      let it = changes moves between new rest in
      record {
        below = Took t met.0.0 ∷ it.below;
        ran = (_, met.0.1, it.ran);
        came = next (near_of (hits old.chance old.course) old.course between.course met.0.0 frame met.0.2) it.came;
        went = it.went;
      }
  changes (Empty t ∷ moves) old new (between, met, rest) =
      let it = changes moves between new rest in
      record { below = Empty t ∷ it.below; ran = (_, met.0, it.ran); came = it.came; went = it.went }
  changes (Allowed t leave ∷ moves) old new (between, met, rest) =
      let it = changes moves between new rest in
      record { below = Allowed t leave ∷ it.below; ran = (_, met.0, it.ran); came = it.came; went = it.went }
  changes (Emitted frame ∷ moves) old new (between, met, rest) =
      out_first (hits old.chance old.course) old.course between.course old.inner frame met.0 (changes moves between new rest)
  changes (Denied len ∷ moves) old new (between, met, rest) =
      let it = changes moves between new rest in
      record { below = Denied len ∷ it.below; ran = (_, met.0, it.ran); came = it.came; went = it.went }

  -- The device within gave these frames, some of which came twice, and took those.
  pub record RepeatsTo (waiting : Option (List ℕ)) (d : D) (ins outs : List (List ℕ)) (e : D) : Type 0 where
    pub below : List Move
    pub ran : FoldsTo M d below e
    pub came : Repeated waiting (frames_in below) ins
    pub went : frames_out below ≡ outs

  waits_so : {w w' : Option (List ℕ)} {all came : List (List ℕ)} → w ≡ w' → Repeated w all came → Repeated w' all came
  waits_so {all = all} {came = came} same it = subst (λ (x : Option (List ℕ)). Repeated x all came) same it

  came_once : (drawn : Bool) (c c' : CourseValue) (frame : List ℕ) {waiting : Option (List ℕ)} {all came : List (List ℕ)}
      → Waits drawn c frame c' waiting → Repeated waiting all came → Repeated None (frame ∷ all) (frame ∷ came)
  came_once true c c' frame (inl it) rest = twice (waits_so it.0 rest)
  came_once true c c' frame (inr it) rest = once (waits_so it.0 rest)
  came_once false c c' frame it rest = once (waits_so it.0 rest)

  given_first : (waiting : Option (List ℕ)) (t : ℤ) (frame : List ℕ) (old between : DuplicatorValue D) {f : D} {ins outs : List (List ℕ)}
      → Gives M waiting t frame old between → RepeatsTo between.waiting between.inner ins outs f → RepeatsTo waiting old.inner (frame ∷ ins) outs f
  given_first (Some waits) t frame old between {ins = ins} met run = record {
    below = Allowed t true ∷ run.below;
    ran = (_, met.0, run.ran);
    came = subst (λ (x : List ℕ). Repeated (Some waits) (frames_in run.below) (x ∷ ins)) (sym met.1) (again (waits_so met.2 run.came));
    went = run.went;
  }
  given_first None t frame old between met run = record {
    below = Took t frame ∷ run.below;
    ran = (_, met.0, run.ran);
    came = came_once (hits old.chance old.course) old.course between.course frame met.1 run.came;
    went = run.went;
  }

  without_first : (waiting : Option (List ℕ)) (t : ℤ) (d : D) {e f : D} {w : Option (List ℕ)} {ins outs : List (List ℕ)}
      → M d (without waiting t) e → RepeatsTo w e ins outs f → RepeatsTo w d ins outs f
  without_first (Some waits) t d met run = record { below = Allowed t false ∷ run.below; ran = (_, met, run.ran); came = run.came; went = run.went }
  without_first None t d met run = record { below = Empty t ∷ run.below; ran = (_, met, run.ran); came = run.came; went = run.went }

  still : {w w' : Option (List ℕ)} {d f : D} {ins outs : List (List ℕ)} → w ≡ w' → RepeatsTo w d ins outs f → RepeatsTo w' d ins outs f
  still {d = d} {f = f} {ins = ins} {outs = outs} same run = subst (λ (x : Option (List ℕ)). RepeatsTo x d ins outs f) same run

  pub repeats : (moves : List Move) (old new : DuplicatorValue D) → FoldsTo (Duplicates M) old moves new
      → RepeatsTo old.waiting old.inner (frames_in moves) (frames_out moves) new.inner
  repeats [] old new same = record { below = []; ran = ap (λ (w : DuplicatorValue D). w.inner) same; came = nothing; went = refl }
  repeats (Took t frame ∷ moves) old new (between, met, rest) = given_first old.waiting t frame old between met.0 (repeats moves between new rest)
  repeats (Empty t ∷ moves) old new (between, met, rest) =
      without_first old.waiting t old.inner met.0 (still met.1 (repeats moves between new rest))
  repeats (Allowed t leave ∷ moves) old new (between, met, rest) =
      let it = still met.1 (repeats moves between new rest) in
      record { below = Allowed t leave ∷ it.below; ran = (_, met.0, it.ran); came = it.came; went = it.went }
  repeats (Emitted frame ∷ moves) old new (between, met, rest) =
      let it = still met.1 (repeats moves between new rest) in
      record { below = Emitted frame ∷ it.below; ran = (_, met.0, it.ran); came = it.came; went = ap (λ xs. frame ∷ xs) it.went }
  repeats (Denied len ∷ moves) old new (between, met, rest) =
      let it = still met.1 (repeats moves between new rest) in
      record { below = Denied len ∷ it.below; ran = (_, met.0, it.ran); came = it.came; went = it.went }

-- the three devices one in the other
pub bounded : {D : Type 0} (M : D → Move → D → Type 0) (moves : List Move) (old new : FaultValue D)
    → FoldsTo (Duplicates (Corrupts (Drops M))) old moves new
    → (below : List Move) × FoldsTo M old.inner.inner.inner below new.inner.inner.inner
    × Harmed old.waiting (frames_in below) (frames_in moves) × HarmedOut (frames_out moves) (frames_out below)
bounded M moves old new run =
    let r = repeats (Corrupts (Drops M)) moves old new run in
    let c = changes (Drops M) r.below old.inner new.inner r.ran in
    let l = loses M c.below old.inner.inner new.inner.inner c.ran in (
      l.below,
      l.ran,
      (frames_in c.below, frames_in r.below, l.came, c.came, r.came),
      (frames_out c.below, subst (λ (x : List (List ℕ)). EachNear x (frames_out c.below)) r.went c.went, l.went),
    )
