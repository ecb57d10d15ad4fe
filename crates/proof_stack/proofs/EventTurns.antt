-- A quiet poll more, and events are still in time.
use Rattle.std.proofs.Common.{◌≡◌, ◌⊎◌, inl, inr, ℕ, ℤ, pos, ◌+ℤ◌, ◌≤ℤ◌, List, ◌∷◌, ◌++◌, refl, sym, ap, subst, arith}
use Rattle.std.proofs.lemmas.Int.{ints}
use Rattle.lan.specs.declared.at_link.history.event.Side.{Side}
use Rattle.lan.specs.declared.at_link.history.event.Side.TheVariants.{A, B}
use Rattle.lan.specs.Worlds.AtLink.History.{Entry}
use Rattle.lan.specs.Worlds.AtLink.Kinds.{Kind, kind_of}
use Rattle.lan.specs.Worlds.AtLink.Kinds.Act.{Polls}
use Rattle.lan.specs.Worlds.AtLink.Kinds.Kind.{OfHost}
use Rattle.lan.specs.Worlds.AtLink.Runs.{Starts}
use Rattle.lan.specs.Worlds.AtLink.Node.{Nodes, node}
use Rattle.lan.specs.Worlds.Still.{StillRun}
use Rattle.lan.proofs.Worlds.StillOnward.{first}
use Rattle.proof_stack.proofs.EventQuiet.{quiet_rests}
use Rattle.proof_stack.specs.Progress.Events.{clock_in, shown_in, told_by}
use Rattle.proof_stack.specs.Progress.OneClock.{IsCalledInTurn, KeepOneClock}
use Rattle.proof_stack.specs.Progress.Patience.{ArePatient}
use Rattle.proof_stack.specs.Progress.Serving.{AreServed, IsIdle, IsQuietPoll, WaitsForNone, with_rest}

soon_enough : (t since due : ℤ) (n : ℕ) → t ≤ℤ (since +ℤ pos n) → since ≤ℤ due → t ≤ℤ (due +ℤ pos n)
soon_enough t since due n one two = first_of (omega (arith, ints, one, two), grind (arith, ints))

-- the side that was polled is at rest then, and the other was as it was
each_rests : (slots : Side → ℕ) (hosts : Nodes) (rested : Side → ℤ) (t clock : ℤ) → clock ≡ t → (side : Side) → IsIdle t (slots side) (node hosts side) → (s : Side)
    → (with_rest rested side t s ≡ rested s) ⊎ ((with_rest rested side t s ≡ clock) × IsIdle (with_rest rested side t s) (slots s) (node hosts s))
each_rests slots hosts rested t clock told A rest A = inr (sym told, rest)
each_rests slots hosts rested t clock told A rest B = inl refl
each_rests slots hosts rested t clock told B rest A = inl refl
each_rests slots hosts rested t clock told B rest B = inr (sym told, rest)

pub proceeds_in_time : (starts : Starts) (slots : Side → ℕ) (wait : ℕ) (past more : List Entry) (e : Entry) (hosts : Nodes)
    (still : StillRun starts (e ∷ more ++ past) hosts) (rested : Side → ℤ) (side : Side) (t : ℤ) (budget : ℕ) → KeepOneClock starts slots past more
    → AreServed starts slots wait past more still.0 still.1 rested → kind_of e.event ≡ OfHost side (Polls t budget) → clock_in (more ++ past) ≤ℤ t
    → ((s : Side) → t ≤ℤ (rested s +ℤ pos wait)) → IsQuietPoll budget e.answer (node still.0 side) (node hosts side)
    → ArePatient (node still.0 side).slots → WaitsForNone (slots side) (node hosts side)
    → KeepOneClock starts slots past (e ∷ more) × AreServed starts slots wait past (e ∷ more) hosts still (with_rest rested side t)
proceeds_in_time starts slots wait past more e hosts still rested side t budget keep served is up soon quiet patient idle =
    let now : ℤ = clock_in (more ++ past) in
    let told : told_by (kind_of e.event) now ≡ t = ap (λ (k : Kind). told_by k now) is in
    let rest : IsIdle t (slots side) (node hosts side) =
    quiet_rests (first starts side) (more ++ past) still.0 hosts e side t budget (slots side) still.2 is quiet patient (still.3 side) idle in (
      (
        keep,
        subst (λ (m : ℤ). now ≤ℤ m) (sym told) up,
        subst (λ (k : Kind). IsCalledInTurn slots (shown_in starts (more ++ past)) now k) (sym is) tt,
      ),
      (
        rested,
        served,
        λ s due since wants. subst (λ (m : ℤ). m ≤ℤ (due +ℤ pos wait)) (sym told) (soon_enough t (rested s) due wait (soon s) since),
        λ s. each_rests slots hosts rested t (told_by (kind_of e.event) now) told side rest s,
      ),
    )
