-- Where frames are taken in time, the segments in them are brought in time.
use Rattle.std.proofs.Common.{◌≡◌, ◌⊎◌, inl, inr, ℕ, ◌<◌, ◌≤◌, ℤ, pos, ◌+ℤ◌, ◌≤ℤ◌, List, [], ◌∷◌, ◌++◌, length, Some, refl, sym, ap, ◌∙◌, subst, arith, append_assoc}
use Rattle.std.specs.Prelude.{slice_get}
use Rattle.std.specs.List.{AllByRecursion}
use Rattle.std.proofs.lemmas.Int.{ints}
use Rattle.tcp_refinement.specs.Host.{Made}
use Rattle.lan.specs.declared.at_link.history.event.Side.{Side}
use Rattle.lan.specs.Worlds.AtLink.History.{Entry}
use Rattle.lan.specs.Worlds.AtLink.Kinds.{Kind, kind_of, other}
use Rattle.lan.specs.Worlds.AtLink.Moves.{Step, after, run}
use Rattle.lan.specs.Worlds.AtLink.Parties.{Net}
use Rattle.lan.specs.Worlds.AtLink.Runs.{Starts}
use Rattle.lan.specs.Worlds.AtLink.Node.{Nodes}
use Rattle.lan.specs.Worlds.Still.{StillRun}
use Rattle.lan.proofs.Worlds.AtLink.Extended.{run-append}
use Rattle.lan.proofs.Worlds.AtLink.Paired.Wires.{all_get}
use Rattle.proof_stack.proofs.EventMoves.{untimed_append}
use Rattle.proof_stack.specs.Progress.FramesInTransit.{AreCarried, IsOnItsWay, SendsIn, TakesIn}
use Rattle.proof_stack.specs.Progress.Events.{MoveBy, all_at, clock_in, untimed}

in_turn : (a b c : ℤ) → a ≤ℤ b → b ≤ℤ c → a ≤ℤ c
in_turn a b c one two = omega (arith, ints, one, two)

and_more : (a : ℤ) (n : ℕ) → a ≤ℤ (a +ℤ pos n)
and_more a n = first_of (omega (arith, ints), grind (arith, ints))

no_earlier : (t : ℤ) → t ≤ℤ t
no_earlier t = omega (arith, ints)

-- this frame is among these
abbrev pub IsAmong : List (List ℕ) → List ℕ → Type 0
IsAmong frames frame = (n : ℕ) × (slice_get frames n ≡ Some frame)

-- A step may bring a segment of a side to the other, and a frame may be one of a segment of a side; and these are the segments of a side so far.
module _ (Brings : Side → Made → Step → Type 0) (IsFrameOf : Side → Made → List ℕ → Type 0) (sent : Net → Side → List Made) where
  abbrev pub BroughtIn : ℤ → Side → Made → List (ℤ × Step) → Type 0
  BroughtIn last side x [] = Unit {0}
  BroughtIn last side x (y ∷ more) = (y.0 ≤ℤ last) × (Brings side x y.1 ⊎ BroughtIn last side x more)

  abbrev pub BringsAmong : Side → Made → List Step → Type 0
  BringsAmong side x [] = ⊥
  BringsAmong side x (step ∷ steps) = Brings side x step ⊎ BringsAmong side x steps

  -- a number of a segment that is new after a step
  abbrev pub IsNew : Net → Step → Side → ℕ → Type 0
  IsNew net step side k = (length (sent net side) ≤ k) × (k < length (sent (after net step) side))

  -- each segment that is new is brought within this time
  abbrev pub AreBrought : ℕ → Net → List (ℤ × Step) → Type 0
  AreBrought delay net [] = Unit {0}
  AreBrought delay net (y ∷ more) =
      ((side : Side) (k : ℕ) → IsNew net y.1 side k
      → (x : Made) × (slice_get (sent (after net y.1) side) k ≡ Some x) × BroughtIn (y.0 +ℤ pos delay) side x more)
      × AreBrought delay (after net y.1) more

  -- each that is new went in one of these frames
  abbrev pub WentIn : (Side → List ℕ → Type 0) → Net → List Step → Type 0
  WentIn Goes net [] = Unit {0}
  WentIn Goes net (step ∷ steps) =
      ((side : Side) (k : ℕ) → IsNew net step side k
      → (x : Made) × (frame : List ℕ) × (slice_get (sent (after net step) side) k ≡ Some x) × IsFrameOf side x frame × Goes side frame)
      × WentIn Goes (after net step) steps

  -- what is asked of one event: a frame that is taken brings its segment; and a segment that is new goes in a frame
  pub record IsFact (k : Kind) (old new : Nodes) (net : Net) (steps : List Step) : Type 0 where
    pub takes : (side : Side) (x : Made) (frame : List ℕ) → IsFrameOf side x frame → TakesIn k old (other side) frame → BringsAmong side x steps
    pub goes : WentIn (λ side frame. (frames : List (List ℕ)) × SendsIn k old new side frames × IsAmong frames frame) net steps

  -- ONE EVENT

  read_through : (t last : ℤ) (side : Side) (x : Made) (steps : List Step) (rest : List (ℤ × Step)) → t ≤ℤ last → BroughtIn last side x rest →
      BroughtIn last side x (all_at t steps ++ rest)
  read_through t last side x [] rest soon on = on
  read_through t last side x (step ∷ steps) rest soon on = (soon, inr (read_through t last side x steps rest soon on))

  brought_now : (t last : ℤ) (side : Side) (x : Made) (steps : List Step) (rest : List (ℤ × Step)) → t ≤ℤ last → BringsAmong side x steps →
      BroughtIn last side x (all_at t steps ++ rest)
  brought_now t last side x [] rest soon brings = absurd brings
  brought_now t last side x (step ∷ steps) rest soon (inl brings) = (soon, inl brings)
  brought_now t last side x (step ∷ steps) rest soon (inr brings) = (soon, inr (brought_now t last side x steps rest soon brings))

  -- what follows brings the segments of the frames on their way in time
  abbrev Onward : (Side → List (ℤ × List ℕ)) → List (ℤ × Step) → Type 0
  Onward on_way rest = (side : Side) (x : Made) (frame : List ℕ) (due : ℤ) → IsFrameOf side x frame → IsOnItsWay (on_way side) due frame → (m : ℤ) →
      due ≤ℤ m → BroughtIn m side x rest

  all_brought : (delay : ℕ) (t : ℤ) (on_way : Side → List (ℤ × List ℕ)) (Goes : Side → List ℕ → Type 0) (net : Net) (steps : List Step)
      (rest : List (ℤ × Step)) → ((side : Side) (frame : List ℕ) → Goes side frame → IsOnItsWay (on_way side) (t +ℤ pos delay) frame)
      → WentIn Goes net steps → Onward on_way rest → AreBrought delay (run net steps) rest → AreBrought delay net (all_at t steps ++ rest)
  all_brought delay t on_way Goes net [] rest then_on went onward are = are
  all_brought delay t on_way Goes net (step ∷ steps) rest then_on went onward are = (
    λ side k new. (
        let (x, frame, is, of, goes) = went.0 side k new in (
          x,
          is,
          read_through t (t +ℤ pos delay) side x steps rest (and_more t delay)
              (onward side x frame (t +ℤ pos delay) of (then_on side frame goes) (t +ℤ pos delay) (no_earlier (t +ℤ pos delay))),
        )),
    all_brought delay t on_way Goes (after net step) steps rest then_on went.1 onward are,
  )

  -- one of the frames on their way
  still_or_taken : (P : ℤ × List ℕ → Type 0) (before : List (ℤ × List ℕ)) (due : ℤ) (frame : List ℕ) → AllByRecursion P before →
      IsOnItsWay before due frame → P (due, frame)
  still_or_taken P [] due frame all among = absurd among
  still_or_taken P (y ∷ before) due frame all (inl is) = subst P is all.0
  still_or_taken P (y ∷ before) due frame all (inr among) = still_or_taken P before due frame all.1 among

  -- ALL EVENTS

  module _ (starts : Starts) (net : Net) (past : List Entry) where
    -- so it is of each
    abbrev pub AreFacts : (more : List Entry) (hosts : Nodes) (still : StillRun starts (more ++ past) hosts) (moves : List (ℤ × Step)) →
        MoveBy starts net past more hosts still moves → Type 0
    AreFacts [] hosts still moves by = Unit {0}
    AreFacts (e ∷ more) hosts still moves by =
        AreFacts more still.0 still.1 by.0 by.3 × IsFact (kind_of e.event) still.0 hosts (run net (untimed by.0)) by.1

    all : (delay : ℕ) (more : List Entry) (hosts : Nodes) (still : StillRun starts (more ++ past) hosts) (moves rest : List (ℤ × Step)) (on_way : Side → List (ℤ × List ℕ))
        (by : MoveBy starts net past more hosts still moves) → AreFacts more hosts still moves by → AreCarried starts delay past more hosts still on_way
        → Onward on_way rest → AreBrought delay (run net (untimed moves)) rest → AreBrought delay net (moves ++ rest)
    all delay [] hosts still moves rest on_way by facts carried onward are =
        subst (λ (xs : List (ℤ × Step)). AreBrought delay net (xs ++ rest)) (sym by.0)
        (subst (λ (xs : List (ℤ × Step)). AreBrought delay (run net (untimed xs)) rest) by.0 are)
    all delay (e ∷ more) hosts still moves rest on_way by facts carried onward are =
        let before : List (ℤ × Step) = by.0 in
        let these : List Step = by.1 in
        let t : ℤ = clock_in (e ∷ more ++ past) in
        let mid : Net = run net (untimed before) in
        let ends : run net (untimed moves) ≡ run mid these =
        ap (λ (xs : List (ℤ × Step)). run net (untimed xs)) by.2 ∙ ap (run net) (untimed_append before t these) ∙ run-append net (untimed before) these in
        let then_on : Onward carried.0 (all_at t these ++ rest) =
        λ side x frame due of among m lasts.
        (let each = still_or_taken (λ y. (t ≤ℤ y.0) × (IsOnItsWay (on_way side) y.0 y.1 ⊎ TakesIn (kind_of e.event) still.0 (other side) y.1)) (carried.0 side) due
        frame (carried.2 side) among in proceeds side x frame due m (in_turn t due m each.0 lasts) lasts of each.1) in
        let now : AreBrought delay mid (all_at t these ++ rest) =
        all_brought delay t on_way (λ side frame. (frames : List (List ℕ)) × SendsIn (kind_of e.event) still.0 hosts side frames × IsAmong frames frame) mid these
        rest
        (λ side frame goes. all_get (λ f. IsOnItsWay (on_way side) (t +ℤ pos delay) f) goes.0 goes.2.0 frame (carried.3 side goes.0 goes.1) goes.2.1)
        facts.1.goes onward (subst (λ (n : Net). AreBrought delay n rest) ends are) in
        subst (AreBrought delay net) (sym (ap (λ (xs : List (ℤ × Step)). xs ++ rest) by.2 ∙ append_assoc before (all_at t these) rest))
        (all delay more still.0 still.1 before (all_at t these ++ rest) carried.0 by.3 facts.0 carried.1 then_on now)
      where
        proceeds : (side : Side) (x : Made) (frame : List ℕ) (due m : ℤ) → clock_in (e ∷ more ++ past) ≤ℤ m → due ≤ℤ m → IsFrameOf side x frame
            → IsOnItsWay (on_way side) due frame ⊎ TakesIn (kind_of e.event) still.0 (other side) frame
            → BroughtIn m side x (all_at (clock_in (e ∷ more ++ past)) by.1 ++ rest)
        proceeds side x frame due m soon lasts of (inl still_on) =
            read_through (clock_in (e ∷ more ++ past)) m side x by.1 rest soon (onward side x frame due of still_on m lasts)
        proceeds side x frame due m soon lasts of (inr taken) =
            brought_now (clock_in (e ∷ more ++ past)) m side x by.1 rest soon (facts.1.takes side x frame of taken)

    append_none : (xs : List (ℤ × Step)) → xs ++ [] ≡ xs
    append_none [] = refl
    append_none (x ∷ xs) = ap (λ (ys : List (ℤ × Step)). x ∷ ys) (append_none xs)

    pub all_are : (delay : ℕ) (more : List Entry) (hosts : Nodes) (still : StillRun starts (more ++ past) hosts) (moves : List (ℤ × Step)) (on_way : Side → List (ℤ × List ℕ))
        (by : MoveBy starts net past more hosts still moves) → AreFacts more hosts still moves by → AreCarried starts delay past more hosts still on_way
        → AreBrought delay net moves
    all_are delay more hosts still moves on_way by facts carried =
        subst (AreBrought delay net) (append_none moves)
        (all delay more hosts still moves [] on_way by facts carried (λ side x frame due of among m lasts. tt) tt)
