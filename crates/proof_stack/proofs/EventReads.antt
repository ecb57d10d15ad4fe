-- Where users read often, the moves of events read in time.
use Rattle.std.proofs.Common.{◌≡◌, ◌⊎◌, inl, inr, ℕ, ◌≤◌, ℤ, pos, ◌+ℤ◌, ◌≤ℤ◌, List, [], ◌∷◌, ◌++◌, refl, sym, ap, ◌∙◌, subst, arith, append_assoc}
use Rattle.std.proofs.lemmas.Int.{ints}
use Rattle.lan.specs.declared.at_link.history.event.Side.{Side}
use Rattle.lan.specs.Worlds.AtLink.Call.{SocketCall}
use Rattle.lan.specs.Worlds.AtLink.Call as Call
use Rattle.lan.specs.Worlds.AtLink.Happening.{Happening}
use Rattle.lan.specs.Worlds.AtLink.History.{Entry}
use Rattle.lan.specs.Worlds.AtLink.Kinds.{Kind, kind_of}
use Rattle.lan.specs.Worlds.AtLink.Kinds.Act.{Asks, Calls, Opens, Polls, Sets}
use Rattle.lan.specs.Worlds.AtLink.Kinds.Kind.{OfHost, OfLink}
use Rattle.lan.specs.Worlds.AtLink.Moves.{Move, Step, after}
use Rattle.lan.specs.Worlds.AtLink.Moves.Move.{Invokes, Passes, Offers, Gives, Takes, Receives, Resets, Changes}
use Rattle.lan.specs.Worlds.AtLink.Paired.{Seat}
use Rattle.lan.specs.Worlds.AtLink.Parties.{Net}
use Rattle.lan.specs.Worlds.AtLink.Runs.{Starts}
use Rattle.lan.specs.Worlds.AtLink.Node.{Nodes}
use Rattle.lan.specs.Worlds.Still.{StillRun}
use Rattle.proof_stack.specs.Progress.Events.{AreOfEvent, IsOfCall, MoveBy, all_at, clock_in, shown_in}
use Rattle.proof_stack.specs.Progress.Moving.{IsReadAt, IsReadIn, IsReadInTime}
use Rattle.proof_stack.specs.Progress.OneClock.{KeepOneClock, timed}
use Rattle.proof_stack.specs.Progress.Serving.{UserReads, IsReadOften}

no_earlier : (t : ℤ) → t ≤ℤ t
no_earlier t = omega (arith, ints)

in_turn : (a b c : ℤ) → a ≤ℤ b → b ≤ℤ c → a ≤ℤ c
in_turn a b c one two = omega (arith, ints, one, two)

and_more : (a b : ℤ) (n : ℕ) → a ≤ℤ b → a ≤ℤ (b +ℤ pos n)
and_more a b n e = first_of (omega (arith, ints), grind (arith, ints))

both_more : (a b : ℤ) (n : ℕ) → a ≤ℤ b → (a +ℤ pos n) ≤ℤ (b +ℤ pos n)
both_more a b n e = first_of (omega (arith, ints), grind (arith, ints))

-- THE MOVE OF A CALL THAT READS

called_read : (e : Entry) (slot at : ℕ) (limit : ℕ) (shown : ℤ) (move : Move) → IsOfCall e at (Call.Recv limit) shown move → at ≡ slot → 1 ≤ limit →
    IsReadAt slot move
called_read e slot at limit shown (Invokes here cx old entry this new) is same some =
    subst (λ (c : SocketCall). IsReadAt slot (Invokes here cx old entry c new)) (sym is.1) (is.0 ∙ same, some)
called_read e slot at limit shown (Passes entry) is same some = absurd is
called_read e slot at limit shown (Offers here cx v from sent) is same some = absurd is
called_read e slot at limit shown (Gives here cx v answer new sent) is same some = absurd is
called_read e slot at limit shown (Takes here cx v ip header bytes) is same some = absurd is
called_read e slot at limit shown (Receives here cx v ip udp bytes) is same some = absurd is
called_read e slot at limit shown (Resets x) is same some = absurd is
called_read e slot at limit shown (Changes here old new) is same some = absurd is

module _ (seats : Side → Seat) (side : Side) where
  abbrev Reads : Step → Type 0
  Reads step = (step.side ≡ side) × IsReadAt (seats side).slot step.move

  abbrev ReadIn : ℤ → List (ℤ × Step) → Type 0
  ReadIn last [] = Unit {0}
  ReadIn last (x ∷ more) = (x.0 ≤ℤ last) × (Reads x.1 ⊎ ReadIn last more)

  -- from each move on, whether its buffer is full or not
  abbrev ReadInTime : ℕ → ℤ → List (ℤ × Step) → Type 0
  ReadInTime read now [] = Unit {0}
  ReadInTime read now (x ∷ more) = ReadIn (now +ℤ pos read) (x ∷ more) × ReadInTime read x.0 more

  in_numbered : (last : ℤ) (moves : List (ℤ × Happening)) → ReadIn last (timed moves) → IsReadIn seats last side moves
  in_numbered last [] read = tt
  in_numbered last (x ∷ more) (soon, inl reads) = (soon, inl reads)
  in_numbered last (x ∷ more) (soon, inr on) = (soon, inr (in_numbered last more on))

  numbered_so : (read : ℕ) (now : ℤ) (net : Net) (moves : List (ℤ × Happening)) → ReadInTime read now (timed moves) → IsReadInTime seats read now net side moves
  numbered_so read now net [] are = tt
  numbered_so read now net (x ∷ more) are =
      (λ full. in_numbered (now +ℤ pos read) (x ∷ more) are.0, numbered_so read x.0 (after net x.1.step) more are.1)

  from_instant : (read : ℕ) (now t : ℤ) (xs : List (ℤ × Step)) → ReadIn (now +ℤ pos read) xs → ReadInTime read t xs → ReadInTime read now xs
  from_instant read now t [] first are = tt
  from_instant read now t (x ∷ xs) first are = (first, are.1)

  -- ONE EVENT

  read_through : (t last : ℤ) (steps : List Step) (rest : List (ℤ × Step)) → t ≤ℤ last → ReadIn last rest → ReadIn last (all_at t steps ++ rest)
  read_through t last [] rest soon on = on
  read_through t last (step ∷ steps) rest soon on = (soon, inr (read_through t last steps rest soon on))

  all_read : (read : ℕ) (now t : ℤ) (steps : List Step) (rest : List (ℤ × Step)) → ReadIn (now +ℤ pos read) (all_at t steps ++ rest) → ReadIn (t +ℤ pos read) rest
      → ReadInTime read t rest → ReadInTime read now (all_at t steps ++ rest)
  all_read read now t [] rest first following are = from_instant read now t rest first are
  all_read read now t (step ∷ steps) rest first following are =
      (first, all_read read t t steps rest (read_through t (t +ℤ pos read) steps rest (and_more t t read (no_earlier t)) following) following are)

  one_read : (t last : ℤ) (by : Side) (move : Move) (steps : List Step) (rest : List (ℤ × Step)) → steps ≡ record { side = by; move = move } ∷ [] → by ≡ side
      → IsReadAt (seats side).slot move → t ≤ℤ last → ReadIn last (all_at t steps ++ rest)
  one_read t last by move steps rest is same reads soon =
      subst (λ (ss : List Step). ReadIn last (all_at t ss ++ rest)) (sym is) (soon, inl (same, reads))

  kind_read : (e : Entry) (k : Kind) (shown : Side → ℤ) (t last : ℤ) (steps : List Step) (rest : List (ℤ × Step)) → AreOfEvent e k shown steps →
      UserReads (seats side).slot side k → t ≤ℤ last → ReadIn last (all_at t steps ++ rest)
  kind_read e (OfHost host (Calls at (Call.Recv limit))) shown t last steps rest (move, is, its) by soon =
      one_read t last host move steps rest is by.0 (called_read e (seats side).slot at limit (shown host) move its by.1 by.2) soon
  kind_read e (OfHost host (Calls at (Call.Listen port))) shown t last steps rest are by soon = absurd by
  kind_read e (OfHost host (Calls at (Call.Connect remote port))) shown t last steps rest are by soon = absurd by
  kind_read e (OfHost host (Calls at (Call.Send bytes))) shown t last steps rest are by soon = absurd by
  kind_read e (OfHost host (Calls at Call.Close)) shown t last steps rest are by soon = absurd by
  kind_read e (OfHost host (Calls at Call.Abort)) shown t last steps rest are by soon = absurd by
  kind_read e (OfHost host (Calls at Call.State)) shown t last steps rest are by soon = absurd by
  kind_read e (OfHost host (Calls at (Call.Set setting))) shown t last steps rest are by soon = absurd by
  kind_read e (OfHost host (Calls at (Call.Bind port))) shown t last steps rest are by soon = absurd by
  kind_read e (OfHost host (Calls at (Call.Ident ident))) shown t last steps rest are by soon = absurd by
  kind_read e (OfHost host (Calls at (Call.SendTo remote bytes))) shown t last steps rest are by soon = absurd by
  kind_read e (OfHost host (Calls at (Call.SendIcmp remote bytes))) shown t last steps rest are by soon = absurd by
  kind_read e (OfHost host (Calls at (Call.SendRaw bytes))) shown t last steps rest are by soon = absurd by
  kind_read e (OfHost host (Calls at (Call.RecvFrom limit))) shown t last steps rest are by soon = absurd by
  kind_read e (OfHost host (Sets setting)) shown t last steps rest are by soon = absurd by
  kind_read e (OfHost host (Opens n)) shown t last steps rest are by soon = absurd by
  kind_read e (OfHost host (Asks instant)) shown t last steps rest are by soon = absurd by
  kind_read e (OfHost host (Polls instant budget)) shown t last steps rest are by soon = absurd by
  kind_read e (OfLink act) shown t last steps rest are by soon = absurd by

  -- ALL EVENTS

  module _ (starts : Starts) (read : ℕ) (net : Net) (past : List Entry) where
    abbrev slots : Side → ℕ
    slots s = (seats s).slot

    low : (more : List Entry) (last : ℤ) → IsReadOften (seats side).slot read side past more last → KeepOneClock starts slots past more → last ≤ℤ clock_in (more ++ past)
    low [] last are keep = are
    low (e ∷ more) last (before, so_far, soon, how) keep = by (low more before so_far keep.0) how where
      by : before ≤ℤ clock_in (more ++ past)
          → (last ≡ before) ⊎ (UserReads (seats side).slot side (kind_of e.event) × (last ≡ clock_in (e ∷ more ++ past))) → last ≤ℤ clock_in (e ∷ more ++ past)
      by up (inl same) =
          subst (λ (m : ℤ). m ≤ℤ clock_in (e ∷ more ++ past)) (sym same) (in_turn before (clock_in (more ++ past)) (clock_in (e ∷ more ++ past)) up keep.1)
      by up (inr reads) = subst (λ (m : ℤ). m ≤ℤ clock_in (e ∷ more ++ past)) (sym reads.1) (no_earlier (clock_in (e ∷ more ++ past)))

    -- what follows reads in time, where this was the last time
    abbrev Onward : ℤ → List (ℤ × Step) → Type 0
    Onward last rest = (m : ℤ) → (last +ℤ pos read) ≤ℤ m → ReadIn m rest

    all : (more : List Entry) (hosts : Nodes) (still : StillRun starts (more ++ past) hosts) (moves rest : List (ℤ × Step)) (last : ℤ)
        → MoveBy starts net past more hosts still moves → KeepOneClock starts slots past more → IsReadOften (seats side).slot read side past more last
        → Onward last rest → ReadInTime read (clock_in (more ++ past)) rest → ReadInTime read (clock_in past) (moves ++ rest)
    all [] hosts still moves rest last by keep are onward in_time =
        subst (λ (xs : List (ℤ × Step)). ReadInTime read (clock_in past) (xs ++ rest)) (sym by.0) in_time
    all (e ∷ more) hosts still moves rest last (before, these, is, by, happens) keep (showed, so_far, soon, how) onward in_time =
        let now : ℤ = clock_in (more ++ past) in
        let t : ℤ = clock_in (e ∷ more ++ past) in
        let first : (m : ℤ) → (showed +ℤ pos read) ≤ℤ m → ReadIn m (all_at t these ++ rest) = λ m lasts. then_read m (in_turn t (showed +ℤ pos read) m soon lasts) lasts how in
        let up = low more showed so_far keep.0 in
        let last_up = low (e ∷ more) last (showed, so_far, soon, how) keep in
        subst (ReadInTime read (clock_in past)) (sym (ap (λ (xs : List (ℤ × Step)). xs ++ rest) is ∙ append_assoc before (all_at t these) rest))
        (all more still.0 still.1 before (all_at t these ++ rest) showed by keep.0 so_far first
        (all_read read now t these rest (first (now +ℤ pos read) (both_more showed now read up)) (onward (t +ℤ pos read) (both_more last t read last_up)) in_time))
      where
        then_read : (m : ℤ) → clock_in (e ∷ more ++ past) ≤ℤ m → (showed +ℤ pos read) ≤ℤ m
            → (last ≡ showed) ⊎ (UserReads (seats side).slot side (kind_of e.event) × (last ≡ clock_in (e ∷ more ++ past)))
            → ReadIn m (all_at (clock_in (e ∷ more ++ past)) these ++ rest)
        then_read m soon_enough lasts (inl same) =
            read_through (clock_in (e ∷ more ++ past)) m these rest soon_enough
            (onward m (subst (λ (l : ℤ). (l +ℤ pos read) ≤ℤ m) (sym same) lasts))
        then_read m soon_enough lasts (inr reads) =
            kind_read e (kind_of e.event) (shown_in starts (more ++ past)) (clock_in (e ∷ more ++ past)) m these rest happens.are reads.0 soon_enough

append_none : (xs : List (ℤ × Step)) → xs ++ [] ≡ xs
append_none [] = refl
append_none (x ∷ xs) = ap (λ (ys : List (ℤ × Step)). x ∷ ys) (append_none xs)

pub are_read : (starts : Starts) (net : Net) (past more : List Entry) (hosts : Nodes) (still : StillRun starts (more ++ past) hosts) (seats : Side → Seat)
    (moves : List (ℤ × Happening)) (side : Side) (read : ℕ) (last : ℤ) → MoveBy starts net past more hosts still (timed moves)
    → KeepOneClock starts (λ s. (seats s).slot) past more → IsReadOften (seats side).slot read side past more last
    → IsReadInTime seats read (clock_in past) net side moves
are_read starts net past more hosts still seats moves side read last by keep are =
    numbered_so seats side read (clock_in past) net moves
    (subst (ReadInTime seats side read (clock_in past)) (append_none (timed moves))
    (all seats side starts read net past more hosts still (timed moves) [] last by keep are (λ m lasts. tt) tt))
