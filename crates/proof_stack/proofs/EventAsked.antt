-- Where both hosts are served in time, the sockets of their moves are asked in time.
use Rattle.std.proofs.Common.{◌≡◌, ◌⊎◌, inl, inr, ℕ, ℤ, pos, ◌+ℤ◌, ◌≤ℤ◌, ◌<ℤ◌, int_le, int_lt, Bool, true, false, List, [], ◌∷◌, ◌++◌, Option, Some, None}
use Rattle.std.proofs.Common.{refl, sym, ap, ◌∙◌, subst, arith, append_assoc}
use Rattle.std.specs.Prelude.{slice_index_or}
use Rattle.std.proofs.lemmas.Int.{ints}
use Rattle.socket_context.specs.Offers.{IsBefore}
use Rattle.socket_context.specs.declared.poll_at.PollAt.{PollAt}
use Rattle.socket_context.specs.declared.poll_at.PollAt.TheVariants as When
use Rattle.tcp_block.specs.Due.{poll_of}
use Rattle.lan.specs.declared.at_link.history.event.Side.{Side}
use Rattle.lan.specs.Worlds.AtLink.Happening.{Happening}
use Rattle.lan.specs.Worlds.AtLink.History.{Entry}
use Rattle.lan.specs.Worlds.AtLink.Moves.{Step, after, run}
use Rattle.lan.specs.Worlds.AtLink.Paired.{Seat}
use Rattle.lan.specs.Worlds.AtLink.Parties.{Net, Socket, party, socket_at}
use Rattle.lan.specs.Worlds.AtLink.Parties.Socket.{Tcp, Udp, Icmp, Raw}
use Rattle.lan.specs.Worlds.AtLink.Runs.{Starts}
use Rattle.lan.specs.Worlds.AtLink.Node.{Nodes, node}
use Rattle.lan.specs.Worlds.Moves.Follows.{IsNetOf, sockets_of}
use Rattle.lan.specs.Worlds.Still.{StillRun, seats_of}
use Rattle.lan.proofs.Worlds.AtLink.Extended.{run-append}
use Rattle.lan.proofs.Worlds.StillOnward.{seen_in_run}
use Rattle.proof_stack.proofs.EventMoves.{untimed_append}
use Rattle.proof_stack.specs.Progress.Events.{MoveBy, all_at, clock_in, untimed}
use Rattle.proof_stack.specs.Progress.Moving.{AreAsked, AsksIn, IsAskedIn, IsTcp, WantsIn}
use Rattle.proof_stack.specs.Progress.OneClock.{KeepOneClock, timed}
use Rattle.proof_stack.specs.Progress.Serving.{AreServed, IsIdle, WantsAt}

no_earlier : (t : ℤ) → t ≤ℤ t
no_earlier t = omega (arith, ints)

in_turn : (a b c : ℤ) → a ≤ℤ b → b ≤ℤ c → a ≤ℤ c
in_turn a b c one two = omega (arith, ints, one, two)

pub and_more : (a b : ℤ) (n : ℕ) → a ≤ℤ b → a ≤ℤ (b +ℤ pos n)
and_more a b n e = first_of (omega (arith, ints), grind (arith, ints))

-- one instant is no later than another, or it is
either_way : (a b : ℤ) → (a ≤ℤ b) ⊎ (b ≤ℤ a)
either_way a b = by (int_le a b) refl where
  by : (test : Bool) → int_le a b ≡ test → (a ≤ℤ b) ⊎ (b ≤ℤ a)
  by true is = inl (first_of (omega (arith, ints), grind (arith, ints)))
  by false is = inr (first_of (omega (arith, ints), grind (arith, ints)))

-- WANTING

decided : (instant : ℤ) (at : PollAt) → IsBefore instant at ⊎ (IsBefore instant at → ⊥)
decided instant When.Now = inr (λ never. never)
decided instant When.Ingress = inl tt
decided instant (When.Time due) = by (int_lt instant due) refl where
  by : (test : Bool) → int_lt instant due ≡ test → (instant <ℤ due) ⊎ (instant <ℤ due → ⊥)
  by true is = inl (first_of (omega (arith, ints), grind (arith, ints)))
  by false is = inr (λ before. first_of (omega (arith, ints), grind (arith, ints)))

before_still : (due t : ℤ) (at : PollAt) → due ≤ℤ t → IsBefore t at → IsBefore due at
before_still due t When.Now before is = is
before_still due t When.Ingress before is = tt
before_still due t (When.Time m) before is = first_of (omega (arith, ints), grind (arith, ints))

module _ (mtu : ℕ) where
  abbrev Wanting : ℤ → Option Socket → Type 0
  Wanting due o = IsTcp o (λ v. IsBefore due (poll_of mtu v) → ⊥)

  wants_or_not : (due : ℤ) (o : Option Socket) → Wanting due o ⊎ (Wanting due o → ⊥)
  wants_or_not due None = inr (λ never. never)
  wants_or_not due (Some (Udp v)) = inr (λ never. never)
  wants_or_not due (Some Icmp) = inr (λ never. never)
  wants_or_not due (Some Raw) = inr (λ never. never)
  wants_or_not due (Some (Tcp v)) = by (decided due (poll_of mtu v)) where
    by : IsBefore due (poll_of mtu v) ⊎ (IsBefore due (poll_of mtu v) → ⊥) → Wanting due (Some (Tcp v)) ⊎ (Wanting due (Some (Tcp v)) → ⊥)
    by (inl before) = inr (λ wants. wants before)
    by (inr not) = inl not

  wants_later : (due t : ℤ) (o : Option Socket) → due ≤ℤ t → Wanting due o → Wanting t o
  wants_later due t None before wants = wants
  wants_later due t (Some (Udp v)) before wants = wants
  wants_later due t (Some Icmp) before wants = wants
  wants_later due t (Some Raw) before wants = wants
  wants_later due t (Some (Tcp v)) before wants = λ is. wants (before_still due t (poll_of mtu v) before is)

-- ASKED, without numbers

module _ (seats : Side → Seat) where
  abbrev pub AskedIn : ℤ → ℤ → Side → Net → List (ℤ × Step) → Type 0
  AskedIn due last side net [] = Unit {0}
  AskedIn due last side net (x ∷ more) =
      (x.0 ≤ℤ last)
      × (AsksIn seats side x.1 ⊎ ((WantsIn seats due (after net x.1) side → ⊥) ⊎ AskedIn due last side (after net x.1) more))

  -- whichever wants to be asked from an instant on is asked in time
  abbrev pub From : ℕ → ℤ → Net → List (ℤ × Step) → Type 0
  From wait now net xs = (side : Side) (due : ℤ) → now ≤ℤ due → WantsIn seats due net side → AskedIn due (due +ℤ pos wait) side net xs

  abbrev pub Asked : ℕ → ℤ → Net → List (ℤ × Step) → Type 0
  Asked wait now net [] = Unit {0}
  Asked wait now net (x ∷ more) = From wait now net (x ∷ more) × Asked wait x.0 (after net x.1) more

  in_numbered : (due last : ℤ) (side : Side) (net : Net) (moves : List (ℤ × Happening)) → AskedIn due last side net (timed moves) →
      IsAskedIn seats due last side net moves
  in_numbered due last side net [] asked = tt
  in_numbered due last side net (x ∷ more) (soon, inl asks) = (soon, inl asks)
  in_numbered due last side net (x ∷ more) (soon, inr (inl never)) = (soon, inr (inl never))
  in_numbered due last side net (x ∷ more) (soon, inr (inr on)) = (soon, inr (inr (in_numbered due last side (after net x.1.step) more on)))

  pub numbered_so : (wait : ℕ) (now : ℤ) (net : Net) (moves : List (ℤ × Happening)) → Asked wait now net (timed moves) → AreAsked seats wait now net moves
  numbered_so wait now net [] asked = tt
  numbered_so wait now net (x ∷ more) asked = (
    λ side due later wants. in_numbered due (due +ℤ pos wait) side net (x ∷ more) (asked.0 side due later wants),
    numbered_so wait x.0 (after net x.1.step) more asked.1,
  )

  -- from another instant on
  from_instant : (wait : ℕ) (now t : ℤ) (net : Net) (xs : List (ℤ × Step)) → From wait now net xs → Asked wait t net xs → Asked wait now net xs
  from_instant wait now t net [] first asked = tt
  from_instant wait now t net (x ∷ xs) first asked = (first, asked.1)

  -- ONE EVENT: all its moves are made at this instant

  module _ (wait : ℕ) (t : ℤ) (rest : List (ℤ × Step)) where
    -- who wants to be asked after the event, and wants it before, is asked in what follows
    pub asked_through : (due last : ℤ) (side : Side) (net : Net) (steps : List Step) → t ≤ℤ last → WantsIn seats due net side →
        (WantsIn seats due (run net steps) side → AskedIn due last side (run net steps) rest) → AskedIn due last side net (all_at t steps ++ rest)
    asked_through due last side net [] soon wants onward = onward wants
    asked_through due last side net (step ∷ steps) soon wants onward = (
      soon,
      inr (by (λ still. asked_through due last side (after net step) steps soon still onward)
          (wants_or_not (seats side).host.ip_mtu due (socket_at (party (after net step) side) (seats side).slot))),
    )
      where
        by : (WantsIn seats due (after net step) side → AskedIn due last side (after net step) (all_at t steps ++ rest))
            → WantsIn seats due (after net step) side ⊎ (WantsIn seats due (after net step) side → ⊥)
            → (WantsIn seats due (after net step) side → ⊥) ⊎ AskedIn due last side (after net step) (all_at t steps ++ rest)
        by goes (inl wants) = inr (goes wants)
        by goes (inr not) = inl not

    pub all_asked : (now : ℤ) (net : Net) (steps : List Step) → From wait now net (all_at t steps ++ rest)
        → ((side : Side) (due : ℤ) → t ≤ℤ due → WantsIn seats due (run net steps) side → AskedIn due (due +ℤ pos wait) side (run net steps) rest)
        → Asked wait t (run net steps) rest → Asked wait now net (all_at t steps ++ rest)
    all_asked now net [] first following asked = from_instant wait now t net rest first asked
    all_asked now net (step ∷ steps) first following asked = (
      first,
      all_asked t (after net step) steps
          (λ side due later wants.
          asked_through due (due +ℤ pos wait) side (after net step) steps (and_more t due wait later) wants (following side due later)) following asked,
    )

-- ALL EVENTS

module _ (starts : Starts) (slots : Side → ℕ) (wait : ℕ) (net : Net) (past : List Entry) where
  abbrev seats : Side → Seat
  seats = seats_of starts slots

  pub net_at : (more : List Entry) (hosts : Nodes) (still : StillRun starts (more ++ past) hosts) (moves : List (ℤ × Step)) →
      MoveBy starts net past more hosts still moves → IsNetOf (run net (untimed moves)) hosts (more ++ past)
  net_at [] hosts still moves by = subst (λ (xs : List (ℤ × Step)). IsNetOf (run net (untimed xs)) hosts past) (sym by.0) by.1
  net_at (e ∷ more) hosts still moves (before, these, is, by, happens) =
      let t : ℤ = clock_in (e ∷ more ++ past) in
      let ends : run (run net (untimed before)) these ≡ run net (untimed moves) =
      sym (run-append net (untimed before) these) ∙ ap (run net) (sym (untimed_append before t these))
      ∙ ap (λ (xs : List (ℤ × Step)). run net (untimed xs)) (sym is) in
      subst (λ (n : Net). IsNetOf n hosts (e ∷ more ++ past)) ends happens.of

  -- a socket of a net is one of its hosts
  module _ (history : List Entry) (hosts : Nodes) (still : StillRun starts history hosts) (n : Net) (of : IsNetOf n hosts history) (side : Side) where
    abbrev Wants : ℤ → ℕ → List (Option Socket) → Type 0
    Wants due mtu sockets = Wanting mtu due (slice_index_or sockets (slots side) None)

    pub to_host : (due : ℤ) → WantsIn seats due n side → WantsAt due (slots side) (node hosts side)
    to_host due wants =
        subst (λ (mtu : ℕ). Wants due mtu (sockets_of (node hosts side).slots)) (sym (seen_in_run starts history hosts still side).mtu)
        (subst (λ (sockets : List (Option Socket)). Wants due (seats side).host.ip_mtu sockets) (of.sockets side) wants)

  -- a side's socket was at rest then, or at the instant of this event
  abbrev Rests : Side → ℤ → Nodes → ℤ → ℤ → Type 0
  Rests side t hosts before rested = (rested ≡ before) ⊎ ((rested ≡ t) × IsIdle rested (slots side) (node hosts side))

  -- no later than the one clock shows
  low : (more : List Entry) (hosts : Nodes) (still : StillRun starts (more ++ past) hosts) (served : Side → ℤ) → AreServed starts slots wait past more hosts still served
      → KeepOneClock starts slots past more → (side : Side) → served side ≤ℤ clock_in (more ++ past)
  low [] hosts still served are keep side = are side
  low (e ∷ more) hosts still served (before, so_far, soon, each) keep side = by (low more still.0 still.1 before so_far keep.0 side) (each side) where
    by : before side ≤ℤ clock_in (more ++ past) → Rests side (clock_in (e ∷ more ++ past)) hosts (before side) (served side)
        → served side ≤ℤ clock_in (e ∷ more ++ past)
    by up (inl same) =
        subst (λ (m : ℤ). m ≤ℤ clock_in (e ∷ more ++ past)) (sym same)
        (in_turn (before side) (clock_in (more ++ past)) (clock_in (e ∷ more ++ past)) up keep.1)
    by up (inr rests) = subst (λ (m : ℤ). m ≤ℤ clock_in (e ∷ more ++ past)) (sym rests.0) (no_earlier (clock_in (e ∷ more ++ past)))

  -- what is asked of the moves that follow, where these were served last
  abbrev Onward : Net → (Side → ℤ) → List (ℤ × Step) → Type 0
  Onward n served rest = (side : Side) (due : ℤ) → served side ≤ℤ due → WantsIn seats due n side → AskedIn seats due (due +ℤ pos wait) side n rest

  then_asked : (history : List Entry) (hosts : Nodes) (still : StillRun starts history hosts) (t : ℤ) (n : Net) (of : IsNetOf n hosts history)
      (served showed : Side → ℤ) (rest : List (ℤ × Step)) → Onward n served rest → (side : Side) (due : ℤ)
      → Rests side t hosts (showed side) (served side) → showed side ≤ℤ due → WantsIn seats due n side
      → AskedIn seats due (due +ℤ pos wait) side n rest
  then_asked history hosts still t n of served showed rest onward side due (inl same) since wants =
      onward side due (subst (λ (m : ℤ). m ≤ℤ due) (sym same) since) wants
  then_asked history hosts still t n of served showed rest onward side due (inr rests) since wants = by (either_way due (served side)) where
    by : (due ≤ℤ served side) ⊎ (served side ≤ℤ due) → AskedIn seats due (due +ℤ pos wait) side n rest
    by (inl early) = absurd (rests.1
        (to_host history hosts still n of side (served side)
        (wants_later (seats side).host.ip_mtu due (served side) (socket_at (party n side) (slots side)) early wants)))
    by (inr later) = onward side due later wants

  all : (more : List Entry) (hosts : Nodes) (still : StillRun starts (more ++ past) hosts) (moves rest : List (ℤ × Step)) (served : Side → ℤ)
      → MoveBy starts net past more hosts still moves → KeepOneClock starts slots past more → AreServed starts slots wait past more hosts still served
      → Onward (run net (untimed moves)) served rest → Asked seats wait (clock_in (more ++ past)) (run net (untimed moves)) rest
      → Asked seats wait (clock_in past) net (moves ++ rest)
  all [] hosts still moves rest served by keep are onward asked =
      subst (λ (xs : List (ℤ × Step)). Asked seats wait (clock_in past) net (xs ++ rest)) (sym by.0)
      (subst (λ (xs : List (ℤ × Step)). Asked seats wait (clock_in past) (run net (untimed xs)) rest) by.0 asked)
  all (e ∷ more) hosts still moves rest served (before, these, is, by, happens) keep (showed, so_far, soon, each) onward asked =
      let now : ℤ = clock_in (more ++ past) in
      let t : ℤ = clock_in (e ∷ more ++ past) in
      let mid : Net = run net (untimed before) in
      let ends : run net (untimed moves) ≡ run mid these =
      ap (λ (xs : List (ℤ × Step)). run net (untimed xs)) is ∙ ap (run net) (untimed_append before t these) ∙ run-append net (untimed before) these in
      let of = net_at more still.0 still.1 before by in
      let following : (side : Side) (due : ℤ) → showed side ≤ℤ due → WantsIn seats due (run mid these) side →
      AskedIn seats due (due +ℤ pos wait) side (run mid these) rest =
      λ side due since wants.
      subst (λ (n : Net). AskedIn seats due (due +ℤ pos wait) side n rest) ends
      (then_asked (e ∷ more ++ past) hosts still t (run net (untimed moves))
      (net_at (e ∷ more) hosts still moves (before, these, is, by, happens)) served showed rest onward side due (each side) since
      (subst (λ (n : Net). WantsIn seats due n side) (sym ends) wants)) in
      let first : (side : Side) (due : ℤ) → showed side ≤ℤ due → WantsIn seats due mid side →
      AskedIn seats due (due +ℤ pos wait) side mid (all_at t these ++ rest) =
      λ side due since wants.
      asked_through seats wait t rest due (due +ℤ pos wait) side mid these
      (soon side due since (to_host (more ++ past) still.0 still.1 mid of side due wants)) wants (following side due since) in
      let up = low more still.0 still.1 showed so_far keep.0 in
      subst (Asked seats wait (clock_in past) net) (sym (ap (λ (xs : List (ℤ × Step)). xs ++ rest) is ∙ append_assoc before (all_at t these) rest))
      (all more still.0 still.1 before (all_at t these ++ rest) showed by keep.0 so_far first
      (all_asked seats wait t rest now mid these (λ side due later. first side due (in_turn (showed side) now due (up side) later))
      (λ side due later. following side due (in_turn (showed side) t due (in_turn (showed side) now t (up side) keep.1) later))
      (subst (λ (n : Net). Asked seats wait t n rest) ends asked)))

pub append_none : (xs : List (ℤ × Step)) → xs ++ [] ≡ xs
append_none [] = refl
append_none (x ∷ xs) = ap (λ (ys : List (ℤ × Step)). x ∷ ys) (append_none xs)

pub are_asked : (starts : Starts) (net : Net) (past more : List Entry) (hosts : Nodes) (still : StillRun starts (more ++ past) hosts) (slots : Side → ℕ)
    (moves : List (ℤ × Happening)) (wait : ℕ) (served : Side → ℤ) → MoveBy starts net past more hosts still (timed moves) → KeepOneClock starts slots past more
    → AreServed starts slots wait past more hosts still served → AreAsked (seats_of starts slots) wait (clock_in past) net moves
are_asked starts net past more hosts still slots moves wait served by keep are =
    numbered_so (seats_of starts slots) wait (clock_in past) net moves
    (subst (Asked (seats_of starts slots) wait (clock_in past) net) (append_none (timed moves))
    (all starts slots wait net past more hosts still (timed moves) [] served by keep are (λ side due since wants. tt) tt))
