-- The moves of events that keep one clock are at instants of it.
use Rattle.std.proofs.Common.{◌≡◌, inr, ℕ, ℤ, ◌≤ℤ◌, List, [], ◌∷◌, ◌++◌, refl, sym, ap, ◌∙◌, subst, arith, append_assoc}
use Rattle.std.specs.Prelude.{pos}
use Rattle.std.specs.List.{AllByRecursion}
use Rattle.std.proofs.lemmas.Int.{ints}
use Rattle.net_base.specs.Time.{IsMoment}
use Rattle.lan.specs.declared.at_link.history.event.Side.{Side}
use Rattle.lan.specs.Worlds.AtLink.Call.{SocketCall}
use Rattle.lan.specs.Worlds.AtLink.Happening.{Happening}
use Rattle.lan.specs.Worlds.AtLink.History.{Entry}
use Rattle.lan.specs.Worlds.AtLink.Kinds.{Kind, kind_of}
use Rattle.lan.specs.Worlds.AtLink.Kinds.Act.{Asks, Calls, Opens, Polls, Sets}
use Rattle.lan.specs.Worlds.AtLink.Kinds.Kind.{OfHost, OfLink}
use Rattle.lan.specs.Worlds.AtLink.Moves.{Move, Step}
use Rattle.lan.specs.Worlds.AtLink.Moves.Move.{Invokes, Passes, Offers, Gives, Takes, Receives, Resets, Changes}
use Rattle.lan.specs.Worlds.AtLink.Paired.{Seat, clocks_after}
use Rattle.lan.specs.Worlds.AtLink.Parties.{Net}
use Rattle.lan.specs.Worlds.AtLink.Runs.{Starts}
use Rattle.lan.specs.Worlds.AtLink.Node.{NodeValue, Nodes, node}
use Rattle.lan.specs.Worlds.AtLink.Steps.{Happens}
use Rattle.lan.specs.Worlds.Still.{StillRun}
use Rattle.lan.proofs.Worlds.Hosts.Polling.{polled as poll_settings}
use Rattle.proof_stack.specs.Progress.Events.{AreOfEvent, IsOfCall, IsOfPoll, MoveBy, all_at, clock_in, shown_in, told_by}
use Rattle.proof_stack.specs.Progress.Moving.{AreAtInstants, IsAtInstant}
use Rattle.proof_stack.specs.Progress.OneClock.{IsCalledInTurn, KeepOneClock, timed}

no_earlier : (t : ℤ) → t ≤ℤ t
no_earlier t = omega (arith, ints)

in_turn : (a b c : ℤ) → a ≤ℤ b → b ≤ℤ c → a ≤ℤ c
in_turn a b c one two = omega (arith, ints, one, two)

-- THE ONE CLOCK SHOWS A MOMENT

at_first : IsMoment (pos 0)
at_first = (omega (arith, ints), omega (arith, ints))

told_instant : (old new : Nodes) (e : Entry) (k : Kind) (before : ℤ) → Happens old k e.answer e.found new → ((s : Side) → IsMoment (node new s).host.inner.instant) →
    IsMoment before → IsMoment (told_by k before)
told_instant old new e (OfHost side (Calls i call)) before acts all was = was
told_instant old new e (OfHost side (Sets setting)) before acts all was = was
told_instant old new e (OfHost side (Opens n)) before acts all was = was
told_instant old new e (OfHost side (Asks t)) before acts all was =
    subst IsMoment (ap (λ (x : NodeValue). x.host.inner.instant) acts.acts.2) (all side)
told_instant old new e (OfHost side (Polls t budget)) before acts all was =
    subst IsMoment (poll_settings (node old side) (node new side) t budget acts.acts.0 acts.acts.1).now (all side)
told_instant old new e (OfLink act) before acts all was = was

pub clock_instant : (starts : Starts) (history : List Entry) (hosts : Nodes) → StillRun starts history hosts → IsMoment (clock_in history)
clock_instant starts [] hosts still = at_first
clock_instant starts (e ∷ past) hosts (old, still, leads, all) =
    told_instant old hosts e (kind_of e.event) (clock_in past) leads.happens (λ s. (all s).instant) (clock_instant starts past old still)

module _ (seats : Side → Seat) where
  -- without numbers
  abbrev AtInstants : (Side → ℤ) → ℤ → List (ℤ × Step) → Type 0
  AtInstants clocks now [] = IsMoment now
  AtInstants clocks now (x ∷ more) =
      (now ≤ℤ x.0) × IsAtInstant x.0 (clocks x.1.side) (seats x.1.side).slot x.1.move × AtInstants (clocks_after seats clocks x.1) x.0 more

  numbered_so : (moves : List (ℤ × Happening)) (clocks : Side → ℤ) (now : ℤ) → AtInstants clocks now (timed moves) → AreAtInstants seats clocks now moves
  numbered_so [] clocks now are = are
  numbered_so (x ∷ more) clocks now are = (are.0, are.1, numbered_so more (clocks_after seats clocks x.1.step) x.0 are.2)

  -- whenever the socket was shown its host last
  abbrev IsAtOnce : ℤ → Step → Type 0
  IsAtOnce t step = (last : ℤ) → IsAtInstant t last (seats step.side).slot step.move

  earlier : (now t : ℤ) (rest : List (ℤ × Step)) (clocks : Side → ℤ) → IsMoment now → now ≤ℤ t → AtInstants clocks t rest → AtInstants clocks now rest
  earlier now t [] clocks is before are = is
  earlier now t (x ∷ rest) clocks is before are = (in_turn now t x.0 before are.0, are.1, are.2)

  -- THE MOVES OF ONE EVENT

  tcb : (now t : ℤ) (steps : List Step) (rest : List (ℤ × Step)) → IsMoment now → IsMoment t → now ≤ℤ t → AllByRecursion (IsAtOnce t) steps →
      ((clocks : Side → ℤ) → AtInstants clocks t rest)
      → (clocks : Side → ℤ) → AtInstants clocks now (all_at t steps ++ rest)
  tcb now t [] rest is so before all onward clocks = earlier now t rest clocks is before (onward clocks)
  tcb now t (step ∷ steps) rest is so before all onward clocks =
      (before, all.0 (clocks step.side), tcb t t steps rest so so (no_earlier t) all.1 onward (clocks_after seats clocks step))

  polled_move : (e : Entry) (t last : ℤ) (slot : ℕ) (move : Move) → IsOfPoll e t move → IsAtInstant t last slot move
  polled_move e t last slot (Invokes at cx old entry call new) is = absurd is
  polled_move e t last slot (Passes entry) is = tt
  polled_move e t last slot (Offers at cx v from sent) is = λ here. is
  polled_move e t last slot (Gives at cx v answer new sent) is = tt
  polled_move e t last slot (Takes at cx v ip header bytes) is = λ here. is
  polled_move e t last slot (Receives at cx v ip udp bytes) is = tt
  polled_move e t last slot (Resets x) is = absurd is
  polled_move e t last slot (Changes at old new) is = absurd is

  polled_all : (e : Entry) (side : Side) (t : ℤ) (steps : List Step) → AllByRecursion (λ step. (step.side ≡ side) × IsOfPoll e t step.move) steps →
      AllByRecursion (IsAtOnce t) steps
  polled_all e side t [] are = tt
  polled_all e side t (step ∷ steps) are =
      (λ last. polled_move e t last (seats step.side).slot step.move are.0.1, polled_all e side t steps are.1)

  called_move : (e : Entry) (slot seat : ℕ) (call : SocketCall) (shown now last : ℤ) (move : Move) → IsOfCall e slot call shown move →
      (slot ≡ seat → shown ≡ now) → IsAtInstant now last seat move
  called_move e slot seat call shown now last (Invokes at cx old entry this new) is turn = λ here. inr (is.3 ∙ turn (sym is.0 ∙ here))
  called_move e slot seat call shown now last (Passes entry) is turn = absurd is
  called_move e slot seat call shown now last (Offers at cx v from sent) is turn = absurd is
  called_move e slot seat call shown now last (Gives at cx v answer new sent) is turn = absurd is
  called_move e slot seat call shown now last (Takes at cx v ip header bytes) is turn = absurd is
  called_move e slot seat call shown now last (Receives at cx v ip udp bytes) is turn = absurd is
  called_move e slot seat call shown now last (Resets x) is turn = absurd is
  called_move e slot seat call shown now last (Changes at old new) is turn = absurd is

  one_all : (t : ℤ) (side : Side) (move : Move) (steps : List Step) → steps ≡ record { side = side; move = move } ∷ [] →
      ((last : ℤ) → IsAtInstant t last (seats side).slot move) → AllByRecursion (IsAtOnce t) steps
  one_all t side move steps is at = subst (λ (ss : List Step). AllByRecursion (IsAtOnce t) ss) (sym is) (at, tt)

  of_kind : (e : Entry) (k : Kind) (shown : Side → ℤ) (now : ℤ) (steps : List Step) → AreOfEvent e k shown steps →
      IsCalledInTurn (λ side. (seats side).slot) shown now k → AllByRecursion (IsAtOnce (told_by k now)) steps
  of_kind e (OfHost side (Calls slot call)) shown now steps (move, is, its) turn =
      one_all now side move steps is (λ last. called_move e slot (seats side).slot call (shown side) now last move its turn)
  of_kind e (OfHost side (Sets setting)) shown now steps (by, is) turn = one_all now by (Passes e) steps is (λ last. tt)
  of_kind e (OfHost side (Opens n)) shown now steps (by, is) turn = one_all now by (Passes e) steps is (λ last. tt)
  of_kind e (OfHost side (Asks t)) shown now steps (by, is) turn = one_all t by (Passes e) steps is (λ last. tt)
  of_kind e (OfHost side (Polls t budget)) shown now steps are turn = polled_all e side t steps are
  of_kind e (OfLink act) shown now steps (by, is) turn = one_all now by (Passes e) steps is (λ last. tt)

  -- THE MOVES OF ALL EVENTS

  at_all : (starts : Starts) (net : Net) (past more : List Entry) (hosts : Nodes) (still : StillRun starts (more ++ past) hosts) (moves rest : List (ℤ × Step))
      → MoveBy starts net past more hosts still moves → KeepOneClock starts (λ side. (seats side).slot) past more
      → ((clocks : Side → ℤ) → AtInstants clocks (clock_in (more ++ past)) rest) → (clocks : Side → ℤ) → AtInstants clocks (clock_in past) (moves ++ rest)
  at_all starts net past [] hosts still moves rest by keep onward clocks =
      subst (λ (xs : List (ℤ × Step)). AtInstants clocks (clock_in past) (xs ++ rest)) (sym by.0) (onward clocks)
  at_all starts net past (e ∷ more) hosts still moves rest (before, these, is, by, happens) keep onward clocks =
      let now : ℤ = clock_in (more ++ past) in
      let t : ℤ = clock_in (e ∷ more ++ past) in
      let so = clock_instant starts (e ∷ more ++ past) hosts still in
      let its = of_kind e (kind_of e.event) (shown_in starts (more ++ past)) now these happens.are keep.2 in
      let on = at_all starts net past more still.0 still.1 before (all_at t these ++ rest) by keep.0
      (tcb now t these rest (clock_instant starts (more ++ past) still.0 still.1) so keep.1 its onward) clocks in
      subst (AtInstants clocks (clock_in past)) (sym (ap (λ (xs : List (ℤ × Step)). xs ++ rest) is ∙ append_assoc before (all_at t these) rest)) on

append_none : (xs : List (ℤ × Step)) → xs ++ [] ≡ xs
append_none [] = refl
append_none (x ∷ xs) = ap (λ (ys : List (ℤ × Step)). x ∷ ys) (append_none xs)

pub at_instants : (starts : Starts) (net : Net) (past more : List Entry) (hosts : Nodes) (moves : List (ℤ × Happening)) (seats : Side → Seat) (clocks : Side → ℤ)
    (still : StillRun starts (more ++ past) hosts) → MoveBy starts net past more hosts still (timed moves) → KeepOneClock starts (λ side. (seats side).slot) past more
    → AreAtInstants seats clocks (clock_in past) moves
at_instants starts net past more hosts moves seats clocks still by keep =
    numbered_so seats moves clocks (clock_in past)
    (subst (AtInstants seats clocks (clock_in past)) (append_none (timed moves))
    (at_all seats starts net past more hosts still (timed moves) [] by keep (λ cs. clock_instant starts (more ++ past) hosts still) clocks))
