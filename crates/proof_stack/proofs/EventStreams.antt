-- A stream that is no empty one after each event is none after each of their moves.
use Rattle.std.proofs.Common.{◌≡◌, ℕ, ℤ, List, [], ◌∷◌, ◌++◌, None, refl, sym, ap, ◌∙◌, subst}
use Rattle.std.specs.List.{AllByRecursion}
use Rattle.tcp_liveness.specs.Pair.{HasStream}
use Rattle.lan.specs.declared.at_link.history.event.Side.{Side}
use Rattle.lan.specs.Worlds.AtLink.Happening.{Happening}
use Rattle.lan.specs.Worlds.AtLink.History.{Entry, call_in, call_of}
use Rattle.lan.specs.Worlds.AtLink.Kinds.{Kind, kind_of}
use Rattle.lan.specs.Worlds.AtLink.Kinds.Act.{Asks, Calls, Opens, Polls, Sets}
use Rattle.lan.specs.Worlds.AtLink.Kinds.Kind.{OfHost, OfLink}
use Rattle.lan.specs.Worlds.AtLink.Moves.{Move, Step, after, run}
use Rattle.lan.specs.Worlds.AtLink.Moves.Move.{Invokes, Passes, Offers, Gives, Takes, Receives, Resets, Changes}
use Rattle.lan.specs.Worlds.AtLink.Paired.{Seat, told}
use Rattle.lan.specs.Worlds.AtLink.Parties.{Net}
use Rattle.lan.specs.Worlds.AtLink.Runs.{Starts}
use Rattle.lan.specs.Worlds.AtLink.Node.{Nodes}
use Rattle.lan.specs.Worlds.Still.{StillRun}
use Rattle.lan.proofs.Worlds.AtLink.HostSteps.{told_left}
use Rattle.proof_stack.proofs.EventMoves.{untimed_append}
use Rattle.proof_stack.specs.Progress.Events.{AreOfEvent, IsOfPoll, MoveBy, clock_in, untimed}
use Rattle.proof_stack.specs.Progress.Moving.{KeepsStreamIn}
use Rattle.proof_stack.specs.Progress.OneClock.{timed}
use Rattle.proof_stack.specs.Progress.Serving.{KeepsStreamBy}

module _ (seats : Side → Seat) (side : Side) where
  abbrev slot : ℕ
  slot = (seats side).slot

  abbrev Some_ : List Entry → Type 0
  Some_ h = HasStream (told h side slot)

  -- of moves without instants and numbers
  abbrev Keeps : Net → List Step → Type 0
  Keeps net [] = Some_ net.history
  Keeps net (step ∷ steps) = Some_ net.history × Keeps (after net step) steps

  numbered_so : (net : Net) (moves : List (ℤ × Happening)) → Keeps net (untimed (timed moves)) → KeepsStreamIn seats net side moves
  numbered_so net [] keeps = keeps
  numbered_so net (x ∷ more) keeps = (keeps.0, numbered_so (after net x.1.step) more keeps.1)

  -- after them
  following : (net : Net) (steps : List Step) → Keeps net steps → Some_ (run net steps).history
  following net [] keeps = keeps
  following net (step ∷ steps) keeps = following (after net step) steps keeps.1

  and_then : (net : Net) (first rest : List Step) → Keeps net first → Keeps (run net first) rest → Keeps net (first ++ rest)
  and_then net [] rest keeps on = on
  and_then net (step ∷ first) rest keeps on = (keeps.0, and_then (after net step) first rest keeps.1 on)

  -- THE MOVES OF ONE EVENT

  -- a poll is no call
  polled : (e : Entry) (by : Side) (t : ℤ) (net : Net) (steps : List Step) → call_of e side slot ≡ None
      → AllByRecursion (λ step. (step.side ≡ by) × IsOfPoll e t step.move) steps → Some_ net.history → Keeps net steps
  polled e by t net [] none are stream = stream
  polled e by t net (step ∷ steps) none are stream = (stream, polled e by t (after net step) steps none are.1 (on step.side step.move are.0.1)) where
    on : (s : Side) (move : Move) → IsOfPoll e t move → Some_ (after net (record { side = s; move = move })).history
    on s (Invokes at cx old entry call new) is = absurd is
    on s (Passes entry) is =
        subst (λ (x : Entry). Some_ (x ∷ net.history)) (sym is) (subst HasStream (sym (told_left net.history e side slot none)) stream)
    on s (Offers at cx v from sent) is = stream
    on s (Gives at cx v answer new sent) is = stream
    on s (Takes at cx v ip header bytes) is = stream
    on s (Receives at cx v ip udp bytes) is = stream
    on s (Resets x) is = absurd is
    on s (Changes at old new) is = absurd is

  one : (net : Net) (by : Side) (move : Move) (steps : List Step) → steps ≡ record { side = by; move = move } ∷ [] → Some_ net.history
      → Some_ (run net steps).history → Keeps net steps
  one net by move steps is stream then =
      subst (λ (ss : List Step). Keeps net ss) (sym is) (stream, subst (λ (ss : List Step). Some_ (run net ss).history) is then)

  of_kind : (e : Entry) (k : Kind) (shown : Side → ℤ) (net : Net) (steps : List Step) → kind_of e.event ≡ k → AreOfEvent e k shown steps → Some_ net.history
      → Some_ (run net steps).history → Keeps net steps
  of_kind e (OfHost by (Calls at call)) shown net steps its are stream then = one net by are.0 steps are.1 stream then
  of_kind e (OfHost by (Sets setting)) shown net steps its are stream then = one net are.0 (Passes e) steps are.1 stream then
  of_kind e (OfHost by (Opens n)) shown net steps its are stream then = one net are.0 (Passes e) steps are.1 stream then
  of_kind e (OfHost by (Asks t)) shown net steps its are stream then = one net are.0 (Passes e) steps are.1 stream then
  of_kind e (OfHost by (Polls t budget)) shown net steps its are stream then =
      polled e by t net steps (ap (λ (k : Kind). call_in k side slot) its) are stream
  of_kind e (OfLink act) shown net steps its are stream then = one net are.0 (Passes e) steps are.1 stream then

  -- THE MOVES OF ALL EVENTS

  all : (starts : Starts) (net : Net) (past more : List Entry) (hosts : Nodes) (still : StillRun starts (more ++ past) hosts) (moves : List (ℤ × Step))
      → MoveBy starts net past more hosts still moves → KeepsStreamBy slot side past more → Keeps net (untimed moves)
  all starts net past [] hosts still moves by keeps =
      subst (λ (xs : List (ℤ × Step)). Keeps net (untimed xs)) (sym by.0) (subst Some_ (sym by.1.history) keeps)
  all starts net past (e ∷ more) hosts still moves (before, these, is, by, happens) keeps =
      let first = all starts net past more still.0 still.1 before by keeps.0 in
      subst (λ (ss : List Step). Keeps net ss)
      (sym (ap untimed is ∙ untimed_append before (clock_in (e ∷ more ++ past)) these))
      (and_then net (untimed before) these first
      (of_kind e (kind_of e.event) _ (run net (untimed before)) these refl happens.are (following net (untimed before) first)
      (subst Some_ (sym happens.of.history) keeps.1)))

pub keep_streams : (starts : Starts) (net : Net) (past more : List Entry) (hosts : Nodes) (still : StillRun starts (more ++ past) hosts) (seats : Side → Seat)
    (moves : List (ℤ × Happening)) (side : Side) → MoveBy starts net past more hosts still (timed moves) → KeepsStreamBy (seats side).slot side past more
    → KeepsStreamIn seats net side moves
keep_streams starts net past more hosts still seats moves side by keeps =
    numbered_so seats side net moves (all seats side starts net past more hosts still (timed moves) by keeps)
