-- Where both sockets are served at once, the moves of the events ask them in time.
use Rattle.std.proofs.Common.{◌≡◌, inl, inr, ℕ, ℤ, pos, ◌+ℤ◌, ◌≤ℤ◌, List, [], ◌∷◌, ◌++◌, sym, ap, ◌∙◌, subst, append_assoc}
use Rattle.lan.specs.declared.at_link.history.event.Side.{Side}
use Rattle.lan.specs.Worlds.AtLink.Happening.{Happening}
use Rattle.lan.specs.Worlds.AtLink.History.{Entry}
use Rattle.lan.specs.Worlds.AtLink.Moves.{Step, run}
use Rattle.lan.specs.Worlds.AtLink.Paired.{Seat}
use Rattle.lan.specs.Worlds.AtLink.Parties.{Net}
use Rattle.lan.specs.Worlds.AtLink.Runs.{Starts}
use Rattle.lan.specs.Worlds.AtLink.Node.{Nodes}
use Rattle.lan.specs.Worlds.Still.{StillRun, seats_of}
use Rattle.lan.proofs.Worlds.AtLink.Extended.{run-append}
use Rattle.proof_stack.proofs.EventAsked.{Asked, From, all_asked, and_more, append_none, are_asked, asked_through, net_at, numbered_so, to_host}
use Rattle.proof_stack.proofs.EventMoves.{untimed_append}
use Rattle.proof_stack.specs.Progress.Events.{MoveBy, all_at, clock_in, untimed}
use Rattle.proof_stack.specs.Progress.Moving.{AreAsked}
use Rattle.proof_stack.specs.Progress.OneClock.{KeepOneClock, timed}
use Rattle.proof_stack.specs.Progress.Serving.{AreServedAtOnce, AreServedWithin}

module _ (starts : Starts) (slots : Side → ℕ) (wait : ℕ) (net : Net) (past : List Entry) where
  abbrev seats : Side → Seat
  seats = seats_of starts slots

  -- what follows the events asks in time, from the instant at which they end
  all : (more : List Entry) (hosts : Nodes) (still : StillRun starts (more ++ past) hosts) (moves rest : List (ℤ × Step))
      → MoveBy starts net past more hosts still moves → AreServedAtOnce starts slots past more hosts still
      → From seats wait (clock_in (more ++ past)) (run net (untimed moves)) rest → Asked seats wait (clock_in (more ++ past)) (run net (untimed moves)) rest
      → Asked seats wait (clock_in past) net (moves ++ rest)
  all [] hosts still moves rest by are onward asked =
      subst (λ (xs : List (ℤ × Step)). Asked seats wait (clock_in past) net (xs ++ rest)) (sym by.0)
      (subst (λ (xs : List (ℤ × Step)). Asked seats wait (clock_in past) (run net (untimed xs)) rest) by.0 asked)
  all (e ∷ more) hosts still moves rest (before, these, is, by, happens) (so_far, soon) onward asked =
      let now : ℤ = clock_in (more ++ past) in
      let t : ℤ = clock_in (e ∷ more ++ past) in
      let mid : Net = run net (untimed before) in
      let ends : run net (untimed moves) ≡ run mid these =
      ap (λ (xs : List (ℤ × Step)). run net (untimed xs)) is ∙ ap (run net) (untimed_append before t these) ∙ run-append net (untimed before) these in
      let of = net_at starts slots wait net past more still.0 still.1 before by in
      let following : From seats wait t (run mid these) rest = subst (λ (n : Net). From seats wait t n rest) ends onward in
      let first : From seats wait now mid (all_at t these ++ rest) =
      λ side due later wants.
      let up : t ≤ℤ due = soon side due later (to_host starts slots wait net past (more ++ past) still.0 still.1 mid of side due wants) in
      asked_through seats wait t rest due (due +ℤ pos wait) side mid these (and_more t due wait up) wants (λ wanting. following side due up wanting) in
      subst (Asked seats wait (clock_in past) net) (sym (ap (λ (xs : List (ℤ × Step)). xs ++ rest) is ∙ append_assoc before (all_at t these) rest))
      (all more still.0 still.1 before (all_at t these ++ rest) by so_far first
      (all_asked seats wait t rest now mid these first (λ side due later wants. following side due later wants)
      (subst (λ (n : Net). Asked seats wait t n rest) ends asked)))

pub are_asked_at_once : (starts : Starts) (net : Net) (past more : List Entry) (hosts : Nodes) (still : StillRun starts (more ++ past) hosts) (slots : Side → ℕ)
    (moves : List (ℤ × Happening)) (wait : ℕ) → MoveBy starts net past more hosts still (timed moves) → AreServedAtOnce starts slots past more hosts still
    → AreAsked (seats_of starts slots) wait (clock_in past) net moves
are_asked_at_once starts net past more hosts still slots moves wait by are =
    numbered_so (seats_of starts slots) wait (clock_in past) net moves
    (subst (Asked (seats_of starts slots) wait (clock_in past) net) (append_none (timed moves))
    (all starts slots wait net past more hosts still (timed moves) [] by are (λ side due later wants. tt) tt))

-- served at once, or in time
pub are_asked_within : (starts : Starts) (net : Net) (past more : List Entry) (hosts : Nodes) (still : StillRun starts (more ++ past) hosts) (slots : Side → ℕ)
    (moves : List (ℤ × Happening)) (wait : ℕ) → MoveBy starts net past more hosts still (timed moves) → KeepOneClock starts slots past more
    → AreServedWithin starts slots wait past more hosts still → AreAsked (seats_of starts slots) wait (clock_in past) net moves
are_asked_within starts net past more hosts still slots moves wait by keep (inl at_once) =
    are_asked_at_once starts net past more hosts still slots moves wait by at_once
are_asked_within starts net past more hosts still slots moves wait by keep (inr served) =
    are_asked starts net past more hosts still slots moves wait served.0 by keep served.1
