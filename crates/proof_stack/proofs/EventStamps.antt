-- Where no timestamps were agreed on, no segment that comes is older than TS.Recent.
use Rattle.std.proofs.Common.{◌≡◌, ℕ, ◌&&◌, Bool, true, false, ℤ, List, [], ◌∷◌, ◌++◌, Some, sym, ap, ◌∙◌, subst}
use Rattle.std.specs.List.{AllByRecursion}
use Rattle.ip_wire.specs.TcpHeader.{TcpHeader}
use Rattle.tcp_block.specs.Timestamps.{arrives_older}
use Rattle.tcp_block.specs.Value.{TcpValue}
use Rattle.tcp_liveness.specs.Arrivals.{is_synchronized}
use Rattle.tcp_liveness.specs.Sent.{is_early}
use Rattle.lan.specs.declared.at_link.history.event.Side.{Side}
use Rattle.lan.specs.Worlds.AtLink.Happening.{Happening}
use Rattle.lan.specs.Worlds.AtLink.History.{Entry}
use Rattle.lan.specs.Worlds.AtLink.Call.{SocketCall}
use Rattle.lan.specs.Worlds.AtLink.Kinds.{Kind, kind_of}
use Rattle.lan.specs.Worlds.AtLink.Kinds.Act.{Asks, Calls, Opens, Polls, Sets}
use Rattle.lan.specs.Worlds.AtLink.Kinds.Kind.{OfHost, OfLink}
use Rattle.lan.specs.Worlds.AtLink.Moves.{IsRun, May, Move, Step, after, run}
use Rattle.lan.specs.Worlds.AtLink.Moves.Move.{Invokes, Passes, Offers, Gives, Takes, Receives, Resets, Changes}
use Rattle.lan.specs.Worlds.AtLink.Parties.{Net, party, socket_at}
use Rattle.lan.specs.Worlds.AtLink.Parties.Socket.{Tcp}
use Rattle.lan.specs.Worlds.AtLink.Runs.{Starts}
use Rattle.lan.specs.Worlds.AtLink.Node.{Nodes}
use Rattle.lan.specs.Worlds.Moves.Follows.{IsNetOf}
use Rattle.lan.specs.Worlds.Still.{StillRun, seats_of}
use Rattle.lan.proofs.Worlds.Moves.Calls.{names}
use Rattle.proof_stack.specs.Progress.Ends.{AreBoth, AreUnstamped}
use Rattle.proof_stack.specs.Progress.Events.{AreOfEvent, IsOfCall, IsOfPoll, MoveBy, clock_in, shown_in, untimed}
use Rattle.proof_stack.specs.Progress.Hearing.{AreSo, IsSoAt}
use Rattle.proof_stack.specs.Progress.Moving.{IsInitialFor}
use Rattle.proof_stack.specs.Progress.OneClock.{timed}
use Rattle.proof_stack.proofs.EventFacts.{both_now, net_at}
use Rattle.proof_stack.proofs.EventMoves.{untimed_append}
use Rattle.proof_stack.proofs.EventSlots.{Later, at_net, step_moved}
use Rattle.proof_stack.proofs.Polls.Connected.{late_at}

same_tcp : (v w : TcpValue) → Some (Tcp v) ≡ Some (Tcp w) → v ≡ w
same_tcp v w e = let one : Tcp v ≡ Tcp w = cc in cc

initial_without : (v : TcpValue) (header : TcpHeader) (bytes : List ℕ) → v.tcb.peer.timestamps ≡ false → IsInitialFor v header bytes
initial_without v header bytes none = ap (λ (agreed : Bool). agreed && arrives_older header.options.timestamp v.tcb.peer.recent) none

-- connected, without timestamps
abbrev Unstamped : Side → TcpValue → Type 0
Unstamped side v = (is_synchronized v.tcb.state ≡ true) × (v.tcb.peer.timestamps ≡ false)

module _ (slots : Side → ℕ) where
  abbrev Initial : Step → Type 0
  Initial step = IsSoAt IsInitialFor (slots step.side) step.move

  abbrev AllInitial : List Step → Type 0
  AllInitial steps = AllByRecursion Initial steps

  all_append : (xs ys : List Step) → AllInitial xs → AllInitial ys → AllInitial (xs ++ ys)
  all_append [] ys first then_ = then_
  all_append (x ∷ xs) ys first then_ = (first.0, all_append xs ys first.1 then_)

  move_initial : (net : Net) (side : Side) (move : Move) (v : TcpValue) → May names net side move → socket_at (party net side) (slots side) ≡ Some (Tcp v)
      → v.tcb.peer.timestamps ≡ false → IsSoAt IsInitialFor (slots side) move
  move_initial net side (Takes at cx u ip header bytes) v may stands none = λ here. (
      let same : v ≡ u = same_tcp v u (sym stands ∙ subst (λ (n : ℕ). socket_at (party net side) n ≡ Some (Tcp u)) here may.0) in
      initial_without u header bytes (subst (λ (y : TcpValue). y.tcb.peer.timestamps ≡ false) same none)
      )
  move_initial net side (Offers at cx u from sent) v may stands none = tt
  move_initial net side (Invokes at cx old entry call new) v may stands none = tt
  move_initial net side (Passes entry) v may stands none = tt
  move_initial net side (Gives at cx u answer new sent) v may stands none = tt
  move_initial net side (Receives at cx u ip udp bytes) v may stands none = tt
  move_initial net side (Resets x) v may stands none = tt
  move_initial net side (Changes at old new) v may stands none = tt

  -- a poll
  poll_initial : (e : Entry) (t : ℤ) (side : Side) (steps : List Step) (net : Net) (v : TcpValue)
      → AllByRecursion (λ step. (step.side ≡ side) × IsOfPoll e t step.move) steps → IsRun names net steps
      → socket_at (party net side) (slots side) ≡ Some (Tcp v) → is_early v.tcb.state ≡ false → v.tcb.peer.timestamps ≡ false → AllInitial steps
  poll_initial e t side [] net v all may stands late none = tt
  poll_initial e t side (step ∷ steps) net v all may stands late none =
      let one : Later e t side (slots side) (party (after net step) side) v =
      step_moved e t side (slots side) net step.side step.move all.0.0 all.0.1 may.0 v stands late in (
        subst (λ (s : Side). IsSoAt IsInitialFor (slots s) step.move) (sym all.0.0)
            (move_initial net side step.move v (subst (λ (s : Side). May names net s step.move) all.0.0 may.0) stands none),
        poll_initial e t side steps (after net step) one.new all.1 may.1 one.stands one.stays.late (one.stays.stamps ∙ none),
      )

  call_initial : (e : Entry) (at : ℕ) (call : SocketCall) (shown : ℤ) (slot : ℕ) (move : Move) → IsOfCall e at call shown move → IsSoAt IsInitialFor slot move
  call_initial e at call shown slot (Invokes here cx old entry this new) is = tt
  call_initial e at call shown slot (Passes entry) is = absurd is
  call_initial e at call shown slot (Offers here cx v from sent) is = absurd is
  call_initial e at call shown slot (Gives here cx v answer new sent) is = absurd is
  call_initial e at call shown slot (Takes here cx v ip header bytes) is = absurd is
  call_initial e at call shown slot (Receives here cx v ip udp bytes) is = absurd is
  call_initial e at call shown slot (Resets x) is = absurd is
  call_initial e at call shown slot (Changes here old new) is = absurd is

  passes_initial : (e : Entry) (steps : List Step) (side : Side) → steps ≡ record { side = side; move = Passes e } ∷ [] → AllInitial steps
  passes_initial e steps side is = subst AllInitial (sym is) (tt, tt)

  kind_initial : (e : Entry) (k : Kind) (shown : Side → ℤ) (net : Net) (hosts : Nodes) (history : List Entry) (steps : List Step) → AreOfEvent e k shown steps
      → IsRun names net steps → IsNetOf net hosts history → AreBoth Unstamped slots hosts → AllInitial steps
  kind_initial e (OfHost side (Polls t budget)) shown net hosts history steps all may of are =
      let there = at_net net hosts history side (slots side) (Unstamped side) of (are side) in
      poll_initial e t side steps net there.0 all may there.1 (late_at there.0.tcb.state there.2.0) there.2.1
  kind_initial e (OfHost side (Calls at call)) shown net hosts history steps (move, is, its) may of are =
      subst AllInitial (sym is) (call_initial e at call (shown side) (slots side) move its, tt)
  kind_initial e (OfHost side (Sets setting)) shown net hosts history steps is may of are = passes_initial e steps is.0 is.1
  kind_initial e (OfHost side (Opens n)) shown net hosts history steps is may of are = passes_initial e steps is.0 is.1
  kind_initial e (OfHost side (Asks instant)) shown net hosts history steps is may of are = passes_initial e steps is.0 is.1
  kind_initial e (OfLink act) shown net hosts history steps is may of are = passes_initial e steps is.0 is.1

  all_initial : (starts : Starts) (net : Net) (past more : List Entry) (hosts : Nodes) (still : StillRun starts (more ++ past) hosts) (moves : List (ℤ × Step))
      → MoveBy starts net past more hosts still moves → AreUnstamped starts slots past more hosts still → AllInitial (untimed moves)
  all_initial starts net past [] hosts still moves by are = subst (λ (xs : List (ℤ × Step)). AllInitial (untimed xs)) (sym by.0) tt
  all_initial starts net past (e ∷ more) hosts still moves by are =
      let of = net_at starts net past more still.0 still.1 by.0 by.3 in
      subst AllInitial (sym (ap untimed by.2 ∙ untimed_append by.0 (clock_in (e ∷ more ++ past)) by.1))
      (all_append (untimed by.0) by.1 (all_initial starts net past more still.0 still.1 by.0 by.3 are.0)
      (kind_initial e (kind_of e.event) (shown_in starts (more ++ past)) (run net (untimed by.0)) still.0 (more ++ past) by.1 by.4.are by.4.may of
      (both_now Unstamped starts slots past more still.0 still.1 are.0)))

  numbered_so : (starts : Starts) (moves : List (ℤ × Happening)) → AllInitial (untimed (timed moves)) → AreSo IsInitialFor (seats_of starts slots) moves
  numbered_so starts [] all = tt
  numbered_so starts (x ∷ moves) all = (all.0, numbered_so starts moves all.1)

pub initial_unstamped : (starts : Starts) (net : Net) (past more : List Entry) (hosts : Nodes) (still : StillRun starts (more ++ past) hosts) (slots : Side → ℕ)
    (moves : List (ℤ × Happening)) → MoveBy starts net past more hosts still (timed moves) → AreUnstamped starts slots past more hosts still
    → AreSo IsInitialFor (seats_of starts slots) moves
initial_unstamped starts net past more hosts still slots moves by are =
    numbered_so slots starts moves (all_initial slots starts net past more hosts still (timed moves) by are)
