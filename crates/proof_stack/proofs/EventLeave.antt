-- Where each link gives leave after each poll, what the sockets offer in the moves of events goes.
use Rattle.std.proofs.Common.{◌≡◌, ℕ, ℤ, List, [], ◌∷◌, ◌++◌, refl, sym, ap, ◌∙◌, subst}
use Rattle.std.specs.List.{AllByRecursion}
use Rattle.sim_link.specs.DeviceCapabilities.{DeviceCapabilities}
use Rattle.lan.specs.declared.at_link.history.event.Side.{Side}
use Rattle.lan.specs.declared.at_link.history.event.Side.TheVariants.{A, B}
use Rattle.lan.specs.Worlds.AtLink.Call.{SocketCall}
use Rattle.lan.specs.Worlds.AtLink.Initial.{IsInitialWorld}
use Rattle.lan.specs.Worlds.AtLink.Happening.{Happening}
use Rattle.lan.specs.Worlds.AtLink.History.{Entry}
use Rattle.lan.specs.Worlds.AtLink.Kinds.{Kind, kind_of}
use Rattle.lan.specs.Worlds.AtLink.Kinds.Act.{Asks, Calls, Opens, Polls, Sets}
use Rattle.lan.specs.Worlds.AtLink.Kinds.Kind.{OfHost, OfLink}
use Rattle.lan.specs.Worlds.AtLink.Moves.{Move, Step}
use Rattle.lan.specs.Worlds.AtLink.Moves.Move.{Invokes, Passes, Offers, Gives, Takes, Receives, Resets, Changes}
use Rattle.lan.specs.Worlds.AtLink.Origins.{medium_of}
use Rattle.lan.specs.Worlds.AtLink.Paired.{Seat}
use Rattle.lan.specs.Worlds.AtLink.Parties.{Net}
use Rattle.lan.specs.Worlds.AtLink.Runs.{Starts, start, unused_both}
use Rattle.lan.specs.Worlds.AtLink.Node.{Nodes, node}
use Rattle.lan.specs.Worlds.Still.{StillRun}
use Rattle.lan.proofs.Worlds.AtLink.Growing.{happens_stays}
use Rattle.sim_link.specs.Medium.TheVariants as Medium
use Rattle.proof_stack.proofs.EventMoves.{untimed_append}
use Rattle.proof_stack.specs.Progress.Events.{AreOfEvent, AreSentOff, IsOfCall, IsSentOff, MoveBy, clock_in, shown_in, untimed}
use Rattle.proof_stack.specs.Progress.Moving.{AreLetGo, IsLetGo}
use Rattle.proof_stack.specs.Progress.OneClock.{timed}
use Rattle.proof_stack.specs.Progress.Serving.{GiveTxToken, GivesTxToken}

-- THE MEDIUM of a host's link is that of its start

module _ (starts : Starts) where
  first_link : (s : Side) → (node (unused_both starts) s).link.capabilities ≡ (start starts s).capabilities
  first_link A = refl
  first_link B = refl

  pub same_link : (history : List Entry) (hosts : Nodes) → StillRun starts history hosts → (s : Side) →
      (node hosts s).link.capabilities ≡ (start starts s).capabilities
  same_link [] hosts still s = ap (λ (h : Nodes). (node h s).link.capabilities) still.0 ∙ first_link s
  same_link (e ∷ past) hosts (before, still, leads, all) s =
      (happens_stays before hosts (kind_of e.event) e.answer e.found s leads.happens).link.capabilities ∙ same_link past before still s

  pub on_ip : IsInitialWorld starts → starts.a.capabilities.medium ≡ Medium.Ip → (s : Side) → (start starts s).capabilities.medium ≡ Medium.Ip
  on_ip initial ip A = ip
  on_ip initial ip B = sym initial.medium ∙ ip

-- MOVES

-- a move whose offer goes lets go whichever socket offers
lets_go : (slot : ℕ) (move : Move) → IsSentOff move → IsLetGo slot move
lets_go slot (Offers at cx v from sent) off = λ here. off
lets_go slot (Invokes at cx old entry call new) off = tt
lets_go slot (Passes entry) off = tt
lets_go slot (Gives at cx v answer new sent) off = tt
lets_go slot (Takes at cx v ip header bytes) off = tt
lets_go slot (Receives at cx v ip udp bytes) off = tt
lets_go slot (Resets x) off = tt
lets_go slot (Changes at old new) off = tt

-- that of a call offers nothing
pub call_lets_go : (e : Entry) (at : ℕ) (call : SocketCall) (shown : ℤ) (slot : ℕ) (move : Move) → IsOfCall e at call shown move → IsLetGo slot move
call_lets_go e at call shown slot (Invokes here cx old entry this new) is = tt
call_lets_go e at call shown slot (Passes entry) is = absurd is
call_lets_go e at call shown slot (Offers here cx v from sent) is = absurd is
call_lets_go e at call shown slot (Gives here cx v answer new sent) is = absurd is
call_lets_go e at call shown slot (Takes here cx v ip header bytes) is = absurd is
call_lets_go e at call shown slot (Receives here cx v ip udp bytes) is = absurd is
call_lets_go e at call shown slot (Resets x) is = absurd is
call_lets_go e at call shown slot (Changes here old new) is = absurd is

module _ (seats : Side → Seat) where
  abbrev pub LetGo : Step → Type 0
  LetGo step = IsLetGo (seats step.side).slot step.move

  abbrev pub All : List Step → Type 0
  All steps = AllByRecursion LetGo steps

  pub all_append : (xs ys : List Step) → All xs → All ys → All (xs ++ ys)
  all_append [] ys first then_ = then_
  all_append (x ∷ xs) ys first then_ = (first.0, all_append xs ys first.1 then_)

  all_off : (steps : List Step) → AllByRecursion (λ step. IsSentOff step.move) steps → All steps
  all_off [] off = tt
  all_off (step ∷ steps) off = (lets_go (seats step.side).slot step.move off.0, all_off steps off.1)

  pub one_passes : (e : Entry) (steps : List Step) (side : Side) → steps ≡ record { side = side; move = Passes e } ∷ [] → All steps
  one_passes e steps side is = subst All (sym is) (tt, tt)

  -- ONE EVENT

  kind_lets_go : (e : Entry) (k : Kind) (shown : Side → ℤ) (hosts : Nodes) (steps : List Step) → ((s : Side) → medium_of (node hosts s) ≡ Medium.Ip)
      → AreOfEvent e k shown steps → AreSentOff k hosts steps → GivesTxToken k hosts → All steps
  kind_lets_go e (OfHost side (Polls instant budget)) shown hosts steps ip are off leave = all_off steps (off leave (ip side))
  kind_lets_go e (OfHost side (Calls at call)) shown hosts steps ip (move, is, its) off leave =
      subst All (sym is) (call_lets_go e at call (shown side) (seats side).slot move its, tt)
  kind_lets_go e (OfHost side (Sets setting)) shown hosts steps ip are off leave = one_passes e steps are.0 are.1
  kind_lets_go e (OfHost side (Opens n)) shown hosts steps ip are off leave = one_passes e steps are.0 are.1
  kind_lets_go e (OfHost side (Asks instant)) shown hosts steps ip are off leave = one_passes e steps are.0 are.1
  kind_lets_go e (OfLink act) shown hosts steps ip are off leave = one_passes e steps are.0 are.1

  -- ALL EVENTS

  module _ (starts : Starts) (initial : IsInitialWorld starts) (ip : starts.a.capabilities.medium ≡ Medium.Ip) (net : Net) (past : List Entry) where
    all_let_go : (more : List Entry) (hosts : Nodes) (still : StillRun starts (more ++ past) hosts) (moves : List (ℤ × Step))
        → MoveBy starts net past more hosts still moves → GiveTxToken starts past more hosts still → All (untimed moves)
    all_let_go [] hosts still moves by leave = subst (λ (xs : List (ℤ × Step)). All (untimed xs)) (sym by.0) tt
    all_let_go (e ∷ more) hosts still moves (before, these, is, by, happens) leave =
        let media : (s : Side) → medium_of (node hosts s) ≡ Medium.Ip =
        λ s. ap (λ (c : DeviceCapabilities). c.medium) (same_link starts (e ∷ more ++ past) hosts still s) ∙ on_ip starts initial ip s in
        let all : All (untimed before ++ these) =
        all_append (untimed before) these (all_let_go more still.0 still.1 before by leave.0)
        (kind_lets_go e (kind_of e.event) (shown_in starts (more ++ past)) hosts these media happens.are happens.sent_off leave.1) in
        subst All (sym (ap untimed is ∙ untimed_append before (clock_in (e ∷ more ++ past)) these)) all

  pub numbered_so : (moves : List (ℤ × Happening)) → All (untimed (timed moves)) → AreLetGo seats moves
  numbered_so [] all = tt
  numbered_so (x ∷ moves) all = (all.0, numbered_so moves all.1)

pub are_let_go : (starts : Starts) → IsInitialWorld starts → starts.a.capabilities.medium ≡ Medium.Ip → (seats : Side → Seat) (net : Net) (past more : List Entry)
    (hosts : Nodes) (still : StillRun starts (more ++ past) hosts) (moves : List (ℤ × Happening)) → MoveBy starts net past more hosts still (timed moves)
    → GiveTxToken starts past more hosts still → AreLetGo seats moves
are_let_go starts initial ip seats net past more hosts still moves by leave =
    numbered_so seats moves (all_let_go seats starts initial ip net past more hosts still (timed moves) by leave)
