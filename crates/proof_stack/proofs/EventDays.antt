-- A world whose hosts are polled since an instant alone shows its sockets as a pair that is timed since then.
use Rattle.std.proofs.Common.{◌≡◌, ◌≢◌, ◌⊎◌, inl, inr, ℕ, ◌==◌, ℤ, ◌≤ℤ◌, int_le, Bool, true, false, if◌then◌else◌, List, [], ◌∷◌, ◌++◌, None, refl, sym, ap, ◌∙◌, subst}
use Rattle.std.specs.List.{AllByRecursion}
use Rattle.std.proofs.lemmas.Bool.Decides.{eqb_tells}
use Rattle.tcp_theory.specs.Side.Opening.{NotYet}
use Rattle.tcp_block.specs.Offers.{offer_of}
use Rattle.tcp_refinement.specs.Pair.History.{pasts}
use Rattle.tcp_refinement.specs.Pair.Sides.{at}
use Rattle.tcp_refinement.specs.Pair.Values.{PairValue}
use Rattle.tcp_refinement.specs.Tie.{Past}
use Rattle.tcp_refinement.specs.declared.pair.event.PairEvent.{PairEvent}
use Rattle.tcp_refinement.specs.declared.pair.event.PairEvent.TheVariants as Ev
use Rattle.tcp_refinement.specs.declared.pair.event.Side as Pairs
use Rattle.tcp_liveness.specs.Clocks.{IsTimed}
use Rattle.tcp_liveness.specs.Rounds.{takes}
use Rattle.lan.specs.declared.at_link.history.event.Side.{Side}
use Rattle.lan.specs.declared.at_link.history.event.TcpSetting.{TcpSetting}
use Rattle.lan.specs.declared.at_link.history.event.TcpSetting.TheVariants as Changed
use Rattle.lan.specs.Worlds.AtLink.Call as Call
use Rattle.lan.specs.Worlds.AtLink.Call.{SocketCall}
use Rattle.lan.specs.Worlds.AtLink.Happening.{Happening, called_by, clock_to, events_of_move, events_of_moves, events_of_one, goes, if_here, setting_in, steps_of}
use Rattle.lan.specs.Worlds.AtLink.History.{Entry, opening}
use Rattle.lan.specs.Worlds.AtLink.Kinds.{Kind, kind_of, other}
use Rattle.lan.specs.Worlds.AtLink.Kinds.Act.{Asks, Calls, Opens, Polls, Sets}
use Rattle.lan.specs.Worlds.AtLink.Kinds.Kind.{OfHost, OfLink}
use Rattle.lan.specs.Worlds.AtLink.Moves.{Move, Step, after, run}
use Rattle.lan.specs.Worlds.AtLink.Moves.Move.{Invokes, Passes, Offers, Gives, Takes, Receives, Resets, Changes}
use Rattle.lan.specs.Worlds.AtLink.Paired.{Seat, Shows, clocks_after, side_in, way_by}
use Rattle.lan.specs.Worlds.AtLink.Parties.{Net}
use Rattle.lan.specs.Worlds.AtLink.Runs.{Starts}
use Rattle.lan.specs.Worlds.AtLink.Node.{Nodes}
use Rattle.lan.specs.Worlds.Still.{StillRun}
use Rattle.lan.proofs.Worlds.AtLink.Paired.Runs.{ShowsAlong, after_events}
use Rattle.proof_stack.specs.Progress.Days.{KeepsTime, KeepsTimeBy, WhereSet}
use Rattle.proof_stack.specs.Progress.Events.{AreOfEvent, IsOfCall, IsOfPoll, MoveBy, clock_in, shown_in, untimed}
use Rattle.proof_stack.proofs.EventFacts.{net_at}
use Rattle.proof_stack.proofs.EventMoves.{untimed_append}
use Rattle.proof_stack.proofs.MovedEvents.{clock_past}
use Rattle.proof_stack.proofs.MovedNow.{same_in}

-- MOVES

-- an offer is at this instant or later, and a clock of timestamps is set only where this is so
abbrev MoveTimed : ℤ → ℕ → Type 0 → Move → Type 0
MoveTimed since slot Unopened (Offers at cx v from sent) = at ≡ slot → since ≤ℤ cx.instant
MoveTimed since slot Unopened (Invokes at cx old entry call new) = at ≡ slot → WhereSet Unopened call
MoveTimed since slot Unopened move = Unit {0}

abbrev IsUnopened : (Side → ℕ) → List Entry → Side → Type 0
IsUnopened slots history side = opening history side (slots side) ≡ None

abbrev pub AllTimed : (Side → ℤ) → (Side → ℕ) → Net → List Step → Type 0
AllTimed since slots net [] = Unit {0}
AllTimed since slots net (step ∷ steps) =
    MoveTimed (since step.side) (slots step.side) (IsUnopened slots net.history step.side) step.move × AllTimed since slots (after net step) steps

-- THE MOVES OF EVENTS

module _ (since : Side → ℤ) (slots : Side → ℕ) where
  timed_append : (net : Net) (xs ys : List Step) → AllTimed since slots net xs → AllTimed since slots (run net xs) ys → AllTimed since slots net (xs ++ ys)
  timed_append net [] ys first then_ = then_
  timed_append net (x ∷ xs) ys first then_ = (first.0, timed_append (after net x) xs ys first.1 then_)

  poll_move : (least : ℤ) (slot : ℕ) (Unopened : Type 0) (e : Entry) (t : ℤ) (move : Move) → IsOfPoll e t move → least ≤ℤ t
      → MoveTimed least slot Unopened move
  poll_move least slot Unopened e t (Offers at cx v from sent) is low = λ here. subst (λ (m : ℤ). least ≤ℤ m) (sym is) low
  poll_move least slot Unopened e t (Invokes at cx old entry call new) is low = absurd is
  poll_move least slot Unopened e t (Passes entry) is low = tt
  poll_move least slot Unopened e t (Gives at cx v answer new sent) is low = tt
  poll_move least slot Unopened e t (Takes at cx v ip header bytes) is low = tt
  poll_move least slot Unopened e t (Receives at cx v ip udp bytes) is low = tt
  poll_move least slot Unopened e t (Resets x) is low = tt
  poll_move least slot Unopened e t (Changes at old new) is low = tt

  poll_timed : (e : Entry) (t : ℤ) (host : Side) (steps : List Step) (net : Net) → AllByRecursion (λ step. (step.side ≡ host) × IsOfPoll e t step.move) steps
      → ((s : Side) → host ≡ s → since s ≤ℤ t) → AllTimed since slots net steps
  poll_timed e t host [] net all low = tt
  poll_timed e t host (step ∷ steps) net all low = (
    poll_move (since step.side) (slots step.side) (IsUnopened slots net.history step.side) e t step.move all.0.1 (low step.side (sym all.0.0)),
    poll_timed e t host steps (after net step) all.1 low,
  )

  call_move : (least : ℤ) (slot : ℕ) (Unopened : Type 0) (e : Entry) (at : ℕ) (call : SocketCall) (shown : ℤ) (move : Move) → IsOfCall e at call shown move
      → (at ≡ slot → WhereSet Unopened call) → MoveTimed least slot Unopened move
  call_move least slot Unopened e at call shown (Invokes here cx old entry this new) is keeps =
      λ same. subst (WhereSet Unopened) (sym is.1) (keeps (sym is.0 ∙ same))
  call_move least slot Unopened e at call shown (Passes entry) is keeps = absurd is
  call_move least slot Unopened e at call shown (Offers here cx v from sent) is keeps = absurd is
  call_move least slot Unopened e at call shown (Gives here cx v answer new sent) is keeps = absurd is
  call_move least slot Unopened e at call shown (Takes here cx v ip header bytes) is keeps = absurd is
  call_move least slot Unopened e at call shown (Receives here cx v ip udp bytes) is keeps = absurd is
  call_move least slot Unopened e at call shown (Resets x) is keeps = absurd is
  call_move least slot Unopened e at call shown (Changes here old new) is keeps = absurd is

  passes_timed : (net : Net) (e : Entry) (steps : List Step) (side : Side) → steps ≡ record { side = side; move = Passes e } ∷ [] → AllTimed since slots net steps
  passes_timed net e steps side is = subst (AllTimed since slots net) (sym is) (tt, tt)

  kind_timed : (e : Entry) (k : Kind) (shown : Side → ℤ) (net : Net) (past : List Entry) (steps : List Step) → AreOfEvent e k shown steps → net.history ≡ past
      → ((s : Side) → KeepsTimeBy (since s) s (slots s) past k) → AllTimed since slots net steps
  kind_timed e (OfHost host (Polls t budget)) shown net past steps all of keeps = poll_timed e t host steps net all (λ s same. keeps s same)
  kind_timed e (OfHost host (Calls at call)) shown net past steps (move, is, its) of keeps =
      subst (AllTimed since slots net) (sym is) (
        call_move (since host) (slots host) (IsUnopened slots net.history host) e at call (shown host) move its
            (subst (λ (h : List Entry). at ≡ slots host → WhereSet (IsUnopened slots h host) call) (sym of) (keeps host refl)),
        tt,
      )
  kind_timed e (OfHost host (Sets setting)) shown net past steps is of keeps = passes_timed net e steps is.0 is.1
  kind_timed e (OfHost host (Opens n)) shown net past steps is of keeps = passes_timed net e steps is.0 is.1
  kind_timed e (OfHost host (Asks instant)) shown net past steps is of keeps = passes_timed net e steps is.0 is.1
  kind_timed e (OfLink act) shown net past steps is of keeps = passes_timed net e steps is.0 is.1

  pub all_timed : (starts : Starts) (net : Net) (past more : List Entry) (hosts : Nodes) (still : StillRun starts (more ++ past) hosts)
      (moves : List (ℤ × Step)) → MoveBy starts net past more hosts still moves → ((s : Side) → KeepsTime (since s) s (slots s) (more ++ past))
      → AllTimed since slots net (untimed moves)
  all_timed starts net past [] hosts still moves by keeps = subst (λ (xs : List (ℤ × Step)). AllTimed since slots net (untimed xs)) (sym by.0) tt
  all_timed starts net past (e ∷ more) hosts still moves by keeps =
      subst (AllTimed since slots net) (sym (ap untimed by.2 ∙ untimed_append by.0 (clock_in (e ∷ more ++ past)) by.1))
      (timed_append net (untimed by.0) by.1 (all_timed starts net past more still.0 still.1 by.0 by.3 (λ s. (keeps s).1))
      (kind_timed e (kind_of e.event) (shown_in starts (more ++ past)) (run net (untimed by.0)) (more ++ past) by.1 by.4.are
      (net_at starts net past more still.0 still.1 by.0 by.3).history (λ s. (keeps s).0)))

-- THE PAIR

-- what is so of the one is so of the other
where_set : (X Y : Type 0) (call : SocketCall) → (X → Y) → WhereSet X call → WhereSet Y call
where_set X Y (Call.Set (Changed.TsvalGenerator generator)) on is = on is
where_set X Y call on is = tt

module _ (since : Side → ℤ) where
  abbrev pub Timed : PairValue → Type 0
  Timed p = (s : Side) → IsTimed (since s) (side_in s) p.history

  abbrev Unopened : PairValue → Pairs.Side → Type 0
  Unopened p d = (at (pasts p.history) d).opening ≡ NotYet

  timed_here : (p : PairValue) (here slot : ℕ) (events : List PairEvent) → (here ≡ slot → Timed (after_events p events)) → Timed p
      → Timed (after_events p (if_here here slot events))
  timed_here p here slot events own all = by (eqb_tells here slot) where
    by : (((here == slot) ≡ true) × (here ≡ slot)) ⊎ (((here == slot) ≡ false) × (here ≢ slot)) → Timed (after_events p (if_here here slot events))
    by (inl same) = subst (λ (b : Bool). Timed (after_events p (if b then events else []))) (sym same.0) (own same.1)
    by (inr apart) = subst (λ (b : Bool). Timed (after_events p (if b then events else []))) (sym apart.0) all

  -- before some events the clock may go on
  timed_clock : (p : PairValue) (d : Pairs.Side) (m : ℤ) (b : Bool) (events : List PairEvent)
      → ((q : PairValue) → Timed q → at (pasts q.history) d ≡ at (pasts p.history) d → Timed (after_events q events)) → Timed p
      → Timed (after_events p ((if b then [] else Ev.Clock d m ∷ []) ++ events))
  timed_clock p d m true events then_ all = then_ p all refl
  timed_clock p d m false events then_ all = then_ (takes p (Ev.Clock d m)) (λ s. (λ own. tt, all s)) (clock_past p d d m)

  timed_set : (p : PairValue) (t : Side) (setting : TcpSetting) → WhereSet (Unopened p (side_in t)) (Call.Set setting) → Timed p
      → Timed (takes p (Ev.TcpSetting (side_in t) (setting_in setting)))
  timed_set p t (Changed.TsvalGenerator generator) keeps all = λ s. (λ own. subst (Unopened p) own keeps, all s)
  timed_set p t (Changed.Timeout duration) keeps all = λ s. (λ own. tt, all s)
  timed_set p t (Changed.AckDelay duration) keeps all = λ s. (λ own. tt, all s)
  timed_set p t (Changed.KeepAlive interval) keeps all = λ s. (λ own. tt, all s)
  timed_set p t (Changed.NagleEnabled enabled) keeps all = λ s. (λ own. tt, all s)
  timed_set p t (Changed.HopLimit hop_limit) keeps all = λ s. (λ own. tt, all s)
  timed_set p t (Changed.CongestionControl control) keeps all = λ s. (λ own. tt, all s)
  timed_set p t (Changed.PauseSynack paused) keeps all = λ s. (λ own. tt, all s)

  timed_call : (p : PairValue) (t : Side) (call : SocketCall) → WhereSet (Unopened p (side_in t)) call → Timed p
      → Timed (after_events p (called_by (side_in t) call))
  timed_call p t (Call.Set setting) keeps all = timed_set p t setting keeps all
  timed_call p t (Call.Listen port) keeps all = λ s. (λ own. tt, all s)
  timed_call p t (Call.Connect remote port) keeps all = λ s. (λ own. tt, all s)
  timed_call p t (Call.Send bytes) keeps all = λ s. (λ own. tt, all s)
  timed_call p t (Call.Recv limit) keeps all = λ s. (λ own. tt, all s)
  timed_call p t Call.Close keeps all = λ s. (λ own. tt, all s)
  timed_call p t Call.Abort keeps all = λ s. (λ own. tt, all s)
  timed_call p t Call.State keeps all = all
  timed_call p t (Call.Bind port) keeps all = all
  timed_call p t (Call.Ident ident) keeps all = all
  timed_call p t (Call.SendTo remote bytes) keeps all = all
  timed_call p t (Call.SendIcmp remote bytes) keeps all = all
  timed_call p t (Call.SendRaw bytes) keeps all = all
  timed_call p t (Call.RecvFrom limit) keeps all = all

  module _ (seats : Side → Seat) where
    abbrev slots : Side → ℕ
    slots s = (seats s).slot

    one_timed : (clocks : Side → ℤ) (net : Net) (p : PairValue) (last : ℤ) (t : Side) (number : ℕ) (move : Move) → Shows seats clocks net p
        → MoveTimed (since t) (slots t) (IsUnopened slots net.history t) move → Timed p → Timed (after_events p (events_of_move (slots t) last t number move))
    one_timed clocks net p last t number (Invokes here cx old entry call new) sh keeps all =
        timed_here p here (slots t) (clock_to (side_in t) last cx.instant ++ called_by (side_in t) call)
        (λ own.
        timed_clock p (side_in t) cx.instant (int_le cx.instant last) (called_by (side_in t) call)
        (λ q timed same.
        timed_call q t call
        (where_set (IsUnopened slots net.history t) (Unopened q (side_in t)) call
        (λ none. ap (λ (past : Past). past.opening) (same ∙ sh.past t) ∙ ap way_by none) (keeps own)) timed) all) all
    one_timed clocks net p last t number (Offers here cx v from sent) sh keeps all =
        timed_here p here (slots t) (Ev.Offer (side_in t) cx.instant (goes (offer_of cx v).socket.offered sent) ∷ [])
        (λ own. (λ s. (λ same. subst (λ (x : Side). since x ≤ℤ cx.instant) (same_in t s same) (keeps own), all s))) all
    one_timed clocks net p last t number (Takes here cx v ip header bytes) sh keeps all =
        timed_here p here (slots t) (clock_to (side_in t) last cx.instant ++ Ev.Deliver (side_in (other t)) number ∷ [])
        (λ own.
        timed_clock p (side_in t) cx.instant (int_le cx.instant last) (Ev.Deliver (side_in (other t)) number ∷ [])
        (λ q timed same. (λ s. (λ is. tt, timed s))) all) all
    one_timed clocks net p last t number (Passes entry) sh keeps all = all
    one_timed clocks net p last t number (Gives here cx v answer new sent) sh keeps all = all
    one_timed clocks net p last t number (Receives here cx v ip udp bytes) sh keeps all = all
    one_timed clocks net p last t number (Resets x) sh keeps all = all
    one_timed clocks net p last t number (Changes here old new) sh keeps all = all

    after_append : (p : PairValue) (xs ys : List PairEvent) → after_events p (xs ++ ys) ≡ after_events (after_events p xs) ys
    after_append p [] ys = refl
    after_append p (x ∷ xs) ys = after_append (takes p x) xs ys

    first_shows : (clocks : Side → ℤ) (net : Net) (p : PairValue) (moves : List Happening) → ShowsAlong seats clocks net p moves → Shows seats clocks net p
    first_shows clocks net p [] along = along
    first_shows clocks net p (x ∷ moves) along = along.0

    pub pair_timed : (moves : List Happening) (clocks : Side → ℤ) (net : Net) (p : PairValue) → ShowsAlong seats clocks net p moves
        → AllTimed since slots net (steps_of moves) → Timed p → Timed (after_events p (events_of_moves seats clocks moves))
    pair_timed [] clocks net p along keeps all = all
    pair_timed (x ∷ moves) clocks net p along keeps all =
        subst Timed (sym (after_append p (events_of_one seats clocks x) (events_of_moves seats (clocks_after seats clocks x.step) moves)))
        (pair_timed moves (clocks_after seats clocks x.step) (after net x.step) (after_events p (events_of_one seats clocks x)) along.1 keeps.1
        (one_timed clocks net p (clocks x.step.side) x.step.side x.number x.step.move (first_shows clocks net p (x ∷ moves) along) keeps.0 all))
