-- The socket of a slot in a poll: as long as its connection isn't over it has the endpoints that it has after the poll.
use Rattle.std.proofs.Common.{◌≡◌, ◌⊎◌, inl, inr, ℕ, true, false, ℤ, List, Some, sym, ◌∙◌, subst}
use Rattle.std.specs.List.{AllByRecursion}
use Rattle.tcp_state.specs.States.{is_closed}
use Rattle.tcp_state.specs.declared.endpoints.FourTuple.{FourTuple}
use Rattle.tcp_block.specs.Value.{TcpValue}
use Rattle.tcp_liveness.specs.Arrivals.{is_synchronized}
use Rattle.tcp_liveness.specs.Sent.{is_early}
use Rattle.lan.specs.declared.at_link.history.event.Side.{Side}
use Rattle.lan.specs.Worlds.AtLink.History.{Entry}
use Rattle.lan.specs.Worlds.AtLink.Moves.{IsRun, Step, run}
use Rattle.lan.specs.Worlds.AtLink.Parties.{Net, party, socket_at}
use Rattle.lan.specs.Worlds.AtLink.Parties.Socket.{Tcp}
use Rattle.lan.proofs.Worlds.Moves.Calls.{names}
use Rattle.proof_stack.specs.Progress.Events.{IsOfPoll}
use Rattle.proof_stack.proofs.EventSlots.{Later, all_moved}
use Rattle.proof_stack.proofs.Polls.Connected.{StaysLate, not_over}

clash : {X : Type 0} → true ≡ false → X
clash {X} e = absurd cc

pub same_tcp : (v w : TcpValue) → Some (Tcp v) ≡ Some (Tcp w) → v ≡ w
same_tcp v w e = let one : Tcp v ≡ Tcp w = cc in cc

module _ (e : Entry) (t : ℤ) (side : Side) (slot : ℕ) (pair : FourTuple) (w : TcpValue) (still : is_synchronized w.tcb.state ≡ true) where
  abbrev pub Its : Step → Type 0
  Its step = (step.side ≡ side) × IsOfPoll e t step.move

  abbrev pub Stands : Net → TcpValue → Type 0
  Stands net v = socket_at (party net side) slot ≡ Some (Tcp v)

  -- the socket has its connection, or that is over
  abbrev pub IsOurs : TcpValue → Type 0
  IsOurs v = (is_closed v.tcb.state ≡ true) ⊎ (v.tcb.names.pair ≡ Some pair)

  pub ours_then : (v new : TcpValue) → StaysLate v new → IsOurs v → IsOurs new
  ours_then v new stays (inl over) = inl (stays.closed over)
  ours_then v new stays (inr named) = by stays.pair where
    by : (is_closed new.tcb.state ≡ true) ⊎ (new.tcb.names.pair ≡ v.tcb.names.pair) → IsOurs new
    by (inl over) = inl over
    by (inr same) = inr (same ∙ named)

  -- it isn't over yet
  pub named_yet : (net : Net) (steps : List Step) (v : TcpValue) → AllByRecursion Its steps → IsRun names net steps → Stands net v → is_early v.tcb.state ≡ false
      → Stands (run net steps) w → IsOurs v → v.tcb.names.pair ≡ Some pair
  named_yet net steps v all may stands late ends (inr named) = named
  named_yet net steps v all may stands late ends (inl over) =
      let on : Later e t side slot (party (run net steps) side) v = all_moved e t side slot steps net v all may stands late in
      let same : on.new ≡ w = same_tcp on.new w (sym on.stands ∙ ends) in
      let then_over : is_closed w.tcb.state ≡ true = subst (λ (x : TcpValue). is_closed x.tcb.state ≡ true) same (on.stays.closed over) in
      clash (sym then_over ∙ not_over w.tcb.state still)
