-- Where a receive buffer has space after each event, it has some before each of their moves.
use Rattle.std.proofs.Common.{◌≡◌, inl, inr, ℕ, ◌≤◌, ℤ, false, List, [], ◌∷◌, ◌++◌, Option, Some, None, refl, sym, ap, ◌∙◌, subst, arith}
use Rattle.std.specs.List.{AllByRecursion}
use Rattle.tcp_block.specs.Value.{TcpValue, free_in}
use Rattle.tcp_liveness.specs.Sent.{is_early}
use Rattle.lan.specs.declared.at_link.history.event.Side.{Side}
use Rattle.lan.specs.declared.at_link.history.event.Side.TheVariants.{A, B}
use Rattle.lan.specs.Worlds.AtLink.Happening.{Happening}
use Rattle.lan.specs.Worlds.AtLink.History.{Entry}
use Rattle.lan.specs.Worlds.AtLink.Kinds.{Kind, kind_of}
use Rattle.lan.specs.Worlds.AtLink.Kinds.Act.{Asks, Calls, Opens, Polls, Sets}
use Rattle.lan.specs.Worlds.AtLink.Kinds.Kind.{OfHost, OfLink}
use Rattle.lan.specs.Worlds.AtLink.Moves.{IsRun, Move, Step, after, run}
use Rattle.lan.specs.Worlds.AtLink.Moves.Move.{Passes}
use Rattle.lan.specs.Worlds.AtLink.Paired.{Seat}
use Rattle.lan.specs.Worlds.AtLink.Parties.{Net, Party, Socket, party, socket_at}
use Rattle.lan.specs.Worlds.AtLink.Parties.Socket.{Icmp, Raw, Tcp, Udp}
use Rattle.lan.specs.Worlds.AtLink.Runs.{Starts}
use Rattle.lan.specs.Worlds.AtLink.Node.{Nodes, node}
use Rattle.lan.specs.Worlds.Moves.Follows.{IsNetOf}
use Rattle.lan.specs.Worlds.Still.{StillRun}
use Rattle.lan.proofs.Worlds.Moves.Calls.{names}
use Rattle.proof_stack.proofs.EventFacts.{net_at}
use Rattle.proof_stack.proofs.EventMoves.{untimed_append}
use Rattle.proof_stack.proofs.EventReads.{are_read}
use Rattle.proof_stack.proofs.EventSlots.{Later, at_net, step_moved}
use Rattle.proof_stack.proofs.Polls.Connected.{late_at}
use Rattle.proof_stack.proofs.Polls.Fills.{less_free}
use Rattle.proof_stack.specs.Progress.Events.{AreOfEvent, IsOfPoll, MoveBy, clock_in, shown_in, untimed}
use Rattle.proof_stack.specs.Progress.Moving.{IsReadInTime, IsTcp, SocketIs}
use Rattle.proof_stack.specs.Progress.OneClock.{KeepOneClock, timed}
use Rattle.proof_stack.specs.Progress.Serving.{HasSpace, HasSpaceThroughout, IsAtHost, IsReadWithin}

abbrev HasRoom : TcpValue → Type 0
HasRoom v = 1 ≤ free_in v

not_full : (o : Option Socket) → IsTcp o HasRoom → IsTcp o (λ v. free_in v ≡ 0) → ⊥
not_full None room full = full
not_full (Some (Udp v)) room full = full
not_full (Some Icmp) room full = full
not_full (Some Raw) room full = full
not_full (Some (Tcp v)) room full = omega (arith, room, full)

same_tcp : (v w : TcpValue) → Some (Tcp v) ≡ Some (Tcp w) → v ≡ w
same_tcp v w e = let one : Tcp v ≡ Tcp w = cc in cc

module _ (seats : Side → Seat) (side : Side) where
  abbrev slot : ℕ
  slot = (seats side).slot

  abbrev Room : Net → Type 0
  Room net = SocketIs seats net side HasRoom

  abbrev Stands : Net → TcpValue → Type 0
  Stands net v = socket_at (party net side) slot ≡ Some (Tcp v)

  stands_so : (net : Net) (v : TcpValue) → Stands net v → HasRoom v → Room net
  stands_so net v is room = subst (λ (o : Option Socket). IsTcp o HasRoom) (sym is) room

  -- before each of these moves
  abbrev Keeps : Net → List Step → Type 0
  Keeps net [] = Unit {0}
  Keeps net (step ∷ steps) = Room net × Keeps (after net step) steps

  numbered_so : (read : ℕ) (now : ℤ) (net : Net) (moves : List (ℤ × Happening)) → Keeps net (untimed (timed moves)) → IsReadInTime seats read now net side moves
  numbered_so read now net [] keeps = tt
  numbered_so read now net (x ∷ more) keeps = (
    λ full. absurd (not_full (socket_at (party net side) slot) keeps.0 full),
    numbered_so read x.0 (after net x.1.step) more keeps.1,
  )

  and_then : (net : Net) (first rest : List Step) → Keeps net first → Keeps (run net first) rest → Keeps net (first ++ rest)
  and_then net [] rest keeps on = on
  and_then net (step ∷ first) rest keeps on = (keeps.0, and_then (after net step) first rest keeps.1 on)

  -- A POLL of its host fills the buffer

  polled : (e : Entry) (t : ℤ) (net : Net) (steps : List Step) (v w : TcpValue) → AllByRecursion (λ step. (step.side ≡ side) × IsOfPoll e t step.move) steps
      → IsRun names net steps → Stands net v → is_early v.tcb.state ≡ false → Stands (run net steps) w → HasRoom w → Keeps net steps × (free_in w ≤ free_in v)
  polled e t net [] v w are may is late ends room =
      (tt, let same = ap (λ (x : TcpValue). free_in x) (same_tcp v w (sym is ∙ ends)) in omega (arith, same))
  polled e t net (step ∷ steps) v w are may is late ends room =
      let one : Later e t side slot (party (after net step) side) v =
      step_moved e t side slot net step.side step.move are.0.0 are.0.1 may.0 v is late in
      let rest = polled e t (after net step) steps one.new w are.1 may.1 one.stands one.stays.late ends room in
      let less = less_free v one.new one.stays.fills in
      let more = rest.1 in
      ((stands_so net v is (omega (arith, less, more, room)), rest.0), omega (arith, less, more))

  -- one of the other host leaves it
  elsewhere : (by : Side) (e : Entry) (t : ℤ) → ((net : Net) (move : Move) → party (after net (record { side = by; move = move })) side ≡ party net side)
      → (net : Net) (steps : List Step) → AllByRecursion (λ step. (step.side ≡ by) × IsOfPoll e t step.move) steps → Room net → Keeps net steps
  elsewhere by e t apart net [] are room = tt
  elsewhere by e t apart net (step ∷ steps) are room = (room, elsewhere by e t apart (after net step) steps are.1 next) where
    same : party (after net step) side ≡ party net side
    same = subst (λ (s : Side). party (after net (record { side = s; move = step.move })) side ≡ party net side) (sym are.0.0) (apart net step.move)

    next : Room (after net step)
    next = subst (λ (p : Party). IsTcp (socket_at p slot) HasRoom) (sym same) room

-- THE MOVES OF ONE EVENT

module _ (seats : Side → Seat) (history past : List Entry) (old new : Nodes) (net : Net) (steps : List Step) (may : IsRun names net steps)
    (of : IsNetOf net old past) (ends : IsNetOf (run net steps) new history) where
  abbrev At : Side → Nodes → Type 0
  At side hosts = IsAtHost (seats side).slot (node hosts side) HasSpace

  before : (side : Side) → At side old → Room seats side net
  before side is =
      let there = at_net net old past side (seats side).slot HasSpace of is in
      stands_so seats side net there.0 there.1 there.2.1

  own : (side : Side) (e : Entry) (t : ℤ) → AllByRecursion (λ step. (step.side ≡ side) × IsOfPoll e t step.move) steps → At side old → At side new → Keeps seats side net steps
  own side e t are is then =
      let there = at_net net old past side (seats side).slot HasSpace of is in
      let following = at_net (run net steps) new history side (seats side).slot HasSpace ends then in
      (polled seats side e t net steps there.0 following.0 are may there.1 (late_at there.0.tcb.state there.2.0) following.1 following.2.1).0

  of_poll : (by side : Side) (e : Entry) (t : ℤ) → AllByRecursion (λ step. (step.side ≡ by) × IsOfPoll e t step.move) steps → At side old → At side new
      → Keeps seats side net steps
  of_poll A A e t are is then = own A e t are is then
  of_poll B B e t are is then = own B e t are is then
  of_poll A B e t are is then = elsewhere seats B A e t (λ net move. refl) net steps are (before B is)
  of_poll B A e t are is then = elsewhere seats A B e t (λ net move. refl) net steps are (before A is)

  one : (side by : Side) (move : Move) → steps ≡ record { side = by; move = move } ∷ [] → At side old → Keeps seats side net steps
  one side by move is at = subst (λ (ss : List Step). Keeps seats side net ss) (sym is) (before side at, tt)

  of_kind : (side : Side) (e : Entry) (k : Kind) (shown : Side → ℤ) → AreOfEvent e k shown steps → At side old → At side new → Keeps seats side net steps
  of_kind side e (OfHost by (Calls at call)) shown are is then = one side by are.0 are.1 is
  of_kind side e (OfHost by (Sets setting)) shown are is then = one side are.0 (Passes e) are.1 is
  of_kind side e (OfHost by (Opens n)) shown are is then = one side are.0 (Passes e) are.1 is
  of_kind side e (OfHost by (Asks t)) shown are is then = one side are.0 (Passes e) are.1 is
  of_kind side e (OfHost by (Polls t budget)) shown are is then = of_poll by side e t are is then
  of_kind side e (OfLink act) shown are is then = one side are.0 (Passes e) are.1 is

-- THE MOVES OF ALL EVENTS

space_now : (starts : Starts) (slot : ℕ) (side : Side) (past more : List Entry) (hosts : Nodes) (still : StillRun starts (more ++ past) hosts)
    → HasSpaceThroughout starts slot side past more hosts still → IsAtHost slot (node hosts side) HasSpace
space_now starts i side past [] hosts still are = are
space_now starts i side past (e ∷ more) hosts still are = are.1

module _ (seats : Side → Seat) (side : Side) (starts : Starts) (net : Net) (past : List Entry) where
  all : (more : List Entry) (hosts : Nodes) (still : StillRun starts (more ++ past) hosts) (moves : List (ℤ × Step)) → MoveBy starts net past more hosts still moves
      → HasSpaceThroughout starts (seats side).slot side past more hosts still → Keeps seats side net (untimed moves)
  all [] hosts still moves by are = subst (λ (xs : List (ℤ × Step)). Keeps seats side net (untimed xs)) (sym by.0) tt
  all (e ∷ more) hosts still moves (before, these, is, by, happens) are =
      let of = net_at starts net past more still.0 still.1 before by in
      subst (λ (ss : List Step). Keeps seats side net ss) (sym (ap untimed is ∙ untimed_append before (clock_in (e ∷ more ++ past)) these))
      (and_then seats side net (untimed before) these (all more still.0 still.1 before by are.0)
      (of_kind seats (e ∷ more ++ past) (more ++ past) still.0 hosts (run net (untimed before)) these happens.may of happens.of side e (kind_of e.event)
      (shown_in starts (more ++ past)) happens.are (space_now starts (seats side).slot side past more still.0 still.1 are.0) are.1))

pub read_in_time : (starts : Starts) (net : Net) (past more : List Entry) (hosts : Nodes) (still : StillRun starts (more ++ past) hosts) (seats : Side → Seat)
    (moves : List (ℤ × Happening)) (side : Side) (read : ℕ) → MoveBy starts net past more hosts still (timed moves)
    → HasSpaceThroughout starts (seats side).slot side past more hosts still → IsReadInTime seats read (clock_in past) net side moves
read_in_time starts net past more hosts still seats moves side read by are =
    numbered_so seats side read (clock_in past) net moves (all seats side starts net past more hosts still (timed moves) by are)

-- never full, or read often
pub read_within : (starts : Starts) (net : Net) (past more : List Entry) (hosts : Nodes) (still : StillRun starts (more ++ past) hosts) (seats : Side → Seat)
    (moves : List (ℤ × Happening)) (side : Side) (read : ℕ) → MoveBy starts net past more hosts still (timed moves)
    → KeepOneClock starts (λ s. (seats s).slot) past more → IsReadWithin starts (seats side).slot read side past more hosts still
    → IsReadInTime seats read (clock_in past) net side moves
read_within starts net past more hosts still seats moves side read by keep (inl space) =
    read_in_time starts net past more hosts still seats moves side read by space
read_within starts net past more hosts still seats moves side read by keep (inr often) =
    are_read starts net past more hosts still seats moves side read often.0 by keep often.1
