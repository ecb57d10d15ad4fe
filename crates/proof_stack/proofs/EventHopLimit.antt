-- Where hosts know each other throughout, what two connected sockets offer goes.
use Rattle.std.proofs.Common.{◌≡◌, inl, inr, ℕ, Bool, true, false, ℤ, List, [], ◌∷◌, ◌++◌, Option, Some, None, IfSome, refl, sym, ap, ◌∙◌, subst}
use Rattle.std.specs.Prelude.{not, ◌&&◌, int_lt}
use Rattle.std.specs.List.{AllByRecursion}
use Rattle.wire_ip.specs.Ip.{destination_of}
use Rattle.ip_wire.specs.HardwareAddress.{HardwareAddress}
use Rattle.ip_wire.specs.HardwareAddress.TheVariants as Hardware
use Rattle.ip_wire.specs.IpAddress.{IpAddress}
use Rattle.tcp_state.specs.Endpoints.{remote_of}
use Rattle.tcp_state.specs.declared.endpoints.FourTuple.{FourTuple}
use Rattle.tcp_state.specs.declared.offer.OpenOffer.{OpenOffer}
use Rattle.tcp_block.specs.Offers.{offer_of}
use Rattle.tcp_block.specs.Value.{TcpValue}
use Rattle.tcp_liveness.specs.Arrivals.{is_synchronized}
use Rattle.tcp_liveness.specs.Sent.{is_early}
use Rattle.tcp_refinement.specs.Endpoints.{GoesBetween}
use Rattle.tcp_refinement.proofs.NameLaws.{offer_between_ends}
use Rattle.interface.specs.Serve.{is_known}
use Rattle.iface_egress.specs.Meta.{neighbor_by, waits_by}
use Rattle.iface_egress.specs.declared.socket_meta.Waiting.{Waiting}
use Rattle.iface_tables.specs.Inner.{InnerValue, has_neighbor}
use Rattle.lan.specs.declared.at_link.history.event.Side.{Side}
use Rattle.lan.specs.Worlds.AtLink.Initial.{IsInitialWorld}
use Rattle.lan.specs.Worlds.AtLink.Happening.{Happening, goes}
use Rattle.lan.specs.Worlds.AtLink.History.{Entry}
use Rattle.lan.specs.Worlds.AtLink.Kinds.{Kind, kind_of, other}
use Rattle.lan.specs.Worlds.AtLink.Kinds.Act.{Asks, Calls, Opens, Polls, Sets}
use Rattle.lan.specs.Worlds.AtLink.Kinds.Kind.{OfHost, OfLink}
use Rattle.lan.specs.Worlds.AtLink.Moves.{IsRun, May, Move, Step, after, run}
use Rattle.lan.specs.Worlds.AtLink.Moves.Move.{Invokes, Passes, Offers, Gives, Takes, Receives, Resets, Changes}
use Rattle.lan.specs.Worlds.AtLink.Paired.{Seat}
use Rattle.lan.specs.Worlds.AtLink.Parties.{Net, party, socket_at}
use Rattle.lan.specs.Worlds.AtLink.Parties.Socket.{Tcp}
use Rattle.lan.specs.Worlds.AtLink.Runs.{Starts}
use Rattle.lan.specs.Worlds.AtLink.Node.{NodeValue, Nodes, node}
use Rattle.lan.specs.Worlds.Events.{AreTyped}
use Rattle.lan.specs.Worlds.Moves.Follows.{IsNetOf}
use Rattle.lan.specs.Worlds.Still.{StillRun, seats_of}
use Rattle.lan.proofs.Worlds.Moves.Calls.{names}
use Rattle.sim_link.specs.Medium.TheVariants as Medium
use Rattle.proof_stack.specs.Progress.Acquainted.{AreAcquainted}
use Rattle.proof_stack.specs.Progress.Ends.{AreBoth, AreConnected, IsConnected}
use Rattle.proof_stack.specs.Progress.Events.{AreOfEvent, MoveBy, clock_in, shown_in, untimed}
use Rattle.proof_stack.specs.Progress.KnownHopLimit.{AreSentTo, IsMarkedForKnown, IsSentTo, KnowEachOther, KnowsOther, KnowsThroughout}
use Rattle.proof_stack.specs.Progress.Linked.{AreLinked}
use Rattle.proof_stack.specs.Progress.Moving.{AreLetGo, IsLetGo}
use Rattle.proof_stack.specs.Progress.OneClock.{timed}
use Rattle.proof_stack.specs.Progress.Serving.{GiveTxToken, GivesTxToken, WaitsForNone}
use Rattle.proof_stack.proofs.EventFacts.{both_now, net_at}
use Rattle.proof_stack.proofs.EventGoes.{bare_knows}
use Rattle.proof_stack.proofs.EventHeard.{one_pair}
use Rattle.proof_stack.proofs.EventLeave.{All, all_append, call_lets_go, numbered_so, one_passes}
use Rattle.proof_stack.proofs.EventMoves.{untimed_append}
use Rattle.proof_stack.proofs.EventNamed.{Its, IsOurs, Stands, named_yet, ours_then, same_tcp}
use Rattle.proof_stack.proofs.EventSlots.{Later, at_net, step_moved}
use Rattle.proof_stack.proofs.Polls.Connected.{late_at}

-- A POLL

module _ (e : Entry) (t : ℤ) (side : Side) (slot : ℕ) (pair : FourTuple) (w : TcpValue) (still : is_synchronized w.tcb.state ≡ true)
    (N : IpAddress → HardwareAddress → Type 0) (to : HardwareAddress) (knows : N (remote_of pair.addresses) to) where
  abbrev AreIts : List Step → Type 0
  AreIts steps = AllByRecursion (Its e t side slot pair w still) steps

  abbrev StandsAt : Net → TcpValue → Type 0
  StandsAt net v = Stands e t side slot pair w still net v

  offer_lets : (cx : _) (v : TcpValue) (o : Option OpenOffer) (sent : Bool) → (offer_of cx v).socket.offered ≡ o → v.tcb.names.pair ≡ Some pair
      → IfSome o (λ (x : OpenOffer). (to : HardwareAddress) → N (destination_of x.header) to → sent ≡ true) → goes o sent ≡ true
  offer_lets cx v None sent offered named so = refl
  offer_lets cx v (Some o) sent offered named so =
      let ends = offer_between_ends cx v o offered in
      let between : GoesBetween pair o = subst (λ (q : FourTuple). GoesBetween q o) (one_pair ends.0 pair (sym ends.1 ∙ named)) ends.2 in
      so to (subst (λ (a : IpAddress). N a to) (sym between.destination) knows)

  lets : (net : Net) (move : Move) (v : TcpValue) → StandsAt net v → v.tcb.names.pair ≡ Some pair → May names net side move → IsSentTo N move
      → IsLetGo slot move
  lets net (Offers at cx u from sent) v stands named may so = λ here.
      let same : v ≡ u = same_tcp v u (sym stands ∙ subst (λ (n : ℕ). socket_at (party net side) n ≡ Some (Tcp u)) here may.0) in
      offer_lets cx u (offer_of cx u).socket.offered sent refl (subst (λ (y : TcpValue). y.tcb.names.pair ≡ Some pair) same named) so
  lets net (Takes at cx u ip header bytes) v stands named may so = tt
  lets net (Invokes at cx old entry call new) v stands named may so = tt
  lets net (Passes entry) v stands named may so = tt
  lets net (Gives at cx u given new sent) v stands named may so = tt
  lets net (Receives at cx u ip udp bytes) v stands named may so = tt
  lets net (Resets y) v stands named may so = tt
  lets net (Changes at old new) v stands named may so = tt

  pub poll_lets : (seats : Side → Seat) → (seats side).slot ≡ slot → (steps : List Step) (net : Net) (v : TcpValue) → AreIts steps → IsRun names net steps
      → AllByRecursion (λ step. IsSentTo N step.move) steps → StandsAt net v → is_early v.tcb.state ≡ false → IsOurs e t side slot pair w still v
      → StandsAt (run net steps) w → All seats steps
  poll_lets seats at [] net v all may sent stands late ours ends = tt
  poll_lets seats at (step ∷ steps) net v all may sent stands late ours ends =
      let one : Later e t side slot (party (after net step) side) v =
      step_moved e t side slot net step.side step.move all.0.0 all.0.1 may.0 v stands late in
      let named = named_yet e t side slot pair w still net (step ∷ steps) v all may stands late ends ours in
      let may_here : May names net side step.move = subst (λ (y : Side). May names net y step.move) all.0.0 may.0 in (
        subst (λ (y : Side). IsLetGo (seats y).slot step.move) (sym all.0.0)
            (subst (λ (n : ℕ). IsLetGo n step.move) (sym at) (lets net step.move v stands named may_here sent.0)),
        poll_lets seats at steps (after net step) one.new all.1 may.1 sent.1 one.stands one.stays.late
            (ours_then e t side slot pair w still v one.new one.stays ours) ends,
      )

-- ALL EVENTS

module _ (starts : Starts) (slots : Side → ℕ) (own : Side → HardwareAddress) (pairs : Side → FourTuple) where
  abbrev seats : Side → Seat
  seats = seats_of starts slots

  module _ (history : List Entry) (e : Entry) (old new : Nodes) (net : Net) (steps : List Step) (of : IsNetOf net old history)
      (may : IsRun names net steps) (then_of : IsNetOf (run net steps) new (e ∷ history)) (connected : AreBoth (λ side. IsConnected (pairs side)) slots old)
      (then_connected : AreBoth (λ side. IsConnected (pairs side)) slots new) where
    kind_lets : (k : Kind) → AreOfEvent e k (shown_in starts history) steps → AreSentTo k old new steps → GivesTxToken k new → KnowsOther own pairs k old new
        → All seats steps
    kind_lets (OfHost host (Polls t budget)) all sent leave known =
        let start = at_net net old history host (slots host) (IsConnected (pairs host)) of (connected host) in
        let end = at_net (run net steps) new (e ∷ history) host (slots host) (IsConnected (pairs host)) then_of (then_connected host) in
        poll_lets e t host (slots host) (pairs host) end.0 end.2.0 (KnowsThroughout t (node old host) (node new host)) (own (other host)) known.1 seats refl
        steps net start.0 all may (sent leave) start.1 (late_at start.0.tcb.state start.2.0) (inr start.2.1) end.1
    kind_lets (OfHost host (Calls at call)) (move, is, its) sent leave known =
        subst (All seats) (sym is) (call_lets_go e at call (shown_in starts history host) (slots host) move its, tt)
    kind_lets (OfHost host (Sets setting)) are sent leave known = one_passes seats e steps are.0 are.1
    kind_lets (OfHost host (Opens n)) are sent leave known = one_passes seats e steps are.0 are.1
    kind_lets (OfHost host (Asks instant)) are sent leave known = one_passes seats e steps are.0 are.1
    kind_lets (OfLink act) are sent leave known = one_passes seats e steps are.0 are.1

  all_lets : (net : Net) (past more : List Entry) (hosts : Nodes) (still : StillRun starts (more ++ past) hosts) (moves : List (ℤ × Step))
      → MoveBy starts net past more hosts still moves → GiveTxToken starts past more hosts still → AreConnected starts slots pairs past more hosts still
      → KnowEachOther own pairs starts past more hosts still → All seats (untimed moves)
  all_lets net past [] hosts still moves by leave connected known = subst (λ (xs : List (ℤ × Step)). All seats (untimed xs)) (sym by.0) tt
  all_lets net past (e ∷ more) hosts still moves (before, these, is, by, happens) leave connected known =
      let of : IsNetOf (run net (untimed before)) still.0 (more ++ past) = net_at starts net past more still.0 still.1 before by in
      let all : All seats (untimed before ++ these) =
      all_append seats (untimed before) these (all_lets net past more still.0 still.1 before by leave.0 connected.0 known.0)
      (kind_lets (more ++ past) e still.0 hosts (run net (untimed before)) these of happens.may happens.of
      (both_now (λ side. IsConnected (pairs side)) starts slots past more still.0 still.1 connected.0) connected.1 (kind_of e.event) happens.are happens.sent_to
      leave.1 known.1) in
      subst (All seats) (sym (ap untimed is ∙ untimed_append before (clock_in (e ∷ more ++ past)) these)) all

  pub are_let_go_there : (net : Net) (past more : List Entry) (hosts : Nodes) (still : StillRun starts (more ++ past) hosts) (moves : List (ℤ × Happening))
      → MoveBy starts net past more hosts still (timed moves) → GiveTxToken starts past more hosts still → AreConnected starts slots pairs past more hosts still
      → KnowEachOther own pairs starts past more hosts still → AreLetGo seats moves
  are_let_go_there net past more hosts still moves by leave connected known =
      numbered_so seats moves (all_lets net past more hosts still (timed moves) by leave connected known)

-- ON A MEDIUM THAT HAS NO HARDWARE ADDRESSES hosts know each other

abbrev pub no_address : Side → HardwareAddress
no_address side = Hardware.Ip

module _ (starts : Starts) (initial : IsInitialWorld starts) (medium : starts.a.capabilities.medium ≡ Medium.Ip) (pairs : Side → FourTuple) where
  kind_knows : (history : List Entry) (old new : Nodes) → AreTyped history → StillRun starts history old → (k : Kind) → KnowsOther no_address pairs k old new
  kind_knows history old new typed still (OfHost host (Polls t budget)) =
      let its = bare_knows starts history old initial medium typed still host in (its, λ frames waited. inl (its, refl))
  kind_knows history old new typed still (OfHost host (Calls at call)) = tt
  kind_knows history old new typed still (OfHost host (Sets setting)) = tt
  kind_knows history old new typed still (OfHost host (Opens n)) = tt
  kind_knows history old new typed still (OfHost host (Asks instant)) = tt
  kind_knows history old new typed still (OfLink act) = tt

  pub all_know : (past more : List Entry) (hosts : Nodes) (still : StillRun starts (more ++ past) hosts) → AreTyped (more ++ past)
      → KnowEachOther no_address pairs starts past more hosts still
  all_know past [] hosts still typed = tt
  all_know past (e ∷ more) hosts still typed =
      (all_know past more still.0 still.1 typed.1, kind_knows (more ++ past) still.0 hosts typed.1 still.1 (kind_of e.event))

pub acquainted : (starts : Starts) (slots : Side → ℕ) (delay : ℕ) (past more : List Entry) (hosts : Nodes) (still : StillRun starts (more ++ past) hosts)
    → IsInitialWorld starts → AreTyped (more ++ past) → AreLinked starts slots delay past more hosts still → AreAcquainted starts slots delay past more hosts still
acquainted starts slots delay past more hosts still initial typed linked = record {
  own = no_address;
  medium = λ side. record { from = tt; receiver = tt };
  pairs = linked.pairs;
  ends = linked.ends;
  known = all_know starts initial linked.medium linked.pairs past more hosts still typed;
  connected = linked.connected;
  leave = linked.leave;
  on_way = linked.on_way;
  carried = linked.carried;
}

-- A MARK for a neighbor that is known

pub waits_for_none_known : (s : NodeValue) (slot : ℕ) → IsMarkedForKnown slot s → WaitsForNone slot s
waits_for_none_known s slot marked at item here is = by item.meta.waiting (marked at item here is) where
  i : InnerValue
  i = s.host.inner

  by : (w : Option Waiting) → IfSome (neighbor_by w) (λ neighbor. has_neighbor i neighbor ≡ true) → waits_by w (is_known i (neighbor_by w)) i.instant ≡ false
  by None known = refl
  by (Some w) known = ap (λ (b : Bool). not b && int_lt i.instant w.silent_until) known
