-- What is asked of each event: that a frame which is taken brings its segment, and that a segment which is new goes in a frame.
use Rattle.std.proofs.Common.{◌≡◌, ◌≢◌, inl, inr, ℕ, ◌≤◌, Bool, true, false, ℤ, IsTrue, List, [], ◌∷◌, ◌++◌, Option, Some, None, refl, sym, ap, ◌∙◌, subst, arith}
use Rattle.std.specs.Prelude.{slice_get, slice_index_or, not, ◌&&◌, ◌||◌}
use Rattle.wire_ip.specs.declared.ip.repr.IpRepr.{IpRepr}
use Rattle.std.proofs.lemmas.Bool.{or_left}
use Rattle.std.proofs.lemmas.Slice.Eq.{bytes_eq-Decides}
use Rattle.ip_wire.specs.AddressTests.{is_ethernet_broadcast, is_ethernet_multicast, is_same_hardware}
use Rattle.ip_wire.specs.HardwareAddress.{HardwareAddress}
use Rattle.ip_wire.specs.HardwareAddress.TheVariants as Hardware
use Rattle.wire_ip.specs.Ip.{destination_of}
use Rattle.ip_wire.specs.IpAddress.{IpAddress}
use Rattle.ip_wire.specs.IpAddress.TheVariants as Address
use Rattle.ip_wire.specs.TcpHeader.{TcpHeader}
use Rattle.tcp_state.specs.Endpoints.{local_of, remote_of}
use Rattle.tcp_state.specs.States.{is_listening}
use Rattle.tcp_state.specs.declared.endpoints.FourTuple.{FourTuple}
use Rattle.tcp_state.specs.declared.state.State.{State as TcpState}
use Rattle.tcp_state.specs.declared.state.State.TheVariants as In
use Rattle.tcp_block.specs.Names.{accepts}
use Rattle.tcp_block.specs.Value.{TcpValue}
use Rattle.tcp_liveness.specs.Arrivals.{is_synchronized}
use Rattle.tcp_liveness.proofs.Accepts.{accepted_by, between}
use Rattle.tcp_refinement.specs.Host.{Made, made_of}
use Rattle.interface.specs.Delivered.{AreOfOneMedium}
use Rattle.iface_tables.specs.Inner.{InnerValue}
use Rattle.iface_ingress.specs.Replies.{is_one_host}
use Rattle.iface_tables.specs.Settings.{is_mtu}
use Rattle.sim_link.specs.Port.{has_tx_token}
use Rattle.lan.specs.declared.at_link.history.event.Side.{Side}
use Rattle.lan.specs.declared.at_link.history.event.Side.TheVariants.{A, B}
use Rattle.lan.specs.declared.at_link.history.record.Opening.{Opening}
use Rattle.lan.specs.Worlds.AtLink.Initial.{IsInitialWorld}
use Rattle.lan.specs.Worlds.AtLink.Happening.{sent_in}
use Rattle.lan.specs.Worlds.AtLink.History.{Entry, opening}
use Rattle.lan.specs.Worlds.AtLink.Kinds.{Kind, kind_of, other}
use Rattle.lan.specs.Worlds.AtLink.Kinds.Act.{Asks, Calls, Opens, Polls, Sets}
use Rattle.lan.specs.Worlds.AtLink.Kinds.Kind.{OfHost, OfLink}
use Rattle.lan.specs.Worlds.AtLink.Call.{SocketCall}
use Rattle.lan.specs.Worlds.AtLink.Moves.{IsRun, Move, Step, after, run}
use Rattle.lan.specs.Worlds.AtLink.Moves.Move.{Invokes, Passes, Offers, Gives, Takes, Receives, Resets, Changes}
use Rattle.lan.specs.Worlds.AtLink.Paired.{Seat}
use Rattle.lan.specs.Worlds.AtLink.Parties.{Net, slots_of}
use Rattle.lan.specs.Worlds.AtLink.Parties as Parties
use Rattle.lan.specs.Worlds.AtLink.Runs.{Leads, Starts, start}
use Rattle.lan.specs.Worlds.AtLink.Safe.{first_port}
use Rattle.lan.specs.Worlds.AtLink.Node.{Nodes, node}
use Rattle.lan.specs.Worlds.AtLink.Tables.{Slots}
use Rattle.lan.specs.Worlds.Events.{AreTyped}
use Rattle.lan.specs.Worlds.Moves.Follows.{IsNetOf, sockets_of}
use Rattle.lan.specs.Worlds.Moves.Joined.{first_net}
use Rattle.lan.specs.Worlds.Still.{StillRun, seats_of}
use Rattle.lan.proofs.Worlds.AtLink.Extended.{IsRun-append, run-append}
use Rattle.lan.proofs.Worlds.AtLink.PeerSideLemmas.{opening_stays}
use Rattle.lan.proofs.Worlds.AtLink.Runs.{Kept, initial_kept, kept_run}
use Rattle.lan.proofs.Worlds.Moves.Calls.{names}
use Rattle.lan.proofs.Worlds.Moves.Held.{IsSeenAs}
use Rattle.lan.proofs.Worlds.Moves.Nets.{step_of}
use Rattle.lan.proofs.Worlds.Moves.Worlds.{initial_net}
use Rattle.lan.proofs.Worlds.Runs.{AreWell, has_come}
use Rattle.lan.proofs.Worlds.StillOnward.{ran, seen_in_run}
use Rattle.proof_stack.specs.Progress.FramesInTransit.{SendsIn}
use Rattle.proof_stack.specs.Progress.Ends.{AreBoth, AreConnected, AreEnds, AreThroughout, GoesAlong, IsConnected}
use Rattle.proof_stack.specs.Progress.Events.{AreGone, AreOfEvent, HappensBy, IsOfCall, MoveBy, clock_in, shown_in, untimed}
use Rattle.proof_stack.specs.Progress.Delivered.{hears, is_misframed_to}
use Rattle.proof_stack.specs.Progress.KnownHopLimit.{KnowEachOther, KnowsOther, KnowsThroughout}
use Rattle.proof_stack.specs.Progress.Leave.{LiesAmong}
use Rattle.proof_stack.specs.Progress.Moving.{IsTcp}
use Rattle.proof_stack.specs.Progress.Serving.{GiveTxToken, GivesTxToken}
use Rattle.proof_stack.specs.Progress.Takings.{ComesBy, IsForHost, IsOfConnection}
use Rattle.proof_stack.proofs.EventCarried.{AreFacts, BringsAmong, IsAmong, IsFact, WentIn}
use Rattle.proof_stack.proofs.EventFrames.{IsFrameOf, can_read, for_host_same, never_same, stayed, with_routes}
use Rattle.proof_stack.proofs.EventHeard.{IsReadyHost}
use Rattle.proof_stack.proofs.EventHears.{Brings}
use Rattle.proof_stack.proofs.EventHears as Hears
use Rattle.proof_stack.proofs.EventMade.{AreOpened, IsNoReset, Makes, new_of}
use Rattle.proof_stack.proofs.EventMoves.{untimed_append}
use Rattle.proof_stack.proofs.EventSlots.{at_net, comes_as_read}
use Rattle.proof_stack.proofs.Polls.Connected.{late_at}

clash : {X : Type 0} → true ≡ false → X
clash {X} e = absurd cc

mtu_enough : (mtu : ℕ) → is_mtu mtu ≡ true → 576 ≤ mtu
mtu_enough mtu is = grind (arith, is)

back : (side : Side) → other (other side) ≡ side
back A = refl
back B = refl

-- THE RECEIVER

heard_with : (first i : InnerValue) (ip : IpRepr) → IsForHost first Hardware.Ip ip → IsForHost (with_routes first i) Hardware.Ip ip
heard_with first i ip is = record { heard = is.heard; framed = is.framed; sender = is.sender; here = is.here; ours = is.ours; named = is.named }

-- at a host without host requirements a frame to many may bring a packet to one
unframed : (i : InnerValue) (to : HardwareAddress) (a : IpAddress) → i.host_requirements ≡ false → is_misframed_to i to a ≡ false
unframed i Hardware.Ip a alone = refl
unframed i (Hardware.Ethernet node) (Address.Ipv4 a) alone = λ k.
    (alone k && (is_ethernet_broadcast node || is_ethernet_multicast node)) && is_one_host i a
unframed i (Hardware.Ethernet node) (Address.Ipv6 a) alone = refl

-- a host hears what is for its own address
hears_its_own : (i : InnerValue) → hears i i.hardware ≡ true
hears_its_own i = by i.hardware refl where
  by : (h : HardwareAddress) → i.hardware ≡ h → hears i h ≡ true
  by Hardware.Ip is = refl
  by (Hardware.Ethernet node) is =
      or_left (is_same_hardware i.hardware (Hardware.Ethernet node)) _
      (ap (λ (h : HardwareAddress). is_same_hardware h (Hardware.Ethernet node)) is ∙ (bytes_eq-Decides node.0 node.0).1 refl)

-- the socket of the other end has the connection of what goes along
listens_not : (v : TcpValue) → is_synchronized v.tcb.state ≡ true → is_listening v.tcb.state ≡ false
listens_not v is = by v.tcb.state is where
  by : (state : TcpState) → is_synchronized state ≡ true → is_listening state ≡ false
  by In.Listen is = clash (sym is)
  by other is = refl

connected_so : (pair own : FourTuple) (ip : IpRepr) (header : TcpHeader) (v : TcpValue) → IsConnected own v → remote_of pair.addresses ≡ local_of own.addresses
    → remote_of own.addresses ≡ local_of pair.addresses → pair.remote_port ≡ own.local_port → own.remote_port ≡ pair.local_port → GoesAlong pair ip
    → header.src_port ≡ pair.local_port → header.dst_port ≡ pair.remote_port → IsOfConnection ip header v
connected_so pair own ip header v is to from port own_port along source destination = (
  is.0,
  ap (λ (l : Bool). not l && accepts v.tcb ip header) (listens_not v is.0)
      ∙ accepted_by v.tcb own ip header is.0 is.1
      (between own ip header (sym to ∙ sym along.destination) (from ∙ sym along.source) (sym port ∙ sym destination) (own_port ∙ sym source)),
)

-- A BROUGHT ONE AMONG THE MOVES

among_moves : (Bring : Side → Made → Step → Type 0) (Frame : Side → Made → List ℕ → Type 0) (sent : Net → Side → List Made) (side : Side) (x : Made)
    (before : List Step) (step : Step) (following : List Step) → Bring side x step → BringsAmong Bring Frame sent side x (before ++ step ∷ following)
among_moves Bring Frame sent side x [] step following brings = inl brings
among_moves Bring Frame sent side x (y ∷ before) step following brings = inr (among_moves Bring Frame sent side x before step following brings)

-- a call makes no segment
pub call_none : (e : Entry) (at : ℕ) (call : SocketCall) (shown : ℤ) (move : Move) → IsOfCall e at call shown move
    → IsNoReset move × ((slot : ℕ) (x : Made) → Makes slot x move → ⊥)
call_none e at call shown (Invokes here cx old entry this new) is = (tt, λ slot x makes. makes)
call_none e at call shown (Passes entry) is = absurd is
call_none e at call shown (Offers here cx v from sent) is = absurd is
call_none e at call shown (Gives here cx v answer new sent) is = absurd is
call_none e at call shown (Takes here cx v ip header bytes) is = absurd is
call_none e at call shown (Receives here cx v ip udp bytes) is = absurd is
call_none e at call shown (Resets x) is = absurd is
call_none e at call shown (Changes here old new) is = absurd is

tcp_so : (o : Option Parties.Socket) (P Q : TcpValue → Type 0) → ((v : TcpValue) → P v → Q v) → IsTcp o P → IsTcp o Q
tcp_so None P Q so is = absurd is
tcp_so (Some (Parties.Tcp v)) P Q so is = so v is
tcp_so (Some (Parties.Udp v)) P Q so is = absurd is
tcp_so (Some Parties.Icmp) P Q so is = absurd is
tcp_so (Some Parties.Raw) P Q so is = absurd is

-- THE MOVES SO FAR

pub moves_run : (starts : Starts) (net : Net) (past more : List Entry) (hosts : Nodes) (still : StillRun starts (more ++ past) hosts) (moves : List (ℤ × Step))
    → MoveBy starts net past more hosts still moves → IsRun names net (untimed moves)
moves_run starts net past [] hosts still moves by = subst (λ (xs : List (ℤ × Step)). IsRun names net (untimed xs)) (sym by.0) tt
moves_run starts net past (e ∷ more) hosts still moves by =
    subst (IsRun names net) (sym (ap untimed by.2 ∙ untimed_append by.0 (clock_in (e ∷ more ++ past)) by.1))
    (IsRun-append names net (untimed by.0) by.1 (moves_run starts net past more still.0 still.1 by.0 by.3) by.4.may)

pub net_at : (starts : Starts) (net : Net) (past more : List Entry) (hosts : Nodes) (still : StillRun starts (more ++ past) hosts) (moves : List (ℤ × Step))
    → MoveBy starts net past more hosts still moves → IsNetOf (run net (untimed moves)) hosts (more ++ past)
net_at starts net past [] hosts still moves by = subst (λ (xs : List (ℤ × Step)). IsNetOf (run net (untimed xs)) hosts past) (sym by.0) by.1
net_at starts net past (e ∷ more) hosts still moves by =
    let t = clock_in (e ∷ more ++ past) in
    subst (λ (n : Net). IsNetOf n hosts (e ∷ more ++ past))
    (sym (run-append net (untimed by.0) by.1) ∙ ap (run net) (sym (untimed_append by.0 t by.1))
    ∙ ap (λ (xs : List (ℤ × Step)). run net (untimed xs)) (sym by.2)) by.4.of

pub opened_on : (past more : List Entry) (side : Side) (i : ℕ) (o : Opening) → opening past side i ≡ Some o → opening (more ++ past) side i ≡ Some o
opened_on past [] side i o is = is
opened_on past (e ∷ more) side i o is = opening_stays (more ++ past) e side i o (opened_on past more side i o is)

pub both_now : (IsSo : Side → TcpValue → Type 0) (starts : Starts) (slots : Side → ℕ) (past more : List Entry) (hosts : Nodes)
    (still : StillRun starts (more ++ past) hosts) → AreThroughout IsSo starts slots past more hosts still → AreBoth IsSo slots hosts
both_now IsSo starts slots past [] hosts still are = are
both_now IsSo starts slots past (e ∷ more) hosts still are = are.1

-- A WORLD

module _ (starts : Starts) (initial : IsInitialWorld starts) (own : Side → HardwareAddress)
    (of_one : (side : Side) → AreOfOneMedium (own side) (own (other side)) (own (other side))) (slots : Side → ℕ) (pairs : Side → FourTuple)
    (ends : AreEnds starts pairs) where
  abbrev pub seats : Side → Seat
  seats = seats_of starts slots

  abbrev pub pls : Slots
  pls = slots_of names (first_net starts)

  abbrev pub ports : Side → ℕ → ℕ
  ports = first_port starts

  abbrev first : Side → InnerValue
  first s = (start starts s).host.inner

  first_mtu : (s : Side) → is_mtu (first s).mtu ≡ true
  first_mtu A = initial.a.mtu
  first_mtu B = initial.b.mtu

  alone : (s : Side) → (first s).host_requirements ≡ false
  alone A = initial.a.alone
  alone B = initial.b.alone

  -- its hosts, after a history
  module _ (history : List Entry) (hosts : Nodes) (still : StillRun starts history hosts) (typed : AreTyped history) where
    abbrev inner : Side → InnerValue
    inner s = (node hosts s).host.inner

    well : AreWell starts history hosts (has_come starts history hosts initial typed (ran starts history hosts still)).net
    well = (has_come starts history hosts initial typed (ran starts history hosts still)).joined

    seen : (s : Side) → IsSeenAs (first s) (inner s)
    seen s = seen_in_run starts history hosts still s

    pub ready : (s : Side) → (inner s).hardware ≡ own s → IsReadyHost (inner s) (pairs s) (own s)
    ready s its = record {
      hardware = its;
      seals = (well.joined.sends s).sound.checksums;
      enough = subst (λ (n : ℕ). 576 ≤ n) (sym (seen s).mtu) (mtu_enough (first s).mtu (first_mtu s));
      widths = (well.joined.sends s).sound.widths;
      never = λ ip along. never_same (with_routes (first s) (inner s)) (inner s) (stayed (first s) (inner s) (seen s)) ip ∙ ends.let_go s ip along;
    }

    pub for_host : (s : Side) (ip : IpRepr) → (inner (other s)).hardware ≡ own (other s) → GoesAlong (pairs s) ip → IsForHost (inner (other s)) (own (other s)) ip
    for_host s ip its along =
        let o = other s in
        for_host_same (with_routes (first o) (inner o)) (inner o) (stayed (first o) (inner o) (seen o)) (own o) ip
        (subst (λ (h : HardwareAddress). hears (inner o) h ≡ true) its (hears_its_own (inner o)))
        (unframed (inner o) (own o) (destination_of ip) ((seen o).host_requirements ∙ alone o))
        (heard_with (first o) (inner o) ip (ends.taken_in s ip along))

  -- ONE EVENT

  abbrev Brought : Side → Made → Step → Type 0
  Brought side x step = Brings slots side x step

  abbrev Frame : Side → Made → List ℕ → Type 0
  Frame side x frame = IsFrameOf (pairs side) (own side) (own (other side)) x frame

  abbrev pub Fact : Kind → Nodes → Nodes → Net → List Step → Type 0
  Fact k old new net steps = IsFact Brought Frame (sent_in seats) k old new net steps

  remote_named : (side : Side) → (pairs side).remote_port ≢ 0
  remote_named side zero = ends.named (other side) (sym (ends.ports side) ∙ zero)

  -- nothing is new after a move that makes nothing
  none_goes : (Goes : Side → List ℕ → Type 0) (net : Net) (steps : List Step) (s : Side) (move : Move) → Kept ports pls net → AreOpened ports pls seats net
      → IsRun names net steps → steps ≡ step_of s move ∷ [] → IsNoReset move → ((slot : ℕ) (x : Made) → Makes slot x move → ⊥)
      → WentIn Brought Frame (sent_in seats) Goes net steps
  none_goes Goes net steps s move kept opened may is quiet none =
      subst (λ (ss : List Step). WentIn Brought Frame (sent_in seats) Goes net ss) (sym is) (
        λ side k new. absurd (
            let mays : IsRun names net (step_of s move ∷ []) = subst (IsRun names net) is may in
            let found = new_of ports pls seats net kept opened s move mays.0 quiet side k new.0 new.1 in
            none (seats s).slot found.1 found.3
            ),
        tt,
      )

  -- in which of the frames
  went_so : (Goes Those : Side → List ℕ → Type 0) (net : Net) (steps : List Step) → ((side : Side) (frame : List ℕ) → Goes side frame → Those side frame)
      → WentIn Brought Frame (sent_in seats) Goes net steps → WentIn Brought Frame (sent_in seats) Those net steps
  went_so Goes Those net [] so went = tt
  went_so Goes Those net (step ∷ steps) so went = (
    λ side k new. (let (x, frame, is, of, goes) = went.0 side k new in (x, frame, is, of, so side frame goes)),
    went_so Goes Those (after net step) steps so went.1,
  )

  module _ (so_far : List Step) (so_far_runs : IsRun names (first_net starts) so_far) (history : List Entry) (e : Entry) (old new : Nodes)
      (still : StillRun starts history old) (leads : Leads history old e new) (typed : AreTyped history) (steps : List Step)
      (of : IsNetOf (run (first_net starts) so_far) old history)
      (happens : HappensBy starts history e old new (run (first_net starts) so_far) steps) (connected : AreBoth (λ side. IsConnected (pairs side)) slots old)
      (then_connected : AreBoth (λ side. IsConnected (pairs side)) slots new) (opened : AreOpened ports pls seats (run (first_net starts) so_far)) where
    abbrev net : Net
    net = run (first_net starts) so_far

    kept : Kept ports pls net
    kept = kept_run ports pls (first_net starts) so_far (initial_kept ports names (first_net starts) (initial_net starts initial)) so_far_runs

    -- which side's frames went, of a kind of event
    abbrev Gone : Kind → Side → List ℕ → Type 0
    Gone k side frame = (frames : List (List ℕ)) × SendsIn k old new side frames × IsAmong frames frame

    passed_by : (k : Kind) (s : Side) → steps ≡ step_of s (Passes e) ∷ [] → WentIn Brought Frame (sent_in seats) (Gone k) net steps
    passed_by k s are = none_goes (Gone k) net steps s (Passes e) kept opened happens.may are tt (λ slot x makes. makes)

    -- a frame that is taken
    taken : (side : Side) (t : ℤ) (budget : ℕ) → (node old (other side)).host.inner.hardware ≡ own (other side)
        → kind_of e.event ≡ OfHost (other side) (Polls t budget) → IsTrue (has_tx_token (node new (other side)).link)
        → (x : Made) (frame : List ℕ) → Frame side x frame → LiesAmong (node old (other side)).link.waiting budget frame
        → BringsAmong Brought Frame (sent_in seats) side x steps
    taken side t budget its is leave x frame f lies =
        let o = other side in
        let mine = ready history old still typed o its in
        let comes : ComesBy o (slots o) t f.ip f.header f.bytes steps =
        comes_as_read starts so_far steps history old new e o t budget (slots o) f.i f.ident f.ip f.header f.bytes (own o) initial so_far_runs of happens leads is
        leave f.wide f.written f.readable f.can f.formed
        (subst (LiesAmong (node old o).link.waiting budget) f.frame_is lies)
        (can_read f.i (node old o).host.inner (own side) (own o) (own o) (of_one side) f.hardware its f.checksums mine.seals)
        (for_host history old still typed side f.ip its f.along)
        (tcp_so (slice_index_or (sockets_of (node old o).slots) (slots o) None) (IsConnected (pairs o)) (IsOfConnection f.ip f.header)
        (λ v is. connected_so (pairs side) (pairs o) f.ip f.header v is (ends.addresses side)
        (ends.addresses o ∙ ap (λ (s : Side). local_of (pairs s).addresses) (back side)) (ends.ports side)
        (ends.ports o ∙ ap (λ (s : Side). (pairs s).local_port) (back side)) f.along f.source_port f.destination_port) (connected o))
        (tcp_so (slice_index_or (sockets_of (node new o).slots) (slots o) None) (IsConnected (pairs o)) (λ v. is_synchronized v.tcb.state ≡ true)
        (λ v is. is.0) (then_connected o)) in
        let brings : Brings slots side x (step_of o (Takes (slots o) comes.cx comes.v comes.read f.header f.bytes)) = (
          refl,
          (
            refl,
            f.is ∙ (λ k. made_of (sym comes.source k) (sym comes.destination k) f.header f.bytes),
          ),
        ) in
        subst (λ (ss : List Step). BringsAmong Brought Frame (sent_in seats) side x ss) (sym comes.are)
        (among_moves Brought Frame (sent_in seats) side x comes.before (step_of o (Takes (slots o) comes.cx comes.v comes.read f.header f.bytes)) comes.following brings)

    -- a poll
    polled : (host : Side) (t : ℤ) (budget : ℕ) → kind_of e.event ≡ OfHost host (Polls t budget) → AreOfEvent e (OfHost host (Polls t budget)) (shown_in starts history) steps
        → AreGone (OfHost host (Polls t budget)) old new steps → IsTrue (has_tx_token (node new host).link)
        → KnowsOther own pairs (OfHost host (Polls t budget)) old new → Fact (OfHost host (Polls t budget)) old new net steps
    polled host t budget is all gone leave known =
        let i0 : InnerValue = (node old host).host.inner in
        let start = at_net net old history host (slots host) (IsConnected (pairs host)) of (connected host) in
        let end = at_net (run net steps) new (e ∷ history) host (slots host) (IsConnected (pairs host)) happens.of (then_connected host) in
        let went = Hears.went ports pls refl seats pairs own e t host i0 ((node new host).host.inner.paths ≡ []) (KnowsThroughout t (node old host) (node new host))
        gone.0 known.1 (ready history old still typed host known.0) (ends.named host) (remote_named host) end.0 end.2.0 steps net start.0 kept opened all happens.may gone.2
        (gone.3 leave) start.1 (late_at start.0.tcb.state start.2.0) (inr start.2.1) end.1 in
        record {
          takes = λ side x frame f taking.
              taken side t budget (subst (λ (s : Side). (node old s).host.inner.hardware ≡ own s) taking.0 known.0) (is ∙ ap (λ (s : Side). OfHost s (Polls t budget)) taking.0)
              (subst (λ (s : Side). IsTrue (has_tx_token (node new s).link)) taking.0 leave) x frame f taking.1;
          goes = went_so (λ s frame. (s ≡ host) × ((n : ℕ) × (slice_get gone.0 n ≡ Some frame)))
              (Gone (OfHost host (Polls t budget))) net steps
              (λ side frame goes. (
                gone.0,
                (sym goes.0, subst (λ (s : Side). (node new s).link.sent ≡ (node old s).link.sent ++ gone.0) (sym goes.0) gone.1),
                goes.1,
              )) went;
        }

    -- an event that is none
    by_kind : (k : Kind) → kind_of e.event ≡ k → AreOfEvent e k (shown_in starts history) steps → AreGone k old new steps
        → GivesTxToken k new → KnowsOther own pairs k old new → Fact k old new net steps
    by_kind (OfHost host (Polls t budget)) is all gone leave known = polled host t budget is all gone leave known
    by_kind (OfHost host (Calls at call)) is (move, are, its) gone leave known =
        let none = call_none e at call (shown_in starts history host) move its in
        record {
          takes = λ side x frame f taking. absurd taking;
          goes = none_goes (Gone (OfHost host (Calls at call))) net steps host
              move kept opened happens.may are none.0 none.1;
        }
    by_kind (OfHost host (Sets setting)) is (s, are) gone leave known = record {
      takes = λ side x frame f taking. absurd taking;
      goes = passed_by (OfHost host (Sets setting)) s are;
    }
    by_kind (OfHost host (Opens n)) is (s, are) gone leave known = record {
      takes = λ side x frame f taking. absurd taking;
      goes = passed_by (OfHost host (Opens n)) s are;
    }
    by_kind (OfHost host (Asks t)) is (s, are) gone leave known = record {
      takes = λ side x frame f taking. absurd taking;
      goes = passed_by (OfHost host (Asks t)) s are;
    }
    by_kind (OfLink act) is (s, are) gone leave known = record {
      takes = λ side x frame f taking. absurd taking;
      goes = passed_by (OfLink act) s are;
    }

  -- ALL EVENTS

  module _ (so_far : List Step) (so_far_runs : IsRun names (first_net starts) so_far) (past : List Entry)
      (openings : (side : Side) → (o : Opening) × (opening past side (slots side) ≡ Some o)) where
    abbrev from : Net
    from = run (first_net starts) so_far

    opened_at : (more : List Entry) (n : Net) → n.history ≡ more ++ past → AreOpened ports pls seats n
    opened_at more n is side = (
      (openings side).0,
      ap (λ (h : List Entry). opening h side (slots side)) is ∙ opened_on past more side (slots side) (openings side).0 (openings side).1,
    )

    pub facts : (more : List Entry) (hosts : Nodes) (still : StillRun starts (more ++ past) hosts) (moves : List (ℤ × Step))
        (by : MoveBy starts from past more hosts still moves) → AreTyped (more ++ past) → GiveTxToken starts past more hosts still
        → AreConnected starts slots pairs past more hosts still → KnowEachOther own pairs starts past more hosts still
        → AreFacts Brought Frame (sent_in seats) starts from past more hosts still moves by
    facts [] hosts still moves by typed leave connected known = tt
    facts (e ∷ more) hosts still moves by typed leave connected known =
        let before : List (ℤ × Step) = by.0 in
        let these : List Step = by.1 in
        let then_far : List Step = so_far ++ untimed before in
        let same : run (first_net starts) then_far ≡ run from (untimed before) = run-append (first_net starts) so_far (untimed before) in
        let runs : IsRun names (first_net starts) then_far =
        IsRun-append names (first_net starts) so_far (untimed before) so_far_runs (moves_run starts from past more still.0 still.1 before by.3) in
        let of : IsNetOf (run from (untimed before)) still.0 (more ++ past) = net_at starts from past more still.0 still.1 before by.3 in (
          facts more still.0 still.1 before by.3 typed.1 leave.0 connected.0 known.0,
          subst (λ (n : Net). Fact (kind_of e.event) still.0 hosts n these) same
              (by_kind then_far runs (more ++ past) e still.0 hosts still.1 still.2 typed.1 these
              (subst (λ (n : Net). IsNetOf n still.0 (more ++ past)) (sym same) of)
              (subst (λ (n : Net). HappensBy starts (more ++ past) e still.0 hosts n these) (sym same) by.4)
              (both_now (λ side. IsConnected (pairs side)) starts slots past more still.0 still.1 connected.0) connected.1
              (opened_at more (run (first_net starts) then_far) (ap (λ (n : Net). n.history) same ∙ of.history)) (kind_of e.event) refl by.4.are by.4.went
              leave.1 known.1),
        )
