-- In a poll a TCP socket keeps its connection that has it after the poll, and no other socket of its host has it.
use Rattle.std.proofs.Common.{◌≡◌, ◌≢◌, ◌⊎◌, inl, inr, ℕ, ◌<◌, ◌≤◌, ◌==◌, ◌&&◌, not, Bool, true, false, ℤ, List, [], ◌∷◌, ◌++◌, length, Option, Some, None, IsTrue}
use Rattle.std.proofs.Common.{refl, sym, ap, ◌∙◌, subst, arith}
use Rattle.std.specs.Prelude.{slice_index_or}
use Rattle.std.specs.List.{AllByRecursion}
use Rattle.std.proofs.lemmas.Bool.{cases_lt}
use Rattle.std.proofs.lemmas.Bool.Decides.{eqb_tells}
use Rattle.std.proofs.lemmas.List.{get_or-set_same, get_or_past}
use Rattle.wire_ip.specs.declared.ip.repr.IpRepr.{IpRepr}
use Rattle.ip_wire.specs.HardwareAddress.{HardwareAddress}
use Rattle.ip_wire.specs.Tcp.{normal}
use Rattle.ip_wire.specs.TcpHeader.{TcpHeader}
use Rattle.socket_datagram.specs.SocketValue as Datagrams
use Rattle.socket_datagram.specs.Udp as Udps
use Rattle.socket_datagram.specs.Udp.{UdpValue}
use Rattle.tcp_state.specs.Endpoints.{is_connected_by}
use Rattle.tcp_state.specs.States.{is_closed, is_listening}
use Rattle.tcp_state.specs.declared.endpoints.FourTuple.{FourTuple}
use Rattle.tcp_state.specs.declared.state.State.{State as TcpState}
use Rattle.tcp_state.specs.declared.state.State.TheVariants as In
use Rattle.tcp_block.specs.Arrival.{arrives}
use Rattle.tcp_block.specs.Names.{accepts_in}
use Rattle.tcp_block.specs.Offers.{offer_of}
use Rattle.tcp_block.specs.Settled.{settled}
use Rattle.tcp_block.specs.Value.{TcpValue}
use Rattle.tcp_block.specs.declared.tcb.Tcb.{Tcb}
use Rattle.tcp_liveness.specs.Arrivals.{is_synchronized}
use Rattle.tcp_liveness.specs.Sent.{is_early}
use Rattle.iface_ingress.specs.Packet.{Segment, packet_of}
use Rattle.iface_ingress.specs.Sent.{CanBeRead}
use Rattle.iface_ingress.specs.Socket.TheVariants as Kind
use Rattle.iface_ingress.specs.WellFormed.{IsWellFormed}
use Rattle.iface_tables.specs.Inner.{InnerValue}
use Rattle.interface.specs.TransmittedFrame.{CanRead, HasWidths}
use Rattle.lan.specs.declared.at_link.history.event.Side.{Side}
use Rattle.lan.specs.declared.at_link.history.record.Opening.{Opening}
use Rattle.lan.specs.Worlds.AtLink.Initial.{IsInitialWorld}
use Rattle.lan.specs.Worlds.AtLink.History.{Entry, opening}
use Rattle.lan.specs.Worlds.AtLink.Kinds.{Kind, kind_of, other}
use Rattle.lan.specs.Worlds.AtLink.Kinds.Act.{Polls}
use Rattle.lan.specs.Worlds.AtLink.Kinds.Kind.{OfHost}
use Rattle.lan.specs.Worlds.AtLink.Moves.{IsRun, May, Move, Step, after, party_after, run, with_socket}
use Rattle.lan.specs.Worlds.AtLink.Moves.Move.{Invokes, Passes, Offers, Gives, Takes, Receives, Resets, Changes}
use Rattle.lan.specs.Worlds.AtLink.Parties.{Net, Party, Socket, party, slots_of, socket_at}
use Rattle.lan.specs.Worlds.AtLink.Parties.Socket.{Tcp, Udp, Icmp, Raw}
use Rattle.lan.specs.Worlds.AtLink.Runs.{Leads, Starts}
use Rattle.lan.specs.Worlds.AtLink.Safe.{first_port}
use Rattle.lan.specs.Worlds.AtLink.Node.{Nodes, node}
use Rattle.lan.specs.Worlds.AtLink.Tables.{Slots}
use Rattle.lan.specs.Worlds.Moves.Follows.{IsNetOf}
use Rattle.lan.specs.Worlds.Moves.Joined.{first_net}
use Rattle.lan.proofs.Worlds.AtLink.Extended.{run-append}
use Rattle.lan.proofs.Worlds.AtLink.Kept.{KeptFrom}
use Rattle.lan.proofs.Worlds.AtLink.Paired.Elsewhere.{socket_stays}
use Rattle.lan.proofs.Worlds.AtLink.PeerSideLemmas.{AreApart, opened_apart}
use Rattle.lan.proofs.Worlds.AtLink.Runs.{Kept, initial_kept, kept_at, kept_run}
use Rattle.lan.proofs.Worlds.AtLink.StreamInvariant.{TcpOk}
use Rattle.lan.proofs.Worlds.Moves.Calls.{names}
use Rattle.lan.proofs.Worlds.Moves.Nets.{step_of, there}
use Rattle.lan.proofs.Worlds.Moves.Worlds.{initial_net}
use Rattle.sim_link.specs.Port.{has_tx_token}
use Rattle.proof_stack.specs.Progress.Delivered.{reader_of}
use Rattle.proof_stack.specs.Progress.Events.{AreOfEvent, HappensBy, IsOfPoll, shown_in}
use Rattle.proof_stack.specs.Progress.Leave.{LiesAmong}
use Rattle.proof_stack.specs.Progress.Moving.{IsTcp}
use Rattle.proof_stack.specs.Progress.Queued.{frame_under, with_ident}
use Rattle.proof_stack.specs.Progress.Segments.{CanTransmit, OffersSegment}
use Rattle.proof_stack.specs.Progress.Serving.{IsAtHost}
use Rattle.proof_stack.specs.Progress.Takings.{ComesBy, IsForHost, IsOfConnection}
use Rattle.proof_stack.proofs.EventTakes.{IsForSlot, IsForSlotThroughout, comes_in_a_poll}
use Rattle.proof_stack.proofs.Polls.Connected.{Has, StaysLate, arrival_late, late_at, not_over, offer_late, still_has, then_late}
use Rattle.proof_stack.proofs.Polls.Fills.{fills_itself}
use Rattle.proof_stack.proofs.Polls.Segments.{as_written, came_between, can_be_read}

clash : {X : Type 0} → true ≡ false → X
clash {X} e = absurd cc

-- ONE SOCKET FOR A CONNECTION

module _ (ip : IpRepr) (header : TcpHeader) where
  by_state : (state : TcpState) (b : Tcb) → (not (is_listening state) && accepts_in state b ip header) ≡ true → is_connected_by b.names.pair ip header ≡ true
  by_state In.Closed b is = clash (sym is)
  by_state In.Listen b is = clash (sym is)
  by_state other b is = is

  abbrev IsHere : Option FourTuple → Type 0
  IsHere o = (pair : FourTuple) × (o ≡ Some pair) × (pair.local_port ≡ header.dst_port)

  by_pair : (o : Option FourTuple) → is_connected_by o ip header ≡ true → IsHere o
  by_pair None is = clash (sym is)
  by_pair (Some pair) is = (pair, refl, sym (came_between pair ip header is).destination_port)

  -- it has a pair with the port to which the segment goes
  pair_of : (v : TcpValue) → Has ip header (Kind.Tcp v) ≡ true → IsHere v.tcb.names.pair
  pair_of v has = by_pair v.tcb.names.pair (by_state v.tcb.state v.tcb has)

  module _ (ports : Side → ℕ → ℕ) (slots : Slots) (h : List Entry) (side : Side) (p q : Party) (k : KeptFrom ports slots h side p q) where
    -- and was opened at that port
    abbrev IsOpened : ℕ → Type 0
    IsOpened i = (o : Opening) × (opening h side i ≡ Some o) × (o.local ≡ header.dst_port)

    opened_at : (i : ℕ) (v : TcpValue) → socket_at p i ≡ Some (Tcp v) → Has ip header (Kind.Tcp v) ≡ true → IsOpened i
    opened_at i v is has = by (opening h side i) refl where
      ok : TcpOk h side p.segments i v
      ok = k.mine.streams.sockets i v is

      at : IsHere v.tcb.names.pair
      at = pair_of v has

      by : (o : Option Opening) → opening h side i ≡ o → IsOpened i
      by None none = absurd (let never : None ≡ Some at.0 = sym (ok.untouched none).nameless.pair ∙ at.1 in cc)
      by (Some o) opened = (o, opened, sym ((ok.ports o opened).pair at.0 at.1).0 ∙ at.2)

    pub one_socket : (i j : ℕ) (v w : TcpValue) → socket_at p i ≡ Some (Tcp v) → socket_at p j ≡ Some (Tcp w) → Has ip header (Kind.Tcp v) ≡ true →
        Has ip header (Kind.Tcp w) ≡ true → i ≡ j
    one_socket i j v w is_v is_w has_v has_w =
        let a = opened_at i v is_v has_v in
        let b = opened_at j w is_w has_w in
        by (a.2 ∙ sym b.2) (opened_apart slots h side i j a.0 b.0 k.allowed a.1 b.1)
      where
        by : {a b : Opening} → a.local ≡ b.local → (i ≡ j) ⊎ AreApart a b → i ≡ j
        by same (inl one) = one
        by same (inr apart) = absurd (apart.local same)

-- THE SOCKET AT A PLACE, as a poll moves its host

module _ (e : Entry) (t : ℤ) (side : Side) (slot : ℕ) where
  abbrev Its : Step → Type 0
  Its step = (step.side ≡ side) × IsOfPoll e t step.move

  abbrev Stands : Party → TcpValue → Type 0
  Stands p v = socket_at p slot ≡ Some (Tcp v)

  pub record Later (p : Party) (v : TcpValue) : Type 0 where
    pub new : TcpValue
    pub stands : Stands p new
    pub stays : StaysLate v new

  stayed : (p : Party) (v : TcpValue) → Stands p v → is_early v.tcb.state ≡ false → Later p v
  stayed p v is late = record { new = v; stands = is; stays = record { late = late; closed = λ over. over; pair = inr refl; stamps = refl; fills = fills_itself v.received } }

  -- a TCP socket is exchanged
  tcp_set : (p : Party) (at : ℕ) (old new : TcpValue) → socket_at p at ≡ Some (Tcp old) → (is_early old.tcb.state ≡ false → StaysLate old new) →
      (v : TcpValue) → Stands p v → is_early v.tcb.state ≡ false → Later (with_socket p at (Tcp new)) v
  tcp_set p at old new here goes v is late = by (eqb_tells slot at) (cases_lt at (length p.sockets)) where
    here_now : (slot ≡ at) → at < length p.sockets → Later (with_socket p at (Tcp new)) v
    here_now same below =
        let both : Some (Tcp old) ≡ Some (Tcp v) = sym here ∙ ap (λ (n : ℕ). socket_at p n) (sym same) ∙ is in
        let one : old ≡ v = cc in
        record {
          new = new;
          stands = ap (λ (n : ℕ). socket_at (with_socket p at (Tcp new)) n) same ∙ get_or-set_same p.sockets at (Some (Tcp new)) None below;
          stays = subst (λ (x : TcpValue). StaysLate x new) one (goes (subst (λ (x : TcpValue). is_early x.tcb.state ≡ false) (sym one) late));
        }

    by : (((slot == at) ≡ true) × (slot ≡ at)) ⊎ (((slot == at) ≡ false) × (slot ≢ at)) → (at < length p.sockets) ⊎ (length p.sockets ≤ at) →
        Later (with_socket p at (Tcp new)) v
    by (inl same) (inl below) = here_now same.1 below
    by (inl same) (inr past) = absurd (let none : None ≡ Some (Tcp old) = sym (get_or_past p.sockets at None past) ∙ here in cc)
    by (inr apart) below = stayed (with_socket p at (Tcp new)) v (socket_stays p slot at (Tcp new) apart.1 ∙ is) late

  udp_set : (p : Party) (at : ℕ) (old new : UdpValue) → socket_at p at ≡ Some (Udp old) → (v : TcpValue) → Stands p v → is_early v.tcb.state ≡ false →
      Later (with_socket p at (Udp new)) v
  udp_set p at old new here v is late = by (eqb_tells slot at) where
    by : (((slot == at) ≡ true) × (slot ≡ at)) ⊎ (((slot == at) ≡ false) × (slot ≢ at)) → Later (with_socket p at (Udp new)) v
    by (inl same) = absurd (let both : Some (Udp old) ≡ Some (Tcp v) = sym here ∙ ap (λ (n : ℕ). socket_at p n) (sym same.1) ∙ is in cc)
    by (inr apart) = stayed (with_socket p at (Udp new)) v (socket_stays p slot at (Udp new) apart.1 ∙ is) late

  -- ONE MOVE

  moved : (net : Net) (move : Move) → IsOfPoll e t move → May names net side move → (v : TcpValue) → Stands (party net side) v →
      is_early v.tcb.state ≡ false → Later (party_after (party net side) move) v
  moved net (Offers at cx old from sent) of may v is late =
      let it = tcp_set (party net side) at old (settled sent (offer_of cx old).socket) may.0 (offer_late cx old sent) v is late in
      record { new = it.new; stands = it.stands; stays = it.stays }
  moved net (Takes at cx old ip header bytes) of may v is late =
      let it = tcp_set (party net side) at old (arrives cx old ip header bytes).socket may.0 (arrival_late cx old ip header bytes) v is late in
      record { new = it.new; stands = it.stands; stays = it.stays }
  moved net (Gives at cx old answer new sent) of may v is late =
      let it = udp_set (party net side) at old (Datagrams.settled sent new) may.0 v is late in record { new = it.new; stands = it.stands; stays = it.stays }
  moved net (Receives at cx old ip udp bytes) of may v is late =
      let it = udp_set (party net side) at old (Udps.process_after old ip udp bytes) may.0 v is late in
      record { new = it.new; stands = it.stands; stays = it.stays }
  moved net (Passes entry) of may v is late = stayed (party net side) v is late
  moved net (Invokes at cx old entry call new) of may v is late = absurd of
  moved net (Resets x) of may v is late = absurd of
  moved net (Changes at old new) of may v is late = absurd of

  pub step_moved : (net : Net) (s : Side) (move : Move) → s ≡ side → IsOfPoll e t move → May names net s move → (v : TcpValue) → Stands (party net side) v →
      is_early v.tcb.state ≡ false → Later (party (after net (step_of s move)) side) v
  step_moved net s move same of may v is late =
      subst (λ (x : Side). Later (party (after net (step_of x move)) side) v) (sym same)
      (there net side move (λ (p : Party). Later p v) (moved net move of (subst (λ (x : Side). May names net x move) same may) v is late))

  pub all_moved : (steps : List Step) (net : Net) (v : TcpValue) → AllByRecursion Its steps → IsRun names net steps → Stands (party net side) v →
      is_early v.tcb.state ≡ false → Later (party (run net steps) side) v
  all_moved [] net v all may is late = stayed (party net side) v is late
  all_moved (step ∷ steps) net v all may is late =
      let one = step_moved net step.side step.move all.0.0 all.0.1 may.0 v is late in
      let rest = all_moved steps (after net step) one.new all.1 may.1 one.stands one.stays.late in
      record { new = rest.new; stands = rest.stands; stays = then_late v one.new rest.new one.stays rest.stays }

  -- TWO PARTS OF THE MOVES

  all_parts : (xs ys : List Step) → AllByRecursion Its (xs ++ ys) → AllByRecursion Its xs × AllByRecursion Its ys
  all_parts [] ys all = (tt, all)
  all_parts (x ∷ xs) ys all = let rest = all_parts xs ys all.1 in ((all.0, rest.0), rest.1)

  run_parts : (net : Net) (xs ys : List Step) → IsRun names net (xs ++ ys) → IsRun names net xs × IsRun names (run net xs) ys
  run_parts net [] ys may = (tt, may)
  run_parts net (x ∷ xs) ys may = let rest = run_parts (after net x) xs ys may.1 in ((may.0, rest.0), rest.1)

  -- THROUGHOUT

  module _ (ip : IpRepr) (header : TcpHeader) (ports : Side → ℕ → ℕ) (slots : Slots) (net : Net) (kept : Kept ports slots net) (of_names : slots.names ≡ names)
      (steps : List Step) (all : AllByRecursion Its steps) (may : IsRun names net steps) (v w : TcpValue) (is : Stands (party net side) v)
      (connected : IsOfConnection ip header v) (ends : Stands (party (run net steps) side) w) (still : is_synchronized w.tcb.state ≡ true) where
    late : is_early v.tcb.state ≡ false
    late = late_at v.tcb.state connected.0

    module _ (before following : List Step) (parts : steps ≡ before ++ following) where
      alls : AllByRecursion Its before × AllByRecursion Its following
      alls = all_parts before following (subst (AllByRecursion Its) parts all)

      runs : IsRun names net before × IsRun names (run net before) following
      runs = run_parts net before following (subst (IsRun names net) parts may)

      first : Later (party (run net before) side) v
      first = all_moved before net v alls.0 runs.0 is late

      last : Later (party (run (run net before) following) side) first.new
      last = all_moved following (run net before) first.new alls.1 runs.1 first.stands first.stays.late

      same_end : last.new ≡ w
      same_end =
          let at : run net steps ≡ run (run net before) following = ap (run net) parts ∙ run-append net before following in
          let both : Some (Tcp last.new) ≡ Some (Tcp w) = sym last.stands ∙ ap (λ (n : Net). socket_at (party n side) slot) (sym at) ∙ ends in
          cc

      not_over_yet : is_closed first.new.tcb.state ≡ false
      not_over_yet = by (is_closed first.new.tcb.state) refl where
        by : (over : Bool) → is_closed first.new.tcb.state ≡ over → over ≡ false
        by false over = refl
        by true over =
            let then_over : is_closed w.tcb.state ≡ true = subst (λ (x : TcpValue). is_closed x.tcb.state ≡ true) same_end (last.stays.closed over) in
            clash (sym then_over ∙ not_over w.tcb.state still)

      has : Has ip header (Kind.Tcp first.new) ≡ true
      has = still_has ip header v first.new late first.stays not_over_yet connected.1

      kept_then : Kept ports slots (run net before)
      kept_then = kept_run ports slots net before kept (subst (λ (ns : List ℕ → Bool). IsRun ns net before) (sym of_names) runs.0)

      none_before : (k : ℕ) (u : TcpValue) → k < slot → socket_at (party (run net before) side) k ≡ Some (Tcp u) → Has ip header (Kind.Tcp u) ≡ false
      none_before k u less there = by (Has ip header (Kind.Tcp u)) refl where
        by : (b : Bool) → Has ip header (Kind.Tcp u) ≡ b → b ≡ false
        by false none = refl
        by true also =
            let one : k ≡ slot =
            one_socket ip header ports slots (run net before).history side (party (run net before) side) (party (run net before) (other side))
            (kept_at ports slots (run net before) side kept_then) k slot u first.new there first.stands also has in
            absurd (omega (arith, one, less))

      is_for : IsForSlot (party (run net before) side) slot ip header
      is_for = record { v = first.new; stands = first.stands; has = has; first = none_before }

    pub throughout : IsForSlotThroughout side slot ip header net steps
    throughout before following parts = is_for before following parts

-- IN A WORLD

pub is_tcp : (o : Option Socket) (P : TcpValue → Type 0) → IsTcp o P → (v : TcpValue) × (o ≡ Some (Tcp v)) × P v
is_tcp None P is = absurd is
is_tcp (Some (Tcp v)) P is = (v, refl, is)
is_tcp (Some (Udp v)) P is = absurd is
is_tcp (Some Icmp) P is = absurd is
is_tcp (Some Raw) P is = absurd is

-- the socket at a place of a host is that of a net of it
pub at_net : (net : Net) (hosts : Nodes) (past : List Entry) (side : Side) (slot : ℕ) (P : TcpValue → Type 0) → IsNetOf net hosts past →
    IsAtHost slot (node hosts side) P → (v : TcpValue) × (socket_at (party net side) slot ≡ Some (Tcp v)) × P v
at_net net hosts past side slot P of is =
    is_tcp (socket_at (party net side) slot) P (subst (λ (sockets : List (Option Socket)). IsTcp (slice_index_or sockets slot None) P) (sym (of.sockets side)) is)

-- a segment as a reader has it
pub comes_as_read : (starts : Starts) (so_far steps : List Step) (past : List Entry) (old new : Nodes) (e : Entry) (side : Side) (t : ℤ) (budget slot : ℕ)
    (i : InnerValue) (ident : ℕ) (ip : IpRepr) (header : TcpHeader) (bytes : List ℕ) (to : HardwareAddress)
    → IsInitialWorld starts → IsRun names (first_net starts) so_far → IsNetOf (run (first_net starts) so_far) old past
    → HappensBy starts past e old new (run (first_net starts) so_far) steps → Leads past old e new → kind_of e.event ≡ OfHost side (Polls t budget)
    → IsTrue (has_tx_token (node new side).link) → HasWidths (with_ident i ident) → normal header ≡ header → CanBeRead ip (Segment header bytes)
    → CanTransmit i to (packet_of ip (Segment header bytes)) → IsWellFormed (packet_of ip (Segment header bytes))
    → LiesAmong (node old side).link.waiting budget (frame_under i ident to (packet_of ip (Segment header bytes)))
    → CanRead i to (reader_of (node old side).host.inner) → IsForHost (node old side).host.inner to ip
    → IsAtHost slot (node old side) (IsOfConnection ip header) → IsAtHost slot (node new side) (λ w. is_synchronized w.tcb.state ≡ true)
    → ComesBy side slot t ip header bytes steps
comes_as_read starts so_far steps past old new e side t budget slot i ident ip header bytes to initial ran of by leads is given wide written readable can formed
    lies reads for_host connected still =
    let net : Net = run (first_net starts) so_far in
    let slots : Slots = slots_of names (first_net starts) in
    let kept : Kept (first_port starts) slots net =
    kept_run (first_port starts) slots (first_net starts) so_far (initial_kept (first_port starts) names (first_net starts) (initial_net starts initial)) ran in
    let start = at_net net old past side slot (IsOfConnection ip header) of connected in
    let end = at_net (run net steps) new (e ∷ past) side slot (λ w. is_synchronized w.tcb.state ≡ true) by.of still in
    let all : AllByRecursion (Its e t side slot) steps = subst (λ (k : Kind). AreOfEvent e k (shown_in starts past) steps) is by.are in
    comes_in_a_poll starts past old new e net steps side t budget slot i ident ip header bytes to by leads is given wide written readable can formed lies reads
    for_host
    (throughout e t side slot ip header (first_port starts) slots net kept refl steps all by.may start.0 end.0 start.1 start.2 end.1 end.2)

pub comes_in_a_world : (starts : Starts) (so_far steps : List Step) (past : List Entry) (old new : Nodes) (e : Entry) (side : Side) (t : ℤ)
    (budget slot : ℕ) (i : InnerValue) (ident : ℕ) (v : TcpValue) (ip : IpRepr) (header : TcpHeader) (bytes : List ℕ) (to : HardwareAddress)
    → IsInitialWorld starts → IsRun names (first_net starts) so_far → IsNetOf (run (first_net starts) so_far) old past
    → HappensBy starts past e old new (run (first_net starts) so_far) steps → Leads past old e new → kind_of e.event ≡ OfHost side (Polls t budget)
    → IsTrue (has_tx_token (node new side).link) → HasWidths (with_ident i ident) → OffersSegment i v ip header bytes
    → CanTransmit i to (packet_of ip (Segment header bytes)) → IsWellFormed (packet_of ip (Segment header bytes))
    → LiesAmong (node old side).link.waiting budget (frame_under i ident to (packet_of ip (Segment header bytes)))
    → CanRead i to (reader_of (node old side).host.inner) → IsForHost (node old side).host.inner to ip
    → IsAtHost slot (node old side) (IsOfConnection ip header) → IsAtHost slot (node new side) (λ w. is_synchronized w.tcb.state ≡ true)
    → ComesBy side slot t ip header bytes steps
comes_in_a_world starts so_far steps past old new e side t budget slot i ident v ip header bytes to initial ran of by leads is given wide offers can formed lies
    reads for_host connected still =
    comes_as_read starts so_far steps past old new e side t budget slot i ident ip header bytes to initial ran of by leads is given wide
    (as_written i v ip header bytes offers) (can_be_read i v ip header bytes offers formed) can formed lies reads for_host connected still
