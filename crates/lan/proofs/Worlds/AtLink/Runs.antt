-- Each run is safe.
use Rattle.std.proofs.Common.{◌≡◌, ℕ, Bool, true, List, [], ◌∷◌, ◌++◌, map, Option, Some, None, refl, sym, ap, ◌∙◌, subst}
use Rattle.std.proofs.Common.{IfSome}
use Rattle.socket_datagram.specs.SocketValue as Datagrams
use Rattle.socket_datagram.specs.Udp as Udps
use Rattle.socket_datagram.specs.Udp.{UdpValue}
use Rattle.tcp_refinement.specs.Safe.{IsPrefixOf}
use Rattle.tcp_refinement.specs.Segment.Control.{Rst}
use Rattle.tcp_refinement.specs.Host.{Made, seen_of, past_at, IsSeenAmong, and_answer}
use Rattle.tcp_refinement.specs.Promises.{AreSafeSockets}
use Rattle.tcp_refinement.proofs.PromiseLemmas.{safe_sockets, alone_nothing}
use Rattle.lan.proofs.Worlds.AtLink.SendQueues.{alone_queue, pair_rest}
use Rattle.tcp_refinement.specs.Tie.{Past}
use Rattle.tcp_block.specs.Arrival.{arrives}
use Rattle.tcp_block.specs.Names.{accepts}
use Rattle.tcp_block.specs.Offers.{offer_of}
use Rattle.tcp_block.specs.Settled.{settled}
use Rattle.tcp_block.specs.Value.{TcpValue}
use Rattle.lan.specs.declared.at_link.history.event.Side.{Side}
use Rattle.lan.specs.declared.at_link.history.event.Side.TheVariants.{A, B}
use Rattle.lan.specs.declared.at_link.history.record.Opening.{Opening}
use Rattle.lan.specs.declared.at_link.history.record.SocketKind.{SocketKind}
use Rattle.lan.specs.Worlds.AtLink.Kinds.{other, kind_of, calls}
use Rattle.lan.specs.Worlds.AtLink.History.{Entry, opening, written, read}
use Rattle.lan.specs.Worlds.AtLink.PeerSides.{ArePartners}
use Rattle.lan.specs.Worlds.AtLink.Tables.{Slots, kinds, IsAllowed}
use Rattle.lan.proofs.Worlds.AtLink.PeerSideLemmas.{peer_sides_turned}
use Rattle.lan.specs.Worlds.AtLink.Parties.{Socket, Datagram, Party, socket_at, kind_in, WasMade, Net, party, slots_of, datagrams_of}
use Rattle.lan.specs.Worlds.AtLink.Parties.Socket.{Tcp, Udp}
use Rattle.lan.specs.Worlds.AtLink.Moves.{Move, with_socket, offered_segments, Does, IsNoCall, LooksSame, party_after, history_after, May, Step, after, IsRun, run}
use Rattle.lan.specs.Worlds.AtLink.Moves.{LeavesFrom}
use Rattle.lan.specs.Worlds.AtLink.Moves.Move.{Invokes, Passes, Offers, Gives, Takes, Receives, Resets, Changes}
use Rattle.lan.specs.Worlds.AtLink.PacketsSafe.{IsInitialParty, IsInitialNet, IsTcpAt, taken_in, IsSafe}
use Rattle.lan.proofs.Worlds.AtLink.Lists.{Each}
use Rattle.lan.proofs.Worlds.AtLink.DatagramInvariant.{CameTo, GoesFrom, UdpOk, DatagramOk, DatagramsOk, udp_fewer}
use Rattle.lan.proofs.Worlds.AtLink.DatagramMoves.{gives, settles, receives, looks_same, datagrams_set, datagrams_made, was_accepted}
use Rattle.lan.specs.Worlds.AtLink.Paired.{told}
use Rattle.lan.proofs.Worlds.AtLink.StreamInvariant.{TcpOk, SegmentOk}
use Rattle.lan.proofs.Worlds.AtLink.HostSteps.{HostSteps}
use Rattle.lan.proofs.Worlds.AtLink.Exchange.{leaves_all, exchange_other, reset_made}
use Rattle.lan.proofs.Worlds.AtLink.WireMoves as wire
use Rattle.lan.proofs.Worlds.AtLink.Kept.{HostOk, KeptFrom, kept_turned, kinds_set, kept_still, invoked, passes, opened_there}

-- EACH MOVE, seen from the host that makes it

abbrev pub MayFrom : Slots → List Entry → Side → Party → Party → Move → Type 0
MayFrom slots h side p q (Invokes slot cx old entry call new) =
    (socket_at p slot ≡ Some old) × (kind_of entry.event ≡ calls side slot call) × IsAllowed slots h (kind_of entry.event) ×
    Does cx old call entry.answer entry.found new
MayFrom slots h side p q (Passes entry) = IsNoCall (kind_of entry.event)
MayFrom slots h side p q (Offers slot cx v from sent) =
    (socket_at p slot ≡ Some (Tcp v)) × IfSome (offer_of cx v).socket.offered (λ o. LeavesFrom cx from o.header)
MayFrom slots h side p q (Gives slot cx v answer v' sent) = (socket_at p slot ≡ Some (Udp v)) × Udps.Offers cx v answer v'
MayFrom slots h side p q (Takes slot cx v ip header bytes) =
    (socket_at p slot ≡ Some (Tcp v)) × (accepts v.tcb ip header ≡ true) × IsSeenAmong q.segments header bytes
MayFrom slots h side p q (Receives slot cx v ip udp bytes) =
    (socket_at p slot ≡ Some (Udp v)) × (Udps.accepts cx v ip udp ≡ true) ×
    WasMade q (record { source = udp.src_port; destination = udp.dst_port; bytes = bytes })
MayFrom slots h side p q (Resets x) = (seen_of x).control ≡ Rst
MayFrom slots h side p q (Changes slot old new) = (socket_at p slot ≡ Some old) × LooksSame old new

same_udp : (v w : UdpValue) → Udp v ≡ Udp w → v ≡ w
same_udp v w e = cc

module _ (starts : Side → ℕ → ℕ) (slots : Slots) (h : List Entry) (side : Side) (p q : Party) (k : KeptFrom starts slots h side p q) where
  -- a TCP socket is exchanged, and perhaps a segment made
  tcp_still : (at : ℕ) (v new : TcpValue) (made' : List Made) → socket_at p at ≡ Some (Tcp v) →
      HostSteps h h side p (record (with_socket p at (Tcp new)) { segments = made' }) q
      → KeptFrom starts slots h side (record (with_socket p at (Tcp new)) { segments = made' }) q
  tcp_still at v new made' is steps =
      kept_still starts slots h side p (record (with_socket p at (Tcp new)) { segments = made' }) q k (kinds_set p at (Tcp v) (Tcp new) is refl)
      (still (datagrams_set starts h side p at (Tcp new) (λ v e. absurd (cc)) k.mine.datagrams)) steps
    where
      still : DatagramsOk starts h side (with_socket p at (Tcp new)) → DatagramsOk starts h side (record (with_socket p at (Tcp new)) { segments = made' })
      still d = record { sockets = d.sockets; made = d.made }

  udp_steps : (at : ℕ) (new : UdpValue) (more : List Datagram) → HostSteps h h side p (record (with_socket p at (Udp new)) { datagrams = more }) q
  udp_steps at new more = exchange_other h h side p q at (leaves_all h side at) k.mine.streams.made more (Udp new) (λ v e. absurd (cc))

  -- a UDP socket is exchanged, and perhaps datagrams are made
  udp_still : (at : ℕ) (v new : UdpValue) (xs : List Datagram) → socket_at p at ≡ Some (Udp v) → UdpOk starts h side at new → Each (DatagramOk starts h side) xs
      → KeptFrom starts slots h side (record (with_socket p at (Udp new)) { datagrams = p.datagrams ++ xs }) q
  udp_still at v new xs is ok all =
      kept_still starts slots h side p (record (with_socket p at (Udp new)) { datagrams = p.datagrams ++ xs }) q k (kinds_set p at (Udp v) (Udp new) is refl)
      (datagrams_made starts h side (with_socket p at (Udp new)) xs all
      (datagrams_set starts h side p at (Udp new) (λ v' same. subst (UdpOk starts h side at) (same_udp new v' same) ok) k.mine.datagrams))
      (udp_steps at new (p.datagrams ++ xs))

  udp_alone : (at : ℕ) (v new : UdpValue) → socket_at p at ≡ Some (Udp v) → UdpOk starts h side at new →
      KeptFrom starts slots h side (with_socket p at (Udp new)) q
  udp_alone at v new is ok =
      kept_still starts slots h side p (with_socket p at (Udp new)) q k (kinds_set p at (Udp v) (Udp new) is refl)
      (datagrams_set starts h side p at (Udp new) (λ v' same. subst (UdpOk starts h side at) (same_udp new v' same) ok) k.mine.datagrams)
      (udp_steps at new p.datagrams)

  changed : (at : ℕ) (old new : Socket) → socket_at p at ≡ Some old → LooksSame old new → KeptFrom starts slots h side (with_socket p at new) q
  changed at (Tcp v) (Tcp new) is same =
      tcp_still at v new p.segments is (wire.changes slots h side p q at v k.allowed is k.mine.streams k.pairs new same)
  changed at (Udp v) (Udp new) is same = udp_alone at v new is (looks_same starts h side at v new same (k.mine.datagrams.sockets at v is))
  changed at old new is same = absurd (same)

  moved : (move : Move) → MayFrom slots h side p q move → KeptFrom starts slots (history_after h move) side (party_after p move) q
  moved (Invokes slot cx old entry call new) may = invoked starts slots h entry side p q slot call may.1 k may.2 cx old new may.0 may.3
  moved (Passes entry) may = passes starts slots h entry side p q k may
  moved (Offers slot cx v from sent) may =
      tcp_still slot v (settled sent (offer_of cx v).socket) (offered_segments sent p from (offer_of cx v).socket) may.0
      (wire.offers slots h side p q slot v k.allowed may.0 k.mine.streams k.pairs cx from sent)
  moved (Gives slot cx v answer v' sent) may =
      let ok = k.mine.datagrams.sockets slot v may.0 in
      let gave = gives starts h side slot cx v answer v' may.1 ok in
      udp_still slot v (Datagrams.settled sent v') (datagrams_of v'.offered) may.0
      (settles starts h side slot sent v' (udp_fewer starts h side slot v v' gave.fewer ok)) gave.made
  moved (Takes slot cx v ip header bytes) may =
      tcp_still slot v (arrives cx v ip header bytes).socket (and_answer p.segments (arrives cx v ip header bytes).answer) may.0
      (wire.takes slots h side p q slot v k.allowed may.0 k.mine.streams k.pairs cx ip header bytes may.1 may.2 k.theirs.streams.made)
  moved (Receives slot cx v ip udp bytes) may =
      udp_alone slot v (Udps.process_after v ip udp bytes) may.0
      (receives starts h side slot cx v ip udp bytes may.1
      (was_accepted starts h (other side) q (record { source = udp.src_port; destination = udp.dst_port; bytes = bytes }) may.2 k.theirs.datagrams)
      (k.mine.datagrams.sockets slot v may.0))
  moved (Resets x) may =
      kept_still starts slots h side p (record p { segments = p.segments ++ x ∷ [] }) q k refl
      (record { sockets = k.mine.datagrams.sockets; made = k.mine.datagrams.made }) (reset_made h side p q x may k.mine.streams.made)
  moved (Changes slot old new) may = changed slot old new may.0 may.1

-- BOTH HOSTS

abbrev pub Kept : (Side → ℕ → ℕ) → Slots → Net → Type 0
Kept starts slots net = KeptFrom starts slots net.history A net.a net.b

-- the sockets stay of their kinds
same_slots : (starts : Side → ℕ → ℕ) (slots : Slots) (net : Net) → Kept starts slots net → slots_of slots.names net ≡ slots
same_slots starts slots net k =
    ap (λ (a : List (Option SocketKind)). record { a = a; b = map kind_in net.b.sockets; names = slots.names }) k.mine.of_kinds
    ∙ ap (λ (b : List (Option SocketKind)). record { a = slots.a; b = b; names = slots.names }) k.theirs.of_kinds

pub may_a : (starts : Side → ℕ → ℕ) (slots : Slots) (net : Net) (move : Move) → Kept starts slots net → May slots.names net A move →
    MayFrom slots net.history A net.a net.b move
may_a starts slots net (Invokes slot cx old entry call new) k may =
    (may.0, may.1, subst (λ (slots : Slots). IsAllowed slots net.history (kind_of entry.event)) (same_slots starts slots net k) may.2, may.3)
may_a starts slots net move k may = may

pub may_b : (starts : Side → ℕ → ℕ) (slots : Slots) (net : Net) (move : Move) → Kept starts slots net → May slots.names net B move →
    MayFrom slots net.history B net.b net.a move
may_b starts slots net (Invokes slot cx old entry call new) k may =
    (may.0, may.1, subst (λ (slots : Slots). IsAllowed slots net.history (kind_of entry.event)) (same_slots starts slots net k) may.2, may.3)
may_b starts slots net move k may = may

pub step_by : (starts : Side → ℕ → ℕ) (slots : Slots) (net : Net) (side : Side) (move : Move) → Kept starts slots net → May slots.names net side move →
    Kept starts slots (after net (record { side = side; move = move }))
step_by starts slots net A move k may = moved starts slots net.history A net.a net.b k move (may_a starts slots net move k may)
step_by starts slots net B move k may =
    kept_turned starts slots (history_after net.history move) B (party_after net.b move) net.a
    (moved starts slots net.history B net.b net.a (kept_turned starts slots net.history A net.a net.b k) move (may_b starts slots net move k may))

pub kept_run : (starts : Side → ℕ → ℕ) (slots : Slots) (net : Net) (steps : List Step) → Kept starts slots net → IsRun slots.names net steps →
    Kept starts slots (run net steps)
kept_run starts slots net [] k is_run = k
kept_run starts slots net (step ∷ steps) k is_run =
    kept_run starts slots (after net step) steps (step_by starts slots net step.side step.move k is_run.0) is_run.1

-- AT FIRST

initial_host : (starts : Side → ℕ → ℕ) (slots : Slots) (side : Side) (p : Party) → map kind_in p.sockets ≡ kinds slots side → IsInitialParty (starts side) p →
    HostOk starts slots [] side p
initial_host starts slots side p same f = record {
  of_kinds = same;
  datagrams = record {
    sockets = λ i v is.
        let s = f.sockets i (Udp v) is in
        record {
          bound = s.0;
          received = subst (Each (CameTo starts [] side (starts side i))) (sym s.1) tt;
          queued = subst (Each (GoesFrom starts [] side (starts side i))) (sym s.2) tt;
          idle = λ unbound. (s.1, s.2);
        };
    made = subst (Each (DatagramOk starts [] side)) (sym f.datagrams) tt;
  };
  streams = record {
    sockets = λ i v is.
        let s = f.sockets i (Tcp v) is in
        record {
          untouched = λ none. record { initial = s.0; nameless = s.1; nothing = refl };
          ports = λ o opened. absurd (cc);
          heard = λ o opened pair named. absurd (cc);
          alone = λ o opened lone. absurd (cc);
        };
    made = subst (Each (SegmentOk [] side)) (sym f.segments) tt;
  };
}

pub initial_kept : (starts : Side → ℕ → ℕ) (names : List ℕ → Bool) (net : Net) → IsInitialNet starts net → Kept starts (slots_of names net) net
initial_kept starts names net f =
    subst (λ (h : List Entry). KeptFrom starts (slots_of names net) h A net.a net.b) (sym f.history) (record {
      allowed = tt;
      mine = initial_host starts (slots_of names net) A net.a refl f.a;
      theirs = initial_host starts (slots_of names net) B net.b refl f.b;
      pairs = λ i j v w a is_v is_w. absurd (let none : None ≡ Some a.one = a.opened in cc);
      reads = tt;
      ends = tt;
    })

-- SAFE

-- what is kept of two peers
safe_pair :
    (starts : Side → ℕ → ℕ) (slots : Slots) (h : List Entry) (side : Side) (p q : Party) (i j : ℕ) (v w : TcpValue) → KeptFrom starts slots h side p q
    → (a : ArePartners h side i j) → socket_at p i ≡ Some (Tcp v) → socket_at q j ≡ Some (Tcp w)
    → AreSafeSockets v (past_at a.one.local p.segments (told h side i)) w (past_at a.another.local q.segments (told h (other side) j))
safe_pair starts slots h side p q i j v w k a is_v is_w =
    safe_sockets v w (past_at a.one.local p.segments (told h side i)) (past_at a.another.local q.segments (told h (other side) j)) (k.pairs i j v w a is_v is_w)

nothing_alone :
    (starts : Side → ℕ → ℕ) (slots : Slots) (h : List Entry) (side : Side) (p q : Party) (i : ℕ) (v : TcpValue) → KeptFrom starts slots h side p q
    → ((j : ℕ) → ¬ (ArePartners h side i j)) → socket_at p i ≡ Some (Tcp v) → (read h side i ++ v.received.waiting ≡ []) × (v.queued.queue ≡ written h side i)
nothing_alone starts slots h side p q i v k lone is = by (opening h side i) refl where
  ok : TcpOk h side p.segments i v
  ok = k.mine.streams.sockets i v is

  by : (o : Option Opening) → opening h side i ≡ o → (read h side i ++ v.received.waiting ≡ []) × (v.queued.queue ≡ written h side i)
  by None none =
      let u = ok.untouched none in
      let nothing = ap (λ (t : Past). t.read) u.nothing in
      let unwritten = ap (λ (t : Past). t.written) u.nothing in
      (ap (λ (r : List ℕ). r ++ v.received.waiting) nothing ∙ u.initial.waiting, u.initial.queue ∙ sym unwritten)
  by (Some o) opened =
      let keeps = ok.alone o opened lone in
      ((alone_nothing v (past_at o.local p.segments (told h side i)) keeps).read, alone_queue v (past_at o.local p.segments (told h side i)) keeps)

pub kept_at : (starts : Side → ℕ → ℕ) (slots : Slots) (net : Net) (side : Side) → Kept starts slots net →
    KeptFrom starts slots net.history side (party net side) (party net (other side))
kept_at starts slots net A k = k
kept_at starts slots net B k = kept_turned starts slots net.history A net.a net.b k

-- what a socket took in begins what its peer wrote
prefix_at :
    (starts : Side → ℕ → ℕ) (slots : Slots) (net : Net) → Kept starts slots net → (side : Side) (i j : ℕ) (v : TcpValue) → ArePartners net.history side i j →
    IsTcpAt net side i v
    → IsPrefixOf (taken_in net side i v) (written net.history (other side) j)
prefix_at starts slots net k A i j v a is =
    let there = opened_there starts slots net.history B net.b j a.another k.allowed k.theirs a.peer_side_opened in
    (safe_pair starts slots net.history B net.b net.a j i there.0 v (kept_turned starts slots net.history A net.a net.b k)
    (peer_sides_turned net.history A i j a) there.1 is).prefix
prefix_at starts slots net k B i j v a is =
    let there = opened_there starts slots net.history A net.a j a.another k.allowed k.mine a.peer_side_opened in
    (safe_pair starts slots net.history A net.a net.b j i there.0 v k (peer_sides_turned net.history B i j a) there.1 is).prefix

safe_kept : (starts : Side → ℕ → ℕ) (slots : Slots) (net : Net) → Kept starts slots net → IsSafe starts net
safe_kept starts slots net k = record {
  prefix = prefix_at starts slots net k;
  freed = λ side i j v w a is_v is_w.
      let at = kept_at starts slots net side k in
      let p = past_at a.one.local (party net side).segments (told net.history side i) in
      let q = past_at a.another.local (party net (other side)).segments (told net.history (other side) j) in
      pair_rest v w p q (at.pairs i j v w a is_v is_w);
  alone = λ side i v lone is.
      let n = nothing_alone starts slots net.history side (party net side) (party net (other side)) i v (kept_at starts slots net side k) lone is in
      record { taken = n.0; queued = n.1 };
  ends = k.ends;
  reads = k.reads;
}

pub runs_safe : (starts : Side → ℕ → ℕ) (names : List ℕ → Bool) (net : Net) (steps : List Step) → IsInitialNet starts net → IsRun names net steps →
    IsSafe starts (run net steps)
runs_safe starts names net steps initial is_run =
    safe_kept starts (slots_of names net) (run net steps) (kept_run starts (slots_of names net) net steps (initial_kept starts names net initial) is_run)
