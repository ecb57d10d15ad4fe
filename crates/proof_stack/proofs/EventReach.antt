-- Two peers that are open, and stay, over links which bring what is sent: their hosts let go what goes between them, and take it in.
use Rattle.std.proofs.Common.{◌≡◌, ◌≢◌, ℕ, Bool, true, false, not, ◌&&◌, List, [], ◌∷◌, ◌++◌, Option, Some, None, IfSome}
use Rattle.std.proofs.Common.{refl, sym, ap, ◌∙◌, subst}
use Rattle.std.specs.Prelude.{◌||◌, slice_index_or}
use Rattle.std.specs.List.{list_any}
use Rattle.wire_ip.specs.Ip.{destination_of, source_of}
use Rattle.wire_ip.specs.declared.ip.repr.IpRepr.{IpRepr}
use Rattle.ip_wire.specs.AddressTests.{are_of_one_family, is_broadcast_v4, is_loopback, is_multicast, is_multicast_v4, is_multicast_v6, is_unspecified, is_unspecified_v4, is_unspecified_v6}
use Rattle.ip_wire.specs.Cidr.{cidr_address}
use Rattle.ip_wire.specs.HardwareAddress.TheVariants as Hardware
use Rattle.ip_wire.specs.IpAddress.{IpAddress}
use Rattle.ip_wire.specs.IpAddress.TheVariants as Address
use Rattle.ip_wire.specs.IpCidr.{IpCidr}
use Rattle.iface_egress.specs.Plan.{never_leaves}
use Rattle.iface_ingress.specs.Processed.{is_for_many}
use Rattle.iface_ingress.specs.Reassembled.{is_astray}
use Rattle.iface_ingress.proofs.LocalSources.{own_of}
use Rattle.iface_tables.specs.Inner.{InnerValue, is_broadcast_of, is_foreign_loopback, is_for_us, is_local_broadcast, is_limited_broadcast, is_loopback_in, is_loopback_of, may_be_source, never_comes}
use Rattle.tcp_state.specs.Endpoints.{local_of, remote_of}
use Rattle.tcp_state.specs.declared.endpoints.FourTuple.{FourTuple}
use Rattle.tcp_state.specs.declared.state.State.{State as TcpState}
use Rattle.tcp_state.specs.declared.state.State.TheVariants as In
use Rattle.tcp_block.specs.Value.{TcpValue}
use Rattle.tcp_invariants.specs.Events.{is_past}
use Rattle.tcp_refinement.specs.declared.pair.event.Side.TheVariants as Of
use Rattle.tcp_liveness.specs.Arrivals.{is_synchronized}
use Rattle.tcp_liveness.specs.Exchange.{IsOpen}
use Rattle.tcp_liveness.specs.Pair.{AreMirrored, socket_of}
use Rattle.tcp_liveness.proofs.Mirrored.{connected_mirrored}
use Rattle.lan.specs.declared.at_link.history.event.Side.{Side}
use Rattle.lan.specs.declared.at_link.history.event.Side.TheVariants.{A, B}
use Rattle.lan.specs.Worlds.AtLink.Initial.{IsInitialWorld}
use Rattle.lan.specs.Worlds.AtLink.History.{Entry}
use Rattle.lan.specs.Worlds.AtLink.Kinds.{other}
use Rattle.lan.specs.Worlds.AtLink.PacketsSafe.{IsInitialParty}
use Rattle.lan.specs.Worlds.AtLink.Paired.{AreNew, HaveKeys, NewSocket, at_zero, side_in}
use Rattle.lan.specs.Worlds.AtLink.Parties.{Net, Socket, party, socket_at}
use Rattle.lan.specs.Worlds.AtLink.Parties.Socket.{Tcp}
use Rattle.lan.specs.Worlds.AtLink.PeerSides.{ArePartners}
use Rattle.lan.specs.Worlds.AtLink.Runs.{Starts, start}
use Rattle.lan.specs.Worlds.AtLink.Node.{Nodes, node}
use Rattle.lan.specs.Worlds.Events.{AreTyped}
use Rattle.lan.specs.Worlds.Moves.Follows.{sockets_of}
use Rattle.lan.specs.Worlds.Moves.Joined.{first_net}
use Rattle.lan.specs.Worlds.Still.{StillRun, seats_of}
use Rattle.lan.proofs.Worlds.Moves.Calls.{names}
use Rattle.lan.proofs.Worlds.Moves.Worlds.{initial_net}
use Rattle.lan.proofs.Worlds.Runs.{has_come, held_run}
use Rattle.lan.proofs.Worlds.StillOnward.{instants, now_still, ran}
use Rattle.proof_stack.specs.Progress.Delivered.{may_be_sender}
use Rattle.proof_stack.specs.Progress.Ends.{AreBoth, AreEnds, GoesAlong, IsConnected}
use Rattle.proof_stack.specs.Progress.Linked.{AreLinked}
use Rattle.proof_stack.specs.Progress.PeerSides.{HoldText}
use Rattle.proof_stack.specs.Progress.Reach.{AreInReach, IsAtHome, hosts_before}
use Rattle.proof_stack.specs.Progress.Serving.{IsAtHost}
use Rattle.proof_stack.specs.Progress.Takings.{IsForHost}
use Rattle.proof_stack.proofs.EventConnected.{StaysConnected, stays_connected}
use Rattle.proof_stack.proofs.EventFacts.{both_now}
use Rattle.proof_stack.proofs.EventSlots.{is_tcp}
use Rattle.proof_stack.proofs.EventRoomy.{tcp_so}
use Rattle.proof_stack.proofs.HeldEnds.{HasEnds, IsBetween, AllHave, nameless, quiet_closed, run_ends}

clash : {X : Type 0} → true ≡ false → X
clash {X} e = absurd cc

-- ADDRESSES

no_or : (a b : Bool) → (a || b) ≡ false → (a ≡ false) × (b ≡ false)
no_or true b is = clash is
no_or false b is = (refl, is)

none_such : (a : IpAddress) (blocks : List IpCidr) → list_any (λ b. is_loopback (cidr_address b)) blocks ≡ false → list_any (is_loopback_of a) blocks ≡ false
none_such a [] is = refl
none_such a (b ∷ blocks) is =
    let parts = no_or (is_loopback (cidr_address b)) (list_any (λ b. is_loopback (cidr_address b)) blocks) is in
    (λ k. (parts.0 k && are_of_one_family a (cidr_address b)) || list_any (is_loopback_of a) blocks) ∙ none_such a blocks parts.1

no_loop : (loop any : Bool) → (loop && not any) ≡ false → any ≡ false → loop ≡ false
no_loop true any is none = clash ((λ k. not (sym none k)) ∙ is)
no_loop false any is none = refl

may_so : (all group nobody many loop far : Bool) → (all || group) ≡ false → nobody ≡ false → loop ≡ false
    → (not (all || (group || (nobody && many))) && (not loop || far)) ≡ true
may_so false false false many false far one two three = refl
may_so true group nobody many loop far one two three = clash one
may_so false true nobody many loop far one two three = clash one
may_so false false true many loop far one two three = clash two
may_so false false false many true far one two three = clash three

leaves_so : (nowhere foreign may : Bool) → nowhere ≡ false → foreign ≡ false → may ≡ true → (nowhere || (foreign || not may)) ≡ false
leaves_so false false true one two three = refl
leaves_so true foreign may one two three = clash one
leaves_so false true may one two three = clash two
leaves_so false false false one two three = clash (sym three)

sender_v4 : (nowhere group all here : Bool) → nowhere ≡ false → group ≡ false → all ≡ false → here ≡ false
    → ((not (nowhere || group || all) && not here) || nowhere) ≡ true
sender_v4 false false false false one two three four = refl
sender_v4 true group all here one two three four = clash one
sender_v4 false true all here one two three four = clash two
sender_v4 false false true here one two three four = clash three
sender_v4 false false false true one two three four = clash four

sender_v6 : (nowhere group : Bool) → nowhere ≡ false → group ≡ false → not (nowhere || group) ≡ true
sender_v6 false false one two = refl
sender_v6 true group one two = clash one
sender_v6 false true one two = clash two

-- one host's address may be that of a sender
sender_so : (i : InnerValue) (a : IpAddress) → is_unspecified a ≡ false → is_for_many i a ≡ false → may_be_sender i a ≡ true
sender_so i (Address.Ipv4 a) nowhere one =
    let all = no_or (is_local_broadcast i (Address.Ipv4 a)) (is_multicast_v4 a) one in
    sender_v4 (is_unspecified_v4 a) (is_multicast_v4 a) (is_broadcast_v4 a) (is_local_broadcast i (Address.Ipv4 a)) nowhere all.1
    (no_or (is_broadcast_v4 a) (list_any (is_broadcast_of a) i.addresses) all.0).0 all.0
sender_so i (Address.Ipv6 a) nowhere one = sender_v6 (is_unspecified_v6 a) (is_multicast_v6 a) nowhere one

outward_so : (a : IpAddress) → is_loopback a ≡ false → is_loopback_in a ≡ false
outward_so (Address.Ipv4 a) outward = refl
outward_so (Address.Ipv6 a) outward = outward

-- what a segment that came between two hosts tells of a host without loopback addresses
pub record AreHosts (i : InnerValue) (pair : FourTuple) : Type 0 where
  pub remote : is_unspecified (remote_of pair.addresses) ≡ false
  pub local : is_unspecified (local_of pair.addresses) ≡ false
  pub one : is_for_many i (local_of pair.addresses) ≡ false
  pub remote_here : is_foreign_loopback i (remote_of pair.addresses) ≡ false
  pub outward : is_loopback (local_of pair.addresses) ≡ false

are_hosts : (i : InnerValue) (pair : FourTuple) → list_any (λ b. is_loopback (cidr_address b)) i.addresses ≡ false → IsBetween i pair.addresses → AreHosts i pair
are_hosts i pair outward between =
    let to : IpAddress = local_of pair.addresses in
    let from : IpAddress = remote_of pair.addresses in
    let one = no_or (is_unspecified from) (is_unspecified to || (is_local_broadcast i to || is_multicast to)) between.somebody in
    let two = no_or (is_unspecified to) (is_local_broadcast i to || is_multicast to) one.1 in
    let home = no_or (is_foreign_loopback i from) (is_foreign_loopback i to || never_comes i from to) between.here in
    let here = no_or (is_foreign_loopback i to) (never_comes i from to) home.1 in
    record {
      remote = one.0;
      local = two.0;
      one = two.1;
      remote_here = home.0;
      outward = no_loop (is_loopback to) (list_any (is_loopback_of to) i.addresses) here.0 (none_such to i.addresses outward);
    }

back : (side : Side) → other (other side) ≡ side
back A = refl
back B = refl

-- THE ENDS

module _ (starts : Starts) (pairs : Side → FourTuple) where
  abbrev first : Side → InnerValue
  first s = (start starts s).host.inner

  module _ (addresses : (side : Side) → remote_of (pairs side).addresses ≡ local_of (pairs (other side)).addresses)
      (ports : (side : Side) → (pairs side).remote_port ≡ (pairs (other side)).local_port) (named : (side : Side) → (pairs side).local_port ≢ 0)
      (hosts : (side : Side) → AreHosts (first side) (pairs side)) (between : (side : Side) → IsBetween (first side) (pairs side).addresses) where
    goes : (side : Side) (ip : IpRepr) → GoesAlong (pairs side) ip → never_leaves (first side) ip ≡ false
    goes side ip along =
        let i : InnerValue = first side in
        let is = hosts side in
        let source = local_of (pairs side).addresses in
        let destination = remote_of (pairs side).addresses in
        (λ k. is_unspecified (along.destination k)
        || (is_foreign_loopback i (along.destination k) || not (may_be_source i (along.source k) (along.destination k))))
        ∙ leaves_so (is_unspecified destination) (is_foreign_loopback i destination) (may_be_source i source destination) is.remote is.remote_here
        (may_so (is_local_broadcast i source) (is_multicast source) (is_unspecified source)
        (i.host_requirements && not (is_limited_broadcast destination)) (is_loopback source) (is_loopback destination) is.one is.local is.outward)

    comes : (side : Side) (ip : IpRepr) → GoesAlong (pairs side) ip → IsForHost (first (other side)) Hardware.Ip ip
    comes side ip along =
        let j : InnerValue = first (other side) in
        let far : FourTuple = pairs (other side) in
        let back_from : local_of (pairs side).addresses ≡ remote_of far.addresses =
        ap (λ (s : Side). local_of (pairs s).addresses) (sym (back side)) ∙ sym (addresses (other side)) in
        let source : source_of ip ≡ remote_of far.addresses = along.source ∙ back_from in
        let destination : destination_of ip ≡ local_of far.addresses = along.destination ∙ addresses side in
        record {
          heard = refl;
          framed = refl;
          sender = ap (may_be_sender j) source ∙ sender_so j (remote_of far.addresses) (hosts (other side)).remote (between (other side)).one;
          here = (λ k. is_astray j (source k) (destination k)) ∙ (between (other side)).here;
          ours = ap (is_for_us j) destination ∙ (between (other side)).ours;
          named = (λ k. is_unspecified (source k)
              || (is_unspecified (destination k) || (is_local_broadcast j (destination k) || is_multicast (destination k))))
              ∙ (between (other side)).somebody;
        }

    pub are_ends : AreEnds starts pairs
    are_ends = record { addresses = addresses; ports = ports; named = named; let_go = goes; taken_in = comes }

-- IN A WORLD

later_past : (state : TcpState) → is_synchronized state ≡ true → is_past state ≡ true
later_past In.Closed e = clash (sym e)
later_past In.Listen e = clash (sym e)
later_past In.SynSent e = clash (sym e)
later_past other e = refl

new_ends : (i : InnerValue) (ports : ℕ → ℕ) (net : Net) (side : Side) → IsInitialParty ports (party net side) → (at : ℕ) (v : TcpValue)
    → socket_at (party net side) at ≡ Some (Tcp v) → HasEnds i v
new_ends i ports net side initial at v is =
    let new = (initial.sockets at (Tcp v) is).1 in nameless i v (quiet_closed v.tcb.state new.state) new.pair

first_ends : (starts : Starts) → IsInitialWorld starts → AllHave (λ s. (start starts s).host.inner) names (first_net starts)
first_ends starts initial A = new_ends (start starts A).host.inner _ (first_net starts) A (initial_net starts initial).a
first_ends starts initial B = new_ends (start starts B).host.inner _ (first_net starts) B (initial_net starts initial).b

one_pair : (a b : FourTuple) → Some a ≡ Some b → a ≡ b
one_pair a b e = cc

module _ (starts : Starts) (initial : IsInitialWorld starts) (history : List Entry) (hosts : Nodes) (typed : AreTyped history)
    (still : StillRun starts history hosts) where
  abbrev inner : Side → InnerValue
  inner s = (start starts s).host.inner

  pub outward : (side : Side) → list_any (λ b. is_loopback (cidr_address b)) (inner side).addresses ≡ false
  outward side =
      let it = now_still starts history hosts still side in ap (list_any (λ b. is_loopback (cidr_address b))) (sym it.addresses) ∙ it.outward

  ends_at : (side : Side) (slot : ℕ) (P : TcpValue → Type 0) → IsAtHost slot (node hosts side) P
      → IsAtHost slot (node hosts side) (λ v. HasEnds (inner side) v × P v)
  ends_at side slot P is =
      let came = has_come starts history hosts initial typed (ran starts history hosts still) in
      let all : AllHave inner names came.net =
      subst (AllHave inner names) came.ends
      (run_ends inner names at_zero (first_net starts) came.steps (instants starts hosts) came.may (held_run starts history hosts initial typed still)
      (first_ends starts initial)) in
      tcp_so (slice_index_or (sockets_of (node hosts side).slots) slot None) P (λ v. HasEnds (inner side) v × P v)
      (λ v there so. (all side slot v (ap (λ (ss : List (Option Socket)). slice_index_or ss slot None) (came.of.sockets side) ∙ there), so)) is

  module _ (slots : Side → ℕ) (pairs : Side → FourTuple) (connected : AreBoth (λ side. IsConnected (pairs side)) slots hosts) where
    has_ends : (side : Side) → (v : TcpValue) × HasEnds (inner side) v × IsConnected (pairs side) v
    has_ends side =
        let it = is_tcp (slice_index_or (sockets_of (node hosts side).slots) (slots side) None) (λ v. HasEnds (inner side) v × IsConnected (pairs side) v)
        (ends_at side (slots side) (IsConnected (pairs side)) (connected side)) in
        (it.0, it.2.0, it.2.1)

    pub named : (side : Side) → (pairs side).local_port ≢ 0
    named side = let (v, ends, is) = has_ends side in ends.named (pairs side) is.1

    pub between : (side : Side) → IsBetween (inner side) (pairs side).addresses
    between side = let (v, ends, is) = has_ends side in ends.heard (later_past v.tcb.state is.0) (pairs side) is.1

  -- AT HOME
  home_named : (side : Side) (o : Option FourTuple) → ((pair : FourTuple) → o ≡ Some pair → IsBetween (inner side) pair.addresses)
      → IfSome o (IsAtHome (inner side))
  home_named side None heard = tt
  home_named side (Some pair) heard =
      let is = are_hosts (inner side) pair (outward side) (heard pair refl) in
      let local : IpAddress = local_of pair.addresses in
      record {
        own = own_of (inner side) local (heard pair refl).ours is.one (outward_so local is.outward);
        one_host = (heard pair refl).one;
      }

  pub home_at : (side : Side) (slot : ℕ) → IsAtHost slot (node hosts side) (λ v. is_past v.tcb.state ≡ true)
      → IsAtHost slot (node hosts side) (λ v. IfSome v.tcb.names.pair (IsAtHome (inner side)))
  home_at side slot is =
      tcp_so (slice_index_or (sockets_of (node hosts side).slots) slot None) (λ v. HasEnds (inner side) v × (is_past v.tcb.state ≡ true))
      (λ v. IfSome v.tcb.names.pair (IsAtHome (inner side))) (λ v there so. home_named side v.tcb.names.pair (so.0.heard so.1))
      (ends_at side slot (λ v. is_past v.tcb.state ≡ true) is)

module _ (starts : Starts) (slots : Side → ℕ) (past more : List Entry) (hosts : Nodes) (still : StillRun starts (more ++ past) hosts)
    (it : StaysConnected starts slots past more hosts still) where
  mirrored : (side : Side) → AreMirrored (socket_of it.pair (side_in side)).tcb (socket_of it.pair (side_in (other side))).tcb
  mirrored A = connected_mirrored it.pair Of.A it.reached it.there.0 it.there.1
  mirrored B = connected_mirrored it.pair Of.B it.reached it.there.1 it.there.0

  own : (side : Side) → (mirrored side).own ≡ it.pairs side
  own side = one_pair (mirrored side).own (it.pairs side) (sym (mirrored side).named ∙ it.named side)

  theirs : (side : Side) → (mirrored side).theirs ≡ it.pairs (other side)
  theirs side = one_pair (mirrored side).theirs (it.pairs (other side)) (sym (mirrored side).peer_side_named ∙ it.named (other side))

  pub mirrored_addresses : (side : Side) → remote_of (it.pairs side).addresses ≡ local_of (it.pairs (other side)).addresses
  mirrored_addresses side =
      ap (λ (x : FourTuple). remote_of x.addresses) (sym (own side)) ∙ (mirrored side).remote ∙ ap (λ (x : FourTuple). local_of x.addresses) (theirs side)

  pub mirrored_ports : (side : Side) → (it.pairs side).remote_port ≡ (it.pairs (other side)).local_port
  mirrored_ports side =
      ap (λ (x : FourTuple). x.remote_port) (sym (own side)) ∙ (mirrored side).remote_port ∙ ap (λ (x : FourTuple). x.local_port) (theirs side)

-- what stays connected has ends at hosts that let go, and take in, what goes between them
pub ends_between : (starts : Starts) (past more : List Entry) (hosts : Nodes) (slots : Side → ℕ) → IsInitialWorld starts → AreTyped (more ++ past)
    → (still : StillRun starts (more ++ past) hosts) (it : StaysConnected starts slots past more hosts still) → AreEnds starts it.pairs
ends_between starts past more hosts slots initial typed still it =
    let history : List Entry = more ++ past in
    let now : AreBoth (λ side. IsConnected (it.pairs side)) slots hosts =
    both_now (λ side. IsConnected (it.pairs side)) starts slots past more hosts still it.connected in
    let far = between starts initial history hosts typed still slots it.pairs now in
    are_ends starts it.pairs (mirrored_addresses starts slots past more hosts still it) (mirrored_ports starts slots past more hosts still it)
    (named starts initial history hosts typed still slots it.pairs now)
    (λ side. are_hosts (start starts side).host.inner (it.pairs side) (outward starts initial history hosts typed still side) (far side)) far

-- OVER LINKS

pub linked : (starts : Starts) (past more : List Entry) (hosts : Nodes) (slots : Side → ℕ) (news : Side → NewSocket) (delay : ℕ) → IsInitialWorld starts
    → AreTyped (more ++ past) → (still : StillRun starts (more ++ past) hosts) → AreNew (seats_of starts slots) news (first_net starts)
    → HaveKeys (seats_of starts slots) → HoldText (seats_of starts slots) → ArePartners past A (slots A) (slots B)
    → AreBoth (λ side v. IsOpen v.tcb) slots (hosts_before starts past more hosts still)
    → AreBoth (λ side v. is_synchronized v.tcb.state ≡ true) slots hosts → AreInReach starts delay past more hosts still
    → AreLinked starts slots delay past more hosts still
linked starts past more hosts slots news delay initial typed still new keys text peer_sides opened stay reach =
    let it = stays_connected starts past more hosts slots news initial typed still new keys text peer_sides opened stay in
    record {
      medium = reach.medium;
      pairs = it.pairs;
      ends = ends_between starts past more hosts slots initial typed still it;
      connected = it.connected;
      leave = reach.leave;
      on_way = reach.on_way;
      carried = reach.carried;
    }
