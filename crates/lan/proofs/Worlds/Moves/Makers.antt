-- Who makes what is reassembled: a host that never had a UDP socket makes no datagram, and nobody one that is short of its header.
use Rattle.std.proofs.Common.{◌≡◌, ℕ, zero, suc, ◌+◌, ◌≤◌, Bool, List, [], ◌∷◌, length, Option, Some, None, refl, sym, ap, ◌∙◌, subst, arith}
use Rattle.std.specs.List.{AllByRecursion}
use Rattle.std.specs.Prelude.{slice_get, slice_set, slice_index_or}
use Rattle.sim_link.specs.PacketInFrame.{names_tcp_or_udp}
use Rattle.sim_link.specs.Medium.TheVariants as Medium
use Rattle.wire_address.specs.declared.ipv4.Ipv4FragKey.{Ipv4FragKey}
use Rattle.iface_tables.specs.declared.key.FragKey.{FragKey}
use Rattle.iface_tables.specs.declared.key.FragKey.TheVariants as Keys
use Rattle.iface_tables.specs.declared.key.Ipv6FragKey.{Ipv6FragKey}
use Rattle.interface.specs.Ip.{carried_in}
use Rattle.interface.specs.IpRepr.{IpRepr}
use Rattle.iface_ingress.specs.IpProtocol.TheVariants as Protocol
use Rattle.iface_ingress.specs.Sent.{CanBeRead, normal_payload}
use Rattle.sockets.specs.Packet.{PayloadValue, ControlV4, ControlV6, Bytes, Datagram, Segment, payload_written}
use Rattle.sockets.specs.declared.socket.Socket as Sockets
use Rattle.sockets.specs.declared.socket.Socket.TheVariants as Is
use Rattle.iface_egress.specs.declared.socket_set.Item.{Item}
use Rattle.iface_egress.specs.declared.socket_set.SocketStorage.{SocketStorage}
use Rattle.sockets.specs.Context.{ContextValue}
use Rattle.lan.specs.Worlds.AtLink.Side.{Side}
use Rattle.lan.specs.Worlds.AtLink.Side.TheVariants.{A, B}
use Rattle.lan.specs.Worlds.AtLink.Answer.{Answer}
use Rattle.lan.specs.Worlds.AtLink.Call.{SocketCall}
use Rattle.tcp_block.specs.State.{State}
use Rattle.lan.specs.Worlds.AtLink.Moves.Move.{Invokes, Passes, Offers, Gives, Takes, Receives, Resets, Changes}
use Rattle.lan.specs.Worlds.AtLink.Moves.{Move, Does, LooksSame, May, Step, IsRun, run, after, party_after}
use Rattle.lan.specs.Worlds.AtLink.Parties as Parties
use Rattle.lan.specs.Worlds.AtLink.Parties.{Socket, Party, Net, party, socket_at}
use Rattle.lan.specs.Worlds.AtLink.Parties.Socket.{Tcp, Udp, Icmp, Raw}
use Rattle.lan.specs.Worlds.AtLink.Kinds.{other}
use Rattle.lan.specs.Worlds.AtLink.Safe.{seen_in}
use Rattle.lan.specs.Worlds.AtLink.Runs.{Starts, WorldValue, start}
use Rattle.lan.specs.Worlds.AtLink.Node.{node}
use Rattle.lan.specs.Worlds.Link.Made.{sealed, bytes_of}
use Rattle.lan.specs.Worlds.Moves.Follows.{seen_slot, sockets_of}
use Rattle.lan.specs.Worlds.Moves.Joined.{first_net}
use Rattle.lan.specs.Worlds.Moves.Raws.{OfItem, OfEach, HasNoUdp}
use Rattle.lan.proofs.Worlds.Moves.Named.{told, not_udp, not_tcp}
use Rattle.lan.specs.Worlds.ReassembledDatagram.{HasMade, IsOfMadeV4, IsOfMadeV6, IsOfMade, protocol_in, room_before, Rebuilds, ReassembledWasMade}
use Rattle.lan.proofs.Worlds.Link.Fragments.{length_whole}

abbrev IsNoUdp : Option Socket → Type 0
IsNoUdp None = Unit {0}
IsNoUdp (Some (Tcp v)) = Unit {0}
IsNoUdp (Some (Udp v)) = ⊥
IsNoUdp (Some Icmp) = Unit {0}
IsNoUdp (Some Raw) = Unit {0}

abbrev NoneIs : List (Option Socket) → Type 0
NoneIs xs = AllByRecursion IsNoUdp xs

-- it has no UDP socket, and made no datagram
pub record MakesNone (p : Party) : Type 0 where
  pub sockets : NoneIs p.sockets
  pub datagrams : p.datagrams ≡ []

none_at : (xs : List (Option Socket)) (i : ℕ) → NoneIs xs → IsNoUdp (slice_index_or xs i None)
none_at [] zero all = tt
none_at [] (suc i) all = tt
none_at (x ∷ xs) zero all = all.0
none_at (x ∷ xs) (suc i) all = none_at xs i all.1

none_set : (xs : List (Option Socket)) (i : ℕ) (s : Option Socket) → IsNoUdp s → NoneIs xs → NoneIs (slice_set xs i s)
none_set [] zero s is all = tt
none_set [] (suc i) s is all = tt
none_set (x ∷ xs) zero s is all = (is, all.1)
none_set (x ∷ xs) (suc i) s is all = (all.0, none_set xs i s is all.1)

-- a call leaves a socket of its kind, and so does what isn't looked at
none_called : (cx : ContextValue) (old : Socket) (call : SocketCall) (answer : Answer) (found : Option State) (new : Socket) →
    Does cx old call answer found new → IsNoUdp (Some old) → IsNoUdp (Some new)
none_called cx (Tcp v) call answer found (Tcp w) does none = tt
none_called cx (Udp v) call answer found new does none = absurd none
none_called cx Icmp call answer found Icmp does none = tt
none_called cx Raw call answer found Raw does none = tt
none_called cx old call answer found new does none = absurd does

none_changed : (old new : Socket) → LooksSame old new → IsNoUdp (Some old) → IsNoUdp (Some new)
none_changed (Tcp v) (Tcp w) same none = tt
none_changed (Udp v) new same none = absurd none
none_changed old new same none = absurd same

module _ (names : List ℕ → Bool) (net : Net) (side : Side) where
  here : (slot : ℕ) (s : Socket) → MakesNone (party net side) → socket_at (party net side) slot ≡ Some s → IsNoUdp (Some s)
  here slot s none is = subst IsNoUdp is (none_at (party net side).sockets slot none.sockets)

  moved : (move : Move) → May names net side move → MakesNone (party net side) → MakesNone (party_after (party net side) move)
  moved (Invokes slot cx old entry call new) may none = record {
    sockets = none_set (party net side).sockets slot (Some new)
        (none_called cx old call entry.answer entry.found new may.3 (here slot old none may.0)) none.sockets;
    datagrams = none.datagrams;
  }
  moved (Passes entry) may none = none
  moved (Offers slot cx v from sent) may none = record {
    sockets = none_set (party net side).sockets slot _ tt none.sockets;
    datagrams = none.datagrams;
  }
  moved (Gives slot cx v answer v' sent) may none = absurd (here slot (Udp v) none may.0)
  moved (Takes slot cx v ip header bytes) may none = record {
    sockets = none_set (party net side).sockets slot _ tt none.sockets;
    datagrams = none.datagrams;
  }
  moved (Receives slot cx v ip udp bytes) may none = absurd (here slot (Udp v) none may.0)
  moved (Resets x) may none = record { sockets = none.sockets; datagrams = none.datagrams }
  moved (Changes slot old new) may none = record {
    sockets = none_set (party net side).sockets slot (Some new) (none_changed old new may.1 (here slot old none may.0)) none.sockets;
    datagrams = none.datagrams;
  }

stepped : (names : List ℕ → Bool) (net : Net) (mover : Side) (move : Move) (side : Side) → May names net mover move → MakesNone (party net side) →
    MakesNone (party (after net (record { side = mover; move = move })) side)
stepped names net A move A may none = moved names net A move may none
stepped names net B move B may none = moved names net B move may none
stepped names net A move B may none = none
stepped names net B move A may none = none

-- whatever happened to the two hosts
pub none_made : (names : List ℕ → Bool) (net : Net) (steps : List Step) (side : Side) → IsRun names net steps → MakesNone (party net side) →
    MakesNone (party (run net steps) side)
none_made names net [] side may none = none
none_made names net (step ∷ steps) side may none =
    none_made names (after net step) steps side may.1 (stepped names net step.side step.move side may.0 none)

-- the sockets of a host, as moves see them
slot_seen : (inner : Option (Item Sockets.Socket)) → OfItem HasNoUdp inner → IsNoUdp (seen_slot (record { inner = inner }))
slot_seen None none = tt
slot_seen (Some item) none = of item.socket none where
  of : (s : Sockets.Socket) → HasNoUdp s → IsNoUdp (seen_in (Some s))
  of (Is.Raw v) none = tt
  of (Is.Icmp v) none = tt
  of (Is.Udp v) none = absurd none
  of (Is.Tcp v) none = tt
  of (Is.Dhcpv4 v) none = absurd none
  of (Is.Dns v) none = absurd none

pub none_seen : (slots : List (SocketStorage Sockets.Socket)) → OfEach HasNoUdp slots → NoneIs (sockets_of slots)
none_seen [] none = tt
none_seen (slot ∷ slots) none = (slot_seen slot.inner none.0, none_seen slots none.1)

-- WHAT WAS REBUILT

long : (q : Party) (ip : IpRepr) (x : PayloadValue) → HasMade q ip (normal_payload x) → 8 ≤ length (payload_written sealed ip x)
long q ip (Datagram udp bytes) made = omega arith
long q ip (Segment header bytes) made = omega arith
long q ip (ControlV4 message bytes) made = absurd made
long q ip (ControlV6 message bytes) made = absurd made
long q ip (Bytes bytes) made = absurd made

long_segment : (q : Party) (ip : IpRepr) (x : PayloadValue) → CanBeRead ip x → told (carried_in ip) ≡ Protocol.Tcp → HasMade q ip (normal_payload x) →
    20 ≤ length (payload_written sealed ip x)
long_segment q ip (Datagram udp bytes) named tcp made = absurd (not_udp (carried_in ip) named.0 tcp)
long_segment q ip (Segment header bytes) named tcp made = omega arith
long_segment q ip (ControlV4 message bytes) named tcp made = absurd made
long_segment q ip (ControlV6 message bytes) named tcp made = absurd made
long_segment q ip (Bytes bytes) named tcp made = absurd made

made_by_socket : (q : Party) (ip : IpRepr) (x : PayloadValue) → CanBeRead ip x → told (carried_in ip) ≡ Protocol.Udp → HasMade q ip (normal_payload x) →
    q.datagrams ≡ [] → ⊥
made_by_socket q ip (Datagram udp bytes) named is made none =
    let there = ap (λ (xs : List Parties.Datagram). slice_get xs made.0) (sym none) ∙ made.1 in
    cc
made_by_socket q ip (Segment header bytes) named is made none = absurd (not_tcp (carried_in ip) named.0 is)
made_by_socket q ip (ControlV4 message bytes) named is made none = absurd made
made_by_socket q ip (ControlV6 message bytes) named is made none = absurd made
made_by_socket q ip (Bytes bytes) named is made none = absurd made

module _ (q : Party) where
  pub made_long : (key : FragKey) (bytes : List ℕ) → IsOfMade q key bytes → room_before key + 8 ≤ length bytes
  made_long (Keys.Ipv4 key) bytes o =
      subst (λ (xs : List ℕ). 8 ≤ length xs) (sym o.bytes_are) (long q o.packet.header o.packet.payload o.made)
  made_long (Keys.Ipv6 key) bytes o =
      let enough = long q o.packet.header o.packet.payload o.made in
      let count : length bytes ≡ 8 + length (bytes_of o.packet) = ap length o.bytes_are ∙ length_whole o.header.next_header key.id (bytes_of o.packet) in
      omega (arith, enough, count)

  -- the packet's header names what is carried
  named_v4 : (key : Ipv4FragKey) (bytes : List ℕ) (o : IsOfMadeV4 q key bytes) → told (carried_in o.packet.header) ≡ key.protocol
  named_v4 key bytes o =
      let same : key.protocol ≡ told o.header.next_header = ap (λ (k : Ipv4FragKey). k.protocol) o.key_is in
      ap (λ (x : IpRepr). told (carried_in x)) o.header_is ∙ sym same

  named_v6 : (key : Ipv6FragKey) (bytes : List ℕ) (o : IsOfMadeV6 q key bytes) → told (carried_in o.packet.header) ≡ protocol_in (Keys.Ipv6 key) bytes
  named_v6 key bytes o =
      let same : protocol_in (Keys.Ipv6 key) bytes ≡ told o.header.next_header = ap (protocol_in (Keys.Ipv6 key)) o.bytes_are in
      ap (λ (x : IpRepr). told (carried_in x)) o.header_is ∙ sym same

  pub made_segment_long : (key : FragKey) (bytes : List ℕ) → IsOfMade q key bytes → protocol_in key bytes ≡ Protocol.Tcp → room_before key + 20 ≤ length bytes
  made_segment_long (Keys.Ipv4 key) bytes o tcp =
      subst (λ (xs : List ℕ). 20 ≤ length xs) (sym o.bytes_are)
      (long_segment q o.packet.header o.packet.payload o.named (named_v4 key bytes o ∙ tcp) o.made)
  made_segment_long (Keys.Ipv6 key) bytes o tcp =
      let enough = long_segment q o.packet.header o.packet.payload o.named (named_v6 key bytes o ∙ tcp) o.made in
      let count : length bytes ≡ 8 + length (bytes_of o.packet) = ap length o.bytes_are ∙ length_whole o.header.next_header key.id (bytes_of o.packet) in
      omega (arith, enough, count)

  pub made_needs_socket : (key : FragKey) (bytes : List ℕ) → IsOfMade q key bytes → protocol_in key bytes ≡ Protocol.Udp → q.datagrams ≡ [] → ⊥
  made_needs_socket (Keys.Ipv4 key) bytes o udp none =
      made_by_socket q o.packet.header o.packet.payload o.named (named_v4 key bytes o ∙ udp) o.made none
  made_needs_socket (Keys.Ipv6 key) bytes o udp none =
      made_by_socket q o.packet.header o.packet.payload o.named (named_v6 key bytes o ∙ udp) o.made none

-- WHERE EVENTS LED

first_none : (starts : Starts) (side : Side) → OfEach HasNoUdp (start starts side).slots → MakesNone (party (first_net starts) side)
first_none starts A none = record { sockets = none_seen starts.a.slots none; datagrams = refl }
first_none starts B none = record { sockets = none_seen starts.b.slots none; datagrams = refl }

pub made_by_hosts : (w : WorldValue) (side : Side) (key : FragKey) (bytes : List ℕ) → Rebuilds (node w.hosts side) key bytes →
    protocol_in key bytes ≡ Protocol.Udp → OfEach HasNoUdp (start w.starts (other side)).slots → ReassembledWasMade w → ⊥
made_by_hosts w side key bytes r udp none made =
    let ended : MakesNone (party (run (first_net w.starts) made.steps) (other side)) =
    none_made (names_tcp_or_udp Medium.Ip) (first_net w.starts) made.steps (other side) made.may (first_none w.starts (other side) none) in
    let there : MakesNone (party made.net (other side)) = subst (λ (net : Net). MakesNone (party net (other side))) made.ends ended in
    made_needs_socket (party made.net (other side)) key bytes (made.reassembled side key bytes r) udp there.datagrams
