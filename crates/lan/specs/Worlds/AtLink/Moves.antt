-- What may happen, and what becomes of it.
use Rattle.std.specs.Prelude.{◌≡◌, ◌⊎◌, ℕ, Bool, true, false, List, [], ◌∷◌, ◌++◌, slice_set, Option, Some, None, IfSome}
use Rattle.ip_wire.specs.Ip.{source_of, destination_of}
use Rattle.ip_wire.specs.IpAddress.{IpAddress}
use Rattle.ip_wire.specs.IpRepr.{IpRepr}
use Rattle.ip_wire.specs.TcpHeader.{TcpHeader}
use Rattle.ip_wire.specs.UdpRepr.{UdpRepr}
use Rattle.net_base.specs.Packets.{contents}
use Rattle.sockets.specs.Context.{ContextValue}
use Rattle.sockets.specs.Offer as Answers
use Rattle.socket_datagram.specs.SocketValue as Datagrams
use Rattle.socket_datagram.specs.Udp as Udps
use Rattle.socket_datagram.specs.Udp.{UdpValue}
use Rattle.tcp_refinement.specs.Segment.Control.{Rst}
use Rattle.tcp_refinement.specs.Host.{Made, seen_of, IsSeenAmong, and_answer, and_offer}
use Rattle.tcp_refinement.specs.Tie.{core_of}
use Rattle.tcp_block.specs.Arrival.{arrives}
use Rattle.tcp_block.specs.Names.{accepts}
use Rattle.tcp_block.specs.Offers.{offer_of}
use Rattle.tcp_block.specs.Settled.{settled}
use Rattle.tcp_block.specs.Value.{TcpValue}
use Rattle.tcp_block.specs.State.{State}
use Rattle.lan.specs.declared.at_link.history.answer.Answer.{Answer}
use Rattle.lan.specs.declared.at_link.history.answer.Answer.TheVariants as To
use Rattle.lan.specs.declared.at_link.history.event.Side.{Side}
use Rattle.lan.specs.Worlds.AtLink.Kinds.{other, Kind, kind_of, calls}
use Rattle.lan.specs.Worlds.AtLink.Call.{SocketCall}
use Rattle.lan.specs.Worlds.AtLink.Kinds.Act.{Calls}
use Rattle.lan.specs.Worlds.AtLink.Kinds.Kind.{OfHost}
use Rattle.lan.specs.Worlds.AtLink.Call as Call
use Rattle.lan.specs.Worlds.AtLink.History.{Entry}
use Rattle.lan.specs.Worlds.AtLink.Tables.{IsAllowed}
use Rattle.lan.specs.Worlds.AtLink.Calls.{Did, tcp_does, udp_does}
use Rattle.lan.specs.Worlds.AtLink.Parties.{Socket, Party, socket_at, WasMade, datagrams_of, Net, party, with_party, slots_of}
use Rattle.lan.specs.Worlds.AtLink.Parties.Socket.{Tcp, Udp, Icmp, Raw}

-- A move of a host, which names the socket at the slot as it is, and of a call what it is afterwards.
pub data Move : Type 0 where
  -- an application's call of a socket, as the history has it
  Invokes : (slot : ℕ) (cx : ContextValue) (old : Socket) (entry : Entry) (call : SocketCall) (new : Socket) → Move
  -- an event that is no call of a TCP or UDP socket
  Passes : (entry : Entry) → Move
  -- a TCP socket is asked for a segment, and the offer is settled; one that is sent leaves from this address
  Offers : (slot : ℕ) (cx : ContextValue) (v : TcpValue) (from : IpAddress) (sent : Bool) → Move
  -- a UDP socket is asked for a datagram, and the offer is settled
  Gives : (slot : ℕ) (cx : ContextValue) (v : UdpValue) (answer : Answers.Offer) (v' : UdpValue) (sent : Bool) → Move
  -- a TCP segment that is seen as one that the other host made comes to a socket that accepts it
  Takes : (slot : ℕ) (cx : ContextValue) (v : TcpValue) (ip : IpRepr) (header : TcpHeader) (bytes : List ℕ) → Move
  -- a UDP datagram that the other host made comes to a socket that accepts it
  Receives : (slot : ℕ) (cx : ContextValue) (v : UdpValue) (ip : IpRepr) (udp : UdpRepr) (bytes : List ℕ) → Move
  -- the host itself makes a reset
  Resets : (x : Made) → Move
  -- nothing that is looked at changes
  Changes : (slot : ℕ) (old new : Socket) → Move

-- CALLS

-- what an ICMP or a raw socket answers: never a datagram with its endpoint
abbrev pub IsOfOthers : SocketCall → Answer → Type 0
IsOfOthers (Call.Ident ident) answer = Unit {0}
IsOfOthers (Call.SendIcmp remote bytes) answer = Unit {0}
IsOfOthers (Call.SendRaw bytes) answer = Unit {0}
IsOfOthers (Call.RecvFrom limit) (To.FromEndpoint remote bytes) = ⊥
IsOfOthers (Call.RecvFrom limit) answer = Unit {0}
IsOfOthers call answer = ⊥

abbrev pub DoneBy : {V : Type 0} → Option (Did V) → Answer → Option State → V → Type 0
DoneBy None answer found new = ⊥
DoneBy (Some did) answer found new = (answer ≡ did.answer) × (found ≡ did.found) × (new ≡ did.socket)

-- the answer, the state that a close found, and the socket afterwards, which stays of its kind
abbrev pub Does : ContextValue → Socket → SocketCall → Answer → Option State → Socket → Type 0
Does cx (Tcp v) call answer found (Tcp new) = DoneBy (tcp_does cx v call) answer found new
Does cx (Udp v) call answer found (Udp new) = DoneBy (udp_does v call) answer found new
Does cx Icmp call answer found Icmp = IsOfOthers call answer × (found ≡ None)
Does cx Raw call answer found Raw = IsOfOthers call answer × (found ≡ None)
Does cx old call answer found new = ⊥

abbrev pub IsNoCall : Kind → Type 0
IsNoCall (OfHost side (Calls slot call)) = ⊥
IsNoCall kind = Unit {0}

-- SAME

abbrev pub LooksSame : Socket → Socket → Type 0
LooksSame (Tcp v) (Tcp new) = core_of new ≡ core_of v
LooksSame (Udp v) (Udp new) =
    (new.settings.endpoint.port ≡ v.settings.endpoint.port) × (contents new.received ≡ contents v.received) × (contents new.queued ≡ contents v.queued)
LooksSame old new = ⊥

-- OFFERS

-- An offer leaves from its source, or from the address that the host chooses for its destination (RFC 1122, sections 3.2.1.3 and 3.3.4.3).
-- Which of them it is, the host's addresses say, which are no part of a net.
abbrev pub LeavesFrom : ContextValue → IpAddress → IpRepr → Type 0
LeavesFrom cx from header = (from ≡ source_of header) ⊎ (cx.source_for (destination_of header) ≡ Some from)

-- THE HOST AFTERWARDS

abbrev pub with_socket : Party → ℕ → Socket → Party
with_socket p i s = record p { sockets = slice_set p.sockets i (Some s) }

abbrev pub offered_segments : Bool → Party → IpAddress → TcpValue → List Made
offered_segments true p from v = and_offer p.segments from v.offered v.queued.queue
offered_segments false p from v = p.segments

abbrev pub party_after : Party → Move → Party
party_after p (Invokes slot cx old entry call new) = with_socket p slot new
party_after p (Passes entry) = p
party_after p (Offers slot cx v from sent) =
    record (with_socket p slot (Tcp (settled sent (offer_of cx v).socket))) { segments = offered_segments sent p from (offer_of cx v).socket }
party_after p (Gives slot cx v answer v' sent) =
    record (with_socket p slot (Udp (Datagrams.settled sent v'))) { datagrams = p.datagrams ++ datagrams_of v'.offered }
party_after p (Takes slot cx v ip header bytes) =
    record (with_socket p slot (Tcp (arrives cx v ip header bytes).socket)) { segments = and_answer p.segments (arrives cx v ip header bytes).answer }
party_after p (Receives slot cx v ip udp bytes) = with_socket p slot (Udp (Udps.process_after v ip udp bytes))
party_after p (Resets x) = record p { segments = p.segments ++ x ∷ [] }
party_after p (Changes slot old new) = with_socket p slot new

abbrev pub history_after : List Entry → Move → List Entry
history_after history (Invokes slot cx old entry call new) = entry ∷ history
history_after history (Passes entry) = entry ∷ history
history_after history move = history

-- WHAT MAY HAPPEN. `names` says whether an IP packet carries TCP or UDP.

abbrev pub May : (List ℕ → Bool) → Net → Side → Move → Type 0
May names net side (Invokes slot cx old entry call new) =
    (socket_at (party net side) slot ≡ Some old) × (kind_of entry.event ≡ calls side slot call)
    × IsAllowed (slots_of names net) net.history (kind_of entry.event) × Does cx old call entry.answer entry.found new
May names net side (Passes entry) = IsNoCall (kind_of entry.event)
May names net side (Offers slot cx v from sent) =
    (socket_at (party net side) slot ≡ Some (Tcp v)) × IfSome (offer_of cx v).socket.offered (λ o. LeavesFrom cx from o.header)
May names net side (Gives slot cx v answer v' sent) = (socket_at (party net side) slot ≡ Some (Udp v)) × Udps.Offers cx v answer v'
May names net side (Takes slot cx v ip header bytes) =
    (socket_at (party net side) slot ≡ Some (Tcp v)) × (accepts v.tcb ip header ≡ true)
    × IsSeenAmong (party net (other side)).segments header bytes
May names net side (Receives slot cx v ip udp bytes) =
    (socket_at (party net side) slot ≡ Some (Udp v)) × (Udps.accepts cx v ip udp ≡ true)
    × WasMade (party net (other side)) (record { source = udp.src_port; destination = udp.dst_port; bytes = bytes })
May names net side (Resets x) = (seen_of x).control ≡ Rst
May names net side (Changes slot old new) = (socket_at (party net side) slot ≡ Some old) × LooksSame old new

-- RUNS

pub record Step : Type 0 where
  pub side : Side
  pub move : Move

abbrev pub after : Net → Step → Net
after net step =
    record (with_party net step.side (party_after (party net step.side) step.move)) { history = history_after net.history step.move }

-- each step may happen where the ones before it have led to
abbrev pub IsRun : (List ℕ → Bool) → Net → List Step → Type 0
IsRun names net [] = Unit {0}
IsRun names net (step ∷ steps) = May names net step.side step.move × IsRun names (after net step) steps

abbrev pub run : Net → List Step → Net
run net [] = net
run net (step ∷ steps) = run (after net step) steps
