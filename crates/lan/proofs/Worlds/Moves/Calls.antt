-- A call of a host's socket is a move.
use Rattle.std.proofs.Common.{◌≡◌, ℕ, zero, suc, Bool, List, [], ◌∷◌, length, map, Option, Some, None, refl, sym, ap, ◌∙◌, subst}
use Rattle.std.specs.Prelude.{nat_lt, if◌then◌else◌, true, false, slice_get, slice_set, slice_index_or}
use Rattle.iface_ingress.specs.IpAddress.{IpAddress}
use Rattle.sim_link.specs.Medium.TheVariants as Medium
use Rattle.base_buffer.specs.Packets.{first}
use Rattle.sockets.specs.Context.{ContextValue}
use Rattle.socket_datagram.specs.Icmp.{IcmpValue}
use Rattle.socket_datagram.specs.Raw.{RawValue}
use Rattle.socket_datagram.specs.Udp.{UdpValue}
use Rattle.tcp_block.specs.State as States
use Rattle.tcp_block.specs.Value.{TcpValue}
use Rattle.sockets.specs.declared.socket.Socket.{Socket}
use Rattle.sockets.specs.declared.socket.Socket.TheVariants as Is
use Rattle.iface_tables.specs.Inner.{InnerValue, context_of}
use Rattle.iface_egress.specs.Set.{socket_in, with_socket}
use Rattle.iface_egress.specs.declared.socket_set.Item.{Item}
use Rattle.iface_egress.specs.declared.socket_set.SocketStorage.{SocketStorage}
use Rattle.sim_link.specs.PacketInFrame.{names_tcp_or_udp}
use Rattle.lan.specs.Worlds.AtLink.Call as Call
use Rattle.lan.specs.Worlds.AtLink.Call.{SocketCall}
use Rattle.lan.specs.Worlds.AtLink.History.{Entry}
use Rattle.lan.specs.Worlds.AtLink.Kinds.{calls, Kind}
use Rattle.lan.specs.Worlds.AtLink.Tables.{IsAllowed, call_refusal, table_of}
use Rattle.lan.specs.Worlds.AtLink.Answer.{Answer}
use Rattle.lan.specs.Worlds.AtLink.Answer.TheVariants as To
use Rattle.lan.specs.Worlds.AtLink.Fault.TheVariants as For
use Rattle.lan.specs.Worlds.AtLink.Side.{Side}
use Rattle.lan.specs.Worlds.AtLink.Side.TheVariants.{A, B}
use Rattle.lan.specs.Worlds.AtLink.SocketKind.{SocketKind}
use Rattle.lan.specs.Worlds.AtLink.Calls.{Did, tcp_does, udp_does}
use Rattle.lan.specs.Worlds.AtLink.Moves as Moves
use Rattle.lan.specs.Worlds.AtLink.Moves.{IsOfOthers, DoneBy}
use Rattle.lan.specs.Worlds.AtLink.Parties as Parties
use Rattle.lan.specs.Worlds.AtLink.Parties.{Party, Net, party, slots_of}
use Rattle.lan.specs.Worlds.AtLink.Does.{Does, SlotDoes, ItemDoes, DidAt, does, did_as, icmp_does, raw_does, message_or, packet_or}
use Rattle.lan.specs.Worlds.AtLink.Refusals.{refusal}
use Rattle.lan.specs.Worlds.AtLink.Runs.{tables_in}
use Rattle.lan.specs.Worlds.AtLink.Safe.{seen}
use Rattle.lan.specs.Worlds.AtLink.Node as Nodes
use Rattle.lan.specs.Worlds.AtLink.Node.{NodeValue, node, kind_at}
use Rattle.lan.specs.Worlds.Moves.Follows.{seen_slot, sockets_of, IsNetOf}
use Rattle.lan.proofs.Worlds.Moves.Slots.{Slots, seen_set}

-- WHICH SOCKETS THERE ARE

seen_get : (slots : Slots) (i : ℕ) (slot : SocketStorage Socket) → slice_get slots i ≡ Some slot →
    slice_index_or (sockets_of slots) i None ≡ seen_slot slot
seen_get [] zero slot e = absurd (cc)
seen_get [] (suc i) slot e = absurd (cc)
seen_get (p ∷ ps) zero slot e = let same : p ≡ slot = cc in ap seen_slot same
seen_get (p ∷ ps) (suc i) slot e = seen_get ps i slot e

kind_same : (o : Option (Item Socket)) → Parties.kind_in (seen_slot (record { inner = o })) ≡ Nodes.kind_in (socket_in (Some (record { inner = o })))
kind_same None = refl
kind_same (Some item) = by item.socket where
  by : (s : Socket) → Parties.kind_in (seen s) ≡ Nodes.kind_in (Some s)
  by (Is.Raw v) = refl
  by (Is.Icmp v) = refl
  by (Is.Udp v) = refl
  by (Is.Tcp v) = refl
  by (Is.Dhcpv4 v) = refl
  by (Is.Dns v) = refl

kinds_same : (slots : Slots) (i : ℕ) → slice_index_or (map Parties.kind_in (sockets_of slots)) i None ≡ kind_at slots i
kinds_same [] zero = refl
kinds_same [] (suc i) = refl
kinds_same (p ∷ ps) zero = kind_same p.inner
kinds_same (p ∷ ps) (suc i) = kinds_same ps i

kinds_len : (slots : Slots) → length (map Parties.kind_in (sockets_of slots)) ≡ length slots
kinds_len [] = refl
kinds_len (p ∷ ps) = ap suc (kinds_len ps)

-- THE CALL

-- a call as a move has it, and the sockets after it
pub record IsCalled (inner : InnerValue) (p : Party) (slots' : Slots) (i : ℕ) (call : SocketCall) (answer : Answer) (found : Option States.State) : Type 0 where
  pub cx : ContextValue
  pub shown : cx ≡ context_of inner
  pub old : Parties.Socket
  pub new : Parties.Socket
  pub there : Parties.socket_at p i ≡ Some old
  pub does : Moves.Does cx old call answer found new
  pub sockets : slice_set p.sockets i (Some new) ≡ sockets_of slots'

raw_answer : (first : Option (Unit {0} × List ℕ)) (limit : ℕ) → IsOfOthers (Call.RecvFrom limit) (packet_or first limit)
raw_answer None limit = tt
raw_answer (Some p) limit = by (nat_lt limit (length p.1)) where
  by : (short : Bool) → IsOfOthers (Call.RecvFrom limit) (if short then To.Error For.Truncated else To.Bytes p.1)
  by true = tt
  by false = tt

icmp_answer : (first : Option (IpAddress × List ℕ)) (limit : ℕ) → IsOfOthers (Call.RecvFrom limit) (message_or first limit)
icmp_answer None limit = tt
icmp_answer (Some m) limit = by (nat_lt limit (length m.1)) where
  by : (short : Bool) → IsOfOthers (Call.RecvFrom limit) (if short then To.Error For.Truncated else To.FromAddr m.0 m.1)
  by true = tt
  by false = tt

-- what a call of a raw or of an ICMP socket answers is its own, and what it finds is nothing
abbrev OfOthers : {V : Type 0} → SocketCall → Option (Did V) → Type 0
OfOthers call None = Unit {0}
OfOthers call (Some d) = IsOfOthers call d.answer × (d.found ≡ None)

raw_own : (v : RawValue) (call : SocketCall) → OfOthers call (raw_does v call)
raw_own v (Call.SendRaw bytes) = (tt, refl)
raw_own v (Call.RecvFrom limit) = (raw_answer (first v.received) limit, refl)
raw_own v call = tt

icmp_own : (v : IcmpValue) (call : SocketCall) → OfOthers call (icmp_does v call)
icmp_own v (Call.Ident ident) = (tt, refl)
icmp_own v (Call.SendIcmp remote bytes) = (tt, refl)
icmp_own v (Call.RecvFrom limit) = (icmp_answer (first v.received) limit, refl)
icmp_own v call = tt

module _ (p : Party) (s s' : NodeValue) (has : p.sockets ≡ sockets_of s.slots) (i : ℕ) (call : SocketCall) (answer : Answer)
    (found : Option States.State) where
  abbrev Called : Type 0
  Called = IsCalled s.host.inner p s'.slots i call answer found

  following : (item : Item Socket) (old new : Socket) (x y : Parties.Socket) → seen old ≡ Some x → seen new ≡ Some y →
      slice_get s.slots i ≡ Some (record { inner = Some (record item { socket = old }) }) → s'.slots ≡ slice_set s.slots i (with_socket item new)
      → Moves.Does (context_of s.host.inner) x call answer found y → Called
  following item old new x y was becomes there is does = record {
    cx = context_of s.host.inner;
    shown = refl;
    old = x;
    new = y;
    there = ap (λ (xs : List (Option Parties.Socket)). slice_index_or xs i None) has ∙
        seen_get s.slots i (record { inner = Some (record item { socket = old }) }) there ∙ was;
    does = does;
    sockets =
        ap (λ (o : Option Parties.Socket). slice_set p.sockets i o) (sym becomes) ∙
        ap (λ (xs : List (Option Parties.Socket)). slice_set xs i (seen new)) has ∙ sym (seen_set s.slots i (with_socket item new)) ∙
        ap (λ (ps : Slots). sockets_of ps) (sym is);
  }

  abbrev At : Item Socket → Socket → Type 0
  At item old = slice_get s.slots i ≡ Some (record { inner = Some (record item { socket = old }) })

  tcp : (item : Item Socket) (v : TcpValue) (o : Option (Did TcpValue)) → o ≡ tcp_does (context_of s.host.inner) v call → At item (Is.Tcp v)
      → DidAt s i (record item { socket = Is.Tcp v }) call (did_as Is.Tcp o) answer found s' → Called
  tcp item v None is there did = absurd did
  tcp item v (Some d) is there did =
      let done : DoneBy (Some d) answer found d.socket = (did.0, did.1, refl) in
      following item (Is.Tcp v) (Is.Tcp d.socket) (Parties.Tcp v) (Parties.Tcp d.socket) refl refl there (ap (λ (x : NodeValue). x.slots) did.2)
      (subst (λ (o : Option (Did TcpValue)). DoneBy o answer found d.socket) is done)

  udp : (item : Item Socket) (v : UdpValue) (o : Option (Did UdpValue)) → o ≡ udp_does v call → At item (Is.Udp v)
      → DidAt s i (record item { socket = Is.Udp v }) call (did_as Is.Udp o) answer found s' → Called
  udp item v None is there did = absurd did
  udp item v (Some d) is there did =
      let done : DoneBy (Some d) answer found d.socket = (did.0, did.1, refl) in
      following item (Is.Udp v) (Is.Udp d.socket) (Parties.Udp v) (Parties.Udp d.socket) refl refl there (ap (λ (x : NodeValue). x.slots) did.2)
      (subst (λ (o : Option (Did UdpValue)). DoneBy o answer found d.socket) is done)

  icmp : (item : Item Socket) (v : IcmpValue) (o : Option (Did IcmpValue)) → OfOthers call o → At item (Is.Icmp v)
      → DidAt s i (record item { socket = Is.Icmp v }) call (did_as Is.Icmp o) answer found s' → Called
  icmp item v None own there did = absurd did
  icmp item v (Some d) own there did =
      following item (Is.Icmp v) (Is.Icmp d.socket) Parties.Icmp Parties.Icmp refl refl there (ap (λ (x : NodeValue). x.slots) did.2)
      (subst (λ (a : Answer). IsOfOthers call a) (sym did.0) own.0, did.1 ∙ own.1)

  raw : (item : Item Socket) (v : RawValue) (o : Option (Did RawValue)) → OfOthers call o → At item (Is.Raw v)
      → DidAt s i (record item { socket = Is.Raw v }) call (did_as Is.Raw o) answer found s' → Called
  raw item v None own there did = absurd did
  raw item v (Some d) own there did =
      following item (Is.Raw v) (Is.Raw d.socket) Parties.Raw Parties.Raw refl refl there (ap (λ (x : NodeValue). x.slots) did.2)
      (subst (λ (a : Answer). IsOfOthers call a) (sym did.0) own.0, did.1 ∙ own.1)

  socket : (item : Item Socket) (old : Socket) → At item old →
      DidAt s i (record item { socket = old }) call (does (context_of s.host.inner) old call) answer found s' → Called
  socket item (Is.Raw v) there did = raw item v (raw_does v call) (raw_own v call) there did
  socket item (Is.Icmp v) there did = icmp item v (icmp_does v call) (icmp_own v call) there did
  socket item (Is.Udp v) there did = udp item v (udp_does v call) refl there did
  socket item (Is.Tcp v) there did = tcp item v (tcp_does (context_of s.host.inner) v call) refl there did
  socket item (Is.Dhcpv4 v) there did = absurd did
  socket item (Is.Dns v) there did = absurd did

  item_does : (o : Option (Item Socket)) → slice_get s.slots i ≡ Some (record { inner = o }) → ItemDoes s i o call answer found s' → Called
  item_does None there does = absurd does
  item_does (Some item) there does = socket item item.socket there does

  slot_does : (o : Option (SocketStorage Socket)) → slice_get s.slots i ≡ o → SlotDoes s i o call answer found s' → Called
  slot_does None there does = absurd does
  slot_does (Some slot) there does = item_does slot.inner there does

  pub call_is_called : Does s i call answer found s' → Called
  call_is_called does = slot_does (slice_get s.slots i) refl does

-- ALLOWED

abbrev pub names : List ℕ → Bool
names = names_tcp_or_udp Medium.Ip

allowed_so : (k k' : Option SocketKind) (n n' : ℕ) (past past' : List Entry) (side : Side) (i : ℕ) (call : SocketCall) → k' ≡ k → n' ≡ n → past' ≡ past
    → call_refusal names k (table_of past side n) i call ≡ None → call_refusal names k' (table_of past' side n') i call ≡ None
allowed_so k k' n n' past past' side i call kinds len history is =
    (λ j. call_refusal names (kinds j) (table_of (history j) side (len j)) i call) ∙ is

kind_in_net : (sockets : List (Option Parties.Socket)) (slots : Slots) (i : ℕ) → sockets ≡ sockets_of slots →
    slice_index_or (map Parties.kind_in sockets) i None ≡ kind_at slots i
kind_in_net sockets slots i has = ap (λ (xs : List (Option Parties.Socket)). slice_index_or (map Parties.kind_in xs) i None) has ∙ kinds_same slots i

len_in_net : (sockets : List (Option Parties.Socket)) (slots : Slots) → sockets ≡ sockets_of slots → length (map Parties.kind_in sockets) ≡ length slots
len_in_net sockets slots has = ap (λ (xs : List (Option Parties.Socket)). length (map Parties.kind_in xs)) has ∙ kinds_len slots

pub call_allowed : (net : Net) (hosts : Nodes.Nodes) (past : List Entry) (side : Side) (i : ℕ) (call : SocketCall) (k : Kind) → IsNetOf net hosts past →
    k ≡ calls side i call
    → refusal hosts (tables_in past hosts) k ≡ None → IsAllowed (slots_of names net) net.history k
call_allowed net hosts past side i call k of is none =
    let allowed : refusal hosts (tables_in past hosts) (calls side i call) ≡ None =
    subst (λ (x : Kind). refusal hosts (tables_in past hosts) x ≡ None) is none in
    subst (λ (x : Kind). IsAllowed (slots_of names net) net.history x) (sym is) (by side (of.sockets side) allowed)
  where
    by : (side : Side) → (party net side).sockets ≡ sockets_of (node hosts side).slots → refusal hosts (tables_in past hosts) (calls side i call) ≡ None →
        IsAllowed (slots_of names net) net.history (calls side i call)
    by A has allowed =
        allowed_so (kind_at hosts.a.slots i) _ (length hosts.a.slots) _ past net.history A i call (kind_in_net net.a.sockets hosts.a.slots i has)
        (len_in_net net.a.sockets hosts.a.slots has) of.history allowed
    by B has allowed =
        allowed_so (kind_at hosts.b.slots i) _ (length hosts.b.slots) _ past net.history B i call (kind_in_net net.b.sockets hosts.b.slots i has)
        (len_in_net net.b.sockets hosts.b.slots has) of.history allowed
