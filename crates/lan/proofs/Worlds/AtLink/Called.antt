-- A call at a slot, as an act of its host.
use Rattle.std.proofs.Common.{◌≡◌, ℕ, true, List, Option, None, Some, Result, Ok, Err, refl, sym, ap, ◌∙◌, subst}
use Rattle.std.specs.Prelude.{slice_get, slice_set, OnErr}
use Rattle.std.proofs.lemmas.List.{set-get_or}
use Rattle.std.proofs.lemmas.Option.{get_or_from_slice_get}
use Rattle.sockets.specs.Context.{ContextValue}
use Rattle.sim_link.specs.Port.{LinkEnd}
use Rattle.interface.specs.Host.{HostValue}
use Rattle.iface_egress.specs.Inner.{context_of}
use Rattle.iface_egress.specs.Set.{with_socket, socket_in, socket_of}
use Rattle.iface_egress.specs.declared.socket_set.Item.{Item}
use Rattle.iface_egress.specs.declared.socket_set.SocketStorage.{SocketStorage}
use Rattle.sockets.specs.declared.socket.Socket.{Socket}
use Rattle.sockets.specs.declared.socket.Socket.TheVariants as Is
use Rattle.lan.specs.Worlds.AtLink.Call as Call
use Rattle.lan.specs.Worlds.AtLink.Call.{SocketCall}
use Rattle.lan.specs.Worlds.AtLink.Kinds.{Kind}
use Rattle.lan.specs.Worlds.AtLink.Kinds.Act.{Calls, Sets, Opens, Asks, Polls}
use Rattle.lan.specs.Worlds.AtLink.Kinds.Kind.{OfHost, OfLink}
use Rattle.lan.specs.declared.at_link.history.event.Side.{Side}
use Rattle.lan.specs.Worlds.AtLink.Calls.{Did}
use Rattle.lan.specs.Worlds.AtLink.Acting.{ActsBy, ActsSo}
use Rattle.lan.specs.Worlds.AtLink.Answers.{HasTaken}
use Rattle.lan.specs.Worlds.AtLink.Calling.{is_called, ItemCalls, SlotCalls, IsCall}
use Rattle.lan.specs.Worlds.AtLink.Does.{does, host_after, DidAt, ItemDoes, SlotDoes}
use Rattle.lan.specs.Worlds.AtLink.Node.{NodeValue, kind_in, kind_of_socket}
use Rattle.lan.specs.declared.at_link.answer.Taken.{Taken}
use Rattle.lan.proofs.Worlds.AtLink.Setting.{of_parts}

some_taken : (t : Taken) → (let o : Option Taken = Some t in o) ≡ None → ⊥
some_taken t is = cc

-- a socket of a kind that has a call does it
has_does : (cx : ContextValue) (s : Socket) (call : SocketCall) → is_called (kind_of_socket s) call ≡ true → does cx s call ≡ None → ⊥
has_does cx (Is.Raw v) (Call.Listen port) has is = absurd cc
has_does cx (Is.Raw v) (Call.Connect remote port) has is = absurd cc
has_does cx (Is.Raw v) (Call.Send bytes) has is = absurd cc
has_does cx (Is.Raw v) (Call.Recv limit) has is = absurd cc
has_does cx (Is.Raw v) Call.Close has is = absurd cc
has_does cx (Is.Raw v) Call.Abort has is = absurd cc
has_does cx (Is.Raw v) Call.State has is = absurd cc
has_does cx (Is.Raw v) (Call.Set setting) has is = absurd cc
has_does cx (Is.Raw v) (Call.Bind port) has is = absurd cc
has_does cx (Is.Raw v) (Call.Ident ident) has is = absurd cc
has_does cx (Is.Raw v) (Call.SendTo remote bytes) has is = absurd cc
has_does cx (Is.Raw v) (Call.SendIcmp remote bytes) has is = absurd cc
has_does cx (Is.Raw v) (Call.SendRaw bytes) has is = absurd cc
has_does cx (Is.Raw v) (Call.RecvFrom limit) has is = absurd cc
has_does cx (Is.Icmp v) (Call.Listen port) has is = absurd cc
has_does cx (Is.Icmp v) (Call.Connect remote port) has is = absurd cc
has_does cx (Is.Icmp v) (Call.Send bytes) has is = absurd cc
has_does cx (Is.Icmp v) (Call.Recv limit) has is = absurd cc
has_does cx (Is.Icmp v) Call.Close has is = absurd cc
has_does cx (Is.Icmp v) Call.Abort has is = absurd cc
has_does cx (Is.Icmp v) Call.State has is = absurd cc
has_does cx (Is.Icmp v) (Call.Set setting) has is = absurd cc
has_does cx (Is.Icmp v) (Call.Bind port) has is = absurd cc
has_does cx (Is.Icmp v) (Call.Ident ident) has is = absurd cc
has_does cx (Is.Icmp v) (Call.SendTo remote bytes) has is = absurd cc
has_does cx (Is.Icmp v) (Call.SendIcmp remote bytes) has is = absurd cc
has_does cx (Is.Icmp v) (Call.SendRaw bytes) has is = absurd cc
has_does cx (Is.Icmp v) (Call.RecvFrom limit) has is = absurd cc
has_does cx (Is.Udp v) (Call.Listen port) has is = absurd cc
has_does cx (Is.Udp v) (Call.Connect remote port) has is = absurd cc
has_does cx (Is.Udp v) (Call.Send bytes) has is = absurd cc
has_does cx (Is.Udp v) (Call.Recv limit) has is = absurd cc
has_does cx (Is.Udp v) Call.Close has is = absurd cc
has_does cx (Is.Udp v) Call.Abort has is = absurd cc
has_does cx (Is.Udp v) Call.State has is = absurd cc
has_does cx (Is.Udp v) (Call.Set setting) has is = absurd cc
has_does cx (Is.Udp v) (Call.Bind port) has is = absurd cc
has_does cx (Is.Udp v) (Call.Ident ident) has is = absurd cc
has_does cx (Is.Udp v) (Call.SendTo remote bytes) has is = absurd cc
has_does cx (Is.Udp v) (Call.SendIcmp remote bytes) has is = absurd cc
has_does cx (Is.Udp v) (Call.SendRaw bytes) has is = absurd cc
has_does cx (Is.Udp v) (Call.RecvFrom limit) has is = absurd cc
has_does cx (Is.Tcp v) (Call.Listen port) has is = absurd cc
has_does cx (Is.Tcp v) (Call.Connect remote port) has is = absurd cc
has_does cx (Is.Tcp v) (Call.Send bytes) has is = absurd cc
has_does cx (Is.Tcp v) (Call.Recv limit) has is = absurd cc
has_does cx (Is.Tcp v) Call.Close has is = absurd cc
has_does cx (Is.Tcp v) Call.Abort has is = absurd cc
has_does cx (Is.Tcp v) Call.State has is = absurd cc
has_does cx (Is.Tcp v) (Call.Set setting) has is = absurd cc
has_does cx (Is.Tcp v) (Call.Bind port) has is = absurd cc
has_does cx (Is.Tcp v) (Call.Ident ident) has is = absurd cc
has_does cx (Is.Tcp v) (Call.SendTo remote bytes) has is = absurd cc
has_does cx (Is.Tcp v) (Call.SendIcmp remote bytes) has is = absurd cc
has_does cx (Is.Tcp v) (Call.SendRaw bytes) has is = absurd cc
has_does cx (Is.Tcp v) (Call.RecvFrom limit) has is = absurd cc
has_does cx (Is.Dhcpv4 v) call has is = absurd cc
has_does cx (Is.Dns v) call has is = absurd cc

module _ (s : NodeValue) (i : ℕ) (side : Side) (call : SocketCall) (h' : HostValue) (ps' : List (SocketStorage Socket)) where
  abbrev After : NodeValue
  After = record s { host = h'; slots = ps' }

  abbrev ByEvent : Kind
  ByEvent = OfHost side (Calls i call)

  did_acts : (item : Item Socket) (socket : Socket) (t : Taken) (d : Option (Did Socket)) → HasTaken d item.socket (Some t) socket
      → h' ≡ host_after s.host item.socket call → ps' ≡ slice_set s.slots i (with_socket item socket)
      → DidAt s i item call d t.answer t.found After × (t.kept ≡ t.answer)
  did_acts item socket t None taken host slots = absurd (some_taken t taken.0)
  did_acts item socket t (Some d) taken host slots =
      let set : ps' ≡ slice_set s.slots i (with_socket item d.socket) = slots ∙ ap (λ (x : Socket). slice_set s.slots i (with_socket item x)) taken.1 in
      ((taken.0.0, taken.0.2, λ k. record s { host = host k; slots = set k }), taken.0.1 ∙ sym taken.0.0)

  item_acts : (t : Taken) (o : Option (Item Socket)) → ItemCalls s.host s.slots i ByEvent o (Some t) h' ps' → ItemDoes s i o call t.answer t.found After ×
      (t.kept ≡ t.answer)
  item_acts t None calls = absurd (some_taken t calls.0)
  item_acts t (Some item) calls = did_acts item calls.0 t (does (context_of s.host.inner) item.socket call) calls.1 calls.2 calls.3

  slot_acts : (t : Taken) (o : Option (SocketStorage Socket)) → SlotCalls s.host s.slots i ByEvent o (Some t) h' ps' →
      SlotDoes s i o call t.answer t.found After × (t.kept ≡ t.answer)
  slot_acts t None calls = absurd (some_taken t calls.0)
  slot_acts t (Some slot) calls = item_acts t slot.inner calls

  did_some : (item : Item Socket) (socket : Socket) (d : Option (Did Socket)) → HasTaken d item.socket None socket → d ≡ None
  did_some item socket None taken = refl
  did_some item socket (Some d) taken = absurd taken

  item_some : (o : Option (Item Socket)) → is_called (kind_in (socket_of o)) call ≡ true → ItemCalls s.host s.slots i ByEvent o None h' ps' → ⊥
  item_some None has calls = absurd cc
  item_some (Some item) has calls =
      has_does (context_of s.host.inner) item.socket call has (did_some item calls.0 (does (context_of s.host.inner) item.socket call) calls.1)

  slot_some : (o : Option (SocketStorage Socket)) → is_called (kind_in (socket_in o)) call ≡ true → SlotCalls s.host s.slots i ByEvent o None h' ps' → ⊥
  slot_some None has calls = absurd cc
  slot_some (Some slot) has calls = item_some slot.inner has calls

-- what a call of an event gave is what its act gives
pub call_acts : (s : NodeValue) (i : ℕ) (kind : Kind) (t : Taken) (h' : HostValue) (ps' : List (SocketStorage Socket)) → IsCall s.slots i kind →
    SlotCalls s.host s.slots i kind (slice_get s.slots i) (Some t) h' ps' → ActsBy s kind t (record s { host = h'; slots = ps' })
call_acts s i (OfHost side (Calls j call)) t h' ps' is calls =
    subst (λ (n : ℕ). SlotCalls s.host s.slots i (OfHost side (Calls n call)) (slice_get s.slots i) (Some t) h' ps' →
    ActsSo s (Calls n call) t (record s { host = h'; slots = ps' })) (sym is.0)
    (λ at. slot_acts s i side call h' ps' t (slice_get s.slots i) at) calls
call_acts s i (OfHost side (Sets setting)) t h' ps' is calls = absurd is
call_acts s i (OfHost side (Opens room)) t h' ps' is calls = absurd is
call_acts s i (OfHost side (Asks instant)) t h' ps' is calls = absurd is
call_acts s i (OfHost side (Polls instant budget)) t h' ps' is calls = absurd is
call_acts s i (OfLink act) t h' ps' is calls = absurd is

-- a call that the socket has gives something
pub call_gives : (s : NodeValue) (i : ℕ) (kind : Kind) (h' : HostValue) (ps' : List (SocketStorage Socket)) → IsCall s.slots i kind →
    SlotCalls s.host s.slots i kind (slice_get s.slots i) None h' ps' → ⊥
call_gives s i (OfHost side (Calls j call)) h' ps' is calls =
    subst (λ (n : ℕ). SlotCalls s.host s.slots i (OfHost side (Calls n call)) (slice_get s.slots i) None h' ps' → ⊥) (sym is.0)
    (λ at. slot_some s i side call h' ps' (slice_get s.slots i) is.1 at) calls
call_gives s i (OfHost side (Sets setting)) h' ps' is calls = absurd is
call_gives s i (OfHost side (Opens room)) h' ps' is calls = absurd is
call_gives s i (OfHost side (Asks instant)) h' ps' is calls = absurd is
call_gives s i (OfHost side (Polls instant budget)) h' ps' is calls = absurd is
call_gives s i (OfLink act) h' ps' is calls = absurd is

-- A PLACE

same_slot : (ps : List (SocketStorage Socket)) (n : ℕ) (slot : SocketStorage Socket) → slice_get ps n ≡ Some slot → slice_set ps n slot ≡ ps
same_slot ps n slot got = ap (slice_set ps n) (sym (get_or_from_slice_get ps n slot slot got)) ∙ set-get_or ps n slot

none_by : (h : HostValue) (ps ps' : List (SocketStorage Socket)) (n : ℕ) (kind : Kind) (o : Option (Item Socket)) → o ≡ None → ps' ≡ ps →
    ItemCalls h ps n kind o None h ps'
none_by h ps ps' n kind o is same = subst (λ (x : Option (Item Socket)). ItemCalls h ps n kind x None h ps') (sym is) (refl, refl, same)

-- nothing is called at a free slot
pub calls_none : (h : HostValue) (ps : List (SocketStorage Socket)) (n : ℕ) (kind : Kind) (slot : SocketStorage Socket) → slice_get ps n ≡ Some slot →
    slot.inner ≡ None → SlotCalls h ps n kind (slice_get ps n) None h (slice_set ps n slot)
calls_none h ps n kind slot got is =
    subst (λ (x : Option (SocketStorage Socket)). SlotCalls h ps n kind x None h (slice_set ps n slot)) (sym got)
    (none_by h ps (slice_set ps n slot) n kind slot.inner is (same_slot ps n slot got))

-- FROM THE PARTS

pub call_from : (s : NodeValue) (h h' : HostValue) (ps ps' : List (SocketStorage Socket)) (link : LinkEnd) (i : ℕ) (kind : Kind) (said : Option Taken)
    (t : Taken) → of_parts h ps link ≡ s → said ≡ Some t → IsCall s.slots i kind
    → SlotCalls h ps i kind (slice_get ps i) said h' ps' → ActsBy s kind t (of_parts h' ps' link)
call_from s h h' ps ps' link i kind said t is some has calls =
    subst (λ (x : NodeValue). ActsBy x kind t (of_parts h' ps' link)) is
    (call_acts (of_parts h ps link) i kind t h' ps' (subst (λ (x : NodeValue). IsCall x.slots i kind) (sym is) has)
    (subst (λ (o : Option Taken). SlotCalls h ps i kind (slice_get ps i) o h' ps') some calls))

-- a call that wants memory leaves the slots as they were
pub keeps_slots : {A E : Type 0} (r : Result A E) (slots : List (SocketStorage Socket)) (at : ℕ) (slot : SocketStorage Socket) (item : Item Socket)
    (socket : Socket) → slice_get slots at ≡ Some slot → slot.inner ≡ Some item → OnErr r (socket ≡ item.socket)
    → OnErr r (slice_set slots at (record { inner = Some (record { meta = item.meta; socket = socket }) }) ≡ slots)
keeps_slots (Ok x) slots at slot item socket got is kept = tt
keeps_slots (Err e) slots at slot item socket got is kept =
    let same : record { inner = Some (record { meta = item.meta; socket = socket }) } ≡ slot =
    ap (λ (s : Socket). record { inner = Some (record { meta = item.meta; socket = s }) }) kept ∙ ap (λ (o : Option (Item Socket)). record { inner = o }) (sym is) in
    ap (slice_set slots at) (same ∙ sym (get_or_from_slice_get slots at slot slot got)) ∙ set-get_or slots at slot
