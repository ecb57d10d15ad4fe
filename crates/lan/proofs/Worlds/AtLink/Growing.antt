-- What an event leaves of a host: its sent frames stay before those that it sends, its port stays what it is, and it has as many slots.
use Rattle.std.proofs.Common.{◌≡◌, ℕ, ◌+◌, ◌≤◌, ℤ, Bool, true, false, cond, List, [], ◌∷◌, ◌++◌, length, take, drop, Option, None, Some, refl, sym, ap, ◌∙◌}
use Rattle.std.proofs.Common.{subst, append_assoc, append-nil, arith}
use Rattle.std.specs.Prelude.{slice_get, if◌then◌else◌}
use Rattle.std.specs.List.{count_by}
use Rattle.std.proofs.Math.Seq.{take-append_seam}
use Rattle.std.proofs.lemmas.List.{length-append, length-set, take-append-drop}
use Rattle.std.proofs.lemmas.List.Sums.{sum_by-append, count_by-le-length}
use Rattle.net_base.specs.ChecksumCapabilities.{ChecksumCapabilities}
use Rattle.net_base.specs.Device.{Move, Took, Empty, Allowed, Emitted, Denied}
use Rattle.net_base.specs.DeviceCapabilities.{DeviceCapabilities}
use Rattle.net_base.specs.Medium.{Medium}
use Rattle.ip_wire.specs.HardwareAddress.{HardwareAddress}
use Rattle.sockets.specs.declared.socket.Socket.{Socket}
use Rattle.iface_egress.specs.Inner.{context_of}
use Rattle.iface_egress.specs.declared.socket_set.Item.{Item}
use Rattle.iface_egress.specs.declared.socket_set.SocketStorage.{SocketStorage}
use Rattle.iface_egress.specs.Set.{with_socket}
use Rattle.interface.specs.State.{State}
use Rattle.interface.proofs.Kept.{IsCounted}
use Rattle.interface.specs.Touches.{Touch, Looks, Leave, Sends, Does, DoesAll}
use Rattle.interface.proofs.Count.{polls_count}
use Rattle.interface.proofs.Trace.{polls_traced}
use Rattle.sim_link.specs.Port.{LinkEnd, PortValue, PortMove}
use Rattle.lan.specs.Worlds.AtLink.Call.{SocketCall}
use Rattle.lan.specs.Worlds.AtLink.History.{Entry}
use Rattle.lan.specs.Worlds.AtLink.Kinds.{Kind, kind_of, Act, LinkAct}
use Rattle.lan.specs.Worlds.AtLink.Kinds.Act.{Calls, Sets, Opens, Asks, Polls}
use Rattle.lan.specs.Worlds.AtLink.Kinds.Kind.{OfHost, OfLink}
use Rattle.lan.specs.Worlds.AtLink.Kinds.LinkAct.{Hands, Cuts}
use Rattle.lan.specs.Worlds.AtLink.Tables.{table_of, table_after}
use Rattle.lan.specs.declared.at_link.history.answer.Answer.{Answer}
use Rattle.lan.specs.declared.at_link.history.event.Side.{Side}
use Rattle.lan.specs.declared.at_link.history.event.Side.TheVariants.{A, B}
use Rattle.lan.specs.Worlds.AtLink.Calls.{Did}
use Rattle.tcp_block.specs.State as States
use Rattle.lan.specs.Worlds.AtLink.Does.{does, DidAt, ItemDoes, SlotDoes}
use Rattle.lan.specs.Worlds.AtLink.Origins.{medium_of, goes_to, sent_before, is_cut_of, own_frames, begins_datagram, numbered}
use Rattle.lan.specs.Worlds.AtLink.Records.{table_next}
use Rattle.lan.specs.Worlds.AtLink.Runs.{table_in, counts_of}
use Rattle.lan.specs.Worlds.AtLink.Node.{NodeValue, Nodes, node, with_node, with_link}
use Rattle.lan.specs.Worlds.AtLink.Steps.{PollsAt, Acts, Happens, linked}

-- A PORT

-- frames join the sent ones, and what it says of itself stays
pub record Follows (old new : LinkEnd) : Type 0 where
  pub added : List (List ℕ)
  pub sent : new.sent ≡ old.sent ++ added
  pub capabilities : new.capabilities ≡ old.capabilities

follows_none : (old new : LinkEnd) → new.sent ≡ old.sent → new.capabilities ≡ old.capabilities → Follows old new
follows_none old new sent said = record { added = []; sent = sent ∙ sym (append-nil old.sent); capabilities = said }

follows_link : (old new : LinkEnd) → new ≡ old → Follows old new
follows_link old new is = follows_none old new (ap (λ (x : LinkEnd). x.sent) is) (ap (λ (x : LinkEnd). x.capabilities) is)

follows_same : (old new : PortValue) → new ≡ old → Follows old.link new.link
follows_same old new is = follows_link old.link new.link (ap (λ (x : PortValue). x.link) is)

follows_then : (one mid last : LinkEnd) → Follows one mid → Follows mid last → Follows one last
follows_then one mid last first second = record {
  added = first.added ++ second.added;
  sent = second.sent ∙ ap (λ (x : List (List ℕ)). x ++ second.added) first.sent ∙ append_assoc one.sent first.added second.added;
  capabilities = second.capabilities ∙ first.capabilities;
}

follows_sent : (old new : LinkEnd) (frame : List ℕ) → new.sent ≡ old.sent ++ frame ∷ [] → new.capabilities ≡ old.capabilities → Follows old new
follows_sent old new frame sent said = record { added = frame ∷ []; sent = sent; capabilities = said }

follows_move : (old new : PortValue) (m : Move) → PortMove old m new → Follows old.link new.link
follows_move old new (Took t frame) is =
    follows_none old.link new.link (ap (λ (x : PortValue). x.link.sent) (sym is.1)) (ap (λ (x : PortValue). x.link.capabilities) (sym is.1))
follows_move old new (Empty t) is = follows_same old new is.0
follows_move old new (Allowed t leave) is = follows_same old new is.0
follows_move old new (Emitted frame) is =
    follows_sent old.link new.link frame (ap (λ (x : PortValue). x.link.sent) is) (ap (λ (x : PortValue). x.link.capabilities) is)
follows_move old new (Denied len) is =
    follows_none old.link new.link (ap (λ (x : PortValue). x.link.sent) is.0) (ap (λ (x : PortValue). x.link.capabilities) is.0)

module _ (t : ℤ) (own : HardwareAddress) (caps : ChecksumCapabilities) where
  follows_touch : (x : Touch) (old new : PortValue) → Does PortMove t own caps x old new → Follows old.link new.link
  follows_touch (Looks None) old new does = follows_move old new (Empty t) does
  follows_touch (Looks (Some frame)) old new does = follows_move old new (Took t frame) does
  follows_touch (Leave given) old new does = follows_move old new (Allowed t given) does
  follows_touch (Sends d true) old new does = follows_move old new (Emitted _) does.0
  follows_touch (Sends d false) old new does = follows_move old new (Denied _) does

  follows_path : (xs : List Touch) (old new : PortValue) → DoesAll PortMove t own caps xs old new → Follows old.link new.link
  follows_path [] old new is = follows_same old new is
  follows_path (x ∷ xs) old new all =
      follows_then old.link all.0.link new.link (follows_path xs old all.0 all.1) (follows_touch x all.0 new all.2)

-- A HOST

pub record Stays (s s' : NodeValue) : Type 0 where
  pub link : Follows s.link s'.link
  pub slots : length s'.slots ≡ length s.slots

stays_same : (s s' : NodeValue) → s' ≡ s → Stays s s'
stays_same s s' is =
    record { link = follows_link s.link s'.link (ap (λ (x : NodeValue). x.link) is); slots = ap (λ (x : NodeValue). length x.slots) is }

did_stays : (s s' : NodeValue) (i : ℕ) (item : Item Socket) (call : SocketCall) (d : Option (Did Socket)) (answer : Answer) (found : Option States.State) →
    DidAt s i item call d answer found s' → Stays s s'
did_stays s s' i item call None answer found did = absurd did
did_stays s s' i item call (Some d) answer found did = record {
  link = follows_link s.link s'.link (ap (λ (x : NodeValue). x.link) did.2);
  slots = ap (λ (x : NodeValue). length x.slots) did.2 ∙ length-set s.slots i (with_socket item d.socket);
}

item_stays : (s s' : NodeValue) (i : ℕ) (o : Option (Item Socket)) (call : SocketCall) (answer : Answer) (found : Option States.State) →
    ItemDoes s i o call answer found s' → Stays s s'
item_stays s s' i None call answer found did = absurd did
item_stays s s' i (Some item) call answer found did = did_stays s s' i item call (does (context_of s.host.inner) item.socket call) answer found did

slot_stays : (s s' : NodeValue) (i : ℕ) (o : Option (SocketStorage Socket)) (call : SocketCall) (answer : Answer) (found : Option States.State) →
    SlotDoes s i o call answer found s' → Stays s s'
slot_stays s s' i None call answer found did = absurd did
slot_stays s s' i (Some slot) call answer found did = item_stays s s' i slot.inner call answer found did

-- of what isn't counted
counts_nothing : (t : ℤ) → IsCounted PortMove t (λ (n : ℕ) (s : State PortValue). Unit {0})
counts_nothing t = record {
  more = λ n m s up so. tt;
  maintenance = λ n s so. tt;
  arrivals = λ n s s' answer runs so takes. tt;
  fragments = λ n h ps x x' l gone runs is so leaves same. tt;
  parked = λ n h ps x x' all runs many so serves. tt;
  turns = λ turn n h before after p p' x x' turned runs so turns. tt;
}

polls_stay : (s s' : NodeValue) (t : ℤ) (budget : ℕ) (changed : Bool) → PollsAt s t budget changed s' → Stays s s'
polls_stay s s' t budget changed p =
    let from : State PortValue = record { device = p.port; host = s.host; slots = s.slots } in
    let to : State PortValue = record { device = p.port_after; host = s'.host; slots = s'.slots } in
    let trace = polls_traced PortMove t budget from to changed p.polls in
    let path : Follows p.port.link p.port_after.link =
    follows_path t s.host.inner.hardware s.host.inner.checksums trace.touches p.port p.port_after trace.path in
    record {
      link = subst (λ (x : LinkEnd). Follows x s'.link) p.before (subst (λ (x : LinkEnd). Follows p.port.link x) p.after path);
      slots = (polls_count PortMove t (λ (n : ℕ) (x : State PortValue). Unit {0}) (counts_nothing t) budget 0 from to changed tt p.polls).2;
    }

acts_stay : (s s' : NodeValue) (act : Act) (answer : Answer) (found : Option States.State) → Acts s act answer found s' → Stays s s'
acts_stay s s' (Calls i call) answer found acts = slot_stays s s' i (slice_get s.slots i) call answer found acts
acts_stay s s' (Sets setting) answer found acts =
    record { link = follows_link s.link s'.link (ap (λ (x : NodeValue). x.link) acts.0.3); slots = ap (λ (x : NodeValue). length x.slots) acts.0.3 }
acts_stay s s' (Opens room) answer found acts = record {
  link = follows_none s.link s'.link (ap (λ (x : NodeValue). x.link.sent) acts.2) (ap (λ (x : NodeValue). x.link.capabilities) acts.2);
  slots = ap (λ (x : NodeValue). length x.slots) acts.2;
}
acts_stay s s' (Asks instant) answer found acts =
    record { link = follows_link s.link s'.link (ap (λ (x : NodeValue). x.link) acts.2); slots = ap (λ (x : NodeValue). length x.slots) acts.2 }
acts_stay s s' (Polls instant budget) answer found acts = polls_stay s s' instant budget acts.0 acts.1

-- BOTH

host_stays : (old new : Nodes) (s side : Side) (act : Act) (answer : Answer) (found : Option States.State) → Happens old (OfHost s act) answer found new →
    Stays (node old side) (node new side)
host_stays old new A A act answer found happens = acts_stay old.a new.a act answer found happens.acts
host_stays old new B B act answer found happens = acts_stay old.b new.b act answer found happens.acts
host_stays old new A B act answer found happens = stays_same old.b new.b happens.rests
host_stays old new B A act answer found happens = stays_same old.a new.a happens.rests

stays_linked : (s : NodeValue) (link : LinkEnd) → Follows s.link link → Stays s (with_link s link)
stays_linked s link follows = record { link = follows; slots = refl }

-- one host at another link's end, and the other as it was
one_stays : (old : Nodes) (at side : Side) (link : LinkEnd) → Follows (node old at).link link →
    Stays (node old side) (node (with_node old at (with_link (node old at) link)) side)
one_stays old A A link follows = stays_linked old.a link follows
one_stays old B B link follows = stays_linked old.b link follows
one_stays old A B link follows = stays_same old.b old.b refl
one_stays old B A link follows = stays_same old.a old.a refl

two_added : (link : LinkEnd) (one two : List ℕ) → Follows link (record link { sent = (link.sent ++ one ∷ []) ++ two ∷ [] })
two_added link one two = record { added = one ∷ two ∷ []; sent = append_assoc link.sent (one ∷ []) (two ∷ []); capabilities = refl }

link_stays : (old : Nodes) (act : LinkAct) (side : Side) → Stays (node old side) (node (linked old act) side)
link_stays old (Hands o) side = one_stays old (goes_to o) side _ (follows_none _ _ refl refl)
link_stays old (Cuts from k at) side = one_stays old from side _ (two_added (node old from).link _ _)

pub happens_stays : (old new : Nodes) (kind : Kind) (answer : Answer) (found : Option States.State) (side : Side) → Happens old kind answer found new →
    Stays (node old side) (node new side)
happens_stays old new (OfHost s act) answer found side happens = host_stays old new s side act answer found happens
happens_stays old new (OfLink act) answer found side happens =
    subst (λ (x : Nodes). Stays (node old side) (node x side)) (sym happens.2) (link_stays old act side)

-- as many frames were sent as before, or more
pub sent_grows : (old new : Nodes) (kind : Kind) (answer : Answer) (found : Option States.State) (side : Side) → Happens old kind answer found new →
    length (node old side).link.sent ≤ length (node new side).link.sent
sent_grows old new kind answer found side happens =
    let link = (happens_stays old new kind answer found side happens).link in
    let all = ap length link.sent in
    omega (arith, all, length-append (node old side).link.sent link.added)

-- TABLES

counted_if : (p : List ℕ → Bool) (b : Bool) (xs ys : List (List ℕ)) →
    count_by p (xs ++ (if b then [] else ys)) ≡ count_by p xs + (if b then 0 else count_by p ys)
counted_if p true xs ys = sum_by-append (λ x. cond (p x) 1 0) xs []
counted_if p false xs ys = sum_by-append (λ x. cond (p x) 1 0) xs ys

numbered_on : (medium : Medium) (side : Side) (past : List Entry) (e : Entry) (sent sent' added : List (List ℕ)) → sent' ≡ sent ++ added →
    sent_before e.before side ≡ length sent
    → numbered medium side (e ∷ past) sent' ≡
    numbered medium side past sent + (if is_cut_of side (kind_of e.event) then 0 else count_by (begins_datagram medium) (drop (length sent) sent'))
numbered_on medium side past e sent sent' added is before =
    let front : take (length sent) sent' ≡ sent = ap (take (length sent)) is ∙ take-append_seam sent added in
    ap (λ (n : ℕ). count_by (begins_datagram medium) (own_frames side past (take n sent') ++
    (if is_cut_of side (kind_of e.event) then [] else drop n sent'))) before
    ∙ counted_if (begins_datagram medium) (is_cut_of side (kind_of e.event)) (own_frames side past (take (length sent) sent')) (drop (length sent) sent')
    ∙ ap (λ (xs : List (List ℕ)). count_by (begins_datagram medium) (own_frames side past xs) +
    (if is_cut_of side (kind_of e.event) then 0 else count_by (begins_datagram medium) (drop (length sent) sent'))) front

before_is : (old : Nodes) (e : Entry) (side : Side) → e.before ≡ counts_of old → sent_before e.before side ≡ length (node old side).link.sent
before_is old e A is = ap (λ c. sent_before c A) is
before_is old e B is = ap (λ c. sent_before c B) is

pub tables_proceed : (past : List Entry) (e : Entry) (old new : Nodes) (side : Side) → e.before ≡ counts_of old →
    Happens old (kind_of e.event) e.answer e.found new
    → table_in (e ∷ past) side (node new side) ≡
    table_next side (kind_of e.event) e.answer (length (node old side).link.sent) (node new side) (table_in past side (node old side))
tables_proceed past e old new side before happens =
    let stays = happens_stays old new (kind_of e.event) e.answer e.found side happens in
    let s : NodeValue = node old side in
    let s' : NodeValue = node new side in
    let medium : medium_of s' ≡ medium_of s = ap (λ (c : DeviceCapabilities). c.medium) stays.link.capabilities in
    let records : table_of (e ∷ past) side (length s'.slots) ≡ table_after (kind_of e.event) e.answer side (table_of past side (length s.slots)) =
    ap (λ (n : ℕ). table_after (kind_of e.event) e.answer side (table_of past side n)) stays.slots in
    let count = numbered_on (medium_of s') side past e s.link.sent s'.link.sent stays.link.added stays.link.sent (before_is old e side before) in
    let first : numbered (medium_of s') side past s.link.sent ≡ numbered (medium_of s) side past s.link.sent =
    ap (λ (m : Medium). numbered m side past s.link.sent) medium in
    let all = count ∙ ap (λ (n : ℕ). n +
    (if is_cut_of side (kind_of e.event) then 0 else count_by (begins_datagram (medium_of s')) (drop (length s.link.sent) s'.link.sent))) first in
    λ k. record { records = records k; numbered = all k }

dropped_few : (b : Bool) (xs : List (List ℕ)) → length (if b then [] else xs) ≤ length xs
dropped_few true xs = omega arith
dropped_few false xs = omega arith

split_length : (n : ℕ) (xs : List (List ℕ)) → length (take n xs) + length (drop n xs) ≡ length xs
split_length n xs = sym (length-append (take n xs) (drop n xs)) ∙ ap length (take-append-drop n xs)

-- no more frames are a host's own than were sent
own_few : (side : Side) (history : List Entry) (sent : List (List ℕ)) → length (own_frames side history sent) ≤ length sent
own_few side [] sent = omega arith
own_few side (e ∷ past) sent =
    let n : ℕ = sent_before e.before side in
    let front = own_few side past (take n sent) in
    let rest = dropped_few (is_cut_of side (kind_of e.event)) (drop n sent) in
    omega (
      arith,
      front,
      rest,
      length-append (own_frames side past (take n sent)) (if is_cut_of side (kind_of e.event) then [] else drop n sent),
      split_length n sent,
    )

pub numbers_few : (medium : Medium) (side : Side) (history : List Entry) (sent : List (List ℕ)) → numbered medium side history sent ≤ length sent
numbers_few medium side history sent =
    omega (arith, own_few side history sent, count_by-le-length (begins_datagram medium) (own_frames side history sent))
