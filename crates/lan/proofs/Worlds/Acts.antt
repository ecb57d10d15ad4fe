-- One host acts, and the other rests.
use Rattle.std.proofs.Common.{◌≡◌, ℕ, ◌≤◌, Bool, true, false, cond, List, Option, Some, None, refl, sym, ◌∙◌, ap, subst, arith}
use Rattle.std.specs.Prelude.{ℤ, slice_get, slice_set}
use Rattle.sockets.specs.declared.socket.Socket.{Socket}
use Rattle.iface_tables.specs.Inner.{InnerValue, context_of, drawn}
use Rattle.iface_egress.specs.Fragments.{LeftValue}
use Rattle.iface_egress.specs.Set.{with_socket}
use Rattle.iface_ingress.specs.Reassembled.{Assemblers}
use Rattle.iface_egress.specs.declared.socket_set.Item.{Item}
use Rattle.iface_egress.specs.declared.socket_set.SocketStorage.{SocketStorage}
use Rattle.interface.specs.State.{State}
use Rattle.lan.specs.Worlds.AtLink.Call.{SocketCall}
use Rattle.lan.specs.Worlds.AtLink.Kinds.{other}
use Rattle.lan.specs.Worlds.AtLink.Answer.{Answer}
use Rattle.lan.specs.Worlds.AtLink.Side.{Side}
use Rattle.lan.specs.Worlds.AtLink.Side.TheVariants.{A, B}
use Rattle.lan.specs.Worlds.AtLink.Calls.{Did}
use Rattle.lan.specs.Worlds.AtLink.Parties.{Party, Net, party}
use Rattle.lan.specs.Worlds.AtLink.Port.{LinkEnd, PortValue}
use Rattle.lan.specs.Worlds.AtLink.Does.{Does, SlotDoes, ItemDoes, DidAt, draws, does}
use Rattle.lan.specs.Worlds.AtLink.Sets.{with_room, asked}
use Rattle.lan.specs.Worlds.AtLink.Node.{NodeValue, Nodes, node, at_port}
use Rattle.tcp_block.specs.State as States
use Rattle.lan.specs.Worlds.Moves.Made.{Grows, MadeBy}
use Rattle.lan.specs.Worlds.Link.Frames.{Outgoing, medium_on}
use Rattle.lan.specs.Worlds.Link.Numbers.{count_numbered}
use Rattle.lan.specs.Worlds.Link.Sides.{IsSound, IsSender, IsReceiver}
use Rattle.lan.specs.Worlds.Link.Sides as Links
use Rattle.lan.proofs.Worlds.Link.Grown.{receiver_grows, same_out}
use Rattle.lan.proofs.Worlds.Link.Nodes.{sender_settled}
use Rattle.lan.proofs.Worlds.Link.Taken.{receiver_same}
use Rattle.lan.specs.Worlds.Joins.{Sends, Receives, AreJoined}
use Rattle.lan.specs.Worlds.Linked.{IsLinked}
use Rattle.lan.proofs.Worlds.Keeps.{sender_grows, more_made, instant_sound}

-- MORE WAS MADE

abbrev pub joins_grow : (firsts most : Side → ℕ) (hosts : Nodes) (net next : Net) → ((side : Side) → Grows (party net side) (party next side)) →
    AreJoined firsts most hosts net → AreJoined firsts most hosts next
joins_grow firsts most hosts net next grows j = record {
  out = j.out;
  medium = j.medium;
  device = j.device;
  sends = λ side. let s = node hosts side in
      sender_grows (party net side) (party next side) (firsts side) s.host.inner s.host.left s.link.sent (j.out side) (grows side) (j.sends side);
  receives = λ side. let s = node hosts side in
      receiver_grows (j.out (other side)) (j.out (other side)) (same_out (j.out (other side))) (MadeBy (party net (other side))) (MadeBy (party next (other side)))
      (more_made (party net (other side)) (party next (other side)) (grows (other side)))
      s.host.inner s.host.assemblers s.link.waiting (j.receives side);
  counted = j.counted;
}

-- ONE HOST CHANGED

abbrev outs : Side → List Outgoing → List Outgoing → List Outgoing
outs A a b = a
outs B a b = b

-- what is said of the host that acted; it may have sent more packets, so many with a number at most
pub record HasActed (p q : Party) (first most : ℕ) (out others : List Outgoing) (s s' : NodeValue) : Type 0 where
  pub out_after : List Outgoing
  pub more : Links.Grows out out_after
  pub medium : medium_on s'.host.inner.hardware ≡ medium_on s.host.inner.hardware
  pub device : s'.link.capabilities.medium ≡ s.link.capabilities.medium
  pub sends : Sends p first s' out_after
  pub receives : Receives q others s'
  pub counted : count_numbered out_after ≤ most

module _ (firsts most most' : Side → ℕ) (hosts new : Nodes) (net : Net) (j : AreJoined firsts most hosts net) where
  abbrev Acted : Side → Type 0
  Acted side = HasActed (party net side) (party net (other side)) (firsts side) (most' side) (j.out side) (j.out (other side)) (node hosts side)
      (node new side)

  -- the other host's parts are as they were, but for what the first one sent
  rested : (p q : Party) (first : ℕ) (own out out' : List Outgoing) (s s' : NodeValue) → s' ≡ s → Links.Grows out out' → Sends p first s own →
      Receives q out s → Sends p first s' own × Receives q out' s'
  rested p q first own out out' s s' same more sends receives = (
    subst (λ (x : NodeValue). Sends p first x own) (sym same) sends,
    subst (λ (x : NodeValue). Receives q out' x) (sym same)
        (receiver_grows out out' more (MadeBy q) (MadeBy q) (λ source destination x was. was) s.host.inner s.host.assemblers s.link.waiting receives),
  )

  pub acted_joins : (side : Side) → node new (other side) ≡ node hosts (other side) → most (other side) ≤ most' (other side) → Acted side →
      AreJoined firsts most' new net
  acted_joins A rests up acted =
      let b = rested net.b net.a (firsts B) (j.out B) (j.out A) acted.out_after hosts.b new.b rests acted.more (j.sends B) (j.receives B) in
      let hardware_b : medium_on new.b.host.inner.hardware ≡ medium_on hosts.b.host.inner.hardware =
      ap (λ (x : NodeValue). medium_on x.host.inner.hardware) rests in
      let device_b : new.b.link.capabilities.medium ≡ medium_on new.b.host.inner.hardware = ap (λ (x : NodeValue). x.link.capabilities.medium) rests ∙
      j.device B ∙ sym hardware_b in
      record {
        out = λ x. outs x acted.out_after (j.out B);
        medium = acted.medium ∙ j.medium ∙ sym hardware_b;
        device = λ x. elim x as (λ y. (node new y).link.capabilities.medium ≡ medium_on (node new y).host.inner.hardware) [
          | A ↦ acted.device ∙
              j.device A ∙ sym acted.medium
          | B ↦ device_b
        ];
        sends = λ x. elim x as (λ y. Sends (party net y) (firsts y) (node new y) (outs y acted.out_after (j.out B))) [ A ↦ acted.sends | B ↦ b.0 ];
        receives = λ x. elim x as (λ y. Receives (party net (other y)) (outs (other y) acted.out_after (j.out B)) (node new y))
            [ A ↦ acted.receives | B ↦ b.1 ];
        counted = λ x. elim x as (λ y. count_numbered (outs y acted.out_after (j.out B)) ≤ most' y)
            [ A ↦ acted.counted | B ↦ (let c = j.counted B in omega (arith, c, up)) ];
      }
  acted_joins B rests up acted =
      let a = rested net.a net.b (firsts A) (j.out A) (j.out B) acted.out_after hosts.a new.a rests acted.more (j.sends A) (j.receives A) in
      let hardware_a : medium_on new.a.host.inner.hardware ≡ medium_on hosts.a.host.inner.hardware =
      ap (λ (x : NodeValue). medium_on x.host.inner.hardware) rests in
      let device_a : new.a.link.capabilities.medium ≡ medium_on new.a.host.inner.hardware = ap (λ (x : NodeValue). x.link.capabilities.medium) rests ∙
      j.device A ∙ sym hardware_a in
      record {
        out = λ x. outs x (j.out A) acted.out_after;
        medium = hardware_a ∙ j.medium ∙ sym acted.medium;
        device = λ x. elim x as (λ y. (node new y).link.capabilities.medium ≡ medium_on (node new y).host.inner.hardware)
            [ A ↦ device_a | B ↦ acted.device ∙ j.device B ∙ sym acted.medium ];
        sends = λ x. elim x as (λ y. Sends (party net y) (firsts y) (node new y) (outs y (j.out A) acted.out_after)) [ A ↦ a.0 | B ↦ acted.sends ];
        receives = λ x. elim x as (λ y. Receives (party net (other y)) (outs (other y) (j.out A) acted.out_after) (node new y))
            [ A ↦ a.1 | B ↦ acted.receives ];
        counted = λ x. elim x as (λ y. count_numbered (outs y (j.out A) acted.out_after) ≤ most' y)
            [ A ↦ (let c = j.counted A in omega (arith, c, up)) | B ↦ acted.counted ];
      }

-- ACTS THAT SEND NOTHING

-- the link's end and the fragments are as they were, and of the host what is read of it
pub record IsSettled (s s' : NodeValue) : Type 0 where
  pub sent : s'.link.sent ≡ s.link.sent
  pub waiting : s'.link.waiting ≡ s.link.waiting
  pub device : s'.link.capabilities.medium ≡ s.link.capabilities.medium
  pub left : s'.host.left ≡ s.host.left
  pub assemblers : s'.host.assemblers ≡ s.host.assemblers
  pub hardware : s'.host.inner.hardware ≡ s.host.inner.hardware
  pub ident : s'.host.inner.ident ≡ s.host.inner.ident
  pub sound : IsSound s.host.inner → IsSound s'.host.inner

pub settled_acts : (p q : Party) (first most : ℕ) (out others : List Outgoing) (s s' : NodeValue) → IsSettled s s' → Sends p first s out →
    Receives q others s → count_numbered out ≤ most → HasActed p q first most out others s s'
settled_acts p q first most out others s s' is sends receives few =
    let sound : IsSound s'.host.inner = is.sound sends.sound in
    let sender : IsSender (MadeBy p) first s'.host.inner s.host.left s.link.sent out =
    sender_settled (MadeBy p) first out s.host.inner s'.host.inner s.host.left s.link.sent is.hardware is.ident sound sends in
    let receiver : IsReceiver (MadeBy q) others s'.host.inner s.host.assemblers s.link.waiting =
    receiver_same (MadeBy q) others s.host.inner s'.host.inner s.host.assemblers s.link.waiting (sound.checksums ∙ sym receives.checksums) is.hardware receives in
    record {
      out_after = out;
      more = same_out _;
      medium = ap medium_on is.hardware;
      device = is.device;
      sends = subst (λ (l : Option LeftValue). IsSender (MadeBy p) first s'.host.inner l s'.link.sent out) (sym is.left)
          (subst (λ (w : List (List ℕ)). IsSender (MadeBy p) first s'.host.inner s.host.left w out) (sym is.sent) sender);
      receives = subst (λ (l : Assemblers). IsReceiver (MadeBy q) others s'.host.inner l s'.link.waiting) (sym is.assemblers)
          (subst (λ (w : List (List ℕ)). IsReceiver (MadeBy q) others s'.host.inner s.host.assemblers w) (sym is.waiting) receiver);
      counted = few;
    }

-- room, and being asked when to poll
pub room_settled : (s : NodeValue) (n : ℕ) → IsSettled s (with_room s n)
room_settled s n = record { sent = refl; waiting = refl; device = refl; left = refl; assemblers = refl; hardware = refl; ident = refl; sound = λ is. is }

pub asked_settled : (s : NodeValue) (t : ℤ) → IsSettled s (asked s t)
asked_settled s t = record {
  sent = refl;
  waiting = refl;
  device = refl;
  left = refl;
  assemblers = refl;
  hardware = refl;
  ident = refl;
  sound =
      instant_sound t s.host.inner;
}

-- a call
drawn_sound : (i : InnerValue) → IsSound i → IsSound (drawn i)
drawn_sound i s = record {
  own = s.own;
  neighbors = s.neighbors;
  routers = s.routers;
  widths = record { mtu = s.widths.mtu; ident = s.widths.ident };
  checksums = s.checksums;
}

called_host : (s : NodeValue) (ps : List (SocketStorage Socket)) (b : Bool) →
    IsSettled s (record s { host = cond b (record s.host { inner = drawn s.host.inner }) s.host; slots = ps })
called_host s ps true = record {
  sent = refl;
  waiting = refl;
  device = refl;
  left = refl;
  assemblers = refl;
  hardware = refl;
  ident = refl;
  sound =
      drawn_sound s.host.inner;
}
called_host s ps false = record { sent = refl; waiting = refl; device = refl; left = refl; assemblers = refl; hardware = refl; ident = refl; sound = λ is. is }

did_settled : (s s' : NodeValue) (i : ℕ) (item : Item Socket) (call : SocketCall) (o : Option (Did Socket)) (answer : Answer) (found : Option States.State) →
    DidAt s i item call o answer found s' → IsSettled s s'
did_settled s s' i item call None answer found is = absurd is
did_settled s s' i item call (Some d) answer found is =
    subst (IsSettled s) (sym is.2) (called_host s (slice_set s.slots i (with_socket item d.socket)) (draws (context_of s.host.inner) item.socket call))

item_settled : (s s' : NodeValue) (i : ℕ) (o : Option (Item Socket)) (call : SocketCall) (answer : Answer) (found : Option States.State) →
    ItemDoes s i o call answer found s' → IsSettled s s'
item_settled s s' i None call answer found is = absurd is
item_settled s s' i (Some item) call answer found is = did_settled s s' i item call (does (context_of s.host.inner) item.socket call) answer found is

slot_settled : (s s' : NodeValue) (i : ℕ) (o : Option (SocketStorage Socket)) (call : SocketCall) (answer : Answer) (found : Option States.State) →
    SlotDoes s i o call answer found s' → IsSettled s s'
slot_settled s s' i None call answer found is = absurd is
slot_settled s s' i (Some slot) call answer found is = item_settled s s' i slot.inner call answer found is

pub call_settled : (s s' : NodeValue) (i : ℕ) (call : SocketCall) (answer : Answer) (found : Option States.State) → Does s i call answer found s' →
    IsSettled s s'
call_settled s s' i call answer found is = slot_settled s s' i (slice_get s.slots i) call answer found is

-- A POLL

-- what holds of the host after a poll, at whatever port
pub polled_acts : (p q : Party) (first most n : ℕ) (out others : List Outgoing) (before : List (List ℕ)) (s s' : NodeValue) (port : PortValue) →
    port.link ≡ s'.link → medium_on s'.host.inner.hardware ≡ medium_on s.host.inner.hardware → s'.link.capabilities.medium ≡ s.link.capabilities.medium
    → (l : IsLinked q others out first before n (at_port port s') p) → count_numbered l.out ≤ most → HasActed p q first most out others s s'
polled_acts p q first most n out others before s s' port end medium device l few = record {
  out_after = l.out;
  more = l.more;
  medium = medium;
  device = device;
  sends = subst (λ (x : LinkEnd). IsSender (MadeBy p) first s'.host.inner s'.host.left x.sent l.out) end l.sender;
  receives = subst (λ (x : LinkEnd). IsReceiver (MadeBy q) others s'.host.inner s'.host.assemblers x.waiting) end l.receiver;
  counted = few;
}
