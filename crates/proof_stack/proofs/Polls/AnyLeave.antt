-- The turn of a socket of any kind that offers a packet which may leave.
use Rattle.std.proofs.Common.{◌≡◌, Bool, true, false, not, ◌||◌, Option, Some, refl}
use Rattle.std.proofs.Common.{None, ap, ◌∙◌, subst}
use Rattle.std.proofs.lemmas.Bool.{or_parts, or_right}
use Rattle.net_base.specs.Device.{Move}
use Rattle.ip_wire.specs.AddressTests.{is_unspecified}
use Rattle.ip_wire.specs.Ip.{source_of, destination_of}
use Rattle.ip_wire.specs.IpAddress.{IpAddress}
use Rattle.iface_ingress.specs.Offer as Answer
use Rattle.iface_ingress.specs.Offer.TheVariants as Offer
use Rattle.iface_ingress.specs.Packet.{PacketValue}
use Rattle.iface_ingress.specs.Socket.{Socket}
use Rattle.iface_ingress.specs.Sockets as Sockets
use Rattle.iface_ingress.specs.WellFormed.{IsWellFormed}
use Rattle.iface_tables.specs.Inner.{InnerValue, is_foreign_loopback, may_be_source}
use Rattle.iface_egress.specs.Meta.{freed}
use Rattle.iface_egress.specs.Plan.{never_leaves}
use Rattle.iface_egress.specs.declared.socket_meta.Meta.{Meta}
use Rattle.iface_egress.specs.declared.socket_set.Item.{Item}
use Rattle.iface_egress.specs.declared.socket_set.SocketStorage.{SocketStorage}
use Rattle.iface_egress.specs.declared.egress_path.Sent.{Sent}
use Rattle.interface.specs.Host.{Sender}
use Rattle.interface.specs.Remote.{context_for}
use Rattle.interface.specs.Serve.{Leaves, passes_filter, is_raw, is_waiting, let_through, plan_at}
use Rattle.interface.specs.Serve.{settled_by, sourced, turned_by, waits_until}
use Rattle.interface.specs.declared.serve.Served.{Served}
use Rattle.interface.proofs.Sourced.{sourced_stays}
use Rattle.proof_stack.proofs.Parkless.{Answers, ItemTurns, SendsAs, SendsBy, ServesSlot, TurnsIf}

not_false : (b : Bool) → not b ≡ false → b ≡ true
not_false true e = refl
not_false false e = absurd (let clash : true ≡ false = e in cc)

-- a packet that may leave leaves from its source
pub source_stays : (i : InnerValue) (p : PacketValue) → never_leaves i p.header ≡ false → sourced i p ≡ p
source_stays i p may =
    let leaves_not : (is_foreign_loopback i (destination_of p.header) || not (may_be_source i (source_of p.header) (destination_of p.header))) ≡ false =
    (or_parts (is_unspecified (destination_of p.header)) _ may).1 in
    let from_here : may_be_source i (source_of p.header) (destination_of p.header) ≡ true =
    not_false (may_be_source i (source_of p.header) (destination_of p.header))
    (or_parts (is_foreign_loopback i (destination_of p.header)) _ leaves_not).1 in
    sourced_stays i p (or_right (is_raw p.payload) (may_be_source i (source_of p.header) (destination_of p.header)) from_here)

-- Asked by this host the socket offers this packet, whatever it answers, and is then this one.
pub record OffersOnly (i : InnerValue) (s : Socket) (changed : Bool) (offering : Socket) (p : PacketValue) : Type 0 where
  pub asked : (answer : Answer.Offer) (s' : Socket) → Sockets.Offers (context_for i s) s answer s' → (answer ≡ Offer.Packet changed) × (s' ≡ offering)
  pub packet : Sockets.offered_by offering ≡ Some p

module _ {D : Type 0} (moves : D → Move → D → Type 0) (turn : Option IpAddress) (x x' : Sender D) (changed : Bool) (offering : Socket) (p : PacketValue) where
  -- the item of the socket that offers it
  abbrev pub offered_with : Meta → Item Socket
  offered_with meta = record { meta = meta; socket = offering }

  -- the packet is offered, and leaves or stays; what becomes of its socket, whose mark, which was this, is gone where its neighbour is known
  pub record OffersLeaves (was : Meta) (turned : Served) (o : Option (Item Socket)) : Type 0 where
    pub meta : Meta
    pub let_in : meta ≡ freed was (passes_filter x.inner was)
    pub formed : IsWellFormed p
    pub sent : Sent
    pub leaves : Leaves moves turn x meta p sent x'
    pub next : turned ≡ turned_by sent changed
    pub became : o ≡ Some (settled_by sent x.inner.instant (waits_until (plan_at x p) x'.inner) (destination_of p.header) (offered_with meta))

  module _ (s : Socket) (only : OffersOnly x.inner s changed offering p) (may : never_leaves x.inner p.header ≡ false) where
    sends : (was meta : Meta) → meta ≡ freed was (passes_filter x.inner was) → (item' : Item Socket) (turned : Served)
        → SendsBy moves turn (Some p) x (offered_with meta) changed turned x' item' → OffersLeaves was turned (Some item')
    sends was meta let_in item' turned goes =
        let done : SendsAs moves turn p x (offered_with meta) changed turned x' item' =
        subst (λ (q : PacketValue). SendsAs moves turn q x (offered_with meta) changed turned x' item') (goes.1 ∙ source_stays x.inner p may) goes.3 in
        record { meta = meta; let_in = let_in; formed = done.4; sent = done.0; leaves = done.1; next = done.2; became = ap (λ (it : Item Socket). Some it) done.3 }

    asks : (was meta : Meta) → meta ≡ freed was (passes_filter x.inner was) → (item' : Item Socket) (turned : Served) (s' : Socket) (answer : Answer.Offer)
        → Sockets.Offers (context_for x.inner s) s answer s'
        → Answers moves turn answer x (record { meta = meta; socket = s' }) turned x' item' → OffersLeaves was turned (Some item')
    asks was meta let_in item' turned s' answer given goes =
        let both = only.asked answer s' given in
        let offers : Answers moves turn (Offer.Packet changed) x (offered_with meta) turned x' item' =
        subst (λ (y : Socket). Answers moves turn (Offer.Packet changed) x (record { meta = meta; socket = y }) turned x' item') both.1
        (subst (λ (a : Answer.Offer). Answers moves turn a x (record { meta = meta; socket = s' }) turned x' item') both.0 goes) in
        sends was meta let_in item' turned
        (subst (λ (o : Option PacketValue). SendsBy moves turn o x (offered_with meta) changed turned x' item') only.packet offers)

    turns : (meta : Meta) (item' : Item Socket) (turned : Served) → is_waiting x.inner meta ≡ false
        → TurnsIf moves turn (is_waiting x.inner meta) x (let_through x.inner (record { meta = meta; socket = s })) turned x' item'
        → OffersLeaves meta turned (Some item')
    turns meta item' turned ready goes =
        let let_in : Item Socket = let_through x.inner (record { meta = meta; socket = s }) in
        let asked : TurnsIf moves turn false x let_in turned x' item' =
        subst (λ (waits : Bool). TurnsIf moves turn waits x let_in turned x' item') ready goes in
        asks meta let_in.meta refl item' turned asked.1 asked.0 asked.2 asked.3

    item_turns : (meta : Meta) (o : Option (Item Socket)) (turned : Served) → is_waiting x.inner meta ≡ false
        → ItemTurns moves turn (Some (record { meta = meta; socket = s })) x turned x' o → OffersLeaves meta turned o
    item_turns meta None turned ready goes = absurd goes
    item_turns meta (Some item') turned ready goes = turns meta item' turned ready goes

    pub any_leave : (meta : Meta) (slot : SocketStorage Socket) (turned : Served) → is_waiting x.inner meta ≡ false
        → ServesSlot moves turn x (record { inner = Some (record { meta = meta; socket = s }) }) turned x' slot → OffersLeaves meta turned slot.inner
    any_leave meta slot turned ready goes = item_turns meta slot.inner turned ready goes
