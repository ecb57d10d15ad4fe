-- Whoever is asked for in a step of the egress path, a datagram whose next hop isn't known stays the first of its socket.
use Rattle.std.proofs.Common.{◌≡◌, ℕ, zero, suc, ◌+◌, Bool, true, false, not, ◌&&◌, ◌||◌, if◌then◌else◌, ◌⊎◌, inl, inr, ℤ, int_lt, List, [], ◌∷◌, ◌++◌, length, arith, append_assoc, length-append, Option, Some, None, is_some, refl, sym, ap, ◌∙◌, subst}
use Rattle.std.specs.Prelude.{nat_lt, slice_get}
use Rattle.net_base.specs.Device.{Move}
use Rattle.net_base.specs.Packets.{contents}
use Rattle.base_buffer.proofs.PacketLaws.{contents-unpadded}
use Rattle.ip_wire.specs.AddressTests.{is_multicast, is_same_address}
use Rattle.ip_wire.specs.HardwareAddress.{HardwareAddress}
use Rattle.ip_wire.specs.HardwareAddress.TheVariants as Hardware
use Rattle.ip_wire.specs.Ip.{destination_of}
use Rattle.ip_wire.specs.IpAddress.{IpAddress}
use Rattle.socket_datagram.specs.SocketValue as Datagrams
use Rattle.socket_datagram.specs.Offers.{left_with}
use Rattle.socket_datagram.specs.Udp.{UdpValue, UdpSettings, TakesDatagram}
use Rattle.socket_datagram.specs.declared.udp.UdpMetadata.{UdpMetadata}
use Rattle.iface_ingress.specs.Packet.{PacketValue}
use Rattle.iface_ingress.specs.Socket.{Socket}
use Rattle.iface_ingress.specs.Socket.TheVariants as Kind
use Rattle.iface_tables.specs.Best.{at_index}
use Rattle.iface_tables.specs.Inner.{InnerValue, at_instant, all_stations, context_of, group_hardware_addr, has_neighbor, is_crowded, is_known_hop, is_known_on, is_local_broadcast, link_address, link_by, link_of_hop, link_on, next_hop}
use Rattle.iface_tables.specs.Neighbor.{CacheValue, answer_by, has_failed, is_found, lookup, neighbor_index_of, requested, unless_failed}
use Rattle.iface_tables.specs.declared.link.LinkAddress.{LinkAddress}
use Rattle.iface_tables.specs.declared.link.LinkAddress.TheVariants as Link
use Rattle.iface_tables.specs.declared.neighbor.Answer.{Answer}
use Rattle.iface_tables.specs.declared.neighbor.Answer.TheVariants as Known
use Rattle.iface_tables.specs.declared.neighbor.Neighbor.{Neighbor}
use Rattle.iface_egress.specs.Departure.{target_of}
use Rattle.iface_egress.specs.IsTransmitted.{Asked, IsTransmitted}
use Rattle.iface_egress.specs.Meta.{freed, has_waited, missed, neighbor_by}
use Rattle.iface_egress.specs.Plan.{never_leaves, plan_by}
use Rattle.iface_egress.specs.declared.frame.NeighborQuery.{NeighborQuery}
use Rattle.iface_egress.specs.declared.plan.Plan.{Plan}
use Rattle.iface_egress.specs.declared.plan.Plan.TheVariants as Way
use Rattle.iface_egress.specs.declared.socket_meta.Meta.{Meta}
use Rattle.iface_egress.specs.declared.socket_meta.Waiting.{Waiting}
use Rattle.iface_egress.specs.declared.socket_set.Item.{Item}
use Rattle.iface_egress.specs.declared.socket_set.SocketStorage.{SocketStorage}
use Rattle.iface_egress.specs.declared.egress_path.Sent.{Sent}
use Rattle.iface_egress.specs.declared.egress_path.Sent.TheVariants as Outcome
use Rattle.interface.specs.Awaited.{turn_of}
use Rattle.interface.specs.Egress.{EgressStep, sending}
use Rattle.interface.specs.Host.{Sender}
use Rattle.interface.specs.Pass.{Passed}
use Rattle.interface.specs.SameHost.{IsSameHost}
use Rattle.interface.specs.State.{State}
use Rattle.interface.specs.Serve.{Leaves, crowded_time, held, is_given_up, passes_filter, is_known, is_out_of_turn, is_waiting, let_through, outcome_by, plan_at, settled_by, waits_until}
use Rattle.interface.specs.declared.serve.Served.{Served}
use Rattle.interface.specs.declared.serve.Served.TheVariants as Turn
use Rattle.interface.proofs.Alone.{asked_alone}
use Rattle.interface.proofs.SameHost.{same_flag, same_then, same_where}
use Rattle.proof_stack.specs.Progress.NeighborResolution.{HasToAsk}
use Rattle.proof_stack.specs.Progress.Exchanged.{IsMarkFor, IsStillFirst}
use Rattle.proof_stack.specs.Progress.Reached.{udp_slot}
use Rattle.proof_stack.proofs.Polls.Asks.{asks_plan, asks_under}
use Rattle.proof_stack.proofs.Polls.First.{host_then, same_address}
use Rattle.proof_stack.proofs.Polls.Goes.{stands_at}
use Rattle.proof_stack.proofs.Polls.InSilence.{IsSilent, slot_keeps, still_silent}
use Rattle.proof_stack.proofs.Polls.Known.{KeepsOrAsks, slot_leaves}
use Rattle.proof_stack.proofs.Polls.OurLeave.{OursLeaves, our_leave}
use Rattle.proof_stack.proofs.Polls.Passes.{clears_same}
use Rattle.proof_stack.proofs.Polls.Searches.{others_fail_so}
use Rattle.proof_stack.proofs.Polls.Silenced.{IsSought, later, limited, not_failed, not_known, sought}
use Rattle.proof_stack.proofs.Parkless.{Egress, ItemTurns, Pass, ServesSlot, TurnsIf, egress_alone, kept, slot_same}

abbrev Place : Type 0
Place = SocketStorage Socket

abbrev no_slot : Option Place
no_slot = None

abbrev no_one : Option Sent
no_one = None

abbrev slot_with : Option (Item Socket) → Place
slot_with o = record { inner = o }

-- WHO ISN'T KNOWN BEHIND A QUESTION FOR WHOMEVER ISN'T KNOWN YET

not_failed_yet : (failed : Bool) (a : Answer) → unless_failed failed a ≡ Known.NotFound → failed ≡ false
not_failed_yet false a is = refl
not_failed_yet true (Known.Found hardware) is = absurd (let never : Known.Found hardware ≡ Known.NotFound = is in cc)
not_failed_yet true Known.NotFound is = absurd (let never : Known.Unanswered ≡ Known.NotFound = is in cc)
not_failed_yet true Known.RateLimited is = absurd (let never : Known.Unanswered ≡ Known.NotFound = is in cc)
not_failed_yet true Known.Unanswered is = absurd (let never : Known.Unanswered ≡ Known.NotFound = is in cc)

room_left : (many b : Bool) → many ≡ false → (not many && not b) ≡ false → b ≡ true
room_left many true alone is = refl
room_left true false alone is = absurd (let clash : true ≡ false = alone in cc)
room_left false false alone is = absurd (let clash : true ≡ false = is in cc)

module _ (c : CacheValue) (hop other : IpAddress) (instant : ℤ) (unknown : lookup c hop instant ≡ Known.NotFound)
    (room : nat_lt (length c.searches) c.search_room ≡ true) where
  abbrev then_known : CacheValue
  then_known = requested c other instant

  fails_not : (b : Bool) → is_same_address other hop ≡ b → has_failed then_known hop instant ≡ false
  fails_not true same =
      subst (λ (a : IpAddress). has_failed then_known a instant ≡ false) (same_address other hop same) (not_failed c other instant)
  fails_not false apart =
      others_fail_so c other hop instant apart room instant
      ∙ not_failed_yet (has_failed c hop instant) (answer_by (at_index (neighbor_index_of c.entries hop) c.entries) c instant) unknown

  -- it isn't known, and nobody is asked for
  still_limited : lookup then_known hop instant ≡ Known.RateLimited
  still_limited =
      let entry : Option Neighbor = at_index (neighbor_index_of c.entries hop) c.entries in
      ap (λ (b : Bool). unless_failed b (answer_by entry then_known instant)) (fails_not (is_same_address other hop) refl)
      ∙ ap (unless_failed false) (limited c other instant entry (not_known c other instant (has_failed c hop instant) (answer_by entry c instant) unknown))

and_none : (b : Bool) → (b && false) ≡ false
and_none true = refl
and_none false = refl

-- THE DATAGRAM'S HOST

module _ (v : UdpValue) (d : UdpMetadata × List ℕ) (more : List (UdpMetadata × List ℕ)) (queued : contents v.queued ≡ d ∷ more) (hop : IpAddress)
    (p : PacketValue) (meta : Meta) (i : InnerValue) (has : HasToAsk i v.settings d hop p)
    (patient : has_waited meta (destination_of p.header) crowded_time i.instant ≡ false) (marked : IsMarkFor meta.waiting (destination_of p.header)) where
  abbrev to : IpAddress
  to = destination_of p.header

  abbrev our_slot : Place
  our_slot = udp_slot meta v

  link : IsSought i to hop
  link = sought i to hop has.alone has.unknown

  -- nobody was asked for so far, or somebody was
  record Through (j : InnerValue) : Type 0 where
    same : IsSameHost i j
    what : (j.neighbors ≡ i.neighbors) ⊎ (IsSilent j × (lookup j.neighbors hop j.instant ≡ Known.RateLimited))

  module _ (j : InnerValue) (through : Through j) where
    takes : TakesDatagram (context_of j) v.settings d p
    takes = subst (λ (k : InnerValue). TakesDatagram (context_of k) v.settings d p) (sym through.same) has.takes

    may : never_leaves j p.header ≡ false
    may = subst (λ (k : InnerValue). never_leaves k p.header ≡ false) (sym through.same) has.may

    not_given_up : (plan : Plan) → (is_crowded j && has_waited meta to crowded_time j.instant) ≡ false
    not_given_up plan =
        ap (λ (m : ℤ). is_crowded j && has_waited meta to crowded_time m) (ap (λ (k : InnerValue). k.instant) through.same)
        ∙ ap (λ (b : Bool). is_crowded j && b) patient ∙ and_none (is_crowded j)

    unfound : is_found (lookup j.neighbors hop j.instant) ≡ false
    unfound = by through.what where
      by : (j.neighbors ≡ i.neighbors) ⊎ (IsSilent j × (lookup j.neighbors hop j.instant ≡ Known.RateLimited)) → is_found (lookup j.neighbors hop j.instant) ≡ false
      by (inl begun) =
          ap (λ (c : CacheValue). is_found (lookup c hop j.instant)) begun
          ∙ ap (λ (m : ℤ). is_found (lookup i.neighbors hop m)) (ap (λ (k : InnerValue). k.instant) through.same)
          ∙ ap is_found link.unknown
      by (inr quiet) = ap is_found quiet.1

    hop_then : next_hop j to ≡ Some hop
    hop_then = ap (λ (k : InnerValue). next_hop k to) through.same ∙ link.hop_is

    on_then : j.hardware ≡ Hardware.Ethernet link.own
    on_then = ap (λ (k : InnerValue). k.hardware) through.same ∙ link.on

    unknown_then : has_neighbor j to ≡ false
    unknown_then =
        ap (is_known_hop j) hop_then ∙ ap (λ (h : HardwareAddress). is_known_on h j hop) on_then ∙ unfound

    unheard : passes_filter j meta ≡ false
    unheard = by meta.waiting marked where
      by : (o : Option Waiting) → IsMarkFor o to → is_known j (neighbor_by o) ≡ false
      by None is = refl
      by (Some w) is = ap (has_neighbor j) is ∙ unknown_then

  -- OUR TURN

  record Stays (o : Option (Item Socket)) : Type 0 where
    mark : Meta
    value : UdpValue
    stands : o ≡ Some (record { meta = mark; socket = Kind.Udp value })
    settings : value.settings ≡ v.settings
    first : contents value.queued ≡ d ∷ more
    marked_so : IsMarkFor mark.waiting to
    waits : is_some meta.waiting ≡ true → is_some mark.waiting ≡ true

  as_it_was : Stays (Some (record { meta = meta; socket = Kind.Udp v }))
  as_it_was = record { mark = meta; value = v; stands = refl; settings = refl; first = queued; marked_so = marked; waits = λ is. is }

  abbrev Rested : Sent → Type 0
  Rested sent = (sent ≡ Outcome.Waits) ⊎ (sent ≡ Outcome.Refused)

  told_sent : (a b : Sent) → Some a ≡ Some b → b ≡ a
  told_sent a b is = cc

  module _ {D : Type 0} (moves : D → Move → D → Type 0) (turn : Option IpAddress) where
    module _ (x x' : Sender D) (through : Through x.inner) where
      by_turn : (out : Bool) (sent : Sent) → (if out then Some Outcome.Waits else None) ≡ Some sent → Rested sent
      by_turn true sent is = inl (told_sent Outcome.Waits sent is)
      by_turn false sent is = absurd (let never : no_one ≡ Some sent = is in cc)

      held_rests : (plan : Plan) (given : Bool) (sent : Sent) → is_given_up meta x.inner to plan ≡ false
          → outcome_by given (held turn meta x.inner to plan) ≡ Some sent → Rested sent
      held_rests plan false sent spared is = inr (told_sent Outcome.Refused sent is)
      held_rests plan true sent spared is =
          by_turn (is_out_of_turn turn plan) sent
          (sym (ap (λ (b : Bool). if b then Some Outcome.Dropped else if is_out_of_turn turn plan then Some Outcome.Waits else None) spared) ∙ is)

      asked_rests : (mid : D) (q : NeighborQuery) (sent : Sent) → Asked moves mid x.inner q sent x'.device x'.inner → Rested sent
      asked_rests mid q Outcome.Waits goes = inl refl
      asked_rests mid q Outcome.Refused goes = inr refl
      asked_rests mid q Outcome.Gone goes = absurd goes
      asked_rests mid q Outcome.Dropped goes = absurd goes
      asked_rests mid q Outcome.Busy goes = absurd goes

      ask_rests : (q : NeighborQuery) (sent : Sent) → plan_at x p ≡ Way.Ask q → Leaves moves turn x meta p sent x' → Rested sent
      ask_rests q sent plan (inl rests) =
          held_rests (Way.Ask q) rests.0 sent (not_given_up x.inner through (Way.Ask q))
          (subst (λ (plan : Plan). outcome_by rests.0 (held turn meta x.inner to plan) ≡ Some sent) plan rests.4)
      ask_rests q sent plan (inr out) =
          asked_rests out.0 q sent (subst (λ (plan : Plan). IsTransmitted moves out.0 x.inner x.left p plan sent x'.device x'.inner x'.left) plan out.2).0

      wait_rests : (sent : Sent) → plan_at x p ≡ Way.Wait → Leaves moves turn x meta p sent x' → Rested sent
      wait_rests sent plan (inl rests) =
          held_rests Way.Wait rests.0 sent (not_given_up x.inner through Way.Wait)
          (subst (λ (plan : Plan). outcome_by rests.0 (held turn meta x.inner to plan) ≡ Some sent) plan rests.4)
      wait_rests sent plan (inr out) =
          inl (subst (λ (plan : Plan). IsTransmitted moves out.0 x.inner x.left p plan sent x'.device x'.inner x'.left) plan out.2).0

      leaves_rest : (sent : Sent) → Leaves moves turn x meta p sent x' → Rested sent
      leaves_rest sent goes = by through.what where
        by : (x.inner.neighbors ≡ i.neighbors) ⊎ (IsSilent x.inner × (lookup x.inner.neighbors hop x.inner.instant ≡ Known.RateLimited)) → Rested sent
        by (inl begun) =
            let is_begun : x.inner ≡ record i { ident = x.inner.ident } = host_then i x.inner i.neighbors has.alone through.same refl begun in
            let asks : HasToAsk x.inner v.settings d hop p =
            subst (λ (j : InnerValue). HasToAsk j v.settings d hop p) (sym is_begun) (asks_under i x.inner.ident v.settings d hop p has) in
            let plan : (q : NeighborQuery) × (plan_at x p ≡ Way.Ask q) × (target_of q ≡ hop) = asks_plan x.inner (is_some x.left) v.settings d hop p asks in
            ask_rests plan.0 sent plan.1 goes
        by (inr quiet) = wait_rests sent plan goes where
          one_then : is_local_broadcast x.inner to ≡ false
          one_then = subst (λ (j : InnerValue). is_local_broadcast j to ≡ false) (sym through.same) link.one

          silent : link_address x.inner to ≡ Link.Silent
          silent =
              ap (λ (h : HardwareAddress). link_on h x.inner to) (on_then x.inner through)
              ∙ ap (λ (all : Bool). if all then Link.Known (Hardware.Ethernet all_stations)
              else if is_multicast to then Link.Known (Hardware.Ethernet (group_hardware_addr to)) else link_of_hop x.inner (next_hop x.inner to)) one_then
              ∙ ap (λ (group : Bool). if group then Link.Known (Hardware.Ethernet (group_hardware_addr to)) else link_of_hop x.inner (next_hop x.inner to)) link.group
              ∙ ap (link_of_hop x.inner) (hop_then x.inner through)
              ∙ ap (λ (c : CacheValue). link_by (lookup c hop x.inner.instant) hop) (asked_alone x.inner hop (same_flag i x.inner through.same ∙ has.alone))
              ∙ ap (λ (a : Answer). link_by a hop) quiet.1

          plan : plan_at x p ≡ Way.Wait
          plan =
              ap (λ (never : Bool). if never then Way.Drop else plan_by (link_address x.inner to) x.inner (is_some x.left) p.header)
              (may x.inner through)
              ∙ ap (λ (l : LinkAddress). plan_by l x.inner (is_some x.left) p.header) silent

      rested : (sent : Sent) (until : ℤ) (o : Option (Item Socket)) → Rested sent
          → o ≡ Some (settled_by sent x.inner.instant until to
          (record { meta = meta; socket = Kind.Udp (left_with (Some p) v) })) → Stays o
      rested sent until o (inl waits) became = record {
        mark = missed meta x.inner.instant to until;
        value = Datagrams.settled false (left_with (Some p) v);
        stands = became ∙ ap (λ (s : Sent). Some (settled_by s x.inner.instant until to
            (record { meta = meta; socket = Kind.Udp (left_with (Some p) v) }))) waits;
        settings = refl;
        first = contents-unpadded v.queued ∙ queued;
        marked_so = refl;
        waits = λ is. refl;
      }
      rested sent until o (inr refused) became = record {
        mark = meta;
        value = Datagrams.settled false (left_with (Some p) v);
        stands = became ∙ ap (λ (s : Sent). Some (settled_by s x.inner.instant until to
            (record { meta = meta; socket = Kind.Udp (left_with (Some p) v) }))) refused;
        settings = refl;
        first = contents-unpadded v.queued ∙ queued;
        marked_so = marked;
        waits = λ is. is;
      }

      left_so : (turned : Served) (o : Option (Item Socket))
          → OursLeaves moves turn x x' v d p (takes x.inner through) (may x.inner through) meta turned o → Stays o
      left_so turned o left =
          let same : left.meta ≡ meta = left.let_in ∙ ap (freed meta) (unheard x.inner through) in
          rested left.sent (waits_until (plan_at x p) x'.inner) o
          (leaves_rest left.sent (subst (λ (m : Meta). Leaves moves turn x m p left.sent x') same left.leaves))
          (left.became ∙ ap (λ (m : Meta). Some (settled_by left.sent x.inner.instant (waits_until (plan_at x p) x'.inner) to
          (record { meta = m; socket = Kind.Udp (left_with (Some p) v) }))) same)

      -- whether the socket waits or is asked
      our_turn : (b : Bool) → is_waiting x.inner meta ≡ b → (turned : Served) (slot : Place) → ServesSlot moves turn x our_slot turned x' slot
          → Stays slot.inner
      our_turn false ready turned slot goes =
          left_so turned slot.inner
          (our_leave moves turn x x' v d p (takes x.inner through) (may x.inner through) more queued meta slot turned ready goes)
      our_turn true waits turned slot goes = by slot.inner goes where
        by : (o : Option (Item Socket)) → ItemTurns moves turn (Some (record { meta = meta; socket = Kind.Udp v })) x turned x' o → Stays o
        by None goes = absurd goes
        by (Some item) goes =
            let it : Item Socket = let_through x.inner (record { meta = meta; socket = Kind.Udp v }) in
            let rests : TurnsIf moves turn true x it turned x' item =
            subst (λ (w : Bool). TurnsIf moves turn w x it turned x' item) waits goes in
            subst Stays
            (sym (ap (λ (y : Item Socket). Some y) rests.2
            ∙ ap (λ (heard : Bool). Some (record { meta = freed meta heard; socket = Kind.Udp v })) (unheard x.inner through))) as_it_was

    -- ANOTHER'S TURN

    other_turn : (x x' : Sender D) (q q' : Place) (turned : Served) → Through x.inner → ServesSlot moves turn x q turned x' q' → Through x'.inner
    other_turn x x' q q' turned through goes = record { same = same_then i x.inner x'.inner through.same same_here; what = by through.what } where
      same_here : IsSameHost x.inner x'.inner
      same_here = slot_same moves turn x x' q q' turned goes

      same_instant : x'.inner.instant ≡ x.inner.instant
      same_instant = ap (λ (k : InnerValue). k.instant) same_here

      begun_here : x.inner.neighbors ≡ i.neighbors → KeepsOrAsks x.inner x'.inner.neighbors
          → (x'.inner.neighbors ≡ i.neighbors) ⊎ (IsSilent x'.inner × (lookup x'.inner.neighbors hop x'.inner.instant ≡ Known.RateLimited))
      begun_here begun (inl keeps) = inl (keeps ∙ begun)
      begun_here begun (inr asks) =
          let now : requested x.inner.neighbors asks.0 x.inner.instant ≡ requested i.neighbors asks.0 i.instant =
          ap (λ (c : CacheValue). requested c asks.0 x.inner.instant) begun
          ∙ ap (λ (m : ℤ). requested i.neighbors asks.0 m) (ap (λ (k : InnerValue). k.instant) through.same) in
          let at : x'.inner.instant ≡ i.instant = same_instant ∙ ap (λ (k : InnerValue). k.instant) through.same in
          inr (
            ap (λ (m : ℤ). int_lt m x'.inner.neighbors.silent) at
                ∙ ap (λ (c : CacheValue). int_lt i.instant c.silent) (asks.2 ∙ now) ∙ later i.neighbors asks.0 i.instant,
            ap (λ (m : ℤ). lookup x'.inner.neighbors hop m) at
                ∙ ap (λ (c : CacheValue). lookup c hop i.instant) (asks.2 ∙ now)
                ∙ still_limited i.neighbors hop asks.0 i.instant link.unknown
                (room_left i.host_requirements (nat_lt (length i.neighbors.searches) i.neighbors.search_room) has.alone has.room),
          )

      by : (x.inner.neighbors ≡ i.neighbors) ⊎ (IsSilent x.inner × (lookup x.inner.neighbors hop x.inner.instant ≡ Known.RateLimited))
          → (x'.inner.neighbors ≡ i.neighbors) ⊎ (IsSilent x'.inner × (lookup x'.inner.neighbors hop x'.inner.instant ≡ Known.RateLimited))
      by (inl begun) = begun_here begun (slot_leaves moves turn x x' (same_flag i x.inner through.same ∙ has.alone) q q' turned goes)
      by (inr quiet) =
          let keeps : x'.inner.neighbors ≡ x.inner.neighbors = slot_keeps moves turn x x' (same_flag i x.inner through.same ∙ has.alone) quiet.0 q q' turned goes in
          inr (
            still_silent moves turn x.inner x'.inner same_here keeps quiet.0,
            ap (λ (m : ℤ). lookup x'.inner.neighbors hop m) same_instant ∙ ap (λ (c : CacheValue). lookup c hop x.inner.instant) keeps ∙ quiet.1,
          )

    -- THE PASS

    abbrev At : List Place → ℕ → Type 0
    At slots k = (o : Option (Item Socket)) × (slice_get slots k ≡ Some (slot_with o)) × Stays o

    one_more : (xs : List Place) (x : Place) (n : ℕ) → length xs + suc n ≡ length (xs ++ x ∷ []) + n
    one_more xs x n = let both = length-append xs (x ∷ []) in omega (arith, both)

    none_more : (m : ℕ) → m + 0 ≡ m
    none_more m = omega arith

    is_ours : (q : Place) → Some q ≡ Some our_slot → q ≡ our_slot
    is_ours q is = let at : q ≡ our_slot = cc in at

    following_them : (xs ys : List Place) (n m : ℕ) → m ≡ length xs + n → slice_get (xs ++ ys) m ≡ slice_get ys n
    following_them [] ys n m is = ap (slice_get ys) (let same : m ≡ n = omega (arith, is) in same)
    following_them (x ∷ xs) ys n zero is = absurd (omega (arith, is))
    following_them (x ∷ xs) ys n (suc m) is = following_them xs ys n m (omega (arith, is))

    pass_stays : (s : Sender D) (before : List Place) (changed : Bool) (ps : List Place) (n k : ℕ) (e : Passed D) → slice_get ps n ≡ Some our_slot
        → k ≡ length before + n → Through s.inner → Pass moves turn s before changed ps e → At e.slots k
    pass_stays s before changed [] n k e stands is through goes = absurd (let never : no_slot ≡ Some our_slot = stands in cc)
    pass_stays s before changed (q ∷ ps) zero k e stands is through (inl goes) =
        let end = kept moves turn goes.1 (before ++ goes.2 ∷ []) (changed || goes.0) ps e goes.4 in (
          goes.2.inner,
          ap (λ (all : List Place). slice_get all k) (end.1 ∙ append_assoc before (goes.2 ∷ []) end.0)
              ∙ ap (λ (m : ℕ). slice_get (before ++ goes.2 ∷ end.0) m) (is ∙ none_more (length before)) ∙ stands_at before end.0 goes.2,
          our_turn s goes.1 through (is_waiting s.inner meta) refl (Turn.Next goes.0) goes.2
              (subst (λ (slot : Place). ServesSlot moves turn s slot (Turn.Next goes.0) goes.1 goes.2) (is_ours q stands) goes.3),
        )
    pass_stays s before changed (q ∷ ps) zero k e stands is through (inr stops) = (
      stops.2.inner,
      ap (λ (x : Passed D). slice_get x.slots k) stops.4
          ∙ ap (λ (m : ℕ). slice_get (before ++ stops.2 ∷ ps) m) (is ∙ none_more (length before)) ∙ stands_at before ps stops.2,
      our_turn s stops.1 through (is_waiting s.inner meta) refl (Turn.Stop stops.0) stops.2
          (subst (λ (slot : Place). ServesSlot moves turn s slot (Turn.Stop stops.0) stops.1 stops.2) (is_ours q stands) stops.3),
    )
    pass_stays s before changed (q ∷ ps) (suc n) k e stands is through (inl goes) =
        pass_stays goes.1 (before ++ goes.2 ∷ []) (changed || goes.0) ps n k e stands (is ∙ one_more before goes.2 n)
        (other_turn s goes.1 q goes.2 (Turn.Next goes.0) through goes.3) goes.4
    pass_stays s before changed (q ∷ ps) (suc n) k e stands is through (inr stops) = (
      our_slot.inner,
      ap (λ (x : Passed D). slice_get x.slots k) stops.4
          ∙ following_them before (stops.2 ∷ ps) (suc n) k is ∙ stands,
      as_it_was,
    )

  -- THE STEP

  none_before : (k : ℕ) → k ≡ 0 + k
  none_before k = omega arith

  egress_stays : {D : Type 0} (moves : D → Move → D → Type 0) (s : Sender D) (ps : List Place) (n : ℕ) (e : Passed D) → s.inner ≡ i
      → slice_get ps n ≡ Some our_slot → Egress moves s ps e
      → (o : Option (Item Socket)) × (slice_get e.slots n ≡ Some (slot_with o)) × Stays o
  egress_stays {D} moves s ps n e here stands (inl rests) =
      (our_slot.inner, ap (λ (x : Passed D). slice_get x.slots n) rests.2 ∙ stands, as_it_was)
  egress_stays {D} moves s ps n e here stands (inr goes) =
      let same : goes.0.inner ≡ i = clears_same moves s.left s goes.0 true goes.1 ∙ here in
      pass_stays moves (turn_of goes.0.inner ps) goes.0 [] false ps n n e stands (none_before n)
      (record { same = same_where i goes.0.inner same; what = inl (ap (λ (j : InnerValue). j.neighbors) same) }) goes.2

module _ {D : Type 0} (moves : D → Move → D → Type 0) (t : ℤ) (s s' : State D) (answer : Option Bool) (n : ℕ) (v : UdpValue) (d : UdpMetadata × List ℕ)
    (hop : IpAddress) (p : PacketValue) (has : HasToAsk (at_instant t s.host.inner) v.settings d hop p)
    (before : IsStillFirst s.slots n v d (destination_of p.header))
    (patient : has_waited before.meta (destination_of p.header) crowded_time t ≡ false) (step : EgressStep moves t s answer s') where
  abbrev now : InnerValue
  now = at_instant t s.host.inner

  has_so : HasToAsk now before.value.settings d hop p
  has_so = subst (λ (settings : UdpSettings). HasToAsk now settings d hop p) (sym before.settings) has

  ends : (o : Option (Item Socket)) × (slice_get step.0.slots n ≡ Some (slot_with o))
      × Stays before.value d before.more before.first hop p before.meta now has_so patient before.mark o
  ends =
      egress_stays before.value d before.more before.first hop p before.meta now has_so patient before.mark moves (sending t s) s.slots n step.0 refl
      before.stands (egress_alone moves (sending t s) s.slots step.0 has.alone step.1)

  pub stays_first : (following : IsStillFirst s'.slots n v d (destination_of p.header)) × (is_some before.meta.waiting ≡ true → is_some following.meta.waiting ≡ true)
  stays_first = (
    record {
      meta = ends.2.mark;
      value = ends.2.value;
      more = before.more;
      stands = ap (λ (x : State D). slice_get x.slots n) step.2 ∙ ends.1 ∙ ap (λ (o : Option (Item Socket)). Some (slot_with o)) ends.2.stands;
      settings = ends.2.settings ∙ before.settings;
      first = ends.2.first;
      mark = ends.2.marked_so;
    },
    ends.2.waits,
  )
