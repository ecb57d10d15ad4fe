-- A pass over the sockets, and a step of the egress path, in which what a socket offers goes; and so the first datagram of a UDP socket.
use Rattle.std.proofs.Common.{◌≡◌, ℕ, zero, suc, ◌+◌, Bool, true, false, ◌||◌, ◌⊎◌, inl, inr, ℤ, List, [], ◌∷◌, ◌++◌, length, drop, Option, Some, None, refl, sym}
use Rattle.std.proofs.Common.{ap, ◌∙◌}
use Rattle.std.proofs.Common.{subst, arith, append_assoc, append-nil, length-append}
use Rattle.std.specs.Prelude.{slice_get}
use Rattle.std.specs.List.{list_any}
use Rattle.net_base.specs.Device.{Move}
use Rattle.net_base.specs.Packets.{contents, unpadded}
use Rattle.base_buffer.proofs.PacketLaws.{contents-without_first, contents-unpadded}
use Rattle.ip_wire.specs.HardwareAddress.{HardwareAddress}
use Rattle.ip_wire.specs.IpAddress.{IpAddress}
use Rattle.socket_datagram.specs.Offers.{left_with}
use Rattle.socket_datagram.specs.SocketValue as Datagrams
use Rattle.socket_datagram.specs.Udp.{UdpValue}
use Rattle.socket_datagram.specs.declared.udp.UdpMetadata.{UdpMetadata}
use Rattle.iface_ingress.specs.Offer as Answer
use Rattle.iface_ingress.specs.Offer.TheVariants as Offer
use Rattle.iface_ingress.specs.Packet.{PacketValue}
use Rattle.iface_ingress.specs.Socket.{Socket}
use Rattle.iface_ingress.specs.Socket.TheVariants as Kind
use Rattle.iface_ingress.specs.Sockets as Sockets
use Rattle.iface_tables.specs.Inner.{InnerValue, at_instant}
use Rattle.iface_tables.specs.declared.neighbor.Search.{Search}
use Rattle.iface_egress.specs.declared.socket_meta.Meta.{Meta}
use Rattle.iface_egress.specs.declared.socket_set.Item.{Item}
use Rattle.iface_egress.specs.declared.socket_set.SocketStorage.{SocketStorage}
use Rattle.interface.specs.Awaited.{turn_of}
use Rattle.interface.specs.Egress.{EgressStep, sending, if_changed}
use Rattle.interface.specs.Host.{Sender}
use Rattle.interface.specs.Pass.{Pass, Passed}
use Rattle.interface.specs.Remote.{context_for}
use Rattle.iface_tables.specs.Parking.{ParkingValue}
use Rattle.interface.specs.SameHost.{IsSameHost, parking_from}
use Rattle.interface.specs.State.{State}
use Rattle.interface.specs.Serve.{ServesSlot, is_waiting}
use Rattle.interface.specs.EgressPath.{Egress}
use Rattle.interface.specs.declared.serve.Served.TheVariants as Turn
use Rattle.interface.proofs.SameHost.{clears_all_same, same_where, slot_same}
use Rattle.proof_stack.specs.Progress.Moves.{AreMoves, is_refused}
use Rattle.proof_stack.specs.Progress.Queued.{CanGo, HasTurn, Sends, frame_under, WentFrom, GoesAtOnce}
use Rattle.proof_stack.specs.Progress.Segments.{CanTransmit, IsItsTurn, LeavesAtOnce, WentBy}
use Rattle.proof_stack.proofs.Polls.AnyLeave.{OffersOnly}
use Rattle.proof_stack.proofs.Polls.Walks.{joined, refused_before, refused_following, sends_before, sends_following}
use Rattle.proof_stack.proofs.Polls.Ways.{leave_still, leaves, waits_still, same_frame, under_still}
use Rattle.proof_stack.proofs.Polls.Numbers.{IsSmall, clears_all_small, slot_small}
use Rattle.proof_stack.proofs.Polls.AnyTurn.{Moved, Next, Through, clears_through, pass_through, slot_through}
use Rattle.proof_stack.proofs.Polls.OurLeave.{offering_with, offers_it}
use Rattle.proof_stack.proofs.Polls.OurTurn.{Ours, OurEnds, our_turn}

abbrev Place : Type 0
Place = SocketStorage Socket

abbrev slot_with : Option (Item Socket) → Place
slot_with o = record { inner = o }

abbrev no_slot : Option Place
no_slot = None

-- PLACES

pub stands_at : (before more : List Place) (p : Place) → slice_get (before ++ p ∷ more) (length before) ≡ Some p
stands_at [] more p = refl
stands_at (q ∷ before) more p = stands_at before more p

-- a step of the egress path leaves what a socket offers
offered_still : (i : InnerValue) (ident : ℕ) (silent : ℤ) (searches : List Search) (parking : ParkingValue) (s offering : Socket) (says : Bool) (p : PacketValue)
    → OffersOnly i s says offering p
    → OffersOnly (record i { ident = ident; neighbors = record i.neighbors { silent = silent; searches = searches }; parking = parking }) s says offering p
offered_still i ident silent searches parking s offering says p only = record { asked = by s only.asked; packet = only.packet } where
  by : (s : Socket) → ((answer : Answer.Offer) (s' : Socket) → Sockets.Offers (context_for i s) s answer s' → (answer ≡ Offer.Packet says) × (s' ≡ offering))
      → (answer : Answer.Offer) (s' : Socket)
      → Sockets.Offers (context_for (record i { ident = ident; neighbors = record i.neighbors { silent = silent; searches = searches }; parking = parking }) s) s answer s'
      → (answer ≡ Offer.Packet says) × (s' ≡ offering)
  by s asked = asked

pub only_still : (i j : InnerValue) (s offering : Socket) (says : Bool) (p : PacketValue) → IsSameHost i j → OffersOnly i s says offering p
    → OffersOnly j s says offering p
only_still i j s offering says p same only =
    subst (λ (x : InnerValue). OffersOnly x s says offering p) (sym same)
    (offered_still i j.ident j.neighbors.silent j.neighbors.searches (parking_from i j) s offering says p only)

module _ {D : Type 0} (moves : D → Move → D → Type 0) where
  next_not : (b c : Bool) → Turn.Stop b ≡ Turn.Next c → ⊥
  next_not b c same = cc

  next_is : (b c : Bool) → Turn.Next b ≡ Turn.Next c → b ≡ c
  next_is b c same = cc

  or_true : (a b : Bool) → b ≡ true → (a || b) ≡ true
  or_true true b e = refl
  or_true false b e = e

  or_first : (a b : Bool) → a ≡ true → (a || b) ≡ true
  or_first true b e = refl
  or_first false b e = absurd (let clash : false ≡ true = e in cc)

  -- the slots before stay, and what changed stays said
  kept : (turn : Option IpAddress) (s : Sender D) (before : List Place) (changed : Bool) (ps : List Place) (e : Passed D)
      → Pass moves turn s before changed ps e
      → (more : List Place) × (e.slots ≡ before ++ more)
  kept turn s before changed [] e ends = ([], ap (λ (x : Passed D). x.slots) ends ∙ sym (append-nil before))
  kept turn s before changed (p ∷ ps) e (inl goes) =
      let more = kept turn goes.1 (before ++ goes.2 ∷ []) (changed || goes.0) ps e goes.4 in
      (goes.2 ∷ more.0, more.1 ∙ append_assoc before (goes.2 ∷ []) more.0)
  kept turn s before changed (p ∷ ps) e (inr stops) = (stops.2 ∷ ps, ap (λ (x : Passed D). x.slots) stops.4)

  said : (turn : Option IpAddress) (s : Sender D) (before : List Place) (changed : Bool) (ps : List Place) (e : Passed D)
      → Pass moves turn s before changed ps e
      → changed ≡ true → e.changed ≡ true
  said turn s before changed [] e ends is = ap (λ (x : Passed D). x.changed) ends ∙ is
  said turn s before changed (p ∷ ps) e (inl goes) is =
      said turn goes.1 (before ++ goes.2 ∷ []) (changed || goes.0) ps e goes.4 (or_first changed goes.0 is)
  said turn s before changed (p ∷ ps) e (inr stops) is = ap (λ (x : Passed D). x.changed) stops.4 ∙ or_first changed stops.0 is

  module _ (socket offering : Socket) (says : Bool) (to : HardwareAddress) (p : PacketValue) (meta : Meta) where
    abbrev ours : Place
    ours = record { inner = Some (record { meta = meta; socket = socket }) }

    -- the packet can leave this host, which the socket offers it when it asks
    record Can (i : InnerValue) : Type 0 where
      leaves : CanTransmit i to p
      only : OffersOnly i socket says offering p

    still : (i j : InnerValue) → IsSameHost i j → Can i → Can j
    still i j same can = record { leaves = leave_still i j to p same can.leaves; only = only_still i j socket offering says p same can.only }

    -- of a pass: the packet went, or the device refused
    record Ends (i : InnerValue) (k : ℕ) (old : D) (e : Passed D) : Type 0 where
      all : List Move
      are : AreMoves moves all old e.sender.device
      what : (list_any is_refused all ≡ true) ⊎ WentBy i k offering to p all (if_changed e.changed) e.slots

    -- the turn itself, and what comes after it
    at_our_slot : (turn : Option IpAddress) (s mid : Sender D) (before : List Place) (changed b : Bool) (p' : Place) (ps : List Place) (k : ℕ) (e : Passed D)
        → OurEnds moves turn s mid offering to p (Turn.Next b) p'.inner → k ≡ length before
        → Pass moves turn mid (before ++ p' ∷ []) (changed || b) ps e → Ends s.inner k s.device e
    at_our_slot turn s mid before changed b p' ps k e took is goes =
        let rest : Moved moves mid.device e.sender.device = pass_through moves turn mid (before ++ p' ∷ []) (changed || b) ps e goes in
        record {
          all = took.all ++ rest.all;
          are = joined moves took.all rest.all s.device mid.device e.sender.device took.are rest.are;
          what = by took.all rest.all took.what;
        }
      where
        by : (xs ys : List Move) → (list_any is_refused xs ≡ true) ⊎ Ours moves turn s mid offering to p xs (Turn.Next b) p'.inner
            → (list_any is_refused (xs ++ ys) ≡ true) ⊎ WentBy s.inner k offering to p (xs ++ ys) (if_changed e.changed) e.slots
        by xs ys (inl refused) = inl (refused_before xs ys refused)
        by xs ys (inr went) =
            let tail = kept turn mid (before ++ p' ∷ []) (changed || b) ps e goes in
            let here : slice_get e.slots k ≡ Some p' =
            ap (λ (all : List Place). slice_get all k) (tail.1 ∙ append_assoc before (p' ∷ []) tail.0)
            ∙ ap (λ (n : ℕ). slice_get (before ++ p' ∷ tail.0) n) is ∙ stands_at before tail.0 p' in
            inr (record {
              sent = (
                s.inner.ident,
                sends_before (frame_under s.inner s.inner.ident to p) xs ys
                    (subst (λ (frame : List ℕ). Sends frame xs) (same_frame s.inner s.inner to p (same_where s.inner s.inner refl)) went.sent),
              );
              wide = λ small. small;
              formed = went.formed;
              stands = here ∙ ap (λ (o : Option (Item Socket)). Some (slot_with o)) went.stands;
              told = ap if_changed (said turn mid (before ++ p' ∷ []) (changed || b) ps e goes (or_true changed b (next_is b true went.next)));
            })

    stopped : (turn : Option IpAddress) (s mid : Sender D) (b : Bool) (p' : Place) (k : ℕ) (e : Passed D)
        → OurEnds moves turn s mid offering to p (Turn.Stop b) p'.inner → e.sender.device ≡ mid.device
        → Ends s.inner k s.device e
    stopped turn s mid b p' k e took is = record {
      all = took.all;
      are = subst (λ (x : D). AreMoves moves took.all s.device x) (sym is) took.are;
      what = by took.all took.what;
    }
      where
        by : (xs : List Move) → (list_any is_refused xs ≡ true) ⊎ Ours moves turn s mid offering to p xs (Turn.Stop b) p'.inner
            → (list_any is_refused xs ≡ true) ⊎ WentBy s.inner k offering to p xs (if_changed e.changed) e.slots
        by xs (inl refused) = inl refused
        by xs (inr went) = absurd (next_not b true went.next)

    -- what went of a later host went of this one
    as_before : (i j : InnerValue) (k : ℕ) (xs ys : List Move) (answer : Option Bool) (slots : List Place) → IsSameHost i j → (IsSmall i → IsSmall j)
        → (list_any is_refused ys ≡ true) ⊎ WentBy j k offering to p ys answer slots
        → (list_any is_refused (xs ++ ys) ≡ true) ⊎ WentBy i k offering to p (xs ++ ys) answer slots
    as_before i j k xs ys answer slots same small (inl refused) = inl (refused_following xs ys refused)
    as_before i j k xs ys answer slots same small (inr went) = inr (record {
      sent = (
        went.sent.0,
        sends_following (frame_under i went.sent.0 to p) xs ys
            (subst (λ (frame : List ℕ). Sends frame ys) (under_still i j went.sent.0 to p same) went.sent.1),
      );
      wide = λ before. went.wide (small before);
      formed = went.formed;
      stands = went.stands;
      told = went.told;
    })

    pass_goes : (turn : Option IpAddress) (s : Sender D) (before : List Place) (changed : Bool) (ps : List Place) (n k : ℕ) (e : Passed D)
        → slice_get ps n ≡ Some ours → k ≡ length before + n → Can s.inner → is_waiting s.inner meta ≡ false
        → Pass moves turn s before changed ps e → Ends s.inner k s.device e
    pass_goes turn s before changed [] n k e stands is can ready goes = absurd (let never : no_slot ≡ Some ours = stands in cc)
    pass_goes turn s before changed (q ∷ ps) zero k e stands is can ready (inl goes) =
        at_our_slot turn s goes.1 before changed goes.0 goes.2 ps k e
        (our_turn moves turn s goes.1 offering to p says can.leaves socket can.only meta goes.2 (Turn.Next goes.0) ready
        (subst (λ (slot : Place). ServesSlot moves turn s slot (Turn.Next goes.0) goes.1 goes.2)
        (let same : Some q ≡ Some ours = stands in let at : q ≡ ours = cc in at) goes.3))
        (is ∙ (let none : (m : ℕ) → m + 0 ≡ m = λ m. omega arith in none (length before))) goes.4
    pass_goes turn s before changed (q ∷ ps) zero k e stands is can ready (inr stops) =
        stopped turn s stops.1 stops.0 stops.2 k e
        (our_turn moves turn s stops.1 offering to p says can.leaves socket can.only meta stops.2 (Turn.Stop stops.0) ready
        (subst (λ (slot : Place). ServesSlot moves turn s slot (Turn.Stop stops.0) stops.1 stops.2)
        (let same : Some q ≡ Some ours = stands in let at : q ≡ ours = cc in at) stops.3))
        (ap (λ (x : Passed D). x.sender.device) stops.4)
    pass_goes turn s before changed (q ∷ ps) (suc n) k e stands is can ready (inl goes) =
        let took : Through moves (Next moves (Turn.Next goes.0)) s.device goes.1.device = slot_through moves turn s goes.1 q goes.2 (Turn.Next goes.0) goes.3 in
        let same : IsSameHost s.inner goes.1.inner = slot_same moves turn s goes.1 q goes.2 (Turn.Next goes.0) goes.3 in
        let rest : Ends goes.1.inner k goes.1.device e =
        pass_goes turn goes.1 (before ++ goes.2 ∷ []) (changed || goes.0) ps n k e stands (is ∙ one_more before goes.2 n)
        (still s.inner goes.1.inner same can) (waits_still s.inner goes.1.inner meta same ready) goes.4 in
        record {
          all = took.all ++ rest.all;
          are = joined moves took.all rest.all s.device goes.1.device e.sender.device took.are rest.are;
          what = as_before s.inner goes.1.inner k took.all rest.all (if_changed e.changed) e.slots same
              (slot_small moves turn s goes.1 q goes.2 (Turn.Next goes.0) goes.3) rest.what;
        }
      where
        one_more : (xs : List Place) (x : Place) (n : ℕ) → length xs + suc n ≡ length (xs ++ x ∷ []) + n
        one_more xs x n = let both = length-append xs (x ∷ []) in omega (arith, both)
    pass_goes turn s before changed (q ∷ ps) (suc n) k e stands is can ready (inr stops) =
        let took : Through moves (Next moves (Turn.Stop stops.0)) s.device stops.1.device =
        slot_through moves turn s stops.1 q stops.2 (Turn.Stop stops.0) stops.3 in
        record {
          all = took.all;
          are = subst (λ (x : D). AreMoves moves took.all s.device x) (sym (ap (λ (x : Passed D). x.sender.device) stops.4)) took.are;
          what = inl (refused stops.0 took.all took.what);
        }
      where
        refused : (b : Bool) (xs : List Move) → (list_any is_refused xs ≡ true) ⊎ ((c : Bool) × (Turn.Stop b ≡ Turn.Next c)) → list_any is_refused xs ≡ true
        refused b xs (inl is) = is
        refused b xs (inr next) = absurd (next_not b next.0 next.1)

    -- THE PIECE THAT WAITS, AND THEN THE SOCKETS

    egress_goes : (s : Sender D) (ps : List Place) (n : ℕ) (e : Passed D) → slice_get ps n ≡ Some ours → Can s.inner
        → is_waiting s.inner meta ≡ false → Egress moves s ps e → Ends s.inner n s.device e
    egress_goes s ps n e stands can ready (inl waits) =
        let no : Through moves (false ≡ true) s.device waits.0.device = clears_through moves s.inner.host_requirements s waits.0 false waits.1 in
        record {
          all = no.all;
          are = subst (λ (x : D). AreMoves moves no.all s.device x) (sym (ap (λ (x : Passed D). x.sender.device) waits.2)) no.are;
          what = by no.all no.what;
        }
      where
        by : (xs : List Move) → (list_any is_refused xs ≡ true) ⊎ (false ≡ true)
            → (list_any is_refused xs ≡ true) ⊎ WentBy s.inner n offering to p xs (if_changed e.changed) e.slots
        by xs (inl refused) = inl refused
        by xs (inr is) = absurd (let clash : false ≡ true = is in cc)
    egress_goes s ps n e stands can ready (inr goes) =
        let first : Through moves (true ≡ true) s.device goes.0.device = clears_through moves s.inner.host_requirements s goes.0 true goes.1 in
        let same : IsSameHost s.inner goes.0.inner = clears_all_same moves s goes.0 true goes.1 in
        let rest : Ends goes.0.inner n goes.0.device e =
        pass_goes (turn_of goes.0.inner ps) goes.0 [] false ps n n e stands (let none : (m : ℕ) → m ≡ 0 + m = λ m. omega arith in none n)
        (still s.inner goes.0.inner same can) (waits_still s.inner goes.0.inner meta same ready) goes.2 in
        record {
          all = first.all ++ rest.all;
          are = joined moves first.all rest.all s.device goes.0.device e.sender.device first.are rest.are;
          what = as_before s.inner goes.0.inner n first.all rest.all (if_changed e.changed) e.slots same
              (clears_all_small moves s.inner.host_requirements true s goes.0 goes.1) rest.what;
        }

  -- what a socket offers goes
  pub offer_goes : (t : ℤ) (s s' : State D) (answer : Option Bool) (n : ℕ) (socket offering : Socket) (says : Bool) (to : HardwareAddress)
      (p : PacketValue) → IsItsTurn (at_instant t s.host.inner) s.slots n socket → OffersOnly (at_instant t s.host.inner) socket says offering p
      → CanTransmit (at_instant t s.host.inner) to p → EgressStep moves t s answer s'
      → LeavesAtOnce moves (at_instant t s.host.inner) n offering to p s.device s'.device answer s'.slots
  offer_goes t s s' answer n socket offering says to p turn only can step =
      let through : Ends socket offering says to p turn.meta (at_instant t s.host.inner) n s.device step.0 =
      egress_goes socket offering says to p turn.meta (sending t s) s.slots n step.0 turn.stands (record { leaves = can; only = only }) turn.ready step.1 in
      record {
        all = through.all;
        are = subst (λ (x : D). AreMoves moves through.all s.device x) (sym (ap (λ (x : State D). x.device) step.2)) through.are;
        what = subst (λ (a : Option Bool). (list_any is_refused through.all ≡ true)
            ⊎ WentBy (at_instant t s.host.inner) n offering to p through.all a s'.slots)
            (sym step.3)
            (subst (λ (ps : List Place). (list_any is_refused through.all ≡ true)
            ⊎ WentBy (at_instant t s.host.inner) n offering to p through.all (if_changed step.0.changed) ps)
            (sym (ap (λ (x : State D). x.slots) step.2)) through.what);
      }

  -- and the first datagram of a UDP socket, which then has those after it
  pub step_goes : (t : ℤ) (s s' : State D) (answer : Option Bool) (n : ℕ) (v : UdpValue) (d : UdpMetadata × List ℕ) (more : List (UdpMetadata × List ℕ))
      (to : HardwareAddress) (p : PacketValue) → HasTurn (at_instant t s.host.inner) s.slots n v → contents v.queued ≡ d ∷ more
      → CanGo (at_instant t s.host.inner) v.settings d to p → EgressStep moves t s answer s'
      → GoesAtOnce moves (at_instant t s.host.inner) n v to p s.device s'.device answer s'.slots
  step_goes t s s' answer n v d more to p turn queued can step =
      let goes : LeavesAtOnce moves (at_instant t s.host.inner) n (offering_with p v) to p s.device s'.device answer s'.slots =
      offer_goes t s s' answer n (Kind.Udp v) (offering_with p v) false to p (record { meta = turn.meta; stands = turn.stands; ready = turn.ready })
      (offers_it (at_instant t s.host.inner) v d p can.takes more queued) (leaves (at_instant t s.host.inner) v.settings d to p can) step in
      record { all = goes.all; are = goes.are; what = by goes.all goes.what }
    where
      by : (xs : List Move) → (list_any is_refused xs ≡ true) ⊎ WentBy (at_instant t s.host.inner) n (offering_with p v) to p xs answer s'.slots
          → (list_any is_refused xs ≡ true) ⊎ WentFrom (at_instant t s.host.inner) n v to p xs answer s'.slots
      by xs (inl refused) = inl refused
      by xs (inr went) = inr (record {
        sent = went.sent;
        wide = went.wide;
        formed = went.formed;
        new = Datagrams.settled true (left_with (Some p) v);
        stands = went.stands;
        settings = refl;
        rest = contents-without_first (unpadded v.queued) ∙ ap (drop 1) (contents-unpadded v.queued);
        told = went.told;
      })
