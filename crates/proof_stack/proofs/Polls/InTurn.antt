-- A poll in which what a socket offers goes, and a datagram that is queued after others.
use Rattle.std.proofs.Common.{◌≡◌, ℕ, zero, suc, ◌<◌, Bool, true, false, ◌||◌, ◌⊎◌, inl, inr, ℤ, List, [], ◌∷◌, ◌++◌, length, drop, Option, Some, None}
use Rattle.std.proofs.Common.{refl, sym, ap, ◌∙◌}
use Rattle.std.proofs.Common.{subst, arith}
use Rattle.std.specs.Prelude.{slice_get}
use Rattle.std.specs.List.{list_any, AllByRecursion}
use Rattle.net_base.specs.Device.{Move, Empty}
use Rattle.net_base.specs.Packets.{contents}
use Rattle.ip_wire.specs.HardwareAddress.{HardwareAddress}
use Rattle.socket_datagram.specs.Udp.{UdpValue, UdpSettings}
use Rattle.socket_datagram.specs.declared.udp.UdpMetadata.{UdpMetadata}
use Rattle.iface_ingress.specs.Packet.{PacketValue}
use Rattle.iface_ingress.specs.Socket.{Socket}
use Rattle.iface_ingress.specs.Socket.TheVariants as Kind
use Rattle.iface_tables.specs.Inner.{InnerValue, at_instant}
use Rattle.iface_egress.specs.declared.socket_set.SocketStorage.{SocketStorage}
use Rattle.interface.specs.Egress.{EgressStep, sending}
use Rattle.interface.specs.Ingress.{IngressStep}
use Rattle.interface.specs.Polls.{Repeats, Polls, begun}
use Rattle.interface.specs.QuietPoll.{HasNoFrame}
use Rattle.interface.specs.SameHost.{IsSameHost}
use Rattle.interface.specs.State.{State}
use Rattle.interface.specs.Serve.{is_waiting}
use Rattle.interface.proofs.SameHost.{same_where, egress_same_host}
use Rattle.proof_stack.specs.Progress.Moves.{AreMoves, is_refused}
use Rattle.proof_stack.specs.Progress.Queued.{CanGo, HasWay, HasTurn, WentFrom, WentOut, GoesAtOnce, GoesInTurn, frame_under, Sends}
use Rattle.proof_stack.proofs.Polls.Walks.{joined, refused_before, refused_following, sends_before, sends_following}
use Rattle.proof_stack.specs.Progress.Segments.{CanTransmit, IsItsTurn, LeavesAtOnce, WentBy}
use Rattle.proof_stack.proofs.Polls.AnyLeave.{OffersOnly}
use Rattle.proof_stack.proofs.Polls.OurLeave.{offering_with, offers_it}
use Rattle.proof_stack.proofs.Polls.Ways.{can_still, leaves, under_still}
use Rattle.proof_stack.proofs.Polls.AnyTurn.{Moved, egress_through}
use Rattle.proof_stack.proofs.Polls.Polled.{InEnds}
use Rattle.proof_stack.proofs.Polls.Goes.{offer_goes, step_goes}
use Rattle.proof_stack.proofs.Polls.Numbers.{IsSmall, step_small}

abbrev Queued : Type 0
Queued = UdpMetadata × List ℕ

none_told : (b : Bool) → (let o : Option Bool = None in o) ≡ Some b → ⊥
none_told b is = cc

below_none : (n : ℕ) → n < 0 → ⊥
below_none n is = absurd (omega arith)

module _ {D : Type 0} (moves : D → Move → D → Type 0) (t : ℤ) where
  -- THE WAY IN

  alone : (n : ℕ) (s s' : State D) (c c' : Bool) → HasNoFrame moves t s.device → Repeats (IngressStep moves t) n s c s' c' → InEnds moves t s s'
  alone zero s s' c c' none steps = record {
    all = [];
    are = ap (λ (x : State D). x.device) steps.0;
    inner = ap (λ (x : State D). at_instant t x.host.inner) steps.0;
    left = ap (λ (x : State D). x.host.left) steps.0;
    slots = ap (λ (x : State D). x.slots) steps.0;
  }
  alone (suc n) s s' c c' none (inl ends) = record {
    all = Empty t ∷ [];
    are = (s'.device, ends.0.0, refl);
    inner = ap (λ (x : State D). at_instant t x.host.inner) ends.0.1;
    left = ap (λ (x : State D). x.host.left) ends.0.1;
    slots = ap (λ (x : State D). x.slots) ends.0.1;
  }
  alone (suc n) s s' c c' none (inr goes) = absurd (took goes.0 goes.2) where
    took : (b : Bool) → IngressStep moves t s (Some b) goes.1 → ⊥
    took true step = none step.0 step.1 step.2
    took false step = none step.0 goes.1.device step.1

  -- THE WAY OUT

  record Walk (old new : D) : Type 0 where
    all : List Move
    are : AreMoves moves all old new

  step_walk : (s s' : State D) (answer : Option Bool) → EgressStep moves t s answer s' → Walk s.device s'.device
  step_walk s s' answer step =
      let ends : Moved moves s.device step.0.sender.device = egress_through moves (sending t s) s.slots step.0 step.1 in
      record { all = ends.all; are = subst (λ (d : D). AreMoves moves ends.all s.device d) (sym (ap (λ (x : State D). x.device) step.2)) ends.are }

  steps_walk : (n : ℕ) (s s' : State D) (c c' : Bool) → Repeats (EgressStep moves t) n s c s' c' → Walk s.device s'.device
  steps_walk zero s s' c c' steps = record { all = []; are = ap (λ (x : State D). x.device) steps.0 }
  steps_walk (suc n) s s' c c' (inl ends) = step_walk s s' None ends.0
  steps_walk (suc n) s s' c c' (inr goes) =
      let one : Walk s.device goes.1.device = step_walk s goes.1 (Some goes.0) goes.2 in
      let more : Walk goes.1.device s'.device = steps_walk n goes.1 s' (c || goes.0) c' goes.3 in
      record { all = one.all ++ more.all; are = joined moves one.all more.all s.device goes.1.device s'.device one.are more.are }

  -- the host after a step, at the same time
  following_same : (s s' : State D) (answer : Option Bool) → EgressStep moves t s answer s' → IsSameHost (at_instant t s.host.inner) (at_instant t s'.host.inner)
  following_same s s' answer step =
      let same : IsSameHost (at_instant t s.host.inner) step.0.sender.inner = egress_same_host moves (sending t s) s.slots step.0 step.1 in
      let is : s'.host.inner ≡ step.0.sender.inner = ap (λ (x : State D). x.host.inner) step.2 in
      subst (λ (i : InnerValue). IsSameHost (at_instant t s.host.inner) (at_instant t i)) (sym is) (ap (at_instant t) same)

  ways_still : (i j : InnerValue) (settings : UdpSettings) (ds : List Queued) → IsSameHost i j → AllByRecursion (HasWay i settings) ds
      → AllByRecursion (HasWay j settings) ds
  ways_still i j settings [] same ways = tt
  ways_still i j settings (d ∷ ds) same ways =
      ((ways.0.0, ways.0.1, can_still i j settings d ways.0.0 ways.0.1 same ways.0.2), ways_still i j settings ds same ways.1)

  abbrev Gone : InnerValue → HardwareAddress → PacketValue → List Move → Type 0
  Gone i to p all = (list_any is_refused all ≡ true) ⊎ WentOut i to p all

  gone_before : (i : InnerValue) (to : HardwareAddress) (p : PacketValue) (xs ys : List Move) → Gone i to p xs → Gone i to p (xs ++ ys)
  gone_before i to p xs ys (inl refused) = inl (refused_before xs ys refused)
  gone_before i to p xs ys (inr went) = inr (record {
    sent = (went.sent.0, sends_before (frame_under i went.sent.0 to p) xs ys went.sent.1);
    wide = went.wide;
    formed = went.formed;
  })

  gone_following : (i j : InnerValue) (to : HardwareAddress) (p : PacketValue) (xs ys : List Move) → IsSameHost i j → (IsSmall i → IsSmall j) → Gone j to p ys
      → Gone i to p (xs ++ ys)
  gone_following i j to p xs ys same small (inl refused) = inl (refused_following xs ys refused)
  gone_following i j to p xs ys same small (inr went) = inr (record {
    sent = (
      went.sent.0,
      sends_following (frame_under i went.sent.0 to p) xs ys
          (subst (λ (frame : List ℕ). Sends frame ys) (under_still i j went.sent.0 to p same) went.sent.1),
    );
    wide = λ before. went.wide (small before);
    formed = went.formed;
  })

  following_small : (s s' : State D) (answer : Option Bool) → EgressStep moves t s answer s' → IsSmall (at_instant t s.host.inner)
      → IsSmall (at_instant t s'.host.inner)
  following_small s s' answer step small =
      subst (λ (x : State D). IsSmall (at_instant t x.host.inner)) (sym step.2) (step_small moves (sending t s) s.slots step.0 step.1 small)

  module _ (n : ℕ) (to : HardwareAddress) (p : PacketValue) where
    abbrev Out : State D → State D → Type 0
    Out s s' = GoesInTurn moves (at_instant t s.host.inner) to p s.device s'.device

    -- what a socket offers goes now
    pub now_goes : (m : ℕ) (s s' : State D) (c c' : Bool) (socket offering : Socket) (says : Bool) → IsItsTurn (at_instant t s.host.inner) s.slots n socket
        → OffersOnly (at_instant t s.host.inner) socket says offering p → CanTransmit (at_instant t s.host.inner) to p
        → Repeats (EgressStep moves t) (suc m) s c s' c' → Out s s'
    now_goes m s s' c c' socket offering says turn only can (inl ends) =
        let one : LeavesAtOnce moves (at_instant t s.host.inner) n offering to p s.device s'.device None s'.slots =
        offer_goes moves t s s' None n socket offering says to p turn only can ends.0 in
        record { all = one.all; are = one.are; what = by one.all one.what }
      where
        by : (xs : List Move) → (list_any is_refused xs ≡ true) ⊎ WentBy (at_instant t s.host.inner) n offering to p xs None s'.slots
            → Gone (at_instant t s.host.inner) to p xs
        by xs (inl refused) = inl refused
        by xs (inr went) = absurd (none_told true went.told)
    now_goes m s s' c c' socket offering says turn only can (inr goes) =
        let one : LeavesAtOnce moves (at_instant t s.host.inner) n offering to p s.device goes.1.device (Some goes.0) goes.1.slots =
        offer_goes moves t s goes.1 (Some goes.0) n socket offering says to p turn only can goes.2 in
        let rest : Walk goes.1.device s'.device = steps_walk m goes.1 s' (c || goes.0) c' goes.3 in
        record {
          all = one.all ++ rest.all;
          are = joined moves one.all rest.all s.device goes.1.device s'.device one.are rest.are;
          what = gone_before (at_instant t s.host.inner) to p one.all rest.all (by one.all goes.0 goes.1.slots one.what);
        }
      where
        by : (xs : List Move) (b : Bool) (slots : List (SocketStorage Socket)) → (list_any is_refused xs ≡ true)
            ⊎ WentBy (at_instant t s.host.inner) n offering to p xs (Some b) slots → Gone (at_instant t s.host.inner) to p xs
        by xs b slots (inl refused) = inl refused
        by xs b slots (inr went) = inr (record { sent = went.sent; wide = went.wide; formed = went.formed })

    -- in a poll that finds no frame
    pub turn_goes : (budget : ℕ) (s s' : State D) (changed : Bool) (socket offering : Socket) (says : Bool)
        → IsItsTurn (at_instant t s.host.inner) s.slots n socket → OffersOnly (at_instant t s.host.inner) socket says offering p
        → CanTransmit (at_instant t s.host.inner) to p → HasNoFrame moves t s.device → Polls moves t (suc budget) s changed s' → Out s s'
    turn_goes budget s s' changed socket offering says turn only can none polls =
        let mid : State D = polls.0 in
        let entry : InEnds moves t (begun t s) mid = alone (suc budget) (begun t s) mid false polls.1 none polls.2 in
        let here : at_instant t s.host.inner ≡ at_instant t mid.host.inner = sym entry.inner in
        let exit : Out mid s' =
        now_goes budget mid s' polls.1 changed socket offering says
        (record {
          meta = turn.meta;
          stands = ap (λ (ps : List (SocketStorage Socket)). slice_get ps n) entry.slots ∙ turn.stands;
          ready = subst (λ (i : InnerValue). is_waiting i turn.meta ≡ false) here turn.ready;
        })
        (subst (λ (i : InnerValue). OffersOnly i socket says offering p) here only)
        (subst (λ (i : InnerValue). CanTransmit i to p) here can) polls.3 in
        record {
          all = entry.all ++ exit.all;
          are = joined moves entry.all exit.all s.device mid.device s'.device entry.are exit.are;
          what = gone_following (at_instant t s.host.inner) (at_instant t mid.host.inner) to p entry.all exit.all
              (same_where (at_instant t s.host.inner) (at_instant t mid.host.inner) (sym here)) (λ small. subst IsSmall here small) exit.what;
        }

  module _ (n : ℕ) (d : Queued) (more : List Queued) (to : HardwareAddress) (p : PacketValue) where
    -- after the one that goes now
    out_goes : (budget : ℕ) (before : List Queued) (s s' : State D) (c c' : Bool) (v : UdpValue) → HasTurn (at_instant t s.host.inner) s.slots n v
        → contents v.queued ≡ before ++ d ∷ more → length before < budget → AllByRecursion (HasWay (at_instant t s.host.inner) v.settings) before
        → CanGo (at_instant t s.host.inner) v.settings d to p → Repeats (EgressStep moves t) budget s c s' c' → Out n to p s s'
    out_goes zero before s s' c c' v turn queued short ways can steps = absurd (below_none (length before) short)
    out_goes (suc m) [] s s' c c' v turn queued short ways can steps =
        now_goes n to p m s s' c c' (Kind.Udp v) (offering_with p v) false (record { meta = turn.meta; stands = turn.stands; ready = turn.ready })
        (offers_it (at_instant t s.host.inner) v d p can.takes more queued) (leaves (at_instant t s.host.inner) v.settings d to p can) steps
    out_goes (suc m) (b ∷ before) s s' c c' v turn queued short ways can (inl ends) =
        let one : GoesAtOnce moves (at_instant t s.host.inner) n v ways.0.0 ways.0.1 s.device s'.device None s'.slots =
        step_goes moves t s s' None n v b (before ++ d ∷ more) ways.0.0 ways.0.1 turn queued ways.0.2 ends.0 in
        record { all = one.all; are = one.are; what = by one.all one.what }
      where
        by : (xs : List Move) → (list_any is_refused xs ≡ true) ⊎ WentFrom (at_instant t s.host.inner) n v ways.0.0 ways.0.1 xs None s'.slots
            → Gone (at_instant t s.host.inner) to p xs
        by xs (inl refused) = inl refused
        by xs (inr went) = absurd (none_told true went.told)
    out_goes (suc m) (b ∷ before) s s' c c' v turn queued short ways can (inr goes) =
        let one : GoesAtOnce moves (at_instant t s.host.inner) n v ways.0.0 ways.0.1 s.device goes.1.device (Some goes.0) goes.1.slots =
        step_goes moves t s goes.1 (Some goes.0) n v b (before ++ d ∷ more) ways.0.0 ways.0.1 turn queued ways.0.2 goes.2 in
        by one.all one.are one.what
        (λ (went : WentFrom (at_instant t s.host.inner) n v ways.0.0 ways.0.1 one.all (Some goes.0) goes.1.slots).
        let same : IsSameHost (at_instant t s.host.inner) (at_instant t goes.1.host.inner) = following_same s goes.1 (Some goes.0) goes.2 in
        let settings : UdpSettings = v.settings in
        out_goes m before goes.1 s' (c || goes.0) c' went.new
        (record { meta = record { waiting = None }; stands = went.stands; ready = refl })
        (went.rest ∙ ap (drop 1) queued)
        (omega (arith, short))
        (subst (λ (it : UdpSettings). AllByRecursion (HasWay (at_instant t goes.1.host.inner) it) before) (sym went.settings)
        (ways_still (at_instant t s.host.inner) (at_instant t goes.1.host.inner) settings before same ways.1))
        (subst (λ (it : UdpSettings). CanGo (at_instant t goes.1.host.inner) it d to p) (sym went.settings)
        (can_still (at_instant t s.host.inner) (at_instant t goes.1.host.inner) settings d to p same can))
        goes.3)
      where
        by : (xs : List Move) → AreMoves moves xs s.device goes.1.device
            → (list_any is_refused xs ≡ true) ⊎ WentFrom (at_instant t s.host.inner) n v ways.0.0 ways.0.1 xs (Some goes.0) goes.1.slots
            → (WentFrom (at_instant t s.host.inner) n v ways.0.0 ways.0.1 xs (Some goes.0) goes.1.slots → Out n to p goes.1 s') → Out n to p s s'
        by xs are (inl refused) then_on =
            let rest : Walk goes.1.device s'.device = steps_walk m goes.1 s' (c || goes.0) c' goes.3 in
            record {
              all = xs ++ rest.all;
              are = joined moves xs rest.all s.device goes.1.device s'.device are rest.are;
              what = inl (refused_before xs rest.all refused);
            }
        by xs are (inr went) then_on =
            let rest : Out n to p goes.1 s' = then_on went in
            record {
              all = xs ++ rest.all;
              are = joined moves xs rest.all s.device goes.1.device s'.device are rest.are;
              what = gone_following (at_instant t s.host.inner) (at_instant t goes.1.host.inner) to p xs rest.all
                  (following_same s goes.1 (Some goes.0) goes.2) (following_small s goes.1 (Some goes.0) goes.2) rest.what;
            }

  pub poll_goes : (budget : ℕ) (s s' : State D) (changed : Bool) (n : ℕ) (v : UdpValue) (before : List Queued) (d : Queued) (more : List Queued)
      (to : HardwareAddress) (p : PacketValue) → HasTurn (at_instant t s.host.inner) s.slots n v → contents v.queued ≡ before ++ d ∷ more
      → length before < budget → AllByRecursion (HasWay (at_instant t s.host.inner) v.settings) before → CanGo (at_instant t s.host.inner) v.settings d to p
      → HasNoFrame moves t s.device → Polls moves t budget s changed s' → GoesInTurn moves (at_instant t s.host.inner) to p s.device s'.device
  poll_goes budget s s' changed n v before d more to p turn queued short ways can none polls =
      let mid : State D = polls.0 in
      let entry : InEnds moves t (begun t s) mid = alone budget (begun t s) mid false polls.1 none polls.2 in
      let here : at_instant t s.host.inner ≡ at_instant t mid.host.inner = sym entry.inner in
      let exit : GoesInTurn moves (at_instant t mid.host.inner) to p mid.device s'.device =
      out_goes n d more to p budget before mid s' polls.1 changed v
      (record {
        meta = turn.meta;
        stands = ap (λ (ps : List (SocketStorage Socket)). slice_get ps n) entry.slots ∙ turn.stands;
        ready = subst (λ (i : InnerValue). is_waiting i turn.meta ≡ false) here turn.ready;
      })
      queued short
      (subst (λ (i : InnerValue). AllByRecursion (HasWay i v.settings) before) here ways)
      (subst (λ (i : InnerValue). CanGo i v.settings d to p) here can)
      polls.3 in
      record {
        all = entry.all ++ exit.all;
        are = joined moves entry.all exit.all s.device mid.device s'.device entry.are exit.are;
        what = gone_following (at_instant t s.host.inner) (at_instant t mid.host.inner) to p entry.all exit.all
            (same_where (at_instant t s.host.inner) (at_instant t mid.host.inner) (sym here)) (λ small. subst IsSmall here small) exit.what;
      }
