-- A poll that comes to a frame which waits among others.
use Rattle.std.proofs.Common.{◌≡◌, ℕ, zero, suc, ◌<◌, Bool, true, false, ◌&&◌, ◌||◌, inl, inr, ℤ, List, [], ◌∷◌, ◌++◌, length, Option, Some, None}
use Rattle.std.proofs.Common.{is_some, refl, sym, ap, ◌∙◌, subst, arith}
use Rattle.net_base.specs.Device.{Move, Took, Emitted, Denied}
use Rattle.iface_ingress.specs.Arrives as Replies
use Rattle.iface_ingress.specs.Arrives.{ReplyValue, Arrived}
use Rattle.iface_ingress.specs.Packet.{PacketValue}
use Rattle.iface_tables.specs.Inner.{InnerValue}
use Rattle.iface_egress.specs.Departure as Departures
use Rattle.iface_egress.specs.Departure.{Departure}
use Rattle.iface_egress.specs.Fragments.{LeftValue, departure_from}
use Rattle.iface_egress.specs.IsTransmitted.{Asked, Departs, IsTransmitted, WasCut, WasSent, cut_of, frame_of, frame_len_of, numbered}
use Rattle.iface_egress.specs.declared.plan.Plan.{Plan}
use Rattle.iface_egress.specs.declared.plan.Plan.TheVariants as Way
use Rattle.iface_egress.specs.declared.frame.NeighborQuery.{NeighborQuery}
use Rattle.iface_egress.specs.declared.egress_path.Sent.{Sent}
use Rattle.iface_egress.specs.declared.egress_path.Sent.TheVariants as Outcome
use Rattle.iface_egress.specs.Plan.{plan_of}
use Rattle.ip_wire.specs.IpRepr.{IpRepr}
use Rattle.interface.specs.Egress.{EgressStep}
use Rattle.interface.specs.Host.{Sender, maintained}
use Rattle.interface.specs.Ingress.{AnswerGoes, IngressStep, Replied, is_awaited, is_read, sender_of, sender_with, would_solicit}
use Rattle.interface.specs.Polls.{Repeats}
use Rattle.interface.specs.State.{State, state, at_device}
use Rattle.interface.proofs.Keep.{in_step_keeps, out_step_keeps}
use Rattle.interface.proofs.Kept.{IsKept, RunsAt}
use Rattle.proof_stack.specs.Progress.Moves.{is_transmitted}

-- these frames wait at the device
abbrev pub Waits : {E : Type 0} → (E → List (List ℕ)) → E → List (List ℕ) → Type 0
Waits {E} frames_at device frames = frames_at device ≡ frames

-- A look finds the first of the frames that wait, and takes that alone; and what is transmitted leaves them.
pub record IsInOrder {E : Type 0} (moves : E → Move → E → Type 0) (frames_at : E → List (List ℕ)) : Type 0 where
  pub first : (old new : E) (t : ℤ) (frame other : List ℕ) (more : List (List ℕ)) → frames_at old ≡ frame ∷ more → moves old (Took t other) new
      → (other ≡ frame) × (frames_at new ≡ more)
  pub out : (old new : E) (m : Move) → is_transmitted m ≡ true → moves old m new → frames_at new ≡ frames_at old

below_none : (n : ℕ) → n < 0 → ⊥
below_none n is = absurd (omega arith)

clash : {X : Type 0} → true ≡ false → X
clash {X} e = absurd cc

-- WHAT A POLL KEEPS

module _ {E : Type 0} (moves : E → Move → E → Type 0) (u : ℤ) (P : State E → Type 0) (kept : IsKept moves u P) where
  -- it holds, while the call runs
  abbrev pub Runs : State E → Type 0
  Runs s = P s × RunsAt u s.host.inner

  pub one_in : (s s' : State E) (answer : Option Bool) → Runs s → IngressStep moves u s answer s' → Runs s'
  one_in s s' answer runs step = in_step_keeps moves u P kept s s' answer runs.0 step

  pub ins : (n : ℕ) (s s' : State E) (c c' : Bool) → Runs s → Repeats (IngressStep moves u) n s c s' c' → Runs s'
  ins zero s s' c c' runs steps = subst Runs (sym steps.0) runs
  ins (suc n) s s' c c' runs (inl ends) = one_in s s' None runs ends.0
  ins (suc n) s s' c c' runs (inr goes) = ins n goes.1 s' (c || goes.0) c' (one_in s goes.1 (Some goes.0) runs goes.2) goes.3

  pub outs : (n : ℕ) (s s' : State E) (c c' : Bool) → Runs s → Repeats (EgressStep moves u) n s c s' c' → Runs s'
  outs zero s s' c c' runs steps = subst Runs (sym steps.0) runs
  outs (suc n) s s' c c' runs (inl ends) = out_step_keeps moves u P kept s s' None runs ends.0
  outs (suc n) s s' c c' runs (inr goes) =
      outs n goes.1 s' (c || goes.0) c' (out_step_keeps moves u P kept s goes.1 (Some goes.0) runs goes.2) goes.3

module _ {E : Type 0} (moves : E → Move → E → Type 0) (frames_at : E → List (List ℕ)) (order : IsInOrder moves frames_at) where
  -- WHAT GOES OUT LEAVES WHAT WAITS

  module _ (old new : E) (frames : List (List ℕ)) (wait : Waits frames_at old frames) where
    here : new ≡ old → Waits frames_at new frames
    here is = subst (λ (d : E). Waits frames_at d frames) (sym is) wait

    departs : (i : InnerValue) (d : Departure) (gone : Bool) → Departs moves old i d gone new → Waits frames_at new frames
    departs i d true goes = order.out old new (Emitted (frame_of i d)) refl goes.0 ∙ wait
    departs i d false goes = order.out old new (Denied (frame_len_of i d)) refl goes ∙ wait

    asked : (i i' : InnerValue) (q : NeighborQuery) (sent : Sent) → Asked moves old i q sent new i' → Waits frames_at new frames
    asked i i' q Outcome.Waits goes = departs i (Departures.Asks q) true goes.0
    asked i i' q Outcome.Refused goes = departs i (Departures.Asks q) false goes.0
    asked i i' q Outcome.Gone goes = absurd goes
    asked i i' q Outcome.Dropped goes = absurd goes
    asked i i' q Outcome.Busy goes = absurd goes

    went : (i i' : InnerValue) (h : IpRepr) (d : Departure) (sent : Sent) → WasSent moves old i h d sent new i' → Waits frames_at new frames
    went i i' h d Outcome.Gone goes = departs i d true goes.0
    went i i' h d Outcome.Refused goes = departs i d false goes.0
    went i i' h d Outcome.Waits goes = absurd goes
    went i i' h d Outcome.Dropped goes = absurd goes
    went i i' h d Outcome.Busy goes = absurd goes

    was_cut : (i i' : InnerValue) (l l' : Option LeftValue) (c : LeftValue) (sent : Sent) → WasCut moves old i l c sent new i' l' → Waits frames_at new frames
    was_cut i i' l l' c Outcome.Gone goes = departs i (departure_from i c) true goes.0
    was_cut i i' l l' c Outcome.Refused goes = departs i (departure_from i c) false goes.0
    was_cut i i' l l' c Outcome.Waits goes = absurd goes
    was_cut i i' l l' c Outcome.Dropped goes = absurd goes
    was_cut i i' l l' c Outcome.Busy goes = absurd goes

    out : (i i' : InnerValue) (l l' : Option LeftValue) (p : PacketValue) (plan : Plan) (sent : Sent) → IsTransmitted moves old i l p plan sent new i' l'
        → Waits frames_at new frames
    out i i' l l' p Way.Drop sent goes = here goes.1.0
    out i i' l l' p Way.NoRoute sent goes = here goes.1.0
    out i i' l l' p Way.Wait sent goes = here goes.1.0
    out i i' l l' p Way.Busy sent goes = here goes.1.0
    out i i' l l' p (Way.Ask q) sent goes = asked i i' q sent goes.0
    out i i' l l' p (Way.Go to) sent goes = went i i' p.header (Departures.Whole to (numbered i p)) sent goes.0
    out i i' l l' p (Way.Cut to) sent goes = was_cut i i' l l' (cut_of i to p) sent goes

  answered : (many : Bool) (p : PacketValue) (kept_back : Bool) (x x' : Sender E) (frames : List (List ℕ)) → AnswerGoes moves many p kept_back x x'
      → Waits frames_at x.device frames → Waits frames_at x'.device frames
  answered false p kept_back x x' frames goes wait =
      out x.device x'.device frames wait x.inner x'.inner x.left x'.left p (plan_of x.inner (is_some x.left) p.header) goes.0 goes.1
  answered true p kept_back x x' frames goes wait =
      subst (λ (y : Sender E). Waits frames_at y.device frames) (sym goes.3)
      (out x.device goes.1.device frames wait x.inner goes.1.inner x.left goes.1.left p (plan_of x.inner (is_some x.left) p.header) goes.0 goes.2)

  replied : (awaited : Bool) (reply : Option ReplyValue) (x x' : Sender E) (frames : List (List ℕ)) → Replied moves awaited reply x x'
      → Waits frames_at x.device frames → Waits frames_at x'.device frames
  replied awaited None x x' frames goes wait = subst (λ (y : Sender E). Waits frames_at y.device frames) (sym goes) wait
  replied awaited (Some (Replies.Tells packet)) x x' frames goes wait =
      departs x.device x'.device frames wait x.inner (Departures.Tells packet) goes.0 goes.1
  replied awaited (Some (Replies.Answers p)) x x' frames (inl rests) wait = subst (λ (y : Sender E). Waits frames_at y.device frames) (sym rests.0) wait
  replied awaited (Some (Replies.Answers p)) x x' frames (inr goes) wait =
      answered x.inner.host_requirements p (awaited && would_solicit x p) x x' frames goes wait

  -- A STEP OF THE WAY IN TAKES THE FIRST

  module _ (u : ℤ) where
    pub takes : (s s' : State E) (b : Bool) (frame : List ℕ) (more : List (List ℕ)) → Waits frames_at s.device (frame ∷ more) → IngressStep moves u s (Some b) s'
        → Waits frames_at s'.device more
    takes s s' false frame more wait step = (order.first s.device s'.device u frame step.0 more wait step.1).1
    takes s s' true frame more wait step =
        let rest : Waits frames_at step.1 more = (order.first s.device step.1 u frame step.0 more wait step.2).1 in
        let before : State E = at_device (state s.device (maintained u s.host) s.slots) step.1 in
        let receives = step.4.2 in
        let a : Arrived = receives.0 in
        replied (is_awaited a) a.reply (sender_with moves before a) (sender_of moves s') more receives.3 rest

    -- a frame that isn't too long is read
    pub is_true : (s s' : State E) (b : Bool) (frame : List ℕ) (more : List (List ℕ)) → Waits frames_at s.device (frame ∷ more) → is_read frame ≡ true
        → IngressStep moves u s (Some b) s' → b ≡ true
    is_true s s' true frame more wait short step = refl
    is_true s s' false frame more wait short step =
        clash (sym short ∙ ap is_read (sym (order.first s.device s'.device u frame step.0 more wait step.1).0) ∙ step.2)

    -- THE POLL COMES TO THE FRAME. What holds of a state and of the frames that wait before this one is kept by reading one of them.

    module _ (P : State E → Type 0) (kept : IsKept moves u P) (Holds : List (List ℕ) → State E → Type 0)
        (keeps : (f : List ℕ) (before more : List (List ℕ)) (s s' : State E) (b : Bool) → Waits frames_at s.device (f ∷ more) → Holds (f ∷ before) s
        → IngressStep moves u s (Some b) s' → Holds before s') where
      pub record Comes (frame : List ℕ) (more : List (List ℕ)) (mid : State E) : Type 0 where
        pub x : State E
        pub x' : State E
        pub left : ℕ
        pub c : Bool
        pub c' : Bool
        pub runs : Runs moves u P kept x
        pub holds : Holds [] x
        pub wait : Waits frames_at x.device (frame ∷ more)
        pub reads : IngressStep moves u x (Some true) x'
        pub rest : Repeats (IngressStep moves u) left x' c mid c'

      -- the ingress path doesn't end where a frame waits
      abbrev pub Proceeds : State E → Type 0
      Proceeds mid = (s : State E) (frame : List ℕ) (more : List (List ℕ)) → Waits frames_at s.device (frame ∷ more) → IngressStep moves u s None mid → ⊥

      pub comes : (n : ℕ) (before : List (List ℕ)) (s mid : State E) (c c' : Bool) (frame : List ℕ) (more : List (List ℕ)) → is_read frame ≡ true
          → Proceeds mid → Waits frames_at s.device (before ++ frame ∷ more) → length before < n → Runs moves u P kept s → Holds before s
          → Repeats (IngressStep moves u) n s c mid c' → Comes frame more mid
      comes zero before s mid c c' frame more short on wait few runs holds steps = absurd (below_none (length before) few)
      comes (suc n) [] s mid c c' frame more short on wait few runs holds (inl ends) = absurd (on s frame more wait ends.0)
      comes (suc n) [] s mid c c' frame more short on wait few runs holds (inr goes) = record {
        x = s;
        x' = goes.1;
        left = n;
        c = c || goes.0;
        c' = c';
        runs = runs;
        holds = holds;
        wait = wait;
        reads = subst (λ (b : Bool). IngressStep moves u s (Some b) goes.1) (is_true s goes.1 goes.0 frame more wait short goes.2) goes.2;
        rest = goes.3;
      }
      comes (suc n) (f ∷ before) s mid c c' frame more short on wait few runs holds (inl ends) = absurd (on s f (before ++ frame ∷ more) wait ends.0)
      comes (suc n) (f ∷ before) s mid c c' frame more short on wait few runs holds (inr goes) =
          comes n before goes.1 mid (c || goes.0) c' frame more short on (takes s goes.1 goes.0 f (before ++ frame ∷ more) wait goes.2)
          (omega (arith, few)) (one_in moves u P kept s goes.1 (Some goes.0) runs goes.2)
          (keeps f before (before ++ frame ∷ more) s goes.1 goes.0 wait holds goes.2) goes.3
