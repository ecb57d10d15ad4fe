-- What maintenance, arrivals, fragments and turns keep is kept by a poll.
use Rattle.std.proofs.Common.{◌≡◌, ℕ, zero, suc, ℤ, Bool, true, false, ◌||◌, inl, inr, List, [], ◌∷◌, ◌++◌, Option, Some, None, refl, sym, ◌∙◌, subst, append_assoc}
use Rattle.std.proofs.Common.{append-nil}
use Rattle.net_base.specs.Device.{Move}
use Rattle.ip_wire.specs.IpAddress.{IpAddress}
use Rattle.iface_ingress.specs.Socket.{Socket}
use Rattle.iface_tables.specs.Inner.{InnerValue}
use Rattle.iface_egress.specs.declared.socket_set.SocketStorage.{SocketStorage}
use Rattle.iface_egress.specs.Fragments.{LeftValue}
use Rattle.interface.specs.Awaited.{turn_of}
use Rattle.interface.specs.Host.{HostValue, Sender, sender}
use Rattle.interface.specs.Pass.{Pass, Passed}
use Rattle.interface.specs.EgressPath.{Clears, ClearsIf, Egress}
use Rattle.interface.specs.declared.serve.Served.TheVariants as Turn
use Rattle.interface.specs.State.{State}
use Rattle.interface.specs.Egress.{EgressStep, following}
use Rattle.interface.specs.Ingress.{IngressStep}
use Rattle.interface.specs.Polls.{Repeats, Polls, begun}
use Rattle.interface.proofs.Kept.{RunsAt, IsKept}
use Rattle.interface.specs.State.{sending_as}
use Rattle.interface.proofs.Runs.{runs_out, runs_so, runs_where, takes_runs, turn_runs}
use Rattle.interface.proofs.SameHost.{flag_cleared, serves_same}

module _ {D : Type 0} (moves : D → Move → D → Type 0) (t : ℤ) (P : State D → Type 0) (kept : IsKept moves t P) where
  -- it holds, while the call runs
  abbrev Holds : State D → Type 0
  Holds s = P s × RunsAt t s.host.inner

  -- THE WAY OUT

  module _ (h : HostValue) where
    pass_keeps : (turn : Option IpAddress) (ps before : List (SocketStorage Socket)) (x : Sender D) (changed : Bool) (e : Passed D) →
        Holds (sending_as h x (before ++ ps)) → Pass moves turn x before changed ps e → Holds (following h e)
    pass_keeps turn [] before x changed e holds ends =
        subst (λ (y : Passed D). Holds (following h y)) (sym ends)
        (subst (λ (qs : List (SocketStorage Socket)). Holds (sending_as h x qs)) (append-nil before) holds)
    pass_keeps turn (p ∷ ps) before x changed e holds (inl goes) =
        let next : P (sending_as h goes.1 (before ++ goes.2 ∷ ps)) = kept.turns turn h before ps p goes.2 x goes.1 (Turn.Next goes.0) holds.1 holds.0 goes.3 in
        let runs = turn_runs moves t turn x goes.1 p goes.2 (Turn.Next goes.0) goes.3 holds.1 in
        pass_keeps turn ps (before ++ goes.2 ∷ []) goes.1 (changed || goes.0) e
        (subst (λ (qs : List (SocketStorage Socket)). P (sending_as h goes.1 qs)) (sym (append_assoc before (goes.2 ∷ []) ps)) next, runs) goes.4
    pass_keeps turn (p ∷ ps) before x changed e holds (inr stops) =
        let next : P (sending_as h stops.1 (before ++ stops.2 ∷ ps)) =
        kept.turns turn h before ps p stops.2 x stops.1 (Turn.Stop stops.0) holds.1 holds.0 stops.3 in
        subst (λ (y : Passed D). Holds (following h y)) (sym stops.4) (next, turn_runs moves t turn x stops.1 p stops.2 (Turn.Stop stops.0) stops.3 holds.1)

    clears_keeps : (ps : List (SocketStorage Socket)) (x x' : Sender D) (l : Option LeftValue) (clear : Bool) → x.left ≡ l → Holds (sending_as h x ps) →
        Clears moves l x clear x' → Holds (sending_as h x' ps)
    clears_keeps ps x x' None clear is holds clears = subst (λ (y : Sender D). Holds (sending_as h y ps)) (sym clears.1) holds
    clears_keeps ps x x' (Some l) clear is holds clears =
        (kept.fragments h ps x x' l clear holds.1 is holds.0 clears.0 clears.1, runs_where t x.inner x'.inner clears.1 holds.1)

    clears_all_keep : (many : Bool) (ps : List (SocketStorage Socket)) (x x' : Sender D) (clear : Bool) → x.inner.host_requirements ≡ many →
        Holds (sending_as h x ps) → ClearsIf moves many x clear x' → Holds (sending_as h x' ps)
    clears_all_keep false ps x x' clear is holds clears = clears_keeps ps x x' x.left clear refl holds clears
    clears_all_keep true ps x x' clear is holds (inl stays) = clears_keeps ps x x' x.left false refl holds stays.0
    clears_all_keep true ps x x' clear is holds (inr serves) =
        let mid : Sender D = serves.0 in
        let now = clears_keeps ps x mid x.left true refl holds serves.1 in
        let many : mid.inner.host_requirements ≡ true = flag_cleared moves x mid x.left true serves.1 ∙ is in
        (kept.parked h ps mid x' clear now.1 many now.0 serves.2, runs_out t mid.inner x'.inner (serves_same moves mid x' clear many serves.2) now.1)

    egress_keeps : (x : Sender D) (ps : List (SocketStorage Socket)) (e : Passed D) → Holds (sending_as h x ps) → Egress moves x ps e → Holds (following h e)
    egress_keeps x ps e holds (inl stays) =
        subst (λ (y : Passed D). Holds (following h y)) (sym stays.2) (clears_all_keep x.inner.host_requirements ps x stays.0 false refl holds stays.1)
    egress_keeps x ps e holds (inr goes) =
        pass_keeps (turn_of goes.0.inner ps) ps [] goes.0 false e (clears_all_keep x.inner.host_requirements ps x goes.0 true refl holds goes.1) goes.2

  pub out_step_keeps : (s s' : State D) (answer : Option Bool) → Holds s → EgressStep moves t s answer s' → Holds s'
  out_step_keeps s s' answer holds step =
      let goes : Egress moves (sender s.device s.host.inner s.host.left) s.slots step.0 =
      subst (λ (i : InnerValue). Egress moves (sender s.device i s.host.left) s.slots step.0) (runs_so t s.host.inner holds.1) step.1 in
      subst Holds (sym step.2) (egress_keeps s.host (sender s.device s.host.inner s.host.left) s.slots step.0 holds goes)

  -- THE WAY IN

  pub in_step_keeps : (s s' : State D) (answer : Option Bool) → P s → IngressStep moves t s answer s' → Holds s'
  in_step_keeps s s' answer holds step =
      (kept.arrivals (begun t s) s' answer (refl, refl) (kept.maintenance s holds) step, takes_runs moves t (begun t s) s' answer step (refl, refl))

  -- STEPS

  module _ (step : State D → Option Bool → State D → Type 0) (keeps : (s s' : State D) (answer : Option Bool) → Holds s → step s answer s' → Holds s') where
    repeats_keep : (n : ℕ) (s s' : State D) (c c' : Bool) → Holds s → Repeats step n s c s' c' → Holds s'
    repeats_keep zero s s' c c' holds steps = subst Holds (sym steps.0) holds
    repeats_keep (suc n) s s' c c' holds (inl ends) = keeps s s' None holds ends.0
    repeats_keep (suc n) s s' c c' holds (inr goes) = repeats_keep n goes.1 s' (c || goes.0) c' (keeps s goes.1 (Some goes.0) holds goes.2) goes.3

  pub polls_keep : (budget : ℕ) (s s' : State D) (changed : Bool) → P s → Polls moves t budget s changed s' → P s' × RunsAt t s'.host.inner
  polls_keep budget s s' changed holds polls =
      repeats_keep (EgressStep moves t) out_step_keeps budget polls.0 s' polls.1 changed
      (repeats_keep (IngressStep moves t) (λ a b answer h step. in_step_keeps a b answer h.0 step) budget (begun t s) polls.0 false polls.1
      (kept.maintenance s holds, (refl, refl)) polls.2) polls.3
