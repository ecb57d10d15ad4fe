-- A poll that says that nothing changed.
use Rattle.std.proofs.Common.{◌≡◌, ℕ, zero, suc, ℤ, Bool, true, false, ◌||◌, inl, inr, List, Some, None, refl, sym, ap, ◌∙◌, subst}
use Rattle.net_base.specs.Device.{Move}
use Rattle.iface_ingress.specs.Socket.{Socket}
use Rattle.iface_egress.specs.declared.socket_set.SocketStorage.{SocketStorage}
use Rattle.interface.specs.QuietStep.{AreUnchanged}
use Rattle.interface.proofs.StepUnchanged.{egress_same, unchanged_slots}
use Rattle.interface.specs.State.{State, at_device}
use Rattle.interface.specs.Egress.{EgressStep, sending, if_changed}
use Rattle.interface.specs.Ingress.{IngressStep}
use Rattle.interface.specs.Polls.{Repeats, Polls, begun}

neither : (a b : Bool) → (a || b) ≡ false → (a ≡ false) × (b ≡ false)
neither true b off = absurd (cc)
neither false b off = (refl, off)

said_none : (b : Bool) → None ≡ if_changed b → b ≡ false
said_none true is = absurd (cc)
said_none false is = refl

never_false : (b : Bool) → Some false ≡ if_changed b → ⊥
never_false true is = cc
never_false false is = cc

slots_at : {D : Type 0} (s s' : State D) → s' ≡ at_device s s'.device → s'.slots ≡ s.slots
slots_at {D} s s' is = ap (λ (x : State D). x.slots) is

module _ {D : Type 0} (moves : D → Move → D → Type 0) (t : ℤ) where
  pub none_same : (s s' : State D) → IngressStep moves t s None s' → s'.slots ≡ s.slots
  none_same s s' step = slots_at (begun t s) s' step.1

  pub processed_same : (s s' : State D) → IngressStep moves t s (Some false) s' → s'.slots ≡ s.slots
  processed_same s s' step = slots_at (begun t s) s' step.3

  in_same : (n : ℕ) (s s' : State D) (c c' : Bool) → Repeats (IngressStep moves t) n s c s' c' → c' ≡ false → (s'.slots ≡ s.slots) × (c ≡ false)
  in_same zero s s' c c' steps off = (ap (λ (x : State D). x.slots) steps.0, sym steps.1 ∙ off)
  in_same (suc n) s s' c c' (inl ends) off = (none_same s s' ends.0, sym ends.1 ∙ off)
  in_same (suc n) s s' c c' (inr goes) off =
      let rest = in_same n goes.1 s' (c || goes.0) c' goes.3 off in
      let flags = neither c goes.0 rest.1 in
      (rest.0 ∙ processed_same s goes.1 (subst (λ (b : Bool). IngressStep moves t s (Some b) goes.1) flags.1 goes.2), flags.0)

  step_same : (s s' : State D) → EgressStep moves t s None s' → AreUnchanged s.slots s'.slots
  step_same s s' step =
      subst (λ (xs : List (SocketStorage Socket)). AreUnchanged s.slots xs) (sym (ap (λ (x : State D). x.slots) step.2))
      (egress_same moves (sending t s) s.slots step.0 step.1 (said_none step.0.changed step.3))

  out_same : (n : ℕ) (s s' : State D) (c c' : Bool) → Repeats (EgressStep moves t) n s c s' c' → c' ≡ false → AreUnchanged s.slots s'.slots × (c ≡ false)
  out_same zero s s' c c' steps off =
      (subst (λ (x : State D). AreUnchanged s.slots x.slots) (sym steps.0) (unchanged_slots s.slots), sym steps.1 ∙ off)
  out_same (suc n) s s' c c' (inl ends) off = (step_same s s' ends.0, sym ends.1 ∙ off)
  out_same (suc n) s s' c c' (inr goes) off =
      let flags = neither c goes.0 (out_same n goes.1 s' (c || goes.0) c' goes.3 off).1 in
      absurd (never_false goes.2.0.changed (sym (ap (λ (b : Bool). Some b) flags.1) ∙ goes.2.3))

  pub poll_same : (budget : ℕ) (s s' : State D) (changed : Bool) → Polls moves t budget s changed s' → changed ≡ false → AreUnchanged s.slots s'.slots
  poll_same budget s s' changed polls off =
      let exit = out_same budget polls.0 s' polls.1 changed polls.3 off in
      let entry = in_same budget (begun t s) polls.0 false polls.1 polls.2 exit.1 in
      subst (λ (xs : List (SocketStorage Socket)). AreUnchanged xs s'.slots) entry.0 exit.0
