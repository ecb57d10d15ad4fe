-- While the silence after a question lasts a step of the egress path asks for nobody.
use Rattle.std.proofs.Common.{◌≡◌, Bool, true, false, ◌||◌, inl, inr, ℤ, int_lt, List, [], ◌∷◌, ◌++◌, Option, sym, ap, ◌∙◌, subst}
use Rattle.net_base.specs.Device.{Move}
use Rattle.ip_wire.specs.IpAddress.{IpAddress}
use Rattle.iface_ingress.specs.Socket.{Socket}
use Rattle.iface_tables.specs.Inner.{InnerValue}
use Rattle.iface_tables.specs.Neighbor.{CacheValue}
use Rattle.iface_egress.specs.declared.socket_set.SocketStorage.{SocketStorage}
use Rattle.interface.specs.Awaited.{turn_of}
use Rattle.interface.specs.Egress.{EgressStep, sending}
use Rattle.interface.specs.Host.{Sender}
use Rattle.interface.specs.Pass.{Passed}
use Rattle.interface.specs.SameHost.{IsSameHost}
use Rattle.interface.specs.State.{State}
use Rattle.interface.specs.declared.serve.Served.{Served}
use Rattle.interface.specs.declared.serve.Served.TheVariants as Turn
use Rattle.interface.proofs.SameHost.{same_flag}
use Rattle.proof_stack.proofs.Polls.Known.{KeepsOrAsks, slot_leaves}
use Rattle.proof_stack.proofs.Polls.Passes.{clears_same}
use Rattle.proof_stack.proofs.Parkless.{Egress, Pass, ServesSlot, egress_alone, slot_same}

abbrev Place : Type 0
Place = SocketStorage Socket

-- in this host the silence lasts
abbrev pub IsSilent : InnerValue → Type 0
IsSilent i = int_lt i.instant i.neighbors.silent ≡ true

module _ {D : Type 0} (moves : D → Move → D → Type 0) (turn : Option IpAddress) where
  module _ (s s' : Sender D) (alone : s.inner.host_requirements ≡ false) (silent : IsSilent s.inner) where
    pub slot_keeps : (p p' : Place) (turned : Served) → ServesSlot moves turn s p turned s' p' → s'.inner.neighbors ≡ s.inner.neighbors
    slot_keeps p p' turned turns = by (slot_leaves moves turn s s' alone p p' turned turns) where
      by : KeepsOrAsks s.inner s'.inner.neighbors → s'.inner.neighbors ≡ s.inner.neighbors
      by (inl keeps) = keeps
      by (inr asks) = absurd (let clash : true ≡ false = sym silent ∙ asks.1 in cc)

  -- the silence lasts in the next turn
  pub still_silent : (i j : InnerValue) → IsSameHost i j → j.neighbors ≡ i.neighbors → IsSilent i → IsSilent j
  still_silent i j same kept silent =
      ap (λ (m : ℤ). int_lt m j.neighbors.silent) (ap (λ (x : InnerValue). x.instant) same)
      ∙ ap (λ (m : ℤ). int_lt i.instant m) (ap (λ (c : CacheValue). c.silent) kept) ∙ silent

  pass_keeps : (ps : List Place) (s : Sender D) (before : List Place) (changed : Bool) (e : Passed D) → s.inner.host_requirements ≡ false → IsSilent s.inner
      → Pass moves turn s before changed ps e → e.sender.inner.neighbors ≡ s.inner.neighbors
  pass_keeps [] s before changed e alone silent ends = ap (λ (x : Passed D). x.sender.inner.neighbors) ends
  pass_keeps (p ∷ ps) s before changed e alone silent (inl goes) =
      let kept : goes.1.inner.neighbors ≡ s.inner.neighbors = slot_keeps s goes.1 alone silent p goes.2 (Turn.Next goes.0) goes.3 in
      let same : IsSameHost s.inner goes.1.inner = slot_same moves turn s goes.1 p goes.2 (Turn.Next goes.0) goes.3 in
      pass_keeps ps goes.1 (before ++ goes.2 ∷ []) (changed || goes.0) e (same_flag s.inner goes.1.inner same ∙ alone)
      (still_silent s.inner goes.1.inner same kept silent) goes.4
      ∙ kept
  pass_keeps (p ∷ ps) s before changed e alone silent (inr stops) =
      ap (λ (x : Passed D). x.sender.inner.neighbors) stops.4 ∙ slot_keeps s stops.1 alone silent p stops.2 (Turn.Stop stops.0) stops.3

module _ {D : Type 0} (moves : D → Move → D → Type 0) where
  egress_keeps : (s : Sender D) (ps : List Place) (e : Passed D) → s.inner.host_requirements ≡ false → IsSilent s.inner → Egress moves s ps e → e.sender.inner.neighbors ≡ s.inner.neighbors
  egress_keeps s ps e alone silent (inl rests) =
      ap (λ (x : Passed D). x.sender.inner.neighbors) rests.2
      ∙ ap (λ (i : InnerValue). i.neighbors) (clears_same moves s.left s rests.0 false rests.1)
  egress_keeps s ps e alone silent (inr goes) =
      let same : goes.0.inner ≡ s.inner = clears_same moves s.left s goes.0 true goes.1 in
      pass_keeps moves (turn_of goes.0.inner ps) ps goes.0 [] false e (ap (λ (i : InnerValue). i.host_requirements) same ∙ alone) (subst (λ (i : InnerValue). IsSilent i) (sym same) silent) goes.2
      ∙ ap (λ (i : InnerValue). i.neighbors) same

  pub silence_keeps : (t : ℤ) (s s' : State D) (answer : Option Bool) → s.host.inner.host_requirements ≡ false
      → int_lt t s.host.inner.neighbors.silent ≡ true → EgressStep moves t s answer s'
      → s'.host.inner.neighbors ≡ s.host.inner.neighbors
  silence_keeps t s s' answer alone silent step =
      ap (λ (x : State D). x.host.inner.neighbors) step.2 ∙ egress_keeps (sending t s) s.slots step.0 alone silent (egress_alone moves (sending t s) s.slots step.0 alone step.1)
