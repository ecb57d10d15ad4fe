-- A poll: a frame goes or is refused, or something changes, or nothing is due any more.
use Rattle.std.proofs.Common.{◌≡◌, ℕ, zero, suc, ◌≤◌, Bool, true, false, ◌||◌, if◌then◌else◌, ◌⊎◌, inl, inr, ℤ, List, [], ◌∷◌, ◌++◌, Option, Some, None, refl, sym, ap}
use Rattle.std.proofs.Common.{◌∙◌, subst, arith}
use Rattle.net_base.specs.Device.{Move, Took, Empty}
use Rattle.iface_ingress.specs.Socket.{Socket}
use Rattle.iface_tables.specs.Inner.{InnerValue, at_instant}
use Rattle.iface_tables.specs.Parking.{ParkingValue}
use Rattle.iface_egress.specs.Fragments.{LeftValue}
use Rattle.iface_egress.specs.declared.socket_set.SocketStorage.{SocketStorage}
use Rattle.interface.specs.Egress.{EgressStep, sending, if_changed}
use Rattle.interface.specs.Ingress.{IngressStep}
use Rattle.interface.specs.Instant.{poll_instant}
use Rattle.interface.specs.Polls.{Repeats, Polls, begun}
use Rattle.interface.specs.QuietStep.{IsEarlier}
use Rattle.interface.specs.State.{State}
use Rattle.interface.proofs.SameHost.{egress_same_host}
use Rattle.proof_stack.specs.Progress.Moves.{AreMoves}
use Rattle.proof_stack.specs.Progress.OfUse.{Stirs, IsOfUse, IsDue, Acts, ActsOrDrops}
use Rattle.proof_stack.specs.Progress.Patience.{ArePatient}
use Rattle.proof_stack.proofs.Polls.Walks.{joined, stirs_following}
use Rattle.proof_stack.proofs.Polls.Passes.{CalmStep, StepEnds, egress_ends, calm_instant}

or_true : (a b : Bool) → a ≡ true → (a || b) ≡ true
or_true true b e = refl
or_true false b e = absurd (let clash : false ≡ true = e in cc)

or_other : (a b : Bool) → b ≡ true → (a || b) ≡ true
or_other true b e = refl
or_other false b e = e

clash : {X : Type 0} → true ≡ false → X
clash {X} e = absurd cc

-- what changed stays said
grows : {S : Type 0} (step : S → Option Bool → S → Type 0) (n : ℕ) (s s' : S) (c c' : Bool) → Repeats step n s c s' c' → c ≡ true → c' ≡ true
grows step zero s s' c c' steps is = steps.1 ∙ is
grows step (suc n) s s' c c' (inl ends) is = ends.1 ∙ is
grows step (suc n) s s' c c' (inr goes) is = grows step n goes.1 s' (c || goes.0) c' goes.3 (or_true c goes.0 is)

never_said : {S : Type 0} (step : S → Option Bool → S → Type 0) (n : ℕ) (s s' : S) (c : Bool) → Repeats step n s c s' false → c ≡ false
never_said step n s s' true steps = clash (sym (grows step n s s' true false steps refl))
never_said step n s s' false steps = refl

told_true : (b c : Bool) → Some b ≡ if_changed c → b ≡ true
told_true b true is = cc
told_true b false is = absurd (let never : Some b ≡ (let o : Option Bool = None in o) = is in cc)

told_none : (c : Bool) → None ≡ if_changed c → c ≡ false
told_none true is = absurd (let never : (let o : Option Bool = None in o) ≡ Some true = is in cc)
told_none false is = refl

module _ {D : Type 0} (moves : D → Move → D → Type 0) (t : ℤ) where
  -- THE WAY IN, of which no frame was read

  pub record InEnds (s s' : State D) : Type 0 where
    pub all : List Move
    pub are : AreMoves moves all s.device s'.device
    pub inner : at_instant t s'.host.inner ≡ at_instant t s.host.inner
    pub left : s'.host.left ≡ s.host.left
    pub slots : s'.slots ≡ s.slots

  in_ends : (n : ℕ) (s s' : State D) (c c' : Bool) → c' ≡ false → Repeats (IngressStep moves t) n s c s' c' → InEnds s s'
  in_ends zero s s' c c' none steps = record {
    all = [];
    are = ap (λ (x : State D). x.device) steps.0;
    inner = ap (λ (x : State D). at_instant t x.host.inner) steps.0;
    left = ap (λ (x : State D). x.host.left) steps.0;
    slots = ap (λ (x : State D). x.slots) steps.0;
  }
  in_ends (suc n) s s' c c' none (inl ends) = record {
    all = Empty t ∷ [];
    are = (s'.device, ends.0.0, refl);
    inner = ap (λ (x : State D). at_instant t x.host.inner) ends.0.1;
    left = ap (λ (x : State D). x.host.left) ends.0.1;
    slots = ap (λ (x : State D). x.slots) ends.0.1;
  }
  in_ends (suc n) s s' c c' none (inr goes) = by goes.0 goes.2 goes.3 (in_ends n goes.1 s' (c || goes.0) c' none goes.3) where
    by : (b : Bool) → IngressStep moves t s (Some b) goes.1 → Repeats (IngressStep moves t) n goes.1 (c || b) s' c' → InEnds goes.1 s' → InEnds s s'
    by true step rest more = clash (sym (grows (IngressStep moves t) n goes.1 s' (c || true) c' rest (or_other c true refl)) ∙ none)
    by false step rest more =
        record {
          all = Took t step.0 ∷ more.all;
          are = (goes.1.device, step.1, more.are);
          inner = more.inner ∙ ap (λ (x : State D). at_instant t x.host.inner) step.3;
          left = more.left ∙ ap (λ (x : State D). x.host.left) step.3;
          slots = more.slots ∙ ap (λ (x : State D). x.slots) step.3;
        }

  -- THE WAY OUT, in which nothing changed

  record CalmPoll (s s' : State D) : Type 0 where
    inner : s'.host.inner ≡ record (at_instant t s.host.inner) { parking = s'.host.inner.parking }
    left : s'.host.left ≡ s.host.left
    later : IsEarlier t (poll_instant s'.host.inner s'.host.left s'.slots)
    few : s.host.inner.host_requirements ≡ false → s'.host.inner.parking ≡ s.host.inner.parking

  record PollEnds (s s' : State D) : Type 0 where
    all : List Move
    are : AreMoves moves all s.device s'.device
    what : Stirs all ⊎ CalmPoll s s'

  step_ends : (s s' : State D) → ArePatient s.slots → EgressStep moves t s None s' → PollEnds s s'
  step_ends s s' patient step =
      let ends : StepEnds moves (sending t s) s.slots step.0 = egress_ends moves (sending t s) s.slots step.0 step.1 in
      record {
        all = ends.all;
        are = subst (λ (d : D). AreMoves moves ends.all s.device d) (sym (ap (λ (x : State D). x.device) step.2)) ends.are;
        what = both ends.all ends.what;
      }
    where
      calm_poll : s.host.left ≡ None → CalmStep moves (sending t s) step.0 → CalmPoll s s'
      calm_poll none calm = record {
        inner = subst (λ (x : State D). x.host.inner ≡ record (at_instant t s.host.inner) { parking = x.host.inner.parking }) (sym step.2) calm.inner;
        left = ap (λ (x : State D). x.host.left) step.2 ∙ calm.left ∙ sym none;
        later = subst (λ (x : State D). IsEarlier t (poll_instant x.host.inner x.host.left x.slots)) (sym step.2)
            (calm_instant moves (sending t s) step.0 calm);
        few = λ alone.
            ap (λ (x : State D). x.host.inner.parking) step.2
            ∙ ap (λ (i : InnerValue). i.parking) (egress_same_host moves (sending t s) s.slots step.0 step.1)
            ∙ ap (λ (many : Bool). if many then step.0.sender.inner.parking else s.host.inner.parking) alone;
      }

      both : (xs : List Move) → Stirs xs ⊎ ((s.host.left ≡ None) × (ArePatient s.slots → (step.0.changed ≡ true) ⊎ CalmStep moves (sending t s) step.0))
          → Stirs xs ⊎ CalmPoll s s'
      both xs (inl stirs) = inl stirs
      both xs (inr calm) = by (calm.1 patient) where
        by : (step.0.changed ≡ true) ⊎ CalmStep moves (sending t s) step.0 → Stirs xs ⊎ CalmPoll s s'
        by (inl is) = clash (sym is ∙ told_none step.0.changed step.3)
        by (inr rests) = inr (calm_poll calm.0 rests)

  out_ends : (n : ℕ) (s s' : State D) (c : Bool) → ArePatient s.slots → Repeats (EgressStep moves t) (suc n) s c s' false → PollEnds s s'
  out_ends n s s' c patient (inl ends) = step_ends s s' patient ends.0
  out_ends n s s' c patient (inr goes) =
      clash (sym (grows (EgressStep moves t) n goes.1 s' (c || goes.0) false goes.3
      (or_other c goes.0 (told_true goes.0 goes.2.0.changed goes.2.3))))

  poll_ends : (budget : ℕ) (s s' : State D) → 1 ≤ budget → ArePatient s.slots → Polls moves t budget s false s' → PollEnds s s'
  poll_ends zero s s' some patient polls = absurd (let none : 1 ≤ 0 = some in omega arith)
  poll_ends (suc n) s s' some patient polls =
      let mid : State D = polls.0 in
      let entry : InEnds (begun t s) mid =
      in_ends (suc n) (begun t s) mid false polls.1 (never_said (EgressStep moves t) (suc n) mid s' polls.1 polls.3) polls.2 in
      let exit : PollEnds mid s' =
      out_ends n mid s' polls.1 (subst (λ (ps : List (SocketStorage Socket)). ArePatient ps) (sym entry.slots) patient) polls.3 in
      record {
        all = entry.all ++ exit.all;
        are = joined moves entry.all exit.all s.device mid.device s'.device entry.are exit.are;
        what = both entry.all exit.all mid entry.inner entry.left exit.what;
      }
    where
      both : (xs ys : List Move) (mid : State D) → at_instant t mid.host.inner ≡ at_instant t s.host.inner → mid.host.left ≡ s.host.left
          → Stirs ys ⊎ CalmPoll mid s' → Stirs (xs ++ ys) ⊎ CalmPoll s s'
      both xs ys mid inner left (inl stirs) = inl (stirs_following xs ys stirs)
      both xs ys mid inner left (inr calm) = inr (record {
        inner = calm.inner ∙ ap (λ (i : InnerValue). record i { parking = s'.host.inner.parking }) inner;
        left = calm.left ∙ left;
        later = calm.later;
        few = λ alone. calm.few (ap (λ (i : InnerValue). i.host_requirements) inner ∙ alone) ∙ ap (λ (i : InnerValue). i.parking) inner;
      })

  pub of_use : (budget : ℕ) (s s' : State D) → 1 ≤ budget → ArePatient s.slots → Polls moves t budget s false s'
      → IsOfUse moves t s.device s'.device (poll_instant s'.host.inner s'.host.left s'.slots)
  of_use budget s s' some patient polls =
      let ends : PollEnds s s' = poll_ends budget s s' some patient polls in
      record { all = ends.all; are = ends.are; why = by ends.all ends.what }
    where
      by : (xs : List Move) → Stirs xs ⊎ CalmPoll s s' → Stirs xs ⊎ IsEarlier t (poll_instant s'.host.inner s'.host.left s'.slots)
      by xs (inl stirs) = inl stirs
      by xs (inr calm) = inr calm.later

  -- WHAT IS DUE IS DONE: something goes, or a socket changes, or a packet that waited is dropped

  module _ (s s' : State D) (due : IsDue t (poll_instant (at_instant t s.host.inner) s.host.left s.slots)) (calm : CalmPoll s s') where
    never : s'.slots ≡ s.slots → s'.host.inner.parking ≡ s.host.inner.parking → ⊥
    never same parking =
        let inner : s'.host.inner ≡ at_instant t s.host.inner =
        calm.inner ∙ ap (λ (k : ParkingValue). record (at_instant t s.host.inner) { parking = k }) parking in
        due (subst (λ (ps : List (SocketStorage Socket)). IsEarlier t (poll_instant (at_instant t s.host.inner) s.host.left ps)) same
        (subst (λ (l : Option LeftValue). IsEarlier t (poll_instant (at_instant t s.host.inner) l s'.slots)) calm.left
        (subst (λ (i : InnerValue). IsEarlier t (poll_instant i s'.host.left s'.slots)) inner calm.later)))

  pub acts_or_drops : (budget : ℕ) (s s' : State D) → 1 ≤ budget → ArePatient s.slots
      → IsDue t (poll_instant (at_instant t s.host.inner) s.host.left s.slots) → Polls moves t budget s false s' → ActsOrDrops moves s s'
  acts_or_drops budget s s' some patient due polls =
      let ends : PollEnds s s' = poll_ends budget s s' some patient polls in
      record { all = ends.all; are = ends.are; what = by ends.all ends.what }
    where
      by : (xs : List Move) → Stirs xs ⊎ CalmPoll s s' → Stirs xs ⊎ (s'.slots ≡ s.slots → s'.host.inner.parking ≡ s.host.inner.parking → ⊥)
      by xs (inl stirs) = inl stirs
      by xs (inr calm) = inr (never s s' due calm)

  -- without host requirements none waits so
  pub acts : (budget : ℕ) (s s' : State D) → s.host.inner.host_requirements ≡ false → 1 ≤ budget → ArePatient s.slots
      → IsDue t (poll_instant (at_instant t s.host.inner) s.host.left s.slots) → Polls moves t budget s false s'
      → Acts moves s.device s'.device s.slots s'.slots
  acts budget s s' alone some patient due polls =
      let ends : PollEnds s s' = poll_ends budget s s' some patient polls in
      record { all = ends.all; are = ends.are; what = by ends.all ends.what }
    where
      by : (xs : List Move) → Stirs xs ⊎ CalmPoll s s' → Stirs xs ⊎ (s'.slots ≡ s.slots → ⊥)
      by xs (inl stirs) = inl stirs
      by xs (inr calm) = inr (λ same. never s s' due calm same (calm.few alone))
