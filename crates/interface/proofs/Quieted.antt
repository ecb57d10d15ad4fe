-- A poll that comes too early does nothing.
use Rattle.std.proofs.Common.{◌≡◌, ℕ, zero, suc, ℤ, Bool, true, false, ◌⊎◌, inl, inr, if◌then◌else◌, List, [], ◌∷◌, Option, Some, None, refl, sym, ap, ◌∙◌}
use Rattle.std.proofs.Common.{subst}
use Rattle.net_base.specs.Device.{Move, Empty}
use Rattle.iface_tables.specs.declared.key.FragKey.{FragKey}
use Rattle.iface_tables.specs.Inner.{InnerValue, at_instant}
use Rattle.iface_tables.specs.Reassembly.{AssemblerValue, freed}
use Rattle.iface_tables.specs.Assemblers.{is_expired, unless_expired, without_expired}
use Rattle.interface.specs.Host.{HostValue, Sender, host_at, maintained}
use Rattle.interface.specs.Instant.{poll_instant}
use Rattle.interface.specs.QuietStep.{IsEarly}
use Rattle.interface.proofs.QuietTurn.{DueAsBefore}
use Rattle.interface.proofs.QuietPass.{quiet_egress}
use Rattle.interface.specs.State.{State, state, at_device}
use Rattle.interface.specs.Egress.{EgressStep, sending, following, if_changed}
use Rattle.interface.specs.Ingress.{Takes, IngressStep}
use Rattle.interface.specs.Polls.{Repeats, Polls, begun}
use Rattle.interface.specs.QuietPoll.{HasNoFrame, IsQuietPoll}
use Rattle.interface.specs.OwnWork.{HasBegun}

-- SLOTS: those that were freed aren't freed again

freed_once : (t : ℤ) (s : AssemblerValue FragKey) → unless_expired t (unless_expired t s) ≡ unless_expired t s
freed_once t s = by (is_expired t s) refl where
  by : (test : Bool) → is_expired t s ≡ test → unless_expired t (if test then freed s else s) ≡ (if test then freed s else s)
  by true is = refl
  by false is = ap (λ (b : Bool). if b then freed s else s) is

freed_all : (t : ℤ) (assemblers : List (AssemblerValue FragKey)) → without_expired (without_expired assemblers t) t ≡ without_expired assemblers t
freed_all t [] = refl
freed_all t (s ∷ assemblers) =
    ap (λ (x : AssemblerValue FragKey). x ∷ without_expired (without_expired assemblers t) t) (freed_once t s) ∙
    ap (λ (xs : List (AssemblerValue FragKey)). unless_expired t s ∷ xs) (freed_all t assemblers)

pub maintained_once : (t : ℤ) (h : HostValue) → maintained t (maintained t h) ≡ maintained t h
maintained_once t h = ap (λ (assemblers : List (AssemblerValue FragKey)). record (maintained t h) { assemblers = assemblers }) (freed_all t h.assemblers)

some_false : (b : Bool) → Some b ≡ if_changed false → ⊥
some_false b is = cc

module _ {D : Type 0} (moves : D → Move → D → Type 0) (t : ℤ) where
  -- THE WAY IN

  abbrev Looks : State D → State D → Type 0
  Looks s s' = ((s'.device ≡ s.device) ⊎ moves s.device (Empty t) s'.device) × (s' ≡ at_device s s'.device)

  took_none : (s mid : State D) (b : Bool) → HasNoFrame moves s.host.inner.instant s.device → Takes moves s (Some b) mid → ⊥
  took_none s mid true none takes = none takes.0 takes.1 takes.2
  took_none s mid false none takes = none takes.0 mid.device takes.1

  quiet_in : (n : ℕ) (s s' : State D) (c c' : Bool) → s.host ≡ maintained t s.host → HasNoFrame moves t s.device → Repeats (IngressStep moves t) n s c s' c'
      → Looks s s' × (c' ≡ c)
  quiet_in zero s s' c c' kept none steps =
      ((inl (ap (λ (x : State D). x.device) steps.0), steps.0 ∙ ap (at_device s) (sym (ap (λ (x : State D). x.device) steps.0))), steps.1)
  quiet_in (suc n) s s' c c' kept none (inl ends) =
      ((inr ends.0.0, ends.0.1 ∙ ap (λ (h : HostValue). state s'.device h s.slots) (sym kept)), ends.1)
  quiet_in (suc n) s s' c c' kept none (inr goes) = absurd (took_none (begun t s) goes.1 goes.0 none goes.2)

  -- THE WAY OUT

  module _ (due : DueAsBefore) (asked : InnerValue) (last : ℤ) where
    record IsStill (s : State D) (answer : Option Bool) (s' : State D) : Type 0 where
      silent : answer ≡ None
      same : s' ≡ state s.device (host_at t s.host) s'.slots
      due_instant : poll_instant asked s.host.left s'.slots ≡ poll_instant asked s.host.left s.slots

    quiet_step : (s s' : State D) (answer : Option Bool) → s.host.inner ≡ at_instant last asked → IsEarly asked s.host.left s.slots t →
        EgressStep moves t s answer s' → IsStill s answer s'
    quiet_step s s' answer is early step =
        let here : at_instant t s.host.inner ≡ at_instant t asked = ap (at_instant t) is in
        let quiet = quiet_egress due moves asked t early.instant early.since early.routes (sending t s) here s.slots step.0 early.before step.1 in
        let following_is : following s.host step.0 ≡ state s.device (host_at t s.host) step.0.slots =
        ap (λ (x : Sender D). state x.device (record s.host { inner = x.inner; left = x.left }) step.0.slots) quiet.sender in
        let slots : s'.slots ≡ step.0.slots = ap (λ (x : State D). x.slots) step.2 in
        record {
          silent = step.3 ∙ ap if_changed quiet.changed;
          same = step.2 ∙ following_is ∙ ap (state s.device (host_at t s.host)) (sym slots);
          due_instant = ap (poll_instant asked s.host.left) slots ∙ quiet.due_instant;
        }

    quiet_out : (n : ℕ) (s s' : State D) (c c' : Bool) → host_at t s.host ≡ s.host → s.host.inner ≡ at_instant last asked →
        IsEarly asked s.host.left s.slots t → Repeats (EgressStep moves t) n s c s' c'
        → (s' ≡ state s.device s.host s'.slots) × (poll_instant asked s.host.left s'.slots ≡ poll_instant asked s.host.left s.slots) × (c' ≡ c)
    quiet_out zero s s' c c' kept is early steps =
        let slots = ap (λ (x : State D). x.slots) steps.0 in
        (steps.0 ∙ ap (state s.device s.host) (sym slots), ap (poll_instant asked s.host.left) slots, steps.1)
    quiet_out (suc n) s s' c c' kept is early (inl ends) =
        let still = quiet_step s s' None is early ends.0 in
        (still.same ∙ ap (λ (h : HostValue). state s.device h s'.slots) kept, still.due_instant, ends.1)
    quiet_out (suc n) s s' c c' kept is early (inr goes) =
        absurd (some_false goes.0 ((quiet_step s goes.1 (Some goes.0) is early goes.2).silent))

pub quiet_poll : (due : DueAsBefore) {D : Type 0} (moves : D → Move → D →
    Type 0) (t : ℤ) (asked : InnerValue) (last : ℤ) (budget : ℕ) (s s' : State D) (changed : Bool)
    → s.host.inner ≡ at_instant last asked → IsEarly asked s.host.left s.slots t → HasNoFrame moves t s.device → Polls moves t budget s changed s'
    → IsQuietPoll moves asked t s changed s'
quiet_poll due {D} moves t asked last budget s s' changed is early none polls =
    let entry = quiet_in moves t budget (begun t s) polls.0 false polls.1 (sym (maintained_once t s.host)) none polls.2 in
    let mid : polls.0 ≡ state polls.0.device (maintained t s.host) s.slots = entry.0.1 in
    let steps : Repeats (EgressStep moves t) budget (state polls.0.device (maintained t s.host) s.slots) polls.1 s' changed =
    subst (λ (x : State D). Repeats (EgressStep moves t) budget x polls.1 s' changed) mid polls.3 in
    let exit = quiet_out moves t due asked t budget (state polls.0.device (maintained t s.host) s.slots) s' polls.1 changed refl (ap (at_instant t) is)
    early steps in
    record {
      device = subst (λ (d : D). (d ≡ s.device) ⊎ moves s.device (Empty t) d) (sym (ap (λ (x : State D). x.device) exit.0)) entry.0.0;
      changed_none = exit.2 ∙ entry.1;
      host = ap (λ (x : State D). x.host) exit.0;
      due_instant = exit.1;
    }

-- the same of a whole poll, where nothing was done before it
pub quiet_host : (due : DueAsBefore) {D : Type 0} (moves : D → Move → D → Type 0) (t : ℤ) (asked : InnerValue) (last : ℤ) (budget : ℕ) (s : State D)
    (device : D) (h : HostValue) (s' : State D) (changed : Bool)
    → device ≡ s.device → HasBegun t s.host h → s.host.inner ≡ at_instant last asked → IsEarly asked s.host.left s.slots t → HasNoFrame moves t s.device
    → Polls moves t budget (state device h s.slots) changed s' → IsQuietPoll moves asked t s changed s'
quiet_host due {D} moves t asked last budget s device h s' changed same begun is early none polls =
    by begun (subst (λ (d : D). Polls moves t budget (state d h s.slots) changed s') same polls)
  where
    by : HasBegun t s.host h → Polls moves t budget (state s.device h s.slots) changed s' → IsQuietPoll moves asked t s changed s'
    by (inl still) polls =
        quiet_poll due moves t asked last budget s s' changed is early none
        (subst (λ (x : HostValue). Polls moves t budget (state s.device x s.slots) changed s') still polls)
    by (inr now) polls =
        let quiet = quiet_poll due moves t asked t budget (state s.device (host_at t s.host) s.slots) s' changed (ap (at_instant t) is) early none
        (subst (λ (x : HostValue). Polls moves t budget (state s.device x s.slots) changed s') now polls) in
        record { device = quiet.device; changed_none = quiet.changed_none; host = quiet.host; due_instant = quiet.due_instant }
