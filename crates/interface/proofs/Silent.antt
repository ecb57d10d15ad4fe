-- A host without host requirements that tells nothing of multicast groups does nothing of its own, and stays one.
use Rattle.std.proofs.Common.{◌≡◌, ℕ, ℤ, Bool, true, false, List, Option, Some, None, refl, ap, ◌∙◌, subst, sym}
use Rattle.net_base.specs.Device.{Move}
use Rattle.iface_reports.specs.Reports.{ReportsValue}
use Rattle.interface.specs.BlackHoles.{checked}
use Rattle.interface.specs.Ingress.{Takes}
use Rattle.interface.specs.OwnWork.{OwnWork, TellsIf, ChecksPathsIf}
use Rattle.interface.specs.Polls.{Polls, HostPolls}
use Rattle.interface.specs.Reports.{heard_if}
use Rattle.interface.specs.State.{State, state}
use Rattle.interface.proofs.Keep.{polls_keep}
use Rattle.interface.proofs.Kept.{IsKept}

module _ {D : Type 0} (moves : D → Move → D → Type 0) (t : ℤ) where
  tells_none : (reports : Option ReportsValue) (s s' : State D) → reports ≡ None → TellsIf moves t reports s s' → s' ≡ s
  tells_none None s s' none tells = tells
  tells_none (Some r) s s' none tells = absurd (cc)

  checks_none : (many : Bool) (s s' : State D) → many ≡ false → ChecksPathsIf moves t many s s' → s' ≡ s
  checks_none true s s' alone checks = absurd (cc)
  checks_none false s s' alone checks = checks

  pub no_work : (s s' : State D) → s.host.reports ≡ None → s.host.inner.host_requirements ≡ false → OwnWork moves t s s' → s' ≡ s
  no_work s s' none alone work =
      checks_none s.host.inner.host_requirements work.0 s' alone work.2 ∙ tells_none s.host.reports s work.0 none work.1

  -- with them it looks at what is known of paths
  pub paths_work : (s s' : State D) → s.host.reports ≡ None → s.host.inner.host_requirements ≡ true → OwnWork moves t s s' →
      s' ≡ state s.device (checked t s.host s.slots) s.slots
  paths_work s s' none many work =
      subst (λ (b : Bool). ChecksPathsIf moves t b work.0 s') many work.2
      ∙ ap (λ (x : State D). state x.device (checked t x.host x.slots) x.slots) (tells_none s.host.reports s work.0 none work.1)

  pub polls_silently : (budget : ℕ) (s s' : State D) (changed : Bool) → s.host.reports ≡ None → s.host.inner.host_requirements ≡ false
      → HostPolls moves t budget s changed s' → Polls moves t budget s changed s'
  polls_silently budget s s' changed none alone polls =
      subst (λ (x : State D). Polls moves t budget x changed s') (no_work s polls.0 none alone polls.1) polls.2

  abbrev pub IsSilent : State D → Type 0
  IsSilent s = s.host.reports ≡ None

  arrivals : (s s' : State D) (answer : Option Bool) → IsSilent s → Takes moves s answer s' → IsSilent s'
  arrivals s s' None none takes = ap (λ (x : State D). x.host.reports) takes.1 ∙ none
  arrivals s s' (Some false) none takes = ap (λ (x : State D). x.host.reports) takes.3 ∙ none
  arrivals s s' (Some true) none takes = takes.4.3 ∙ ap (heard_if s.host.inner takes.0) none

  pub stays_silent : (budget : ℕ) (s s' : State D) (changed : Bool) → IsSilent s → Polls moves t budget s changed s' → IsSilent s'
  stays_silent budget s s' changed none polls = (polls_keep moves t IsSilent (record {
    maintenance = λ s none. none;
    arrivals = λ s s' answer runs none takes. arrivals s s' answer none takes;
    fragments = λ h ps x x' l gone runs waits none leaves same. none;
    parked = λ h ps x x' all runs many none serves. none;
    turns = λ turn h before after p p' x x' turned runs none turns. none;
  }) budget s s' changed none polls).0
