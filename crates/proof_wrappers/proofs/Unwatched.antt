-- Moves of a device that is watched are moves of the device within.
use Rattle.std.proofs.Common.{ℕ, ℤ, Bool, List}
use Rattle.net_base.specs.Device.{Move}
use Rattle.base_wrappers.specs.Trace.{Traces}
use Rattle.base_wrappers.specs.TracerValue.{TracerValue}
use Rattle.base_wrappers.specs.declared.writer.Direction.{Direction}
use Rattle.interface.specs.Polls.{Polls, HostPolls}
use Rattle.interface.specs.State.{State}
use Rattle.interface.proofs.Mapping.{IsMapped, host_polls_there, polls_there}
use Rattle.proof_wrappers.specs.Unwatched.{unwatched}

module _ {D S W : Type 0} (moves : D → Move → D → Type 0) (taken : S → List ℕ) (takes : W → Direction → Bool)
    (writes : W → ℤ → Direction → List ℕ → List ℕ → Type 0) where
  mapped : IsMapped (λ (v : TracerValue D S W). v.inner) (Traces moves taken takes writes) moves (λ v. Unit {0}) (λ v. Unit {0})
  mapped = record { up = λ old new m goes before. tt; down = λ old new m goes after. tt; there = λ old new m goes before after. goes.0 }

  pub polls_within : (t : ℤ) (budget : ℕ) (s s' : State (TracerValue D S W)) (changed : Bool)
      → Polls (Traces moves taken takes writes) t budget s changed s' → Polls moves t budget (unwatched s) changed (unwatched s')
  polls_within t budget s s' changed polls =
      polls_there (λ (v : TracerValue D S W). v.inner) (Traces moves taken takes writes) moves (λ v. Unit {0}) (λ v. Unit {0}) mapped t budget s s' changed
      polls tt tt

  pub host_polls_within : (t : ℤ) (budget : ℕ) (s s' : State (TracerValue D S W)) (changed : Bool)
      → HostPolls (Traces moves taken takes writes) t budget s changed s' → HostPolls moves t budget (unwatched s) changed (unwatched s')
  host_polls_within t budget s s' changed polls =
      host_polls_there (λ (v : TracerValue D S W). v.inner) (Traces moves taken takes writes) moves (λ v. Unit {0}) (λ v. Unit {0}) mapped t budget s s' changed
      polls tt tt
