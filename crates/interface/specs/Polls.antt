-- A poll: what the host does of its own; then maintenance, steps of the ingress path, and then of the egress path.
use Rattle.std.specs.Prelude.{◌≡◌, ℕ, zero, suc, ℤ, Bool, true, false, ◌||◌, ◌⊎◌, Option, None, Some}
use Rattle.net_base.specs.Device.{Move}
use Rattle.interface.specs.Host.{maintained}
use Rattle.interface.specs.State.{State, state}
use Rattle.interface.specs.Egress.{EgressStep}
use Rattle.interface.specs.Ingress.{IngressStep}
use Rattle.interface.specs.OwnWork.{OwnWork}
use Rattle.interface.specs.declared.poll.PollResult.{PollResult}
use Rattle.interface.specs.declared.poll.PollResult.TheVariants as Result
use Rattle.interface.specs.declared.poll.PollIngressSingleResult.{PollIngressSingleResult}
use Rattle.interface.specs.declared.poll.PollIngressSingleResult.TheVariants as Single

-- what a step answers
abbrev pub answer_of : PollResult → Option Bool
answer_of Result.None = None
answer_of Result.SocketStateChanged = Some true

-- a frame that is too short or too long to be read is no change
abbrev pub single_answer : PollIngressSingleResult → Option Bool
single_answer Single.None = None
single_answer Single.PacketProcessed = Some false
single_answer Single.SocketStateChanged = Some true

abbrev pub is_change : PollResult → Bool
is_change Result.None = false
is_change Result.SocketStateChanged = true

-- at most so many steps, until one answers nothing; `c` says whether one of those before changed anything
abbrev pub Repeats : {S : Type 0} → (S → Option Bool → S → Type 0) → ℕ → S → Bool → S → Bool → Type 0
Repeats step zero s c s' c' = (s' ≡ s) × (c' ≡ c)
Repeats {S} step (suc n) s c s' c' =
    (step s None s' × (c' ≡ c)) ⊎ ((b : Bool) × (mid : S) × step s (Some b) mid × Repeats step n mid (c || b) s' c')

abbrev pub begun : {D : Type 0} → ℤ → State D → State D
begun instant s = state s.device (maintained instant s.host) s.slots

-- maintenance, and the steps
abbrev pub Polls : {D : Type 0} → (D → Move → D → Type 0) → ℤ → ℕ → State D → Bool → State D → Type 0
Polls {D} moves instant budget s changed s' =
    (mid : State D) × (c : Bool) × Repeats (IngressStep moves instant) budget (begun instant s) false mid c
    × Repeats (EgressStep moves instant) budget mid c s' changed

-- the whole poll
abbrev pub HostPolls : {D : Type 0} → (D → Move → D → Type 0) → ℤ → ℕ → State D → Bool → State D → Type 0
HostPolls {D} moves instant budget s changed s' =
    (mid : State D) × OwnWork moves instant s mid × Polls moves instant budget mid changed s'

-- the same of the egress path alone
abbrev pub HostSends : {D : Type 0} → (D → Move → D → Type 0) → ℤ → State D → Option Bool → State D → Type 0
HostSends {D} moves instant s answer s' = (mid : State D) × OwnWork moves instant s mid × EgressStep moves instant mid answer s'
