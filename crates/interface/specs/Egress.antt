-- A step of the egress path, as a call that polls makes it.
use Rattle.std.specs.Prelude.{◌≡◌, ℤ, Bool, true, false, Option, None, Some}
use Rattle.net_base.specs.Device.{Move}
use Rattle.iface_tables.specs.Inner.{at_instant}
use Rattle.interface.specs.Host.{HostValue, Sender, sender}
use Rattle.interface.specs.Pass.{Passed}
use Rattle.interface.specs.EgressPath.{Egress}
use Rattle.interface.specs.State.{State, state}

-- what sends, at this instant
abbrev pub sending : {D : Type 0} → ℤ → State D → Sender D
sending instant s = sender s.device (at_instant instant s.host.inner) s.host.left

-- the state after a step
abbrev pub following : {D : Type 0} → HostValue → Passed D → State D
following h e = state e.sender.device (record h { inner = e.sender.inner; left = e.sender.left }) e.slots

-- a step that changed no socket and no queue answers nothing
abbrev pub if_changed : Bool → Option Bool
if_changed true = Some true
if_changed false = None

abbrev pub EgressStep : {D : Type 0} → (D → Move → D → Type 0) → ℤ → State D → Option Bool → State D → Type 0
EgressStep {D} moves instant s answer s' =
    (e : Passed D) × Egress moves (sending instant s) s.slots e × (s' ≡ following s.host e) × (answer ≡ if_changed e.changed)
