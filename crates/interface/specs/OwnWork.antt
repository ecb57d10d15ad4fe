-- What a host does of its own where a call that polls begins, before a frame is looked for and a socket is asked.
use Rattle.std.specs.Prelude.{◌≡◌, ◌⊎◌, ℤ, Bool, true, false, Option, None, Some}
use Rattle.net_base.specs.Device.{Move}
use Rattle.iface_reports.specs.Reports.{ReportsValue}
use Rattle.iface_reports.specs.Transmits.{Transmits}
use Rattle.iface_tables.specs.Inner.{at_instant}
use Rattle.interface.specs.BlackHoles.{checked}
use Rattle.interface.specs.Host.{HostValue, host_at}
use Rattle.interface.specs.State.{State, state, telling}

module _ {D : Type 0} (moves : D → Move → D → Type 0) (instant : ℤ) where
  -- what is due is told of multicast groups; nothing at all where nothing is told of them
  abbrev pub TellsIf : Option ReportsValue → State D → State D → Type 0
  TellsIf None s s' = s' ≡ s
  TellsIf (Some r) s s' =
      (went : Bool) × (d : D) × (r' : ReportsValue) × Transmits moves (at_instant instant s.host.inner) s.device r went d r'
      × (s' ≡ state d (telling (host_at instant s.host) (Some r')) s.slots)

  -- then what the timers of connections tell of their paths is taken in, on a network of many
  abbrev pub ChecksPathsIf : (many : Bool) → State D → State D → Type 0
  ChecksPathsIf false s s' = s' ≡ s
  ChecksPathsIf true s s' = s' ≡ state s.device (checked instant s.host s.slots) s.slots

  abbrev pub OwnWork : State D → State D → Type 0
  OwnWork s s' = (mid : State D) × TellsIf s.host.reports s mid × ChecksPathsIf s.host.inner.host_requirements mid s'

-- nothing was done, but that the instant may be that of the call
abbrev pub HasBegun : ℤ → HostValue → HostValue → Type 0
HasBegun instant h h' = (h' ≡ h) ⊎ (h' ≡ host_at instant h)
