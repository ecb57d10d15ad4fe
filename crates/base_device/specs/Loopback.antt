-- A loopback: what it sends, it receives.
use Rattle.std.specs.Prelude.{◌≡◌, ℕ, ◌+◌, IsTrue, List, [], ◌∷◌, ◌++◌}
use Rattle.base_device.specs.declared.capabilities.Checksum.TheVariants.{Both}
use Rattle.base_device.specs.declared.capabilities.DeviceCapabilities.{DeviceCapabilities}
use Rattle.base_device.specs.declared.capabilities.Medium.{Medium}
use Rattle.base_device.specs.Capabilities.{all_checksums}
use Rattle.base_device.specs.Device.{Move, Took, Empty, Allowed, Emitted, Denied, gives_tokens}

-- the frames that were sent and not yet received, the oldest first
pub record LoopbackValue : Type 0 where
  pub queue : List (List ℕ)
  pub refusals : ℕ
  pub medium : Medium

abbrev pub loopback_capabilities : LoopbackValue → DeviceCapabilities
loopback_capabilities l =
    record { medium = l.medium; max_transmission_unit = 65535; checksum = all_checksums Both }

abbrev pub LoopbackMove : LoopbackValue → Move → LoopbackValue → Type 0
LoopbackMove old (Took t frame) new =
    IsTrue (gives_tokens old.refusals) × (old ≡ record new { queue = frame ∷ new.queue })
LoopbackMove old (Empty t) new =
    (new ≡ old) × (IsTrue (gives_tokens old.refusals) → old.queue ≡ [])
LoopbackMove old (Allowed t leave) new = (new ≡ old) × (leave ≡ gives_tokens old.refusals)
LoopbackMove old (Emitted frame) new = new ≡ record old { queue = old.queue ++ frame ∷ [] }
LoopbackMove old (Denied _) new = new ≡ record old { refusals = old.refusals + 1 }
