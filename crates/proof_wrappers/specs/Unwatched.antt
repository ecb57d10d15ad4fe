-- A host over the device that a wrapper watches.
use Rattle.base_wrappers.specs.TracerValue.{TracerValue}
use Rattle.interface.specs.State.{State, state}

-- the same host and sockets over the device within
abbrev pub unwatched : {D S W : Type 0} → State (TracerValue D S W) → State D
unwatched s = state s.device.inner s.host s.slots
