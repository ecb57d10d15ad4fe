-- What is reassembled of fragments.
use Rattle.std.specs.Prelude.{◌⊎◌, ℕ, List}
use Rattle.iface_tables.specs.declared.key.FragKey.{FragKey}
use Rattle.lan.specs.Worlds.Link.Frames.{Outgoing, IsDatagram}
use Rattle.lan.specs.Worlds.Link.StoredFragments.{IsForeignKey}

-- these bytes are a whole datagram that was sent, or of neither TCP nor UDP
abbrev pub IsReassembledOf : List Outgoing → FragKey → List ℕ → Type 0
IsReassembledOf out key bytes = IsForeignKey key ⊎ IsDatagram out key bytes
