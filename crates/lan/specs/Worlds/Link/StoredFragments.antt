-- What a host holds of the datagrams that come to it in fragments.
use Rattle.std.specs.Prelude.{◌≡◌, ◌⊎◌, ℕ, List, Some}
use Rattle.std.specs.List.{AllByRecursion}
use Rattle.iface_tables.specs.FragmentList.{HoldsSlicesOf}
use Rattle.iface_tables.specs.Reassembly.{AssemblerValue}
use Rattle.iface_tables.specs.declared.key.FragKey.{FragKey}
use Rattle.iface_tables.specs.declared.key.FragKey.TheVariants as Keys
use Rattle.iface_ingress.specs.Reassembled.{Assemblers, runs_kept}
use Rattle.interface.specs.Delivered.{NamesNoPorts}
use Rattle.lan.specs.Worlds.Link.Frames.{Outgoing, IsDatagram}

-- of neither TCP nor UDP, as the key of an IPv4 datagram may say
abbrev pub IsForeignKey : FragKey → Type 0
IsForeignKey (Keys.Ipv4 key) = NamesNoPorts key.protocol
IsForeignKey (Keys.Ipv6 key) = ⊥

-- a slot with this key holds slices of one datagram that was sent, whose key this is
pub record HoldsSent (out : List Outgoing) (key : FragKey) (s : AssemblerValue FragKey) : Type 0 where
  pub bytes : List ℕ
  pub sent : IsDatagram out key bytes
  pub holds : HoldsSlicesOf runs_kept bytes s

-- a slot is of neither TCP nor UDP, or holds slices of one datagram that was sent
abbrev pub IsOfKey : List Outgoing → FragKey → AssemblerValue FragKey → Type 0
IsOfKey out key s = IsForeignKey key ⊎ HoldsSent out key s

-- a slot is free, or so
abbrev pub IsAssemblerOf : List Outgoing → AssemblerValue FragKey → Type 0
IsAssemblerOf out s = (key : FragKey) → s.key ≡ Some key → IsOfKey out key s

abbrev pub AreAssemblersOf : List Outgoing → Assemblers → Type 0
AreAssemblersOf out assemblers = AllByRecursion (IsAssemblerOf out) assemblers
