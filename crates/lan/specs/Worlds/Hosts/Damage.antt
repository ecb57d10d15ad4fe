-- A damaged frame does no harm, whenever it is taken.
use Rattle.std.specs.Prelude.{◌≡◌, ◌<◌, ◌^◌, ℕ, true, List, [], ◌∷◌, None}
use Rattle.iface_ingress.specs.HardwareAddress.{HardwareAddress}
use Rattle.interface.specs.IpRepr.TheVariants as Ip
use Rattle.iface_ingress.specs.Arrives.{Arrived, Arrives}
use Rattle.iface_ingress.specs.Delivered.{Slots}
use Rattle.iface_ingress.specs.Incoming.{IncomingValue, Arp, Ip4, Ip6, IsIncoming}
use Rattle.iface_ingress.specs.FragmentStored.{with_ports, IsDamaged}
use Rattle.iface_ingress.specs.Reassembled.{Assemblers, uncut}
use Rattle.iface_tables.specs.Inner.{InnerValue}
use Rattle.iface_tables.specs.Settings.{is_of_medium}
use Rattle.lan.specs.Worlds.AtLink.History.{Entry}
use Rattle.lan.specs.Worlds.AtLink.Kinds.{Kind, Origin, Damaged, kind_of}
use Rattle.lan.specs.Worlds.AtLink.Kinds.Kind.{OfLink}
use Rattle.lan.specs.Worlds.AtLink.Kinds.LinkAct.{Hands}
use Rattle.lan.specs.Worlds.AtLink.Origins.{medium_of, frame_of_origin}
use Rattle.lan.specs.Worlds.AtLink.Runs.{Leads, WorldRun}
use Rattle.lan.specs.Worlds.AtLink.Node.{Nodes, node}
use Rattle.sim_link.specs.Capabilities.{all_checksums}
use Rattle.sim_link.specs.Checksum.TheVariants.{Both}
use Rattle.sim_link.specs.ChecksumCapabilities.{ChecksumCapabilities}
use Rattle.sim_link.specs.Medium.{Medium}

-- Whichever host of the medium takes the frame, with whatever addresses, sockets and half reassembled datagrams: if it tests all checksums,
-- its TCP and UDP sockets stay as they were, and it answers nothing.
abbrev pub IsHarmless : Medium → List ℕ → Type 0
IsHarmless medium frame = (i : InnerValue) (timeout : ℕ) (assemblers after : Assemblers) (slots : Slots) (a : Arrived)
    → is_of_medium i.hardware medium ≡ true → i.checksums ≡ all_checksums Both → Arrives i timeout assemblers slots frame after a
    → (with_ports a.slots ≡ with_ports slots) × (a.reply ≡ None)

-- IN A HISTORY

abbrev pub IsHarmlessFrom : Nodes → Origin → Type 0
IsHarmlessFrom hosts (Damaged from k slot word padding) =
    IsHarmless (medium_of (node hosts from)) (frame_of_origin hosts (Damaged from k slot word padding))
IsHarmlessFrom hosts o = Unit {0}

abbrev pub IsHarmlessBy : Nodes → Kind → Type 0
IsHarmlessBy hosts (OfLink (Hands o)) = IsHarmlessFrom hosts o
IsHarmlessBy hosts kind = Unit {0}

-- the frame of each damage that a history has is harmless
abbrev pub DamageIsHarmless : Nodes → List Entry → Type 0
DamageIsHarmless hosts [] = Unit {0}
DamageIsHarmless hosts (e ∷ past) = IsHarmlessBy hosts (kind_of e.event) × DamageIsHarmless hosts past

-- a word has 16 bits
abbrev pub HasWord : Kind → Type 0
HasWord (OfLink (Hands (Damaged from k slot word padding))) = word < 2 ^ 16
HasWord kind = Unit {0}

abbrev pub HaveWords : List Entry → Type 0
HaveWords [] = Unit {0}
HaveWords (e ∷ past) = HasWord (kind_of e.event) × HaveWords past

-- each was harmless when it was handed over
abbrev pub WasHarmless : Nodes → Type 0
WasHarmless from = (past : List Entry) (old new : Nodes) (e : Entry) → HaveWords past → HasWord (kind_of e.event) → WorldRun past from old →
    Leads past old e new
    → IsHarmlessBy old (kind_of e.event)

-- WHAT A DAMAGED FRAME BRINGS

-- a packet of TCP that nobody cut, whose payload is no segment
abbrev pub IsNoSegment : ChecksumCapabilities → IncomingValue → Type 0
IsNoSegment caps (Arp link packet) = ⊥
IsNoSegment caps (Ip4 link header fragment payload) = (fragment ≡ uncut) × IsDamaged caps (Ip.Ipv4 header) payload
IsNoSegment caps (Ip6 link header payload) = IsDamaged caps (Ip.Ipv6 header) payload

-- a host of the medium that tests all checksums reads nothing else in the frame
abbrev pub BringsNoSegment : Medium → List ℕ → Type 0
BringsNoSegment medium frame = (hardware : HardwareAddress) (v : IncomingValue)
    → is_of_medium hardware medium ≡ true → IsIncoming hardware (all_checksums Both) frame v → IsNoSegment (all_checksums Both) v
