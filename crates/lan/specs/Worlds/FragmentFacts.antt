-- What frames say of a datagram, whole or in fragments (RFC 791, section 3.2; RFC 8200, section 4.5), and that what is reassembled from fragments was
-- sent.
use Rattle.std.specs.Prelude.{◌≡◌, ◌⊎◌, ◌↔◌, ◌+◌, ℕ, false, List, length, slice_get, Option, Some}
use Rattle.sim_link.specs.Medium.{Medium}
use Rattle.interface.specs.Ipv4Fragment.{Ipv4Fragment}
use Rattle.interface.specs.Ipv4Repr.{Ipv4Repr}
use Rattle.interface.specs.Ipv6Repr.{Ipv6Repr}
use Rattle.iface_ingress.specs.EthernetRepr.{EthernetRepr}
use Rattle.iface_ingress.specs.HardwareAddress.{HardwareAddress}
use Rattle.iface_ingress.specs.Incoming.{Ip6, IsIncoming, IsPacketV4}
use Rattle.iface_ingress.specs.Reassembled.{FragmentValue, part_v4, part_in}
use Rattle.iface_tables.specs.declared.key.FragKey.{FragKey}
use Rattle.sim_link.specs.PacketInFrame.{packet_in}
use Rattle.sim_link.specs.Cuts.{ipv4_part}
use Rattle.sim_link.specs.declared.part.Part.{Part}
use Rattle.lan.specs.Worlds.AtLink.Kinds.{other}
use Rattle.lan.specs.Worlds.AtLink.Side.{Side}
use Rattle.lan.specs.Worlds.AtLink.Side.TheVariants.{A, B}
use Rattle.lan.specs.Worlds.AtLink.Origins.{medium_of}
use Rattle.lan.specs.Worlds.AtLink.Runs.{WorldValue}
use Rattle.lan.specs.Worlds.AtLink.Node.{node}
use Rattle.lan.specs.Worlds.Hosts.HostRuns.{frames_sent}
use Rattle.lan.specs.Worlds.Hosts.Machine.{Turn}
use Rattle.lan.specs.Worlds.Link.Frames.{medium_on}
use Rattle.lan.specs.Worlds.Link.Made.{sealed}
use Rattle.lan.specs.Worlds.ReassembledDatagram.{Rebuilds}

-- of a datagram as slots hold it, an IPv4 payload or an IPv6 one after its fragment header: the byte at a slot, and where it ends
pub data Fact : Type 0 where
  ByteAt : (slot byte : ℕ) → Fact
  EndsAt : (slot : ℕ) → Fact

abbrev pub IsOf : List ℕ → Fact → Type 0
IsOf payload (ByteAt slot byte) = slice_get payload slot ≡ Some byte
IsOf payload (EndsAt slot) = slot ≡ length payload

-- what a fragment of it says: its bytes at their slots, and the last fragment where the payload ends
abbrev pub Says : FragmentValue → Fact → Type 0
Says p (ByteAt slot byte) = (k : ℕ) × (p.offset + k ≡ slot) × (slice_get p.bytes k ≡ Some byte)
Says p (EndsAt slot) = (p.more ≡ false) × (slot ≡ p.offset + length p.bytes)

-- a frame is read as an IPv4 packet, whole or a fragment, which is this
pub record CarriesV4 (medium : Medium) (frame : List ℕ) (p : FragmentValue) : Type 0 where
  pub part : Part
  pub there : ipv4_part medium frame ≡ Some part
  pub header : Ipv4Repr
  pub fragment : Ipv4Fragment
  pub bytes : List ℕ
  pub read : IsPacketV4 sealed (packet_in medium frame) header fragment bytes
  pub fragment_is : p ≡ part_v4 header fragment bytes

-- a host of the medium reads in a frame an IPv6 packet that is a fragment, which is this after a fragment header (RFC 8200, section 4.5)
pub record CarriesV6 (medium : Medium) (frame : List ℕ) (p : FragmentValue) : Type 0 where
  pub hardware : HardwareAddress
  pub of_medium : medium_on hardware ≡ medium
  pub link : Option EthernetRepr
  pub header : Ipv6Repr
  pub payload : List ℕ
  pub read : IsIncoming hardware sealed frame (Ip6 link header payload)
  pub fragment_is : part_in (Ip6 link header payload) ≡ Some p

-- a frame has something of the datagram with this identification and these addresses, in IPv4 also this protocol, and says this of it
pub record Carries (medium : Medium) (frame : List ℕ) (key : FragKey) (fact : Fact) : Type 0 where
  pub fragment : FragmentValue
  pub read : CarriesV4 medium frame fragment ⊎ CarriesV6 medium frame fragment
  pub key_is : fragment.key ≡ key
  pub says : Says fragment fact

-- one of these frames does
pub record IsSaid (medium : Medium) (frames : List (List ℕ)) (key : FragKey) (fact : Fact) : Type 0 where
  pub slot : ℕ
  pub frame : List ℕ
  pub frame_is : slice_get frames slot ≡ Some frame
  pub carries : Carries medium frame key fact

-- What these frames say of the datagram with that key is this, all of it and nothing else.
abbrev pub AreFramesOf : Medium → List (List ℕ) → FragKey → List ℕ → Type 0
AreFramesOf medium frames key bytes = (fact : Fact) → IsSaid medium frames key fact ↔ IsOf bytes fact

-- the turns of each host
abbrev pub by_side : List Turn → List Turn → Side → List Turn
by_side a b A = a
by_side a b B = b

-- Whatever a host reassembles in a poll, when it takes a frame next there, is what the other host's turns sent, whole or in fragments.
abbrev pub ReassembledWasSent : WorldValue → (Side → List Turn) → Type 0
ReassembledWasSent w turns =
    (side : Side) (key : FragKey) (bytes : List ℕ) → Rebuilds (node w.hosts side) key bytes
    → AreFramesOf (medium_of (node w.hosts (other side))) (frames_sent (turns (other side))) key bytes
