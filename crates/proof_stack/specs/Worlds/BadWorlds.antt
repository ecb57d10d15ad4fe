-- Worlds to which no events lead, and turns that no host takes.
use Rattle.std.specs.Prelude.{◌≡◌, ◌≢◌, ℕ, ℤ, pos, true, false, List, [], ◌∷◌, map, slice_get, Option, Some, None}
use Rattle.net_base.specs.Capabilities.{all_checksums}
use Rattle.net_base.specs.Checksum.TheVariants.{Both}
use Rattle.net_base.specs.Device.{Took}
use Rattle.net_base.specs.Medium.{Medium}
use Rattle.lan.specs.Worlds.FragKey.{FragKey}
use Rattle.lan.specs.Worlds.FragKey.TheVariants as Keys
use Rattle.lan.specs.Worlds.AtLink.Departure.{Departure, Asks}
use Rattle.lan.specs.Worlds.NeighborQuery.{NeighborQuery}
use Rattle.lan.specs.Worlds.AtLink.Arrives.{Arrived, Arrives}
use Rattle.lan.specs.Worlds.AtLink.Delivered.{Slots}
use Rattle.iface_ingress.specs.Incoming.{IncomingValue, IsContent}
use Rattle.lan.specs.Worlds.AtLink.Reassembled.{Assemblers, FragmentValue, part_in}
use Rattle.lan.specs.Worlds.AtLink.Inner.{InnerValue}
use Rattle.lan.specs.Worlds.Settings.{is_of_medium}
use Rattle.lan.specs.Worlds.AtLink.History.{Entry, Counts}
use Rattle.lan.specs.Worlds.AtLink.Kinds.{Delivered, Damaged, kind_of}
use Rattle.lan.specs.Worlds.AtLink.Kinds.Act.{Opens, Polls, Asks as AsksWhen}
use Rattle.lan.specs.Worlds.AtLink.Kinds.Kind.{OfHost, OfLink}
use Rattle.lan.specs.Worlds.AtLink.Kinds.LinkAct.{Hands}
use Rattle.lan.specs.declared.at_link.history.answer.Answer.TheVariants as To
use Rattle.lan.specs.declared.at_link.history.event.Event.TheVariants as E
use Rattle.lan.specs.declared.at_link.history.event.Side.TheVariants.{A}
use Rattle.lan.specs.Worlds.AtLink.Origins.{medium_of, frame_of_origin}
use Rattle.lan.specs.Worlds.AtLink.Runs.{Starts, WorldValue}
use Rattle.sim_link.specs.Port.{PortMove, PortValue}
use Rattle.lan.specs.Worlds.AtLink.Node.{NodeValue, Nodes, at_port}
use Rattle.lan.specs.Worlds.Hosts.Machine.{Turn, frames_of}
use Rattle.lan.specs.Worlds.FragmentFacts.{Fact, Carries}
use Rattle.lan.specs.Worlds.ReassembledDatagram.{IsPolled, NamesPorts, following_header}
use Rattle.proof_stack.specs.PeerHost.ReceivedPackets.{whole_in}

-- a world with this history
abbrev pub after : Starts → List Entry → Nodes → WorldValue
after starts history hosts = record { hosts = hosts; starts = starts; history = history }

-- EVENTS

-- the link hands over frame k of those that A sent, with this padding
abbrev pub Delivers : ℕ → List ℕ → Entry → Type 0
Delivers k padding e = kind_of e.event ≡ OfLink (Hands (Delivered A k padding))

-- the same with a word exchanged
abbrev pub Damages : ℕ → ℕ → ℕ → List ℕ → Entry → Type 0
Damages k slot word padding e = kind_of e.event ≡ OfLink (Hands (Damaged A k slot word padding))

-- A is asked when it wants to be polled
abbrev pub IsAsked : ℤ → Entry → Type 0
IsAsked instant e = kind_of e.event ≡ OfHost A (AsksWhen instant)

-- A's device gets room for so many frames
abbrev pub GetsRoom : ℕ → Entry → Type 0
GetsRoom room e = kind_of e.event ≡ OfHost A (Opens room)

-- so many frames sent by A, and nothing else
abbrev pub sent_by_a : ℕ → Counts
sent_by_a n = record { sent_a = n; sent_b = 0; waiting_a = 0; waiting_b = 0 }

-- A is asked at instant 0 when it wants to be polled, and answers so
abbrev pub asked : Option ℤ → Entry
asked answer = record { event = E.PollAt A (pos 0); answer = To.At answer; before = sent_by_a 0; found = None }

-- A is polled at instant 5
abbrev pub polled : Entry
polled = record { event = E.Poll A (pos 5) 1; answer = To.Poll true; before = sent_by_a 0; found = None }

-- TURNS

-- a poll at this instant, in which these questions leave
abbrev pub asking : ℤ → List NeighborQuery → Turn
asking instant questions = record {
  act = Polls instant 1;
  room = 8;
  taken = [];
  answer = To.Poll true;
  found = None;
  departures = map Asks questions;
  sent = [];
}

-- a poll of this host at this instant, in which something leaves under this name
abbrev pub leaving : ℤ → InnerValue → Departure → Turn
leaving instant i departure = record {
  act = Polls instant 1;
  room = 8;
  taken = [];
  answer = To.Poll true;
  found = None;
  departures = departure ∷ [];
  sent = frames_of i (departure ∷ []);
}

-- FRAMES

abbrev pub identification : FragKey → ℕ
identification (Keys.Ipv4 key) = key.id
identification (Keys.Ipv6 key) = key.id

-- whatever these frames say is of a datagram with another identification
abbrev pub AreOfOther : Medium → List (List ℕ) → FragKey → Type 0
AreOfOther medium frames key =
    (k : ℕ) (frame : List ℕ) (other : FragKey) (fact : Fact) → slice_get frames k ≡ Some frame → Carries medium frame other fact →
    identification other ≢ identification key

-- a host of the medium that tests all checksums takes the damaged frame
pub record IsTaken (hosts : Nodes) (k slot word : ℕ) (padding : List ℕ) (i : InnerValue) (timeout : ℕ) (assemblers after : Assemblers) (slots : Slots)
    (a : Arrived) : Type 0 where
  pub medium : is_of_medium i.hardware (medium_of hosts.a) ≡ true
  pub checksums : i.checksums ≡ all_checksums Both
  pub arrives : Arrives i timeout assemblers slots (frame_of_origin hosts (Damaged A k slot word padding)) after a

-- A poll that began at this host takes a frame with a fragment of the datagram of this key, and with it, as the host takes it in, the datagram is
-- whole, of TCP or UDP, with these bytes after its IP header. A host of a world is without host requirements.
pub record IsRebuilt (s : NodeValue) (key : FragKey) (bytes : List ℕ) : Type 0 where
  pub now : NodeValue
  pub reached : IsPolled s now
  pub alone : now.host.inner.host_requirements ≡ false
  pub frame : List ℕ
  pub port : PortValue
  pub took : PortMove reached.port_now (Took now.host.inner.instant frame) port
  pub content : IncomingValue
  pub read : IsContent now.host.inner.hardware now.host.inner.checksums frame (Some content)
  pub fragment : FragmentValue
  pub cut : part_in content ≡ Some fragment
  pub key_is : fragment.key ≡ key
  pub datagram : IncomingValue
  pub whole : whole_in (at_port reached.port_now now) (Some content) ≡ Some datagram
  pub ports : NamesPorts datagram
  pub bytes_are : bytes ≡ following_header datagram
