-- Requests for neighbours by the bytes of their frames, whatever a host calls what leaves it (RFC 826; RFC 4861, section 4.3).
use Rattle.std.specs.Prelude.{ℕ, ◌==◌, ◌&&◌, ◌||◌, if◌then◌else◌, ℤ, Bool, false, List, [], ◌∷◌, ◌++◌, slice_index}
use Rattle.sim_link.specs.Medium.{Medium}
use Rattle.iface_egress.specs.declared.socket_set.SocketStorage.{SocketStorage}
use Rattle.iface_ingress.specs.Fields.{be16}
use Rattle.sockets.specs.declared.socket.Socket.{Socket}
use Rattle.sockets.specs.declared.socket.Socket.TheVariants as Is
use Rattle.lan.specs.Worlds.Hosts.RequestSilence.{AreApart}
use Rattle.lan.specs.Worlds.Hosts.Machine.{Turn, instant_of}
use Rattle.lan.specs.Worlds.Moves.Raws.{OfEach}

-- FRAMES ON ETHERNET

-- an ARP packet whose operation is a request
abbrev pub is_request : List ℕ → Bool
is_request frame = be16 frame 12 == 0x0806 && be16 frame 20 == 1

-- an IPv6 packet of ICMPv6 with a neighbour solicitation
abbrev pub is_solicitation : List ℕ → Bool
is_solicitation frame = be16 frame 12 == 0x86dd && (slice_index frame 20 == 58 && slice_index frame 54 == 135)

abbrev pub asks : List ℕ → Bool
asks frame = is_request frame || is_solicitation frame

-- the same on any medium: one without hardware addresses has none to ask for
abbrev pub on_medium : Medium → (List ℕ → Bool) → List ℕ → Bool
on_medium Medium.Ethernet test frame = test frame
on_medium Medium.Ip test frame = false

-- MOMENTS

-- that of a turn, for each of its frames that passes
abbrev pub asked_in : (List ℕ → Bool) → ℤ → List (List ℕ) → List ℤ
asked_in test t [] = []
asked_in test t (frame ∷ frames) = if test frame then t ∷ asked_in test t frames else asked_in test t frames

-- when a host sent a frame that passes, the newest first
abbrev pub asked : (List ℕ → Bool) → List Turn → List ℤ
asked test [] = []
asked test (turn ∷ past) = asked_in test (instant_of turn.act) turn.sent ++ asked test past

-- WHAT IS PROMISED

-- a socket of TCP or of UDP, or a client of DHCP or DNS, which sends datagrams alone
abbrev pub HasPorts : Socket → Type 0
HasPorts (Is.Raw v) = ⊥
HasPorts (Is.Icmp v) = ⊥
HasPorts (Is.Udp v) = Unit {0}
HasPorts (Is.Tcp v) = Unit {0}
HasPorts (Is.Dhcpv4 v) = Unit {0}
HasPorts (Is.Dns v) = Unit {0}

-- The frames that a host with these sockets sent in these turns: ARP requests are a second apart. So are requests and solicitations
-- together, where all sockets are of these kinds; the others may be given any solicitation to send.
pub record FramesAreApart (medium : Medium) (slots : List (SocketStorage Socket)) (turns : List Turn) : Type 0 where
  pub requests : AreApart (asked (on_medium medium is_request) turns)
  pub all : OfEach HasPorts slots → AreApart (asked (on_medium medium asks) turns)
