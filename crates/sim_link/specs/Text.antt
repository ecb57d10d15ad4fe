-- The texts of lines: one row a line.
use Rattle.std.specs.Prelude.{ℕ, ℤ, pos, negsuc, ◌/◌, ◌%◌, ◌^◌, ◌<◌, ◌≤◌, List, [], ◌∷◌, ◌++◌, length, map, codes, Option, Some, None}
use Rattle.std.specs.List.{join_with_byte}
use Rattle.std.specs.Fmt.{decimal, signed_decimal}
use Rattle.hex.specs.Hex.{encode_lower}
use Rattle.net_base.specs.declared.Medium.{Medium}
use Rattle.net_base.specs.declared.Medium.TheVariants.{Ethernet, Ip}
use Rattle.ip_wire.specs.IpAddress.{IpAddress}
use Rattle.ip_wire.specs.IpAddress.TheVariants as ip
use Rattle.ip_wire.specs.Address.{IsIpAddress, IsEthernetAddress}
use Rattle.ip_wire.specs.Cidr.{cidr_address}
use Rattle.ip_wire.specs.Fields.{IsBytes}
use Rattle.ip_wire.specs.IpCidr.{IpCidr}
use Rattle.ip_wire.specs.IpEndpoint.{IpEndpoint}
use Rattle.ip_wire.specs.IpVersion.{IpVersion}
use Rattle.ip_wire.specs.IpVersion.TheVariants.{Ipv4, Ipv6}
use Rattle.ip_wire.specs.Text.{ip_text, cidr_text, ethernet_text}
use Rattle.sim_link.specs.declared.kinds.Side.{Side}
use Rattle.sim_link.specs.declared.kinds.Side.TheVariants.{A, B}
use Rattle.sim_link.specs.declared.kinds.QueueSizes.{QueueSizes}
use Rattle.sim_link.specs.declared.kinds.SocketSpec.{SocketSpec}
use Rattle.sim_link.specs.declared.kinds.SocketSpec.TheVariants.{Udp, Icmp, Raw, Tcp}
use Rattle.sim_link.specs.declared.line.Line.{Line}
use Rattle.sim_link.specs.declared.line.Line.TheVariants.{World, Socket, Start, Listen, Connect, Send, Recv, Close, Abort, State, Bind, Ident, SendTo}
use Rattle.sim_link.specs.declared.line.Line.TheVariants.{SendIcmp, SendRaw, RecvFrom, Addrs, Hw, Route, Poll, PollAt, Deliver, Damage, Noise, Room, Cut}

-- WORDS

abbrev pub side_text : Side → List ℕ
side_text A = codes "A"
side_text B = codes "B"

abbrev pub medium_text : Medium → List ℕ
medium_text Ethernet = codes "eth"
medium_text Ip = codes "ip"

abbrev pub version_text : Option IpVersion → List ℕ
version_text (Some Ipv4) = codes "4"
version_text (Some Ipv6) = codes "6"
version_text None = codes "any"

abbrev pub protocol_text : Option ℕ → List ℕ
protocol_text (Some number) = decimal number
protocol_text None = codes "any"

-- an endpoint: an IPv6 address stands in brackets
abbrev pub endpoint_word_of : IpAddress → ℕ → List ℕ
endpoint_word_of (ip.Ipv4 a) port = ip_text (ip.Ipv4 a) ++ 58 ∷ decimal port
endpoint_word_of (ip.Ipv6 a) port = 91 ∷ (ip_text (ip.Ipv6 a) ++ 93 ∷ 58 ∷ decimal port)

abbrev pub endpoint_word : IpEndpoint → List ℕ
endpoint_word e = endpoint_word_of e.addr e.port

-- bytes in lower case hex; no bytes are written `-`
abbrev pub hex_word : List ℕ → List ℕ
hex_word [] = codes "-"
hex_word (byte ∷ bytes) = encode_lower (byte ∷ bytes)

-- four hex digits
abbrev pub four_digits : ℕ → List ℕ
four_digits n = encode_lower (n / 256 ∷ n % 256 ∷ [])

-- LINES

abbrev pub queue_words : QueueSizes → List (List ℕ)
queue_words q = decimal q.receive_packets ∷ decimal q.receive_bytes ∷ decimal q.send_packets ∷ decimal q.send_bytes ∷ []

abbrev pub socket_words : SocketSpec → List (List ℕ)
socket_words (Udp q) = codes "udp" ∷ queue_words q
socket_words (Icmp q) = codes "icmp" ∷ queue_words q
socket_words (Raw v p q) = codes "raw" ∷ version_text v ∷ protocol_text p ∷ queue_words q
socket_words (Tcp s) = codes "tcp" ∷ decimal s.receive_bytes ∷ decimal s.send_bytes ∷ []

-- the words of a line
abbrev pub line_words : Line → List (List ℕ)
line_words (World m n) = codes "world" ∷ medium_text m ∷ decimal n ∷ []
line_words (Socket h s) = codes "socket" ∷ side_text h ∷ socket_words s
line_words Start = codes "start" ∷ []
line_words (Listen h s p) = codes "listen" ∷ side_text h ∷ decimal s ∷ decimal p ∷ []
line_words (Connect h s e p) = codes "connect" ∷ side_text h ∷ decimal s ∷ endpoint_word e ∷ decimal p ∷ []
line_words (Send h s x) = codes "send" ∷ side_text h ∷ decimal s ∷ hex_word x ∷ []
line_words (Recv h s n) = codes "recv" ∷ side_text h ∷ decimal s ∷ decimal n ∷ []
line_words (Close h s) = codes "close" ∷ side_text h ∷ decimal s ∷ []
line_words (Abort h s) = codes "abort" ∷ side_text h ∷ decimal s ∷ []
line_words (State h s) = codes "state" ∷ side_text h ∷ decimal s ∷ []
line_words (Bind h s p) = codes "bind" ∷ side_text h ∷ decimal s ∷ decimal p ∷ []
line_words (Ident h s n) = codes "ident" ∷ side_text h ∷ decimal s ∷ decimal n ∷ []
line_words (SendTo h s e x) = codes "sendto" ∷ side_text h ∷ decimal s ∷ endpoint_word e ∷ hex_word x ∷ []
line_words (SendIcmp h s a x) = codes "sendicmp" ∷ side_text h ∷ decimal s ∷ ip_text a ∷ hex_word x ∷ []
line_words (SendRaw h s x) = codes "sendraw" ∷ side_text h ∷ decimal s ∷ hex_word x ∷ []
line_words (RecvFrom h s n) = codes "recvfrom" ∷ side_text h ∷ decimal s ∷ decimal n ∷ []
line_words (Addrs h blocks) = codes "addrs" ∷ side_text h ∷ map cidr_text blocks
line_words (Hw h a) = codes "hw" ∷ side_text h ∷ ethernet_text a.0 ∷ []
line_words (Route h a) = codes "route" ∷ side_text h ∷ ip_text a ∷ []
line_words (Poll h t n) = codes "poll" ∷ side_text h ∷ signed_decimal t ∷ decimal n ∷ []
line_words (PollAt h t) = codes "pollat" ∷ side_text h ∷ signed_decimal t ∷ []
line_words (Deliver h k x) = codes "deliver" ∷ side_text h ∷ decimal k ∷ hex_word x ∷ []
line_words (Damage h k p w x) = codes "damage" ∷ side_text h ∷ decimal k ∷ decimal p ∷ four_digits w ∷ hex_word x ∷ []
line_words (Noise h x) = codes "noise" ∷ side_text h ∷ hex_word x ∷ []
line_words (Room h n) = codes "room" ∷ side_text h ∷ decimal n ∷ []
line_words (Cut h k p) = codes "cut" ∷ side_text h ∷ decimal k ∷ decimal p ∷ []

-- the text of a line: its words one blank apart
abbrev pub line_text : Line → List ℕ
line_text line = join_with_byte 32 (line_words line)

-- VALUES THAT HAVE A TEXT

-- an instant that a script can name: not before the start
abbrev pub IsNamed : ℤ → Type 0
IsNamed (pos micros) = micros < 2 ^ 63
IsNamed (negsuc n) = ⊥

abbrev pub IsEndpoint : IpEndpoint → Type 0
IsEndpoint e = IsIpAddress e.addr × (e.port < 2 ^ 16)

abbrev pub AreIpBlocks : List IpCidr → Type 0
AreIpBlocks [] = Unit {0}
AreIpBlocks (cidr ∷ blocks) = IsIpAddress (cidr_address cidr) × AreIpBlocks blocks

abbrev pub AreSizes : QueueSizes → Type 0
AreSizes q = (q.receive_packets < 2 ^ 64) × (q.receive_bytes < 2 ^ 64) × (q.send_packets < 2 ^ 64) × (q.send_bytes < 2 ^ 64)

abbrev pub IsProtocol : Option ℕ → Type 0
IsProtocol (Some number) = number < 2 ^ 8
IsProtocol None = Unit {0}

abbrev pub IsSpec : SocketSpec → Type 0
IsSpec (Udp q) = AreSizes q
IsSpec (Icmp q) = AreSizes q
IsSpec (Raw v p q) = IsProtocol p × AreSizes q
IsSpec (Tcp s) = (s.receive_bytes < 2 ^ 64) × (s.send_bytes < 2 ^ 64)

-- a line has a text: its numbers fit their types, its addresses have the bytes of their families, and its instant isn't before the start
abbrev pub HasText : Line → Type 0
HasText (World m n) = n < 2 ^ 64
HasText (Socket h s) = IsSpec s
HasText Start = Unit {0}
HasText (Listen h s p) = (s < 2 ^ 64) × (p < 2 ^ 16)
HasText (Connect h s e p) = (s < 2 ^ 64) × IsEndpoint e × (p < 2 ^ 16)
HasText (Send h s x) = (s < 2 ^ 64) × IsBytes x
HasText (Recv h s n) = (s < 2 ^ 64) × (n < 2 ^ 64)
HasText (Close h s) = s < 2 ^ 64
HasText (Abort h s) = s < 2 ^ 64
HasText (State h s) = s < 2 ^ 64
HasText (Bind h s p) = (s < 2 ^ 64) × (p < 2 ^ 16)
HasText (Ident h s n) = (s < 2 ^ 64) × (n < 2 ^ 16)
HasText (SendTo h s e x) = (s < 2 ^ 64) × IsEndpoint e × IsBytes x
HasText (SendIcmp h s a x) = (s < 2 ^ 64) × IsIpAddress a × IsBytes x
HasText (SendRaw h s x) = (s < 2 ^ 64) × IsBytes x
HasText (RecvFrom h s n) = (s < 2 ^ 64) × (n < 2 ^ 64)
HasText (Addrs h blocks) = AreIpBlocks blocks × (length blocks ≤ 4)
HasText (Hw h a) = IsEthernetAddress a
HasText (Route h a) = IsIpAddress a
HasText (Poll h t n) = IsNamed t × (n < 2 ^ 16)
HasText (PollAt h t) = IsNamed t
HasText (Deliver h k x) = (k < 2 ^ 64) × IsBytes x
HasText (Damage h k p w x) = (k < 2 ^ 64) × (p < 2 ^ 64) × (w < 2 ^ 16) × IsBytes x
HasText (Noise h x) = IsBytes x
HasText (Room h n) = n < 2 ^ 64
HasText (Cut h k p) = (k < 2 ^ 64) × (p < 2 ^ 64)
