-- The lines of a script: one row a verb.
use Rattle.std.specs.Prelude.{ℕ, nat_lt, IsTrue, List, drop}
use Rattle.std.specs.List.{list_all}
use Rattle.ip_wire.specs.Text.{IsEndpointText, IsIpText, IsEthernetText}
use Rattle.sim_link.specs.Verbs.{verb_of}
use Rattle.sim_link.specs.Words.{words_of, side_of, medium_of, kind_of, version_of, protocol_of, size_of, short_of, four_digits_of, micros_of, hex_bytes_of}
use Rattle.sim_link.specs.Words.{First, FirstIs, AreBlocks, Reads, ReadsAll, Ends}
use Rattle.sim_link.specs.declared.kinds.Side.{Side}
use Rattle.sim_link.specs.declared.kinds.SocketKind.{SocketKind}
use Rattle.sim_link.specs.declared.kinds.SocketKind.TheVariants as kind
use Rattle.sim_link.specs.declared.kinds.SocketSpec.TheVariants.{Udp, Icmp, Raw, Tcp}
use Rattle.sim_link.specs.declared.kinds.QueueSizes.{QueueSizes}
use Rattle.sim_link.specs.declared.line.Line.{Line}
use Rattle.sim_link.specs.declared.line.Line.TheVariants.{World, Socket, Start, Listen, Connect, Send, Recv, Close, Abort, State, Bind, Ident, SendTo}
use Rattle.sim_link.specs.declared.line.Line.TheVariants.{SendIcmp, SendRaw, RecvFrom, Addrs, Hw, Route, Poll, PollAt, Deliver, Damage, Noise, Room, Cut}
use Rattle.sim_link.specs.declared.verb.Verb.{Verb}
use Rattle.sim_link.specs.declared.verb.Verb.TheVariants as verb
use Rattle.sim_link.specs.declared.verb.StreamVerb.{StreamVerb}
use Rattle.sim_link.specs.declared.verb.StreamVerb.TheVariants as stream
use Rattle.sim_link.specs.declared.verb.DatagramVerb.{DatagramVerb}
use Rattle.sim_link.specs.declared.verb.DatagramVerb.TheVariants as datagram
use Rattle.sim_link.specs.declared.verb.HostVerb.{HostVerb}
use Rattle.sim_link.specs.declared.verb.HostVerb.TheVariants as host
use Rattle.sim_link.specs.declared.verb.LinkVerb.{LinkVerb}
use Rattle.sim_link.specs.declared.verb.LinkVerb.TheVariants as link

-- CLASSES

-- `H`, then the rest
abbrev pub Host : (Side → List (List ℕ) → Line → Type 0) → List (List ℕ) → Line → Type 0
Host = Reads (First side_of)

-- an offset, a size or a count, then the rest
abbrev pub Size : (ℕ → List (List ℕ) → Line → Type 0) → List (List ℕ) → Line → Type 0
Size = Reads (First size_of)

-- a port, an identifier or a budget, then the rest
abbrev pub Short : (ℕ → List (List ℕ) → Line → Type 0) → List (List ℕ) → Line → Type 0
Short = Reads (First short_of)

-- bytes, then the rest
abbrev pub Hex : (List ℕ → List (List ℕ) → Line → Type 0) → List (List ℕ) → Line → Type 0
Hex = Reads (First hex_bytes_of)

-- `RP RB TP TB`: packets and bytes of the receive queue, then of the send queue
abbrev pub AreQueueSizes : List (List ℕ) → QueueSizes → Type 0
AreQueueSizes words q =
    First size_of words q.receive_packets
    × First size_of (drop 1 words) q.receive_bytes
    × First size_of (drop 1 (drop 1 words)) q.send_packets
    × First size_of (drop 1 (drop 1 (drop 1 words))) q.send_bytes

-- the sizes of a socket's queues, then the rest
abbrev pub Queues : (QueueSizes → List (List ℕ) → Line → Type 0) → List (List ℕ) → Line → Type 0
Queues next words line = (q : QueueSizes) × AreQueueSizes words q × next q (drop 1 (drop 1 (drop 1 (drop 1 words)))) line

-- what follows a socket's kind
abbrev pub IsSocket : Side → SocketKind → List (List ℕ) → Line → Type 0
IsSocket h kind.Udp = Queues (λ q. Ends (Socket h (Udp q)))
IsSocket h kind.Icmp = Queues (λ q. Ends (Socket h (Icmp q)))
IsSocket h kind.Raw = Reads (First version_of) (λ v. Reads (First protocol_of) (λ p. Queues (λ q. Ends (Socket h (Raw v p q)))))
IsSocket h kind.Tcp = Size (λ r. Size (λ s. Ends (Socket h (Tcp (record { receive_bytes = r; send_bytes = s })))))

-- ROWS

-- after `H S` of a call on a TCP socket
abbrev pub IsStream : StreamVerb → Side → ℕ → List (List ℕ) → Line → Type 0
IsStream stream.Listen h s = Short (λ p. Ends (Listen h s p))
IsStream stream.Connect h s = Reads (FirstIs IsEndpointText) (λ e. Short (λ p. Ends (Connect h s e p)))
IsStream stream.Send h s = Hex (λ x. Ends (Send h s x))
IsStream stream.Recv h s = Size (λ n. Ends (Recv h s n))
IsStream stream.Close h s = Ends (Close h s)
IsStream stream.Abort h s = Ends (Abort h s)
IsStream stream.State h s = Ends (State h s)

-- after `H S` of a call on another socket
abbrev pub IsDatagram : DatagramVerb → Side → ℕ → List (List ℕ) → Line → Type 0
IsDatagram datagram.Bind h s = Short (λ p. Ends (Bind h s p))
IsDatagram datagram.Ident h s = Short (λ n. Ends (Ident h s n))
IsDatagram datagram.SendTo h s = Reads (FirstIs IsEndpointText) (λ e. Hex (λ x. Ends (SendTo h s e x)))
IsDatagram datagram.SendIcmp h s = Reads (FirstIs IsIpText) (λ a. Hex (λ x. Ends (SendIcmp h s a x)))
IsDatagram datagram.SendRaw h s = Hex (λ x. Ends (SendRaw h s x))
IsDatagram datagram.RecvFrom h s = Size (λ n. Ends (RecvFrom h s n))

-- after `H` of a setting or a poll
abbrev pub IsHost : HostVerb → Side → List (List ℕ) → Line → Type 0
IsHost host.Addrs h = ReadsAll AreBlocks (Addrs h)
IsHost host.Hw h = Reads (FirstIs IsEthernetText) (λ a. Ends (Hw h a))
IsHost host.Route h = Reads (FirstIs IsIpText) (λ a. Ends (Route h a))
IsHost host.Poll h = Reads (First micros_of) (λ t. Short (λ n. Ends (Poll h t n)))
IsHost host.PollAt h = Reads (First micros_of) (λ t. Ends (PollAt h t))
IsHost host.Room h = Size (λ n. Ends (Room h n))

-- after `H` of an act of the link
abbrev pub IsLink : LinkVerb → Side → List (List ℕ) → Line → Type 0
IsLink link.Deliver h = Size (λ k. Hex (λ x. Ends (Deliver h k x)))
IsLink link.Damage h = Size (λ k. Size (λ p. Reads (First four_digits_of) (λ w. Hex (λ x. Ends (Damage h k p w x)))))
IsLink link.Noise h = Hex (λ x. Ends (Noise h x))
IsLink link.Cut h = Size (λ k. Size (λ p. Ends (Cut h k p)))

-- after a verb
abbrev pub IsLine : Verb → List (List ℕ) → Line → Type 0
IsLine verb.World = Reads (First medium_of) (λ m. Size (λ n. Ends (World m n)))
IsLine verb.Socket = Host (λ h. Reads (First kind_of) (λ k. IsSocket h k))
IsLine verb.Start = Ends Start
IsLine (verb.Stream v) = Host (λ h. Size (λ s. IsStream v h s))
IsLine (verb.Datagram v) = Host (λ h. Size (λ s. IsDatagram v h s))
IsLine (verb.Host v) = Host (λ h. IsHost v h)
IsLine (verb.Link v) = Host (λ h. IsLink v h)

-- what the words of a line say
abbrev pub SaysWords : List (List ℕ) → Line → Type 0
SaysWords = Reads (First verb_of) IsLine

-- what a line of a script says: ASCII text, its words one blank apart
abbrev pub SaysLine : List ℕ → Line → Type 0
SaysLine text line = IsTrue (list_all (λ b. nat_lt b 128) text) × SaysWords (words_of 32 text) line
