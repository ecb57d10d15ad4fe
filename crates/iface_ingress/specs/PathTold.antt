-- Messages that a packet was too long for its path (RFC 8201, section 4; RFC 1191, sections 3 to 5). Anyone can write one: it counts where the
-- packet that it quotes can have been sent from here (RFC 8201, section 4, and RFC 5927, section 4.1, for TCP).
use Rattle.std.specs.Prelude.{ℕ, nat_le, nat_lt, ◌==◌, ◌&&◌, Bool, true, false, if◌then◌else◌, List, [], ◌∷◌, length, find, Option, None, Some}
use Rattle.std.specs.List.{list_any}
use Rattle.wire_icmpv4.specs.declared.header.Icmpv4Header.{Icmpv4Header}
use Rattle.wire_icmpv4.specs.declared.header.Icmpv4Header.TheVariants as V4
use Rattle.wire_icmpv4.specs.declared.message.Icmpv4DstUnreachable.{Icmpv4DstUnreachable}
use Rattle.wire_icmpv4.specs.declared.message.Icmpv4DstUnreachable.TheVariants as Unreachable
use Rattle.wire_icmpv6.specs.Icmpv6 as Icmpv6
use Rattle.wire_icmpv6.specs.Icmpv6.{MessageValue}
use Rattle.wire_address.specs.Fields.{be16, be32}
use Rattle.ip_wire.specs.IpAddress.{IpAddress}
use Rattle.ip_wire.specs.IpAddress.TheVariants as Address
use Rattle.ip_wire.specs.IpProtocol.{IpProtocol}
use Rattle.ip_wire.specs.IpProtocol.TheVariants as Protocol
use Rattle.sockets.specs.TcpSocket as Tcps
use Rattle.sockets.specs.declared.socket.Socket.{Socket}
use Rattle.sockets.specs.declared.socket.Socket.TheVariants as Kind
use Rattle.iface_tables.specs.Inner.{InnerValue, is_local, with_path}
use Rattle.iface_ingress.specs.Delivered.{Slots, passes}

-- THE QUOTED PACKET: its protocol, its source and destination, and what is quoted after its header

-- The quoted segment's first eight bytes are its ports and its number: the connection of the socket has both ends, and the number is one
-- that was sent and isn't acknowledged.
abbrev pub has_sent : (source destination : IpAddress) → List ℕ → Socket → Bool
has_sent source destination bytes (Kind.Tcp v) =
    nat_le 8 (length bytes)
    && Tcps.has_sent v.tcb (record { addr = source; port = be16 bytes 0 }) (record { addr = destination; port = be16 bytes 2 })
    (record { 0 = be32 bytes 4 })
has_sent source destination bytes s = false

-- a segment was sent by a socket; of what else was sent the host keeps nothing
abbrev pub was_sent : Slots → IpProtocol → (source destination : IpAddress) → List ℕ → Bool
was_sent slots Protocol.Tcp source destination bytes = list_any (passes (has_sent source destination bytes)) slots
was_sent slots protocol source destination bytes = true

abbrev pub can_have_gone : InnerValue → Slots → IpProtocol → (source destination : IpAddress) → List ℕ → Bool
can_have_gone i slots protocol source destination bytes = is_local i source && was_sent slots protocol source destination bytes

-- WHAT IT TELLS

-- the path to the quoted packet's destination carries packets of so many bytes
abbrev pub told_host : InnerValue → Slots → IpProtocol → (source destination : IpAddress) → List ℕ → (told : ℕ) → InnerValue
told_host i slots protocol source destination bytes told =
    if can_have_gone i slots protocol source destination bytes then with_path i destination told else i

abbrev pub needs_cut : Icmpv4DstUnreachable → Bool
needs_cut Unreachable.FragRequired = true
needs_cut reason = false

-- the plateaus, near which the MTUs of links lie (RFC 1191, section 7.1)
abbrev pub plateaus : List ℕ
plateaus = 32_000 ∷ 17_914 ∷ 8_166 ∷ 4_352 ∷ 2_002 ∷ 1_492 ∷ 1_006 ∷ 508 ∷ 296 ∷ 68 ∷ []

abbrev pub or_lowest : Option ℕ → ℕ
or_lowest (Some plateau) = plateau
or_lowest None = 68

-- the highest of them that is below this length, else the lowest
abbrev pub plateau_below : ℕ → ℕ
plateau_below len = or_lowest (find (λ plateau. nat_lt plateau len) plateaus)

-- The next hop's MTU, in the message's bytes 6 and 7 (RFC 1191, section 4). An old router has 0 there: then it is estimated by the plateau
-- below the quoted packet's total length (section 5), which is in bytes 10 and 11, the second word of what is quoted.
abbrev pub told_by : List ℕ → ℕ
told_by message = if be16 message 6 == 0 then plateau_below (be16 message 10) else be16 message 6

-- Destination unreachable, fragmentation required
abbrev pub path_host_v4 : InnerValue → Slots → (message : List ℕ) → Icmpv4Header → List ℕ → InnerValue
path_host_v4 i slots message (V4.DstUnreachable reason quoted) bytes =
    if needs_cut reason && nat_le 12 (length message)
    then told_host i slots quoted.next_header (Address.Ipv4 quoted.src_addr) (Address.Ipv4 quoted.dst_addr) bytes (told_by message) else i
path_host_v4 i slots message header bytes = i

-- Packet too big (RFC 4443, section 3.2)
abbrev pub path_host_v6 : InnerValue → Slots → MessageValue → List ℕ → InnerValue
path_host_v6 i slots (Icmpv6.PktTooBig mtu quoted) bytes =
    told_host i slots quoted.next_header (Address.Ipv6 quoted.src_addr) (Address.Ipv6 quoted.dst_addr) bytes mtu
path_host_v6 i slots message bytes = i
