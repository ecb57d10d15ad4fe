-- What is wrong with a frame that came, as its own bytes say.
use Rattle.std.specs.Prelude.{ℕ, ◌+◌, ◌*◌, ◌/◌, ◌%◌, ◌^◌, ◌-◌, ◌==◌, ◌&&◌, ◌||◌, nat_lt, not, min, if◌then◌else◌, Bool, true, false, List, [], ◌∷◌}
use Rattle.std.specs.Prelude.{length, sum, slice_index, slice_range, take, drop, Option, None, Some}
use Rattle.wire_address.specs.Fields.{be16}
use Rattle.wire_address.specs.Sum.{word_sum, folded}
use Rattle.net_base.specs.Medium.{Medium}
use Rattle.net_base.specs.Medium.TheVariants.{Ethernet, Ip}
use Rattle.app_tun_services.specs.Link.Reset.{head_len}
use Rattle.app_tun_services.specs.declared.link.fault.Fault.{Fault}
use Rattle.app_tun_services.specs.declared.link.fault.Fault.TheVariants as Is
use Rattle.app_tun_services.specs.declared.link.fault.Faults.{Faults}
use Rattle.app_tun_services.specs.declared.link.fault.Kind.{Kind}
use Rattle.app_tun_services.specs.declared.link.fault.Kind.TheVariants as Of

-- THE KIND OF A FRAME

abbrev pub ethernet_kind : ℕ → Kind
ethernet_kind ethertype = if ethertype == 2048 then Of.V4 else if ethertype == 34525 then Of.V6 else if ethertype == 2054 then Of.Arp else Of.Unknown

abbrev pub version_kind : ℕ → Kind
version_kind version = if version == 4 then Of.V4 else if version == 6 then Of.V6 else Of.Unknown

-- by its EtherType on Ethernet, by its version on a link of IP packets
abbrev pub kind_of : Medium → List ℕ → Kind
kind_of Ethernet frame = ethernet_kind (be16 frame 12)
kind_of Ip frame = version_kind (slice_index frame 0 / 16)

-- CHECKSUMS: the one's complement sum of what a checksum covers, itself included, is all ones (RFC 1071)

abbrev pub is_right : ℕ → Bool
is_right sum = sum == 65535

-- the sum of a payload and of its pseudo header: the addresses, the protocol, and the length (RFC 9293, 3.1; RFC 768; RFC 8200, 8.1)
abbrev pub sum_with : ℕ → List ℕ → List ℕ → ℕ
sum_with protocol addresses payload =
    folded (sum (folded (word_sum addresses) ∷ protocol ∷ length payload % 65536 ∷ folded (word_sum payload) ∷ []))

-- its own length fits, and its checksum holds; over IPv4 a checksum of 0 stands for none
abbrev pub is_datagram_right : List ℕ → List ℕ → Bool
is_datagram_right addresses payload =
    if nat_lt (be16 payload 4) 8 || nat_lt (length payload) (be16 payload 4) then false
    else if (length addresses == 8) && (be16 payload 6 == 0) then true
    else is_right (sum_with 17 addresses (take (be16 payload 4) payload))

-- ICMP (1) has a checksum of its message alone; TCP (6), UDP (17) and ICMPv6 (58) have one with the pseudo header
abbrev pub is_carried_right : ℕ → List ℕ → List ℕ → Bool
is_carried_right protocol addresses payload =
    if protocol == 1 then is_right (folded (word_sum payload))
    else if (protocol == 6) || (protocol == 58) then is_right (sum_with protocol addresses payload)
    else if protocol == 17 then is_datagram_right addresses payload
    else true

abbrev pub fault_carried : ℕ → List ℕ → List ℕ → Option Fault
fault_carried protocol addresses payload = if is_carried_right protocol addresses payload then None else Some Is.Checksum

-- PACKETS

-- how many bytes its header says that it has
abbrev pub head_of : List ℕ → ℕ
head_of packet = slice_index packet 0 % 16 * 4

-- a header has twenty bytes at least, is no longer than the packet, and that isn't longer than what came (RFC 791)
abbrev pub is_cut : List ℕ → Bool
is_cut packet = nat_lt (head_of packet) 20 || nat_lt (be16 packet 2) (head_of packet) || nat_lt (length packet) (be16 packet 2)

-- what a piece carries isn't looked at
abbrev pub fault_whole : List ℕ → Option Fault
fault_whole packet =
    if not (be16 packet 6 % 16384 == 0) then None
    else fault_carried (slice_index packet 9) (slice_range packet 12 20) (slice_range packet (head_of packet) (be16 packet 2))

abbrev pub fault_v4 : List ℕ → Option Fault
fault_v4 packet =
    if is_cut packet then Some Is.Header
    else if not (is_right (folded (word_sum (take (head_of packet) packet)))) then Some Is.Header
    else fault_whole packet

-- forty bytes, and as many as they say (RFC 8200); nothing is looked for after extension headers
abbrev pub fault_v6 : List ℕ → Option Fault
fault_v6 packet =
    if nat_lt (length packet) (40 + be16 packet 4) then Some Is.Header
    else fault_carried (slice_index packet 6) (slice_range packet 8 40) (slice_range packet 40 (40 + be16 packet 4))

abbrev pub fault_by : Kind → List ℕ → Option Fault
fault_by Of.V4 packet = fault_v4 packet
fault_by Of.V6 packet = fault_v6 packet
fault_by Of.Arp packet = None
fault_by Of.Unknown packet = Some Is.Unknown

abbrev pub fault_of : Medium → List ℕ → Option Fault
fault_of medium frame = fault_by (kind_of medium frame) (drop (min (head_len medium) (length frame)) frame)

-- COUNTS, each to the largest number of 64 bits

abbrev pub no_faults : Faults
no_faults = record { unknown = 0; header = 0; checksum = 0 }

abbrev pub one_more : ℕ → ℕ
one_more n = min (n + 1) (2 ^ 64 - 1)

abbrev pub with_fault : Option Fault → Faults → Faults
with_fault None f = f
with_fault (Some Is.Unknown) f = record f { unknown = one_more f.unknown }
with_fault (Some Is.Header) f = record f { header = one_more f.header }
with_fault (Some Is.Checksum) f = record f { checksum = one_more f.checksum }
