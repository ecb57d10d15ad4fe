-- What a frame brings to a host (RFC 791 and RFC 1122, section 3.2; RFC 8200; RFC 826).
use Rattle.std.specs.Prelude.{◌≡◌, ℕ, Bool, true, false, if◌then◌else◌, List, Option, None, Some, IfSome}
use Rattle.ip_wire.specs.AddressTests.{is_unicast_v6}
use Rattle.ip_wire.specs.declared.ethernet.repr.EthernetRepr.{EthernetRepr}
use Rattle.ip_wire.specs.HardwareAddress.TheVariants as Hardware
use Rattle.ip_wire.specs.IpAddress.{IpAddress}
use Rattle.ip_wire.specs.IpAddress.TheVariants as Address
use Rattle.ip_wire.specs.IpRepr.{IpRepr}
use Rattle.ip_wire.specs.IpRepr.TheVariants as Ip
use Rattle.ip_wire.specs.declared.arp.repr.ArpRepr.{ArpRepr}
use Rattle.socket_context.specs.Packet.{PacketValue, PayloadValue, IsSendable, packet_value}
use Rattle.iface_ingress.specs.UpperLayer.{IsCarriedContent}
use Rattle.iface_ingress.specs.Upper.{upper_header, upper_payload}
use Rattle.iface_ingress.specs.Incoming.{IncomingValue, Arp, Ip4, Ip6, IsContent}
use Rattle.iface_ingress.specs.Arp.{arp_arrived, arp_answer}
use Rattle.iface_ingress.specs.Replies.{is_one_host}
use Rattle.iface_tables.specs.Inner.{InnerValue, is_for_us, with_renewal}
use Rattle.iface_ingress.specs.Delivered.{Slots, is_taken_raw, packet_delivered}
use Rattle.iface_ingress.specs.Processed.{limited_host, limited_reply, HandsTo}
use Rattle.iface_ingress.specs.Reassembled.{Assemblers, taken_in, slot_in, kept, with_room, whole_of, released}
use Rattle.iface_ingress.specs.declared.reply.Reply.{Reply}
use Rattle.iface_ingress.specs.declared.reply.Reply.TheVariants as Answer

-- what is sent at once in answer to a frame
pub data ReplyValue : Type 0 where
  Tells : ArpRepr → ReplyValue
  Answers : PacketValue → ReplyValue

-- the host, its sockets and the answer
pub record Arrived : Type 0 where
  pub inner : InnerValue
  pub slots : Slots
  pub reply : Option ReplyValue

abbrev pub arrived : InnerValue → Slots → Option ReplyValue → Arrived
arrived inner slots reply = record { inner = inner; slots = slots; reply = reply }

abbrev pub told : Option ArpRepr → Option ReplyValue
told None = None
told (Some packet) = Some (Tells packet)

abbrev pub answered : Option PacketValue → Option ReplyValue
answered None = None
answered (Some packet) = Some (Answers packet)

-- an answer, wherever its bytes lie
abbrev pub reply_of : Option Reply → Option ReplyValue
reply_of None = None
reply_of (Some (Answer.Arp packet)) = Some (Tells packet)
reply_of (Some (Answer.Packet packet)) = Some (Answers (packet_value packet))

-- a packet that answers can be sent
abbrev pub CanGo : ReplyValue → Type 0
CanGo (Tells packet) = Unit {0}
CanGo (Answers packet) = IsSendable packet

abbrev pub IfCanGo : Option ReplyValue → Type 0
IfCanGo reply = IfSome reply CanGo

-- PAYLOADS

-- the host, the sockets and the answer after a payload
pub record IsHanded (i : InnerValue) (slots : Slots) (ip : IpRepr) (payload : List ℕ) (taken : Bool) (carried : Option PayloadValue)
    (a : Arrived) : Type 0 where
  pub inner : a.inner ≡ limited_host i slots ip payload taken carried
  pub slots_are : HandsTo i slots ip carried a.slots
  pub reply : a.reply ≡ answered (limited_reply i slots ip payload taken carried)

-- a packet of which these bytes after this header count
abbrev pub HandsUpper : InnerValue → Slots → IpRepr → List ℕ → Bool → IpRepr → List ℕ → Arrived → Type 0
HandsUpper i slots ip payload taken upper bytes a =
    (carried : Option PayloadValue) × IsCarriedContent i.checksums upper bytes carried × IsHanded i slots ip payload taken carried a

-- what counts stands after its extension headers
abbrev pub Hands : InnerValue → Slots → IpRepr → List ℕ → Bool → Arrived → Type 0
Hands i slots ip payload taken a = HandsUpper i slots ip payload taken (upper_header ip payload) (upper_payload ip payload) a

-- nothing is answered
pub record IsSilent (i : InnerValue) (slots : Slots) (a : Arrived) : Type 0 where
  pub inner : a.inner ≡ i
  pub slots_are : a.slots ≡ slots
  pub reply : a.reply ≡ None

-- IP

-- the sender's hardware address is believed again, if it is the one that is known
abbrev pub renewed_by : InnerValue → Option EthernetRepr → IpAddress → InnerValue
renewed_by i None sender = i
renewed_by i (Some link) sender = with_renewal i sender (Hardware.Ethernet link.src_addr)

-- a packet for one host
abbrev pub is_direct : InnerValue → IpRepr → Bool
is_direct i (Ip.Ipv4 header) = is_one_host i header.dst_addr
is_direct i (Ip.Ipv6 header) = is_unicast_v6 header.dst_addr

abbrev pub sender_of : IpRepr → IpAddress
sender_of (Ip.Ipv4 header) = Address.Ipv4 header.src_addr
sender_of (Ip.Ipv6 header) = Address.Ipv6 header.src_addr

abbrev pub renewed : InnerValue → Option EthernetRepr → IpRepr → InnerValue
renewed i link ip = if is_direct i ip then renewed_by i link (sender_of ip) else i

-- A whole IPv4 packet: raw sockets get it first, whomever it is for. Then its payload counts if it is for the host.
abbrev pub ArrivesV4 : Bool → InnerValue → Slots → Option EthernetRepr → IpRepr → List ℕ → Arrived → Type 0
ArrivesV4 true i slots link ip payload a =
    Hands (renewed i link ip) (packet_delivered ip payload slots) ip payload (is_taken_raw ip slots) a
ArrivesV4 false i slots link ip payload a = IsSilent i (packet_delivered ip payload slots) a

-- An IPv6 packet: it is for the host, or it is dropped.
abbrev pub ArrivesV6 : Bool → InnerValue → Slots → Option EthernetRepr → IpRepr → List ℕ → Arrived → Type 0
ArrivesV6 true i slots link ip payload a =
    Hands (renewed i link ip) (packet_delivered ip payload slots) ip payload (is_taken_raw ip slots) a
ArrivesV6 false i slots link ip payload a = IsSilent i slots a

-- CONTENT

-- an ARP packet
pub record IsTold (i : InnerValue) (slots : Slots) (packet : ArpRepr) (a : Arrived) : Type 0 where
  pub inner : a.inner ≡ arp_arrived i packet
  pub slots_are : a.slots ≡ slots
  pub reply : a.reply ≡ told (arp_answer i packet)

-- what is whole of a content
abbrev pub Brings : InnerValue → Slots → Option IncomingValue → Arrived → Type 0
Brings i slots None a = IsSilent i slots a
Brings i slots (Some (Arp link packet)) a = IsTold i slots packet a
Brings i slots (Some (Ip4 link header fragment payload)) a =
    ArrivesV4 (is_for_us i (Address.Ipv4 header.dst_addr)) i slots link (Ip.Ipv4 header) payload a
Brings i slots (Some (Ip6 link header payload)) a =
    ArrivesV6 (is_for_us i (Address.Ipv6 header.dst_addr)) i slots link (Ip.Ipv6 header) payload a

-- FRAMES

-- the slots after what the host takes in of a content
abbrev pub assemblers_after : InnerValue → ℕ → Assemblers → Option IncomingValue → Assemblers
assemblers_after i timeout assemblers content = released (slot_in assemblers content) (kept i timeout assemblers content)

-- what is whole after a content: itself, or the datagram that it completes
abbrev pub whole_after : InnerValue → ℕ → Assemblers → Option IncomingValue → Option IncomingValue
whole_after i timeout assemblers content = whole_of (kept i timeout assemblers content) (slot_in assemblers content) content

-- what is whole after a frame's content, of which the host takes in what is for it, in the slots with room for it
abbrev pub whole_arrived : InnerValue → ℕ → Assemblers → Option IncomingValue → Option IncomingValue
whole_arrived i timeout assemblers content = whole_after i timeout (with_room i assemblers (taken_in i content)) (taken_in i content)

-- a frame's content arrives: the slots after it, and what it brings
abbrev pub ArrivesAs : InnerValue → ℕ → Assemblers → Slots → Option IncomingValue → Assemblers → Arrived → Type 0
ArrivesAs i timeout assemblers slots content assemblers' a =
    (assemblers' ≡ assemblers_after i timeout (with_room i assemblers (taken_in i content)) (taken_in i content))
    × Brings i slots (whole_arrived i timeout assemblers content) a

-- a frame arrives
abbrev pub Arrives : InnerValue → ℕ → Assemblers → Slots → List ℕ → Assemblers → Arrived → Type 0
Arrives i timeout assemblers slots frame assemblers' a =
    (content : Option IncomingValue) × IsContent i.hardware i.checksums frame content × ArrivesAs i timeout assemblers slots content assemblers' a
