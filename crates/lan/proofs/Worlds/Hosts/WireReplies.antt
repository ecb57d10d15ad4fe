-- What a host answers at once: in ARP a reply, else a packet that may go.
use Rattle.std.proofs.Common.{ℕ, Bool, true, false, cond, List, Option, Some, None, IfSome, refl, sym, subst}
use Rattle.std.specs.Prelude.{◌||◌}
use Rattle.interface.specs.IpRepr.{IpRepr}
use Rattle.interface.specs.IpRepr.TheVariants as Ip
use Rattle.iface_ingress.specs.Arp as Arps
use Rattle.iface_ingress.specs.Arp.{answer_at}
use Rattle.iface_ingress.specs.ArpRepr.{ArpRepr}
use Rattle.iface_ingress.specs.ArpRepr.TheVariants as ArpIs
use Rattle.iface_ingress.specs.Arrives.{Arrived, ArrivesV4, ArrivesV6, Brings, Hands, ReplyValue, Tells, Answers, told, answered, renewed}
use Rattle.iface_ingress.specs.Delivered.{packet_delivered, is_taken_raw}
use Rattle.iface_ingress.specs.EthernetRepr.{EthernetRepr}
use Rattle.iface_ingress.specs.Processed.{handed_reply, is_unclaimed, limited_reply}
use Rattle.iface_ingress.proofs.Limit.{let_go_so}
use Rattle.iface_ingress.specs.HardwareAddress.{HardwareAddress}
use Rattle.iface_ingress.specs.HardwareAddress.TheVariants as Hardware
use Rattle.iface_ingress.specs.Incoming.{IncomingValue, Arp, Ip4, Ip6}
use Rattle.iface_ingress.specs.IpAddress.TheVariants as Address
use Rattle.iface_tables.specs.Inner.{InnerValue, is_for_us}
use Rattle.lan.specs.Worlds.AtLink.ArpOperation.TheVariants as Operation
use Rattle.sockets.specs.Packet.{PacketValue, PayloadValue}
use Rattle.lan.proofs.Worlds.Hosts.WireFrames.{IsReply}
use Rattle.lan.proofs.Worlds.Moves.Slots.{Slots}

module _ (May : IpRepr → PayloadValue → Type 0) where
  abbrev MayGo : PacketValue → Type 0
  MayGo p = May p.header p.payload

  -- whatever is handed to a host, its answer may go
  abbrev pub RepliesMayGo : Type 0
  RepliesMayGo = (i : InnerValue) (slots : Slots) (ip : IpRepr) (payload : List ℕ) (taken : Bool) (carried : Option PayloadValue)
      → IfSome (handed_reply i slots ip payload taken carried) MayGo

  abbrev pub MayReply : ReplyValue → Type 0
  MayReply (Tells packet) = IsReply packet
  MayReply (Answers p) = MayGo p

  abbrev MayBeReply : Option ReplyValue → Type 0
  MayBeReply reply = IfSome reply MayReply

  answer_at_is : (hardware : HardwareAddress) (packet : ArpRepr) → MayBeReply (told (answer_at hardware packet))
  answer_at_is (Hardware.Ethernet own) (ArpIs.EthernetIpv4 Operation.Request source source_protocol target target_protocol) = refl
  answer_at_is (Hardware.Ethernet own) (ArpIs.EthernetIpv4 Operation.Reply source source_protocol target target_protocol) = tt
  answer_at_is (Hardware.Ethernet own) (ArpIs.EthernetIpv4 (Operation.Unknown n) source source_protocol target target_protocol) = tt
  answer_at_is Hardware.Ip (ArpIs.EthernetIpv4 operation source source_protocol target target_protocol) = tt

  answer_by : (b : Bool) (hardware : HardwareAddress) (packet : ArpRepr) → MayBeReply (told (cond b (answer_at hardware packet) None))
  answer_by true hardware packet = answer_at_is hardware packet
  answer_by false hardware packet = tt

  answered_may : (o : Option PacketValue) → IfSome o MayGo → MayBeReply (answered o)
  answered_may None may = tt
  answered_may (Some p) may = may

  module _ (replies : RepliesMayGo) where
    hands_may : (i : InnerValue) (slots : Slots) (ip : IpRepr) (payload : List ℕ) (taken : Bool) (a : Arrived) → Hands i slots ip payload taken a →
        MayBeReply a.reply
    hands_may i slots ip payload taken a (carried, is, so) =
        subst MayBeReply (sym so.reply)
        (answered_may (limited_reply i slots ip payload taken carried)
        (let_go_so MayGo (is_unclaimed i slots ip carried) i (handed_reply i slots ip payload taken carried) (replies i slots ip payload taken carried)))

    v4_may : (ours : Bool) (i : InnerValue) (slots : Slots) (link : Option EthernetRepr) (ip : IpRepr) (payload : List ℕ) (a : Arrived) →
        ArrivesV4 ours i slots link ip payload a → MayBeReply a.reply
    v4_may true i slots link ip payload a is = hands_may (renewed i link ip) (packet_delivered ip payload slots) ip payload (is_taken_raw ip slots) a is
    v4_may false i slots link ip payload a is = subst MayBeReply (sym is.reply) tt

    v6_may : (ours : Bool) (i : InnerValue) (slots : Slots) (link : Option EthernetRepr) (ip : IpRepr) (payload : List ℕ) (a : Arrived) →
        ArrivesV6 ours i slots link ip payload a → MayBeReply a.reply
    v6_may true i slots link ip payload a is = hands_may (renewed i link ip) (packet_delivered ip payload slots) ip payload (is_taken_raw ip slots) a is
    v6_may false i slots link ip payload a is = subst MayBeReply (sym is.reply) tt

    pub brings_may : (i : InnerValue) (slots : Slots) (content : Option IncomingValue) (a : Arrived) → Brings i slots content a → MayBeReply a.reply
    brings_may i slots None a is = subst MayBeReply (sym is.reply) tt
    brings_may i slots (Some (Arp link packet)) a is =
        subst MayBeReply (sym is.reply) (answer_by (Arps.counts i packet || Arps.probes i packet) i.hardware packet)
    brings_may i slots (Some (Ip4 link header fragment payload)) a is =
        v4_may (is_for_us i (Address.Ipv4 header.dst_addr)) i slots link (Ip.Ipv4 header) payload a is
    brings_may i slots (Some (Ip6 link header payload)) a is =
        v6_may (is_for_us i (Address.Ipv6 header.dst_addr)) i slots link (Ip.Ipv6 header) payload a is
