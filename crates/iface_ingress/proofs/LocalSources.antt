-- What a host answers leaves from a local address.
use Rattle.std.proofs.Common.{◌≡◌, ℕ, zero, suc, Bool, true, false, if◌then◌else◌, List, [], ◌∷◌, ◌++◌, take, drop, Option, None, Some, refl, ap, ◌∙◌, sym}
use Rattle.std.proofs.lemmas.Slice.Eq.{bytes_eq-Decides}
use Rattle.std.specs.Prelude.{◌&&◌, ◌||◌, ◌==◌, ◌/◌, not, replicate, slice_index, slice_get, position}
use Rattle.std.specs.List.{list_any}
use Rattle.std.specs.Str.{bytes_eq}
use Rattle.wire_icmpv4.specs.declared.header.Icmpv4Header.{Icmpv4Header}
use Rattle.wire_icmpv6.specs.Icmpv6 as Icmpv6
use Rattle.wire_address.specs.Address.{solicited_prefix}
use Rattle.ip_wire.specs.AddressTests.{is_multicast, is_multicast_v4, is_multicast_v6, is_unicast_v4, is_unicast_v6, is_unspecified, is_unspecified_v4, is_unspecified_v6}
use Rattle.ip_wire.specs.AddressTests.{is_broadcast_v4, is_ethernet_unicast, is_solicited_node, is_loopback_v6}
use Rattle.ip_wire.specs.declared.arp.kinds.ArpOperation.{ArpOperation}
use Rattle.ip_wire.specs.declared.arp.kinds.ArpOperation.TheVariants as Operation
use Rattle.ip_wire.specs.declared.arp.repr.ArpRepr.{ArpRepr}
use Rattle.ip_wire.specs.declared.arp.repr.ArpRepr.TheVariants as Arp
use Rattle.ip_wire.specs.EthernetAddress.{EthernetAddress}
use Rattle.ip_wire.specs.HardwareAddress.{HardwareAddress}
use Rattle.ip_wire.specs.HardwareAddress.TheVariants as Hardware
use Rattle.ip_wire.specs.Ip.{source_of, destination_of}
use Rattle.ip_wire.specs.IpAddress.{IpAddress}
use Rattle.ip_wire.specs.IpAddress.TheVariants as Address
use Rattle.ip_wire.specs.IpCidr.{IpCidr}
use Rattle.ip_wire.specs.IpCidr.TheVariants as Tcb
use Rattle.ip_wire.specs.IpRepr.{IpRepr}
use Rattle.ip_wire.specs.IpRepr.TheVariants as Ip
use Rattle.ip_wire.specs.Ipv4Address.{Ipv4Address}
use Rattle.ip_wire.specs.Ipv4Repr.{Ipv4Repr}
use Rattle.ip_wire.specs.Ipv6Address.{Ipv6Address}
use Rattle.ip_wire.specs.Ipv6Repr.{Ipv6Repr}
use Rattle.ip_wire.specs.TcpHeader.{TcpHeader}
use Rattle.sockets.specs.TcpSegments.{rst_reply}
use Rattle.socket_context.specs.Packet.{PacketValue, PayloadValue, ControlV4, ControlV6}
use Rattle.iface_tables.specs.Best.{at_index}
use Rattle.iface_tables.specs.Groups.{GroupsValue, is_joined, is_of}
use Rattle.iface_tables.specs.Inner.{InnerValue, is_address_of, is_local, is_for_us, is_member_of, is_local_broadcast, is_all_systems, is_all_nodes, is_loopback_in}
use Rattle.iface_tables.specs.Inner.{solicits, solicits_cidr, is_local_solicited_node, is_probed}
use Rattle.iface_tables.specs.Source.{source_v6, first_v4, is_v4, v4_address}
use Rattle.iface_ingress.specs.Answering.{sender_in}
use Rattle.iface_ingress.specs.Arp.{counts, is_sound, probes, answer_at, arp_answer}
use Rattle.iface_ingress.specs.Processed.{is_for_many, names_no_endpoint}
use Rattle.iface_ingress.specs.Ndisc.{is_asked, advertisement, answer}
use Rattle.iface_ingress.specs.Replies.{is_one_host, is_echo_reply, source_of_reply, sent_v4, reply_v4, reply_v6}

-- AN ADDRESS TO WHICH A PACKET FOR THE HOST, AND FOR ONE HOST, WAS SENT

no_or : (a b : Bool) → (a || b) ≡ false → (a ≡ false) × (b ≡ false)
no_or true b is = absurd (let clash : true ≡ false = is in cc)
no_or false b is = (refl, is)

not_true : (b : Bool) → (b ≡ true → ⊥) → b ≡ false
not_true true never = absurd (never refl)
not_true false never = refl

pub clash : {X : Type 0} (b : Bool) → b ≡ true → b ≡ false → X
clash b holds never = absurd (let it : true ≡ false = sym holds ∙ never in cc)

local_by : (local member wide loop : Bool) → (local || member || wide || loop) ≡ true → member ≡ false → wide ≡ false → loop ≡ false → local ≡ true
local_by true member wide loop is group all itself = refl
local_by false true wide loop is group all itself = clash true refl group
local_by false false true loop is group all itself = clash true refl all
local_by false false false true is group all itself = clash true refl itself
local_by false false false false is group all itself = clash false is refl

systems_are_many : (a : Ipv4Address) → is_all_systems a ≡ true → is_multicast_v4 a ≡ true
systems_are_many a is = ap (λ (bs : List ℕ). slice_index bs 0 / 16 == 14) ((bytes_eq-Decides a.0 (224 ∷ 0 ∷ 0 ∷ 1 ∷ [])).0 is)

nodes_are_many : (a : Ipv6Address) → is_all_nodes a ≡ true → is_multicast_v6 a ≡ true
nodes_are_many a is = ap (λ (bs : List ℕ). slice_index bs 0 == 0xff) ((bytes_eq-Decides a.0 (0xff ∷ 2 ∷ replicate 13 0 ++ 1 ∷ [])).0 is)

first_taken : (bs : List ℕ) → slice_index (take 13 bs) 0 ≡ slice_index bs 0
first_taken [] = refl
first_taken (b ∷ bs) = refl

solicited_are_many : (a : Ipv6Address) → is_solicited_node a ≡ true → is_multicast_v6 a ≡ true
solicited_are_many a is =
    ap (λ (n : ℕ). n == 0xff) (sym (first_taken a.0))
    ∙ ap (λ (bs : List ℕ). slice_index bs 0 == 0xff) ((bytes_eq-Decides (take 13 a.0) solicited_prefix).0 is)

not_second : (a b : Bool) → (a && (false && b)) ≡ false
not_second true b = refl
not_second false b = refl

-- none but such a group is that of a local address
none_solicits : (group : Ipv6Address) (blocks : List IpCidr) → is_solicited_node group ≡ false → list_any (solicits_cidr group) blocks ≡ false
none_solicits group [] never = refl
none_solicits group (Tcb.Ipv4 b ∷ blocks) never = none_solicits group blocks never
none_solicits group (Tcb.Ipv6 b ∷ blocks) never =
    ap (λ (first : Bool). first || list_any (solicits_cidr group) blocks)
    (ap (λ (is : Bool). not (is_loopback_v6 b.address) && (is && bytes_eq (drop 13 group.0) (drop 13 b.address.0))) never
    ∙ not_second (not (is_loopback_v6 b.address)) (bytes_eq (drop 13 group.0) (drop 13 b.address.0)))
    ∙ none_solicits group blocks never

neither : (a b : Bool) → a ≡ false → b ≡ false → (a || b) ≡ false
neither false false one other = refl
neither true b one other = clash true refl one
neither false true one other = clash true refl other

and_not : (a b : Bool) → b ≡ false → (a && b) ≡ false
and_not false b is = refl
and_not true b is = is

-- what was joined is a group
not_joined : (groups : GroupsValue) (a : IpAddress) → is_multicast a ≡ false → is_joined groups a ≡ false
not_joined groups a one = and_not (list_any (is_of a) groups.entries) (is_multicast a) one

-- a group of the host's is a group
no_member : (i : InnerValue) (a : IpAddress) → is_multicast a ≡ false → is_member_of i a ≡ false
no_member i (Address.Ipv4 a) one =
    neither (is_all_systems a) (is_joined i.groups (Address.Ipv4 a))
    (not_true (is_all_systems a) (λ is. clash (is_multicast_v4 a) (systems_are_many a is) one))
    (not_joined i.groups (Address.Ipv4 a) one)
no_member i (Address.Ipv6 a) one =
    neither (is_all_nodes a || list_any (solicits_cidr a) i.addresses) (is_joined i.groups (Address.Ipv6 a))
    (neither (is_all_nodes a) (list_any (solicits_cidr a) i.addresses)
    (not_true (is_all_nodes a) (λ is. clash (is_multicast_v6 a) (nodes_are_many a is) one))
    (none_solicits a i.addresses (not_true (is_solicited_node a) (λ is. clash (is_multicast_v6 a) (solicited_are_many a is) one))))
    (not_joined i.groups (Address.Ipv6 a) one)

pub own_of : (i : InnerValue) (a : IpAddress) → is_for_us i a ≡ true → is_for_many i a ≡ false → is_loopback_in a ≡ false → is_local i a ≡ true
own_of i a ours one elsewhere =
    let parts = no_or (is_local_broadcast i a) (is_multicast a) one in
    local_by (is_local i a) (is_member_of i a) (is_local_broadcast i a) (is_loopback_in a) ours (no_member i a parts.1) parts.0 elsewhere

-- IPv4

no_group : (none many all : Bool) → not (none || many || all) ≡ true → many ≡ false
no_group false false false one = refl
no_group false true all one = clash false one refl
no_group false false true one = refl
no_group true many all one = clash false one refl

both : (a b : Bool) → (a && not b) ≡ true → (a ≡ true) × (b ≡ false)
both true false is = (refl, refl)
both true true is = clash false is refl
both false b is = clash false is refl

one_is_local : (i : InnerValue) (a : Ipv4Address) → is_for_us i (Address.Ipv4 a) ≡ true → is_one_host i a ≡ true → is_local i (Address.Ipv4 a) ≡ true
one_is_local i a ours one =
    let parts = both (is_unicast_v4 a) (is_local_broadcast i (Address.Ipv4 a)) one in
    own_of i (Address.Ipv4 a) ours
    (neither (is_local_broadcast i (Address.Ipv4 a)) (is_multicast_v4 a) parts.1
    (no_group (is_unspecified_v4 a) (is_multicast_v4 a) (is_broadcast_v4 a) parts.0))
    refl

-- the first local address is an own one
pub or_later : (a b : Bool) → b ≡ true → (a || b) ≡ true
or_later true b is = refl
or_later false b is = is

pub or_first : (a b : Bool) → a ≡ true → (a || b) ≡ true
or_first true b is = refl
or_first false b is = clash false is refl

at_any : (blocks : List IpCidr) (n : ℕ) (f : Ipv4Address) → v4_address (slice_get blocks n) ≡ Some f → list_any (is_address_of (Address.Ipv4 f)) blocks ≡ true
at_any [] n f is = absurd (cc is)
at_any (Tcb.Ipv4 b ∷ blocks) zero f is =
    or_first (bytes_eq b.address.0 f.0) (list_any (is_address_of (Address.Ipv4 f)) blocks)
    ((bytes_eq-Decides b.address.0 f.0).1 (let same : b.address ≡ f = cc is in ap (λ (a : Ipv4Address). a.0) same))
at_any (Tcb.Ipv6 b ∷ blocks) zero f is = absurd (cc is)
at_any (b ∷ blocks) (suc n) f is =
    or_later (is_address_of (Address.Ipv4 f) b) (list_any (is_address_of (Address.Ipv4 f)) blocks) (at_any blocks n f is)

pub at_some : (blocks : List IpCidr) (slot : Option ℕ) (f : Ipv4Address) → v4_address (at_index slot blocks) ≡ Some f
    → list_any (is_address_of (Address.Ipv4 f)) blocks ≡ true
at_some blocks None f is = absurd (cc is)
at_some blocks (Some n) f is = at_any blocks n f is

first_is_local : (i : InnerValue) (f : Ipv4Address) → first_v4 i.addresses ≡ Some f → is_local i (Address.Ipv4 f) ≡ true
first_is_local i f is =
    or_later i.any_ip (list_any (is_address_of (Address.Ipv4 f)) i.addresses) (at_some i.addresses (position is_v4 i.addresses) f is)

one_packet : (q p : PacketValue) → Some q ≡ Some p → q ≡ p
one_packet q p is = cc is

from_v4 : (i : InnerValue) (a b e : Bool) (dst to : Ipv4Address) (o : Option Ipv4Address) (x : PayloadValue) (p : PacketValue)
    → (b ≡ true → is_local i (Address.Ipv4 dst) ≡ true) → ((f : Ipv4Address) → o ≡ Some f → is_local i (Address.Ipv4 f) ≡ true)
    → sent_v4 (if not a then None else if b then Some dst else if e then o else None) to x ≡ Some p → is_local i (source_of p.header) ≡ true
from_v4 i false b e dst to o x p one first is = absurd (cc is)
from_v4 i true true e dst to o x p one first is = ap (λ (q : PacketValue). is_local i (source_of q.header)) (sym (one_packet _ p is)) ∙ one refl
from_v4 i true false false dst to o x p one first is = absurd (cc is)
from_v4 i true false true dst to None x p one first is = absurd (cc is)
from_v4 i true false true dst to (Some f) x p one first is =
    ap (λ (q : PacketValue). is_local i (source_of q.header)) (sym (one_packet _ p is)) ∙ first f refl

pub source_v4_local : (i : InnerValue) (header : Ipv4Repr) (message : Icmpv4Header) (bytes : List ℕ) (p : PacketValue)
    → is_for_us i (Address.Ipv4 header.dst_addr) ≡ true → reply_v4 i header message bytes ≡ Some p → is_local i (source_of p.header) ≡ true
source_v4_local i header message bytes p ours is =
    from_v4 i (is_one_host i header.src_addr) (is_one_host i header.dst_addr)
    (is_echo_reply message && is_local_broadcast i (Address.Ipv4 header.dst_addr)) header.dst_addr header.src_addr (first_v4 i.addresses)
    (ControlV4 message bytes) p (one_is_local i header.dst_addr ours) (first_is_local i) is

-- IPv6

no_group_v6 : (none many : Bool) → not (none || many) ≡ true → many ≡ false
no_group_v6 false false one = refl
no_group_v6 false true one = clash false one refl
no_group_v6 true many one = clash false one refl

pub source_v6_local : (i : InnerValue) (header : Ipv6Repr) (message : Icmpv6.MessageValue) (bytes : List ℕ)
    → is_for_us i (Address.Ipv6 header.dst_addr) ≡ true → is_unicast_v6 header.dst_addr ≡ true → is_loopback_v6 header.dst_addr ≡ false
    → is_local i (source_of (reply_v6 i header message bytes).header) ≡ true
source_v6_local i header message bytes ours one elsewhere =
    ap (λ (b : Bool). is_local i (Address.Ipv6 (if b then header.dst_addr else source_v6 i.addresses header.src_addr))) one
    ∙ own_of i (Address.Ipv6 header.dst_addr) ours (no_group_v6 (is_unspecified_v6 header.dst_addr) (is_multicast_v6 header.dst_addr) one) elsewhere

-- RESETS

reset_source : (ip : IpRepr) (header : TcpHeader) (size : ℕ) → source_of (rst_reply ip header size).header ≡ destination_of ip
reset_source (Ip.Ipv4 v) header size = refl
reset_source (Ip.Ipv6 v) header size = refl

pub reset_local : (i : InnerValue) (ip : IpRepr) (header : TcpHeader) (size : ℕ) → is_for_us i (destination_of ip) ≡ true → names_no_endpoint i ip ≡ false
    → is_loopback_in (destination_of ip) ≡ false → is_local i (source_of (rst_reply ip header size).header) ≡ true
reset_local i ip header size ours named elsewhere =
    let rest = (no_or (is_unspecified (source_of ip)) (is_unspecified (destination_of ip) || is_for_many i (destination_of ip)) named).1 in
    ap (is_local i) (reset_source ip header size)
    ∙ own_of i (destination_of ip) ours (no_or (is_unspecified (destination_of ip)) (is_for_many i (destination_of ip)) rest).1 elsewhere

-- NEIGHBOURS

chosen : {X : Type 0} (b : Bool) (o : Option X) (x : X) → (if b then o else None) ≡ Some x → (b ≡ true) × (o ≡ Some x)
chosen true o x is = (refl, is)
chosen false o x is = absurd (cc is)

and_both : (a b : Bool) → (a && b) ≡ true → (a ≡ true) × (b ≡ true)
and_both true b is = (refl, is)
and_both false b is = clash false is refl

or_either : (local sound others : Bool) → ((local && sound) || others) ≡ true → (others ≡ true → local ≡ true) → local ≡ true
or_either true sound others is other = refl
or_either false sound others is other = other is

one_arp : (q p : ArpRepr) → Some q ≡ Some p → q ≡ p
one_arp q p is = cc is

target_is : (hardware : HardwareAddress) (operation : ArpOperation) (sh th : EthernetAddress) (s t : Ipv4Address) (reply : ArpRepr)
    → answer_at hardware (Arp.EthernetIpv4 operation sh s th t) ≡ Some reply → sender_in reply ≡ t
target_is (Hardware.Ethernet local) Operation.Request sh th s t reply is = ap sender_in (sym (one_arp (Arp.EthernetIpv4 Operation.Reply local t sh s) reply is))
target_is (Hardware.Ethernet local) Operation.Reply sh th s t reply is = absurd (cc is)
target_is (Hardware.Ethernet local) (Operation.Unknown n) sh th s t reply is = absurd (cc is)
target_is Hardware.Ip Operation.Request sh th s t reply is = absurd (cc is)
target_is Hardware.Ip Operation.Reply sh th s t reply is = absurd (cc is)
target_is Hardware.Ip (Operation.Unknown n) sh th s t reply is = absurd (cc is)

-- who is probed for is a local address
probed_local : (i : InnerValue) (operation : ArpOperation) (sh th : EthernetAddress) (s t : Ipv4Address)
    → probes i (Arp.EthernetIpv4 operation sh s th t) ≡ true → is_local i (Address.Ipv4 t) ≡ true
probed_local i Operation.Request sh th s t is =
    let listed : Bool = list_any (is_address_of (Address.Ipv4 t)) i.addresses in
    or_later i.any_ip listed (and_both (is_unspecified_v4 s && is_ethernet_unicast sh) listed is).1
probed_local i Operation.Reply sh th s t is = clash false is refl
probed_local i (Operation.Unknown n) sh th s t is = clash false is refl

pub arp_local : (i : InnerValue) (packet reply : ArpRepr) → arp_answer i packet ≡ Some reply → is_local i (Address.Ipv4 (sender_in reply)) ≡ true
arp_local i (Arp.EthernetIpv4 operation sh s th t) reply is =
    let packet : ArpRepr = Arp.EthernetIpv4 operation sh s th t in
    let parts = chosen (counts i packet || probes i packet) (answer_at i.hardware packet) reply is in
    ap (λ (a : Ipv4Address). is_local i (Address.Ipv4 a)) (target_is i.hardware operation sh th s t reply parts.1)
    ∙ or_either (is_local i (Address.Ipv4 t)) (is_sound i packet) (probes i packet) parts.0 (probed_local i operation sh th s t)

asked_local : (i : InnerValue) (unnamed : Bool) (to target : Ipv6Address)
    → (if unnamed then is_probed i to target
    else (is_local_solicited_node i to || is_local i (Address.Ipv6 to)) && is_local i (Address.Ipv6 target)) ≡ true
    → is_local i (Address.Ipv6 target) ≡ true
asked_local i true to target is =
    let listed : Bool = list_any (is_address_of (Address.Ipv6 target)) i.addresses in
    or_later i.any_ip listed (and_both (is_unicast_v6 target && not (is_loopback_v6 target) && solicits to target) listed is).1
asked_local i false to target is =
    (and_both (is_local_solicited_node i to || is_local i (Address.Ipv6 to)) (is_local i (Address.Ipv6 target)) is).1

pub advertisement_local : (local : EthernetAddress) (i : InnerValue) (header : Ipv6Repr) (target : Ipv6Address) (p : PacketValue)
    → answer local i header target ≡ Some p → is_local i (source_of p.header) ≡ true
advertisement_local local i header target p is =
    let parts = chosen (is_asked i header target) (Some (advertisement i.host_requirements local target header.src_addr)) p is in
    ap (λ (q : PacketValue). is_local i (source_of q.header)) (sym (one_packet (advertisement i.host_requirements local target header.src_addr) p parts.1))
    ∙ asked_local i (is_unspecified_v6 header.src_addr) header.dst_addr target parts.0
