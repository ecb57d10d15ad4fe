-- A host's settings, which no arrival changes.
use Rattle.std.proofs.Common.{◌≡◌, Bool, true, false, if◌then◌else◌, List, refl, sym, ◌∙◌, subst}
use Rattle.std.specs.Prelude.{ℕ, Option, Some, None}
use Rattle.wire_icmpv4.specs.declared.header.Icmpv4Header.{Icmpv4Header}
use Rattle.wire_icmpv6.specs.Icmpv6 as Icmpv6
use Rattle.wire_icmpv6.specs.Ndisc.{NeighborMessage}
use Rattle.ip_wire.specs.IpAddress.{IpAddress}
use Rattle.ip_wire.specs.IpRepr.{IpRepr}
use Rattle.ip_wire.specs.IpRepr.TheVariants as Ip
use Rattle.ip_wire.specs.Ipv6Repr.{Ipv6Repr}
use Rattle.ip_wire.specs.TcpHeader.{TcpHeader}
use Rattle.ip_wire.specs.declared.arp.repr.ArpRepr.{ArpRepr}
use Rattle.ip_wire.specs.declared.arp.repr.ArpRepr.TheVariants as Arps
use Rattle.ip_wire.specs.declared.ethernet.repr.EthernetRepr.{EthernetRepr}
use Rattle.socket_context.specs.Packet.{PayloadValue, ControlV4, ControlV6, Bytes, Datagram, Segment}
use Rattle.iface_ingress.specs.Ndisc.{neighbor_learned, with_entries_of}
use Rattle.iface_ingress.proofs.Hearing.{entries-alone}
use Rattle.iface_ingress.specs.Incoming.{IncomingValue, Arp, Ip4, Ip6}
use Rattle.iface_ingress.specs.Arp.{teaches, learned, arp_arrived}
use Rattle.iface_tables.specs.Inner.{InnerValue, context_of, with_error, with_path}
use Rattle.iface_ingress.specs.Arrives.{Arrived, ArrivesV4, ArrivesV6, Brings, Hands, is_direct, sender_of, renewed, renewed_by}
use Rattle.iface_ingress.specs.Delivered.{Slots, drawn_if, packet_delivered, is_taken_raw, segment_draws}
use Rattle.iface_ingress.specs.Processed.{handed_host, handed_reply, is_unclaimed, limited_host, message_host, names_no_endpoint, segment_host}
use Rattle.iface_ingress.specs.PathTold.{path_host_v4, path_host_v6}
use Rattle.iface_ingress.proofs.Limit.{counted_so}
use Rattle.iface_ingress.proofs.PathTold.{path_v4_so, path_v6_so}
use Rattle.iface_ingress.specs.FragmentStored.{HasSameSettings}
use Rattle.iface_ingress.specs.Reassembled.{is_control_v6}

same_itself : (i : InnerValue) → HasSameSettings i i
same_itself i = record {
  instant = refl;
  hardware = refl;
  mtu = refl;
  checksums = refl;
  addresses = refl;
  isn_key = refl;
  any_ip = refl;
  groups = refl;
  host_requirements = refl;
  routes = refl;
  route_room = refl;
  silent = refl;
  ident =
      refl;
  initial = refl;
  parking = refl;
}

same_then : (i j k : InnerValue) → HasSameSettings i j → HasSameSettings j k → HasSameSettings i k
same_then i j k first second = record {
  instant = second.instant ∙ first.instant;
  hardware = second.hardware ∙ first.hardware;
  mtu = second.mtu ∙ first.mtu;
  checksums = second.checksums ∙ first.checksums;
  addresses = second.addresses ∙ first.addresses;
  isn_key = second.isn_key ∙ first.isn_key;
  any_ip = second.any_ip ∙ first.any_ip;
  groups = second.groups ∙ first.groups;
  host_requirements = second.host_requirements ∙ first.host_requirements;
  routes = second.routes ∙ first.routes;
  route_room = second.route_room ∙ first.route_room;
  silent = second.silent ∙ first.silent;
  ident = second.ident ∙ first.ident;
  initial = second.initial ∙ first.initial;
  parking = second.parking ∙ first.parking;
}

same_at : (i j k : InnerValue) → k ≡ j → HasSameSettings i j → HasSameSettings i k
same_at i j k is same = let P : InnerValue → Type 0 = λ v. HasSameSettings i v in subst P (sym is) same

same_renewed_by : (i : InnerValue) (link : Option EthernetRepr) (sender : IpAddress) → HasSameSettings i (renewed_by i link sender)
same_renewed_by i None sender = same_itself i
same_renewed_by i (Some link) sender =
    record {
      instant = refl;
      hardware = refl;
      mtu = refl;
      checksums = refl;
      addresses = refl;
      isn_key = refl;
      any_ip = refl;
      groups = refl;
      host_requirements = refl;
      routes = refl;
      route_room = refl;
      silent = refl;
      ident =
          refl;
      initial = refl;
      parking = refl;
    }

same_renewed : (i : InnerValue) (link : Option EthernetRepr) (ip : IpRepr) → HasSameSettings i (renewed i link ip)
same_renewed i link ip =
    elim (is_direct i ip) as (λ b. HasSameSettings i (if b then renewed_by i link (sender_of ip) else i)) [
      | true ↦ same_renewed_by i link (sender_of ip)
      | false ↦ same_itself i
    ]

same_drawn : (draws : Bool) (i : InnerValue) → HasSameSettings i (drawn_if draws i)
same_drawn true i = record {
  instant = refl;
  hardware = refl;
  mtu = refl;
  checksums = refl;
  addresses = refl;
  isn_key = refl;
  any_ip = refl;
  groups = refl;
  host_requirements = refl;
  routes = refl;
  route_room = refl;
  silent =
      refl;
  ident = refl;
  initial = refl;
  parking = refl;
}
same_drawn false i = same_itself i

same_segment : (i : InnerValue) (slots : Slots) (ip : IpRepr) (header : TcpHeader) (bytes : List ℕ) →
    HasSameSettings i (segment_host i slots ip header bytes)
same_segment i slots ip header bytes =
    elim (names_no_endpoint i ip) as (λ b. HasSameSettings i (if b then i else drawn_if (segment_draws (context_of i) ip header bytes slots) i)) [
      | true ↦ same_itself i
      | false ↦ same_drawn (segment_draws (context_of i) ip header bytes slots) i
    ]

same_heard : (i : InnerValue) (header : Ipv6Repr) (message : NeighborMessage) → HasSameSettings i (neighbor_learned i header message).inner
same_heard i header message =
    same_at i (with_entries_of (neighbor_learned i header message).inner i) (neighbor_learned i header message).inner (entries-alone i header message)
    (record {
      instant = refl;
      hardware = refl;
      mtu = refl;
      checksums = refl;
      addresses = refl;
      isn_key = refl;
      any_ip = refl;
      groups = refl;
      host_requirements = refl;
      routes = refl;
      route_room = refl;
      silent = refl;
      ident =
          refl;
      initial = refl;
      parking = refl;
    })

same_told : (i : InnerValue) (address : IpAddress) (told : ℕ) → HasSameSettings i (with_path i address told)
same_told i address told = record {
  instant = refl;
  hardware = refl;
  mtu = refl;
  checksums = refl;
  addresses = refl;
  isn_key = refl;
  any_ip = refl;
  groups = refl;
  host_requirements = refl;
  routes = refl;
  route_room = refl;
  silent =
      refl;
  ident = refl;
  initial = refl;
  parking = refl;
}

same_path_v4 : (i : InnerValue) (slots : Slots) (payload : List ℕ) (message : Icmpv4Header) (bytes : List ℕ) →
    HasSameSettings i (path_host_v4 i slots payload message bytes)
same_path_v4 i = path_v4_so (HasSameSettings i) i (same_itself i) (same_told i)

same_path_v6 : (i : InnerValue) (slots : Slots) (message : Icmpv6.MessageValue) (bytes : List ℕ) → HasSameSettings i (path_host_v6 i slots message bytes)
same_path_v6 i = path_v6_so (HasSameSettings i) i (same_itself i) (same_told i)

same_message : (i : InnerValue) (slots : Slots) (header : Ipv6Repr) (message : Icmpv6.MessageValue) (bytes : List ℕ) →
    HasSameSettings i (message_host i slots header message bytes)
same_message i slots header (Icmpv6.DstUnreachable reason about) bytes = same_itself i
same_message i slots header (Icmpv6.PktTooBig mtu about) bytes = same_path_v6 i slots (Icmpv6.PktTooBig mtu about) bytes
same_message i slots header (Icmpv6.TimeExceeded reason about) bytes = same_itself i
same_message i slots header (Icmpv6.ParamProblem reason pointer about) bytes = same_itself i
same_message i slots header (Icmpv6.EchoRequest ident seq_no) bytes = same_itself i
same_message i slots header (Icmpv6.EchoReply ident seq_no) bytes = same_itself i
same_message i slots header (Icmpv6.Ndisc message) bytes =
    elim (is_control_v6 header.next_header) as (λ b. HasSameSettings i (if b then (neighbor_learned i header message).inner else i)) [
      | true ↦ same_heard i header message
      | false ↦ same_itself i
    ]

same_handed : (i : InnerValue) (slots : Slots) (ip : IpRepr) (payload : List ℕ) (carried : Option PayloadValue) →
    HasSameSettings i (handed_host i slots ip payload carried)
same_handed i slots (Ip.Ipv4 header) payload (Some (ControlV4 message bytes)) = same_path_v4 i slots payload message bytes
same_handed i slots (Ip.Ipv6 header) payload (Some (ControlV4 message bytes)) = same_itself i
same_handed i slots (Ip.Ipv4 header) payload (Some (ControlV6 message bytes)) = same_itself i
same_handed i slots (Ip.Ipv6 header) payload (Some (ControlV6 message bytes)) = same_message i slots header message bytes
same_handed i slots ip payload (Some (Bytes bytes)) = same_itself i
same_handed i slots ip payload (Some (Datagram udp bytes)) = same_itself i
same_handed i slots ip payload (Some (Segment header bytes)) = same_segment i slots ip header bytes
same_handed i slots ip payload None = same_itself i

same_error : (i : InnerValue) → HasSameSettings i (with_error i)
same_error i = record {
  instant = refl;
  hardware = refl;
  mtu = refl;
  checksums = refl;
  addresses = refl;
  isn_key = refl;
  any_ip = refl;
  groups = refl;
  host_requirements = refl;
  routes = refl;
  route_room = refl;
  silent =
      refl;
  ident = refl;
  initial = refl;
  parking = refl;
}

same_limited : (i : InnerValue) (slots : Slots) (ip : IpRepr) (payload : List ℕ) (taken : Bool) (carried : Option PayloadValue) →
    HasSameSettings i (limited_host i slots ip payload taken carried)
same_limited i slots ip payload taken carried =
    let after = handed_host i slots ip payload carried in
    let same = same_handed i slots ip payload carried in
    counted_so (λ (x : InnerValue). HasSameSettings i x) (is_unclaimed i slots ip carried) i (handed_reply i slots ip payload taken carried) after same
    (same_then i after (with_error after) same (same_error after))

same_in : (i : InnerValue) (slots : Slots) (link : Option EthernetRepr) (ip : IpRepr) (payload : List ℕ) (taken : Bool) (a : Arrived) →
    Hands (renewed i link ip) slots ip payload taken a → HasSameSettings i a.inner
same_in i slots link ip payload taken a (carried, is, handed) =
    same_at i (limited_host (renewed i link ip) slots ip payload taken carried) a.inner handed.inner
    (same_then i (renewed i link ip) (limited_host (renewed i link ip) slots ip payload taken carried) (same_renewed i link ip)
    (same_limited (renewed i link ip) slots ip payload taken carried))

same_v4 : (ours : Bool) (i : InnerValue) (slots : Slots) (link : Option EthernetRepr) (ip : IpRepr) (payload : List ℕ) (a : Arrived) →
    ArrivesV4 ours i slots link ip payload a → HasSameSettings i a.inner
same_v4 true i slots link ip payload a h = same_in i (packet_delivered ip payload slots) link ip payload (is_taken_raw ip slots) a h
same_v4 false i slots link ip payload a h = same_at i i a.inner h.inner (same_itself i)

same_v6 : (ours : Bool) (i : InnerValue) (slots : Slots) (link : Option EthernetRepr) (ip : IpRepr) (payload : List ℕ) (a : Arrived) →
    ArrivesV6 ours i slots link ip payload a → HasSameSettings i a.inner
same_v6 true i slots link ip payload a h = same_in i (packet_delivered ip payload slots) link ip payload (is_taken_raw ip slots) a h
same_v6 false i slots link ip payload a h = same_at i i a.inner h.inner (same_itself i)

same_learned : (i : InnerValue) (packet : ArpRepr) → HasSameSettings i (learned i packet)
same_learned i (Arps.EthernetIpv4 operation source_hardware source target_hardware target) =
    record {
      instant = refl;
      hardware = refl;
      mtu = refl;
      checksums = refl;
      addresses = refl;
      isn_key = refl;
      any_ip = refl;
      groups = refl;
      host_requirements = refl;
      routes = refl;
      route_room = refl;
      silent = refl;
      ident =
          refl;
      initial = refl;
      parking = refl;
    }

same_arp : (i : InnerValue) (packet : ArpRepr) → HasSameSettings i (arp_arrived i packet)
same_arp i packet =
    elim (teaches i packet) as (λ b. HasSameSettings i (if b then learned i packet else i)) [ true ↦ same_learned i packet | false ↦ same_itself i ]

pub brings_same : (i : InnerValue) (slots : Slots) (content : Option IncomingValue) (a : Arrived) → Brings i slots content a → HasSameSettings i a.inner
brings_same i slots None a h = same_at i i a.inner h.inner (same_itself i)
brings_same i slots (Some (Arp link packet)) a h = same_at i (arp_arrived i packet) a.inner h.inner (same_arp i packet)
brings_same i slots (Some (Ip4 link header fragment payload)) a h = same_v4 _ i slots link (Ip.Ipv4 header) payload a h
brings_same i slots (Some (Ip6 link header payload)) a h = same_v6 _ i slots link (Ip.Ipv6 header) payload a h
