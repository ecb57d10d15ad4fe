-- What a host answers but for segments are control messages.
use Rattle.std.specs.Prelude.{◌&&◌, ◌||◌}
use Rattle.std.proofs.Common.{◌≡◌, refl, [], ℕ, Bool, true, false, if◌then◌else◌, List, Option, Some, None, IfSome}
use Rattle.iface_ingress.specs.Icmpv4Header.{Icmpv4Header}
use Rattle.iface_ingress.specs.Icmpv4Header.TheVariants as V4
use Rattle.iface_ingress.specs.Icmpv6 as Icmpv6
use Rattle.iface_ingress.specs.Icmpv6.{MessageValue}
use Rattle.lan.specs.Worlds.AtLink.Icmpv6DstUnreachable.TheVariants as V6Reason
use Rattle.lan.specs.Worlds.AtLink.Ndisc.{NeighborMessage, Solicitation, Advertisement}
use Rattle.iface_ingress.specs.HardwareAddress.{HardwareAddress}
use Rattle.iface_ingress.specs.HardwareAddress.TheVariants as Hardware
use Rattle.iface_ingress.specs.EthernetAddress.{EthernetAddress}
use Rattle.iface_ingress.specs.IpProtocol.TheVariants as Protocol
use Rattle.interface.specs.IpRepr.{IpRepr}
use Rattle.interface.specs.IpRepr.TheVariants as Ip
use Rattle.iface_ingress.specs.Ipv4Address.{Ipv4Address}
use Rattle.interface.specs.Ipv4Repr.{Ipv4Repr}
use Rattle.iface_ingress.specs.Ipv6Address.{Ipv6Address}
use Rattle.interface.specs.Ipv6Repr.{Ipv6Repr}
use Rattle.iface_ingress.specs.ArpRepr.{ArpRepr}
use Rattle.sockets.specs.Packet.{PacketValue, ControlV4, ControlV6, packet_of}
use Rattle.iface_tables.specs.Inner.{InnerValue}
use Rattle.iface_ingress.specs.Arrives.{told, answered}
use Rattle.iface_ingress.specs.Processed.{control_v4_reply, control_v6_reply, message_reply, is_known_v4, is_unknown, unread_v6, unread_reply}
use Rattle.iface_ingress.specs.Reassembled.{is_control_v6}
use Rattle.iface_ingress.specs.Headers.{go_through, carries_error}
use Rattle.iface_ingress.specs.Following.{Following}
use Rattle.iface_ingress.specs.Following.TheVariants as End
use Rattle.iface_ingress.specs.Ndisc.{neighbor_learned, Heard, heard, heard_on, asks_host, tells, learned, advertised, answer, advertisement, is_asked}
use Rattle.iface_ingress.specs.Replies.{sent_v4, echo_v4, port_unreachable, protocol_unreachable, parameter_problem}
use Rattle.iface_ingress.specs.Replies.{is_told, reason_of, source_of_reply, reply_v6, is_between_hosts, quoted_v4}
use Rattle.iface_ingress.specs.Replies.{quoted_v6}
use Rattle.lan.specs.Worlds.AtLink.Parties.{Party}
use Rattle.lan.specs.Worlds.Moves.Made.{IsMade}
use Rattle.lan.proofs.Worlds.Moves.MadeReplies.{IsMadeReply}

-- what holds of each control message after a header that names it
module _ (Q : PacketValue → Type 0)
    (four : (header : Ipv4Repr) (message : Icmpv4Header) (bytes : List ℕ) → header.next_header ≡ Protocol.Icmp →
    Q (packet_of (Ip.Ipv4 header) (ControlV4 message bytes)))
    (six : (header : Ipv6Repr) (message : MessageValue) (bytes : List ℕ) → header.next_header ≡ Protocol.Icmpv6 →
    Q (packet_of (Ip.Ipv6 header) (ControlV6 message bytes))) where
  abbrev pub Free : Option PacketValue → Type 0
  Free reply = IfSome reply Q

  free_if : (test : Bool) (reply : Option PacketValue) → Free reply → Free (if test then None else reply)
  free_if true reply free = tt
  free_if false reply free = free

  kept_if : (test : Bool) (reply : Option PacketValue) → Free reply → Free (if test then reply else None)
  kept_if true reply free = free
  kept_if false reply free = tt

  sent_free : (from : Option Ipv4Address) (to : Ipv4Address) (message : Icmpv4Header) (bytes : List ℕ) → Free (sent_v4 from to (ControlV4 message bytes))
  sent_free None to message bytes = tt
  sent_free (Some from) to message bytes = four _ message bytes refl

  echo_free : (i : InnerValue) (header : Ipv4Repr) (message : Icmpv4Header) (bytes : List ℕ) → Free (echo_v4 i header message bytes)
  echo_free i header (V4.EchoRequest ident seq_no) bytes =
      sent_free (source_of_reply i header (V4.EchoReply ident seq_no)) header.src_addr (V4.EchoReply ident seq_no) bytes
  echo_free i header message bytes = tt

  pub control_v4_free : (i : InnerValue) (ip : IpRepr) (message : Icmpv4Header) (bytes : List ℕ) → Free (control_v4_reply i ip message bytes)
  control_v4_free i (Ip.Ipv4 header) message bytes = echo_free i header message bytes
  control_v4_free i (Ip.Ipv6 header) message bytes = tt

  answer_free : (asked overrides : Bool) (own : EthernetAddress) (target to : Ipv6Address)
      → Free (if asked then Some (advertisement overrides own target to) else None)
  answer_free true overrides own target to = six _ _ [] refl
  answer_free false overrides own target to = tt

  abbrev IsFree : Heard → Type 0
  IsFree h = Free h.reply

  heard_if : (test : Bool) (h : Heard) (i : InnerValue) → IsFree h → IsFree (if test then h else heard i None)
  heard_if true h i free = free
  heard_if false h i free = tt

  heard_free : (hardware : HardwareAddress) (i : InnerValue) (header : Ipv6Repr) (message : NeighborMessage) → IsFree (heard_on hardware i header message)
  heard_free Hardware.Ip i header message = tt
  heard_free (Hardware.Ethernet own) i header (Solicitation target link) =
      heard_if (asks_host i header target link) (heard (learned i header.src_addr link) (answer own i header target)) i
      (answer_free (is_asked i header target) i.host_requirements own target header.src_addr)
  heard_free (Hardware.Ethernet own) i header (Advertisement flags target link) =
      heard_if (tells header flags target link) (heard (advertised i flags target link) None) i tt

  message_free : (i : InnerValue) (header : Ipv6Repr) (message : MessageValue) (bytes : List ℕ) → Free (message_reply i header message bytes)
  message_free i header (Icmpv6.Ndisc message) bytes =
      kept_if (is_control_v6 header.next_header) (neighbor_learned i header message).reply (heard_free i.hardware i header message)
  message_free i header (Icmpv6.EchoRequest ident seq_no) bytes = six _ _ bytes refl
  message_free i header message bytes = tt

  pub control_v6_free : (i : InnerValue) (ip : IpRepr) (message : MessageValue) (bytes : List ℕ) → Free (control_v6_reply i ip message bytes)
  control_v6_free i (Ip.Ipv4 header) message bytes = tt
  control_v6_free i (Ip.Ipv6 header) message bytes = message_free i header message bytes

  error_free : (between : Bool) (i : InnerValue) (header : Ipv6Repr) (message : MessageValue) (quoted : List ℕ) →
      Free (if between then Some (reply_v6 i header message quoted) else None)
  error_free true i header message quoted = six _ _ quoted refl
  error_free false i header message quoted = tt

  port_free : (i : InnerValue) (ip : IpRepr) (payload : List ℕ) → Free (port_unreachable i ip payload)
  port_free i (Ip.Ipv4 header) payload = sent_free _ header.src_addr _ (quoted_v4 payload)
  port_free i (Ip.Ipv6 header) payload =
      error_free (is_between_hosts header) i header (Icmpv6.DstUnreachable V6Reason.PortUnreachable header) (quoted_v6 payload)

  protocol_free : (i : InnerValue) (header : Ipv4Repr) (payload : List ℕ) → Free (protocol_unreachable i header payload)
  protocol_free i header payload = sent_free _ header.src_addr _ (quoted_v4 payload)

  headers_free : (i : InnerValue) (header : Ipv6Repr) (payload : List ℕ) (taken : Bool) (following : Following) → Free (unread_v6 i header payload taken following)
  headers_free i header payload taken (End.Problem problem pointer) =
      free_if ((is_unknown problem && taken) || carries_error header.next_header payload) (parameter_problem i header payload problem pointer)
      (error_free (is_told problem header) i header (Icmpv6.ParamProblem (reason_of problem) pointer header) (quoted_v6 payload))
  headers_free i header payload taken following = tt

  pub port_error_free : (quiet : Bool) (i : InnerValue) (ip : IpRepr) (payload : List ℕ) → Free (if quiet then None else port_unreachable i ip payload)
  port_error_free quiet i ip payload = free_if quiet (port_unreachable i ip payload) (port_free i ip payload)

  pub unread_free : (i : InnerValue) (ip : IpRepr) (payload : List ℕ) (taken : Bool) → Free (unread_reply i ip payload taken)
  unread_free i (Ip.Ipv4 header) payload taken =
      free_if (is_known_v4 header.next_header || taken) (protocol_unreachable i header payload) (protocol_free i header payload)
  unread_free i (Ip.Ipv6 header) payload taken = headers_free i header payload taken (go_through header.next_header payload)

-- SO NOBODY MADE THEM

module _ (p : Party) where
  abbrev pub Made : Option PacketValue → Type 0
  Made reply = IfSome reply (IsMade p)

  pub control_v4_made : (i : InnerValue) (ip : IpRepr) (message : Icmpv4Header) (bytes : List ℕ) → Made (control_v4_reply i ip message bytes)
  control_v4_made i ip message bytes = control_v4_free (IsMade p) (λ h m b n. tt) (λ h m b n. tt) i ip message bytes

  pub control_v6_made : (i : InnerValue) (ip : IpRepr) (message : MessageValue) (bytes : List ℕ) → Made (control_v6_reply i ip message bytes)
  control_v6_made i ip message bytes = control_v6_free (IsMade p) (λ h m b n. tt) (λ h m b n. tt) i ip message bytes

  pub port_error_made : (quiet : Bool) (i : InnerValue) (ip : IpRepr) (payload : List ℕ) → Made (if quiet then None else port_unreachable i ip payload)
  port_error_made quiet i ip payload = port_error_free (IsMade p) (λ h m b n. tt) (λ h m b n. tt) quiet i ip payload

  pub unread_made : (i : InnerValue) (ip : IpRepr) (payload : List ℕ) (taken : Bool) → Made (unread_reply i ip payload taken)
  unread_made i ip payload taken = unread_free (IsMade p) (λ h m b n. tt) (λ h m b n. tt) i ip payload taken

  pub answered_made : (reply : Option PacketValue) → Made reply → IfSome (answered reply) (IsMadeReply p)
  answered_made None made = tt
  answered_made (Some packet) made = made

  pub told_made : (reply : Option ArpRepr) → IfSome (told reply) (IsMadeReply p)
  told_made None = tt
  told_made (Some packet) = tt
