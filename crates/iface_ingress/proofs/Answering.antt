-- What a host answers at once, and whom.
use Rattle.std.proofs.Common.{◌≡◌, ℕ, Bool, true, false, IsTrue, if◌then◌else◌, List, Option, None, Some, refl, ap, ◌∙◌, subst}
use Rattle.std.specs.Prelude.{◌&&◌, not}
use Rattle.wire_icmpv4.specs.declared.message.Icmpv4DstUnreachable.{Icmpv4DstUnreachable}
use Rattle.wire_icmpv4.specs.declared.header.Icmpv4Header.{Icmpv4Header}
use Rattle.wire_icmpv4.specs.declared.header.Icmpv4Header.TheVariants as V4
use Rattle.wire_icmpv6.specs.Icmpv6 as Icmpv6
use Rattle.ip_wire.specs.AddressTests.{is_unicast_v6}
use Rattle.ip_wire.specs.IpAddress.TheVariants as Address
use Rattle.ip_wire.specs.IpRepr.{IpRepr}
use Rattle.ip_wire.specs.Ipv4Address.{Ipv4Address}
use Rattle.ip_wire.specs.Ipv4Repr.{Ipv4Repr}
use Rattle.ip_wire.specs.Ipv6Repr.{Ipv6Repr}
use Rattle.ip_wire.specs.TcpHeader.{TcpHeader}
use Rattle.socket_context.specs.Packet.{PacketValue, PayloadValue, ControlV4, ControlV6}
use Rattle.iface_tables.specs.Inner.{InnerValue, context_of, is_local_broadcast}
use Rattle.iface_tables.specs.Source.{first_v4}
use Rattle.iface_tables.specs.Reassembly.{or_else}
use Rattle.wire_ipv6_headers.specs.declared.headers.Problem.{Problem}
use Rattle.wire_ipv6_headers.specs.declared.headers.Problem.TheVariants as Told
use Rattle.iface_ingress.specs.Answering.{IsEchoV4, IsEchoV6, IsBetweenV4, IsBetweenV6, IsToldOf}
use Rattle.iface_ingress.specs.Delivered.{Slots, first_slot, is_connected, segment_slot, segment_answer}
use Rattle.sockets.specs.Socket.{accepts_segment}
use Rattle.iface_ingress.specs.Processed.{names_no_endpoint, segment_reply}
use Rattle.iface_ingress.specs.Replies.{is_one_host, source_of_reply, sent_v4, reply_v4, reply_v6}
use Rattle.iface_ingress.specs.Replies.{echo_v4, echo_v6, quoted_v4, quoted_v6, error_v4, error_v6}
use Rattle.iface_ingress.specs.Replies.{is_between_hosts, parameter_problem, reason_of}

-- ECHO

one_packet : (q p : PacketValue) → Some q ≡ Some p → q ≡ p
one_packet q p is = cc is

echoed_v4 : (from : Option Ipv4Address) (header : Ipv4Repr) (ident number : ℕ) (bytes : List ℕ) (p : PacketValue)
    → sent_v4 from header.src_addr (ControlV4 (V4.EchoReply ident number) bytes) ≡ Some p → IsEchoV4 header (V4.EchoRequest ident number) bytes p
echoed_v4 None header ident number bytes p is = absurd (cc is)
echoed_v4 (Some from) header ident number bytes p is =
    subst (IsEchoV4 header (V4.EchoRequest ident number) bytes) (one_packet _ p is) (record {
      ident = ident;
      number = number;
      asked = refl;
      reply =
          refl;
      to = refl;
    })

pub echo_back_v4 : (i : InnerValue) (header : Ipv4Repr) (message : Icmpv4Header) (bytes : List ℕ) (p : PacketValue) → echo_v4 i header message bytes ≡ Some p →
    IsEchoV4 header message bytes p
echo_back_v4 i header (V4.EchoRequest ident number) bytes p is = echoed_v4 (source_of_reply i header (V4.EchoReply ident number)) header ident number bytes p is
echo_back_v4 i header (V4.EchoReply ident number) bytes p is = absurd (cc is)
echo_back_v4 i header (V4.DstUnreachable reason quoted) bytes p is = absurd (cc is)
echo_back_v4 i header (V4.TimeExceeded reason quoted) bytes p is = absurd (cc is)

pub echo_back_v6 : (i : InnerValue) (header : Ipv6Repr) (message : Icmpv6.MessageValue) (bytes : List ℕ) (p : PacketValue) →
    echo_v6 i header message bytes ≡ Some p → IsEchoV6 header message bytes p
echo_back_v6 i header (Icmpv6.EchoRequest ident number) bytes p is =
    subst (IsEchoV6 header (Icmpv6.EchoRequest ident number) bytes) (one_packet _ p is) (record {
      ident = ident;
      number = number;
      asked = refl;
      reply =
          refl;
      to = refl;
    })
echo_back_v6 i header (Icmpv6.EchoReply ident number) bytes p is = absurd (cc is)
echo_back_v6 i header (Icmpv6.DstUnreachable reason quoted) bytes p is = absurd (cc is)
echo_back_v6 i header (Icmpv6.PktTooBig mtu quoted) bytes p is = absurd (cc is)
echo_back_v6 i header (Icmpv6.TimeExceeded reason quoted) bytes p is = absurd (cc is)
echo_back_v6 i header (Icmpv6.ParamProblem reason at quoted) bytes p is = absurd (cc is)
echo_back_v6 i header (Icmpv6.Ndisc message) bytes p is = absurd (cc is)

-- ERRORS

between_v4 : (a b : Bool) (from to : Ipv4Address) (x : PayloadValue) (p : PacketValue)
    → sent_v4 (if not a then None else if b then Some from else None) to x ≡ Some p → IsTrue a × IsTrue b
between_v4 false b from to x p is = absurd (cc is)
between_v4 true false from to x p is = absurd (cc is)
between_v4 true true from to x p is = (refl, refl)

pub error_between_v4 : (i : InnerValue) (header : Ipv4Repr) (reason : Icmpv4DstUnreachable) (payload : List ℕ) (p : PacketValue) →
    error_v4 i header reason payload ≡ Some p → IsBetweenV4 i header
error_between_v4 i header reason payload p is =
    between_v4 (is_one_host i header.src_addr) (is_one_host i header.dst_addr) header.dst_addr header.src_addr
    (ControlV4 (V4.DstUnreachable reason header) (quoted_v4 payload)) p is

between_v6 : (a b : Bool) (q p : PacketValue) → (if a && b then Some q else None) ≡ Some p → IsTrue a × IsTrue b
between_v6 false b q p is = absurd (cc is)
between_v6 true false q p is = absurd (cc is)
between_v6 true true q p is = (refl, refl)

pub error_between_v6 : (i : InnerValue) (header : Ipv6Repr) (message : Icmpv6.MessageValue) (quoted : List ℕ) (p : PacketValue) →
    error_v6 i header message quoted ≡ Some p → IsBetweenV6 header
error_between_v6 i header message quoted p is =
    between_v6 (is_unicast_v6 header.src_addr) (is_unicast_v6 header.dst_addr) (reply_v6 i header message quoted) p is

told_of : (a : Bool) (q p : PacketValue) → (if a then Some q else None) ≡ Some p → IsTrue a
told_of true q p is = refl
told_of false q p is = absurd (cc is)

pub problem_told : (i : InnerValue) (header : Ipv6Repr) (payload : List ℕ) (problem : Problem) (pointer : ℕ) (p : PacketValue) →
    parameter_problem i header payload problem pointer ≡ Some p → IsToldOf problem header
problem_told i header payload Told.Field pointer p is =
    between_v6 (is_unicast_v6 header.src_addr) (is_unicast_v6 header.dst_addr)
    (reply_v6 i header (Icmpv6.ParamProblem (reason_of Told.Field) pointer header) (quoted_v6 payload)) p is
problem_told i header payload Told.NextHeader pointer p is =
    between_v6 (is_unicast_v6 header.src_addr) (is_unicast_v6 header.dst_addr)
    (reply_v6 i header (Icmpv6.ParamProblem (reason_of Told.NextHeader) pointer header) (quoted_v6 payload)) p is
problem_told i header payload Told.Option pointer p is =
    between_v6 (is_unicast_v6 header.src_addr) (is_unicast_v6 header.dst_addr)
    (reply_v6 i header (Icmpv6.ParamProblem (reason_of Told.Option) pointer header) (quoted_v6 payload)) p is
problem_told i header payload Told.OptionToAny pointer p is =
    told_of (is_unicast_v6 header.src_addr)
    (reply_v6 i header (Icmpv6.ParamProblem (reason_of Told.OptionToAny) pointer header) (quoted_v6 payload)) p is

-- SEGMENTS

named_if : (b : Bool) (o : Option PacketValue) (p : PacketValue) → (if b then None else o) ≡ Some p → b ≡ false
named_if true o p is = absurd (cc is)
named_if false o p is = refl

pub segment_named : (i : InnerValue) (slots : Slots) (ip : IpRepr) (taken : Bool) (header : TcpHeader) (bytes : List ℕ) (p : PacketValue) →
    segment_reply i slots ip taken header bytes ≡ Some p → names_no_endpoint i ip ≡ false
segment_named i slots ip taken header bytes p is = named_if (names_no_endpoint i ip) (segment_answer (context_of i) ip header bytes taken slots) p is

pub connected_first : (ip : IpRepr) (header : TcpHeader) (slots : Slots) (at : ℕ) → first_slot (λ s. is_connected s ip header) slots ≡ Some at →
    segment_slot ip header slots ≡ Some at
connected_first ip header slots at found = ap (λ (o : Option ℕ). or_else o (first_slot (λ s. accepts_segment s ip header) slots)) found
