-- What another host reads of a packet that went, and of a datagram.
use Rattle.std.proofs.Common.{◌≡◌, ◌≢◌, ℕ, ◌+◌, ◌^◌, ◌≤◌, arith, false, List, length, Option, Some, None, refl, sym, ap, ◌∙◌, subst}
use Rattle.std.specs.Prelude.{nat_lt}
use Rattle.std.proofs.lemmas.Bool.{cond_both}
use Rattle.wire_address.specs.declared.ip.IpAddress.{IpAddress}
use Rattle.wire_address.specs.declared.ip.IpAddress.TheVariants as Address
use Rattle.wire_address.specs.declared.ip.IpProtocol.TheVariants as Protocol
use Rattle.wire_address.specs.declared.hardware.HardwareAddress.{HardwareAddress}
use Rattle.wire_ip.specs.Ip as Ips
use Rattle.wire_ip.specs.Ip.{carried_in, destination_of}
use Rattle.wire_ip.specs.declared.ip.repr.IpRepr.{IpRepr}
use Rattle.wire_ip.specs.declared.ip.repr.IpRepr.TheVariants as Ip
use Rattle.socket_datagram.specs.Header.{header_between, hop_limit_or_default}
use Rattle.socket_datagram.specs.Udp.{UdpSettings, source_for, header_from}
use Rattle.socket_datagram.specs.declared.udp.UdpMetadata.{UdpMetadata}
use Rattle.socket_context.specs.Packet.{PacketValue, PayloadValue, ControlV4, ControlV6, Bytes, Datagram, Segment, payload_written}
use Rattle.socket_context.specs.WellFormed.{IsWellFormed, HasWidths}
use Rattle.socket_context.specs.Widths.{IsPayload}
use Rattle.iface_ingress.specs.Sent.{CanBeRead, normal_payload}
use Rattle.iface_ingress.specs.Upper.{IsBrought}
use Rattle.iface_tables.specs.Inner.{InnerValue, context_of, mtu_to}
use Rattle.iface_tables.proofs.PathMtu.{mtu_within}
use Rattle.iface_egress.specs.Departure.{Whole}
use Rattle.iface_egress.specs.IsTransmitted.{numbered}
use Rattle.iface_egress.specs.Plan.{plan_of, total_len}
use Rattle.iface_egress.specs.declared.plan.Plan.TheVariants as Way
use Rattle.interface.specs.TransmittedFrame.{Reader, CanRead, IsRead, IsOffered}
use Rattle.interface.specs.TransmittedFrame as Taken
use Rattle.interface.proofs.Arrives.{arrives}
use Rattle.interface.proofs.Offered.{writes, carried}
use Rattle.proof_stack.specs.Progress.Queued.{CanGo, with_ident, ports_of, FindsDatagram}
use Rattle.proof_stack.specs.Progress.Segments.{CanTransmit}
use Rattle.proof_stack.proofs.Polls.Ways.{goes_by_plan, leave_still, leaves, with_ident_same}

payload_widths : (x : PayloadValue) → HasWidths x → IsPayload x
payload_widths (ControlV4 message bytes) widths = widths
payload_widths (ControlV6 message bytes) widths = widths
payload_widths (Bytes bytes) widths = tt
payload_widths (Datagram udp bytes) widths = tt
payload_widths (Segment header bytes) widths = tt

offered : (p : PacketValue) → IsWellFormed p → IsOffered p
offered p formed = record {
  packet = record { len = formed.sendable.len; payload = λ short. formed.sendable.payload };
  header = formed.header;
  payload = payload_widths p.payload formed.payload;
}

short_enough : (len path most : ℕ) → len ≤ path → path ≤ most → most ≤ 65535 → len ≤ 65535
short_enough len path most one two three = omega arith

-- THE HEADER OF A DATAGRAM

abbrev no_header : Option IpRepr
no_header = None

abbrev CarriesUdp : Option IpRepr → IpRepr → Type 0
CarriesUdp o h = o ≡ Some h → carried_in h ≡ Protocol.Udp

none_carries : (h : IpRepr) → CarriesUdp None h
none_carries h is = absurd (let never : no_header ≡ Some h = is in cc)

some_carries : (k h : IpRepr) → carried_in k ≡ Protocol.Udp → CarriesUdp (Some k) h
some_carries k h udp is = ap carried_in (sym (let same : Some k ≡ Some h = is in let at : k ≡ h = cc in at)) ∙ udp

between : (source destination : IpAddress) (len limit : ℕ) (h : IpRepr) → CarriesUdp (header_between source destination Protocol.Udp len limit) h
between (Address.Ipv4 source) (Address.Ipv4 destination) len limit h =
    cond_both (nat_lt (20 + len) (2 ^ 16)) (Some (Ip.Ipv4 (record {
      src_addr = source;
      dst_addr = destination;
      next_header = Protocol.Udp;
      payload_len = len;
      hop_limit = limit;
      ident = 0;
      dont_frag = false;
    }))) None (λ (o : Option IpRepr). CarriesUdp o h)
    (λ _. some_carries (Ip.Ipv4 (record {
      src_addr = source;
      dst_addr = destination;
      next_header = Protocol.Udp;
      payload_len = len;
      hop_limit = limit;
      ident = 0;
      dont_frag = false;
    })) h refl)
    (λ _. none_carries h)
between (Address.Ipv6 source) (Address.Ipv6 destination) len limit h =
    cond_both (nat_lt len (2 ^ 16))
    (Some (Ip.Ipv6 (record { src_addr = source; dst_addr = destination; next_header = Protocol.Udp; payload_len = len; hop_limit = limit }))) None
    (λ (o : Option IpRepr). CarriesUdp o h)
    (λ _. some_carries (Ip.Ipv6
    (record { src_addr = source; dst_addr = destination; next_header = Protocol.Udp; payload_len = len; hop_limit = limit })) h refl)
    (λ _. none_carries h)
between (Address.Ipv4 source) (Address.Ipv6 destination) len limit h = none_carries h
between (Address.Ipv6 source) (Address.Ipv4 destination) len limit h = none_carries h

from : (o : Option IpAddress) (settings : UdpSettings) (destination : IpAddress) (size : ℕ) (h : IpRepr)
    → CarriesUdp (header_from o settings destination size) h
from None settings destination size h = none_carries h
from (Some source) settings destination size h = between source destination (8 + size) (hop_limit_or_default settings.hop_limit) h

-- WHAT IS READ OF A PACKET THAT WENT

module _ (i : InnerValue) (ident : ℕ) (to : HardwareAddress) (p : PacketValue) (reader : Reader) (wide : Taken.HasWidths (with_ident i ident))
    (can : CanTransmit i to p) (formed : IsWellFormed p) (reads : CanRead i to reader) where
  planned : plan_of (with_ident i ident) false p.header ≡ Way.Go to
  planned = goes_by_plan (with_ident i ident) false to p (leave_still i (with_ident i ident) to p (with_ident_same i ident) can)

  then_reads : CanRead (with_ident i ident) to reader
  then_reads = record { medium = reads.medium; sealed = reads.sealed }

  pub packet_read : IsRead (with_ident i ident) (Whole to (numbered (with_ident i ident) p)) reader
  packet_read padding =
      arrives (with_ident i ident) reader.hardware reader.checksums (Whole to (numbered (with_ident i ident) p)) padding reads.sealed (
        reads.medium,
        writes (with_ident i ident) p wide (offered p formed)
            (short_enough (total_len p.header) (mtu_to i (destination_of p.header)) i.mtu can.short
            (mtu_within i.paths (destination_of p.header) i.instant i.mtu) wide.mtu),
      )

  pub brings : CanBeRead p.header p.payload → IsBrought reader.checksums (Ips.normal (numbered (with_ident i ident) p).header)
      (payload_written i.checksums (numbered (with_ident i ident) p).header p.payload) (Some (normal_payload p.payload))
  brings readable = carried (with_ident i ident) false p to reader wide (offered p formed) planned then_reads readable

module _ (i : InnerValue) (ident : ℕ) (settings : UdpSettings) (d : UdpMetadata × List ℕ) (to : HardwareAddress) (p : PacketValue) (reader : Reader)
    (wide : Taken.HasWidths (with_ident i ident)) (can : CanGo i settings d to p) (formed : IsWellFormed p) (reads : CanRead i to reader) where
  pub is_read : IsRead (with_ident i ident) (Whole to (numbered (with_ident i ident) p)) reader
  is_read = packet_read i ident to p reader wide (leaves i settings d to p can) formed reads

  is_datagram : p.payload ≡ Datagram (ports_of settings d) d.1
  is_datagram = ap (λ (q : PacketValue). q.payload) can.takes.1

  readable : d.0.endpoint.port ≢ 0 → CanBeRead p.header p.payload
  readable some =
      subst (λ (x : PayloadValue). CanBeRead p.header x) (sym is_datagram)
      (from (source_for (context_of i) settings d.0) settings d.0.endpoint.addr (length d.1) p.header can.takes.0, accepted)
    where
      widths : HasWidths (Datagram (ports_of settings d) d.1)
      widths = subst (λ (x : PayloadValue). HasWidths x) is_datagram formed.payload

      accepted : Rattle.wire_ip.specs.Udp.IsAccepted (ports_of settings d)
      accepted = record { source_port = widths.source_port; destination_port = widths.destination_port; nonzero = some }

  pub finds : d.0.endpoint.port ≢ 0 → FindsDatagram (with_ident i ident) settings d (numbered (with_ident i ident) p) reader
  finds some =
      subst
      (λ (x : PayloadValue). IsBrought reader.checksums (Ips.normal (numbered (with_ident i ident) p).header)
      (payload_written i.checksums (numbered (with_ident i ident) p).header p.payload) (Some (normal_payload x)))
      is_datagram (brings i ident to p reader wide (leaves i settings d to p can) formed reads (readable some))
