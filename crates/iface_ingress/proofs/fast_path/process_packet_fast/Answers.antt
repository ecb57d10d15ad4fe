use Rattle.std.proofs.Common.{◌≡◌, ℕ, List, sym, ap, ◌∙◌, subst}
use Rattle.net_base.specs.Capabilities.{verifies}
use Rattle.net_base.specs.ChecksumCapabilities.{ChecksumCapabilities}
use Rattle.ip_wire.specs.Ipv4 as Ipv4
use Rattle.iface_ingress.specs.Arrives.{arrived, reply_of}
use Rattle.iface_ingress.proofs.Readers.{measured-v4}
use Rattle.iface_ingress.proofs.ShortWay.{taken}
use Rattle.iface_ingress.proofs.fast_path.process_packet_fast.Goals as goal

pub process_ipv4_fast-requires-clause-fits : goal.process_ipv4_fast-requires-clause-fits
process_ipv4_fast-requires-clause-fits c =
    (measured-v4 (verifies c.checksum_caps.result.ipv4) c.args.bytes.now c.payload.result.now c.in-Ok.header (λ i. (c.type_inv.bytes i).fits)
    (subst (λ (b : List ℕ). Ipv4.IsIpv4 (verifies c.checksum_caps.result.ipv4) b c.in-Ok.header) c.new_unchecked-packet.ensures c.in-Ok.ensures.found)
    (c.payload.ensures ∙ ap Ipv4.payload_of c.new_unchecked-packet.ensures)).1

pub process_ipv4_fast-requires-clause-len : goal.process_ipv4_fast-requires-clause-len
process_ipv4_fast-requires-clause-len c =
    (measured-v4 (verifies c.checksum_caps.result.ipv4) c.args.bytes.now c.payload.result.now c.in-Ok.header (λ i. (c.type_inv.bytes i).fits)
    (subst (λ (b : List ℕ). Ipv4.IsIpv4 (verifies c.checksum_caps.result.ipv4) b c.in-Ok.header) c.new_unchecked-packet.ensures c.in-Ok.ensures.found)
    (c.payload.ensures ∙ ap Ipv4.payload_of c.new_unchecked-packet.ensures)).0

pub returns-then-is_fast-clause-taken : goal.returns-then-is_fast-clause-taken
returns-then-is_fast-clause-taken c =
    let i = c.args.inner.now in
    let found : Ipv4.IsIpv4 (verifies c.checksum_caps.result.ipv4) c.args.bytes.now c.in-Ok.header =
    subst (λ (b : List ℕ). Ipv4.IsIpv4 (verifies c.checksum_caps.result.ipv4) b c.in-Ok.header) c.new_unchecked-packet.ensures c.in-Ok.ensures.found in
    let caps : c.checksum_caps.result ≡ i.checksums = c.checksum_caps.ensures in
    λ is.
    taken i c.args.slots.now c.args.link.now c.args.bytes.now c.in-Ok.header c.fragment.result c.payload.result.now
    (arrived c.process_ipv4_fast.new.inner c.process_ipv4_fast.new.slots (reply_of c.process_ipv4_fast.new.reply))
    (subst (λ (k : ChecksumCapabilities). Ipv4.IsIpv4 (verifies k.ipv4) c.args.bytes.now c.in-Ok.header) caps found)
    (c.fragment.ensures ∙ ap Ipv4.fragment_of c.new_unchecked-packet.ensures)
    (c.payload.ensures ∙ ap Ipv4.payload_of c.new_unchecked-packet.ensures) (sym c.if-is_fast.ensures) c.process_ipv4_fast.ensures.hands
