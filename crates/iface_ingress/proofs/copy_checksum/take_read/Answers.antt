use Rattle.std.proofs.Common.{Some}
use Rattle.socket_context.specs.Packet.{Segment}
use Rattle.iface_ingress.proofs.OnePass.{segment_tested}
use Rattle.iface_ingress.proofs.copy_checksum.take_read.Goals as goal

pub sum_before_text-rest-requires-clause-whole : goal.sum_before_text-rest-requires-clause-whole
sum_before_text-rest-requires-clause-whole c = c.requires.read.1.format.whole

pub returns-clause-taken : goal.returns-clause-taken
returns-clause-taken c = λ yes payload taken. (
  Some (Segment c.args.segment.now c.args.bytes.now),
  segment_tested c.requires.read.0 c.args.inner.now.checksums c.args.upper.now c.args.packet.now c.args.bytes.now c.args.segment.now
      c.sum_before_text-rest.result c.requires.read.1 c.sum_before_text-rest.ensures (c.take_found.ensures.sum yes),
  c.take_found.ensures.handed yes payload taken,
)
