use Rattle.std.proofs.Common.{ℕ, ◌≤◌, List, length, Some, sym, subst}
use Rattle.socket_context.specs.Packet.{Datagram}
use Rattle.iface_ingress.proofs.OnePass.{datagram_tested, carried_short}
use Rattle.iface_ingress.proofs.copy_checksum.queue_read.Goals as goal

pub checksum-requires : goal.checksum-requires
checksum-requires c = subst (λ (b : List ℕ). 8 ≤ length b) (sym c.new_unchecked.ensures) c.requires.1.format.whole.header

pub sum_before_payload-rest-requires : goal.sum_before_payload-rest-requires
sum_before_payload-rest-requires c = c.requires.1.format.whole

pub queue_found-requires : goal.queue_found-requires
queue_found-requires c =
    carried_short c.args.packet.now c.args.datagram.now.bytes.now c.sum_before_payload-rest.ensures.short c.requires.1.bytes_are

pub returns-clause-taken : goal.returns-clause-taken
returns-clause-taken c = λ yes payload taken. (
  Some (Datagram c.args.datagram.now.header c.args.datagram.now.bytes.now),
  datagram_tested c.requires.0 c.args.inner.now.checksums c.args.upper.now c.args.packet.now c.args.datagram.now.bytes.now
      c.args.datagram.now.header c.sum_before_payload-rest.result c.requires.1 c.sum_before_payload-rest.ensures.sum (c.queue_found.ensures.sum yes),
  c.queue_found.ensures.handed yes payload taken,
)
