use Rattle.std.proofs.Common.{Option, subst}
use Rattle.iface_ingress.specs.UpperLayer.{IsCarriedContent}
use Rattle.iface_ingress.specs.Read.{datagram_of}
use Rattle.iface_ingress.specs.declared.upper_layer.ReadDatagram.{ReadDatagram}
use Rattle.iface_ingress.proofs.copy_checksum.take_datagram.Goals as goal

pub queue_read-requires : goal.queue_read-requires
queue_read-requires c = (
  c.ignored-untested.result,
  subst (λ (o : Option ReadDatagram). IsCarriedContent c.ignored-untested.result c.args.upper.now c.args.packet.now (datagram_of o)) c.in-Some.is
      c.read_udp.ensures,
)

pub returns-in-Some-clause-taken : goal.returns-in-Some-clause-taken
returns-in-Some-clause-taken c = c.queue_read.ensures.taken
