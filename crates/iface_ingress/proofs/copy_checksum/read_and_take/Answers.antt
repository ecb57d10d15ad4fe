use Rattle.std.proofs.Common.{ℕ, List, Option, subst}
use denote.Ref.{Bor}
use Rattle.iface_ingress.specs.UpperLayer.{IsCarriedContent}
use Rattle.iface_ingress.specs.Read.{segment_of}
use Rattle.iface_ingress.proofs.copy_checksum.read_and_take.Goals as goal

pub take_read-requires-clause-read : goal.take_read-requires-clause-read
take_read-requires-clause-read c = (
  c.ignored-untested.result,
  subst (λ (o : Option (Bor (List ℕ))). IsCarriedContent c.ignored-untested.result c.args.upper.now c.args.packet.now
      (segment_of c.read_tcp.new.segment o)) c.in-Some.is c.read_tcp.ensures,
)

pub returns-in-Some-clause-taken : goal.returns-in-Some-clause-taken
returns-in-Some-clause-taken c = c.take_read.ensures.taken
