use Rattle.std.proofs.Common.{arith}
use Rattle.socket_datagram.proofs.DnsClient.Stood.{Stood-begin, Stood-more, Stood-all, Stood-cut}
use Rattle.socket_datagram.proofs.dns.records.Records.are_whole.Goals as goal

pub records-init : goal.records-init
records-init c = Stood-begin _ _ _

pub records-preserved : goal.records-preserved
records-preserved c = Stood-more _ _ _ _ _ _ _ _ c.records.invariant c.in-Ok.ensures.found (omega arith)

pub returns-in_default-clause-cut : goal.returns-in_default-clause-cut
returns-in_default-clause-cut c =
    λ e. Stood-cut _ _ _ _ _ c.records.invariant (omega arith) (λ r next is. c.in_default.not-Ok (r, next) (c.parse.ensures.only r next is))

pub returns-clause-whole : goal.returns-clause-whole
returns-clause-whole c = λ e. Stood-all _ _ _ _ _ c.records.invariant (omega arith)
