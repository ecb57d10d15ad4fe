use Rattle.std.proofs.Common.{subst}
use Rattle.iface_tables.specs.Inner.{InnerValue}
use Rattle.interface.specs.SameHost.{IsSameHost}
use Rattle.interface.proofs.host.Interface.poll_egress.Goals as goal

pub returns-then-send-clause-host : goal.returns-then-send-clause-host
returns-then-send-clause-host g c = subst (λ (i : InnerValue). IsSameHost i c.send.new.self.inner) c.begin.ensures.host c.if-send.ensures.host

pub returns-else-send-clause-host : goal.returns-else-send-clause-host
returns-else-send-clause-host g c = subst (λ (i : InnerValue). IsSameHost i c.send.new.self.inner) c.begin.ensures.host c.if-send.ensures.host
