use Rattle.std.proofs.Common.{arith}
use Rattle.c_calls.proofs.FreePorts.{port_chosen, port_named}
use Rattle.c_calls.proofs.ports.port_for.Goals as goal

pub returns-then-port-eq0 : goal.returns-then-port-eq0
returns-then-port-eq0 c =
    port_chosen c.args.inner.now c.args.sockets.now c.args.number c.args.remote.now c.args.port (omega (arith, c.if-port-eq0.true))
    c.port_from.result c.port_from.ensures

pub returns-else-port-eq0 : goal.returns-else-port-eq0
returns-else-port-eq0 c =
    port_named c.args.inner.now c.args.sockets.now c.args.number c.args.remote.now c.args.port (λ e. omega (arith, e, c.if-port-eq0.false))
