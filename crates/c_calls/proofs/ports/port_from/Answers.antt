use Rattle.std.proofs.Common.{ℕ, ℤ, List, Option, ap, ◌∙◌}
use Rattle.interface.specs.Inner.{context_of}
use Rattle.c_calls.specs.Ports.{first_port, free_port, port_count}
use Rattle.c_calls.proofs.ports.port_from.Goals as goal

pub returns : goal.returns
unfolding port_count
returns c =
    c.free_port.ensures
    ∙ ap (λ (p : ℕ). free_port c.args.sockets.now c.args.number p port_count)
    (c.first_port-first.ensures
    ∙ (ap (λ (k : Option (List ℕ)). first_port k c.now.result c.args.remote.now) c.isn_key.ensures
    ∙ ap (λ (t : ℤ). first_port (context_of c.args.inner.now).isn_key t c.args.remote.now) c.now.ensures.value))
