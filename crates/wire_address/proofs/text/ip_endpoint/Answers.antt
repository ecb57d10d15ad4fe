use Rattle.std.proofs.Common.{ℕ, Some, ◌∙◌, ap}
use Rattle.wire_address.specs.declared.ip.IpAddress.{IpAddress}
use Rattle.wire_address.specs.declared.ip.IpEndpoint.{IpEndpoint}
use Rattle.wire_address.proofs.Families.{endpoint_v4}
use Rattle.wire_address.proofs.text.ip_endpoint.Goals as goal

pub returns-in-Some-clause-only : goal.returns-in-Some-clause-only
returns-in-Some-clause-only c = λ e h.
    let both = endpoint_v4 c.args.text.now c.in-Some.address c.in-Some.port c.in-Some.ensures.found c.in-Some.ensures.only e.addr e.port h in
    let make : IpAddress → ℕ → IpEndpoint = λ a port. record { addr = a; port = port } in
    ap Some (c.new.ensures ∙ (λ i. make (both.0 i) (both.1 i)))
