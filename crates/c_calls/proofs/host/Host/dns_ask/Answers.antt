use Rattle.std.proofs.Common.{◌≡◌, ap, subst, ◌∙◌}
use Rattle.interface.specs.Host.{HostValue}
use Rattle.interface.specs.Inner.{context_of}
use Rattle.c_calls.specs.Names.{Asks}
use Rattle.c_calls.specs.Configuring.{two_drawn}
use Rattle.c_calls.specs.Host.{StackValue}
use Rattle.c_calls.specs.contracts.host.Host.{the_view}
use Rattle.c_calls.proofs.host.Host.dns_ask.Goals as goal

pub returns-clause-asks : goal.returns-clause-asks
returns-clause-asks c short payload =
    let was = the_view c.self.inside in (
      subst (λ (s : StackValue). Asks (context_of s.host.inner) c.args.name.now c.args.kind s.dns c.start.result c.start.new.client) c.self.view_is
          (c.start.ensures.asks short payload),
      ap (λ (h : HostValue). record was { host = h; dns = c.start.new.client }) c.start.ensures.drawn
          ∙ ap (λ (s : StackValue). record s { host = two_drawn c.start.result s.host; dns = c.start.new.client }) c.self.view_is,
    )
