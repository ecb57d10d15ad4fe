use Rattle.std.proofs.Common.{rules, ◌≡◌, subst}
use Rattle.iface_ingress.specs.Context.{ContextValue}
use Rattle.iface_ingress.specs.Sockets.{Offers}
use Rattle.iface_tables.specs.Looks.{look_context}
use Rattle.interface.specs.Remote.{context_for}
use Rattle.interface.proofs.serve.ask.Goals as goal

pub returns-clause-offers : goal.returns-clause-offers
returns-clause-offers c =
    let seen : look_context c.towards.result ≡ context_for c.args.inner.now c.args.item.now.socket = search rules in
    subst (λ (cx : ContextValue). Offers cx c.args.item.now.socket c.offer.result c.offer.new.self) seen c.offer.ensures.offer
