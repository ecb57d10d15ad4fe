use Rattle.std.proofs.Common.{◌≡◌, ◌∙◌, ap}
use Rattle.std.specs.Prelude.{position}
use Rattle.std.proofs.lemmas.Result.{on_ok_weaker}
use Rattle.iface_tables.specs.Route.{RoutesValue, is_gateway_v4}
use Rattle.iface_tables.proofs.route.Routes.add_default_ipv4_route.Goals as goal

pub returns-clause-added : goal.returns-clause-added
returns-clause-added c =
    let items = c.as_slice.ensures.value ∙ ap (λ (rs : RoutesValue). rs.entries) c.self.view_is in
    let index : c.index_of_ipv4_gateway-index.result ≡ position is_gateway_v4 c.args.self.now.entries = c.index_of_ipv4_gateway-index.ensures.index ∙
    ap (position is_gateway_v4) items in
    on_ok_weaker c.exchange.result (λ added. let entries = ap (λ (rs : RoutesValue). rs.entries) added in (c.new_ipv4_gateway.result, c.new_ipv4_gateway.ensures, rw index at entries)) c.exchange.ensures.added
