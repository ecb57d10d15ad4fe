-- A table of routes in place of another with as much room.
use Rattle.std.proofs.Common.{◌≡◌, ℕ, ap}
use Rattle.iface_tables.specs.Inner.{InnerValue}
use Rattle.iface_tables.specs.Route.{RoutesValue}
use Rattle.iface_tables.specs.Settings.{with_routes, with_route_table}

pub same_room : (i : InnerValue) (rs : RoutesValue) → rs.room ≡ i.route_room → with_route_table i rs ≡ with_routes i rs.entries
same_room i rs is = ap (λ (room : ℕ). record i { routes = rs.entries; route_room = room }) is
