-- Routes that a setting changed.
use Rattle.std.proofs.Common.{◌≡◌, ◌∙◌, Bool, List, ap, subst}
use Rattle.ip_wire.specs.IpAddress.{IpAddress}
use Rattle.interface.specs.Made.{with_inner}
use Rattle.interface.specs.Host.{HostValue}
use Rattle.interface.specs.Settings.{routes_of, with_route_table}
use Rattle.interface.specs.Route.{Route}
use Rattle.iface_tables.specs.Route.{RoutesValue}
use Rattle.iface_tables.proofs.RouteTable.{same_room}
use Rattle.lan.specs.Worlds.AtLink.Kinds as Sets
use Rattle.lan.specs.Worlds.AtLink.Sets.{SetsTo, RoutedIf, has_route_room}

pub routed_same : (t b : Bool) (router : IpAddress) (old new : List Route) → t ≡ b → RoutedIf t router old new → RoutedIf b router old new
routed_same t b router old new is routed = subst (λ t. RoutedIf t router old new) is routed

pub set_route_is : (h h' : HostValue) (router : IpAddress) (before after : RoutesValue) → before ≡ routes_of h.inner →
    RoutedIf (has_route_room router before) router before.entries after.entries → after.room ≡ before.room
    → h' ≡ with_inner h (with_route_table h.inner after) → SetsTo h (Sets.Route router) h'
set_route_is h h' router before after is routed room set =
    let same : after.room ≡ h.inner.route_room = room ∙ ap (λ (rs : RoutesValue). rs.room) is in (
      after.entries,
      subst (λ (rs : RoutesValue). RoutedIf (has_route_room router rs) router rs.entries after.entries) is routed,
      set ∙ ap (with_inner h) (same_room h.inner after same),
    )
