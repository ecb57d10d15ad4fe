use Rattle.std.proofs.Common.{rules, ap}
use Rattle.std.specs.Fn.{FnOnceReturnsAtMut}
use Rattle.iface_tables.specs.Inner.{InnerValue}
use Rattle.iface_tables.specs.Settings.{routes_of, with_route_table}
use Rattle.iface_tables.proofs.inner.InterfaceInner.update_routes.Goals as goal

pub returns : goal.returns
returns g c =
    let called : FnOnceReturnsAtMut g.F.FnOnce c.args.f c.self.inside.routes c.f.result c.f.new.arg2 = search rules in (
      c.self.inside.routes,
      c.f.new.arg2,
      ap routes_of c.self.view_is,
      called,
      ap (λ (i : InnerValue). with_route_table i c.f.new.arg2) c.self.view_is,
    )
