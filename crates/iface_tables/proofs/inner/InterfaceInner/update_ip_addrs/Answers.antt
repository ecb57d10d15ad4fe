use Rattle.std.proofs.Common.{rules, ◌≡◌, ap, ◌∙◌}
use Rattle.std.specs.Fn.{FnOnceReturnsAtMut}
use Rattle.iface_tables.specs.Inner.{InnerValue}
use Rattle.iface_tables.specs.Settings.{with_addresses}
use Rattle.iface_tables.proofs.inner.InterfaceInner.update_ip_addrs.Goals as goal

pub returns : goal.returns
returns g c =
    let called : FnOnceReturnsAtMut g.F.FnOnce c.args.f c.copied-addrs.result tt c.f.new.arg2 = search rules in
    let after : c.set_ip_addrs.new.self ≡ with_addresses c.args.self.now c.f.new.arg2.items = cc in (
      c.copied-addrs.result,
      c.f.new.arg2,
      c.copied-addrs.ensures ∙ c.as_slice.ensures.value ∙ ap (λ (i : InnerValue). i.addresses) c.self.view_is,
      called,
      c.set_ip_addrs.ensures.ok,
      after,
    )
