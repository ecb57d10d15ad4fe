use Rattle.std.proofs.Common.{rules, ap, subst}
use Rattle.std.specs.Fn.{FnOnceReturnsAtMut}
use Rattle.base_wrappers.specs.TracerValue.{TracerValue, with_inner}
use Rattle.base_wrappers.proofs.tracer.Tracer.update_inner.Goals as goal

pub returns : goal.returns
returns g c =
    let called : FnOnceReturnsAtMut g.F.FnOnce c.args.f c.self.inside.inner c.f.result c.f.new.arg2 = search rules in (
      c.f.new.arg2,
      subst (λ (v : TracerValue _ _ _). FnOnceReturnsAtMut g.F.FnOnce c.args.f v.inner c.f.result c.f.new.arg2) c.self.view_is called,
      ap (λ (v : TracerValue _ _ _). with_inner c.f.new.arg2 v) c.self.view_is,
    )
