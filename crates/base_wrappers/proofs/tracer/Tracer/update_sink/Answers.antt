use Rattle.std.proofs.Common.{rules, ap, subst}
use Rattle.std.specs.Fn.{FnOnceReturnsAtMut}
use Rattle.base_wrappers.specs.TracerValue.{TracerValue, with_sink}
use Rattle.base_wrappers.proofs.tracer.Tracer.update_sink.Goals as goal

pub returns : goal.returns
returns g c =
    let called : FnOnceReturnsAtMut g.F.FnOnce c.args.f c.self.inside.sink c.f.result c.f.new.arg2 = search rules in (
      c.f.new.arg2,
      subst (λ (v : TracerValue _ _ _). FnOnceReturnsAtMut g.F.FnOnce c.args.f v.sink c.f.result c.f.new.arg2) c.self.view_is called,
      ap (λ (v : TracerValue _ _ _). with_sink c.f.new.arg2 v) c.self.view_is,
    )
