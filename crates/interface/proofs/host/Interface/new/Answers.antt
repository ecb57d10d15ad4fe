use Rattle.std.proofs.Common.{◌≡◌, Result, Err, rules, subst, sym}
use Rattle.std.proofs.lemmas.Result.{err_from_is_err_and}
use Rattle.iface_tables.specs.Settings.{made, refusal}
use Rattle.iface_tables.specs.declared.config.NewError.{NewError}
use Rattle.interface.specs.Host.{HostValue}
use Rattle.interface.specs.Made.{Makes, new_host}
use Rattle.interface.proofs.Made.{lacks_memory, still_refused}
use Rattle.interface.proofs.host.Interface.new.Goals as goal

-- its tables aren't made
pub returns-in_err-inner : goal.returns-in_err-inner
returns-in_err-inner g c =
    let config = c.args.config.now in
    let device = g.D.Device.described c.args.device.now in
    let now = c.args.now in
    let it = err_from_is_err_and c.from_residual.result c.from_residual.ensures.1 in
    let same : c.from_residual.result ≡ Err c.in_err-inner.field-0.0 = cc (it.1, it.2) in
    subst (λ (r : Result HostValue NewError). Makes config device now r) (sym same)
    (still_refused (refusal config device now) (made config device now) (new_host config device now) c.in_err-inner.field-0.0 (search rules))

-- no memory for the fragmenter
pub returns-in_default : goal.returns-in_default
returns-in_default g c =
    let config = c.args.config.now in
    let device = g.D.Device.described c.args.device.now in
    let now = c.args.now in
    lacks_memory (refusal config device now) (made config device now) c.in_ok-inner.inner (new_host config device now) (search rules)

-- no memory for the assemblers
pub returns-in_default-new : goal.returns-in_default-new
returns-in_default-new g c =
    let config = c.args.config.now in
    let device = g.D.Device.described c.args.device.now in
    let now = c.args.now in
    lacks_memory (refusal config device now) (made config device now) c.in_ok-inner.inner (new_host config device now) (search rules)
