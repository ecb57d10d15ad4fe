-- An interface that isn't made.
use Rattle.std.proofs.Common.{◌≡◌, Option, Some, None, Result, Ok, Err, refl, ap}
use Rattle.iface_tables.specs.Settings.{MadeUnless}
use Rattle.iface_tables.specs.declared.config.NewError.{NewError}
use Rattle.iface_tables.specs.declared.config.NewError.TheVariants as New

-- what was made before hadn't been refused, so that memory lacks
pub lacks_memory : {X Y : Type 0} (o : Option NewError) (first value : X) (second : Y) → MadeUnless o first (Ok value) → MadeUnless o second (Err New.Memory)
lacks_memory None first value second made = refl
lacks_memory (Some e) first value second made = absurd cc

same_error : {X : Type 0} (e e' : NewError) → ◌≡◌ {A = Result X NewError} (Err e) (Err e') → e ≡ e'
same_error e e' is = cc

-- what was refused before is refused for the same reason
pub still_refused : {X Y : Type 0} (o : Option NewError) (first : X) (value : Y) (e : NewError) → MadeUnless o first (Err e) → MadeUnless o value (Err e)
still_refused None first value e made = made
still_refused (Some x) first value e made = ap (λ (y : NewError). Err y) (same_error e x made)
