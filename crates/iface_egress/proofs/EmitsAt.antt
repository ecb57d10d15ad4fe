-- A frame that went, by what its bytes and its length are equal to.
use Rattle.std.proofs.Common.{◌≡◌, ℕ, Bool, List, subst}
use Rattle.net_base.specs.Device.{Move}
use Rattle.iface_egress.specs.Emits.{Emits}

pub emits_at : {D : Type 0} (moves : D → Move → D → Type 0) (old new : D) (frame other : List ℕ) (len size : ℕ) (gone : Bool) → frame ≡ other → len ≡ size
    → Emits moves old frame len gone new → Emits moves old other size gone new
emits_at moves old new frame other len size gone same long was_sent =
    subst (λ (n : ℕ). Emits moves old other n gone new) long (subst (λ (bytes : List ℕ). Emits moves old bytes len gone new) same was_sent)
