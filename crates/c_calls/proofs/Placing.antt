-- A call of the listener at a place of a host.
use Rattle.std.proofs.Common.{◌≡◌, ℕ, ◌<◌, List, length, Option, None, Some, Result, Ok, Err, refl, sym, ap, subst, ◌∙◌}
use Rattle.std.specs.Prelude.{slice_get, slice_set, slice_index_or}
use Rattle.std.proofs.lemmas.List.{set-get_or}
use Rattle.std.proofs.lemmas.Option.{slice_get_read}
use Rattle.interface.specs.declared.listener.Listener.{Listener}
use Rattle.c_calls.specs.declared.code.Code.{Code}
use Rattle.c_calls.specs.Backlogs.{listener_in, listener_at, WhereThere, OnSlot}

module _ {A : Type 0} (Does : Listener → Result A Code → Option Listener →
    Type 0) (ls ls' : List (Option Listener)) (n : ℕ) (result : Result A Code) (l' : Option Listener) where
  there : (l : Option Listener) → slice_set ls n l ≡ ls → WhereThere Does l result l' → ls' ≡ slice_set ls n l' → OnSlot Does l ls n result ls'
  there None same h is = (h.0, is ∙ ap (slice_set ls n) h.1 ∙ same)
  there (Some l) same h is = (l', h, is)

  pub on_listener : (l : Option Listener) → n < length ls → l ≡ slice_index_or ls n l
      → WhereThere Does l result l' → ls' ≡ slice_set ls n l' → OnSlot Does (listener_at ls n) ls n result ls'
  on_listener l within at h is =
      let got : slice_get ls n ≡ Some l = slice_get_read ls (length ls) n l refl within at in
      let same : slice_set ls n l ≡ ls = ap (slice_set ls n) at ∙ set-get_or ls n l in
      subst (λ x. OnSlot Does (listener_in x) ls n result ls') (sym got) (there l same h is)
