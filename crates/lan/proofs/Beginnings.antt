-- A world that begins.
use Rattle.std.proofs.Common.{◌≡◌, ◌⊎◌, List, [], ◌∷◌, Option, None, Some, IfSome, Result, Ok, Err, IfErr, IsErrAnd, OnOk, refl, sym, ◌∙◌, subst}
use Rattle.std.specs.Prelude.{option_map}
use Rattle.lan.specs.Worlds.AtLink.Runs.{WorldValue}
use Rattle.lan.specs.Worlds.AtLink.Node.{NodeValue}
use Rattle.lan.specs.Worlds.Provenance.{both, starts_of}
use Rattle.lan.specs.Hosts.{first_of, first_world}
use Rattle.lan.specs.Ends.{world_end}
use Rattle.lan.specs.declared.error.WorldError.{WorldError}
use Rattle.lan.specs.declared.end.End.{End}
use Rattle.lan.specs.declared.end.End.TheVariants.{Refusal}
use Rattle.lan.specs.declared.at_link.history.answer.Refused.TheVariants.{Memory}

pub begins : (world : WorldValue) (a b : NodeValue) → world.hosts ≡ both a b → world.starts ≡ starts_of a b → world.history ≡ [] → world ≡ first_world a b
begins world a b hosts starts history = λ k. record { hosts = hosts k; starts = starts k; history = history k }

-- nothing stood against a world that was made
pub none_against : (o : Option WorldError) (result : Result WorldValue WorldError) (world : WorldValue) → result ≡ Ok world → IfSome o (λ error. result ≡ Err error) →
    option_map world_end o ≡ None
none_against None result world ok exact = refl
none_against (Some error) result world ok exact = absurd (let never : Ok world ≡ Err error = sym ok ∙ exact in cc)

-- OF RESULTS

pub made_so : {X E : Type 0} (result : Result X E) (x : X) (P : Type 0) → result ≡ Ok x → OnOk result P → P
made_so {X} {E} result x P is so = subst (λ (r : Result X E). OnOk r P) is so

pub error_so : {X E : Type 0} (result : Result X E) (e : E) (P : E → Type 0) → result ≡ Err e → IfErr result P → P e
error_so {X} {E} result e P is so = subst (λ (r : Result X E). IfErr r P) is so

pub if_error : {X E : Type 0} (result : Result X E) (e : E) (P : E → Type 0) → IsErrAnd result (λ x. x ≡ e) → P e → IfErr result P
if_error (Ok x) e P is so = tt
if_error (Err x) e P is so = subst P (sym is) so

-- ENDS

-- both interfaces were made, so that the first end is one of the others
pub later_end : (first second : Option End) (ends : List (Option End)) (end : End) → first ≡ None → second ≡ None →
    (first_of ends ≡ Some end) ⊎ (end ≡ Refusal Memory) → (first_of (first ∷ second ∷ ends) ≡ Some end) ⊎ (end ≡ Refusal Memory)
later_end first second ends end none no_other so =
    subst (λ (o : Option End). (first_of (o ∷ second ∷ ends) ≡ Some end) ⊎ (end ≡ Refusal Memory)) (sym none)
    (subst (λ (o : Option End). (first_of (None ∷ o ∷ ends) ≡ Some end) ⊎ (end ≡ Refusal Memory)) (sym no_other) so)
