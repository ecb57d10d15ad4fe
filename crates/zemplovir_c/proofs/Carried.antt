-- A call that lends a client's datagram to C.
use Rattle.std.proofs.Common.{◌≡◌, ℕ, List, Option, Some, sym, subst}
use Rattle.std.specs.Prelude.{Result}
use Rattle.c_calls.specs.Host.{StackValue}
use Rattle.c_calls.specs.declared.carrying.Sending.{Sending}
use Rattle.c_calls.specs.declared.code.Code.{Code}
use Rattle.zemplovir_c.specs.Answers.{number_by}
use Rattle.zemplovir_c.specs.Configuring.{Carried, Carries, count_given, remote_given, local_given}

-- the host was there, the call did as it says, and the host is back
pub carries : (Does : List ℕ → StackValue → Result Sending Code → List ℕ → StackValue → Type 0) (inside after : Option StackValue) (host left : StackValue)
    (number : ℕ) (answer : Result Sending Code) (old new : Carried) → inside ≡ Some host → after ≡ Some left → Does old.bytes host answer new.bytes left
    → number ≡ number_by answer → new.count ≡ count_given answer old.count → new.remote ≡ remote_given answer old.remote
    → new.local ≡ local_given answer old.local → Carries Does inside number old new after
carries Does inside after host left number answer old new had has does number_is count_is remote_is local_is =
    subst (λ (x : Option StackValue). Carries Does x number old new after) (sym had)
    (answer, (left, does, number_is, count_is, remote_is, local_is, has))
