-- What a closure's answer says, by which variant it is.
use Rattle.std.proofs.Common.{◌≡◌, true, false}
use Rattle.std.specs.Prelude.{Result, Ok, Err, is_ok, MatchResult}
use Rattle.std.proofs.lemmas.Bool.{false≢true, true≢false}

pub MatchResult-ok : {T E : Type 0} (r : Result T E) (P Q : Type 0) → is_ok r ≡ true → P → MatchResult r (λ _. P) (λ _. Q)
MatchResult-ok (Ok x) P Q e p = p
MatchResult-ok (Err x) P Q e p = absurd (false≢true e)

pub MatchResult-err : {T E : Type 0} (r : Result T E) (P Q : Type 0) → is_ok r ≡ false → Q → MatchResult r (λ _. P) (λ _. Q)
MatchResult-err (Ok x) P Q e q = absurd (true≢false e)
MatchResult-err (Err x) P Q e q = q
