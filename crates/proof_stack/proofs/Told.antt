-- What tells two values apart, from what tells their parts apart.
use Rattle.std.proofs.Common.{◌≡◌, Bool, sym, subst}
use Rattle.std.specs.Bool.{Decides}

pub both : {P Q : Type 0} → P → Q → P × Q
both p q = (p, q)

pub front : {P Q : Type 0} → P × Q → P
front p = p.0

pub back : {P Q : Type 0} → P × Q → Q
back p = p.1

-- one answer decides what another does that is the same
pub by_other : {P : Type 0} (r s : Bool) → r ≡ s → Decides s P → Decides r P
by_other {P} r s e d = subst (λ t. Decides t P) (sym e) d
