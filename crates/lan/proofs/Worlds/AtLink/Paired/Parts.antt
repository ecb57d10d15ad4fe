-- The segments from a port, and the two sides of a pair.
use Rattle.std.proofs.Common.{◌≡◌, ◌≢◌, ℕ, zero, suc, ◌==◌, ◌<◌, Bool, true, false, if◌then◌else◌, List, [], ◌∷◌, ◌++◌, length, map}
use Rattle.std.proofs.Common.{Some, refl, ap, ◌∙◌, eq-eqb, arith}
use Rattle.std.proofs.lemmas.Bool.{ne_eqb}
use Rattle.std.specs.Prelude.{slice_get}
use Rattle.tcp_refinement.specs.Host.{Made, source_port}
use Rattle.tcp_refinement.specs.Pair.Sides.{Both, at, put}
use Rattle.tcp_refinement.specs.Pair.Sides as Sides
use Rattle.tcp_refinement.specs.declared.pair.event.Side as Pairs
use Rattle.tcp_refinement.specs.declared.pair.event.Side.TheVariants as Of
use Rattle.lan.specs.declared.at_link.history.event.Side.{Side}
use Rattle.lan.specs.declared.at_link.history.event.Side.TheVariants.{A, B}
use Rattle.lan.specs.Worlds.AtLink.Kinds.{other}
use Rattle.lan.specs.Worlds.AtLink.Paired.{from_port, side_in}

-- SIDES

pub at_put : {X : Type 0} (both : Both X) (side : Pairs.Side) (x : X) → at (put both side x) side ≡ x
at_put both Of.A x = refl
at_put both Of.B x = refl

pub at_put_other : {X : Type 0} (both : Both X) (side : Side) (x : X) → at (put both (side_in side) x) (side_in (other side)) ≡
    at both (side_in (other side))
at_put_other both A x = refl
at_put_other both B x = refl

pub put_same : {X : Type 0} (both : Both X) (side : Pairs.Side) → both ≡ put both side (at both side)
put_same both Of.A = refl
put_same both Of.B = refl

pub other_in : (side : Side) → side_in (other side) ≡ Sides.other (side_in side)
other_in A = refl
other_in B = refl

pub back_in : (side : Side) → Sides.other (side_in (other side)) ≡ side_in side
back_in A = refl
back_in B = refl

-- SEGMENTS FROM A PORT

pub from_more : (port : ℕ) (made : List Made) (x : Made) → source_port x ≡ port → from_port port (made ++ x ∷ []) ≡ from_port port made ++ x ∷ []
from_more port [] x is = ap (λ (t : Bool). if t then x ∷ [] else []) (eq-eqb (source_port x) port is)
from_more port (y ∷ ys) x is = by (source_port y == port) (from_more port ys x is) where
  by : (t : Bool) → from_port port (ys ++ x ∷ []) ≡ from_port port ys ++ x ∷ [] → (if t then y ∷ from_port port (ys ++ x ∷ []) else from_port port (ys ++ x ∷ [])) ≡
      (if t then y ∷ from_port port ys else from_port port ys) ++ x ∷ []
  by true rest = ap (λ (zs : List Made). y ∷ zs) rest
  by false rest = rest

pub from_apart : (port : ℕ) (made : List Made) (x : Made) → source_port x ≢ port → from_port port (made ++ x ∷ []) ≡ from_port port made
from_apart port [] x apart = ap (λ (t : Bool). if t then x ∷ [] else []) (ne_eqb (source_port x) port apart)
from_apart port (y ∷ ys) x apart = by (source_port y == port) (from_apart port ys x apart) where
  by : (t : Bool) → from_port port (ys ++ x ∷ []) ≡ from_port port ys → (if t then y ∷ from_port port (ys ++ x ∷ []) else from_port port (ys ++ x ∷ [])) ≡
      (if t then y ∷ from_port port ys else from_port port ys)
  by true rest = ap (λ (zs : List Made). y ∷ zs) rest
  by false rest = rest

pub from_get : (port : ℕ) (made : List Made) (k : ℕ) (x : Made) → slice_get made k ≡ Some x → source_port x ≡ port →
    (j : ℕ) × (slice_get (from_port port made) j ≡ Some x)
from_get port [] zero x e is = absurd (cc)
from_get port [] (suc k) x e is = absurd (cc)
from_get port (y ∷ ys) zero x e is =
    let same : y ≡ x = cc in (
      zero,
      ap (λ (t : Bool). slice_get (if t then y ∷ from_port port ys else from_port port ys) zero)
          (eq-eqb (source_port y) port (ap source_port same ∙ is)) ∙ ap (λ (z : Made). Some z) same,
    )
from_get port (y ∷ ys) (suc k) x e is = by (source_port y == port) (from_get port ys k x e is) where
  by : (t : Bool) → (j : ℕ) × (slice_get (from_port port ys) j ≡ Some x) →
      (j : ℕ) × (slice_get (if t then y ∷ from_port port ys else from_port port ys) j ≡ Some x)
  by true found = (suc found.0, found.1)
  by false found = found

pub map_get : {X Y : Type 0} (f : X → Y) (xs : List X) (j : ℕ) (y : Y) → slice_get (map f xs) j ≡ Some y → (x : X) × (slice_get xs j ≡ Some x) × (f x ≡ y)
map_get f [] zero y e = absurd (cc)
map_get f [] (suc j) y e = absurd (cc)
map_get f (x ∷ xs) zero y e = (x, refl, (let same : f x ≡ y = some_is (f x) y e in same))
  where
    some_is : {Z : Type 0} (a b : Z) → Some a ≡ Some b → a ≡ b
    some_is a b e = cc
map_get f (x ∷ xs) (suc j) y e = map_get f xs j y e

pub get_below : {X : Type 0} (xs : List X) (k : ℕ) (x : X) → slice_get xs k ≡ Some x → k < length xs
get_below [] zero x e = absurd (cc)
get_below [] (suc k) x e = absurd (cc)
get_below (y ∷ ys) zero x e = omega arith
get_below (y ∷ ys) (suc k) x e = let below = get_below ys k x e in omega (arith, below)
