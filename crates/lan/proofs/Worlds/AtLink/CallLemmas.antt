-- Whose call an entry is.
use Rattle.std.proofs.Common.{◌≡◌, ◌≢◌, ◌⊎◌, inl, inr, ℕ, ◌==◌, ◌&&◌, Bool, true, false, if◌then◌else◌, Option, Some, None, refl, sym, ap, ◌∙◌, subst, eq-eqb}
use Rattle.std.proofs.Common.{arith}
use Rattle.std.proofs.lemmas.Bool.{eqb-true}
use Rattle.lan.specs.declared.at_link.history.event.Side.{Side}
use Rattle.lan.specs.declared.at_link.history.event.Side.TheVariants.{A, B}
use Rattle.lan.specs.Worlds.AtLink.Kinds.{other, same_side, Kind, kind_of, calls}
use Rattle.lan.specs.Worlds.AtLink.Call.{SocketCall}
use Rattle.lan.specs.Worlds.AtLink.Kinds.Act.{Calls}
use Rattle.lan.specs.Worlds.AtLink.Kinds.Kind.{OfHost}
use Rattle.lan.specs.Worlds.AtLink.History.{Entry, call_in, call_of}

pub same_side_refl : (s : Side) → same_side s s ≡ true
same_side_refl A = refl
same_side_refl B = refl

pub same_side_other : (s : Side) → same_side s (other s) ≡ false
same_side_other A = refl
same_side_other B = refl

pub other_side_same : (s : Side) → same_side (other s) s ≡ false
other_side_same A = refl
other_side_same B = refl

pub other_twice : (s : Side) → other (other s) ≡ s
other_twice A = refl
other_twice B = refl

pub sides_same : (s t : Side) → same_side s t ≡ true → s ≡ t
sides_same A A e = refl
sides_same B B e = refl
sides_same A B e = absurd (cc)
sides_same B A e = absurd (cc)

-- the call that a kind is, where it is
pub call_in_here : (side : Side) (i : ℕ) (call : SocketCall) → call_in (calls side i call) side i ≡ Some call
call_in_here side i call =
    ap (λ (t : Bool). if t && (i == i) then Some call else None) (same_side_refl side)
    ∙ ap (λ (t : Bool). if t then Some call else None) (eq-eqb i i refl)

pub call_here : (e : Entry) (side : Side) (i : ℕ) (call : SocketCall) → kind_of e.event ≡ calls side i call → call_of e side i ≡ Some call
call_here e side i call k = ap (λ (kind : Kind). call_in kind side i) k ∙ call_in_here side i call

pub call_at_other_side : (e : Entry) (side : Side) (i j : ℕ) (call : SocketCall) → kind_of e.event ≡ calls side i call → call_of e (other side) j ≡ None
call_at_other_side e side i j call k =
    ap (λ (kind : Kind). call_in kind (other side) j) k
    ∙ ap (λ (t : Bool). if t && (i == j) then Some call else None) (same_side_other side)

pub call_at_other_slot : (e : Entry) (side : Side) (i j : ℕ) (call : SocketCall) → kind_of e.event ≡ calls side i call → (i == j) ≡ false →
    call_of e side j ≡ None
call_at_other_slot e side i j call k apart =
    ap (λ (kind : Kind). call_in kind side j) k
    ∙ ap (λ (t : Bool). if t && (i == j) then Some call else None) (same_side_refl side)
    ∙ ap (λ (t : Bool). if t then Some call else None) apart

-- and so it is one where it says so
pub call_found : (kind : Kind) (side : Side) (i : ℕ) (call : SocketCall) → call_in kind side i ≡ Some call → kind ≡ calls side i call
call_found (OfHost s (Calls j c)) side i call e = by (same_side s side) (j == i) refl refl e where
  by : (t u : Bool) → same_side s side ≡ t → (j == i) ≡ u → (if t && u then Some c else None) ≡ Some call → calls s j c ≡ calls side i call
  by true true t u e =
      let same : s ≡ side = sides_same s side t in
      let slot : j ≡ i = eqb-true j i u in
      let called : c ≡ call = cc in
      ap (λ (s : Side). calls s j c) same ∙ ap (λ (j : ℕ). calls side j c) slot ∙ ap (λ (c : SocketCall). calls side i c) called
  by true false t u e = absurd (cc)
  by false true t u e = absurd (cc)
  by false false t u e = absurd (cc)
call_found kind side i call e = absurd (cc)

-- each entry is a call of the socket or it is none
pub call_or_none : (o : Option SocketCall) → (o ≡ None) ⊎ ((call : SocketCall) × (o ≡ Some call))
call_or_none None = inl refl
call_or_none (Some call) = inr (call, refl)
