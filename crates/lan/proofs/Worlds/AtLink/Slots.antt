-- The sockets of a host after one of them was exchanged.
use Rattle.std.proofs.Common.{◌≡◌, ◌≢◌, ◌⊎◌, inl, inr, ℕ, ◌<◌, ◌≤◌, ◌==◌, true, false, List, length, map, Option, Some, None, refl, sym, ap, ◌∙◌, subst, arith}
use Rattle.std.specs.Prelude.{slice_index_or, slice_set}
use Rattle.std.proofs.lemmas.Bool.{cases_lt}
use Rattle.std.proofs.lemmas.Bool.Decides.{eqb_tells}
use Rattle.std.proofs.lemmas.List.{get_or-set_same, get_or-set_other, get_or_past, length-set}
use Rattle.lan.specs.Worlds.AtLink.Parties.{Socket, Party, socket_at}
use Rattle.lan.specs.Worlds.AtLink.Moves.{with_socket}

pub some_is : {X : Type 0} (x y : X) → Some x ≡ Some y → x ≡ y
some_is x y e = cc

-- a socket of the new host: the new one, or one of another slot
pub socket_cases : (p : Party) (at : ℕ) (new : Socket) (i : ℕ) (s : Socket) → socket_at (with_socket p at new) i ≡ Some s → ((i ≡ at) × (new ≡ s)) ⊎
    ((i ≢ at) × (socket_at p i ≡ Some s))
socket_cases p at new i s h = by (eqb_tells i at) where
  here : (i ≡ at) → (at < length p.sockets) ⊎ (length p.sockets ≤ at) → new ≡ s
  here same (inl below) =
      some_is new s (sym (get_or-set_same p.sockets at (Some new) None below) ∙ ap (λ (i : ℕ). socket_at (with_socket p at new) i) (sym same) ∙ h)
  here same (inr past) =
      let size = length-set p.sockets at (Some new) in
      let none : socket_at (with_socket p at new) at ≡ None = get_or_past (slice_set p.sockets at (Some new)) at None (omega arith) in
      absurd (let clash : None ≡ Some s = sym none ∙ ap (λ (i : ℕ). socket_at (with_socket p at new) i) (sym same) ∙ h in cc)

  by : (((i == at) ≡ true) × (i ≡ at)) ⊎ (((i == at) ≡ false) × (i ≢ at)) → ((i ≡ at) × (new ≡ s)) ⊎ ((i ≢ at) × (socket_at p i ≡ Some s))
  by (inl same) = inl (same.1, here same.1 (cases_lt at (length p.sockets)))
  by (inr apart) = inr (apart.1, sym (get_or-set_other p.sockets at i (Some new) None apart.1) ∙ h)
