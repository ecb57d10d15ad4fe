-- The used slots are those of the map, in rising order.
use Rattle.std.proofs.Common.{◌≡◌, ℕ, zero, suc, ◌+◌, ◌<◌, ◌≤◌, ◌⊎◌, inl, inr, List, [], ◌∷◌, length, drop, Option, None, Some, refl, sym, ap, subst, ◌∙◌}
use Rattle.std.proofs.Common.{arith}
use Rattle.std.proofs.lemmas.List.{drop_all}
use Rattle.iface_egress.specs.declared.socket_set.SocketHandle.{SocketHandle}
use Rattle.iface_egress.specs.declared.socket_set.SocketStorage.{SocketStorage}
use Rattle.iface_egress.specs.Set.{socket_of, socket_at}
use Rattle.iface_egress.specs.Used.{used, with_used, Lists, AreFrom}

module _ {T : Type 0} where
  -- ONE STEP

  used_from : (m : ℕ) (ps : List (SocketStorage T)) (n : ℕ) → n < length ps → used m (drop n ps) ≡ with_used m (socket_at ps n) (used (m + 1) (drop (suc n) ps))
  used_from m [] n within = absurd (omega arith)
  used_from m (p ∷ ps) zero within = refl
  used_from m (p ∷ ps) (suc n) within = used_from m ps n (omega arith)

  used_one : (n : ℕ) (ps : List (SocketStorage T)) → n < length ps → used n (drop n ps) ≡ with_used n (socket_at ps n) (used (n + 1) (drop (n + 1) ps))
  used_one n ps within = let one : suc n ≡ n + 1 =
      omega arith in subst (λ k. used n (drop n ps) ≡ with_used n (socket_at ps n) (used (n + 1) (drop k ps))) one (used_from n ps n within)

  pub used_skip : (n : ℕ) (ps : List (SocketStorage T)) → n < length ps → socket_at ps n ≡ None → used n (drop n ps) ≡ used (n + 1) (drop (n + 1) ps)
  used_skip n ps within none = used_one n ps within ∙ ap (λ o. with_used n o (used (n + 1) (drop (n + 1) ps))) none

  pub used_take : (n : ℕ) (ps : List (SocketStorage T)) (x : T) → n < length ps → socket_at ps n ≡ Some x →
      used n (drop n ps) ≡ (record { 0 = n }, x) ∷ used (n + 1) (drop (n + 1) ps)
  used_take n ps x within some = used_one n ps within ∙ ap (λ o. with_used n o (used (n + 1) (drop (n + 1) ps))) some

  pub used_end : (n : ℕ) (ps : List (SocketStorage T)) → length ps ≤ n → used n (drop n ps) ≡ []
  used_end n ps past = ap (used n) (drop_all n ps past)

  -- THE MAP

  with_used-lists : (k n : ℕ) (o : Option T) (us : List (SocketHandle × T)) (x : T) → Lists us n x → Lists (with_used k o us) n x
  with_used-lists k n None us x l = l
  with_used-lists k n (Some y) us x l = inr l

  first-lists : (k : ℕ) (o : Option T) (us : List (SocketHandle × T)) (x : T) → o ≡ Some x → Lists (with_used k o us) (k + 0) x
  first-lists k None us x e = absurd cc
  first-lists k (Some y) us x e = inl (omega arith, cc)

  pub used-lists : (k : ℕ) (ps : List (SocketStorage T)) (n : ℕ) (x : T) → socket_at ps n ≡ Some x → Lists (used k ps) (k + n) x
  used-lists k [] n x e = absurd cc
  used-lists k (p ∷ ps) zero x e = first-lists k (socket_of p.inner) (used (k + 1) ps) x e
  used-lists k (p ∷ ps) (suc n) x e =
      let same : (k + 1) + n ≡ k + suc n = omega arith in
      with_used-lists k (k + suc n) (socket_of p.inner) (used (k + 1) ps) x (subst (λ m. Lists (used (k + 1) ps) m x) same (used-lists (k + 1) ps n x e))

  -- a slot further on
  pub record Found (k : ℕ) (ps : List (SocketStorage T)) (m : ℕ) (x : T) : Type 0 where
    pub slot : ℕ
    pub number : m ≡ k + slot
    pub holds : socket_at ps slot ≡ Some x

  lists-further : (k : ℕ) (p : SocketStorage T) (ps : List (SocketStorage T)) (m : ℕ) (x : T) → Found (k + 1) ps m x → Found k (p ∷ ps) m x
  lists-further k p ps m x f = record { slot = suc f.slot; number = omega (arith, f.number); holds = f.holds }

  lists-with : (k : ℕ) (p : SocketStorage T) (ps : List (SocketStorage T)) (m : ℕ) (x : T) (o : Option T) → socket_of p.inner ≡ o →
      (Lists (used (k + 1) ps) m x → Found (k + 1) ps m x) → Lists (with_used k o (used (k + 1) ps)) m x → Found k (p ∷ ps) m x
  lists-with k p ps m x None is go l = lists-further k p ps m x (go l)
  lists-with k p ps m x (Some y) is go (inl here) = record { slot = 0; number = omega (arith, here.0); holds = is ∙ ap Some here.1 }
  lists-with k p ps m x (Some y) is go (inr l) = lists-further k p ps m x (go l)

  pub lists-used : (k : ℕ) (ps : List (SocketStorage T)) (m : ℕ) (x : T) → Lists (used k ps) m x → Found k ps m x
  lists-used k [] m x l = absurd l
  lists-used k (p ∷ ps) m x l = lists-with k p ps m x (socket_of p.inner) refl (lists-used (k + 1) ps m x) l

  -- IN ORDER

  AreFrom-lower : (k : ℕ) (us : List (SocketHandle × T)) → AreFrom (k + 1) us → AreFrom k us
  AreFrom-lower k [] f = tt
  AreFrom-lower k (u ∷ us) f = (omega (arith, f.0), f.1)

  with_used-AreFrom : (k : ℕ) (o : Option T) (us : List (SocketHandle × T)) → AreFrom (k + 1) us → AreFrom k (with_used k o us)
  with_used-AreFrom k None us f = AreFrom-lower k us f
  with_used-AreFrom k (Some y) us f = (omega arith, f)

  pub used-AreFrom : (k : ℕ) (ps : List (SocketStorage T)) → AreFrom k (used k ps)
  used-AreFrom k [] = tt
  used-AreFrom k (p ∷ ps) = with_used-AreFrom k (socket_of p.inner) (used (k + 1) ps) (used-AreFrom (k + 1) ps)
