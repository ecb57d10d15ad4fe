-- What a set keeps while one of its sockets is lent.
use Rattle.std.proofs.Common.{◌≡◌, ℕ, List, Option, None, Some, ap, ◌∙◌, subst}
use Rattle.std.specs.Prelude.{slice_get, slice_set, OnSome}
use Rattle.std.proofs.lemmas.List.{set-get_or}
use Rattle.std.proofs.lemmas.Option.{get_or_from_slice_get}
use Rattle.iface_egress.specs.Set.{socket_at, socket_in, socket_of}
use Rattle.iface_egress.specs.declared.socket_set.SocketStorage.{SocketStorage}

module _ {T : Type 0} where
  -- a slot put where it stands already
  pub same_slot : (ps : List (SocketStorage T)) (n : ℕ) (slot : SocketStorage T) → slice_get ps n ≡ Some slot → slice_set ps n slot ≡ ps
  same_slot ps n slot got =
      subst (λ (x : SocketStorage T). slice_set ps n x ≡ ps) (get_or_from_slice_get ps n slot slot got) (set-get_or ps n slot)

  pub no_socket : (ps : List (SocketStorage T)) (n : ℕ) (slot : SocketStorage T) → slice_get ps n ≡ Some slot → slot.inner ≡ None →
      socket_at ps n ≡ None
  no_socket ps n slot got is = ap socket_in got ∙ ap socket_of is

-- of what is lent, more
pub on_more : {A : Type 0} → (P Q : Type 0) (r : Option A) → Q → OnSome r P → OnSome r (P × Q)
on_more P Q None q p = tt
on_more P Q (Some x) q p = (p, q)
