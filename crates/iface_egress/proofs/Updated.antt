-- A slot whose socket a call changed.
use Rattle.std.proofs.Common.{◌≡◌, ℕ, List, get_or, Option, None, Some, refl, sym, ap, subst, ◌∙◌}
use Rattle.std.specs.Prelude.{slice_get, slice_set}
use Rattle.std.proofs.lemmas.List.{set-get_or}
use Rattle.std.proofs.lemmas.Option.{get_or_from_slice_get}
use Rattle.iface_egress.specs.declared.socket_set.Item.{Item}
use Rattle.iface_egress.specs.declared.socket_set.SocketStorage.{SocketStorage}
use Rattle.iface_egress.specs.Set.{with_socket, Updates, UpdatesItem}

module _ {T R : Type 0} (Calls : T → R → T → Type 0) (ps : List (SocketStorage T)) (n : ℕ) (slot : SocketStorage T) where
  updates-by : (result : Option R) (new : List (SocketStorage T)) (item : Option (Item T)) → slice_get ps n ≡ Some slot → slot.inner ≡ item →
      UpdatesItem Calls item ps n result new → Updates Calls (slice_get ps n) ps n result new
  updates-by result new item got is done =
      subst (λ o. Updates Calls o ps n result new) (sym got) (subst (λ i. UpdatesItem Calls i ps n result new) (sym is) done)

  pub updates-some : (item : Item T) (r : R) (socket : T) → slice_get ps n ≡ Some slot → slot.inner ≡ Some item → Calls item.socket r socket →
      Updates Calls (slice_get ps n) ps n (Some r) (slice_set ps n (with_socket item socket))
  updates-some item r socket got is called =
      updates-by (Some r) (slice_set ps n (with_socket item socket)) (Some item) got is (r, socket, refl, called, refl)

  same-slot : slice_get ps n ≡ Some slot → slice_set ps n slot ≡ ps
  same-slot got = ap (slice_set ps n) (sym (get_or_from_slice_get ps n slot slot got)) ∙ set-get_or ps n slot

  pub updates-none : slice_get ps n ≡ Some slot → slot.inner ≡ None → Updates Calls (slice_get ps n) ps n None (slice_set ps n slot)
  updates-none got is = updates-by None (slice_set ps n slot) None got is (refl, same-slot got)
