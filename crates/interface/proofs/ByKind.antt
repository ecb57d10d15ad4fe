-- A socket of a set, lent by its kind.
use Rattle.std.proofs.Common.{◌≡◌, ℕ, List, Option, None, Some, refl, subst}
use Rattle.std.specs.Prelude.{slice_get, slice_set, OnSome}
use Rattle.iface_egress.specs.Set.{set_at, set_by, set_in, socket_at, socket_in, socket_of}
use Rattle.iface_egress.specs.declared.socket_set.Item.{Item}
use Rattle.iface_egress.specs.declared.socket_set.SocketStorage.{SocketStorage}
use Rattle.iface_egress.proofs.Lent.{same_slot}

pub if_lent : {A : Type 0} → (P : Type 0) (r : Option A) → P → OnSome r P
if_lent P None p = tt
if_lent P (Some x) p = p

pub as_lent : {A : Type 0} → (P : Type 0) (r : Option A) (x : A) → r ≡ Some x → OnSome r P → P
as_lent {A} P r x is p = subst (λ (o : Option A). OnSome o P) is p

-- What stands at a slot already changes no set of sockets.
module _ {T : Type 0} where
  same_item : (o : Option (Item T)) (ps : List (SocketStorage T)) (n : ℕ) (slot : SocketStorage T) (s : T) → slice_get ps n ≡ Some slot →
      slot.inner ≡ o → socket_of o ≡ Some s → set_in o ps n s ≡ ps
  same_item None ps n slot s got is has = cc
  same_item (Some item) ps n slot s got is has =
      let at : item.socket ≡ s = cc in
      subst (λ (x : T). slice_set ps n (record { inner = Some (record item { socket = x }) }) ≡ ps) at
      (subst (λ (o : Option (Item T)). slice_set ps n (record { inner = o }) ≡ ps) is (same_slot ps n slot got))

  same_by : (found : Option (SocketStorage T)) (ps : List (SocketStorage T)) (n : ℕ) (s : T) → slice_get ps n ≡ found → socket_in found ≡ Some s →
      set_by found ps n s ≡ ps
  same_by None ps n s got has = cc
  same_by (Some slot) ps n s got has = same_item slot.inner ps n slot s got refl has

  pub same_at : (ps : List (SocketStorage T)) (n : ℕ) (s : T) → socket_at ps n ≡ Some s → set_at ps n s ≡ ps
  same_at ps n s has = same_by (slice_get ps n) ps n s refl has
