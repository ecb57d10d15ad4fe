-- What a set of sockets ends as, once a `&mut` into it has ended.
use Rattle.std.specs.Prelude.{◌≡◌, ℕ, List, Option, OnSome}
use Rattle.std.specs.Borrow.{Fml, RattleType, MutBor, LendsSo}
use Rattle.base_index.specs.declared.Idle.{Ghosts}
use Rattle.iface_egress.specs.Set.{slots, is_fixed, set_at}
use Rattle.iface_egress.specs.declared.socket_set.SocketSet.{SocketSet}
use Rattle.iface_egress.specs.declared.socket_set.SocketStorage.{SocketStorage}
use Rattle.iface_egress.specs.contracts.slots.Slots.{the_row as slots_row}
use Rattle.iface_egress.specs.contracts.socket_set.SocketSet.{the_row as set_row}

module _ (T : RattleType) (G : Ghosts T.Denot) where
  -- the slot ends with the last value after the reference as its socket, with the mark that it had, and the others as they were
  abbrev pub LendsSlot : MutBor (List (SocketStorage T.Denot)) → List (SocketStorage T.Denot) → ℕ → Option (MutBor T.Denot) → Fml
  LendsSlot v before n r = LendsSo (slots_row T G) T v r (λ new w. OnSome r (new ≡ set_at before n w)) (λ new. new ≡ before)

  -- so does the set, in the storage that it had
  abbrev pub LendsSocket : MutBor (SocketSet T.Denot) → SocketSet T.Denot → ℕ → Option (MutBor T.Denot) → Fml
  LendsSocket s before n r =
      LendsSo (set_row T G) T s r (λ new w. OnSome r ((slots new ≡ set_at (slots before) n w) × (is_fixed new ≡ is_fixed before)))
      (λ new. (slots new ≡ slots before) × (is_fixed new ≡ is_fixed before))
