-- The used slots of a host's sockets, in order.
use Rattle.std.specs.Prelude.{◌≡◌, ℕ, ◌+◌, ◌<◌, ◌≤◌, ◌^◌, ◌⊎◌, List, [], ◌∷◌, drop, length, map, Option, None, Some}
use Rattle.std.specs.Borrow.{Bor, MutBor}
use Rattle.std.specs.Iterator.{YieldsFirstBy}
use Rattle.std.specs.Slice.Iter.{iter_mut_rest}
use Rattle.iface_egress.specs.Set.{socket_of}
use Rattle.iface_egress.specs.declared.socket_set.Handles.{Handles}
use Rattle.iface_egress.specs.declared.socket_set.Iter.{Iter}
use Rattle.iface_egress.specs.declared.socket_set.IterMut.{IterMut}
use Rattle.iface_egress.specs.declared.socket_set.SocketHandle.{SocketHandle}
use Rattle.iface_egress.specs.declared.socket_set.SocketStorage.{SocketStorage}

module _ {T : Type 0} where
  abbrev pub with_used : ℕ → Option T → List (SocketHandle × T) → List (SocketHandle × T)
  with_used n None rest = rest
  with_used n (Some socket) rest = (record { 0 = n }, socket) ∷ rest

  -- the sockets with their handles, where the first place has this number
  abbrev pub used : ℕ → List (SocketStorage T) → List (SocketHandle × T)
  used n [] = []
  used n (slot ∷ slots) = with_used n (socket_of slot.inner) (used (n + 1) slots)

  abbrev pub handle_of : SocketHandle × T → SocketHandle
  handle_of u = u.0

  -- what an iterator has left
  abbrev pub used_left : Iter T → List (SocketHandle × T)
  used_left i = used i.at (drop i.at i.slots.now)

  -- what an iterator that lends has left
  abbrev pub lent_left : IterMut T → List (SocketHandle × T)
  lent_left i = used i.at (iter_mut_rest i.slots)

  abbrev pub lent_item : SocketHandle × MutBor T → SocketHandle × T
  lent_item u = (u.0, u.1.now)

  -- the slots of what is left have numbers
  abbrev pub CanLend : IterMut T → Type 0
  CanLend i = i.at + length (iter_mut_rest i.slots) < 2 ^ 64

  -- the next one is lent, and the rest can be
  abbrev pub LendsFirst : IterMut T → Option (SocketHandle × MutBor T) → IterMut T → Type 0
  LendsFirst i r i' = YieldsFirstBy lent_item lent_left i r i' × CanLend i'

  abbrev pub handles_left : Handles T → List SocketHandle
  handles_left h = map handle_of (used_left h.sockets)

  abbrev pub used_item : SocketHandle × Bor T → SocketHandle × T
  used_item u = (u.0, u.1.now)

  -- the sockets and handles name a socket with its number
  abbrev pub Lists : List (SocketHandle × T) → ℕ → T → Type 0
  Lists [] n socket = ⊥
  Lists (u ∷ us) n socket = ((u.0.0 ≡ n) × (u.1 ≡ socket)) ⊎ Lists us n socket

  -- the numbers rise, from this one on
  abbrev pub AreFrom : ℕ → List (SocketHandle × T) → Type 0
  AreFrom n [] = Unit {0}
  AreFrom n (u ∷ us) = (n ≤ u.0.0) × AreFrom (u.0.0 + 1) us
