-- The sockets of a set by their kinds: what becomes of one that is added or taken out, and what a set ends as, once a `&mut` to one has ended.
use Rattle.std.specs.Prelude.{◌≡◌, ℕ, Bool, true, false, Result, Err, MatchResult, List, [], ◌∷◌, ◌++◌, length, slice_set, Option, None, Some, OnSome}
use Rattle.std.specs.Borrow.{Fml, RattleType, MutBor, LendsSo}
use Rattle.iface_egress.specs.Set.{slots, is_fixed, set_at, free, unmarked}
use Rattle.iface_egress.specs.declared.socket_set.AddError.{AddError}
use Rattle.iface_egress.specs.declared.socket_set.AddError.TheVariants.{Full, Memory}
use Rattle.iface_egress.specs.declared.socket_set.SocketHandle.{SocketHandle}
use Rattle.iface_egress.specs.declared.socket_set.SocketSet.{SocketSet}
use Rattle.iface_egress.specs.declared.socket_set.SocketStorage.{SocketStorage}
use Rattle.iface_egress.specs.contracts.socket_set.SocketSet.{the_row as set_row}
use Rattle.iface_ingress.specs.IdleRow.{ghosts as idle}
use Rattle.iface_ingress.specs.Socket.{Socket}
use Rattle.iface_ingress.specs.SocketRow.{the_row as socket_row}

module _ {K : Type 0} (upcast_of : K → Socket) where
  -- A socket goes to the first free slot. Without one, fixed storage is full; other storage grows by a slot. Where there is a slot for
  -- it there may be no memory. A refusal hands the socket back, and the slots are as they were.
  abbrev pub AddsKind : Option ℕ → Bool → List (SocketStorage Socket) → K → Result SocketHandle (AddError K) → List (SocketStorage Socket) → Type 0
  AddsKind (Some i) fixed old socket result new =
      MatchResult result (λ h. (h ≡ record { 0 = i }) × (new ≡ slice_set old i (unmarked (upcast_of socket)))) (λ e. (e ≡ Memory socket) × (new ≡ old))
  AddsKind None true old socket result new = (result ≡ Err (Full socket)) × (new ≡ old)
  AddsKind None false old socket result new =
      MatchResult result (λ h. (h ≡ record { 0 = length old }) × (new ≡ old ++ unmarked (upcast_of socket) ∷ [])) (λ e. (e ≡ Memory socket) × (new ≡ old))

-- the slots, of which this one is free where a socket was taken out
abbrev pub without : {K : Type 0} → Option K → List (SocketStorage Socket) → ℕ → List (SocketStorage Socket)
without None ps n = ps
without (Some socket) ps n = slice_set ps n free

module _ (K : RattleType) (upcast_of : K.Denot → Socket) where
  -- the slot ends with the last value after the reference as its socket, with the mark that it had, and all else as it was
  abbrev pub LendsKind : MutBor (SocketSet Socket) → SocketSet Socket → ℕ → Option (MutBor K.Denot) → Fml
  LendsKind s before n r =
      LendsSo (set_row socket_row idle) K s r (λ new w. OnSome r ((slots new ≡ set_at (slots before) n (upcast_of w)) × (is_fixed new ≡ is_fixed before)))
      (λ new. (slots new ≡ slots before) × (is_fixed new ≡ is_fixed before))
