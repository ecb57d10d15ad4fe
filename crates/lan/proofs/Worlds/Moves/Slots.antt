-- A host's sockets by slot.
use Rattle.std.proofs.Common.{◌≡◌, ℕ, zero, suc, ◌<◌, List, [], ◌∷◌, ◌++◌, length, map, get_or, Some, None, refl, sym, ap, ◌∙◌}
use Rattle.std.specs.Prelude.{slice_get, slice_set, slice_index_or}
use Rattle.std.proofs.lemmas.List.{map-append, map-set, get_or-map}
use Rattle.std.proofs.Math.Seq.{get_or-append_seam, set-append_seam}
use Rattle.sockets.specs.declared.socket.Socket as Sockets
use Rattle.iface_egress.specs.declared.socket_set.SocketStorage.{SocketStorage}
use Rattle.lan.specs.Worlds.Moves.Follows.{seen_slot, sockets_of}

abbrev pub Slots : Type 0
Slots = List (SocketStorage Sockets.Socket)

module _ {X Y : Type 0} (f : X → Y) where
  len-map : (xs : List X) → length (map f xs) ≡ length xs
  len-map [] = refl
  len-map (x ∷ xs) = ap suc (len-map xs)

  pub get-middle : (before : List X) (x : X) (after : List X) (d : Y) → get_or (map f (before ++ x ∷ after)) (length before) d ≡ f x
  get-middle before x after d =
      ap (λ ys. get_or ys (length before) d) (map-append f before (x ∷ after))
      ∙ ap (λ n. get_or (map f before ++ f x ∷ map f after) n d) (sym (len-map before))
      ∙ get_or-append_seam (map f before) (f x) (map f after) d

  pub set-middle : (before : List X) (x x' : X) (after : List X) → slice_set (map f (before ++ x ∷ after)) (length before) (f x') ≡ map f (before ++ x' ∷ after)
  set-middle before x x' after =
      ap (λ ys. slice_set ys (length before) (f x')) (map-append f before (x ∷ after))
      ∙ ap (λ n. slice_set (map f before ++ f x ∷ map f after) n (f x')) (sym (len-map before))
      ∙ set-append_seam (map f before) (f x) (map f after) (f x')
      ∙ sym (map-append f before (x' ∷ after))

  pub same-middle : (before : List X) (x x' : X) (after : List X) → f x' ≡ f x → map f (before ++ x' ∷ after) ≡ map f (before ++ x ∷ after)
  same-middle [] x x' after same = ap (λ y. y ∷ map f after) same
  same-middle (y ∷ before) x x' after same = ap (λ ys. f y ∷ ys) (same-middle before x x' after same)

-- the socket at a slot within
pub seen_at : (slots : Slots) (at : ℕ) (d : SocketStorage Sockets.Socket) → at < length slots →
    slice_index_or (sockets_of slots) at None ≡ seen_slot (get_or slots at d)
seen_at slots at d within = get_or-map seen_slot slots at d None within

pub seen_set : (slots : Slots) (at : ℕ) (slot : SocketStorage Sockets.Socket) →
    sockets_of (slice_set slots at slot) ≡ slice_set (sockets_of slots) at (seen_slot slot)
seen_set slots at slot = map-set seen_slot slots at slot

-- WHAT IS AMONG MORE

module _ {X : Type 0} where
  pub get_more : (xs more : List X) (k : ℕ) (x : X) → slice_get xs k ≡ Some x → slice_get (xs ++ more) k ≡ Some x
  get_more [] more zero x e = absurd (cc)
  get_more [] more (suc k) x e = absurd (cc)
  get_more (y ∷ ys) more zero x e = e
  get_more (y ∷ ys) more (suc k) x e = get_more ys more k x e

  pub get_last : (xs : List X) (x : X) (more : List X) → (k : ℕ) × (slice_get (xs ++ x ∷ more) k ≡ Some x)
  get_last [] x more = (zero, refl)
  get_last (y ∷ ys) x more = let rest = get_last ys x more in (suc rest.0, rest.1)
