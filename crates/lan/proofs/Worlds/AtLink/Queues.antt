-- The datagrams in a queue, wherever they lie.
use Rattle.std.proofs.Common.{◌≡◌, ◌⊎◌, inl, inr, ℕ, ◌+◌, ◌%◌, ◌==◌, Bool, true, false, if◌then◌else◌, List, [], ◌∷◌, ◌++◌, map, drop, Option, Some, None, refl}
use Rattle.std.proofs.Common.{sym, ap, ◌∙◌, subst}
use Rattle.net_base.specs.Packets.{QueuedPacket, Packets, contents, packet, packets_in, unpadded, unpadded_by, first, first_by, without_first, without_first_by}
use Rattle.net_base.specs.Packets.{appended, is_full_for, padding_for, start_of}
use Rattle.socket_datagram.specs.SocketValue.{taken_in}
use Rattle.lan.proofs.Worlds.AtLink.Lists.{Each, each_append, each_dropped}

-- the same, or without the first
abbrev pub IsLeft : {X : Type 0} → List X → List X → Type 0
IsLeft xs ys = (ys ≡ xs) ⊎ (ys ≡ drop 1 xs)

module _ {X : Type 0} where
  pub each_left : (P : X → Type 0) (xs ys : List X) → IsLeft xs ys → Each P xs → Each P ys
  each_left P xs ys (inl same) all = subst (Each P) (sym same) all
  each_left P xs ys (inr less) all = subst (Each P) (sym less) (each_dropped P xs all)

  pub none_left : (xs ys : List X) → IsLeft xs ys → xs ≡ [] → ys ≡ []
  none_left xs ys (inl same) none = same ∙ none
  none_left xs ys (inr less) none = less ∙ ap (λ (xs : List X). drop 1 xs) none

module _ {H : Type 0} where
  abbrev told : QueuedPacket H → H × List ℕ
  told p = (p.header, p.bytes)

  contents_unpadded_by : (ps : List (QueuedPacket H)) (q : Packets H) → q.packets ≡ ps → contents (unpadded_by ps q) ≡ contents q
  contents_unpadded_by [] q e = refl
  contents_unpadded_by (p ∷ ps) q e = by (p.padding == 0) where
    by : (t : Bool) → contents (if t then q else packets_in (packet 0 p.header p.bytes ∷ ps) ((q.start + p.padding) % q.room) q.positions q.room) ≡ contents q
    by true = refl
    by false = sym (ap (λ (ps : List (QueuedPacket H)). map told ps) e)

  pub contents_unpadded : (q : Packets H) → contents (unpadded q) ≡ contents q
  contents_unpadded q = contents_unpadded_by q.packets q refl

  contents_without_by : (ps : List (QueuedPacket H)) (q : Packets H) → q.packets ≡ ps → contents (without_first_by ps q) ≡ drop 1 (map told ps)
  contents_without_by [] q e = ap (λ (ps : List (QueuedPacket H)). map told ps) e
  contents_without_by (p ∷ ps) q e = refl

  pub contents_without_first : (q : Packets H) → contents (without_first q) ≡ drop 1 (contents q)
  contents_without_first q = contents_without_by q.packets q refl

  map_append : (ps qs : List (QueuedPacket H)) → map told (ps ++ qs) ≡ map told ps ++ map told qs
  map_append [] qs = refl
  map_append (p ∷ ps) qs = ap (λ (more : List (H × List ℕ)). told p ∷ more) (map_append ps qs)

  pub contents_appended : (q : Packets H) (size : ℕ) (header : H) (bytes : List ℕ) →
      contents (appended q size header bytes) ≡ contents q ++ (header, bytes) ∷ []
  contents_appended q size header bytes = map_append q.packets (packet (padding_for q size) header bytes ∷ [])

  -- the first is one of them
  first_told : (P : H × List ℕ → Type 0) (ps : List (QueuedPacket H)) (d : H × List ℕ) → first_by ps ≡ Some d → Each P (map told ps) → P d
  first_told P [] d e all = absurd (cc)
  first_told P (p ∷ ps) d e all = let same : told p ≡ d = cc in subst P same all.0

  pub each_first : (P : H × List ℕ → Type 0) (q : Packets H) (d : H × List ℕ) → first q ≡ Some d → Each P (contents q) → P d
  each_first P q d e all = first_told P q.packets d e all

  pub each_appended : (P : H × List ℕ → Type 0) (q : Packets H) (size : ℕ) (header : H) (bytes : List ℕ) → Each P (contents q) → P (header, bytes) →
      Each P (contents (appended q size header bytes))
  each_appended P q size header bytes all one =
      subst (Each P) (sym (contents_appended q size header bytes)) (each_append P (contents q) ((header, bytes) ∷ []) all (one, tt))

  -- a datagram that arrives joins them or is dropped
  pub each_taken_in : (P : H × List ℕ → Type 0) (q : Packets H) (size : ℕ) (header : H) (bytes : List ℕ) → Each P (contents q) → P (header, bytes) →
      Each P (contents (taken_in q size header bytes))
  each_taken_in P q size header bytes all one = by (is_full_for q size) where
    by : (full : Bool) → Each P (contents (if full then q else appended q size header bytes))
    by true = all
    by false = each_appended P q size header bytes all one
