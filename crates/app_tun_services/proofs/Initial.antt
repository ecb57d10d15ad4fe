-- Sockets that are made one after the other.
use Rattle.std.proofs.Common.{◌≡◌, ℕ, ◌+◌, ◌<◌, List, [], ◌∷◌, ◌++◌, length, length-append, arith, refl, sym, ◌∙◌, subst, ◌⊎◌, inl, inr}
use Rattle.std.specs.Prelude.{slice_index_or}
use Rattle.std.proofs.lemmas.List.{get_or_append_left, get_or_push}
use Rattle.interface.specs.Set.{free}
use Rattle.interface.specs.SocketStorage.{SocketStorage}
use Rattle.sockets.specs.declared.socket.Socket.{Socket}
use Rattle.app_tun_services.specs.Begins.{IsInitialSlot, AreInitial, slot_count}
use Rattle.app_tun_services.specs.Services.{service_at}

-- so many slots, each for its service
pub record InitialTo (n : ℕ) (ps : List (SocketStorage Socket)) : Type 0 where
  pub count : length ps ≡ n
  pub each : (i : ℕ) → i < n → IsInitialSlot (service_at i) (slice_index_or ps i free)

pub initial_none : InitialTo 0 []
initial_none = record { count = refl; each = λ i h. absurd (omega arith) }

module _ (n : ℕ) (ps : List (SocketStorage Socket)) (slot : SocketStorage Socket) (so_far : InitialTo n ps) (is_fresh : IsInitialSlot (service_at n) slot) where
  each_at : (i : ℕ) → (i < n) ⊎ (i ≡ n) → IsInitialSlot (service_at i) (slice_index_or (ps ++ slot ∷ []) i free)
  each_at i (inl less) =
      subst (λ (p : SocketStorage Socket). IsInitialSlot (service_at i) p) (sym (get_or_append_left ps (slot ∷ []) free i (omega (arith, so_far.count, less))))
      (so_far.each i less)
  each_at i (inr is) =
      subst (λ (k : ℕ). IsInitialSlot (service_at k) (slice_index_or (ps ++ slot ∷ []) k free)) (sym is)
      (subst (λ (p : SocketStorage Socket). IsInitialSlot (service_at n) p) (sym (get_or_push ps slot free n so_far.count)) is_fresh)

  which : (i : ℕ) → i < n + 1 → (i < n) ⊎ (i ≡ n)
  which i h = grind arith

  pub initial_more : InitialTo (n + 1) (ps ++ slot ∷ [])
  initial_more = record {
    count = length-append ps (slot ∷ []) ∙ omega (arith, so_far.count);
    each = λ i h. each_at i (which i h);
  }

pub initial_all : (ps : List (SocketStorage Socket)) → InitialTo slot_count ps → AreInitial ps
initial_all ps to = record { count = to.count; each = to.each }
