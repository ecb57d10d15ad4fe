-- Lemmas on the sockets of a host.
use Rattle.std.proofs.Common.{◌≡◌, ℕ, suc, ◌+◌, ◌≤◌, ◌<◌, Bool, true, false, cond, ltb, List, [], ◌∷◌, ◌++◌, length, drop, Option, Some, None, refl, sym, ◌∙◌}
use Rattle.std.proofs.Common.{ap, ap₂, arith}
use Rattle.std.specs.Prelude.{◌||◌, ◌&&◌, if◌then◌else◌}
use Rattle.std.specs.List.{position_or_len}
use Rattle.std.proofs.lemmas.Bool.Decides.{nat_tests}
use Rattle.lan.specs.Worlds.Set.{unmarked, is_free, free_slot}
use Rattle.lan.specs.Worlds.SocketStorage.{SocketStorage}
use Rattle.lan.specs.Worlds.AtLink.Kinds.{same_side}
use Rattle.lan.specs.declared.at_link.history.event.Side.{Side}
use Rattle.sim_link.specs.declared.kinds.SocketSpec.{SocketSpec}
use Rattle.sockets.specs.declared.socket.Socket.{Socket}
use Rattle.lan.specs.Hosts.{socket_of, with_sockets, is_large, has_large}

-- PLACES

none_free : (p n : ℕ) → n ≤ p → ◌≡◌ {A = Option ℕ} (cond (ltb p n) (Some p) None) None
none_free p n h = grind (arith, nat_tests)

all_used : (p n : ℕ) → ◌≡◌ {A = Option ℕ} (cond (ltb p n) (Some p) None) None → n ≤ p
all_used p n h = grind (arith, nat_tests)

more_at : (p : SocketStorage Socket) (ps : List (SocketStorage Socket)) (s : Socket) (v : Bool) → is_free p ≡ v →
    length (p ∷ ps) ≤ position_or_len is_free (p ∷ ps)
    → (length ps ≤ position_or_len is_free ps → length (ps ++ unmarked s ∷ []) ≤ position_or_len is_free (ps ++ unmarked s ∷ []))
    → length ((p ∷ ps) ++ unmarked s ∷ []) ≤ position_or_len is_free ((p ∷ ps) ++ unmarked s ∷ [])
more_at p ps s true is h next = let k = rw is at h in absurd (omega (arith, k))
more_at p ps s false is h next =
    let k = rw is at h in
    let less : length ps ≤ position_or_len is_free ps = omega (arith, k) in
    let more = next less in
    rw is (omega (arith, more))

more_used : (ps : List (SocketStorage Socket)) (s : Socket) → length ps ≤ position_or_len is_free ps →
    length (ps ++ unmarked s ∷ []) ≤ position_or_len is_free (ps ++ unmarked s ∷ [])
more_used [] s h = omega arith
more_used (p ∷ ps) s h = more_at p ps s (is_free p) refl h (more_used ps s)

-- with one socket more no slot is free, where none was
pub still_used : (ps : List (SocketStorage Socket)) (s : Socket) → free_slot ps ≡ None → free_slot (ps ++ unmarked s ∷ []) ≡ None
still_used ps s h = none_free _ _ (more_used ps s (all_used _ _ h))

-- SOCKETS

-- the next socket is the host's own
pub own_next : (side : Side) (ps : List (SocketStorage Socket)) (specs : List (Side × SocketSpec)) (k : ℕ) (owner : Side) (spec : SocketSpec)
    → drop k specs ≡ (owner, spec) ∷ drop (k + 1) specs → same_side owner side ≡ true → is_large spec ≡ false
    → (with_sockets side (ps ++ unmarked (socket_of spec) ∷ []) (drop (k + 1) specs) ≡ with_sockets side ps (drop k specs))
    × (has_large side (drop (k + 1) specs) ≡ has_large side (drop k specs))
own_next side ps specs k owner spec at mine small = (
  sym (ap (with_sockets side ps) at
      ∙ ap (λ (b : Bool). with_sockets side (if b then ps ++ unmarked (socket_of spec) ∷ [] else ps) (drop (k + 1) specs)) mine),
  sym (ap (has_large side) at ∙ ap₂ (λ (b l : Bool). (b && l) || has_large side (drop (k + 1) specs)) mine small),
)

-- or that of the other
pub other_next : (side : Side) (ps : List (SocketStorage Socket)) (specs : List (Side × SocketSpec)) (k : ℕ) (owner : Side) (spec : SocketSpec)
    → drop k specs ≡ (owner, spec) ∷ drop (k + 1) specs → same_side owner side ≡ false
    → (with_sockets side ps (drop (k + 1) specs) ≡ with_sockets side ps (drop k specs))
    × (has_large side (drop (k + 1) specs) ≡ has_large side (drop k specs))
other_next side ps specs k owner spec at other = (
  sym (ap (with_sockets side ps) at
      ∙ ap (λ (b : Bool). with_sockets side (if b then ps ++ unmarked (socket_of spec) ∷ [] else ps) (drop (k + 1) specs)) other),
  sym (ap (has_large side) at ∙ ap (λ (b : Bool). (b && is_large spec) || has_large side (drop (k + 1) specs)) other),
)
