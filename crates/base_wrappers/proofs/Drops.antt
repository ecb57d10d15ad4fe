-- Frames that come over a device that loses some.
use Rattle.std.proofs.Common.{◌≡◌, ℕ, zero, suc, ◌-◌, ◌<◌, ◌∙◌, sym, subst, arith, ℤ, List, length, Option, Some, None, MatchOption, IsTrue, IsFalse, Bool, true, refl}
use Rattle.base_wrappers.specs.Bucket.{spent}
use Rattle.base_device.specs.Device.{Move, Took, Empty}
use Rattle.base_wrappers.specs.Course.{CourseValue, drawn, rx_counted}
use Rattle.base_wrappers.specs.Drop.{DropRules, DropState, DropperValue, Goes, came, may_come, is_lost_out, sent, is_lost, NoneComes, OneComes, enough, empty, lost, here, behind}

module _ {D : Type 0} (moves : D → Move → D → Type 0) (rules : DropRules) (t : ℤ) where
  pub none_looked_at : (n : ℕ) (device : D) (c : CourseValue) → n ≡ 0 → NoneComes moves rules t n device c device c
  none_looked_at n device c is = subst (λ (m : ℕ). NoneComes moves rules t m device c device c) (sym is) enough

  pub none_there : (n : ℕ) (old new : D) (c : CourseValue) → 0 < n → moves old (Empty t) new → NoneComes moves rules t n old c new c
  none_there zero old new c some met = absurd (omega (arith, some))
  none_there (suc n) old new c some met = empty met

  pub one_there : (n : ℕ) (whole : List ℕ) (old new : D) (c : CourseValue) → 0 < n → moves old (Took t whole) new
      → IsFalse (is_lost rules c (length whole)) → OneComes moves rules t whole n old c new (drawn c)
  one_there zero whole old new c some met stays = absurd (omega (arith, some))
  one_there (suc n) whole old new c some met stays = here met stays

  less_one : (n : ℕ) → suc n - 1 ≡ n
  less_one n = omega arith

  pub none_behind : (n : ℕ) (frame : List ℕ) (old between new : D) (c c' : CourseValue) → 0 < n → moves old (Took t frame) between
      → IsTrue (is_lost rules c (length frame))
      → NoneComes moves rules t (n - 1) between (rx_counted (drawn c)) new c' → NoneComes moves rules t n old c new c'
  none_behind zero frame old between new c c' some met goes rest = absurd (omega (arith, some))
  none_behind (suc n) frame old between new c c' some met goes rest =
      lost met goes (subst (λ (m : ℕ). NoneComes moves rules t m between (rx_counted (drawn c)) new c') (less_one n) rest)

  pub one_behind : (n : ℕ) (whole frame : List ℕ) (old between new : D) (c c' : CourseValue) → 0 < n → moves old (Took t frame) between
      → IsTrue (is_lost rules c (length frame))
      → OneComes moves rules t whole (n - 1) between (rx_counted (drawn c)) new c' → OneComes moves rules t whole n old c new c'
  one_behind zero whole frame old between new c c' some met goes rest = absurd (omega (arith, some))
  one_behind (suc n) whole frame old between new c c' some met goes rest =
      behind met goes (subst (λ (m : ℕ). OneComes moves rules t whole m between (rx_counted (drawn c)) new c') (less_one n) rest)

pub either_way : {X A A' : Type 0} {B B' : X → Type 0} (o : Option X) → (A → A') → ((x : X) → B x → B' x) → MatchOption o A B → MatchOption o A' B'
either_way None none some it = none it
either_way (Some x) none some it = some x it

-- what is left behind a frame that came goes by the rules and the rates
came_same : (t : ℤ) (c : CourseValue) (s s' : DropState) → s'.rules ≡ s.rules → s'.rx ≡ s.rx → s'.tx ≡ s.tx → came t c s' ≡ came t c s
unfolding came
came_same t c s s' rules rx tx = λ k. record {
  rules = rules k;
  course = c;
  rx = spent (rules k).rx_rate (rules k).interval t (rx k);
  tx = tx k;
  instant = t;
}

-- a frame that came, as a move of the value
pub came_by : {D : Type 0} (moves : D → Move → D → Type 0) (v w : DropperValue D) → v ≡ w → (t : ℤ) (frame : List ℕ) (new : D) (s s' : DropState) (room : ℕ)
    → IsTrue (may_come t v.state) → OneComes moves v.state.rules t frame 8 v.inner v.state.course new s.course
    → s.rules ≡ v.state.rules → s.rx ≡ v.state.rx → s.tx ≡ v.state.tx → s' ≡ came t s.course s → room ≡ v.room
    → IsTrue (may_come t w.state)
    × ((c : CourseValue) × OneComes moves w.state.rules t frame 8 w.inner w.state.course new c × (s' ≡ came t c w.state))
    × (room ≡ w.room)
came_by {D} moves v w same t frame new s s' room may one rules rx tx is as_long =
    subst (λ (u : DropperValue D). IsTrue (may_come t u.state)
    × ((c : CourseValue) × OneComes moves u.state.rules t frame 8 u.inner u.state.course new c × (s' ≡ came t c u.state))
    × (room ≡ u.room)) same
    (may, (s.course, one, is ∙ came_same t s.course v.state s rules rx tx), as_long)

-- a frame that is lost on its way out, as a move of the value
pub lost_by : {D : Type 0} (moves : D → Move → D → Type 0) (v w : DropperValue D) → v ≡ w → (len : ℕ) (frame : List ℕ) → length frame ≡ len
    → (s : DropState) (room r : ℕ) → r ≡ v.room → is_lost_out r len v.state ≡ true → s ≡ sent r len v.state → room ≡ v.room
    → Goes moves (is_lost_out w.room (length frame) w.state) w.inner frame v.inner × (s ≡ sent w.room (length frame) w.state) × (room ≡ w.room)
lost_by {D} moves v w same len frame as_long s room r whole gone is held =
    let at : is_lost_out v.room len v.state ≡ true = subst (λ (n : ℕ). is_lost_out n len v.state ≡ true) whole gone in
    let left : s ≡ sent v.room len v.state = subst (λ (n : ℕ). s ≡ sent n len v.state) whole is in
    subst (λ (u : DropperValue D). Goes moves (is_lost_out u.room (length frame) u.state) u.inner frame v.inner
    × (s ≡ sent u.room (length frame) u.state) × (room ≡ u.room)) same
    (subst (λ (n : ℕ). Goes moves (is_lost_out v.room n v.state) v.inner frame v.inner × (s ≡ sent v.room n v.state) × (room ≡ v.room))
    (sym as_long) (subst (λ (b : Bool). Goes moves b v.inner frame v.inner) (sym at) refl, left, held))
