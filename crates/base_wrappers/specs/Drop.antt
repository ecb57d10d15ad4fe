-- A device that loses frames: by chance, for their length, and beyond a rate.
use Rattle.std.specs.Prelude.{◌≡◌, ℕ, suc, ◌==◌, ◌&&◌, ◌||◌, not, ℤ, pos, Bool, true, false, IsTrue, IsFalse, nat_lt, nat_le, List, length, ◌⊎◌, refl, if◌then◌else◌}
use Rattle.std.specs.Coded.{Coded, code_by, coded×, coded_ℕ, coded_ℤ}
use Rattle.base_device.specs.Device.{Move, Took, Empty, Allowed, Emitted, Denied}
use Rattle.base_wrappers.specs.Bucket.{Level, level_code, unbegun, lets, spent}
use Rattle.base_wrappers.specs.Course.{CourseValue, course_code, begun_at, drawn, hits, rx_counted, tx_counted}

-- The chance in percent; the longest frame, 0 for no limit; how many frames come and go in an interval, 0 for no limit; its length.
pub record DropRules : Type 0 where
  pub chance : ℕ
  pub longest : ℕ
  pub rx_rate : ℕ
  pub tx_rate : ℕ
  pub interval : ℕ

-- the rules, what chance did, what is left of the rates, and the instant of the last call that had one
pub record DropState : Type 0 where
  pub rules : DropRules
  pub course : CourseValue
  pub rx : Level
  pub tx : Level
  pub instant : ℤ

-- the device within, and how long a frame is lost at most on its way out
pub record DropperValue (D : Type 0) : Type 0 where
  pub inner : D
  pub state : DropState
  pub room : ℕ

abbrev pub rules_code : Coded DropRules
rules_code =
    code_by (ℕ × (ℕ × (ℕ × (ℕ × ℕ)))) (coded× coded_ℕ (coded× coded_ℕ (coded× coded_ℕ (coded× coded_ℕ coded_ℕ))))
    (λ r. (r.chance, (r.longest, (r.rx_rate, (r.tx_rate, r.interval)))))
    (λ p. record { chance = p.0; longest = p.1.0; rx_rate = p.1.1.0; tx_rate = p.1.1.1.0; interval = p.1.1.1.1 }) (λ _. refl)

abbrev pub drop_code : Coded DropState
drop_code =
    code_by (DropRules × (CourseValue × (Level × (Level × ℤ)))) (coded× rules_code (coded× course_code (coded× level_code (coded× level_code coded_ℤ))))
    (λ s. (s.rules, (s.course, (s.rx, (s.tx, s.instant)))))
    (λ p. record { rules = p.0; course = p.1.0; rx = p.1.1.0; tx = p.1.1.1.0; instant = p.1.1.1.1 }) (λ _. refl)

abbrev pub dropper_code : {D : Type 0} → Coded D → Coded (DropperValue D)
dropper_code {D} d =
    code_by (D × (DropState × ℕ)) (coded× d (coded× drop_code coded_ℕ)) (λ w. (w.inner, (w.state, w.room)))
    (λ p. record { inner = p.0; state = p.1.0; room = p.1.1 }) (λ _. refl)

-- no rule, at the beginning of a course
abbrev pub no_rules : DropRules
no_rules = record { chance = 0; longest = 0; rx_rate = 0; tx_rate = 0; interval = 0 }

abbrev pub fresh : ℕ → DropState
fresh seed = record { rules = no_rules; course = begun_at seed; rx = unbegun; tx = unbegun; instant = pos 0 }

-- under other rules; the next frames begin new intervals
abbrev pub ruled : DropRules → DropState → DropState
ruled rules s = record { rules = rules; course = s.course; rx = unbegun; tx = unbegun; instant = s.instant }

abbrev pub under : {D : Type 0} → DropRules → DropperValue D → DropperValue D
under rules w = record { inner = w.inner; state = ruled rules w.state; room = w.room }

abbrev pub is_too_long : DropRules → ℕ → Bool
is_too_long rules len = not (rules.longest == 0) && nat_lt rules.longest len

-- whether a frame of this length is lost, by the next draw or for its length
abbrev pub is_lost : DropRules → CourseValue → ℕ → Bool
is_lost rules c len = hits rules.chance c || is_too_long rules len

module _ {D : Type 0} (moves : D → Move → D → Type 0) (rules : DropRules) (t : ℤ) where
  -- Of at most so many frames that are looked at, each that comes is lost, and then none comes or no more are looked at.
  pub data NoneComes : ℕ → D → CourseValue → D → CourseValue → Type 0 where
    enough : {device : D} {c : CourseValue} → NoneComes 0 device c device c
    empty : {n : ℕ} {old new : D} {c : CourseValue} → moves old (Empty t) new → NoneComes (suc n) old c new c
    lost : {n : ℕ} {old between new : D} {c c' : CourseValue} {frame : List ℕ}
        → moves old (Took t frame) between → IsTrue (is_lost rules c (length frame))
        → NoneComes n between (rx_counted (drawn c)) new c' → NoneComes (suc n) old c new c'

  -- or one that isn't lost comes behind them
  pub data OneComes (whole : List ℕ) : ℕ → D → CourseValue → D → CourseValue → Type 0 where
    here : {n : ℕ} {old new : D} {c : CourseValue}
        → moves old (Took t whole) new → IsFalse (is_lost rules c (length whole)) → OneComes whole (suc n) old c new (drawn c)
    behind : {n : ℕ} {old between new : D} {c c' : CourseValue} {frame : List ℕ}
        → moves old (Took t frame) between → IsTrue (is_lost rules c (length frame))
        → OneComes whole n between (rx_counted (drawn c)) new c' → OneComes whole (suc n) old c new c'

-- an instant is noted
abbrev pub noted : ℤ → DropState → DropState
noted t s = record { rules = s.rules; course = s.course; rx = s.rx; tx = s.tx; instant = t }

-- and what chance did with frames that came
abbrev pub looked : ℤ → CourseValue → DropState → DropState
looked t c s = record { rules = s.rules; course = c; rx = s.rx; tx = s.tx; instant = t }

-- and one came
unfoldable pub came : ℤ → CourseValue → DropState → DropState
came t c s =
    record { rules = s.rules; course = c; rx = spent s.rules.rx_rate s.rules.interval t s.rx; tx = s.tx; instant = t }

-- whether a frame may come
unfoldable pub may_come : ℤ → DropState → Bool
may_come t s = lets s.rules.rx_rate s.rules.interval t s.rx

-- Whether a frame of this length is lost on its way out. One that is longer than the room isn't, since it has to be written somewhere.
unfoldable pub is_lost_out : ℕ → ℕ → DropState → Bool
is_lost_out room len s =
    (is_lost s.rules s.course len || not (lets s.rules.tx_rate s.rules.interval s.instant s.tx)) && nat_le len room

-- what is left behind a frame of this length that was to be sent
unfoldable pub sent : ℕ → ℕ → DropState → DropState
sent room len s = record {
  rules = s.rules;
  course = if is_lost_out room len s then tx_counted (drawn s.course) else drawn s.course;
  rx = s.rx;
  tx = spent s.rules.tx_rate s.rules.interval s.instant s.tx;
  instant = s.instant;
}

module _ {D : Type 0} (moves : D → Move → D → Type 0) where
  -- a frame that is lost doesn't reach the device
  abbrev pub Goes : Bool → D → List ℕ → D → Type 0
  Goes true old frame new = new ≡ old
  Goes false old frame new = moves old (Emitted frame) new

  -- what a move does
  abbrev pub Drops : DropperValue D → Move → DropperValue D → Type 0
  Drops old (Took t frame) new =
      IsTrue (may_come t old.state)
      × ((c : CourseValue) × OneComes moves old.state.rules t frame 8 old.inner old.state.course new.inner c × (new.state ≡ came t c old.state))
      × (new.room ≡ old.room)
  Drops old (Empty t) new =
      ((IsFalse (may_come t old.state) × (new.inner ≡ old.inner) × (new.state ≡ noted t old.state))
      ⊎ (IsTrue (may_come t old.state)
      × ((c : CourseValue) × NoneComes moves old.state.rules t 8 old.inner old.state.course new.inner c × (new.state ≡ looked t c old.state))))
      × (new.room ≡ old.room)
  Drops old (Allowed t leave) new = moves old.inner (Allowed t leave) new.inner × (new.state ≡ noted t old.state) × (new.room ≡ old.room)
  Drops old (Emitted frame) new =
      Goes (is_lost_out old.room (length frame) old.state) old.inner frame new.inner
      × (new.state ≡ sent old.room (length frame) old.state) × (new.room ≡ old.room)
  Drops old (Denied len) new =
      moves old.inner (Denied len) new.inner × (new.state ≡ sent old.room len old.state) × (new.room ≡ old.room)
