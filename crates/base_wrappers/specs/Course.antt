-- What chance has done so far: the generator's state, and how many frames were spoilt each way.
use Rattle.std.specs.Prelude.{ℕ, refl, ◌%◌, Bool, nat_lt}
use Rattle.std.specs.Coded.{Coded, code_by, coded×, coded_ℕ}
use Rattle.base_time.specs.Rand.{next_state, word}
use Rattle.base_wrappers.specs.Trace.{one_more}

pub record CourseValue : Type 0 where
  pub draws : ℕ
  pub rx : ℕ
  pub tx : ℕ

abbrev pub course_code : Coded CourseValue
course_code =
    code_by (ℕ × (ℕ × ℕ)) (coded× coded_ℕ (coded× coded_ℕ coded_ℕ)) (λ c. (c.draws, (c.rx, c.tx)))
    (λ p. record { draws = p.0; rx = p.1.0; tx = p.1.1 }) (λ _. refl)

-- the course of a seed, before its first draw
abbrev pub begun_at : ℕ → CourseValue
begun_at seed = record { draws = seed; rx = 0; tx = 0 }

-- after one draw
abbrev pub drawn : CourseValue → CourseValue
drawn c = record { draws = next_state c.draws; rx = c.rx; tx = c.tx }

-- whether the next draw hits, by a chance in percent
abbrev pub hits : ℕ → CourseValue → Bool
hits chance c = nat_lt (word (next_state c.draws) % 100) chance

-- the next word
abbrev pub next_word : CourseValue → ℕ
next_word c = word (next_state c.draws)

-- one more frame was spoilt, of those that come, or of those that are sent
abbrev pub rx_counted : CourseValue → CourseValue
rx_counted c = record { draws = c.draws; rx = one_more c.rx; tx = c.tx }

abbrev pub tx_counted : CourseValue → CourseValue
tx_counted c = record { draws = c.draws; rx = c.rx; tx = one_more c.tx }
