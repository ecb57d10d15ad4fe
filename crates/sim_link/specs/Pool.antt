-- The buffers that a port holds ready for frames that it will send.
use Rattle.std.specs.Prelude.{ℕ, ◌+◌, ◌-◌, ◌≤◌, nat_le, if◌then◌else◌, All, vec_len, vec_capacity}
use Rattle.std.specs.Global.{Vec}

-- each ready buffer holds a frame of `size` bytes, and each has an offset waiting among the sent
-- frames: none of them needs memory any more
pub record Pool (sent ready : Vec (Vec ℕ)) (size : ℕ) : Type 0 where
  pub offsets : vec_len sent + vec_len ready ≤ vec_capacity sent
  pub room : All (λ buffer. size ≤ vec_capacity buffer) ready.items

-- how many of these buffers, of this size, lie ready once a frame of length `len` was sent: it
-- takes one if it fits
abbrev pub ready_left : ℕ → ℕ → ℕ → ℕ
ready_left count size len = if nat_le len size then count - 1 else count
