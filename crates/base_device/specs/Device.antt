-- The moves of a device: what one call on it did with frames.
use Rattle.std.specs.Prelude.{ℕ, ◌+◌, ◌^◌, ℤ, Bool, nat_lt, List, map}
use Rattle.std.specs.Global.{Vec}

pub data Move : Type 0 where
  -- `receive`, called with this instant, handed out this frame, with leave to send one
  Took : ℤ → List ℕ → Move
  -- `receive`, called with this instant, handed out nothing
  Empty : ℤ → Move
  -- `transmit`, called with this instant, gave leave to send a frame, or refused it
  Allowed : ℤ → Bool → Move
  -- `send` sent this frame
  Emitted : List ℕ → Move
  -- `send` refused a frame of this length
  Denied : ℕ → Move

-- the bytes of each frame, without where they lie in memory
abbrev pub frames_of : List (Vec ℕ) → List (List ℕ)
frames_of frames = map (λ frame. frame.items) frames

-- whether a device that has refused so many frames gives tokens: its count, 64 bits wide, can
-- still rise
abbrev pub gives_tokens : ℕ → Bool
gives_tokens refusals = nat_lt (refusals + 1) (2 ^ 64)
