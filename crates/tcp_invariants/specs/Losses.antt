-- What a socket believes that the remote holds was sent (RFC 2018; RFC 6675, 3).
use Rattle.std.specs.Prelude.{ℕ, ◌≤◌, List, [], ◌∷◌}
use Rattle.tcp_state.specs.declared.scoreboard.Run.{Run}
use Rattle.tcp_state.specs.declared.state.State.{State}

-- no run reaches further past SND.UNA than this
abbrev pub AreWithin : ℕ → List Run → Type 0
AreWithin snd_max [] = Unit {0}
AreWithin snd_max (r ∷ rs) = (r.end ≤ snd_max) × AreWithin snd_max rs

pub record Known : Type 0 where
  pub state : State
  pub runs : List Run
  pub snd_max : ℕ  -- one past the highest position that was ever sent, less SND.UNA
