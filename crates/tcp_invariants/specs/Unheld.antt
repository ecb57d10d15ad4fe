-- What the remote doesn't hold, as far as it said so (RFC 2018).
use Rattle.std.specs.Prelude.{◌⊎◌, ℕ, ◌+◌, ◌≤◌, List, [], ◌∷◌}
use Rattle.tcp_state.specs.declared.scoreboard.Run.{Run}

-- so many positions from an offset on lie in no run; where there are none, the offset itself doesn't
abbrev pub AreUnheld : ℕ → ℕ → List Run → Type 0
AreUnheld offset len [] = Unit {0}
AreUnheld offset len (r ∷ rs) = ((offset + len ≤ r.start) ⊎ (r.end ≤ offset)) × AreUnheld offset len rs
