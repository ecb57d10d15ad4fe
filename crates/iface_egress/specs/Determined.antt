-- A device whose next move is determined, as that of a port with buffers that lie ready.
use Rattle.std.specs.Prelude.{◌≡◌, ◌≤◌, ℕ, ℤ, true, false, List, length}
use Rattle.net_base.specs.Device.{Move, Took, Empty, Allowed, Emitted, Denied}

-- Each move from here has one end. A look finds one frame, or none; leave is given or not; and a frame of at most this length
-- is taken or refused.
pub record IsDetermined {D : Type 0} (moves : D → Move → D → Type 0) (longest : ℕ) (here : D) : Type 0 where
  pub one_end : (one other : D) (m : Move) → moves here m one → moves here m other → one ≡ other
  pub one_frame : (t : ℤ) (one other : D) (frame again : List ℕ) → moves here (Took t frame) one → moves here (Took t again) other → frame ≡ again
  pub looks : (t : ℤ) (one other : D) (frame : List ℕ) → moves here (Took t frame) one → moves here (Empty t) other → ⊥
  pub gives : (t : ℤ) (one other : D) → moves here (Allowed t true) one → moves here (Allowed t false) other → ⊥
  pub takes : (one other : D) (frame : List ℕ) → length frame ≤ longest → moves here (Emitted frame) one → moves here (Denied (length frame)) other → ⊥
