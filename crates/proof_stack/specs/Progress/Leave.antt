-- Frames that wait in order at a device while it gives leave to send, and a link that brings them there.
use Rattle.std.specs.Prelude.{◌≡◌, ℕ, ◌<◌, ℤ, Bool, true, IsTrue, List, ◌∷◌, ◌++◌, length}
use Rattle.std.specs.List.{AllByRecursion}
use Rattle.net_base.specs.Device.{Move, Took, Empty}
use Rattle.sim_link.specs.Port.{PortValue}
use Rattle.interface.specs.Ingress.{is_read}
use Rattle.proof_stack.specs.Progress.Moves.{is_transmitted}

-- The frames that wait in order at a device which may give no leave to send, as one whose queue is full, and then hands out no frame: while it gives
-- leave, a look finds the first of them; it takes that alone, and what is transmitted leaves them. No move gives leave: where there is leave after a move,
-- there was leave before it.
pub record IsInboxWhile {E : Type 0} (moves : E → Move → E → Type 0) (gives_tx_token : E → Bool) (frames_at : E → List (List ℕ)) : Type 0 where
  pub first : (old new : E) (t : ℤ) (frame other : List ℕ) (more : List (List ℕ)) → frames_at old ≡ frame ∷ more → moves old (Took t other) new
      → (other ≡ frame) × (frames_at new ≡ more)
  pub found : (old new : E) (t : ℤ) (frame : List ℕ) (more : List (List ℕ)) → IsTrue (gives_tx_token old) → frames_at old ≡ frame ∷ more
      → moves old (Empty t) new → ⊥
  pub out : (old new : E) (m : Move) → is_transmitted m ≡ true → moves old m new → frames_at new ≡ frames_at old
  pub had : (old new : E) (m : Move) → moves old m new → IsTrue (gives_tx_token new) → IsTrue (gives_tx_token old)

-- the frame waits among these, with whatever padding, after fewer than so many others; and it isn't too long to be read
pub record LiesAmong (waiting : List (List ℕ)) (count : ℕ) (frame : List ℕ) : Type 0 where
  pub padding : List ℕ
  pub before : List (List ℕ)
  pub following : List (List ℕ)
  pub frames : waiting ≡ before ++ (frame ++ padding) ∷ following
  pub few : length before < count
  pub short : is_read (frame ++ padding) ≡ true

-- the link brings whatever a port sent on its way from the one to the other: each of these frames waits so at the other port
abbrev pub BringsWhatWent : PortValue → PortValue → PortValue → ℕ → Type 0
BringsWhatWent old new other count =
    (gone : List (List ℕ)) → new.link.sent ≡ old.link.sent ++ gone → AllByRecursion (LiesAmong other.link.waiting count) gone
