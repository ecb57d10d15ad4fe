-- What each move of a device keeps of it is kept by each step of a poll.
use Rattle.std.proofs.Common.{ℕ, zero, suc, ℤ, Bool, inl, inr, List, [], ◌∷◌, ◌++◌, refl, ap, subst}
use Rattle.net_base.specs.Device.{Move}
use Rattle.interface.proofs.Keep.{polls_keep}
use Rattle.interface.proofs.Kept.{IsKept}
use Rattle.interface.proofs.Worked.{worked_keeps}
use Rattle.interface.specs.OwnWork.{OwnWork}
use Rattle.interface.specs.Polls.{Polls}
use Rattle.interface.specs.State.{State}
use Rattle.lan.proofs.Worlds.Moves.Devices.{fragment_leaves, parked, slot_turns, same, takes}
use Rattle.lan.proofs.Worlds.Moves.Frames.{IsNoTake}
use Rattle.proof_stack.specs.PeerHost.Moved.{AreMoves, MovedTo}
use Rattle.lan.specs.Worlds.PollSteps.{Step, Steps, Reaches}

module _ {D : Type 0} (moves : D → Move → D → Type 0) (Q : D → Type 0) (keeps : (d d' : D) (m : Move) → moves d m d' → Q d → Q d') where
  quiet : (d d' : D) (m : Move) → IsNoTake m → moves d m d' → Q d → Q d'
  quiet d d' m none goes = keeps d d' m goes

  module _ (t : ℤ) where
    step : (s s' : State D) → Step moves t s s' → Q s.device → Q s'.device
    step s s' (inl begins) holds = same moves Q quiet s.device s'.device (ap (λ (x : State D). x.device) begins) holds
    step s s' (inr (inl (answer, is))) holds = takes moves Q keeps s s' answer is holds
    step s s' (inr (inr (inl fragment))) holds =
        same moves Q quiet fragment.to.device s'.device (ap (λ (x : State D). x.device) fragment.is)
        (fragment_leaves moves Q quiet fragment.left fragment.from fragment.to fragment.gone fragment.leaves (subst (λ (x : State D). Q x.device) fragment.was holds))
    step s s' (inr (inr (inr (inr waits)))) holds =
        same moves Q quiet waits.to.device s'.device (ap (λ (x : State D). x.device) waits.is)
        (parked moves Q quiet waits.from waits.to waits.all (subst (λ (x : State D). Q x.device) waits.was holds) waits.serves)
    step s s' (inr (inr (inr (inl turn)))) holds =
        same moves Q quiet turn.to.device s'.device (ap (λ (x : State D). x.device) turn.is)
        (slot_turns moves Q quiet turn.asked turn.from turn.to (subst (λ (x : State D). Q x.device) turn.was holds) turn.slot turn.slot_after turn.turned turn.turns)

    steps : (n : ℕ) (from to : State D) → Steps moves t n from to → Q from.device → Q to.device
    steps zero from to is holds = same moves Q quiet from.device to.device (ap (λ (x : State D). x.device) is) holds
    steps (suc n) from to (mid, before, last) holds = step mid to last (steps n from mid before holds)

    -- what holds of the device where a poll began holds wherever the poll has come
    pub reached_keeps : (from to : State D) → Reaches moves t from to → Q from.device → Q to.device
    reached_keeps from to so holds = steps so.count from to so.steps holds

    pub device_kept : IsKept moves t (λ (s : State D). Q s.device)
    device_kept = record {
      maintenance = λ s holds. holds;
      arrivals = λ s s' answer runs holds is. takes moves Q keeps s s' answer is holds;
      fragments = λ h ps x x' l gone runs waits holds leaves same_host. fragment_leaves moves Q quiet l x x' gone leaves holds;
      parked = λ h ps x x' all runs many holds serves. parked moves Q quiet x x' all holds serves;
      turns = λ turn h before after p p' x x' turned runs holds is. slot_turns moves Q quiet turn x x' holds p p' turned is;
    }

    -- and where it ended
    pub polled_keeps : (budget : ℕ) (s s' : State D) (changed : Bool) → Q s.device → Polls moves t budget s changed s' → Q s'.device
    polled_keeps budget s s' changed holds polls = (polls_keep moves t (λ (x : State D). Q x.device) device_kept budget s s' changed holds polls).0

-- NOTHING BUT MOVES

module _ {D : Type 0} (moves : D → Move → D → Type 0) where
  one_following : (all : List Move) (a b c : D) (m : Move) → AreMoves moves all a b → moves b m c → AreMoves moves (all ++ m ∷ []) a c
  one_following [] a b c m same proceeds = (c, subst (λ (d : D). moves d m c) same proceeds, refl)
  one_following (first ∷ rest) a b c m (mid, begins, so) proceeds = (mid, begins, one_following rest mid b c m so proceeds)

  moved_on : (start d d' : D) (m : Move) → moves d m d' → MovedTo moves start d → MovedTo moves start d'
  moved_on start d d' m proceeds so = record { all = so.all ++ m ∷ []; are = one_following so.all start d d' m so.are proceeds }

  not_moved : (start : D) → MovedTo moves start start
  not_moved start = record { all = []; are = refl }

  pub reached_by_moves : (t : ℤ) (from to : State D) → Reaches moves t from to → MovedTo moves from.device to.device
  reached_by_moves t from to so =
      reached_keeps moves (λ (d : D). MovedTo moves from.device d) (moved_on from.device) t from to so (not_moved from.device)

  pub polled_by_moves : (t : ℤ) (budget : ℕ) (s s' : State D) (changed : Bool) → Polls moves t budget s changed s' → MovedTo moves s.device s'.device
  polled_by_moves t budget s s' changed polls =
      polled_keeps moves (λ (d : D). MovedTo moves s.device d) (moved_on s.device) t budget s s' changed (not_moved s.device) polls

  pub worked_by_moves : (t : ℤ) (s s' : State D) → OwnWork moves t s s' → MovedTo moves s.device s'.device
  worked_by_moves t s s' work =
      worked_keeps moves (λ (d : D). MovedTo moves s.device d) (moved_on s.device) t s s' work (not_moved s.device)
