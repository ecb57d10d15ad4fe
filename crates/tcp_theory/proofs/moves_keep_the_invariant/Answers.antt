use Rattle.tcp_theory.proofs.Theorem.{HoldsBetween-initial, HoldsBetween-after, HoldsBetween-after_all, Kept-happens, IsSafe-one_way}
use Rattle.tcp_theory.proofs.moves_keep_the_invariant.Goals as goal

pub returns-clause-initial_sides : goal.returns-clause-initial_sides
returns-clause-initial_sides c = HoldsBetween-initial

pub returns-clause-either_way : goal.returns-clause-either_way
returns-clause-either_way c = λ s t holds. (holds.1, holds.0)

pub returns-clause-each_move : goal.returns-clause-each_move
returns-clause-each_move c = HoldsBetween-after

pub returns-clause-moves : goal.returns-clause-moves
returns-clause-moves c = HoldsBetween-after_all

pub returns-clause-events : goal.returns-clause-events
returns-clause-events c = Kept-happens

pub returns-clause-safe : goal.returns-clause-safe
returns-clause-safe c = λ s t holds. IsSafe-one_way s t holds.0
