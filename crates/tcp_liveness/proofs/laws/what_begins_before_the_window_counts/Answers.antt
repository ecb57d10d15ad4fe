use Rattle.std.proofs.Common.{inl, inr}
use Rattle.tcp_liveness.proofs.Taken.{new_is_inside, again_lies_before}
use Rattle.tcp_liveness.proofs.laws.what_begins_before_the_window_counts.Goals as goal

pub returns-clause-inside : goal.returns-clause-inside
returns-clause-inside c = λ v header size n. inl (new_is_inside v header size n)

pub returns-clause-before : goal.returns-clause-before
returns-clause-before c = λ v header size n. inr (again_lies_before v header size n)
