use Rattle.proof_stack.proofs.Polls.Round.{asked_for_since, asked_within, waited_for_longest}
use Rattle.proof_stack.proofs.Polls.Silenced.{counted}
use Rattle.proof_stack.proofs.progress.neighbors.turns_come_round.Goals as goal

pub returns-clause-again : goal.returns-clause-again
returns-clause-again c i slots n slot a b last turn stands waits is = asked_for_since i slots n slot a b turn stands waits last is

pub returns-clause-first : goal.returns-clause-first
returns-clause-first c i slots n slot a b turn stands waits first never = waited_for_longest i slots n slot a b turn stands waits first never

pub returns-clause-counts : goal.returns-clause-counts
returns-clause-counts c cache hop instant = counted cache hop instant

pub returns-clause-within : goal.returns-clause-within
returns-clause-within c rounds hops hop last are overs ours = asked_within rounds hops hop last are overs ours
