use Rattle.proof_stack.proofs.Runs.BadWorlds as by
use Rattle.proof_stack.proofs.worlds.bad_worlds.bad_runs_are_excluded.Goals as goal

pub returns : goal.returns
returns c = record {
  sent_unbidden = λ starts hosts frame more is ran. by.run_unbidden starts hosts frame more is ran;
  not_sent_yet = λ starts hosts past e k padding is few ran. by.run_not_sent_yet starts hosts past e k padding is few ran;
  other_answer = λ starts hosts past e instant is done ran. by.run_other_answer starts hosts past e instant is done ran;
}
