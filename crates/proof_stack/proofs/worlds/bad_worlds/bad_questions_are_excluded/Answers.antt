use Rattle.proof_stack.proofs.Runs.BadWorlds as by
use Rattle.proof_stack.proofs.worlds.bad_worlds.bad_questions_are_excluded.Goals as goal

pub returns : goal.returns
returns c = record {
  in_one_turn = λ q r apart. by.asks_in_turn q r apart;
  in_two_turns = λ q r apart. by.asks_in_turns q r apart;
  too_early = λ q r apart. by.asks_too_early q r apart;
}
