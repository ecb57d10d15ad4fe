use Rattle.proof_stack.proofs.Runs.BadWorlds as by
use Rattle.proof_stack.proofs.worlds.bad_worlds.bad_payloads_are_excluded.Goals as goal

pub returns : goal.returns
returns c = record {
  never_sent = λ w turns side key bytes r none sent. by.payload_never w turns side key bytes r sent none;
  other_identification = λ w turns side key bytes r others sent. by.payload_other_identification w turns side key bytes r sent others;
  other_byte = λ w turns side key bytes slot byte r said differs sent. by.payload_other_byte w turns side key bytes r sent slot byte said differs;
  other_end = λ w turns side key bytes slot r said differs sent. by.payload_other_end w turns side key bytes r sent slot said differs;
  other_byte_in_a_poll = λ w turns side key bytes slot byte r said differs sent.
      by.payload_other_byte_in_a_poll w turns side key bytes slot byte r said differs sent;
}
