use Rattle.proof_stack.proofs.Runs.BadWorlds as by
use Rattle.proof_stack.proofs.worlds.bad_worlds.bad_damage_is_excluded.Goals as goal

pub returns : goal.returns
returns c = record {
  answered = λ hosts past e k slot word padding i timeout assemblers after slots a reply is t answered harmless.
      by.damage_answered hosts past e k slot word padding i timeout assemblers after slots a is t harmless reply answered;
  heard = λ hosts past e k slot word padding i timeout assemblers after slots a is t differs harmless.
      by.damage_heard hosts past e k slot word padding i timeout assemblers after slots a is t harmless differs;
}
