use Rattle.lan.proofs.Worlds.Moves.Makers.{made_by_hosts}
use Rattle.proof_stack.proofs.Runs.BadWorlds as by
use Rattle.proof_stack.proofs.worlds.bad_worlds.bad_makers_are_excluded.Goals as goal

pub returns : goal.returns
returns c = record {
  without_a_socket = λ w side key bytes r udp none made. made_by_hosts w side key bytes r udp none made;
  too_short = λ w side key bytes r short made. by.maker_too_short w side key bytes r short made;
  no_segment = λ w side key bytes r tcp short made. by.maker_no_segment w side key bytes r tcp short made;
}
