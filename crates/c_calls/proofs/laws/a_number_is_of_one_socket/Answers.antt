use Rattle.c_calls.proofs.Generations.{over, still}
use Rattle.c_calls.proofs.laws.a_number_is_of_one_socket.Goals as goal

pub returns : goal.returns
returns c = record { before = still; behind = over }
