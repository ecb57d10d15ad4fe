use Rattle.proof_stack.proofs.Peers.Going.{read_all_proceeds, end_is_true, end_is_true_where_taken}
use Rattle.std.proofs.Common.{sym, ◌∙◌, length}
use Rattle.proof_stack.proofs.peer_host.calls.recv_slice.Goals as goal

pub returns-clause-read : goal.returns-clause-read
returns-clause-read c = read_all_proceeds _ _ _ c.recv_slice.result _ c.recv_slice.ensures.read

pub returns-clause-end : goal.returns-clause-end
returns-clause-end c = λ tells. end_is_true _ (length c.args.bytes.now) (sym c.recv_slice.ensures.answer ∙ tells)

pub returns-clause-end_where_taken : goal.returns-clause-end_where_taken
returns-clause-end_where_taken c = λ tells. end_is_true_where_taken _ (length c.args.bytes.now) (sym c.recv_slice.ensures.answer ∙ tells)
