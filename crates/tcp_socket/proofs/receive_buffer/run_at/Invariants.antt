use Rattle.std.proofs.Common.{◌≡◌}
use Rattle.tcp_block.specs.Answers.{run_at}
use Rattle.tcp_socket.proofs.receive_buffer.run_at.Given as goal

-- the run is one of those to come
abbrev pub invariant-loop-start : goal.invariant-loop-start
invariant-loop-start l =
    (goal.iterator-loop-start).can_next l.start-iterator ×
    (goal.iterator-loop-start).is_finite l.start-iterator ×
    (run_at l.held l.offset ≡ run_at l.start-iterator l.offset)
