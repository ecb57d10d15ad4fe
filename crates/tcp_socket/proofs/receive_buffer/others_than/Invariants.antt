use Rattle.std.proofs.Common.{◌≡◌, None}
use Rattle.tcp_socket.proofs.Others.{told_after}
use Rattle.tcp_socket.proofs.receive_buffer.others_than.Given as goal

-- the runs to come lead to what all do
abbrev pub invariant-loop-start : goal.invariant-loop-start
invariant-loop-start l =
    (goal.iterator-loop-start).can_next l.start-iterator ×
    (goal.iterator-loop-start).is_finite l.start-iterator ×
    (told_after l.offset l.start-iterator l.highest l.second ≡ told_after l.offset l.held None None)
