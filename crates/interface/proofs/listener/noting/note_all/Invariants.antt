use Rattle.interface.proofs.Backlog.Seen.{NotedTo}
use Rattle.interface.proofs.listener.noting.note_all.Given as goal

abbrev pub invariant-loop-i : goal.invariant-loop-i
invariant-loop-i l = NotedTo l.i l.endpoint l.now l.initial.slots l.initial.entries.items l.slots l.entries.items
