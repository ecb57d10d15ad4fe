use Rattle.std.proofs.Common.{refl}
use Rattle.tcp_invariants.proofs.BeginRules.{begins_wide, begins_small, notes_lost}
use Rattle.tcp_invariants.proofs.congestion.a_connection_begins_with_one_segment_where_a_syn_was_lost.Goals as goal

pub returns : goal.returns
returns c = record { first = begins_wide; one = begins_small; noted = notes_lost; leaves = λ b o queued. refl }
