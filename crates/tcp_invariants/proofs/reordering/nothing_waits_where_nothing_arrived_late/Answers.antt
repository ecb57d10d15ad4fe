use Rattle.std.proofs.Common.{refl}
use Rattle.tcp_invariants.proofs.LateRules.{begins_at_once, none_waits, in_order, not_first, mark_went, first_late}
use Rattle.tcp_invariants.proofs.reordering.nothing_waits_where_nothing_arrived_late.Goals as goal

pub returns : goal.returns
returns c = record {
  begins = begins_at_once;
  stays = none_waits;
  in_order = in_order;
  again = not_first;
  was_sent = mark_went;
  out = λ b. refl;
  late = first_late;
}
