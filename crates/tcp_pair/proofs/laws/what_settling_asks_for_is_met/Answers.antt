use Rattle.std.proofs.Common.{pos, List}
use Rattle.tcp_refinement.specs.Pair.Values.{PairValue}
use Rattle.tcp_refinement.specs.declared.pair.event.PairEvent.{PairEvent}
use Rattle.tcp_refinement.specs.declared.pair.event.Side.{Side}
use Rattle.tcp_refinement.specs.declared.pair.event.Side.TheVariants.{A}
use Rattle.tcp_liveness.specs.Connection.{Course, MayConverse}
use Rattle.tcp_liveness.specs.Connection.Course.{ByCall, ByCrossing}
use Rattle.tcp_liveness.specs.Met.{both_called, called, conversing, conversing_across, late, timed_called, timed_conversing, writing}
use Rattle.tcp_liveness.specs.Reached.{IsReached}
use Rattle.tcp_liveness.proofs.Joins.{leads_to, talking_in, tries_in}
use Rattle.tcp_pair.specs.Settling.{CanSettle}
use Rattle.tcp_pair.proofs.laws.what_settling_asks_for_is_met.Goals as goal

can_settle :
    (p q : PairValue) (side : Side) (course : Course) (calls : List PairEvent) → IsReached p → MayConverse p side course calls q → CanSettle q
can_settle p q side course calls r m = record {
  reached = leads_to p q side course calls r m;
  talking = talking_in p q side course calls r m;
  tries = tries_in p q side course calls r m;
}

pub returns : goal.returns
returns c = record {
  connection = can_settle;
  numerals =
      can_settle called conversing A (ByCall (pos 0) (pos 0) (pos 0)) writing c.what_a_connection_asks_for_is_met.ensures.reached
      c.what_a_connection_asks_for_is_met.ensures.converses;
  timed =
      can_settle timed_called timed_conversing A (ByCall (pos 0) (pos 0) (pos 0)) writing
      c.what_a_connection_with_timestamps_asks_for_is_met.ensures.reached c.what_a_connection_with_timestamps_asks_for_is_met.ensures.converses;
  across =
      can_settle both_called conversing_across A (ByCrossing (pos 0) (pos 0) late late) writing c.what_crossed_syns_ask_for_is_met.ensures.reached
      c.what_a_connection_asks_for_is_met.ensures.across;
}
