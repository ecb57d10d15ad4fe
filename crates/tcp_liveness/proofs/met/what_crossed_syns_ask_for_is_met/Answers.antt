use Rattle.std.proofs.Common.{refl}
use Rattle.tcp_liveness.specs.Met.{calling_both}
use Rattle.tcp_liveness.proofs.MetAcross.{may_cross, may_meet}
use Rattle.tcp_liveness.proofs.MetStarts.{start_a, start_b}
use Rattle.tcp_liveness.proofs.met.what_crossed_syns_ask_for_is_met.Goals as goal

pub returns-clause-reached : goal.returns-clause-reached
returns-clause-reached c = record {
  a = start_a;
  b = start_b;
  events = calling_both;
  steps = (refl, (refl, refl));
}

pub returns-clause-crosses : goal.returns-clause-crosses
returns-clause-crosses c = may_cross

pub returns-clause-meets : goal.returns-clause-meets
returns-clause-meets c = may_meet
