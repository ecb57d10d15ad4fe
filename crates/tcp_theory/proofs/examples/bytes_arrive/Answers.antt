use Rattle.std.proofs.Common.{rules}
use Rattle.tcp_theory.proofs.Came.{came}
use Rattle.tcp_theory.proofs.examples.bytes_arrive.Goals as goal

pub returns-clause-out_of_order : goal.returns-clause-out_of_order
returns-clause-out_of_order c = search (rules, came) fits 4000

pub returns-clause-keep_alive : goal.returns-clause-keep_alive
returns-clause-keep_alive c = search (rules, came) fits 4000

pub returns-clause-zero_window : goal.returns-clause-zero_window
returns-clause-zero_window c = search (rules, came) fits 4000

pub returns-clause-wrap : goal.returns-clause-wrap
returns-clause-wrap c = search (rules, came) fits 4000

pub returns-clause-close_both_ways : goal.returns-clause-close_both_ways
returns-clause-close_both_ways c = search (rules, came) fits 4000
