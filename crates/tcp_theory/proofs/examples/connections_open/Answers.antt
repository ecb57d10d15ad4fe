use Rattle.std.proofs.Common.{rules}
use Rattle.tcp_theory.proofs.Came.{came}
use Rattle.tcp_theory.proofs.examples.connections_open.Goals as goal

pub returns-clause-active_first : goal.returns-clause-active_first
returns-clause-active_first c = search (rules, came) fits 4000

pub returns-clause-simultaneous_open : goal.returns-clause-simultaneous_open
returns-clause-simultaneous_open c = search (rules, came) fits 4000

pub returns-clause-fallback : goal.returns-clause-fallback
returns-clause-fallback c = search (rules, came) fits 4000
