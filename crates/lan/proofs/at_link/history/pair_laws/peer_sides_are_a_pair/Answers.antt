use Rattle.lan.proofs.Worlds.AtLink.Paired.Begins.{begins}
use Rattle.lan.proofs.Worlds.AtLink.Paired.Runs.{peer_sides_proceed, peer_sides_proceed_by, peer_sides_have_numbers}
use Rattle.lan.proofs.at_link.history.pair_laws.peer_sides_are_a_pair.Goals as goal

pub returns-clause-begins : goal.returns-clause-begins
returns-clause-begins c = begins

pub returns-clause-proceeds : goal.returns-clause-proceeds
returns-clause-proceeds c = peer_sides_proceed

pub returns-clause-have_numbers : goal.returns-clause-have_numbers
returns-clause-have_numbers c = peer_sides_have_numbers

pub returns-clause-proceed_by : goal.returns-clause-proceed_by
returns-clause-proceed_by c = peer_sides_proceed_by
