use Rattle.tcp_state.proofs.RoundTripLaws.{first_whole, next_whole, timeout_whole, above, tsecr}
use Rattle.tcp_state.proofs.round_trip.timeout_laws.Goals as goal

pub returns-clause-first_whole : goal.returns-clause-first_whole
returns-clause-first_whole c = first_whole

pub returns-clause-next_whole : goal.returns-clause-next_whole
returns-clause-next_whole c = next_whole

pub returns-clause-timeout_whole : goal.returns-clause-timeout_whole
returns-clause-timeout_whole c = timeout_whole

pub returns-clause-above : goal.returns-clause-above
returns-clause-above c = above

pub returns-clause-tsecr : goal.returns-clause-tsecr
returns-clause-tsecr c = tsecr
