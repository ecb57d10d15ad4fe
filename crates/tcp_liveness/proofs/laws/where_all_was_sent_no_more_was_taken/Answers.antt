use Rattle.tcp_liveness.proofs.Exchange.{all_sent, fits_buffer}
use Rattle.tcp_liveness.proofs.laws.where_all_was_sent_no_more_was_taken.Goals as goal

pub returns-clause-sent : goal.returns-clause-sent
returns-clause-sent c = all_sent

pub returns-clause-near : goal.returns-clause-near
returns-clause-near c = fits_buffer
