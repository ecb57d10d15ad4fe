use Rattle.tcp_block.proofs.Drawing.{closed_draws}
use Rattle.tcp_block.proofs.pauses.a_closed_window_takes_nothing.Goals as goal

pub returns-clause-drawn : goal.returns-clause-drawn
returns-clause-drawn c = closed_draws
