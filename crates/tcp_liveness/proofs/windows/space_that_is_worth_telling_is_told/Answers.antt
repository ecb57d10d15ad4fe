use Rattle.tcp_liveness.proofs.Updates.{asks_now, tells_space}
use Rattle.tcp_liveness.proofs.windows.space_that_is_worth_telling_is_told.Goals as goal

pub returns : goal.returns
returns c = record { asks = asks_now; tells = tells_space }
