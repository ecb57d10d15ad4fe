use Rattle.sim_link.proofs.DamagedWords.{unread}
use Rattle.sim_link.proofs.frame_laws.damaged_is_unread.Goals as goal

pub returns : goal.returns
returns c = record { unread = unread }
