use Rattle.tcp_block.proofs.Drawing.{again_passes, again_old, again_undrawn}
use Rattle.tcp_block.proofs.pauses.what_comes_again_is_answered_at_once.Goals as goal

pub returns-clause-passes : goal.returns-clause-passes
returns-clause-passes c cx v ip header bytes by passes again = again_passes cx v header bytes again ip by

pub returns-clause-old : goal.returns-clause-old
returns-clause-old c cx v ip header bytes again = again_old cx v header bytes again ip

pub returns-clause-undrawn : goal.returns-clause-undrawn
returns-clause-undrawn c cx v header bytes by again = again_undrawn cx v header bytes again by
