use Rattle.std.proofs.Common.{length}
use Rattle.interface.proofs.announced.+tell.Given as goal

abbrev pub decreases-tell : goal.decreases-tell
decreases-tell g l = length l.blocks.now
