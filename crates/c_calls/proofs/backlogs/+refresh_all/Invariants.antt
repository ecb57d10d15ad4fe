use Rattle.std.proofs.Common.{length}
use Rattle.c_calls.proofs.backlogs.+refresh_all.Given as goal

-- each turn takes the first listener off
abbrev pub decreases-refresh_all : goal.decreases-refresh_all
decreases-refresh_all l = length l.listeners.now
