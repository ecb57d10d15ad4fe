use Rattle.std.proofs.Common.{subst}
use Rattle.base_buffer.specs.Assembler.{AreRuns}
use Rattle.base_buffer.proofs.Runs.{same_runs}
use Rattle.base_buffer.proofs.assembler.Assembler.iter_data.Goals as goal

pub returns-clause-unique : goal.returns-clause-unique
returns-clause-unique g c =
    λ others runs same. same_runs 0 0 c.args.self.now others (subst AreRuns c.self.view_is c.self.invariant.runs) runs same
