use Rattle.base_wrappers.proofs.Grammar.{records_read}
use Rattle.base_wrappers.proofs.laws.records_read_back.Goals as goal

pub returns : goal.returns
returns c frames fit = records_read frames fit
