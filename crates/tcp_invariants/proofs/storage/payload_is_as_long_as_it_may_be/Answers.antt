use Rattle.tcp_invariants.proofs.StorageRules.{full}
use Rattle.tcp_invariants.proofs.storage.payload_is_as_long_as_it_may_be.Goals as goal

pub returns : goal.returns
returns c = full
