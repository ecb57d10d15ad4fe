use Rattle.tcp_invariants.proofs.StorageRules.{same_answer, same_packet, still_alike}
use Rattle.tcp_invariants.proofs.storage.the_storage_is_not_seen.Goals as goal

pub returns : goal.returns
returns c = record { answer = same_answer; packet = same_packet; alike = still_alike }
