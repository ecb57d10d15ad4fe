use Rattle.std.proofs.Common.{subst, IsTrue}
use Rattle.base_device.proofs.Equal.{equal_checksums, equal_capabilities, same_checksums, checksums_reflexive, same_capabilities, capabilities_reflexive}
use Rattle.base_device.proofs.laws.capabilities_are_equated.Goals as goal

pub returns-clause-checksums : goal.returns-clause-checksums
returns-clause-checksums c = λ a b. (same_checksums a b, λ e. subst (λ x. IsTrue (equal_checksums a x)) e (checksums_reflexive a))

pub returns-clause-capabilities : goal.returns-clause-capabilities
returns-clause-capabilities c = λ a b. (same_capabilities a b, λ e. subst (λ x. IsTrue (equal_capabilities a x)) e (capabilities_reflexive a))
