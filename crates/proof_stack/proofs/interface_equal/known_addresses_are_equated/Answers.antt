use Rattle.proof_stack.proofs.InterfaceEqual.{Decides-answer, Decides-link}
use Rattle.proof_stack.proofs.Told.{by_other}
use Rattle.proof_stack.proofs.interface_equal.known_addresses_are_equated.Goals as goal

pub returns : goal.returns
returns c =
    let hardware = c.hardware_tests.ensures in
    let address = c.address_tests.ensures in
    record {
      neighbors = Decides-answer (λ a b. by_other _ _ (hardware.equal a b) (hardware.same a b));
      links = Decides-link (λ a b. by_other _ _ (hardware.equal a b) (hardware.same a b)) (λ a b. by_other _ _ (address.equal a b) (address.same a b));
    }
