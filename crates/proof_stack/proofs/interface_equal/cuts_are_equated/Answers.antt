use Rattle.std.proofs.lemmas.Bool.Decides.{Decides-and, Decides-eqb}
use Rattle.proof_stack.proofs.InterfaceEqual.{Decides-arp_frame, Decides-cut, Decides-header, Decides-left}
use Rattle.proof_stack.proofs.Told.{by_other}
use Rattle.proof_stack.proofs.interface_equal.cuts_are_equated.Goals as goal

pub returns-clause-arp : goal.returns-clause-arp
returns-clause-arp c = Decides-arp_frame (λ a b. c.arp_equal.ensures a.packet b.packet)

pub returns-clause-cuts : goal.returns-clause-cuts
returns-clause-cuts c =
    let hardware = c.hardware_tests.ensures in
    Decides-cut (λ a b. Decides-and _ _ (by_other _ _ (hardware.equal a.from b.from) (hardware.same a.from b.from)) (
    Decides-and _ _ (Decides-eqb a.mtu b.mtu) (c.capabilities_are_equated.ensures.checksums a.checksums b.checksums)
    ))

pub returns-clause-headers : goal.returns-clause-headers
returns-clause-headers c =
    Decides-header c.ipv4_equal.ensures.header (λ h k m n. Decides-and _ _ (c.ipv6_equal.ensures h k) (Decides-eqb m n))

pub returns-clause-left : goal.returns-clause-left
returns-clause-left c =
    let hardware = c.hardware_tests.ensures in
    Decides-left (λ a b. Decides-and _ _ (returns-clause-headers c a.header b.header) (
    Decides-and _ _ (by_other _ _ (hardware.equal a.to b.to) (hardware.same a.to b.to)) (
    Decides-and _ _ (Decides-eqb a.len b.len) (Decides-eqb a.at b.at)
    )
    ))
