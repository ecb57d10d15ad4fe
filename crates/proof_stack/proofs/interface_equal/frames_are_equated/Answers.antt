use Rattle.std.specs.Cmp.{booleans_Decides}
use Rattle.std.proofs.lemmas.Bool.Decides.{Decides-and, Decides-eqb}
use Rattle.std.proofs.lemmas.Slice.Eq.{bytes_eq-Decides}
use Rattle.proof_stack.proofs.InterfaceEqual.{Decides-header}
use Rattle.proof_stack.proofs.Told.{by_other}
use Rattle.proof_stack.proofs.interface_equal.frames_are_equated.Goals as goal

pub returns : goal.returns
returns c =
    let hardware = c.hardware_tests.ensures in
    let checksums = c.capabilities_are_equated.ensures.checksums in
    let headers =
    Decides-header c.ipv4_equal.ensures.header (λ h k m n. Decides-and _ _ (c.ipv6_equal.ensures h k) (Decides-eqb m n)) in
    record {
      fragment = λ a b. Decides-and _ _ (by_other _ _ (hardware.equal a.from b.from) (hardware.same a.from b.from)) (
          Decides-and _ _ (by_other _ _ (hardware.equal a.to b.to) (hardware.same a.to b.to)) (
          Decides-and _ _ (headers a.header b.header) (
          Decides-and _ _ (Decides-eqb a.offset b.offset) (
          Decides-and _ _ (booleans_Decides a.more b.more) (
          Decides-and _ _ (bytes_eq-Decides a.bytes.now b.bytes.now) (checksums a.checksums b.checksums)
          )
          )
          )
          )
          );
    }
