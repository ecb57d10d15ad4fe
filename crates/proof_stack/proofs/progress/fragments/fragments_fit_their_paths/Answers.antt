use Rattle.std.proofs.Common.{drop, refl, arith}
use Rattle.std.proofs.lemmas.List.{length-take}
use Rattle.iface_egress.specs.Fragments.{cut_mtu, fragment_room}
use Rattle.proof_stack.proofs.progress.fragments.fragments_fit_their_paths.Goals as goal

pub returns : goal.returns
returns c = record {
  goes = λ i l. refl;
  fits = λ i l least. omega (arith, least, length-take (fragment_room l.header (cut_mtu i l)) (drop l.at l.payload));
}
