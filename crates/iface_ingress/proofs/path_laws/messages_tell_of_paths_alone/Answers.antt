use Rattle.std.proofs.Common.{◌≡◌, refl}
use Rattle.iface_tables.specs.Inner.{InnerValue}
use Rattle.iface_ingress.proofs.PathTold.{path_v4_so, path_v6_so, not_local, not_sent}
use Rattle.iface_ingress.proofs.path_laws.messages_tell_of_paths_alone.Goals as goal

pub returns-clause-ipv4 : goal.returns-clause-ipv4
returns-clause-ipv4 c = λ i. path_v4_so (λ (x : InnerValue). x ≡ record i { paths = x.paths }) i refl (λ address told. refl)

pub returns-clause-ipv6 : goal.returns-clause-ipv6
returns-clause-ipv6 c = λ i. path_v6_so (λ (x : InnerValue). x ≡ record i { paths = x.paths }) i refl (λ address told. refl)

pub returns-clause-not_local : goal.returns-clause-not_local
returns-clause-not_local c = not_local

pub returns-clause-not_sent : goal.returns-clause-not_sent
returns-clause-not_sent c = not_sent
