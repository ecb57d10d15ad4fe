use Rattle.iface_tables.proofs.Apart.{fragment_local, fragment_other, fragment_apart, given_up_local, given_up_other, apart_freed, apart_expired}
use Rattle.iface_tables.proofs.laws.assemblers_are_a_map.Goals as goal

pub returns-clause-local : goal.returns-clause-local
returns-clause-local g c = λ holes same assemblers key expires fragment offset more test. fragment_local holes same test assemblers key expires fragment offset more

pub returns-clause-other : goal.returns-clause-other
returns-clause-other g c =
    λ holes same assemblers key expires fragment offset more test other ne. fragment_other holes same test assemblers key expires fragment offset more other ne

pub returns-clause-apart : goal.returns-clause-apart
returns-clause-apart g c = λ holes same assemblers key expires fragment offset more test apart. fragment_apart holes same test assemblers key expires fragment offset more apart

pub returns-clause-freed : goal.returns-clause-freed
returns-clause-freed g c = apart_freed

pub returns-clause-expired : goal.returns-clause-expired
returns-clause-expired g c = apart_expired

pub returns-clause-given_up : goal.returns-clause-given_up
returns-clause-given_up g c = λ same assemblers key test apart. given_up_local same test assemblers key apart

pub returns-clause-others_stay : goal.returns-clause-others_stay
returns-clause-others_stay g c = λ same assemblers key test other ne. given_up_other same test assemblers key other ne
