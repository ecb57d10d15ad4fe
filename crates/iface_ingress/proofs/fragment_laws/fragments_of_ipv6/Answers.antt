use Rattle.std.proofs.Common.{refl}
use Rattle.wire_ipv6_headers.specs.Headers.{walked}
use Rattle.iface_ingress.proofs.fragment_laws.fragments_of_ipv6.Goals as goal

pub returns-clause-kept : goal.returns-clause-kept
unfolding walked
returns-clause-kept c i = refl

pub returns-clause-whole : goal.returns-clause-whole
unfolding walked
returns-clause-whole c i = refl

pub returns-clause-other : goal.returns-clause-other
unfolding walked
returns-clause-other c i = refl

pub returns-clause-overlap : goal.returns-clause-overlap
unfolding walked
returns-clause-overlap c i = refl
