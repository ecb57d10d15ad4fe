use Rattle.ip_wire.proofs.FragmentLaws.{fits}
use Rattle.ip_wire.proofs.ipv6_fragment.laws.ipv6_fragment_fits.Goals as goal

pub returns : goal.returns
returns c = fits
