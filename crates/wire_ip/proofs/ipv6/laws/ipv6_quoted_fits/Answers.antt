use Rattle.wire_ip.proofs.QuotedLaws.{fits-v6}
use Rattle.wire_ip.proofs.ipv6.laws.ipv6_quoted_fits.Goals as goal

pub returns : goal.returns
returns c = fits-v6
