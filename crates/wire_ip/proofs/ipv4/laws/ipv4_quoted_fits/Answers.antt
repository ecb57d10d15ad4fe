use Rattle.wire_ip.proofs.QuotedLaws.{fits-v4}
use Rattle.wire_ip.proofs.ipv4.laws.ipv4_quoted_fits.Goals as goal

pub returns : goal.returns
returns c = fits-v4
