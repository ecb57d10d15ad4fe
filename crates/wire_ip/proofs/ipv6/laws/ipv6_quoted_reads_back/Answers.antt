use Rattle.wire_ip.proofs.QuotedLaws.{IsQuoted-v6}
use Rattle.wire_ip.proofs.ipv6.laws.ipv6_quoted_reads_back.Goals as goal

pub returns : goal.returns
returns c = IsQuoted-v6
