use Rattle.wire_ip.proofs.QuotedLaws.{IsQuoted-v4}
use Rattle.wire_ip.proofs.ipv4.laws.ipv4_quoted_reads_back.Goals as goal

pub returns : goal.returns
returns c = IsQuoted-v4
