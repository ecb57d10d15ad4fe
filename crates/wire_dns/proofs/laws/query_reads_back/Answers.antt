use Rattle.wire_dns.proofs.Query.{IsQuery-written}
use Rattle.wire_dns.proofs.laws.query_reads_back.Goals as goal

pub returns : goal.returns
returns c = IsQuery-written
