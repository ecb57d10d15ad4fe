use Rattle.socket_datagram.proofs.DnsClient.Stood.{Stood}
use Rattle.socket_datagram.proofs.dns.records.Records.are_whole.Given as goal

abbrev pub invariant-records : goal.invariant-records
invariant-records l = Stood l.self.message.now l.self.at l.self.count l.at l.left

abbrev pub decreases-records : goal.decreases-records
decreases-records l = l.left
