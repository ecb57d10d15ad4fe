use Rattle.std.proofs.Common.{◌≡◌, ℕ, List, length}
use Rattle.wire_dns.specs.declared.record_at.DnsRecord.{DnsRecord}
use Rattle.socket_datagram.specs.DnsClient.Records.{AreRecords, addresses_of, padded}
use Rattle.socket_datagram.proofs.DnsClient.Found.{FoundSo}
use Rattle.socket_datagram.proofs.dns.records.Records.addresses_at.Given as goal

abbrev pub invariant-records : goal.invariant-records
invariant-records l =
    (rs : List DnsRecord) (end : ℕ) → AreRecords l.self.message.now l.self.at rs end → length rs ≡ l.self.count
    → FoundSo l.self.message.now l.at l.left end l.type_ l.name l.found l.count (padded 4 (addresses_of l.type_ l.name rs))

abbrev pub decreases-records : goal.decreases-records
decreases-records l = l.left
