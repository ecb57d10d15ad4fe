use Rattle.std.proofs.Common.{◌≡◌, ℕ, List, length}
use Rattle.wire_dns.specs.declared.record_at.DnsRecord.{DnsRecord}
use Rattle.socket_datagram.specs.DnsClient.Records.{AreRecords, alias_in}
use Rattle.socket_datagram.proofs.DnsClient.Aliases.{AliasLeft}
use Rattle.socket_datagram.proofs.dns.records.Records.alias_of.Given as goal

abbrev pub invariant-records : goal.invariant-records
invariant-records l = (rs : List DnsRecord) (end : ℕ) → AreRecords l.self.message.now l.self.at rs end → length rs ≡ l.self.count →
    AliasLeft l.self.message.now l.at l.left end l.name (alias_in l.name rs)

abbrev pub decreases-records : goal.decreases-records
decreases-records l = l.left
