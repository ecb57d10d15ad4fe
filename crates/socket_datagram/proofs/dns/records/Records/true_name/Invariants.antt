use Rattle.std.proofs.Common.{◌≡◌, ℕ, List, length}
use Rattle.wire_dns.specs.declared.record_at.DnsRecord.{DnsRecord}
use Rattle.socket_datagram.specs.DnsClient.Records.{AreRecords, or_name}
use Rattle.socket_datagram.proofs.DnsClient.Aliases.{Led}
use Rattle.socket_datagram.proofs.dns.records.Records.true_name.Given as goal

abbrev pub invariant-aliases : goal.invariant-aliases
invariant-aliases l = (rs : List DnsRecord) (end : ℕ) → AreRecords l.self.message.now l.self.at rs end → length rs ≡ l.self.count →
    Led rs l.name (or_name l.last l.name) l.left

abbrev pub decreases-aliases : goal.decreases-aliases
decreases-aliases l = l.left
