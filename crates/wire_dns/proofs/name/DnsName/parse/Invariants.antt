use Rattle.std.proofs.Common.{◌+◌, ◌-◌, ◌*◌, ◌≤◌, length}
use Rattle.wire_dns.proofs.Names.{Keeps}
use Rattle.wire_dns.proofs.name.DnsName.parse.Given as goal

abbrev pub invariant-parts : goal.invariant-parts
invariant-parts l = record {
  keeps : Keeps l.message l.at l.limit l.offset l.bytes.items l.end;
  room : length l.bytes.items ≤ 255;
}

abbrev pub decreases-parts : goal.decreases-parts
decreases-parts l = 256 * l.limit + (255 - length l.bytes.items)
