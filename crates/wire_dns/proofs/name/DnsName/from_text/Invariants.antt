use Rattle.std.proofs.Common.{◌+◌, ◌≤◌, length}
use Rattle.wire_dns.proofs.Texts.{Kept}
use Rattle.wire_dns.specs.Text.{without_last_dot}
use Rattle.wire_dns.proofs.name.DnsName.from_text.Given as goal

abbrev pub invariant-labels : goal.invariant-labels
invariant-labels l = record {
  kept : Kept (without_last_dot l.text) l.bytes.items l.rest;
  short : length (without_last_dot l.text) + 2 ≤ 255;
}

abbrev pub decreases-labels : goal.decreases-labels
decreases-labels l = length l.rest
