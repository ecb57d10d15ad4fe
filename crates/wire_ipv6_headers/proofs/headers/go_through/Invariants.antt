use Rattle.std.proofs.Common.{◌≡◌, ◌+◌, ◌-◌, ◌≤◌, length}
use Rattle.wire_ipv6_headers.specs.Headers.{walked, go_through}
use Rattle.wire_ipv6_headers.proofs.headers.go_through.Given as goal

abbrev pub invariant-loop-count : goal.invariant-loop-count
invariant-loop-count l = record {
  same : walked (length l.fn.payload + 1 - l._count) l.next l.named_at l.at l.rest ≡ go_through l.fn.protocol l.fn.payload;
  named : l.named_at ≤ 40 + l.at;
  offsets : l.at + length l.rest ≡ length l.fn.payload;
}
