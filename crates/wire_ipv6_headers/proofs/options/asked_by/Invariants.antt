use Rattle.std.proofs.Common.{◌≡◌, ◌+◌, ◌-◌, length}
use Rattle.wire_ipv6_headers.specs.Options.{scanned, asked_by}
use Rattle.wire_ipv6_headers.proofs.options.asked_by.Given as goal

abbrev pub invariant-loop-count : goal.invariant-loop-count
invariant-loop-count l = record {
  same : scanned (length l.fn.bytes - l._count) l.offset l.rest ≡ asked_by l.fn.at l.fn.bytes;
  offsets : l.offset + length l.rest ≡ l.fn.at + length l.fn.bytes;
}
