use Rattle.std.proofs.Common.{◌≡◌, ◌+◌, ◌-◌, ◌≤◌, length}
use Rattle.wire_ipv6_headers.specs.Headers.{error_within, carries_error}
use Rattle.wire_ipv6_headers.proofs.errors.carries_error.Given as goal

abbrev pub invariant-loop-count : goal.invariant-loop-count
invariant-loop-count l = error_within (length l.fn.payload + 1 - l._count) l.next l.rest ≡ carries_error l.fn.protocol l.fn.payload
