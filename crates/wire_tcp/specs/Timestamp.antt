-- Timestamps of segments (RFC 7323, section 3.2).
use Rattle.std.specs.Prelude.{ℕ, ◌+◌, ◌/◌, ◌%◌, ◌^◌, ℤ, unsigned_abs, Option, Some, None}
use Rattle.wire_tcp.specs.declared.timestamp.TcpTimestampGenerator.{TcpTimestampGenerator}
use Rattle.wire_tcp.specs.declared.timestamp.TcpTimestampRepr.{TcpTimestampRepr}

-- the clock's value at an instant in microseconds
abbrev pub value_at : TcpTimestampGenerator → ℤ → ℕ
value_at generator now = (generator.0 + unsigned_abs now / 1000) % 2 ^ 32

-- the timestamps of the answer to a segment with these, at an instant
abbrev pub reply_to : TcpTimestampRepr → Option TcpTimestampGenerator → ℤ → Option TcpTimestampRepr
reply_to v None now = None
reply_to v (Some generator) now = Some (record { tsval = value_at generator now; tsecr = v.tsval })
