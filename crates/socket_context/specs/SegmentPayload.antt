-- The text of a segment as a value.
use Rattle.std.specs.Prelude.{ℕ, List, ◌++◌}
use Rattle.socket_context.specs.declared.segment_payload.SegmentPayload.{SegmentPayload}

-- the bytes of both parts
abbrev pub payload_bytes : SegmentPayload → List ℕ
payload_bytes text = text.first.now ++ text.rest.now
