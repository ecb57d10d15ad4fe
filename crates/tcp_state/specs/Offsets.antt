-- Numbers of 32 bits as counts (RFC 9293, 3.4). Of all positions that a number may mean it means the one nearest to a reference,
-- the lower at distance 2 ^ 31: so it lies past the reference, or before it.
use Rattle.std.specs.Prelude.{ℕ, ◌-◌, ◌^◌, ◌==◌, nat_lt, ◌&&◌, Bool, true, if◌then◌else◌}
use Rattle.ip_wire.specs.SeqNumber.{SeqNumber}
use Rattle.ip_wire.specs.Seq.{distance_of, advanced}

-- so far past the reference, 0 where it lies before it
abbrev pub distance_after : SeqNumber → SeqNumber → ℕ
distance_after reference number = if nat_lt (distance_of reference number) (2 ^ 31) then distance_of reference number else 0

-- so far before the reference, 0 where it lies past it
abbrev pub distance_before : SeqNumber → SeqNumber → ℕ
distance_before reference number = if nat_lt (distance_of reference number) (2 ^ 31) then 0 else 2 ^ 32 - distance_of reference number

-- the number so many after this one
abbrev pub advanced_by : SeqNumber → ℕ → SeqNumber
advanced_by number count = record { 0 = advanced number count }

-- A segment of so many positions meets the window of so much space from the reference on (3.4; 3.10.7.4, first). One without
-- length does at the reference or inside the window; with a closed window no other does.
abbrev pub overlaps_window : ℕ → ℕ → ℕ → ℕ → Bool
overlaps_window before past size space =
    if size == 0 then (before == 0) && (if past == 0 then true else nat_lt past space)
    else nat_lt past space && nat_lt before size
