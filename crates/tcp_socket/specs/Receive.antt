-- What came to a socket: the bytes that wait to be read, and the receive map after them.
use Rattle.std.specs.Prelude.{ℕ, ◌+◌, ◌-◌, ◌%◌, ◌^◌, ◌≤◌, nat_le, min, Bool, List, ◌++◌, length, take, Option, if◌then◌else◌, Some, None, Result, Ok, Err}
use Rattle.net_base.specs.Ring.{Ring}
use Rattle.net_base.specs.Assembler.{AreRuns, Holds}
use Rattle.tcp_ranges.specs.ReceiveMap.{store, front, following}
use Rattle.tcp_block.specs.RecvError.{RecvError}
use Rattle.tcp_block.specs.Value.{Received, room_of}
use Rattle.tcp_ranges.specs.OutOfOrder.{map_from, runs_of, EndsBy}

-- how a buffer keeps them: in a ring whose free offsets hold what came out of order, and as the runs of these offsets
abbrev pub received : Ring ℕ → List (ℕ × ℕ) → Received
received ring held = record { waiting = ring.queue; map = map_from held 0 ring.free; start = ring.start }

-- so many bytes has a buffer at most: the largest window that a shift of 14 can say (RFC 7323, 2.3)
abbrev pub most_bytes : ℕ
most_bytes = 2 ^ 30

abbrev pub FitsBuffer : Ring ℕ → Type 0
FitsBuffer ring = length ring.queue + length ring.free ≤ most_bytes

-- nothing is held at RCV.NXT, nor past the free space
pub record IsHeldBy (ring : Ring ℕ) (held : List (ℕ × ℕ)) : Type 0 where
  pub runs : AreRuns held
  pub gap : Holds held 0 → ⊥
  pub ends : EndsBy held (length ring.free)
  pub small : FitsBuffer ring

-- bytes at RCV.NXT: they wait to be read, with the held bytes that follow without a gap
abbrev pub in_order : Received → List ℕ → Received
in_order r bytes =
    record r { waiting = r.waiting ++ front (store r.map 0 bytes); map = following (store r.map 0 bytes) }

-- so many runs of bytes out of order are kept
abbrev pub most_runs : ℕ
most_runs = 32

-- bytes past RCV.NXT by so much, held where there aren't too many runs with them
abbrev pub can_hold : Received → ℕ → List ℕ → Bool
can_hold r past bytes = nat_le (length (runs_of (store r.map past bytes))) most_runs

abbrev pub early : Received → ℕ → List ℕ → Received
early r past bytes = if can_hold r past bytes then record r { map = store r.map past bytes } else r

-- how many waiting bytes from the offset on lie after one another, of at most so many
abbrev pub unbroken : Received → ℕ → ℕ → ℕ
unbroken r offset size =
    min size (min (length r.waiting - offset) (room_of r - (r.start + offset) % room_of r))

-- what a call lends for reading
abbrev pub lent : Received → List ℕ
lent r = take (unbroken r 0 (length r.waiting)) r.waiting

-- nothing is refused
abbrev pub or_done : Option RecvError → Result (Unit {0}) RecvError
or_done None = Ok tt
or_done (Some refusal) = Err refusal
