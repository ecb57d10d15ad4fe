-- What bytes a turn is, and which are refused.
use Rattle.std.specs.Prelude.{◌≡◌, ◌≢◌, ℕ, ◌+◌, ◌<◌, ◌≤◌, ℤ, pos, ◌≤ℤ◌, ⊤, List, [], length, take, drop, Option, Some, None}
use Rattle.byteorder.specs.Endian.{little_number}
use Rattle.net_base.specs.Time.{last_instant}
use Rattle.app_tun_services.specs.declared.link.turn.TurnError.{TurnError}
use Rattle.app_tun_services.specs.declared.link.turn.TurnError.TheVariants.{Length, Moment, Cut, Memory, Reader}

-- the length of the packet: the first two bytes, the lowest first
abbrev pub size_in : List ℕ → ℕ
size_in bytes = little_number 2 bytes

-- the instant in microseconds: the next eight bytes, the lowest first
abbrev pub micros_in : List ℕ → ℕ
micros_in bytes = little_number 8 (drop 2 bytes)

-- the packet: so many bytes after these ten
abbrev pub packet_in : List ℕ → List ℕ
packet_in bytes = take (size_in bytes) (drop 10 bytes)

-- an instant that may come after the last one: it isn't before it, and the stack takes it
abbrev pub MayFollow : ℤ → ℤ → Type 0
MayFollow last instant = (last ≤ℤ instant) × (instant ≤ℤ pos last_instant)

-- these bytes begin with a turn whose packet has at most so many bytes, and whose instant may come after the last one
pub record HasTurn (most : ℕ) (last : ℤ) (bytes : List ℕ) : Type 0 where
  pub whole : 10 + size_in bytes ≤ length bytes
  pub size : size_in bytes ≤ most
  pub instant : MayFollow last (pos (micros_in bytes))

-- a turn of this instant and this packet was taken off the bytes, and these are left
pub record Takes (most : ℕ) (last : ℤ) (bytes : List ℕ) (instant : ℤ) (packet left : List ℕ) : Type 0 where
  pub turn : HasTurn most last bytes
  pub at : instant ≡ pos (micros_in bytes)
  pub brings : packet ≡ packet_in bytes
  pub leaves : left ≡ drop (10 + size_in bytes) bytes

-- the next turn of the bytes, if there are any
abbrev pub Next : ℕ → ℤ → List ℕ → Option ℤ → List ℕ → Option (List ℕ) → Type 0
Next most last bytes None packet left = bytes ≡ []
Next most last bytes (Some instant) packet None = ⊥
Next most last bytes (Some instant) packet (Some left) = Takes most last bytes instant packet left

-- why the bytes begin with no turn that is taken; memory and the reader may fail at any
abbrev pub Refuses : ℕ → ℤ → List ℕ → TurnError → Type 0
Refuses most last bytes Length = (10 ≤ length bytes) × (most < size_in bytes)
Refuses most last bytes Moment = (10 ≤ length bytes) × (size_in bytes ≤ most) × (MayFollow last (pos (micros_in bytes)) → ⊥)
Refuses most last bytes Cut = (bytes ≢ []) × (length bytes < 10 + size_in bytes)
Refuses most last bytes Memory = ⊤
Refuses most last bytes Reader = ⊤

-- why no so many bytes were read
abbrev pub LacksBytes : ℕ → TurnError → List ℕ → Type 0
LacksBytes size Length bytes = ⊥
LacksBytes size Moment bytes = ⊥
LacksBytes size Cut bytes = length bytes < size
LacksBytes size Memory bytes = ⊤
LacksBytes size Reader bytes = ⊤
