-- How long an answer to a query may take, in microseconds, and when it goes.
use Rattle.std.specs.Prelude.{ℕ, ◌+◌, ◌*◌, ◌/◌, ◌%◌, ◌<◌, ◌≤◌, ◌^◌, ◌==◌, ◌↔◌, min, nat_lt, if◌then◌else◌}
use Rattle.iface_groups.specs.declared.mode.CompatibilityMode.{CompatibilityMode}
use Rattle.iface_groups.specs.declared.mode.CompatibilityMode.TheVariants as Mode

-- the tenths of a second of a code of IGMPv3 (RFC 3376, section 4.1.1): from 128 on the code is a floating-point number, of
-- four bits of mantissa and three of exponent
abbrev pub max_resp_time : ℕ → ℕ
max_resp_time code = if nat_lt code 128 then code else (16 + code % 16) * 2 ^ (code / 16 % 8 + 3)

-- the milliseconds of a code of MLDv2 (RFC 3810, section 5.1.3): from 32,768 on a number of twelve bits of mantissa and
-- three of exponent
abbrev pub max_resp_delay : ℕ → ℕ
max_resp_delay code = if nat_lt code 32768 then code else (4096 + code % 4096) * 2 ^ (code / 4096 % 8 + 3)

-- of a query of IGMP: ten seconds in version 1 (RFC 2236, section 4), tenths of a second in version 2; a minute at most
abbrev pub igmp_max_micros : CompatibilityMode → ℕ → ℕ
igmp_max_micros Mode.Igmpv1 code = min (100_000 * 100) 60_000_000
igmp_max_micros Mode.Igmpv2 code = min (100_000 * code) 60_000_000
igmp_max_micros Mode.Igmpv3 code = min (100_000 * max_resp_time code) 60_000_000

-- of a query of MLD: milliseconds in version 1 (RFC 2710, section 3.4); a minute at most
abbrev pub mld_max_micros : CompatibilityMode → ℕ → ℕ
mld_max_micros Mode.Igmpv3 code = min (1000 * max_resp_delay code) 60_000_000
mld_max_micros _ code = min (1000 * code) 60_000_000

-- when the answer to a query that came now goes, by a random word
abbrev pub answer_at : ℕ → ℕ → ℕ → ℕ
answer_at now longest word = if longest == 0 then now else now + 1 + word % longest

-- the answer goes after now, and no later than it may; now where it may take no time
pub record IsWithin (now longest at : ℕ) : Type 0 where
  pub not_before : now ≤ at
  pub later : 0 < longest → now < at
  pub in_time : at ≤ now + longest
