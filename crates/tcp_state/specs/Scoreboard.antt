-- What the remote holds of what was sent past SND.UNA, as its selective acknowledgements say (RFC 2018): the scoreboard of RFC 6675, 3.
-- It is a set of runs without order, each apart from the others.
use Rattle.std.specs.Prelude.{ℕ, ◌+◌, ◌-◌, ◌*◌, ◌==◌, nat_le, nat_lt, not, ◌&&◌, ◌||◌, min, max}
use Rattle.std.specs.Prelude.{Bool, if◌then◌else◌, List, map, replicate, slice_set, Option, Some, None}
use Rattle.std.specs.List.{fold, list_any, list_all, position}
use Rattle.tcp_state.specs.declared.scoreboard.Run.{Run}

abbrev pub no_run : Run
no_run = record { start = 0; end = 0 }

-- there is room for thirty-two
abbrev pub no_runs : List Run
no_runs = replicate 32 no_run

-- it has a position
abbrev pub is_run : Run → Bool
is_run r = nat_lt r.start r.end

abbrev pub lies_in : ℕ → Run → Bool
lies_in offset r = nat_le r.start offset && nat_lt offset r.end

-- the two have a position in common, or one begins where the other ends
abbrev pub meets : Run → Run → Bool
meets run r = is_run r && (nat_le r.start run.end && nat_le run.start r.end)

-- THE REMOTE NAMES A RUN

abbrev pub hull : Run → Run → Run
hull r other = record { start = min r.start other.start; end = max r.end other.end }

-- a run together with those that it meets
abbrev pub hull_of : List Run → Run → Run
hull_of runs run = fold (λ (all other : Run). if meets run other then hull all other else all) run runs

-- a run, unless it is met
abbrev pub apart : Run → Run → Run
apart run r = if meets run r then no_run else r

-- those that it doesn't meet
abbrev pub without : List Run → Run → List Run
without runs run = map (apart run) runs

-- a run where there is none; without room it isn't noted
abbrev pub placed_at : Option ℕ → List Run → Run → List Run
placed_at None runs run = runs
placed_at (Some offset) runs run = slice_set runs offset run

abbrev pub free_offset : List Run → Option ℕ
free_offset runs = position (λ (r : Run). not (is_run r)) runs

abbrev pub placed : List Run → Run → List Run
placed runs run = placed_at (free_offset runs) runs run

abbrev pub noted : List Run → Run → List Run
noted runs run = placed (without runs run) (hull_of runs run)

-- SND.UNA RISES

abbrev pub lowered : ℕ → Run → Run
lowered by r = record { start = r.start - by; end = r.end - by }

-- the position that is then SND.UNA was held, and isn't any more: the remote gave up what it held (RFC 2018, 8)
abbrev pub reneges : List Run → ℕ → Bool
reneges runs by = list_any (lies_in by) runs

-- then none is believed
abbrev pub after_ack : List Run → ℕ → List Run
after_ack runs by = if reneges runs by then no_runs else map (lowered by) runs

-- WHAT ISN'T HELD

-- it is `no_run`
abbrev pub is_none : Run → Bool
is_none r = (r.start == 0) && (r.end == 0)

-- nothing is held: there is no run
abbrev pub is_empty : List Run → Bool
is_empty runs = list_all is_none runs

-- so many numbers, as far as 32 bits tell
abbrev pub sum_of : ℕ → ℕ → ℕ
sum_of a b = min (a + b) 4_294_967_295

-- how many positions below this one are held
abbrev pub sacked_below : List Run → ℕ → ℕ
sacked_below runs offset = fold (λ (count : ℕ) (r : Run). sum_of (min r.end offset - min r.start offset) count) 0 runs

-- how many are
abbrev pub held : List Run → ℕ
held runs = sacked_below runs 4_294_967_295

-- how many from this one on are
abbrev pub sacked_from : List Run → ℕ → ℕ
sacked_from runs offset = held runs - sacked_below runs offset

-- how many aren't
abbrev pub missing : List Run → ℕ → ℕ
missing runs offset = offset - sacked_below runs offset

-- the first position from this one on that isn't held
abbrev pub first_missing : List Run → ℕ → ℕ
first_missing runs offset = fold (λ (p : ℕ) (r : Run). if lies_in p r then r.end else p) offset runs

-- how far what is held reaches: the highest position that a range names, and one more
abbrev pub runs_end : List Run → ℕ
runs_end runs = fold (λ (end : ℕ) (r : Run). max end r.end) 0 runs

-- where the first run after this position begins, at most this one
abbrev pub gap_end : List Run → ℕ → ℕ → ℕ
gap_end runs offset most = fold (λ (end : ℕ) (r : Run). if is_run r && nat_lt offset r.start then min end r.start else end) most runs

-- WHAT IS LOST (RFC 6675, 4, IsLost)

-- how many runs after this position are held, and how many positions they have
abbrev pub runs_above : List Run → ℕ → ℕ
runs_above runs offset =
    fold (λ (count : ℕ) (r : Run). if is_run r && nat_lt offset r.start then min (count + 1) 255 else count) 0 runs

abbrev pub octets_above : List Run → ℕ → ℕ
octets_above runs offset = fold (λ (count : ℕ) (r : Run). if nat_lt offset r.start then sum_of (r.end - r.start) count else count) 0 runs

-- a position that isn't held is lost where as many runs after it are held as the threshold says, or more than one less of segments
abbrev pub is_lost : List Run → ℕ → ℕ → ℕ → Bool
is_lost runs threshold mss offset =
    nat_le threshold (runs_above runs offset) || nat_lt ((threshold - 1) * mss) (octets_above runs offset)

-- the position after the last one that is lost
abbrev pub lost_end : List Run → ℕ → ℕ → ℕ
lost_end runs threshold mss =
    fold (λ (end : ℕ) (r : Run). if is_run r && is_lost runs threshold mss (r.start - 1) then max end r.start else end) 0 runs
