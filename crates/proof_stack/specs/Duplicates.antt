-- Fast recovery without selective acknowledgements, as long as duplicates come (RFC 5681, 3.2, step 4).
use Rattle.std.specs.Prelude.{ℕ, zero, suc}
use Rattle.tcp_state.specs.Reno.{RenoValue, inflated}

-- so many further duplicates come, one after the other
abbrev pub inflated_by : RenoValue → ℕ → RenoValue
inflated_by r zero = r
inflated_by r (suc n) = inflated_by (inflated r) n
