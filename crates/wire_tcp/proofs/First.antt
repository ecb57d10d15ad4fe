-- The option at the front of bytes.
use Rattle.std.specs.Prelude.{◌==◌, ℕ, if◌then◌else◌, Option, Some, None, List, [], ◌∷◌, slice_index}
use Rattle.wire_tcp.specs.Options.{EndOfList, NoOperation}
use Rattle.wire_tcp.specs.Seen.{First, first_long}

-- the option at the front; none where the bytes are no option
abbrev pub first_option : List ℕ → Option First
first_option [] = None
first_option (kind ∷ rest) =
    if kind == 0 then Some (record { option = EndOfList; rest = rest })
    else if kind == 1 then Some (record { option = NoOperation; rest = rest })
    else first_long (kind ∷ rest) (slice_index rest 0)
