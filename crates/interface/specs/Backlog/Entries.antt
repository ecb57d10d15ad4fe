-- What a listener keeps of its sockets.
use Rattle.std.specs.Prelude.{ℕ, List, slice_index_or}
use Rattle.interface.specs.declared.listener.entry.Entry.{Entry}
use Rattle.interface.specs.declared.listener.stage.Stage.TheVariants as Is

abbrev pub no_entry : Entry
no_entry = record { handle = record { 0 = 0 }; stage = Is.Accepted; since = 0 }

abbrev pub entry_at : List Entry → ℕ → Entry
entry_at es i = slice_index_or es i no_entry
