-- What a contract sees of a `ManagedSlice`.
use Rattle.std.specs.Prelude.{List}
use Rattle.base_buffer.specs.declared.managed.ManagedSlice.{ManagedSlice}
use Rattle.base_buffer.specs.declared.managed.ManagedSlice.TheVariants.{Fixed, Owned}

-- the elements of the storage
abbrev pub storage_items : {X : Type 0} → ManagedSlice X → List X
storage_items (Fixed v) = v.items
storage_items (Owned v) = v.items
