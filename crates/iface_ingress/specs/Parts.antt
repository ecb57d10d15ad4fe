-- A fragment as the code holds it, whose bytes lie in two parts.
use Rattle.std.specs.Prelude.{ℕ, List, [], ◌++◌, Option, None, Some}
use Rattle.iface_ingress.specs.Reassembled.{FragmentValue}
use Rattle.iface_ingress.specs.declared.reassemble.Part.{Part}

abbrev pub front_bytes : Option (List ℕ) → List ℕ
front_bytes None = []
front_bytes (Some front) = front

abbrev pub part_value : Part → FragmentValue
part_value p = record { key = p.key; offset = p.offset; more = p.more; bytes = front_bytes p.front ++ p.bytes.now }

-- one, if there is one
abbrev pub part_if : Option Part → Option FragmentValue
part_if None = None
part_if (Some p) = Some (part_value p)
