-- A router solicitation with its sender's link address (RFC 4861, section 4.1): type 133, code, checksum, four reserved bytes, the option.
use Rattle.std.specs.Prelude.{ℕ, List, ◌∷◌}
use Rattle.wire_address.specs.declared.ethernet.EthernetAddress.{EthernetAddress}

abbrev pub solicitation : EthernetAddress → List ℕ
solicitation address = 133 ∷ 0 ∷ 0 ∷ 0 ∷ 0 ∷ 0 ∷ 0 ∷ 0 ∷ 1 ∷ 1 ∷ address.0
