use Rattle.std.proofs.Common.{rules, ◌≡◌, ◌∙◌, nat_eq, refl}
use Rattle.std.specs.Str.{bytes_eq}
use Rattle.iface_tables.proofs.FourBytes.{FourBytes, from_le_bytes-tells}
use Rattle.iface_tables.specs.Inner.{is_this}
use Rattle.iface_tables.proofs.addresses.is_this.Goals as goal

pub returns-in-Some : goal.returns-in-Some
returns-in-Some c =
    let one : FourBytes c.octets.result = search rules in
    let other : FourBytes c.octets-in-Some.result = search rules in
    let numbers : nat_eq c.from_le_bytes.result c.from_le_bytes-in-Some.result ≡ bytes_eq c.octets.result c.octets-in-Some.result =
    rw (c.from_le_bytes.ensures, c.from_le_bytes-in-Some.ensures) (from_le_bytes-tells c.octets.result c.octets-in-Some.result one other) in
    let bytes : bytes_eq c.octets.result c.octets-in-Some.result ≡ is_this c.args.other c.args.address.now =
    rw (c.octets.ensures, c.octets-in-Some.ensures, c.in-Some.is) refl in
    numbers ∙ bytes
