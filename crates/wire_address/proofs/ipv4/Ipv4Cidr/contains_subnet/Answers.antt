use Rattle.std.proofs.Common.{◌<◌, ◌/◌, ◌-◌, ◌≤◌, ◌^◌, sym, ◌∙◌, ap, arith}
use Rattle.std.proofs.lemmas.Bool.{lt-leb}
use Rattle.wire_address.specs.Address.{v4_number}
use Rattle.wire_address.proofs.Blocks.{IsWithinV4-of, IsWithinV4-only}
use Rattle.wire_address.proofs.ipv4.Ipv4Cidr.contains_subnet.Goals as goal

pub returns-then-self-subnet : goal.returns-then-self-subnet
returns-then-self-subnet c =
    let fits : v4_number c.args.subnet.now.address < 2 ^ 32 = omega (arith, c.to_bits-bits.ensures.value) in
    let number = ap (λ n. n / 2 ^ (32 - c.args.self.now.prefix_len)) c.to_bits-bits.ensures.value in (
      λ yes. IsWithinV4-of c.args.self.now c.args.subnet.now c.if-self-subnet.true (sym number ∙ c.contains_bits.ensures.meaning.0 yes),
      λ all. c.contains_bits.ensures.meaning.1 (number ∙ (IsWithinV4-only c.args.self.now c.args.subnet.now fits c.to_bits-bits.ensures.whole all).1),
    )

pub returns-else-self-subnet : goal.returns-else-self-subnet
returns-else-self-subnet c =
    let fits : v4_number c.args.subnet.now.address < 2 ^ 32 = omega (arith, c.to_bits-bits.ensures.value) in (
      λ yes. let no = rw (lt-leb c.args.self.now.prefix_len c.args.subnet.now.prefix_len c.if-self-subnet.false) at yes in absurd (cc),
      λ all. let le : c.args.self.now.prefix_len ≤ c.args.subnet.now.prefix_len =
          (IsWithinV4-only c.args.self.now c.args.subnet.now fits c.to_bits-bits.ensures.whole all).0 in absurd (omega (arith, le)),
    )
