use Rattle.std.proofs.Common.{◌≡◌, ◌≢◌, ◌+◌, ◌%◌, length, refl, ap, ◌∙◌, arith}
use Rattle.std.proofs.lemmas.Bool.{false≢true}
use Rattle.wire_address.specs.Sum.{folded}
use Rattle.wire_address.proofs.Sums.{folded-append_even, folded-append_odd}
use Rattle.wire_address.proofs.checksum.join.Goals.{then-is_multiple_of, else-is_multiple_of}
use Rattle.wire_address.proofs.checksum.join.Goals as goal

pub returns : goal.returns
returns c first second len front back = elim c.if-is_multiple_of.branch [
  | then-is_multiple_of w ↦
      let even : length first % 2 ≡ 0 = ap (λ n. n % 2) len ∙ w.if-is_multiple_of.ensures.0 refl in
      c.add.ensures ∙ ap (λ n. folded (c.args.front + n)) w.add-is ∙ folded-append_even first second c.args.front c.args.back even front back
  | else-is_multiple_of w ↦
      let uneven : c.args.front_len % 2 ≢ 0 = λ even. false≢true (w.if-is_multiple_of.ensures.1 even) in
      let odd : length first % 2 ≡ 1 = omega (arith, len, uneven) in
      c.add.ensures ∙ ap (λ n. folded (c.args.front + n)) w.add-is
      ∙ folded-append_odd first second c.args.front c.args.back w.swap_bytes.result odd front back w.swap_bytes.ensures
]
