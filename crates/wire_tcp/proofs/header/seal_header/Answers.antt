use Rattle.std.proofs.Common.{◌≡◌, ◌+◌, ◌-◌, ◌++◌, length, sym, ◌∙◌, ap, ap₂, arith}
use Rattle.wire_address.specs.Fields.{put16}
use Rattle.wire_address.specs.Pseudo.{pseudo_of, covered}
use Rattle.wire_address.specs.Sum.{word_sum, folded}
use Rattle.wire_tcp.proofs.Apart.{put16-header, folded-parts}
use Rattle.wire_tcp.proofs.header.seal_header.Goals as goal

pub returns : goal.returns
returns c = λ payload len sum.
    let header = c.args.header.now in
    let source = c.args.source.now in
    let destination = c.args.destination.now in
    let pseudo : c.pseudo_header-pseudo.result ≡ folded (word_sum (pseudo_of source destination 6 (length header + length payload))) =
    c.pseudo_header-pseudo.ensures ∙ ap (λ n. folded (word_sum (pseudo_of source destination 6 n))) (omega (arith, len)) in
    let front = c.add-front.ensures ∙ ap₂ (λ a b. folded (a + b)) pseudo c.data.ensures in
    let total : c.add-sum.result ≡ folded (covered source destination 6 (header ++ payload)) =
    c.add-sum.ensures ∙ ap₂ (λ a b. folded (a + b)) front sum ∙ folded-parts source destination 6 header payload c.requires.even in
    let put : c.write_u16.new.bytes ≡ put16 header 16 (65535 - c.add-sum.result) = c.write_u16.ensures in
    ap (λ xs. xs ++ payload) put ∙ sym (put16-header header payload 16 (65535 - c.add-sum.result) (omega arith)) ∙
    ap (λ n. put16 (header ++ payload) 16 (65535 - n)) total
