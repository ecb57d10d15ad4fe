use Rattle.std.proofs.Common.{rules, ◌≡◌, length, ap, sym, refl, ◌∙◌, arith}
use Rattle.wire_address.specs.Sum.{folded}
use Rattle.wire_address.specs.Protocol.{protocol_number}
use Rattle.wire_address.proofs.Sums.{word_sum-pseudo_v6}
use Rattle.wire_address.proofs.checksum.pseudo_header_v6.Goals as goal

pub returns : goal.returns
returns c =
    let s : length c.args.source.now.0 ≡ 16 = search rules in
    let d : length c.args.destination.now.0 ≡ 16 = search rules in
    let e = word_sum-pseudo_v6 c.args.source.now.0 c.args.destination.now.0 (protocol_number c.args.protocol) c.args.length s d (omega arith) in
    c.fold_u32.ensures ∙ ap folded (sym (rw (e, c.words_v6.ensures.same, c.words_v6-2.ensures.same, c.from.ensures) refl))
