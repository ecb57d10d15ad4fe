use Rattle.std.proofs.Common.{w64, arith, ◌≡◌, ◌%◌, ◌/◌, ◌<◌, refl, slice_index}
use Rattle.std.proofs.lemmas.Nat.Bits.{bit_at_set_same, bit_at_set_other}
use Rattle.base_index.proofs.Words.{index_read, with_word}
use Rattle.base_index.proofs.bits.insert.Goals as goal

pub returns : goal.returns
returns c =
    let bit : c.args.at % 64 < 64 = omega arith in
    let old : c.index_mut.result.now ≡ slice_index c.args.words.now.items (c.args.at / 64) = index_read _ _ _ c.requires c.index_mut.ensures.value in
    with_word _ _ _ _ c.requires (rw (bit_at_set_same w64 _ _ bit) refl) (λ i within apart. rw old (bit_at_set_other w64 _ _ bit i apart))
