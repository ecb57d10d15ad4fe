use Rattle.std.proofs.Common.{w8, ap, ◌+◌, ◌∙◌}
use Rattle.std.specs.Simd.Lanes.{chunk}
use Rattle.std.proofs.lemmas.List.{take_rest}
use Rattle.std.proofs.lemmas.Simd.{chunk-fits, below_from_Fits}
use Rattle.wire_address.specs.Sum.{word_sum, folded}
use Rattle.wire_address.proofs.Vectors.{AreSummedSoFar-step, IsSummedSoFar-sum}
use Rattle.wire_address.proofs.checksum.sum_in_vectors.Goals as goal

pub loop-done-preserved : goal.loop-done-preserved
loop-done-preserved c = AreSummedSoFar-step c.args.bytes.now c.loop-done.words c.loop-done.high _ c.loop-done.done c.loop-done.invariant c.loop-done-test.true c.requires.fits
    (below_from_Fits w8 (chunk c.loop-done.done 64 c.args.bytes.now) (chunk-fits w8 c.loop-done.done 64 c.args.bytes.now c.type_inv.bytes))

pub returns : goal.returns
returns c = IsSummedSoFar-sum c.args.bytes.now _ _ _ _ _ _ _ c.loop-done.invariant.halves c.requires.fits
    (c.sum_low_first.ensures ∙ ap (λ xs. folded (word_sum xs)) (take_rest c.args.bytes.now c.loop-done.done)) (c.add_u128.ensures ∙ ap (λ n. folded (n + c.sum_low_first.result)) c.sum_of_halves-halves.ensures) c.fold.ensures c.swap_bytes.ensures
