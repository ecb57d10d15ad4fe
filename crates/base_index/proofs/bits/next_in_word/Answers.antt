use Rattle.std.proofs.Common.{rules, arith, ◌/◌, refl, slice_index, w64, Fits}
use Rattle.base_index.proofs.Words.{first_in, none_in}
use Rattle.base_index.proofs.bits.next_in_word.Goals as goal

pub overflow_add-result : goal.overflow_add-result
overflow_add-result c =
    let word : Fits w64 (slice_index c.args.words.now (c.args.from / 64)) = search rules in
    let found = first_in c.args.words.now c.args.from _ _ (omega arith) refl (omega arith) refl in
    omega (arith, found.0)

pub returns-then-rest-eq0-clause-first : goal.returns-then-rest-eq0-clause-first
returns-then-rest-eq0-clause-first c = none_in c.args.words.now c.args.from (omega arith)

pub returns-else-rest-eq0-clause-first : goal.returns-else-rest-eq0-clause-first
returns-else-rest-eq0-clause-first c =
    let word : Fits w64 (slice_index c.args.words.now (c.args.from / 64)) = search rules in
    let found = first_in c.args.words.now c.args.from _ _ (omega arith) refl (omega arith) refl in
    found.1
