use Rattle.std.proofs.Common.{◌≡◌, ◌+◌, ◌-◌, ◌++◌, length, take, drop, min, sym, ap, ◌∙◌, arith, length-drop, length-append}
use Rattle.std.proofs.lemmas.List.{length-take-le}
use Rattle.base_buffer.specs.Ring.{until_end, unbroken_queued}
use Rattle.base_buffer.proofs.RingSteps.{second_read, take_drop-min, read_twice}
use Rattle.base_buffer.proofs.ring_buffer.RingBuffer.read_allocated.Goals as goal

pub copy_from_slice-requires-2 : goal.copy_from_slice-requires-2
copy_from_slice-requires-2 g c =
    let r = c.args.self.now in
    let second = second_read r c.min-offset.result c.min-count.result c.min-first.result c.until_end.ensures.placed (omega arith) (c.min-first.ensures ∙
    ap (λ n. min c.min-count.result n) c.until_end.ensures.until_end) in
    length-take-le _ _ (rw (
      length-drop c.min-first.result (c.copy_from_slice.new.self ++ drop c.min-first.result c.args.data.now),
      length-append c.copy_from_slice.new.self (drop c.min-first.result c.args.data.now),
      length-drop c.min-first.result c.args.data.now,
    )
    (omega (arith, c.copy_from_slice.ensures.len, length-take-le c.min-first.result c.args.data.now (omega arith))))
    ∙ sym (c.get_allocated-2.ensures.len ∙ second)

pub returns-clause-read : goal.returns-clause-read
returns-clause-read g c =
    let r = c.args.self.now in
    let o = c.min-offset.result in
    let first : c.min-first.result ≡ min c.min-count.result (until_end r o) =
    c.min-first.ensures ∙ ap (λ n. min c.min-count.result n) c.until_end.ensures.until_end in
    let second = second_read r o c.min-count.result c.min-first.result c.until_end.ensures.placed (omega arith) first in
    let whole : unbroken_queued r o c.min-first.result ≡ c.min-first.result = omega arith in
    let a : c.copy_from_slice.new.self ≡ take c.min-first.result (drop o r.queue) = c.copy_from_slice.ensures.after ∙ c.get_allocated.ensures.value ∙
    ap (λ n. take n (drop o r.queue)) whole in
    let b : c.copy_from_slice-2.new.self ≡ take (c.min-count.result - c.min-first.result) (drop (o + c.min-first.result) r.queue) =
    c.copy_from_slice-2.ensures.after ∙ c.get_allocated-2.ensures.value ∙ ap (λ n. take n (drop (o + c.min-first.result) r.queue)) second in
    let n : o ≡ min c.args.offset (length r.queue) = c.min-offset.ensures ∙ ap (λ i. min c.args.offset i) c.len.ensures in
    rw (b, a) (
    read_twice r.queue c.args.data.now o c.min-count.result c.min-first.result (omega arith) (omega arith) (omega arith)
    ∙ ap (λ ys. ys ++ drop c.min-count.result c.args.data.now) (ap (λ i. take c.min-count.result (drop i r.queue)) n ∙
    take_drop-min r.queue c.args.offset c.min-count.result (omega arith))
    )
