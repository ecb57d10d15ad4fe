use Rattle.std.proofs.Common.{◌≡◌, ◌+◌, ◌%◌, length, take, drop, length-drop, ap, ◌∙◌, arith}
use Rattle.base_buffer.proofs.Rings.{sees, unbroken_part, queued_part}
use Rattle.std.proofs.lemmas.List.{length-take-le}
use Rattle.base_buffer.proofs.ring_buffer.RingBuffer.get_allocated.Goals as goal

pub returns-clause-len : goal.returns-clause-len
returns-clause-len g c =
    let s = c.self.inside in
    let v = sees s.storage.items s.read_at s.length _ c.self.invariant c.self.view_is in
    let n : c.len-capacity.result ≡ length s.storage.items = omega (arith, s.storage.ok.0) in
    let is : c.position-at.result ≡ (s.read_at + c.min-offset.result) % length s.storage.items = rw n at c.position-at.ensures.position in
    let k = unbroken_part s.storage.items s.read_at s.length _ c.position-at.result c.args.offset c.min-offset.result c.args.size c.min-size.result
    c.self.invariant v c.min-offset.ensures is (omega (arith, c.position-at.ensures.within)) (omega arith) in
    length-take-le _ _ (rw (c.as_slice.ensures.value, length-drop c.position-at.result s.storage.items) (omega (arith, c.position-at.ensures.within))) ∙ omega arith

pub returns-clause-value : goal.returns-clause-value
returns-clause-value g c =
    let s = c.self.inside in
    let v = sees s.storage.items s.read_at s.length _ c.self.invariant c.self.view_is in
    let n : c.len-capacity.result ≡ length s.storage.items = omega (arith, s.storage.ok.0) in
    let is : c.position-at.result ≡ (s.read_at + c.min-offset.result) % length s.storage.items = rw n at c.position-at.ensures.position in
    let k = unbroken_part s.storage.items s.read_at s.length _ c.position-at.result c.args.offset c.min-offset.result c.args.size c.min-size.result
    c.self.invariant v c.min-offset.ensures is (omega (arith, c.position-at.ensures.within)) (omega arith) in
    rw c.as_slice.ensures.value (
    queued_part s.storage.items s.read_at s.length _ c.position-at.result c.args.offset c.min-offset.result c.args.size c.min-size.result c.self.invariant v
    c.min-offset.ensures is (omega (arith, c.position-at.ensures.within)) (omega arith)
    ∙ ap (λ i. take i (drop c.args.offset c.args.self.now.queue)) k
    )
