use Rattle.std.proofs.Common.{◌≡◌, ◌<◌, [], length, sym, ap, ◌∙◌, arith}
use Rattle.base_buffer.specs.Ring.{ring_in, capacity}
use Rattle.base_buffer.proofs.Rings.{sees, ring_in-nothing, begun-here}
use Rattle.base_buffer.proofs.ring_buffer.RingBuffer.begin_at.Goals as goal

pub invariant_of-self : goal.invariant_of-self
invariant_of-self g c =
    let s = c.self.inside in
    let v = sees s.storage.items s.read_at s.length _ c.self.invariant c.self.view_is in
    let below : c.args.start < length s.storage.items = omega (arith, c.if-start-capacity.true, c.capacity.ensures.capacity, v.room) in
    record { start_within = omega (arith, below); start_below = λ _. below; count_within = c.self.invariant.count_within }

pub returns-then-start-capacity-clause-queue : goal.returns-then-start-capacity-clause-queue
returns-then-start-capacity-clause-queue g c =
    let s = c.self.inside in
    let v = sees s.storage.items s.read_at s.length _ c.self.invariant c.self.view_is in
    let below : c.args.start < length s.storage.items = omega (arith, c.if-start-capacity.true, c.capacity.ensures.capacity, v.room) in
    let empty : c.args.self.now.queue ≡ [] = c.is_empty.ensures.0 c.if-is_empty.true in
    let none : s.length ≡ 0 = sym v.queued ∙ ap length empty in
    let nothing = ring_in-nothing s.storage.items c.args.start (omega (arith, below)) in
    ap (λ n. (ring_in s.storage.items c.args.start n).queue) none ∙ nothing.0 ∙ sym empty

pub returns-then-start-capacity-clause-capacity : goal.returns-then-start-capacity-clause-capacity
returns-then-start-capacity-clause-capacity g c =
    let s = c.self.inside in
    let v = sees s.storage.items s.read_at s.length _ c.self.invariant c.self.view_is in
    let below : c.args.start < length s.storage.items = omega (arith, c.if-start-capacity.true, c.capacity.ensures.capacity, v.room) in
    let empty : c.args.self.now.queue ≡ [] = c.is_empty.ensures.0 c.if-is_empty.true in
    let none : s.length ≡ 0 = sym v.queued ∙ ap length empty in
    let nothing = ring_in-nothing s.storage.items c.args.start (omega (arith, below)) in
    ap (λ n. capacity (ring_in s.storage.items c.args.start n)) none ∙ nothing.1 ∙ sym v.room

pub returns-then-start-capacity-clause-start : goal.returns-then-start-capacity-clause-start
returns-then-start-capacity-clause-start g c =
    let s = c.self.inside in
    let v = sees s.storage.items s.read_at s.length _ c.self.invariant c.self.view_is in
    let below : c.args.start < length s.storage.items = omega (arith, c.if-start-capacity.true, c.capacity.ensures.capacity, v.room) in
    let empty : c.args.self.now.queue ≡ [] = c.is_empty.ensures.0 c.if-is_empty.true in
    let none : s.length ≡ 0 = sym v.queued ∙ ap length empty in
    let nothing = ring_in-nothing s.storage.items c.args.start (omega (arith, below)) in
    ap (λ n. (ring_in s.storage.items c.args.start n).start) none ∙ nothing.2
    ∙ sym (begun-here c.args.self.now c.args.start (ap length empty) (omega (arith, below, v.room)))
