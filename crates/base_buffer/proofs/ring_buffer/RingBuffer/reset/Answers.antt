use Rattle.std.proofs.Common.{◌≡◌, [], ◌++◌, length, take, drop, sym, ap, ◌∙◌, arith}
use Rattle.base_buffer.specs.Ring.{ring}
use Rattle.base_buffer.proofs.ring_buffer.RingBuffer.reset.Goals as goal
use Rattle.base_buffer.proofs.RingSteps.{reset_more, reset_all}
use Rattle.base_buffer.proofs.Rings.{sees, ring_in-start}
use Rattle.std.specs.Prelude.{map}
use Rattle.std.proofs.Common.{get_or, set}
use Rattle.base_buffer.specs.Ring.{storage_of, ring_in}

pub loop-position-preserved : goal.loop-position-preserved
loop-position-preserved g c =
    let xs = c.self.inside.storage.items in
    let i = c.loop-position.position in
    let f = g.T.Resettable.reset_to in
    let read : c.index_mut.result.now ≡ get_or (map f (take i xs) ++ drop i xs) i c.index_mut.result.now =
    c.index_mut.ensures.value ∙ ap (λ ys. get_or ys i c.index_mut.result.now) c.loop-position.invariant.done in
    record {
      done = ap (λ ys. set ys i c.reset.new.self) c.loop-position.invariant.done
          ∙ reset_more f xs i c.index_mut.result.now c.reset.new.self (omega (arith, c.self.inside.storage.ok.0)) read c.reset.ensures;
      start = c.loop-position.invariant.start;
      count = c.loop-position.invariant.count;
    }

pub returns : goal.returns
returns g c =
    let s = c.self.inside in
    let v = sees s.storage.items s.read_at s.length _ c.self.invariant c.self.view_is in
    let n : c.loop-position.position ≡ length s.storage.items = omega (arith, s.storage.ok.0) in
    let f = g.T.Resettable.reset_to in
    let all : c.loop-position.self-inside.storage.items ≡ map f (storage_of c.args.self.now) =
    c.loop-position.invariant.done ∙ reset_all f s.storage.items c.loop-position.position n ∙ ap (λ xs. map f xs) (sym v.storage) in
    ap (λ i. ring_in c.loop-position.self-inside.storage.items i c.loop-position.self-inside.length) c.loop-position.invariant.start
    ∙ ap (λ i. ring_in c.loop-position.self-inside.storage.items 0 i) c.loop-position.invariant.count
    ∙ ring_in-start c.loop-position.self-inside.storage.items ∙ ap (λ xs. ring [] xs 0) all
