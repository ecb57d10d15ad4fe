-- What a ring ends as, once a `&mut` into it has ended.
use Rattle.std.specs.Prelude.{ℕ, List, [], ◌∷◌, Result}
use Rattle.std.specs.Borrow.{Fml, RattleType, MutBor, Array, Lends, LendsIfOk}
use Rattle.base_buffer.specs.Ring.{Ring, laid_from, enqueued, dequeued, overwritten, rewritten}
use Rattle.base_buffer.specs.contracts.ring_buffer.RingBuffer.{the_row}

module _ (R : RattleType) (b : MutBor (Ring R.Denot)) (r : MutBor (List R.Denot)) where
  -- the ring ends with the last elements after r laid over it from the offset on
  abbrev pub LendsFrom : Ring R.Denot → ℕ → Fml
  LendsFrom before offset = Lends (the_row R) (Array R 0) b r (laid_from before offset)

module _ (R : RattleType) (b : MutBor (Ring R.Denot)) (r : MutBor R.Denot) where
  -- the ring ends with the last element after r laid over it at the offset
  abbrev pub LendsAt : Ring R.Denot → ℕ → Fml
  LendsAt before offset = Lends (the_row R) R b r (λ w. laid_from before offset (w ∷ []))

  -- the ring ends with the last element after r as its first free one
  abbrev pub LendsNext : Fml
  LendsNext = Lends (the_row R) R b r (λ w. overwritten b.now 0 (w ∷ []))

  -- the ring ends with the last element after r as its first queued one
  abbrev pub LendsFirst : Fml
  LendsFirst = Lends (the_row R) R b r (λ w. rewritten b.now (w ∷ []))

module _ (R : RattleType) (b : MutBor (Ring R.Denot)) {E : Type 0} (r : Result (MutBor R.Denot) E) where
  -- the ring ends with the last element after r queued, or as it was
  abbrev pub LendsEnqueued : Fml
  LendsEnqueued = LendsIfOk (the_row R) R b r (λ w. enqueued b.now (w ∷ [])) b.now

  -- the ring ends with the last element after r as its last free one, or as it was
  abbrev pub LendsDequeued : Fml
  LendsDequeued = LendsIfOk (the_row R) R b r (λ w. dequeued b.now (w ∷ [])) b.now
