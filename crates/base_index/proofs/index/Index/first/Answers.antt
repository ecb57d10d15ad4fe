use Rattle.std.proofs.Common.{length, ℕ, List, subst}
use Rattle.base_index.specs.Keys.{IsNextWith}
use Rattle.base_index.specs.Links.{BeginsAt}
use Rattle.base_index.proofs.Walks.{begin_of, starts_in, with_key_from}
use Rattle.base_index.proofs.index.Index.first.Goals as goal

pub with_key-requires-clause-begin : goal.with_key-requires-clause-begin
with_key-requires-clause-begin c =
    rw c.as_slice.ensures.value (starts_in (length c.self.inside.chains.first.items) c.args.key 0 c.self.inside.keys.items c.index.result.now
    (begin_of c.self.inside.keys.items c.self.inside.chains.first.items c.self.inside.chains.links.items c.args.key c.bucket_of-bucket.result
    c.index.result.now c.self.invariant.0 c.bucket_of-bucket.ensures.bucket c.bucket_of-bucket.ensures.in_range c.index.ensures))

pub returns : goal.returns
returns c = rw (← c.self.view_is) found where
  begins : BeginsAt c.args.key c.self.inside.keys.items c.index.result.now c.with_key.result
  begins = subst (λ (xs : List ℕ). BeginsAt c.args.key xs c.index.result.now c.with_key.result) c.as_slice.ensures.value c.with_key.ensures

  found : IsNextWith c.args.key 0 c.self.inside.keys.items c.with_key.result
  found = with_key_from c.self.inside.keys.items (length c.self.inside.chains.first.items) c.args.key 0 c.index.result.now c.with_key.result
      (begin_of c.self.inside.keys.items c.self.inside.chains.first.items c.self.inside.chains.links.items c.args.key c.bucket_of-bucket.result
      c.index.result.now c.self.invariant.0 c.bucket_of-bucket.ensures.bucket c.bucket_of-bucket.ensures.in_range c.index.ensures) begins
