use Rattle.std.proofs.Common.{◌≡◌, ◌∙◌, ◌-◌, suc, length, List, ℕ, Option, Some, ap, sym, subst, arith}
use Rattle.std.proofs.lemmas.Option.{slice_get_read, slice_get-get_or}
use Rattle.std.specs.Prelude.{slice_get, slice_set, get_or}
use Rattle.base_index.specs.Links.{AreLinkedFrom, buckets}
use Rattle.base_index.proofs.Linking.{length_set}
use Rattle.base_index.proofs.Relinked.{one_before}
use Rattle.base_index.proofs.Walks.{in_bucket}
use Rattle.base_index.proofs.chains.Chains.link_all.Goals as goal

pub loop-from-preserved : goal.loop-from-preserved
loop-from-preserved c = (moved, ap (λ (n : ℕ). n) (length_set first bucket (Some at)) ∙ c.loop-from.invariant.1, omega (arith, c.loop-from.invariant.2)) where
  at : ℕ
  at = c.loop-from.from - 1

  first : List (Option ℕ)
  first = c.loop-from.self.first.items

  links : List (Option ℕ)
  links = c.loop-from.self.links.items

  bucket : ℕ
  bucket = c.bucket_of-bucket.result

  all : List ℕ
  all = buckets (length first) c.args.keys.now

  same : c.loop-from.from ≡ suc at
  same = omega (arith, c.loop-from-test.true)

  is_in : slice_get all at ≡ Some bucket
  is_in = in_bucket (length first) (get_or c.args.keys.now at 0) at c.args.keys.now
      (slice_get-get_or c.args.keys.now at 0 (omega (arith, c.loop-from.invariant.2, c.loop-from-test.true))) ∙ ap Some (sym c.bucket_of-bucket.ensures.bucket)

  begins : slice_get first bucket ≡ Some c.index.result.now
  begins = slice_get_read first (length first) bucket c.index.result.now (cc) c.bucket_of-bucket.ensures.in_range c.index.ensures

  linked : AreLinkedFrom at all (slice_set first bucket (Some at)) (slice_set links at c.index.result.now)
  linked = one_before at all first links bucket c.index.result.now
      (subst (λ (n : ℕ). AreLinkedFrom n all first links) same c.loop-from.invariant.0) is_in begins

  moved : AreLinkedFrom at (buckets (length (slice_set first bucket (Some at))) c.args.keys.now) (slice_set first bucket (Some at))
      (slice_set links at c.index.result.now)
  moved = subst (λ (n : ℕ). AreLinkedFrom at (buckets n c.args.keys.now) (slice_set first bucket (Some at)) (slice_set links at c.index.result.now))
      (sym (length_set first bucket (Some at))) linked
