use Rattle.std.proofs.Common.{◌≡◌, ◌∙◌, ◌<◌, suc, length, List, ℕ, Option, Some, sym, subst, ap, arith}
use Rattle.std.proofs.lemmas.Option.{slice_get_read, slice_get-get_or, get_or_from_slice_get, slice_get_within}
use Rattle.std.specs.Prelude.{slice_get}
use Rattle.base_index.specs.Keys.{IsNextWith}
use Rattle.base_index.specs.Links.{bucket_of, buckets, IsIn}
use Rattle.base_index.proofs.Walks.{IsSought, sought_on, sought_here, nearer, sought_in, length_buckets, bucket_within}
use Rattle.base_index.proofs.chains.Chains.with_key.Goals as goal

module _ (c : goal.After-link-in-Some-1) where
  abbrev size : ℕ
  size = length c.args.self.now.first.items

  abbrev all : List ℕ
  all = buckets size c.args.keys.now

  abbrev bucket : ℕ
  bucket = bucket_of size c.args.key

  here : IsSought c.args.keys.now all bucket c.args.key c.args.begin (Some c.in-Some.at)
  here = subst (λ (o : Option ℕ). IsSought c.args.keys.now all bucket c.args.key c.args.begin o) c.in-Some.is c.loop-link.invariant

  is_in : IsIn all bucket c.in-Some.at
  is_in = sought_in c.args.keys.now all bucket c.args.key c.in-Some.at c.args.begin c.requires.begin here

  within : c.in-Some.at < length c.args.keys.now
  within = omega (arith, slice_get_within all c.in-Some.at bucket is_in, length_buckets size c.args.keys.now)

  leads : slice_get c.args.self.now.links.items c.in-Some.at ≡ Some c.index-link.result.now
  leads = slice_get_read c.args.self.now.links.items (length c.args.self.now.links.items) c.in-Some.at c.index-link.result.now (cc)
      (omega (arith, within, c.requires.linked.each, length_buckets size c.args.keys.now)) c.index-link.ensures

  known : bucket < length c.args.self.now.first.items
  known = bucket_within size c.args.key c.requires.some

  next : IsNextWith bucket (suc c.in-Some.at) all c.index-link.result.now
  next = c.requires.linked.proceed c.in-Some.at bucket c.index-link.result.now (omega arith) is_in known leads

  other : slice_get c.args.keys.now c.in-Some.at ≡ Some c.args.key → ⊥
  other got = c.if-keys-at.false (get_or_from_slice_get c.args.keys.now c.in-Some.at c.args.key 0 got)

pub loop-link-smaller : goal.loop-link-smaller
loop-link-smaller c =
    nearer (bucket c) c.in-Some.at (length c.args.keys.now) (all c) c.loop-link.link c.index-link.result.now (sym (length_buckets (size c) c.args.keys.now))
    (within c) c.in-Some.is (next c)

pub loop-link-preserved : goal.loop-link-preserved
loop-link-preserved c = sought_on c.args.keys.now c.args.self.now.first.items c.args.self.now.links.items c.args.key c.in-Some.at c.args.begin
    c.index-link.result.now c.requires.linked (known c) (here c) (other c) (leads c)

pub returns-then-keys-at : goal.returns-then-keys-at
returns-then-keys-at c = sought_here c.args.keys.now all bucket c.args.key c.in-Some.at c.args.begin here
    (slice_get-get_or c.args.keys.now c.in-Some.at 0 within ∙ ap Some c.if-keys-at.true) where
      all : List ℕ
      all = buckets (length c.args.self.now.first.items) c.args.keys.now

      bucket : ℕ
      bucket = bucket_of (length c.args.self.now.first.items) c.args.key

      here : IsSought c.args.keys.now all bucket c.args.key c.args.begin (Some c.in-Some.at)
      here = subst (λ (o : Option ℕ). IsSought c.args.keys.now all bucket c.args.key c.args.begin o) c.in-Some.is c.loop-link.invariant

      within : c.in-Some.at < length c.args.keys.now
      within = omega (
        arith,
        length_buckets (length c.args.self.now.first.items) c.args.keys.now,
        slice_get_within all c.in-Some.at bucket (sought_in c.args.keys.now all bucket c.args.key c.in-Some.at c.args.begin c.requires.begin here),
      )
