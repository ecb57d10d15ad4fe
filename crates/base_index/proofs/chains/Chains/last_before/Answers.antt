use Rattle.std.proofs.Common.{◌≡◌, ◌<◌, length, List, ℕ, Option, Some, sym, subst, arith}
use Rattle.std.proofs.lemmas.Option.{slice_get_read}
use Rattle.std.specs.Prelude.{slice_get}
use Rattle.base_index.specs.Links.{buckets}
use Rattle.base_index.proofs.Walks.{IsReached, proceeds, nearer, length_buckets}
use Rattle.base_index.proofs.chains.Chains.last_before.Goals as goal

module _ (c : goal.After-link-in-Some-1) where
  abbrev size : ℕ
  size = length c.args.self.now.first.items

  abbrev all : List ℕ
  all = buckets size c.args.keys.now

  here : IsReached all c.args.bucket c.args.at c.loop-link.last (Some c.in-Some.slot)
  here = subst (λ (o : Option ℕ). IsReached all c.args.bucket c.args.at c.loop-link.last o) c.in-Some.is c.loop-link.invariant

  within : c.in-Some.slot < length c.args.self.now.links.items
  within = omega (arith, c.if-slot-at.false, c.requires.at, c.requires.linked.each, length_buckets size c.args.keys.now)

  leads : slice_get c.args.self.now.links.items c.in-Some.slot ≡ Some c.index-link-in-Some.result.now
  leads = slice_get_read c.args.self.now.links.items (length c.args.self.now.links.items) c.in-Some.slot c.index-link-in-Some.result.now (cc) within
      c.index-link-in-Some.ensures

  next : IsReached all c.args.bucket c.args.at (Some c.in-Some.slot) c.index-link-in-Some.result.now
  next = proceeds all c.args.self.now.first.items c.args.self.now.links.items c.args.bucket c.args.at c.in-Some.slot c.loop-link.last
      c.index-link-in-Some.result.now c.requires.linked c.requires.bucket here c.if-slot-at.false leads

pub loop-link-smaller : goal.loop-link-smaller
loop-link-smaller c =
    nearer c.args.bucket c.in-Some.slot (length c.args.keys.now) (all c) c.loop-link.link c.index-link-in-Some.result.now
    (sym (length_buckets (size c) c.args.keys.now)) (omega (arith, c.if-slot-at.false, c.requires.at)) c.in-Some.is (next c).1

pub loop-link-preserved : goal.loop-link-preserved
loop-link-preserved c = next c
