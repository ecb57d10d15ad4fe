use Rattle.std.proofs.Common.{◌≡◌, ◌∙◌, ◌<◌, suc, length, ℕ, List, Some, refl, subst, add-one}
use Rattle.std.proofs.lemmas.Option.{slice_get_read, get_or_from_slice_get}
use Rattle.std.specs.Prelude.{slice_get}
use Rattle.base_index.specs.Keys.{IsNextWith}
use Rattle.base_index.specs.Links.{BeginsAt}
use Rattle.base_index.proofs.Walks.{led_from, starts_in, with_key_from}
use Rattle.base_index.proofs.index.Index.next.Goals as goal

pub with_key-requires-clause-begin : goal.with_key-requires-clause-begin
with_key-requires-clause-begin c =
    let within : c.args.at < length c.self.inside.keys.items = (rw c.self.view_is c.requires) in
    let got : slice_get c.self.inside.keys.items c.args.at ≡ Some c.index.result.now =
    slice_get_read c.self.inside.keys.items (length c.self.inside.keys.items) c.args.at c.index.result.now refl within c.index.ensures in
    rw c.as_slice.ensures.value (starts_in (length c.self.inside.chains.first.items) c.index.result.now (suc c.args.at) c.self.inside.keys.items
    c.index-2.result.now (led_from c.self.inside.keys.items c.self.inside.chains.first.items c.self.inside.chains.links.items c.index.result.now c.args.at
    c.index-2.result.now c.self.invariant.0 got (c.self.invariant.1 c.args.at within) c.index-2.ensures))

pub returns : goal.returns
returns c key got = rw (← c.self.view_is) (rw add-one found) where
  got_inside : slice_get c.self.inside.keys.items c.args.at ≡ Some key
  got_inside = rw c.self.view_is got

  same : c.index.result.now ≡ key
  same = c.index.ensures ∙ get_or_from_slice_get c.self.inside.keys.items c.args.at key c.index.result.now got_inside

  within : c.args.at < length c.self.inside.keys.items
  within = rw c.self.view_is c.requires

  begins : BeginsAt key c.self.inside.keys.items c.index-2.result.now c.with_key.result
  begins = subst (λ (k : ℕ). BeginsAt k c.self.inside.keys.items c.index-2.result.now c.with_key.result) same
      (subst (λ (xs : List ℕ). BeginsAt c.index.result.now xs c.index-2.result.now c.with_key.result) c.as_slice.ensures.value c.with_key.ensures)

  found : IsNextWith key (suc c.args.at) c.self.inside.keys.items c.with_key.result
  found = with_key_from c.self.inside.keys.items (length c.self.inside.chains.first.items) key (suc c.args.at) c.index-2.result.now c.with_key.result
      (led_from c.self.inside.keys.items c.self.inside.chains.first.items c.self.inside.chains.links.items key c.args.at c.index-2.result.now
      c.self.invariant.0 got_inside (c.self.invariant.1 c.args.at within) c.index-2.ensures) begins
