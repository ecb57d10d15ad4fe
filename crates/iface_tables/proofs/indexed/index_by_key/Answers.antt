use Rattle.std.proofs.Common.{ℕ, subst}
use Rattle.base_index.specs.Keys.{IsNextWith}
use Rattle.iface_tables.proofs.Places.{sought_first, found_here, past_here, ended_here, sought_on, in_range_here, less_to_go}
use Rattle.iface_tables.proofs.indexed.index_by_key.Goals as goal

pub loop-link-init : goal.loop-link-init
loop-link-init c =
    sought_first c.args.entries.now c.args.keys.now c.args.address.now c.first-link.result
    (subst (λ (k : ℕ). IsNextWith k 0 c.args.keys.now c.first-link.result) c.key_of.ensures c.first-link.ensures)

pub returns-then-at-entries-clause-index : goal.returns-then-at-entries-clause-index
returns-then-at-entries-clause-index c =
    past_here c.args.entries.now c.args.keys.now c.args.address.now c.requires c.in-Some.at c.loop-link.link c.in-Some.is c.loop-link.invariant c.if-at-entries.true

pub returns-then-is_same_address-clause-index : goal.returns-then-is_same_address-clause-index
returns-then-is_same_address-clause-index c =
    found_here c.args.entries.now c.args.keys.now c.args.address.now c.requires c.in-Some.at c.loop-link.link c.index-entries-at.result c.is_same_address.result
    c.in-Some.is c.loop-link.invariant c.if-at-entries.false c.index-entries-at.is c.is_same_address.ensures c.if-is_same_address.true

pub next-link-requires : goal.next-link-requires
next-link-requires c =
    in_range_here c.args.entries.now c.args.keys.now c.args.address.now c.requires c.in-Some.at c.loop-link.link c.in-Some.is c.loop-link.invariant

pub loop-link-smaller : goal.loop-link-smaller
loop-link-smaller c =
    less_to_go c.args.entries.now c.args.keys.now c.args.address.now c.requires c.in-Some.at c.loop-link.link c.index-entries-at.result c.is_same_address.result
    c.in-Some.is c.loop-link.invariant c.if-at-entries.false c.index-entries-at.is c.is_same_address.ensures c.next-link.result c.next-link.ensures

pub loop-link-preserved : goal.loop-link-preserved
loop-link-preserved c =
    sought_on c.args.entries.now c.args.keys.now c.args.address.now c.requires c.in-Some.at c.loop-link.link c.index-entries-at.result c.is_same_address.result
    c.in-Some.is c.loop-link.invariant c.if-at-entries.false c.index-entries-at.is c.is_same_address.ensures c.next-link.result c.next-link.ensures
    c.if-is_same_address.false

pub returns-clause-index : goal.returns-clause-index
returns-clause-index c =
    ended_here c.args.entries.now c.args.keys.now c.args.address.now c.requires c.loop-link.link c.in_default.is c.loop-link.invariant
