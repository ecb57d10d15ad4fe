use Rattle.std.proofs.Common.{ℕ, subst}
use Rattle.base_index.specs.Keys.{IsNextWith}
use Rattle.iface_tables.proofs.ByPrefix.{sought_first, past_here, ended_here, found_on, in_range_here, less_to_go}
use Rattle.iface_tables.proofs.prefixes.last_by.Goals as goal

pub loop-link-init : goal.loop-link-init
loop-link-init c =
    sought_first c.args.routes.now c.args.keys.now c.args.len c.args.address.now c.args.timestamp c.first-link.result
    (subst (λ (k : ℕ). IsNextWith k 0 c.args.keys.now c.first-link.result) c.prefix_key.ensures c.first-link.ensures)

pub returns-then-at-routes : goal.returns-then-at-routes
returns-then-at-routes c =
    past_here c.args.routes.now c.args.keys.now c.args.len c.args.address.now c.args.timestamp c.requires c.in-Some.at c.loop-link.link c.loop-link.found
    c.in-Some.is c.loop-link.invariant c.if-at-routes.true

pub next-link-requires : goal.next-link-requires
next-link-requires c =
    in_range_here c.args.routes.now c.args.keys.now c.args.len c.args.address.now c.args.timestamp c.requires c.in-Some.at c.loop-link.link c.loop-link.found
    c.in-Some.is c.loop-link.invariant

pub loop-link-smaller : goal.loop-link-smaller
loop-link-smaller c =
    less_to_go c.args.routes.now c.args.keys.now c.args.len c.args.address.now c.args.timestamp c.requires c.in-Some.at c.loop-link.link c.loop-link.found
    c.in-Some.is c.loop-link.invariant c.next-link.result c.next-link.ensures

pub loop-link-preserved : goal.loop-link-preserved
loop-link-preserved c =
    found_on c.args.routes.now c.args.keys.now c.args.len c.args.address.now c.args.timestamp c.requires c.in-Some.at c.loop-link.link c.loop-link.found
    c.in-Some.is c.loop-link.invariant c.next-link.result c.next-link.ensures c.index-routes-at.result c.later-found.result c.if-at-routes.false
    c.index-routes-at.is c.later-found.ensures

pub returns : goal.returns
returns c =
    ended_here c.args.routes.now c.args.keys.now c.args.len c.args.address.now c.args.timestamp c.requires c.loop-link.link c.loop-link.found c.in_default.is
    c.loop-link.invariant
